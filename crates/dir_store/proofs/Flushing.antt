-- What flushes of folders make firm.
use Rattle.std.proofs.Common.{◌≡◌, ◌∙◌, ℕ, ◌<◌, List, [], ◌∷◌, ◌++◌, refl, ap, sym, subst, arith, ⊎_elim, append_assoc, append-nil}
use Rattle.std.specs.Prelude.{slice_get, codes, Result, Ok, Err, OnOk}
use Rattle.folder.specs.Files.{IsFileName, IsIn, Firms, NoLooser, TellsLoose}
use Rattle.object_store.specs.declared.keys.Key.{Key}
use Rattle.object_store.specs.declared.keys.Key.TheVariants.{Snapshot, Manifest, Txn, Chunk, Branch, Tag, Tombstone, Lease}
use Rattle.object_store.specs.declared.keys.Part.{Part}
use Rattle.object_store.specs.declared.keys.Part.TheVariants.{Snapshots, Manifests, Txns, Chunks, Branches, Tags, Leases}
use Rattle.object_store.specs.Machine.{part_of}
use Rattle.object_files.specs.Paths.{IsKey, folder_name, path_in}
use Rattle.dir_store.specs.Firm.{AreFirm}
use Rattle.object_files.specs.inside.Finding.{entry_name, behind_entry}
use Rattle.dir_store.specs.inside.Flushing.{FirmsNamed, FirmsBeneath, AreFirmParts}
use Rattle.object_files.proofs.Found.{get-append, in-folder, entry-is-name}

-- ---- the folders in a folder
pub more-named : (folder : List ℕ) (names more : List (List ℕ)) (name : List ℕ) (old mid new : List ℕ → Type 0) → more ≡ names ++ name ∷ []
    → FirmsNamed folder names old mid → Firms (folder ++ codes "/" ++ name) mid new → FirmsNamed folder more old new
more-named folder names more name old mid new is firm firms = record {
  before = λ p at. firm.before p (firms p at).0;
  named = λ q last has plain at.
      ⊎_elim (λ earlier. firm.named q last (record { place = has.place; here = earlier }) plain (firms (folder ++ codes "/" ++ q ++ codes "/" ++ last) at).0)
      (λ this. (firms (folder ++ codes "/" ++ q ++ codes "/" ++ last) at).1 (record { name = last; plain = plain; is = ap (λ (n : List ℕ). folder ++ codes "/" ++ n ++ codes "/" ++ last) (sym this) }))
      (get-append names name q has.place (sym (ap (λ (ns : List (List ℕ)). slice_get ns has.place) is) ∙ has.here));
}

pub all-named : (folder : List ℕ) (names : List (List ℕ)) (old new : List ℕ → Type 0) → TellsLoose old folder names → FirmsNamed folder names old new → FirmsBeneath folder old new
all-named folder names old new tells firm = record {
  before = firm.before;
  beneath = λ name last plain end at.
      firm.named name last (tells name (codes "/" ++ last) plain refl (subst old (append_assoc (folder ++ codes "/" ++ name) (codes "/") last) (firm.before (folder ++ codes "/" ++ name ++ codes "/" ++ last) at))) end at;
}

-- ---- the folders of parts
pub of-part : (root name : List ℕ) (part : Part) (a b : List ℕ → Type 0) → name ≡ folder_name part → Firms (root ++ codes "/" ++ name) a b → Firms (root ++ codes "/" ++ folder_name part) a b
of-part root name part a b is firms = subst (λ (n : List ℕ). Firms (root ++ codes "/" ++ n) a b) is firms

module _ (root : List ℕ) (a b c d e f g : List ℕ → Type 0) (snapshots : Firms (root ++ codes "/" ++ folder_name Snapshots) a b) (manifests : Firms (root ++ codes "/" ++ folder_name Manifests) b c) (txns : Firms (root ++ codes "/" ++ folder_name Txns) c d) (chunks : Firms (root ++ codes "/" ++ folder_name Chunks) d e) (refs : Firms (root ++ codes "/" ++ folder_name Branches) e f) (leases : Firms (root ++ codes "/" ++ folder_name Leases) f g) where
  pub parts-firm : AreFirmParts g root
  parts-firm Snapshots p inside at = (snapshots p (manifests p (txns p (chunks p (refs p (leases p at).0).0).0).0).0).1 inside
  parts-firm Manifests p inside at = (manifests p (txns p (chunks p (refs p (leases p at).0).0).0).0).1 inside
  parts-firm Txns p inside at = (txns p (chunks p (refs p (leases p at).0).0).0).1 inside
  parts-firm Chunks p inside at = (chunks p (refs p (leases p at).0).0).1 inside
  parts-firm Branches p inside at = (refs p (leases p at).0).1 inside
  parts-firm Tags p inside at = (refs p (leases p at).0).1 inside
  parts-firm Leases p inside at = (leases p at).1 inside

-- ---- where objects lie
apart-from : (m n : ℕ) → m < n → n ≡ m → ⊥
apart-from m n l same = omega arith

no-dot : ◌≡◌ {A = ℕ} 46 47 → ⊥
no-dot same = apart-from 46 47 (omega arith) (sym same)

file-name : (rest : List ℕ) → IsFileName rest → IsFileName (codes "ref.json" ++ rest)
file-name rest plain =
    (apart-from 47 114 (omega arith), (apart-from 47 101 (omega arith), (apart-from 47 102 (omega arith), (no-dot, (apart-from 47 106 (omega arith), (apart-from 47 115 (omega arith), (apart-from 47 111 (omega arith), (apart-from 47 110 (omega arith), plain))))))))

gone-name : IsFileName (codes ".deleted")
gone-name =
    (no-dot, (apart-from 47 100 (omega arith), (apart-from 47 101 (omega arith), (apart-from 47 108 (omega arith), (apart-from 47 101 (omega arith), (apart-from 47 116 (omega arith), (apart-from 47 101 (omega arith), (apart-from 47 100 (omega arith), tt))))))))

file-in : (root : List ℕ) (key : Key) → behind_entry key ≡ [] → IsKey key → IsIn (root ++ codes "/" ++ folder_name (part_of key)) (path_in root key)
file-in root key alone known =
    let folder : List ℕ = root ++ codes "/" ++ folder_name (part_of key) in
    record {
      name = entry_name key;
      plain = entry-is-name key known;
      is = in-folder root (part_of key) key refl
          ∙ ap (λ (b : List ℕ). folder ++ codes "/" ++ (entry_name key ++ b)) alone
          ∙ ap (λ (e : List ℕ). folder ++ codes "/" ++ e) (append-nil (entry_name key));
    }

ref-at : (root refs last : List ℕ) (key : Key) → refs ≡ root ++ codes "/" ++ folder_name (part_of key) → behind_entry key ≡ codes "/" ++ last → path_in root key ≡ refs ++ codes "/" ++ entry_name key ++ codes "/" ++ last
ref-at root refs last key there behind =
    let folder : List ℕ = root ++ codes "/" ++ folder_name (part_of key) in
    in-folder root (part_of key) key refl
    ∙ ap (λ (b : List ℕ). folder ++ codes "/" ++ (entry_name key ++ b)) behind
    ∙ sym (append_assoc (folder ++ codes "/") (entry_name key) (codes "/" ++ last))
    ∙ sym (append_assoc (folder ++ codes "/" ++ entry_name key) (codes "/") last)
    ∙ ap (λ (r : List ℕ). r ++ codes "/" ++ entry_name key ++ codes "/" ++ last) (sym there)

-- ---- all
module _ (root refs : List ℕ) (a b c d : List ℕ → Type 0) (there : refs ≡ root ++ codes "/" ++ codes "refs") (beneath : FirmsBeneath refs a b) (later : NoLooser b c) (parts : AreFirmParts c root) (last : NoLooser c d) where
  file-firm : (key : Key) → behind_entry key ≡ [] → IsKey key → d (path_in root key) → ⊥
  file-firm key alone known at = parts (part_of key) (path_in root key) (file-in root key alone known) (last (path_in root key) at)

  ref-firm : (key : Key) (end : List ℕ) → refs ≡ root ++ codes "/" ++ folder_name (part_of key) → behind_entry key ≡ codes "/" ++ end → IsFileName end → IsKey key → d (path_in root key) → ⊥
  ref-firm key end is behind plain known at =
      beneath.beneath (entry_name key) end (entry-is-name key known) plain
      (subst b (ref-at root refs end key is behind) (later (path_in root key) (last (path_in root key) at)))

  pub all-firm : AreFirm d root
  all-firm (Snapshot id) known at = file-firm (Snapshot id) refl known at
  all-firm (Manifest id) known at = file-firm (Manifest id) refl known at
  all-firm (Txn id) known at = file-firm (Txn id) refl known at
  all-firm (Chunk id) known at = file-firm (Chunk id) refl known at
  all-firm (Branch name) known at = ref-firm (Branch name) (codes "ref.json") there refl (file-name [] tt) known at
  all-firm (Tag name) known at = ref-firm (Tag name) (codes "ref.json") there refl (file-name [] tt) known at
  all-firm (Tombstone name) known at = ref-firm (Tombstone name) (codes "ref.json.deleted") there refl (file-name (codes ".deleted") gone-name) known at
  all-firm (Lease id) known at = file-firm (Lease id) refl known at

-- what is so where a call answers
pub on-ok-map : {A E : Type 0} (done : Result A E) (P Q : Type 0) → (P → Q) → OnOk done P → OnOk done Q
on-ok-map (Ok a) P Q leads is = leads is
on-ok-map (Err e) P Q leads is = tt
