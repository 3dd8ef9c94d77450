-- What a listing finds: all that lies in the part, rightly.
use Rattle.std.proofs.Common.{◌≡◌, ◌≢◌, ◌∙◌, ℕ, zero, suc, ◌+◌, ◌<◌, List, [], ◌∷◌, ◌++◌, take, length, map, get_or, refl, ap, sym, subst, arith, inl, inr, ◌⊎◌, ⊎_elim, Bool, true, false, cond, append_assoc, append-nil, Global, Result, Ok, Err}
use Rattle.std.specs.Prelude.{Option, Some, None, option_map, slice_get, codes, string_bytes, String, MatchOption, OnOk, IfOk}
use Rattle.std.specs.List.{AllByRecursion}
use Rattle.std.specs.Map.{lookup}
use Rattle.std.specs.BTreeMap.{BTreeMap, get, is_at, IsUnchanged, Updates}
use Rattle.std.proofs.lemmas.Option.{same_Some, slice_get-map}
use Rattle.std.proofs.lemmas.List.{take_more, map-append}
use Rattle.std.proofs.lemmas.List.Elements.{recursion_from_All}
use Rattle.std.proofs.lemmas.Map.Entries.{btree_map_get_place}
use Rattle.folder.specs.Files.{StoredFile, IsFileName, IsBehind, HasName, TellsNames, HoldsNone}
use Rattle.ice_ids.specs.declared.Id12.{Id12}
use Rattle.ice_ids.specs.Text.{id12_text}
use Rattle.ice_ids.proofs.TextLaws.{id12_text-plain}
use Rattle.ice_base.specs.Names.{is_barred, IsRefName}
use Rattle.ice_base.proofs.NameLaws.{IsPlainName-IsRefName}
use Rattle.object_store.specs.declared.keys.Key.{Key}
use Rattle.object_store.specs.declared.keys.Key.TheVariants.{Snapshot, Manifest, Txn, Chunk, Branch, Tag, Tombstone, Lease}
use Rattle.object_store.specs.declared.keys.Part.{Part}
use Rattle.object_store.specs.declared.keys.Part.TheVariants.{Snapshots, Manifests, Txns, Chunks, Branches, Tags, Leases}
use Rattle.object_store.specs.declared.events.Entry.{Entry}
use Rattle.object_store.specs.Machine.{part_of, IsEntry, HasEntry}
use Rattle.object_store.specs.Names.{key_name}
use Rattle.object_store.specs.Orders.{key_cmp, key_total}
use Rattle.object_store.proofs.Slots.{same_key-true, same_key-refl}
use Rattle.object_store.proofs.Ties.{same-tie, mapped}
use Rattle.object_files.specs.declared.listing.Measures.{Measures}
use Rattle.object_files.specs.Paths.{IsKey, NamesKey, folder_name, path_in}
use Rattle.object_files.specs.Contents.{object_at, object_of, ListsAll}
use Rattle.object_files.specs.Listings.{IsListed}
use Rattle.object_files.specs.inside.Finding.{IsOfPart, entry_of, IsMeasuredBy, AllRight, Has, Lies, AddsKey, AddsName, AddsTwo, AddsEntry, AllFound, entry_name, behind_entry}
use Rattle.object_files.proofs.Apart.{names_differ}

-- ---- one object more
module _ (old new : BTreeMap Key Measures) (key : Key) (v : Measures) (updates : Updates key_cmp old new key (Some v)) where
  at-key : (q : Key) (b : Bool) → is_at (key_cmp key) q ≡ b → get key_cmp new q ≡ cond b (Some v) (get key_cmp old q)
  at-key q b is = updates.0 q ∙ ap (λ c. cond c (Some v) (get key_cmp old q)) is

  stay-one : (q : Key) → Has old q → Has new q
  stay-one q has = decide (is_at (key_cmp key) q) refl
    where
      decide : (b : Bool) → is_at (key_cmp key) q ≡ b → Has new q
      decide true is = (v, at-key q true is)
      decide false is = (has.0, at-key q false is ∙ has.1)

  has-one : Has new key
  has-one = (v, at-key key true (same-tie key key ∙ same_key-refl key))

  pub adds-one : (files : List ℕ → Option StoredFile) (root : List ℕ) (part : Part) → AddsKey files root part key old new
  adds-one files root part = record { stay = stay-one; added = λ lies. has-one }

  pub right-one : (files : List ℕ → Option StoredFile) (root : List ℕ) → AllRight files root old → IsMeasuredBy v (files (path_in root key)) → AllRight files root new
  right-one files root right here = λ q m at. decide q m at (is_at (key_cmp key) q) refl
    where
      decide : (q : Key) (m : Measures) → get key_cmp new q ≡ Some m → (b : Bool) → is_at (key_cmp key) q ≡ b → IsMeasuredBy m (files (path_in root q))
      decide q m at true is =
          let same : key ≡ q = same_key-true key q (sym (same-tie key q) ∙ is) in
          let measures : v ≡ m = same_Some v m (sym (at-key q true is) ∙ at) in
          subst (λ (k : Key). IsMeasuredBy m (files (path_in root k))) same (subst (λ (w : Measures). IsMeasuredBy w (files (path_in root key))) measures here)
      decide q m at false is = right q m (sym (at-key q false is) ∙ at)

pub right-kept : (files : List ℕ → Option StoredFile) (root : List ℕ) (old new : BTreeMap Key Measures) → AllRight files root old → IsUnchanged old new → AllRight files root new
right-kept files root old new right same = λ q m at. right q m (ap (λ es. lookup (is_at (key_cmp q)) es) (sym same) ∙ at)

pub adds-none : (files : List ℕ → Option StoredFile) (root : List ℕ) (part : Part) (key : Key) (found : BTreeMap Key Measures) → (part_of key ≡ part → files (path_in root key) ≡ None) → AddsKey files root part key found found
adds-none files root part key found none = record { stay = λ q has. has; added = λ lies. absurd (lies.there (none lies.of)) }

pub name-some : (files : List ℕ → Option StoredFile) (root : List ℕ) (part : Part) (name : List ℕ) (key : Key) (old new : BTreeMap Key Measures) → IsKey key × (name ≡ key_name key) → AddsKey files root part key old new → AddsName files root part name old new
name-some files root part name key old new is adds = record {
  stay = adds.stay;
  added = λ q lies same.
      let this : key ≡ q = names_differ key q is.0 lies.known (sym is.1 ∙ same) in
      subst (λ (k : Key). Has new k) this (adds.added (subst (λ (k : Key). Lies files root part k) (sym this) lies));
}

pub named-some : {E : Type 0} (name : List ℕ) (r : Result (Option Key) E) (found : Option Key) (key : Key) → IfOk r (NamesKey name) → r ≡ Ok found → found ≡ Some key → IsKey key × (name ≡ key_name key)
named-some name (Ok o) found key names ok some = let same : o ≡ Some key = cc in subst (λ (x : Option Key). NamesKey name x) same names
named-some name (Err e) found key names ok some = let bad : Err e ≡ Ok found = ok in cc

pub name-none : (files : List ℕ → Option StoredFile) (root : List ℕ) (part : Part) (name : List ℕ) (found : BTreeMap Key Measures) → ((key : Key) → IsKey key → name ≢ key_name key) → AddsName files root part name found found
name-none files root part name found none = record { stay = λ q has. has; added = λ q lies same. absurd (none q lies.known same) }

-- ---- names in the part's folder
abbrev IsRefs : Part → Type 0
IsRefs part = (part ≡ Branches) ⊎ (part ≡ Tags)

-- an object that isn't a ref is a file of the part's folder
entry-file : (part : Part) (key : Key) → part_of key ≡ part → (IsRefs part → ⊥) → folder_name part ++ codes "/" ++ entry_name key ≡ key_name key
entry-file Snapshots (Snapshot id) is plain = refl
entry-file Manifests (Manifest id) is plain = refl
entry-file Txns (Txn id) is plain = refl
entry-file Chunks (Chunk id) is plain = refl
entry-file Leases (Lease id) is plain = refl
entry-file part (Branch name) is plain = absurd (plain (inl (sym is)))
entry-file part (Tag name) is plain = absurd (plain (inr (sym is)))
entry-file part (Tombstone name) is plain = absurd (plain (inr (sym is)))
entry-file _ _ is plain = cc

pub entry-plain : (files : List ℕ → Option StoredFile) (root : List ℕ) (part : Part) (name path : List ℕ) (old new : BTreeMap Key Measures) → (IsRefs part → ⊥) → path ≡ folder_name part ++ codes "/" ++ name → AddsName files root part path old new → AddsEntry files root part name old new
entry-plain files root part name path old new plain is adds = record {
  stay = adds.stay;
  added = λ q lies same. adds.added q lies (is ∙ ap (λ (n : List ℕ). folder_name part ++ codes "/" ++ n) same ∙ entry-file part q lies.of plain);
}

-- a ref is a file in a folder of the part's folder
entry-ref : (part : Part) (key : Key) → part_of key ≡ part → IsRefs part → (folder_name part ++ codes "/" ++ entry_name key ++ codes "/ref.json" ≡ key_name key) ⊎ (folder_name part ++ codes "/" ++ entry_name key ++ codes "/ref.json.deleted" ≡ key_name key)
entry-ref Branches (Branch name) is refs = inl refl
entry-ref Tags (Tag name) is refs = inl refl
entry-ref Tags (Tombstone name) is refs = inr refl
entry-ref part (Snapshot id) is (inl refs) = let bad : Snapshots ≡ Branches = is ∙ refs in cc
entry-ref part (Snapshot id) is (inr refs) = let bad : Snapshots ≡ Tags = is ∙ refs in cc
entry-ref part (Manifest id) is (inl refs) = let bad : Manifests ≡ Branches = is ∙ refs in cc
entry-ref part (Manifest id) is (inr refs) = let bad : Manifests ≡ Tags = is ∙ refs in cc
entry-ref part (Txn id) is (inl refs) = let bad : Txns ≡ Branches = is ∙ refs in cc
entry-ref part (Txn id) is (inr refs) = let bad : Txns ≡ Tags = is ∙ refs in cc
entry-ref part (Chunk id) is (inl refs) = let bad : Chunks ≡ Branches = is ∙ refs in cc
entry-ref part (Chunk id) is (inr refs) = let bad : Chunks ≡ Tags = is ∙ refs in cc
entry-ref part (Lease id) is (inl refs) = let bad : Leases ≡ Branches = is ∙ refs in cc
entry-ref part (Lease id) is (inr refs) = let bad : Leases ≡ Tags = is ∙ refs in cc
entry-ref _ _ is refs = cc

pub adds-two : (files : List ℕ → Option StoredFile) (root : List ℕ) (part : Part) (folder : List ℕ) (old mid new : BTreeMap Key Measures) → AddsName files root part (folder ++ codes "/" ++ codes "ref.json") old mid → AddsName files root part (folder ++ codes "/" ++ codes "ref.json.deleted") mid new
    → AddsTwo files root part (folder ++ codes "/ref.json") (folder ++ codes "/ref.json.deleted") old new
adds-two files root part folder old mid new adds more = record {
  stay = λ q has. more.stay q (adds.stay q has);
  one = λ q lies same. more.stay q (adds.added q lies (append_assoc folder (codes "/") (codes "ref.json") ∙ same));
  two = λ q lies same. more.added q lies (append_assoc folder (codes "/") (codes "ref.json.deleted") ∙ same);
}

pub entry-refs : (files : List ℕ → Option StoredFile) (root : List ℕ) (part : Part) (name folder : List ℕ) (old new : BTreeMap Key Measures) → IsRefs part → folder ≡ folder_name part ++ codes "/" ++ name
    → AddsTwo files root part (folder ++ codes "/ref.json") (folder ++ codes "/ref.json.deleted") old new → AddsEntry files root part name old new
entry-refs files root part name folder old new refs is adds = record {
  stay = adds.stay;
  added = λ q lies same.
      let at : folder ≡ folder_name part ++ codes "/" ++ entry_name q = is ∙ ap (λ (n : List ℕ). folder_name part ++ codes "/" ++ n) same in
      ⊎_elim (λ file. adds.one q lies (ap (λ (f : List ℕ). f ++ codes "/ref.json") at ∙ file))
      (λ file. adds.two q lies (ap (λ (f : List ℕ). f ++ codes "/ref.json.deleted") at ∙ file))
      (entry-ref part q lies.of refs);
}

pub when : (found : Option Measures) (P Q : Type 0) (R : Measures → Type 0) → MatchOption found P R → (P → Q) → MatchOption found Q R
when None P Q R is leads = leads is
when (Some m) P Q R is leads = is

pub on-ok : {A E : Type 0} (r : Result A E) (P Q : Type 0) → OnOk r P → (P → Q) → OnOk r Q
on-ok (Ok a) P Q is leads = leads is
on-ok (Err e) P Q is leads = tt

-- ---- all names
pub get-nil : (k : ℕ) → slice_get {X = List ℕ} [] k ≡ None
get-nil zero = refl
get-nil (suc k) = refl

pub get-append : (xs : List (List ℕ)) (x name : List ℕ) (k : ℕ) → slice_get (xs ++ x ∷ []) k ≡ Some name → (slice_get xs k ≡ Some name) ⊎ (x ≡ name)
get-append [] x name zero at = inr (same_Some x name at)
get-append [] x name (suc k) at = let bad : None ≡ Some name = sym (get-nil k) ∙ at in cc
get-append (y ∷ xs) x name zero at = inl at
get-append (y ∷ xs) x name (suc k) at = get-append xs x name k at

pub none-found : (files : List ℕ → Option StoredFile) (root : List ℕ) (part : Part) (found : BTreeMap Key Measures) → AllFound files root part [] found
none-found files root part found = λ key lies has. let bad : None ≡ Some (entry_name key) = sym (get-nil has.place) ∙ has.here in cc

pub map-more : (names : List (String Global)) (i : ℕ) (name : String Global) → i < length names → get_or names i name ≡ name → map string_bytes (take (i + 1) names) ≡ map string_bytes (take i names) ++ string_bytes name ∷ []
map-more names i name l here =
    ap (λ (ns : List (String Global)). map string_bytes ns) (take_more names i name l ∙ ap (λ (n : String Global). take i names ++ n ∷ []) here)
    ∙ map-append string_bytes (take i names) (name ∷ [])

pub more-found : (files : List ℕ → Option StoredFile) (root : List ℕ) (part : Part) (names more : List (List ℕ)) (name : List ℕ) (old new : BTreeMap Key Measures) → more ≡ names ++ name ∷ []
    → AllFound files root part names old → AddsEntry files root part name old new → AllFound files root part more new
more-found files root part names more name old new is all adds = λ key lies has.
    ⊎_elim (λ earlier. adds.stay key (all key lies (record { place = has.place; here = earlier })))
    (λ this. adds.added key lies this)
    (get-append names name (entry_name key) has.place (sym (ap (λ (ns : List (List ℕ)). slice_get ns has.place) is) ∙ has.here))

-- ---- where an object lies
name-from : (P : ℕ → Type 0) → ((c : ℕ) → P c → c ≢ 47) → (text : List ℕ) → AllByRecursion P text → IsFileName text
name-from P plain [] all = tt
name-from P plain (c ∷ text) all = (plain c all.0, name-from P plain text all.1)

id-name : (id : Id12) → IsFileName (id12_text id)
id-name id = name-from (λ c. (47 < c) × (c < 91)) (λ c is same. absurd (omega arith)) (id12_text id) (recursion_from_All (λ c. (47 < c) × (c < 91)) (id12_text id) (id12_text-plain id))

not-barred : (c : ℕ) → is_barred c ≡ false → c ≢ 47
not-barred c free same = let bad : is_barred 47 ≡ false = ap is_barred (sym same) ∙ free in cc

ref-name : (name : List ℕ) → IsRefName name → IsFileName name
ref-name name known = name-from (λ c. is_barred c ≡ false) not-barred name (recursion_from_All (λ c. is_barred c ≡ false) name (IsPlainName-IsRefName name known).plain)

apart-from : (m n : ℕ) → m < n → n ≡ m → ⊥
apart-from m n l same = omega arith

branch-name : (name : List ℕ) → IsFileName name → IsFileName (codes "branch." ++ name)
branch-name name plain = (apart-from 47 98 (omega arith), (apart-from 47 114 (omega arith), (apart-from 47 97 (omega arith), (apart-from 47 110 (omega arith), (apart-from 47 99 (omega arith), (apart-from 47 104 (omega arith), ((λ same. apart-from 46 47 (omega arith) (sym same)), plain)))))))

tag-name : (name : List ℕ) → IsFileName name → IsFileName (codes "tag." ++ name)
tag-name name plain = (apart-from 47 116 (omega arith), (apart-from 47 97 (omega arith), (apart-from 47 103 (omega arith), ((λ same. apart-from 46 47 (omega arith) (sym same)), plain))))

pub entry-is-name : (key : Key) → IsKey key → IsFileName (entry_name key)
entry-is-name (Snapshot id) known = id-name id
entry-is-name (Manifest id) known = id-name id
entry-is-name (Txn id) known = id-name id
entry-is-name (Chunk id) known = id-name id
entry-is-name (Branch name) known = branch-name name (ref-name name known)
entry-is-name (Tag name) known = tag-name name (ref-name name known)
entry-is-name (Tombstone name) known = tag-name name (ref-name name known)
entry-is-name (Lease id) known = id-name id

behind-is : (key : Key) → IsBehind (behind_entry key)
behind-is (Snapshot id) = tt
behind-is (Manifest id) = tt
behind-is (Txn id) = tt
behind-is (Chunk id) = tt
behind-is (Branch name) = refl
behind-is (Tag name) = refl
behind-is (Tombstone name) = refl
behind-is (Lease id) = tt

behind-nil : (xs : List ℕ) → xs ≡ xs ++ []
behind-nil xs = sym (append-nil xs)

lies-at : (key : Key) → key_name key ≡ folder_name (part_of key) ++ codes "/" ++ entry_name key ++ behind_entry key
lies-at (Snapshot id) = behind-nil (codes "snapshots/" ++ id12_text id)
lies-at (Manifest id) = behind-nil (codes "manifests/" ++ id12_text id)
lies-at (Txn id) = behind-nil (codes "transactions/" ++ id12_text id)
lies-at (Chunk id) = behind-nil (codes "chunks/" ++ id12_text id)
lies-at (Branch name) = refl
lies-at (Tag name) = refl
lies-at (Tombstone name) = refl
lies-at (Lease id) = behind-nil (codes "leases/" ++ id12_text id)

-- the path of an object, by its part's folder
pub in-folder : (root : List ℕ) (part : Part) (key : Key) → part_of key ≡ part → path_in root key ≡ (root ++ codes "/" ++ folder_name part) ++ codes "/" ++ (entry_name key ++ behind_entry key)
in-folder root part key is =
    let folder : List ℕ = folder_name part in
    let entry : List ℕ = entry_name key in
    let behind : List ℕ = behind_entry key in
    ap (λ (n : List ℕ). root ++ codes "/" ++ n) (lies-at key ∙ ap (λ (p : Part). folder_name p ++ codes "/" ++ entry ++ behind) is ∙ append_assoc (folder ++ codes "/") entry behind ∙ append_assoc folder (codes "/") (entry ++ behind))
    ∙ sym (append_assoc (root ++ codes "/") folder (codes "/" ++ (entry ++ behind)))
    ∙ sym (append_assoc (root ++ codes "/" ++ folder) (codes "/") (entry ++ behind))

pub told-name : (files : List ℕ → Option StoredFile) (root : List ℕ) (part : Part) (folder : List ℕ) (names : List (List ℕ)) → folder ≡ root ++ codes "/" ++ folder_name part → TellsNames files folder names → (key : Key) → Lies files root part key → HasName names (entry_name key)
told-name files root part folder names is tells key lies =
    let path : path_in root key ≡ folder ++ codes "/" ++ entry_name key ++ behind_entry key =
    in-folder root part key lies.of ∙ ap (λ (f : List ℕ). f ++ codes "/" ++ (entry_name key ++ behind_entry key)) (sym is) ∙ sym (append_assoc (folder ++ codes "/") (entry_name key) (behind_entry key)) in
    tells (entry_name key) (behind_entry key) (entry-is-name key lies.known) (behind-is key) (λ none. lies.there (ap files path ∙ none))

pub none-lies : (files : List ℕ → Option StoredFile) (root : List ℕ) (part : Part) (folder : List ℕ) → folder ≡ root ++ codes "/" ++ folder_name part → HoldsNone files folder → (key : Key) → Lies files root part key → ⊥
none-lies files root part folder is none key lies =
    lies.there (ap files (in-folder root part key lies.of ∙ ap (λ (f : List ℕ). f ++ codes "/" ++ (entry_name key ++ behind_entry key)) (sym is)) ∙ none (entry_name key ++ behind_entry key))

-- ---- the listing
place-in : (key : Key) (m : Measures) (e : Key × Measures) (es : List (Key × Measures)) (b : Bool) → is_at (key_cmp key) e.0 ≡ b → cond b (Some e.1) (lookup (is_at (key_cmp key)) es) ≡ Some m
    → (lookup (is_at (key_cmp key)) es ≡ Some m → (k : ℕ) × (slice_get es k ≡ Some (key, m))) → (k : ℕ) × (slice_get (e ∷ es) k ≡ Some (key, m))
place-in key m e es true is at rest =
    let same : key ≡ e.0 = same_key-true key e.0 (sym (same-tie key e.0) ∙ is) in
    let measures : e.1 ≡ m = same_Some e.1 m at in
    (0, ap (λ (k : Key). Some (k, e.1)) (sym same) ∙ ap (λ (v : Measures). Some (key, v)) measures)
place-in key m e es false is at rest = let later = rest at in (suc later.0, later.1)

place-of : (key : Key) (m : Measures) (entries : List (Key × Measures)) → lookup (is_at (key_cmp key)) entries ≡ Some m → (k : ℕ) × (slice_get entries k ≡ Some (key, m))
place-of key m [] at = let bad : None ≡ Some m = at in cc
place-of key m (e ∷ es) at = place-in key m e es (is_at (key_cmp key) e.0) refl at (λ rest. place-of key m es rest)

measured-entry : (files : List ℕ → Option StoredFile) (root : List ℕ) (part : Part) (key : Key) (m : Measures) (file : Option StoredFile) → files (path_in root key) ≡ file → IsMeasuredBy m file → part_of key ≡ part → IsEntry (object_at files root) part (entry_of (key, m))
measured-entry files root part key m None is measured of = absurd measured
measured-entry files root part key m (Some file) is measured of = record {
  stored = object_of key file;
  stands = ap (λ (f : Option StoredFile). option_map (object_of key) f) is;
  part_is = of;
  size = measured.0;
  created = measured.1;
}

module _ (files : List ℕ → Option StoredFile) (root : List ℕ) (part : Part) (found : BTreeMap Key Measures) (of : IsOfPart part found) (right : AllRight files root found) where
  entry-listed : (k : ℕ) (e : Entry) → slice_get (map entry_of found.entries) k ≡ Some e → IsEntry (object_at files root) part e
  entry-listed k e at =
      let row = mapped entry_of found.entries k e at in
      let there : get key_cmp found row.0.0 ≡ Some row.0.1 = btree_map_get_place key_total found k row.0.0 row.0.1 of.ordered row.1 in
      subst (λ (x : Entry). IsEntry (object_at files root) part x) (sym row.2)
      (measured-entry files root part row.0.0 row.0.1 (files (path_in root row.0.0)) refl (right row.0.0 row.0.1 there) (of.parts row.0.0 row.0.1 there))

  entry-found : (key : Key) → Has found key → HasEntry (map entry_of found.entries) key
  entry-found key has =
      let place = place-of key has.0 found.entries has.1 in
      record {
        place = place.0;
        entry = entry_of (key, has.0);
        here = slice_get-map entry_of found.entries place.0 ∙ ap (λ (o : Option (Key × Measures)). option_map entry_of o) place.1;
        same = refl;
      }

  pub lists-all : (entries : List Entry) → entries ≡ map entry_of found.entries → IsListed part entries → ((key : Key) → Lies files root part key → Has found key) → ListsAll (object_at files root) part entries
  lists-all entries is listed all = record {
    right = λ k e at. entry-listed k e (sym (ap (λ (es : List Entry). slice_get es k) is) ∙ at);
    whole = λ key s known in-part at.
        let there : files (path_in root key) ≢ None = λ none. let bad : None ≡ Some s = sym (ap (λ (f : Option StoredFile). option_map (object_of key) f) none) ∙ at in cc in
        subst (λ (es : List Entry). HasEntry es key) (sym is) (entry-found key (all key (record { known = known; of = in-part; there = there })));
    ascending = listed.ascending;
  }

pub nothing-lies : (files : List ℕ → Option StoredFile) (root : List ℕ) (part : Part) → IsListed part [] → ((key : Key) → Lies files root part key → ⊥) → ListsAll (object_at files root) part []
nothing-lies files root part listed none = record {
  right = λ k e at. let bad : None ≡ Some e = sym (get-no-entry k) ∙ at in cc;
  whole = λ key s known in-part at. absurd (none key (record { known = known; of = in-part; there = λ missing. some-none s (sym (ap (λ (f : Option StoredFile). option_map (object_of key) f) missing) ∙ at) }));
  ascending = listed.ascending;
}
  where
    get-no-entry : (k : ℕ) → slice_get {X = Entry} [] k ≡ None
    get-no-entry zero = refl
    get-no-entry (suc k) = refl

    some-none : {A : Type 0} (s : A) → None ≡ Some s → ⊥
    some-none s bad = cc
