-- Answers of the machine, from what came of the files.
use Rattle.std.proofs.Common.{◌≡◌, ◌≢◌, ◌∙◌, ℕ, List, refl, ap, sym, subst, inl, inr, if◌then◌else◌, eq-eqb, ne_eqb}
use Rattle.std.proofs.lemmas.Option.{same_Some}
use Rattle.std.specs.Prelude.{Option, Some, None, option_map, Result, Ok, Err}
use Rattle.folder.specs.Files.{StoredFile}
use Rattle.folder.specs.declared.faults.FileFault.{FileFault}
use Rattle.folder.specs.declared.faults.FileFault.TheVariants as F
use Rattle.whole_files.specs.Whole.{its_version, aside_in, OnlyAt}
use Rattle.whole_files.specs.Changes.{MakesFile, Replaces, IsNew, IsOver}
use Rattle.whole_files.specs.declared.changing.VersionChange.{VersionChange}
use Rattle.whole_files.specs.declared.changing.VersionChange.TheVariants as C
use Rattle.object_store.specs.declared.keys.Key.{Key}
use Rattle.object_store.specs.declared.events.Version.{Version}
use Rattle.object_store.specs.declared.keys.Why.{Why}
use Rattle.object_store.specs.declared.events.Op.TheVariants.{PutNew, PutOver}
use Rattle.object_store.specs.declared.events.New.{New}
use Rattle.object_store.specs.declared.events.Over.{Over}
use Rattle.object_store.specs.declared.events.Reply.TheVariants.{New as Is_new, Over as Is_over}
use Rattle.object_store.specs.declared.events.StoreFault.{StoreFault}
use Rattle.object_store.specs.declared.events.StoreFault.TheVariants.{Failed, NoMemory}
use Rattle.object_store.specs.Machine.{Stored, fresh_slot, put_at, new_of, over_of}
use Rattle.object_files.specs.Versions.{putting_of, version_for}
use Rattle.dir_store.specs.Contents.{object_of, IsDone, Did, Answers}
use Rattle.object_files.specs.Paths.{path_in, aside_folder_in}
use Rattle.dir_store.specs.Store.{time_of_new, time_of_over}
use Rattle.dir_store.specs.inside.Telling.{as_told, Through, told_new, told_over}

abbrev pub object : Key → Option StoredFile → Option Stored
object key file = option_map (object_of key) file

as-object : (key : Key) (f : StoredFile) (bytes : List ℕ) → f.bytes ≡ bytes → object key (Some f) ≡ Some (record { bytes = bytes; version = version_for key bytes; created = f.changed })
as-object key f bytes same = ap (λ (b : List ℕ). Some (record { bytes = b; version = version_for key b; created = f.changed })) same

-- ---- a put of a new key
pub new-honest : (key : Key) (now : ℕ) (bytes : List ℕ) (old new : Option StoredFile) (found : Option ℕ) → MakesFile (putting_of key) bytes old new (Ok found) → told_new found (version_for key bytes) now ≡ new_of (version_for key bytes) now (object key old)
new-honest key now bytes None new None makes = refl
new-honest key now bytes (Some f) new None makes = let bad : Some f ≡ None = makes.0 in cc
new-honest key now bytes None new (Some w) makes = let bad : None ≡ Some w = makes.0 in cc
new-honest key now bytes (Some f) new (Some w) makes =
    let same : w ≡ version_for key f.bytes = same_Some w (version_for key f.bytes) (sym makes.0) in ap (λ (v : ℕ). told_new (Some v) (version_for key bytes) now) same

pub new-done : (key : Key) (bytes : List ℕ) (why : Why) (old new : Option StoredFile) → IsNew bytes old new → IsDone (PutNew key bytes why) (object key old) (object key new)
new-done key bytes why (Some f) new is = let bad : Some f ≡ None = is.0 in cc
new-done key bytes why None None is = absurd is.1
new-done key bytes why None (Some f) is = (f.changed, as-object key f bytes is.1)

stays-done : (key : Key) (bytes : List ℕ) (why : Why) (old new : Option StoredFile) (w : ℕ) → its_version (putting_of key) old ≡ Some w → new ≡ old → IsDone (PutNew key bytes why) (object key old) (object key new)
stays-done key bytes why None new w some same = let bad : None ≡ Some w = some in cc
stays-done key bytes why (Some f) new w some same = (0, ap (object key) same)

pub new-did : (key : Key) (bytes : List ℕ) (why : Why) (old new : Option StoredFile) (found : Option ℕ) → MakesFile (putting_of key) bytes old new (Ok found) → IsDone (PutNew key bytes why) (object key old) (object key new)
new-did key bytes why old new None makes = new-done key bytes why old new makes
new-did key bytes why old new (Some w) makes = stays-done key bytes why old new w makes.0 makes.1

pub new-failed : (A : Type 0) (key : Key) (bytes : List ℕ) (why : Why) (old new : Option StoredFile) (fault : FileFault) (told : StoreFault) → MakesFile (putting_of key) bytes old new (Err fault) → ◌≡◌ {A = Result (Option ℕ) StoreFault} (Err told) (as_told {A = Option ℕ} (Err fault)) → Did {A = A} (PutNew key bytes why) (object key old) (object key new) (Err told)
new-failed A key bytes why old new (F.Failed t) Failed (inl same) is = inl (ap (object key) same)
new-failed A key bytes why old new (F.Failed t) Failed (inr done) is = inr (new-done key bytes why old new done)
new-failed A key bytes why old new (F.Failed t) NoMemory makes is = cc
new-failed A key bytes why old new F.NoMemory NoMemory same is = ap (object key) same
new-failed A key bytes why old new F.NoMemory Failed same is = cc

-- ---- a put over a version
pub over-honest : (key : Key) (now : ℕ) (bytes : List ℕ) (version : ℕ) (old new : Option StoredFile) (change : VersionChange) → Replaces (putting_of key) bytes version old new (Ok change) → told_over change (version_for key bytes) now ≡ over_of (version_for key bytes) now version (object key old)
over-honest key now bytes version None new C.Made is = let bad : None ≡ Some version = is.0 in cc
over-honest key now bytes version (Some f) new C.Made is =
    let same : version_for key f.bytes ≡ version = same_Some (version_for key f.bytes) version is.0 in
    sym (ap (λ b. if b then told_over C.Made (version_for key bytes) now else told_over (C.Other (Some (version_for key f.bytes))) (version_for key bytes) now) (eq-eqb (version_for key f.bytes) version same))
over-honest key now bytes version None new (C.Other found) is = ap (λ (o : Option ℕ). told_over (C.Other o) (version_for key bytes) now) is.0
over-honest key now bytes version (Some f) new (C.Other found) is =
    let other : version_for key f.bytes ≢ version = λ same. is.1 (is.0 ∙ ap (λ (v : ℕ). Some v) same) in
    ap (λ (o : Option ℕ). told_over (C.Other o) (version_for key bytes) now) is.0
    ∙ sym (ap (λ b. if b then told_over C.Made (version_for key bytes) now else told_over (C.Other (Some (version_for key f.bytes))) (version_for key bytes) now) (ne_eqb (version_for key f.bytes) version other))

pub over-done : (key : Key) (bytes : List ℕ) (version : Version) (why : Why) (old new : Option StoredFile) → IsOver (putting_of key) bytes version.0 old new → IsDone (PutOver key bytes version why) (object key old) (object key new)
over-done key bytes version why None new is = let bad : None ≡ Some version.0 = is.0 in cc
over-done key bytes version why (Some f) None is = absurd is.1
over-done key bytes version why (Some f) (Some g) is =
    let same : version_for key f.bytes ≡ version.0 = same_Some (version_for key f.bytes) version.0 is.0 in (
      g.changed,
      as-object key g bytes is.1
          ∙ sym (ap (λ b. (if b then put_at (version_for key bytes) g.changed bytes (record fresh_slot { stands = object key (Some f) }) else record fresh_slot { stands = object key (Some f) }).stands) (eq-eqb (version_for key f.bytes) version.0 same)),
    )

over-stays : (key : Key) (bytes : List ℕ) (version : Version) (why : Why) (old new : Option StoredFile) → its_version (putting_of key) old ≢ Some version.0 → new ≡ old → IsDone (PutOver key bytes version why) (object key old) (object key new)
over-stays key bytes version why None new other same = (0, ap (object key) same)
over-stays key bytes version why (Some f) new other same =
    let apart : version_for key f.bytes ≢ version.0 = λ e. other (ap (λ (v : ℕ). Some v) e) in (
      0,
      ap (object key) same
          ∙ sym (ap (λ b. (if b then put_at (version_for key bytes) 0 bytes (record fresh_slot { stands = object key (Some f) }) else record fresh_slot { stands = object key (Some f) }).stands) (ne_eqb (version_for key f.bytes) version.0 apart)),
    )

pub over-did : (key : Key) (bytes : List ℕ) (version : Version) (why : Why) (old new : Option StoredFile) (change : VersionChange) → Replaces (putting_of key) bytes version.0 old new (Ok change) → IsDone (PutOver key bytes version why) (object key old) (object key new)
over-did key bytes version why old new C.Made is = over-done key bytes version why old new is
over-did key bytes version why old new (C.Other found) is = over-stays key bytes version why old new (λ same. is.1 (is.0 ∙ same)) is.2

pub over-failed : (A : Type 0) (key : Key) (bytes : List ℕ) (version : Version) (why : Why) (old new : Option StoredFile) (fault : FileFault) (told : StoreFault) → Replaces (putting_of key) bytes version.0 old new (Err fault) → ◌≡◌ {A = Result (VersionChange) StoreFault} (Err told) (as_told {A = VersionChange} (Err fault)) → Did {A = A} (PutOver key bytes version why) (object key old) (object key new) (Err told)
over-failed A key bytes version why old new (F.Failed t) Failed (inl same) is = inl (ap (object key) same)
over-failed A key bytes version why old new (F.Failed t) Failed (inr done) is = inr (over-done key bytes version why old new done)
over-failed A key bytes version why old new (F.Failed t) NoMemory makes is = cc
over-failed A key bytes version why old new F.NoMemory NoMemory same is = ap (object key) same
over-failed A key bytes version why old new F.NoMemory Failed same is = cc

-- ---- what was told
through-ok : {A : Type 0} (P : Result A FileFault → Type 0) (told : Result A StoreFault) (a : A) → (came : Result A FileFault) → P came → told ≡ as_told came → told ≡ Ok a → P (Ok a)
through-ok P told a (Ok b) so is ok = let same : b ≡ a = cc in subst (λ x. P (Ok x)) same so
through-ok P told a (Err (F.Failed trouble)) so is ok = let bad : Err Failed ≡ Ok a = sym is ∙ ok in cc
through-ok P told a (Err F.NoMemory) so is ok = let bad : Err NoMemory ≡ Ok a = sym is ∙ ok in cc

through-err : {A : Type 0} (P : Result A FileFault → Type 0) (told : Result A StoreFault) (e : StoreFault) → (came : Result A FileFault) → P came → told ≡ as_told came → told ≡ Err e → (fault : FileFault) × P (Err fault) × (◌≡◌ {A = Result A StoreFault} (Err e) (as_told {A = A} (Err fault)))
through-err P told e (Ok b) so is err = let bad : Ok b ≡ Err e = sym is ∙ err in cc
through-err P told e (Err fault) so is err = (fault, so, sym err ∙ is)

only-at : (root asides path : List ℕ) (key : Key) (old new : List ℕ → Option StoredFile) → asides ≡ aside_folder_in root → path ≡ path_in root key → OnlyAt asides path old new → OnlyAt (aside_folder_in root) (path_in root key) old new
only-at root asides path key old new there is only = record {
  others = λ p other out. only.others p (λ same. other (same ∙ is)) (λ number same. out number (same ∙ ap (λ (folder : List ℕ). aside_in folder number) there));
}

new-time : (found : Option ℕ) (version now : ℕ) → time_of_new (told_new found version now) ≡ now
new-time None version now = refl
new-time (Some w) version now = refl

over-time : (change : VersionChange) (version now : ℕ) → time_of_over (told_over change version now) ≡ now
over-time C.Made version now = refl
over-time (C.Other found) version now = refl

module _ (root asides path : List ℕ) (key : Key) (bytes : List ℕ) (why : Why) (old new : List ℕ → Option StoredFile) (there : asides ≡ aside_folder_in root) (is : path ≡ path_in root key) (only : OnlyAt asides path old new) where
  pub answers-new : (told : Result (Option ℕ) StoreFault) (found : Option ℕ) (now : ℕ) (result : New) → Through (MakesFile (putting_of key) bytes (old path) (new path)) told → told ≡ Ok found → result ≡ told_new found (version_for key bytes) now
      → Answers (λ n. Is_new n) time_of_new root key (PutNew key bytes why) (Ok result) old new
  answers-new told found now result through ok answer =
      let makes : MakesFile (putting_of key) bytes (old path) (new path) (Ok found) = through-ok (λ r. MakesFile (putting_of key) bytes (old path) (new path) r) told found through.came through.so through.is ok in
      let here : MakesFile (putting_of key) bytes (old (path_in root key)) (new (path_in root key)) (Ok found) = subst (λ (p : List ℕ). MakesFile (putting_of key) bytes (old p) (new p) (Ok found)) is makes in
      subst (λ (n : New). Answers (λ n. Is_new n) time_of_new root key (PutNew key bytes why) (Ok n) old new) (sym answer) (record {
        honest = ap Is_new (new-honest key now bytes (old (path_in root key)) (new (path_in root key)) found here
            ∙ ap (λ (t : ℕ). new_of (version_for key bytes) t (object key (old (path_in root key)))) (sym (new-time found (version_for key bytes) now)));
        did = new-did key bytes why (old (path_in root key)) (new (path_in root key)) found here;
        others = only-at root asides path key old new there is only;
      })

  pub answers-new-not : (told : Result (Option ℕ) StoreFault) (fault : StoreFault) (result : Result New StoreFault) → Through (MakesFile (putting_of key) bytes (old path) (new path)) told → told ≡ Err fault → result ≡ Err fault
      → Answers (λ n. Is_new n) time_of_new root key (PutNew key bytes why) result old new
  answers-new-not told fault result through err answer =
      let made = through-err (λ r. MakesFile (putting_of key) bytes (old path) (new path) r) told fault through.came through.so through.is err in
      let here : MakesFile (putting_of key) bytes (old (path_in root key)) (new (path_in root key)) (Err made.0) = subst (λ (p : List ℕ). MakesFile (putting_of key) bytes (old p) (new p) (Err made.0)) is made.1 in
      subst (λ (r : Result New StoreFault). Answers (λ n. Is_new n) time_of_new root key (PutNew key bytes why) r old new) (sym answer) (record {
        honest = tt;
        did = new-failed New key bytes why (old (path_in root key)) (new (path_in root key)) made.0 fault here made.2;
        others = only-at root asides path key old new there is only;
      })

  pub answers-over : (version : Version) (told : Result VersionChange StoreFault) (change : VersionChange) (now : ℕ) (result : Over) → Through (Replaces (putting_of key) bytes version.0 (old path) (new path)) told → told ≡ Ok change → result ≡ told_over change (version_for key bytes) now
      → Answers (λ o. Is_over o) time_of_over root key (PutOver key bytes version why) (Ok result) old new
  answers-over version told change now result through ok answer =
      let replaces : Replaces (putting_of key) bytes version.0 (old path) (new path) (Ok change) = through-ok (λ r. Replaces (putting_of key) bytes version.0 (old path) (new path) r) told change through.came through.so through.is ok in
      let here : Replaces (putting_of key) bytes version.0 (old (path_in root key)) (new (path_in root key)) (Ok change) = subst (λ (p : List ℕ). Replaces (putting_of key) bytes version.0 (old p) (new p) (Ok change)) is replaces in
      subst (λ (n : Over). Answers (λ o. Is_over o) time_of_over root key (PutOver key bytes version why) (Ok n) old new) (sym answer) (record {
        honest = ap Is_over (over-honest key now bytes version.0 (old (path_in root key)) (new (path_in root key)) change here
            ∙ ap (λ (t : ℕ). over_of (version_for key bytes) t version.0 (object key (old (path_in root key)))) (sym (over-time change (version_for key bytes) now)));
        did = over-did key bytes version why (old (path_in root key)) (new (path_in root key)) change here;
        others = only-at root asides path key old new there is only;
      })

  pub answers-over-not : (version : Version) (told : Result VersionChange StoreFault) (fault : StoreFault) (result : Result Over StoreFault) → Through (Replaces (putting_of key) bytes version.0 (old path) (new path)) told → told ≡ Err fault → result ≡ Err fault
      → Answers (λ o. Is_over o) time_of_over root key (PutOver key bytes version why) result old new
  answers-over-not version told fault result through err answer =
      let made = through-err (λ r. Replaces (putting_of key) bytes version.0 (old path) (new path) r) told fault through.came through.so through.is err in
      let here : Replaces (putting_of key) bytes version.0 (old (path_in root key)) (new (path_in root key)) (Err made.0) = subst (λ (p : List ℕ). Replaces (putting_of key) bytes version.0 (old p) (new p) (Err made.0)) is made.1 in
      subst (λ (r : Result Over StoreFault). Answers (λ o. Is_over o) time_of_over root key (PutOver key bytes version why) r old new) (sym answer) (record {
        honest = tt;
        did = over-failed Over key bytes version why (old (path_in root key)) (new (path_in root key)) made.0 fault here made.2;
        others = only-at root asides path key old new there is only;
      })
