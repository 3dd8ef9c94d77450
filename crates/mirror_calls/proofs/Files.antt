-- Files of snapshots: what is put of one, and what stands in its place.
use Rattle.std.proofs.Common.{◌≡◌, ◌⊎◌, ℕ, inl, inr, Bool, true, false, List, refl, sym, ◌∙◌, ap, subst, arith}
use Rattle.std.specs.Prelude.{◌≤◌, ◌<◌, nat_lt, bytes_eq, if◌then◌else◌, IfSome, length, Option, Some, None, Result, Ok, Err}
use Rattle.std.proofs.lemmas.Bool.Decides.{nat_tests}
use Rattle.flat_tables.specs.declared.header.Kind.TheVariants as kinds
use Rattle.flat_tables.specs.File.{file_limit}
use Rattle.ice_ids.specs.declared.Id12.{Id12}
use Rattle.ice_ids.specs.Text.{IsId12}
use Rattle.ice_ids.proofs.TextLaws.{same_id12-true}
use Rattle.snapshot_file.specs.declared.snapshot.SnapshotFile.{SnapshotFile}
use Rattle.snapshot_file.specs.Layout.{snapshot_bytes}
use Rattle.repo_objects.specs.Readings.{snapshot_by}
use Rattle.repo_objects.specs.Laws.{SnapshotLaw, IsProper}
use Rattle.object_store.proofs.Slots.{bytes-true, bytes-same}
use Rattle.object_store.specs.declared.keys.Key.{Key}
use Rattle.object_store.specs.declared.keys.Key.TheVariants.{Snapshot, Manifest, Txn, Chunk, Branch, Tag, Tombstone, Lease}
use Rattle.store_api.specs.declared.machines.Refusal.{Refusal}
use Rattle.store_api.specs.declared.machines.Refusal.TheVariants.{TooLarge}
use Rattle.two_stores.specs.declared.side.Side.TheVariants.{From, To}
use Rattle.mirror_reports.specs.Told.{same_parent, file_of, file_under, if_equal, same_but_parent, is_fine}
use Rattle.mirror.specs.Programs.{fits_there}
use Rattle.mirror_calls.specs.Deeds.{Deed, HasGot}
use Rattle.mirror_calls.specs.Reports.{DifferInParent, IsFine, Cause}
use Rattle.mirror_calls.proofs.Causes.{err-is, ok-is, ok-err, err-ok}

abbrev pub under : SnapshotFile → Option Id12 → SnapshotFile
under s parent = record s { parent = parent }

parent-true : (a b : Option Id12) → same_parent a b ≡ true → a ≡ b
parent-true None None e = refl
parent-true None (Some b) e = absurd (cc)
parent-true (Some a) None e = absurd (cc)
parent-true (Some a) (Some b) e = ap (λ (x : Id12). Some x) (same_id12-true a b e)

-- the same with another parent can be written too
proper-under : (s : SnapshotFile) (parent : Option Id12) → IfSome parent IsId12 → IsProper s → IsProper (under s parent)
proper-under s parent i p = record {
  sized = record { id = p.sized.id; parent = i; nodes = p.sized.nodes; flushed_at = p.sized.flushed_at; message = p.sized.message; props = p.sized.props; files = p.sized.files };
  writable = record { few = p.writable.few; nodes = p.writable.nodes; files = p.writable.files; listed = p.writable.listed };
  texts = p.texts;
}

not-longer : (limit n : ℕ) → nat_lt limit n ≡ false → n ≤ limit
not-longer limit n e = grind (arith, nat_tests)

longer : (limit n : ℕ) → nat_lt limit n ≡ true → limit < n
longer limit n e = grind (arith, nat_tests)

abbrev written-or : Bool → SnapshotFile → Result (List ℕ) Refusal
written-or long s = if long then Err (TooLarge kinds.Snapshot) else Ok (snapshot_bytes s)

-- a file that was made fits, and is that of the snapshot
record Made (s : SnapshotFile) (file : List ℕ) : Type 0 where
  few : length (snapshot_bytes s) ≤ file_limit
  is : snapshot_bytes s ≡ file

file-made : (s : SnapshotFile) (file : List ℕ) → file_of s ≡ Ok file → Made s file
file-made s file e = go (nat_lt file_limit (length (snapshot_bytes s))) refl e
  where
    go : (long : Bool) → nat_lt file_limit (length (snapshot_bytes s)) ≡ long → written-or long s ≡ Ok file → Made s file
    go true l x = absurd (err-ok file (TooLarge kinds.Snapshot) x)
    go false l x = record { few = not-longer file_limit (length (snapshot_bytes s)) l; is = ok-is (snapshot_bytes s) file x }

-- or it would be too long
record TooLong (s : SnapshotFile) (why : Refusal) : Type 0 where
  long : file_limit < length (snapshot_bytes s)
  is : TooLarge kinds.Snapshot ≡ why

file-long : (s : SnapshotFile) (why : Refusal) → file_of s ≡ Err why → TooLong s why
file-long s why e = go (nat_lt file_limit (length (snapshot_bytes s))) refl e
  where
    go : (long : Bool) → nat_lt file_limit (length (snapshot_bytes s)) ≡ long → written-or long s ≡ Err why → TooLong s why
    go true l x = record { long = longer file_limit (length (snapshot_bytes s)) l; is = err-is (TooLarge kinds.Snapshot) why x }
    go false l x = absurd (ok-err (snapshot_bytes s) why x)

-- ---- what is put
-- a snapshot that was got, with a parent that may be another
pub record Under (id : Id12) (parent : Option Id12) (s : SnapshotFile) (file : List ℕ) : Type 0 where
  pub read : snapshot_by id file ≡ Some (under s parent)

pub file-says : SnapshotLaw → (id : Id12) (parent : Option Id12) (bytes file : List ℕ) (s : SnapshotFile) → IfSome parent IsId12 → snapshot_by id bytes ≡ Some s → file_under parent bytes s ≡ Ok file → Under id parent s file
file-says law id parent bytes file s i read e = go (same_parent s.parent parent) refl e
  where
    go : (b : Bool) → same_parent s.parent parent ≡ b → (if b then Ok bytes else file_of (under s parent)) ≡ Ok file → Under id parent s file
    go true same x =
        let equal : bytes ≡ file = ok-is bytes file x in
        let own : snapshot_by id file ≡ Some (under s s.parent) = subst (λ (f : List ℕ). snapshot_by id f ≡ Some s) equal read in
        record { read = subst (λ (p : Option Id12). snapshot_by id file ≡ Some (under s p)) (parent-true s.parent parent same) own }
    go false same x =
        let m = file-made (under s parent) file x in
        let own : (under s parent).id ≡ id = law.own id bytes s read in
        let again : snapshot_by (under s parent).id (snapshot_bytes (under s parent)) ≡ Some (under s parent) = law.written (under s parent) (proper-under s parent i (law.read id bytes s read)) m.few in
        record { read = subst (λ (f : List ℕ). snapshot_by id f ≡ Some (under s parent)) m.is (subst (λ (n : Id12). snapshot_by n (snapshot_bytes (under s parent)) ≡ Some (under s parent)) own again) }

pub under-long : (deeds : List Deed) (id : Id12) (parent : Option Id12) (bytes : List ℕ) (s : SnapshotFile) (why : Refusal) → HasGot deeds From (Snapshot id) bytes → snapshot_by id bytes ≡ Some s → file_under parent bytes s ≡ Err why → Cause deeds why
under-long deeds id parent bytes s why got read e = go (same_parent s.parent parent) e
  where
    go : (b : Bool) → (if b then Ok bytes else file_of (under s parent)) ≡ Err why → Cause deeds why
    go true x = absurd (ok-err bytes why x)
    go false x =
        let l = file-long (under s parent) why x in
        subst (Cause deeds) l.is (record { kind_is = refl; side = From; id = id; bytes = bytes; got = got; snap = s; read = read; parent = parent; long = l.long })

-- ---- what stands there
some-is : {A : Type 0} (x y : A) → Some x ≡ Some y → x ≡ y
some-is x y e = cc

-- what two files without a parent say
equal-files : (s t : SnapshotFile) → if_equal (file_of (under s None)) (file_of (under t None)) ≡ Ok true → (file : List ℕ) × Made (under s None) file × Made (under t None) file
equal-files s t e = go (file_of (under s None)) (file_of (under t None)) refl refl e
  where
    go : (a b : Result (List ℕ) Refusal) → file_of (under s None) ≡ a → file_of (under t None) ≡ b → if_equal a b ≡ Ok true → (file : List ℕ) × Made (under s None) file × Made (under t None) file
    go (Ok a) (Ok b) x y z =
        let same : a ≡ b = bytes-true a b (ok-is (bytes_eq a b) true z) in
        (b, file-made (under s None) b (subst (λ (f : List ℕ). file_of (under s None) ≡ Ok f) same x), file-made (under t None) b y)
    go (Ok a) (Err why) x y z = absurd (err-ok true why z)
    go (Err why) b x y z = absurd (err-ok true why z)

module _ (law : SnapshotLaw) where
  -- what is written of a snapshot that was read is read again, also without a parent
  bare-read : (id : Id12) (bytes file : List ℕ) (s : SnapshotFile) → snapshot_by id bytes ≡ Some s → Made (under s None) file → snapshot_by id file ≡ Some (under s None)
  bare-read id bytes file s read m =
      let own : (under s None).id ≡ id = law.own id bytes s read in
      let again : snapshot_by (under s None).id (snapshot_bytes (under s None)) ≡ Some (under s None) = law.written (under s None) (proper-under s None tt (law.read id bytes s read)) m.few in
      subst (λ (f : List ℕ). snapshot_by id f ≡ Some (under s None)) m.is (subst (λ (n : Id12). snapshot_by n (snapshot_bytes (under s None)) ≡ Some (under s None)) own again)

  alike : (id : Id12) (bytes there : List ℕ) (s t : SnapshotFile) → snapshot_by id bytes ≡ Some s → snapshot_by id there ≡ Some t → if_equal (file_of (under s None)) (file_of (under t None)) ≡ Ok true → DifferInParent id bytes there
  alike id bytes there s t read other e =
      let f = equal-files s t e in
      let same : under s None ≡ under t None = some-is (under s None) (under t None) (sym (bare-read id bytes f.0 s read f.1) ∙ bare-read id there f.0 t other f.2) in
      let is : under s t.parent ≡ t = ap (λ (x : SnapshotFile). under x t.parent) same in
      record { snap = s; read = read; says = record { parent = t.parent; read = subst (λ (x : SnapshotFile). snapshot_by id there ≡ Some x) (sym is) other } }

  fine-snapshot : (id : Id12) (bytes there : List ℕ) → is_fine id bytes there ≡ Ok true → (bytes ≡ there) ⊎ DifferInParent id bytes there
  fine-snapshot id bytes there e = go (bytes_eq bytes there) refl e
    where
      both : (s t : Option SnapshotFile) → snapshot_by id bytes ≡ s → snapshot_by id there ≡ t → same_but_parent s t ≡ Ok true → DifferInParent id bytes there
      both (Some s) (Some t) x y z = alike id bytes there s t x y z
      both (Some s) None x y z = absurd (cc)
      both None t x y z = absurd (cc)

      go : (b : Bool) → bytes_eq bytes there ≡ b → (if b then Ok true else same_but_parent (snapshot_by id bytes) (snapshot_by id there)) ≡ Ok true → (bytes ≡ there) ⊎ DifferInParent id bytes there
      go true same x = inl (bytes-true bytes there same)
      go false same x = inr (both (snapshot_by id bytes) (snapshot_by id there) refl refl x)

  -- what is taken as fine is fine
  pub is-fine : (key : Key) (bytes there : List ℕ) → fits_there key bytes there ≡ Ok true → IsFine key bytes there
  is-fine (Snapshot id) bytes there e = fine-snapshot id bytes there e
  is-fine (Manifest id) bytes there e = bytes-true bytes there (ok-is (bytes_eq bytes there) true e)
  is-fine (Txn id) bytes there e = bytes-true bytes there (ok-is (bytes_eq bytes there) true e)
  is-fine (Chunk id) bytes there e = bytes-true bytes there (ok-is (bytes_eq bytes there) true e)
  is-fine (Branch name) bytes there e = bytes-true bytes there (ok-is (bytes_eq bytes there) true e)
  is-fine (Tag name) bytes there e = bytes-true bytes there (ok-is (bytes_eq bytes there) true e)
  is-fine (Tombstone name) bytes there e = bytes-true bytes there (ok-is (bytes_eq bytes there) true e)
  is-fine (Lease id) bytes there e = bytes-true bytes there (ok-is (bytes_eq bytes there) true e)

-- what isn't, isn't
never-both : (b : Bool) → b ≡ true → b ≡ false → ⊥
never-both true e f = absurd (cc)
never-both false e f = absurd (cc)

unequal : (bytes there : List ℕ) → ◌≡◌ {A = Result Bool Refusal} (Ok (bytes_eq bytes there)) (Ok false) → bytes ≡ there → ⊥
unequal bytes there e same = never-both (bytes_eq bytes there) (subst (λ (b : List ℕ). bytes_eq bytes b ≡ true) same (bytes-same bytes)) (ok-is (bytes_eq bytes there) false e)

equal-self : (r : Result (List ℕ) Refusal) → if_equal r r ≡ Ok false → ⊥
equal-self (Ok a) e = never-both (bytes_eq a a) (bytes-same a) (ok-is (bytes_eq a a) false e)
equal-self (Err why) e = err-ok false why e

not-fine-snapshot : (id : Id12) (bytes there : List ℕ) → is_fine id bytes there ≡ Ok false → (bytes ≡ there) ⊎ DifferInParent id bytes there → ⊥
not-fine-snapshot id bytes there e f = go (bytes_eq bytes there) refl e f
  where
    go : (b : Bool) → bytes_eq bytes there ≡ b → (if b then Ok true else same_but_parent (snapshot_by id bytes) (snapshot_by id there)) ≡ Ok false → (bytes ≡ there) ⊎ DifferInParent id bytes there → ⊥
    go true s x y = never-both true refl (ok-is true false x)
    go false s x (inl same) = never-both (bytes_eq bytes there) (subst (λ (b : List ℕ). bytes_eq bytes b ≡ true) same (bytes-same bytes)) s
    go false s x (inr d) =
        let at : same_but_parent (snapshot_by id bytes) (snapshot_by id there) ≡ same_but_parent (Some d.snap) (Some (under d.snap d.says.parent)) =
        ap (λ (o : Option SnapshotFile). same_but_parent o (snapshot_by id there)) d.read ∙ ap (λ (o : Option SnapshotFile). same_but_parent (Some d.snap) o) d.says.read in
        equal-self (file_of (under d.snap None)) (sym at ∙ x)

pub not-fine : (key : Key) (bytes there : List ℕ) → fits_there key bytes there ≡ Ok false → IsFine key bytes there → ⊥
not-fine (Snapshot id) bytes there e f = not-fine-snapshot id bytes there e f
not-fine (Manifest id) bytes there e f = unequal bytes there e f
not-fine (Txn id) bytes there e f = unequal bytes there e f
not-fine (Chunk id) bytes there e f = unequal bytes there e f
not-fine (Branch name) bytes there e f = unequal bytes there e f
not-fine (Tag name) bytes there e f = unequal bytes there e f
not-fine (Tombstone name) bytes there e f = unequal bytes there e f
not-fine (Lease id) bytes there e f = unequal bytes there e f

pub fine-self : (key : Key) (bytes : List ℕ) → IsFine key bytes bytes
fine-self (Snapshot id) bytes = inl refl
fine-self (Manifest id) bytes = refl
fine-self (Txn id) bytes = refl
fine-self (Chunk id) bytes = refl
fine-self (Branch name) bytes = refl
fine-self (Tag name) bytes = refl
fine-self (Tombstone name) bytes = refl
fine-self (Lease id) bytes = refl

-- ---- comparing may be too long
-- where a snapshot is put that was got in the source, and another one was got in the target
pub fine-long : (deeds : List Deed) (id : Id12) (source file there : List ℕ) (s : SnapshotFile) (parent : Option Id12) (why : Refusal) → HasGot deeds From (Snapshot id) source → snapshot_by id source ≡ Some s → Under id parent s file → HasGot deeds To (Snapshot id) there → is_fine id file there ≡ Err why → Cause deeds why
fine-long deeds id source file there s parent why got read says other e = go (bytes_eq file there) e
  where
    equal : (t : SnapshotFile) → snapshot_by id there ≡ Some t → (a b : Result (List ℕ) Refusal) → file_of (under s None) ≡ a → file_of (under t None) ≡ b → if_equal a b ≡ Err why → Cause deeds why
    equal t y (Ok a) (Ok b) p q z = absurd (ok-err (bytes_eq a b) why z)
    equal t y (Ok a) (Err r) p q z =
        let l = file-long (under t None) r q in
        subst (Cause deeds) (l.is ∙ err-is r why z) (record { kind_is = refl; side = To; id = id; bytes = there; got = other; snap = t; read = y; parent = None; long = l.long })
    equal t y (Err r) b p q z =
        let l = file-long (under s None) r p in
        subst (Cause deeds) (l.is ∙ err-is r why z) (record { kind_is = refl; side = From; id = id; bytes = source; got = got; snap = s; read = read; parent = None; long = l.long })

    both : (o : Option SnapshotFile) → snapshot_by id there ≡ o → same_but_parent (Some (under s parent)) o ≡ Err why → Cause deeds why
    both (Some t) y z = equal t y (file_of (under s None)) (file_of (under t None)) refl refl z
    both None y z = absurd (ok-err false why z)

    go : (b : Bool) → (if b then Ok true else same_but_parent (snapshot_by id file) (snapshot_by id there)) ≡ Err why → Cause deeds why
    go true x = absurd (ok-err true why x)
    go false x = both (snapshot_by id there) refl (sym (ap (λ (o : Option SnapshotFile). same_but_parent o (snapshot_by id there)) says.read) ∙ x)
