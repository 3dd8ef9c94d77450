-- What is written is read again.
use Rattle.std.proofs.Common.{◌≡◌, ◌≤◌, ℕ, length, true, false, Bool, cond, List, Option, None, Some, Result, Ok, Err, refl, sym, ap, subst, ◌∙◌}
use Rattle.std.specs.Prelude.{nat_lt}
use Rattle.std.specs.List.{list_all}
use Rattle.std.specs.Result.{result_ok}
use Rattle.serde_json.specs.Data.{Data}
use Rattle.json_words.specs.Reading.{text_member}
use Rattle.zarr_meta.specs.Meta.{json_of}
use Rattle.ice_ids.specs.declared.Id12.{Id12}
use Rattle.ice_ids.specs.declared.IdFault.{IdFault}
use Rattle.ice_ids.specs.Text.{IsId12, initial_id, id12_text, id12_of_text, same_id12}
use Rattle.ice_ids.proofs.TextLaws.{same_id12-true, same_id12-self}
use Rattle.flat_tables.specs.declared.fault.FileFault.{FileFault}
use Rattle.flat_tables.specs.File.{file_limit}
use Rattle.ref_file.specs.Refs.{member_name}
use Rattle.txn_file.specs.declared.log.TxnFile.{TxnFile}
use Rattle.txn_file.specs.Logs.{txn_of}
use Rattle.snapshot_file.specs.declared.snapshot.SnapshotFile.{SnapshotFile}
use Rattle.snapshot_file.specs.Snapshots.{snapshot_of}
use Rattle.snapshot_file.specs.Initial.{initial_snapshot}
use Rattle.snapshot_file.specs.Layout.{snapshot_bytes}
use Rattle.snapshot_file.specs.Laws.{ReadLaw}
use Rattle.manifest_file.specs.declared.manifest.ManifestFile.{ManifestFile}
use Rattle.manifest_file.specs.Manifests.{manifest_of}
use Rattle.manifest_file.specs.Layout.{file_bytes}
use Rattle.manifest_file.specs.Laws as manifest
use Rattle.repo_objects.specs.declared.bad_objects.Bad.{Bad}
use Rattle.repo_objects.specs.Readings.{◌>>=◌, in_file, under, of_bytes, unless, id_in, id_of_value, first_bad, read_snapshot, read_manifest, read_ref, snapshot_by, manifest_by, log_by, ref_of}
use Rattle.repo_objects.specs.Laws.{IsProper, SnapshotLaw, IsProperManifest, ManifestLaw, InitialLaw}
use Rattle.repo_objects.proofs.Steps.{log_same, manifest_same, snapshot_same}

pub log_again : (bytes : List ℕ) (log : TxnFile) → txn_of bytes ≡ Ok log → log_by log.id bytes ≡ Some log
log_again bytes log is = ap result_ok (log_same log.id bytes log is (same_id12-self log.id))

pub initial_again : (file : List ℕ) → list_all (λ n. nat_lt n 256) file ≡ true → file ≡ snapshot_bytes initial_snapshot → snapshot_of file ≡ Ok initial_snapshot → InitialLaw
unfolding first_bad
initial_again file all is read =
    ap result_ok (snapshot_same initial_id (snapshot_bytes initial_snapshot) initial_snapshot (subst (λ (f : List ℕ). list_all (λ n. nat_lt n 256) f ≡ true) is all) (ap snapshot_of (sym is) ∙ read) refl refl)

-- ---- references

-- each text that is read as an id is the text of an id
abbrev IdsRead : Type 0
IdsRead = (text : List ℕ) (id : Id12) → id12_of_text text ≡ Ok id → (text ≡ id12_text id) × IsId12 id

text_is : IdsRead → (text : Option (List ℕ)) (id : Id12) → result_ok (id_in text) ≡ Some id → IsId12 id
text_is ids None id is = cc
text_is ids (Some text) id is = by_case (id12_of_text text) refl
  where
    by_case : (read : Result Id12 IdFault) → id12_of_text text ≡ read → IsId12 id
    by_case (Ok found) read = let same : found ≡ id = cc in subst IsId12 same (ids text found read).1
    by_case (Err fault) read = absurd cc

value_is : IdsRead → (value : Option Data) (id : Id12) → result_ok (id_of_value value) ≡ Some id → IsId12 id
value_is ids None id is = cc
value_is ids (Some value) id is = text_is ids (text_member member_name value) id is

pub ref_is : IdsRead → (file : List ℕ) (id : Id12) → ref_of file ≡ Some id → IsId12 id
unfolding read_ref
ref_is ids file id is = value_is ids (json_of file) id is

-- ---- snapshots

-- a value, by the steps that led to it
ok_of : {A : Type 0} (r : Result A Bad) (x : A) → result_ok r ≡ Some x → r ≡ Ok x
ok_of (Ok y) x is = ap Ok cc
ok_of (Err bad) x is = cc

bind_ok : {A B : Type 0} (r : Result A Bad) (next : A → Result B Bad) (y : B) → (r >>= next) ≡ Ok y → (x : A) × (r ≡ Ok x) × (next x ≡ Ok y)
bind_ok (Ok x) next y is = (x, refl, is)
bind_ok (Err bad) next y is = absurd cc

test_ok : {A : Type 0} (test : Bool) (x y : A) (bad : Bad) → cond test (Ok x) (Err bad) ≡ Ok y → (test ≡ true) × (x ≡ y)
test_ok true x y bad is = (refl, cc)
test_ok false x y bad is = absurd cc

file_ok : {A : Type 0} (r : Result A FileFault) (x : A) → in_file r ≡ Ok x → r ≡ Ok x
file_ok (Ok y) x is = ap Ok cc
file_ok (Err fault) x is = absurd cc

unless_ok : {A : Type 0} (bad : Option Bad) (x y : A) → unless bad x ≡ Ok y → (bad ≡ None) × (x ≡ y)
unless_ok None x y is = (refl, cc)
unless_ok (Some bad) x y is = absurd cc

-- what a file that is read as a snapshot under an id says
record IsRead (id : Id12) (file : List ℕ) (s : SnapshotFile) : Type 0 where
  bytes : list_all (λ n. nat_lt n 256) file ≡ true
  read : snapshot_of file ≡ Ok s
  same : s.id ≡ id
  texts : first_bad 0 s.nodes ≡ None

is_read : (id : Id12) (file : List ℕ) (s : SnapshotFile) → snapshot_by id file ≡ Some s → IsRead id file s
unfolding read_snapshot
is_read id file s is =
    let bytes = bind_ok (of_bytes file) _ s (ok_of (read_snapshot id file) s is) in
    let tested = test_ok (list_all (λ n. nat_lt n 256) file) file bytes.0 _ bytes.1 in
    let found = bind_ok (in_file (snapshot_of bytes.0)) _ s bytes.2 in
    let own = bind_ok (under id found.0.id found.0) _ s found.2 in
    let same = test_ok (same_id12 found.0.id id) found.0 own.0 _ own.1 in
    let texts = unless_ok (first_bad 0 own.0.nodes) own.0 s own.2 in
    let read : snapshot_of file ≡ Ok found.0 = ap snapshot_of tested.1 ∙ file_ok (snapshot_of bytes.0) found.0 found.1 in
    subst (IsRead id file) (same.1 ∙ texts.1) (record {
      bytes = tested.0;
      read = read;
      same = same_id12-true found.0.id id same.0;
      texts = ap (λ (x : SnapshotFile). first_bad 0 x.nodes) same.1 ∙ texts.0;
    })

module _ (law : ReadLaw) where
  written : (s : SnapshotFile) → IsProper s → length (snapshot_bytes s) ≤ file_limit → snapshot_by s.id (snapshot_bytes s) ≡ Some s
  written s is fits =
      ap result_ok (snapshot_same s.id (snapshot_bytes s) s (law.bytes s is.sized) (law.again s is.sized is.writable fits) (same_id12-self s.id) is.texts)

  proper : (id : Id12) (file : List ℕ) (s : SnapshotFile) → snapshot_by id file ≡ Some s → IsProper s
  proper id file s is =
      let read = is_read id file s is in
      record { sized = law.sized file s read.bytes read.read; writable = law.writable file s read.read; texts = read.texts }

  pub snapshot_again : SnapshotLaw
  snapshot_again = record { written = written; read = proper; own = λ id file s is. (is_read id file s is).same }

-- ---- manifests

-- what a file that is read as a manifest under an id says
record IsReadManifest (id : Id12) (file : List ℕ) (m : ManifestFile) : Type 0 where
  bytes : list_all (λ n. nat_lt n 256) file ≡ true
  read : manifest_of file ≡ Ok m
  same : m.id ≡ id

manifest_is_read : (id : Id12) (file : List ℕ) (m : ManifestFile) → manifest_by id file ≡ Some m → IsReadManifest id file m
unfolding read_manifest
manifest_is_read id file m is =
    let bytes = bind_ok (of_bytes file) _ m (ok_of (read_manifest id file) m is) in
    let tested = test_ok (list_all (λ n. nat_lt n 256) file) file bytes.0 _ bytes.1 in
    let found = bind_ok (in_file (manifest_of bytes.0)) _ m bytes.2 in
    let same = test_ok (same_id12 found.0.id id) found.0 m _ found.2 in
    let read : manifest_of file ≡ Ok found.0 = ap manifest_of tested.1 ∙ file_ok (manifest_of bytes.0) found.0 found.1 in
    subst (IsReadManifest id file) same.1 (record { bytes = tested.0; read = read; same = same_id12-true found.0.id id same.0 })

module _ (law : manifest.ReadLaw) where
  manifest_written : (m : ManifestFile) → IsProperManifest m → length (file_bytes m) ≤ file_limit → manifest_by m.id (file_bytes m) ≡ Some m
  manifest_written m is fits = ap result_ok (manifest_same m.id (file_bytes m) m (law.bytes m is.sized) (law.again m is.sized is.writable fits) (same_id12-self m.id))

  manifest_proper : (id : Id12) (file : List ℕ) (m : ManifestFile) → manifest_by id file ≡ Some m → IsProperManifest m
  manifest_proper id file m is =
      let read = manifest_is_read id file m is in
      record { sized = law.sized file m read.bytes read.read; writable = law.writable file m read.read }

  pub manifest_again : ManifestLaw
  manifest_again = record { written = manifest_written; read = manifest_proper; own = λ id file m is. (manifest_is_read id file m is).same }
