-- What a reader answers, by what the file says.
use Rattle.std.proofs.Common.{◌≡◌, ℕ, true, false, List, None, Result, Ok, Err, refl}
use Rattle.std.specs.Prelude.{nat_lt}
use Rattle.std.specs.List.{list_all}
use Rattle.ice_ids.specs.declared.Id12.{Id12}
use Rattle.ice_ids.specs.Text.{same_id12}
use Rattle.flat_tables.specs.declared.fault.FileFault.{FileFault}
use Rattle.snapshot_file.specs.declared.nodes.NodeRow.{NodeRow}
use Rattle.snapshot_file.specs.declared.snapshot.SnapshotFile.{SnapshotFile}
use Rattle.snapshot_file.specs.Snapshots.{snapshot_of}
use Rattle.manifest_file.specs.declared.manifest.ManifestFile.{ManifestFile}
use Rattle.manifest_file.specs.Manifests.{manifest_of}
use Rattle.txn_file.specs.declared.log.TxnFile.{TxnFile}
use Rattle.txn_file.specs.Logs.{txn_of}
use Rattle.repo_objects.specs.declared.bad_objects.Bad.{Bad}
use Rattle.repo_objects.specs.declared.bad_objects.Bad.TheVariants.{File, WrongId}
use Rattle.repo_objects.specs.declared.bad_objects.Unread.{Unread}
use Rattle.repo_objects.specs.declared.bad_objects.Unread.TheVariants as unread
use Rattle.repo_objects.specs.Readings.{◌>>=◌, in_file, under, unless, first_bad, read_snapshot, read_manifest, read_log}
use Rattle.repo_objects.specs.Loading.{Loads}
use Rattle.repo_objects.specs.inside.Metas.{LoadsMetas}

-- ---- logs

pub log_fault : (id : Id12) (bytes : List ℕ) (fault : FileFault) → txn_of bytes ≡ Err fault → read_log id bytes ≡ Err (File fault)
unfolding read_log
log_fault id bytes fault is = rw is refl

pub log_same : (id : Id12) (bytes : List ℕ) (log : TxnFile) → txn_of bytes ≡ Ok log → same_id12 log.id id ≡ true → read_log id bytes ≡ Ok log
unfolding read_log
log_same id bytes log is same = rw (is, same) refl

pub log_other : (id : Id12) (bytes : List ℕ) (log : TxnFile) → txn_of bytes ≡ Ok log → same_id12 log.id id ≡ false → read_log id bytes ≡ Err (WrongId log.id)
unfolding read_log
log_other id bytes log is other = rw (is, other) refl

-- ---- manifests

pub manifest_fault : (id : Id12) (bytes : List ℕ) (fault : FileFault) → list_all (λ n. nat_lt n 256) bytes ≡ true → manifest_of bytes ≡ Err fault → read_manifest id bytes ≡ Err (File fault)
unfolding read_manifest
manifest_fault id bytes fault all is = rw (all, is) refl

pub manifest_same : (id : Id12) (bytes : List ℕ) (manifest : ManifestFile) → list_all (λ n. nat_lt n 256) bytes ≡ true → manifest_of bytes ≡ Ok manifest → same_id12 manifest.id id ≡ true → read_manifest id bytes ≡ Ok manifest
unfolding read_manifest
manifest_same id bytes manifest all is same = rw (all, is, same) refl

pub manifest_other : (id : Id12) (bytes : List ℕ) (manifest : ManifestFile) → list_all (λ n. nat_lt n 256) bytes ≡ true → manifest_of bytes ≡ Ok manifest → same_id12 manifest.id id ≡ false → read_manifest id bytes ≡ Err (WrongId manifest.id)
unfolding read_manifest
manifest_other id bytes manifest all is other = rw (all, is, other) refl

-- ---- snapshots

-- what a snapshot stands for under the id of a key
abbrev snapshot_under : Id12 → SnapshotFile → Result SnapshotFile Bad
snapshot_under id s = under id s.id s >>= λ own. unless (first_bad 0 own.nodes) own

pub read_by : (id : Id12) (bytes : List ℕ) → list_all (λ n. nat_lt n 256) bytes ≡ true → read_snapshot id bytes ≡ in_file (snapshot_of bytes) >>= snapshot_under id
unfolding read_snapshot
read_by id bytes all = rw all refl

pub snapshot_fault : (id : Id12) (bytes : List ℕ) (fault : FileFault) → list_all (λ n. nat_lt n 256) bytes ≡ true → snapshot_of bytes ≡ Err fault → read_snapshot id bytes ≡ Err (File fault)
snapshot_fault id bytes fault all is = rw (read_by id bytes all, is) refl

pub snapshot_other : (id : Id12) (bytes : List ℕ) (s : SnapshotFile) → list_all (λ n. nat_lt n 256) bytes ≡ true → snapshot_of bytes ≡ Ok s → same_id12 s.id id ≡ false → read_snapshot id bytes ≡ Err (WrongId s.id)
snapshot_other id bytes s all is other = rw (read_by id bytes all, is, other) refl

pub snapshot_bad : (id : Id12) (bytes : List ℕ) (s : SnapshotFile) (rows : List NodeRow) (u : Unread) → list_all (λ n. nat_lt n 256) bytes ≡ true → snapshot_of bytes ≡ Ok s → same_id12 s.id id ≡ true → rows ≡ s.nodes → LoadsMetas rows (Err u) → Loads (read_snapshot id bytes) (Err u)
snapshot_bad id bytes s rows (unread.Bad bad) all is same nodes why = rw (read_by id bytes all, is, same, ← nodes, why) refl
snapshot_bad id bytes s rows unread.NoMemory all is same nodes why = tt

pub snapshot_same : (id : Id12) (bytes : List ℕ) (s : SnapshotFile) → list_all (λ n. nat_lt n 256) bytes ≡ true → snapshot_of bytes ≡ Ok s → same_id12 s.id id ≡ true → first_bad 0 s.nodes ≡ None → read_snapshot id bytes ≡ Ok s
snapshot_same id bytes s all is same texts = rw (read_by id bytes all, is, same, texts) refl
