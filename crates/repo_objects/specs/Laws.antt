-- What is written is read again.
use Rattle.std.specs.Prelude.{◌≡◌, ◌≤◌, ℕ, List, length, Some, None}
use Rattle.ice_ids.specs.declared.Id12.{Id12}
use Rattle.ice_ids.specs.Text.{IsId12, initial_id}
use Rattle.flat_tables.specs.File.{file_limit}
use Rattle.snapshot_file.specs.declared.snapshot.SnapshotFile.{SnapshotFile}
use Rattle.snapshot_file.specs.Layout.{snapshot_bytes, IsSnapshot, IsWritable}
use Rattle.snapshot_file.specs.Initial.{initial_snapshot}
use Rattle.manifest_file.specs.declared.manifest.ManifestFile.{ManifestFile}
use Rattle.manifest_file.specs.Layout.{file_bytes, CanWrite, IsManifest}
use Rattle.txn_file.specs.declared.log.TxnFile.{TxnFile}
use Rattle.txn_file.specs.Layout.{log_file, IsOrdered, IsLog}
use Rattle.ref_file.specs.Refs.{ref_bytes}
use Rattle.repo_objects.specs.Readings.{first_bad, snapshot_by, manifest_by, log_by, ref_of}

-- a snapshot that can be written: its ids and numbers have their widths, its lists are in order,
-- and its texts are the metadata of its nodes
pub record IsProper (s : SnapshotFile) : Type 0 where
  pub sized : IsSnapshot s
  pub writable : IsWritable s
  pub texts : first_bad 0 s.nodes ≡ None

-- what is written of a snapshot is read under its id, if it isn't too long;
-- and what is read can be written
pub record SnapshotLaw : Type 0 where
  pub written : (s : SnapshotFile) → IsProper s → length (snapshot_bytes s) ≤ file_limit
      → snapshot_by s.id (snapshot_bytes s) ≡ Some s
  pub read : (id : Id12) (file : List ℕ) (s : SnapshotFile)
      → snapshot_by id file ≡ Some s → IsProper s
  pub own : (id : Id12) (file : List ℕ) (s : SnapshotFile)
      → snapshot_by id file ≡ Some s → s.id ≡ id

-- a manifest that can be written: its ids and numbers have their widths, the bytes of its chunks
-- are bytes, its lists are in order, and its chunks keep to their limit
pub record IsProperManifest (m : ManifestFile) : Type 0 where
  pub sized : IsManifest m
  pub writable : CanWrite m

-- what is written of a manifest is read under its id, if it isn't too long;
-- and what is read can be written
pub record ManifestLaw : Type 0 where
  pub written : (m : ManifestFile) → IsProperManifest m → length (file_bytes m) ≤ file_limit
      → manifest_by m.id (file_bytes m) ≡ Some m
  pub read : (id : Id12) (file : List ℕ) (m : ManifestFile) → manifest_by id file ≡ Some m
      → IsProperManifest m
  pub own : (id : Id12) (file : List ℕ) (m : ManifestFile)
      → manifest_by id file ≡ Some m → m.id ≡ id

-- the bytes of the initial snapshot's file
abbrev pub initial_bytes : List ℕ
initial_bytes = snapshot_bytes initial_snapshot

-- they are read as the initial snapshot
abbrev pub InitialLaw : Type 0
InitialLaw = snapshot_by initial_id initial_bytes ≡ Some initial_snapshot

-- what is written of a log is read under its id, if it isn't too long
abbrev pub LogLaw : Type 0
LogLaw =
    (log : TxnFile) → IsLog log → IsOrdered log → length (log_file log) ≤ file_limit
    → log_by log.id (log_file log) ≡ Some log

-- a reference has 35 bytes, and is read as its id; what is read is an id
pub record RefLaw : Type 0 where
  pub length : (id : Id12) → length (ref_bytes id) ≡ 35
  pub written : (id : Id12) → IsId12 id → ref_of (ref_bytes id) ≡ Some id
  pub read : (file : List ℕ) (id : Id12) → ref_of file ≡ Some id → IsId12 id
