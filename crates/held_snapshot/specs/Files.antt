-- The snapshot of a file that stands for one. (Icechunk specification version 1,
-- "Snapshot"; the words are own.)
use Rattle.std.specs.Prelude.{◌≡◌, ◌≢◌, ℕ, List, [], None, Result, Ok, Err}
use Rattle.flat_tables.specs.declared.fault.FileFault.{FileFault}
use Rattle.flat_tables.specs.declared.fault.FileFault.TheVariants.{NoMemory}
use Rattle.flat_tables.specs.Places.{TableIn, scalar_of, text_of}
use Rattle.flat_tables.specs.Rows.{required}
use Rattle.file_fields.specs.Fields.{id12_of}
use Rattle.snapshot_file.specs.declared.snapshot.ManifestInfo.{ManifestInfo}
use Rattle.snapshot_file.specs.declared.snapshot.SnapshotFile.{SnapshotFile}
use Rattle.snapshot_file.specs.Snapshots.{parent_of, nodes_of, properties_of, files_of, snapshot_of}

-- the snapshot that was read, and an empty one where there is a fault
abbrev pub snapshot_or_empty : Result SnapshotFile FileFault → SnapshotFile
snapshot_or_empty (Ok snapshot) = snapshot
snapshot_or_empty (Err fault) = record {
  id = record { 0 = [] };
  parent = None;
  nodes = [];
  flushed_at = 0;
  message = [];
  props = [];
  manifest_files = [];
}

-- a table is the root table of a snapshot's payload: each slot of it is read as the snapshot has it
pub record IsTableOf (t : TableIn) (s : SnapshotFile) : Type 0 where
  pub id : id12_of t 0 ≡ Ok s.id
  pub parent : parent_of t ≡ Ok s.parent
  pub nodes : nodes_of t ≡ Ok s.nodes
  pub flushed_at : required 3 (scalar_of t 3 8) ≡ Ok s.flushed_at
  pub message : required 4 (text_of t 4) ≡ Ok s.message
  pub props : properties_of t ≡ Ok s.props
  pub files : files_of t ≡ Ok s.manifest_files

-- the slots behind the nodes were tested: they have these manifest
-- files, or this is their first fault
abbrev pub Rest : Type 0
Rest = ℕ × (List ℕ × (List (List ℕ × List ℕ) × List ManifestInfo))

abbrev pub ChecksRest : Result (List ManifestInfo) FileFault → Result Rest FileFault → Type 0
ChecksRest (Ok files) read = (rest : Rest) × (read ≡ Ok rest) × (rest.1.1.1 ≡ files)
ChecksRest (Err fault) read = read ≡ Err fault

-- a file was held as the snapshot that it stands for, or came back with the fault that it
-- has, which is no want of memory
abbrev pub IsHeldAs : List ℕ → Result SnapshotFile (List ℕ × FileFault) → Type 0
IsHeldAs file (Ok snapshot) = snapshot_of file ≡ Ok snapshot
IsHeldAs file (Err back) = (back.0 ≡ file) × (snapshot_of file ≡ Err back.1) × (back.1 ≢ NoMemory)
