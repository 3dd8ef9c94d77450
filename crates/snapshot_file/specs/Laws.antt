-- The law of what is read and written.
use Rattle.std.specs.Prelude.{◌≡◌, ◌≤◌, ℕ, nat_lt, List, length, true, Ok}
use Rattle.std.specs.List.{list_all}
use Rattle.flat_tables.specs.File.{file_limit}
use Rattle.snapshot_file.specs.declared.snapshot.SnapshotFile.{SnapshotFile}
use Rattle.snapshot_file.specs.Snapshots.{snapshot_of}
use Rattle.snapshot_file.specs.Layout.{snapshot_bytes, IsSnapshot, IsWritable}

-- what a file of bytes stands for can be written
pub record ReadLaw : Type 0 where
  pub sized : (file : List ℕ) (s : SnapshotFile) → list_all (λ n. nat_lt n 256) file ≡ true
      → snapshot_of file ≡ Ok s → IsSnapshot s
  pub writable : (file : List ℕ) (s : SnapshotFile) → snapshot_of file ≡ Ok s → IsWritable s
  -- and what is written is read again
  pub again : (s : SnapshotFile) → IsSnapshot s → IsWritable s
      → length (snapshot_bytes s) ≤ file_limit → snapshot_of (snapshot_bytes s) ≡ Ok s
  -- what is written is bytes
  pub bytes : (s : SnapshotFile) → IsSnapshot s
      → list_all (λ n. nat_lt n 256) (snapshot_bytes s) ≡ true
