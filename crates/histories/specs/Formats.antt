-- The formats of the repository as a way to read what a store holds.
use Rattle.std.specs.Prelude.{ℕ, Option}
use Rattle.std.specs.Option.{option_and_then}
use Rattle.ice_ids.specs.declared.Id12.{Id12}
use Rattle.zarr_tree.specs.Trees.{Tree}
use Rattle.zarr_tree.specs.Changes.{Changes, apply}
use Rattle.snapshot_file.specs.declared.snapshot.SnapshotFile.{SnapshotFile}
use Rattle.repo_objects.specs.Readings.{ref_of}
use Rattle.store_api.specs.Journal.{snap_made}
use Rattle.histories.specs.Repository.{Change}
use Rattle.histories.specs.Files.{Files}

-- refs and the parents of snapshots as their files say them, where `trees`
-- gives the tree of each snapshot
abbrev pub files_by : (Id12 → Option Tree) → Files
files_by trees = record {
  ref = ref_of;
  tree = trees;
  parent = λ journal id. option_and_then (λ (s : SnapshotFile). s.parent) (snap_made journal id);
}

-- what the changes given for each position make of a tree
abbrev pub applied : (ℕ → Changes) → ℕ → Change
applied given n = apply (given n)
