-- What a collection marks, by what its gets answered (own).
use Rattle.std.specs.Prelude.{◌≡◌, List, Contains, Some}
use Rattle.ice_ids.specs.Text.{initial_id}
use Rattle.ice_ids.specs.declared.Id12.{Id12}
use Rattle.snapshot_file.specs.declared.snapshot.SnapshotFile.{SnapshotFile}
use Rattle.manifest_file.specs.declared.manifest.ManifestFile.{ManifestFile}
use Rattle.repo_objects.specs.Trees.{NamesManifest, NamesChunk}
use Rattle.object_store.specs.declared.keys.Key.{Key}
use Rattle.object_store.specs.declared.keys.Key.TheVariants.{Snapshot, Manifest, Txn, Chunk}

-- The least set of keys with the initial snapshot and its log, the roots' snapshots, and with
-- each snapshot, as it was read, its log, its parent, the manifests that it names, and the
-- objects in which these have chunks.
pub data MarkedBy (roots : List Id12) (reads : List SnapshotFile)
    (files : List ManifestFile) : Key → Type 0 where
  first : MarkedBy roots reads files (Snapshot initial_id)
  first_log : MarkedBy roots reads files (Txn initial_id)
  root : {id : Id12} → Contains roots id → MarkedBy roots reads files (Snapshot id)
  log : (s : SnapshotFile) → Contains reads s → MarkedBy roots reads files (Snapshot s.id)
      → MarkedBy roots reads files (Txn s.id)
  parent : {id : Id12} (s : SnapshotFile) → Contains reads s
      → MarkedBy roots reads files (Snapshot s.id) → s.parent ≡ Some id
      → MarkedBy roots reads files (Snapshot id)
  manifest : {id : Id12} (s : SnapshotFile) → Contains reads s
      → MarkedBy roots reads files (Snapshot s.id) → NamesManifest s.nodes id
      → MarkedBy roots reads files (Manifest id)
  chunk : {id : Id12} (s : SnapshotFile) (m : ManifestFile) → Contains reads s
      → MarkedBy roots reads files (Snapshot s.id) → NamesManifest s.nodes m.id → Contains files m
      → NamesChunk m id → MarkedBy roots reads files (Chunk id)

-- The least set of ids with the roots, and with each snapshot its parent as it was read.
pub data FoundBy (roots : List Id12) (reads : List SnapshotFile) : Id12 → Type 0 where
  named : {id : Id12} → Contains roots id → FoundBy roots reads id
  below : {id : Id12} (s : SnapshotFile) → Contains reads s → FoundBy roots reads s.id
      → s.parent ≡ Some id → FoundBy roots reads id
