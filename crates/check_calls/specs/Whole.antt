-- When what a store has is whole. No check is known here. (Zarr v3 core specification, "Hierarchy",
-- "Chunks"; Icechunk specification version 1, "Snapshots", "Manifests", "Chunks". That a part of an
-- object is as long as its chunk is own.)
use Rattle.std.specs.Prelude.{◌≡◌, ◌⊎◌, ℕ, ◌+◌, ◌≤◌, List, length, Contains, Some, None}
use Rattle.ice_ids.specs.declared.Id12.{Id12}
use Rattle.ice_ids.specs.Text.{initial_id}
use Rattle.manifest_file.specs.declared.manifest.Place.{Place}
use Rattle.manifest_file.specs.declared.manifest.Place.TheVariants.{Inline, Object}
use Rattle.manifest_file.specs.declared.manifest.ChunkRef.{ChunkRef}
use Rattle.manifest_file.specs.declared.manifest.ManifestFile.{ManifestFile}
use Rattle.snapshot_file.specs.declared.nodes.ManifestRef.{ManifestRef}
use Rattle.snapshot_file.specs.declared.nodes.NodeRow.{NodeRow}
use Rattle.snapshot_file.specs.declared.snapshot.SnapshotFile.{SnapshotFile}
use Rattle.snapshot_file.specs.Snapshots.{manifests_named}
use Rattle.txn_file.specs.declared.log.TxnFile.{TxnFile}
use Rattle.repo_objects.specs.Readings.{snapshot_by, log_by, ref_of}
use Rattle.repo_objects.specs.Trees.{Puts, HasTree, NamesManifest, manifest_put}
use Rattle.object_store.specs.declared.keys.Key.{Key}
use Rattle.object_store.specs.declared.keys.Key.TheVariants.{Snapshot, Manifest, Txn, Chunk}
use Rattle.object_store.specs.declared.events.Event.{Event}
use Rattle.object_store.specs.Machine.{Stored, found}
use Rattle.store_api.specs.Journal.{puts_of}
use Rattle.live_refs.specs.Laws.{IsNotGone}
use Rattle.intact.specs.Rows.{want_of}
use Rattle.intact.specs.Parts.{entries_of}
use Rattle.reach.specs.Chains.{Chain, parent_at}
use Rattle.history_laws.specs.Refs.{IsRef}
use Rattle.history_laws.specs.Laws.{Stands}

-- ---- chunks
-- an object stands, with at least so many bytes
pub record HasBytes (journal : List Event) (object : Id12) (count : ℕ) : Type 0 where
  pub stored : Stored
  pub stands : found journal (Chunk object) ≡ Some stored
  pub long : count ≤ length stored.bytes

-- The bytes at a place are as many as a chunk has; where they are a part of an object, that
-- stands, and the part lies in it.
abbrev pub IsWholeChunk : List Event → (want : ℕ) → Place → Type 0
IsWholeChunk journal want (Inline bytes) = length bytes ≡ want
IsWholeChunk journal want (Object id offset size) =
    (size ≡ want) × HasBytes journal id (offset + size)

-- a manifest that the row names has this entry under the row's node
pub record HasEntry (puts : Puts) (row : NodeRow) (chunk : ChunkRef) : Type 0 where
  pub manifest : ManifestRef
  pub named : Contains (manifests_named row.kind) manifest
  pub file : ManifestFile
  pub is : manifest_put puts manifest.id ≡ Some file
  pub has : Contains (entries_of row.id file) chunk

-- ---- snapshots
-- the snapshot's log stands, and can be read
pub record HasLog (journal : List Event) (id : Id12) : Type 0 where
  pub stored : Stored
  pub stands : found journal (Txn id) ≡ Some stored
  pub log : TxnFile
  pub read : log_by id stored.bytes ≡ Some log

-- The snapshot stands and has a tree; its log (the initial one has none) and the manifests that its
-- rows name stand; and each chunk that these have under a row's node is whole, also one that is in
-- no tree, as it lies outside the manifest's extents or an earlier manifest has another.
pub record IsWholeSnapshot (journal : List Event) (id : Id12) : Type 0 where
  pub stored : Stored
  pub stands : found journal (Snapshot id) ≡ Some stored
  pub snap : SnapshotFile
  pub read : snapshot_by id stored.bytes ≡ Some snap
  pub tree : HasTree (puts_of journal) snap.nodes
  pub log : (id ≡ initial_id) ⊎ HasLog journal id
  pub manifests : (manifest : Id12) → NamesManifest snap.nodes manifest
      → Stands journal (Manifest manifest)
  pub chunks : (row : NodeRow) (chunk : ChunkRef) → Contains snap.nodes row
      → HasEntry (puts_of journal) row chunk → IsWholeChunk journal (want_of row) chunk.place

-- ---- chains
-- the chain of parents as they stand ends
pub data ChainEnds (journal : List Event) : Id12 → Type 0 where
  last : {id : Id12} → parent_at journal id ≡ None → ChainEnds journal id
  further : {id parent : Id12} → parent_at journal id ≡ Some parent → ChainEnds journal parent
      → ChainEnds journal id

-- the chain ends, and each snapshot of it is whole
pub record IsWhole (journal : List Event) (id : Id12) : Type 0 where
  pub ends : ChainEnds journal id
  pub each : (at : Id12) → Chain journal id at → IsWholeSnapshot journal at

-- ---- refs
-- a ref's bytes are a reference to a snapshot that is whole
pub record NamesWhole (journal : List Event) (bytes : List ℕ) : Type 0 where
  pub id : Id12
  pub names : ref_of bytes ≡ Some id
  pub whole : IsWhole journal id

-- each branch that stands, and each tag without a tombstone
abbrev pub AllWhole : List Event → Type 0
AllWhole journal =
    (ref : Key) (stored : Stored) → IsRef ref → IsNotGone (found journal) ref
    → found journal ref ≡ Some stored → NamesWhole journal stored.bytes
