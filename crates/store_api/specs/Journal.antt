-- Legal and polite journals.
use Rattle.std.specs.Prelude.{◌≡◌, ◌≢◌, ◌⊎◌, ℕ, ◌+◌, true, List, [], ◌∷◌, ◌++◌}
use Rattle.std.specs.Prelude.{Option, Some, None, option_map}
use Rattle.std.specs.Option.{option_and_then}
use Rattle.ice_ids.specs.declared.Id12.{Id12}
use Rattle.zarr_tree.specs.Trees.{Tree, IsWellFormed}
use Rattle.zarr_tree.specs.declared.lists.Touched.{Touched}
use Rattle.zarr_tree.specs.Touched.{DiffersIn}
use Rattle.ice_base.specs.Names.{main_name}
use Rattle.ice_ids.specs.Text.{initial_id}
use Rattle.snapshot_file.specs.declared.nodes.NodeRow.{NodeRow}
use Rattle.snapshot_file.specs.declared.snapshot.SnapshotFile.{SnapshotFile}
use Rattle.manifest_file.specs.declared.manifest.ManifestFile.{ManifestFile}
use Rattle.txn_file.specs.declared.log.TxnFile.{TxnFile}
use Rattle.repo_objects.specs.Readings.{snapshot_by, manifest_by, log_by, ref_of}
use Rattle.repo_objects.specs.Trees.{Puts, tree_under, NamesManifest, NamesChunk}
use Rattle.repo_objects.specs.Laws.{initial_bytes}
use Rattle.object_store.specs.declared.keys.Key.{Key}
use Rattle.object_store.specs.declared.keys.Key.TheVariants.{Snapshot, Manifest, Txn, Chunk}
use Rattle.object_store.specs.declared.keys.Key.TheVariants.{Branch, Tag, Tombstone, Lease}
use Rattle.object_store.specs.declared.keys.Why.{Why}
use Rattle.object_store.specs.declared.keys.Why.TheVariants.{Init, Commit, Create, Reset, Collect}
use Rattle.object_store.specs.declared.keys.Why.TheVariants.{Tag as For_tag, Lease as For_lease}
use Rattle.object_store.specs.declared.events.Op.{Op}
use Rattle.object_store.specs.declared.events.Op.TheVariants.{Get, PutNew, PutOver, Remove}
use Rattle.object_store.specs.declared.events.Op.TheVariants.{RemoveAt, List as ListPart}
use Rattle.object_store.specs.declared.events.Event.{Event}
use Rattle.object_store.specs.Machine.{found, first_put, last_put, was_done}
unfoldable pub use Rattle.object_store.specs.Journals.{Each}
pub use Rattle.object_store.specs.Journals.{WasPut, StoodAt}
use Rattle.object_store.specs.Callers.{IsGood as IsGoodBy}

-- ---- trees of snapshots
-- manifests and objects with chunks as they were last put, removed since or not
abbrev pub puts_of : List Event → Puts
puts_of journal = record {
  manifest = λ id. last_put journal (Manifest id);
  chunk = λ id. last_put journal (Chunk id);
}

-- the snapshot that bytes stand for under an id, if there are any
abbrev pub snap_in : Id12 → Option (List ℕ) → Option SnapshotFile
snap_in id bytes = option_and_then (snapshot_by id) bytes

-- the rows of a snapshot's last done put
abbrev pub rows_of : List Event → Id12 → Option (List NodeRow)
rows_of journal id =
    option_map (λ (s : SnapshotFile). s.nodes) (snap_in id (last_put journal (Snapshot id)))

-- The tree that a snapshot's last done put stands for, by what was put, removed since or not. It
-- has none where the snapshot wasn't put or isn't readable.
abbrev pub tree_of : List Event → Id12 → Option Tree
tree_of journal id =
    option_map (λ (s : SnapshotFile). tree_under (puts_of journal) s.nodes)
    (snap_in id (last_put journal (Snapshot id)))

-- what a log lists
abbrev pub lists_of : TxnFile → Touched
lists_of log = log.lists

-- the snapshot, and what its log lists, as they were first put
abbrev pub snap_made : List Event → Id12 → Option SnapshotFile
snap_made journal id = snap_in id (first_put journal (Snapshot id))

abbrev pub log_made : List Event → Id12 → Option Touched
log_made journal id = option_map lists_of (option_and_then (log_by id) (first_put journal (Txn id)))

-- all manifests that a snapshot names were put, and all objects in which a manifest has chunks
abbrev pub ManifestsPut : List Event → Option SnapshotFile → Type 0
ManifestsPut journal None = Unit {0}
ManifestsPut journal (Some s) =
    (id : Id12) → NamesManifest s.nodes id → WasPut journal (Manifest id)

abbrev pub ChunksPut : List Event → Option ManifestFile → Type 0
ChunksPut journal None = Unit {0}
ChunksPut journal (Some manifest) = (id : Id12) → NamesChunk manifest id → WasPut journal (Chunk id)

-- ---- no object is put again
-- The initial snapshot is put with its own bytes alone; another one isn't put where it was put
-- before; and the manifests that it names were put.
pub record PutsSnap (journal : List Event) (id : Id12) (bytes : List ℕ) : Type 0 where
  pub initial : id ≡ initial_id → bytes ≡ initial_bytes
  pub other : id ≢ initial_id → found journal (Snapshot id) ≡ None
      → first_put journal (Snapshot id) ≡ None
  pub named : ManifestsPut journal (snapshot_by id bytes)

-- where nothing stands, nothing was put
abbrev pub IsUnused : List Event → Key → Type 0
IsUnused journal key = found journal key ≡ None → first_put journal key ≡ None

abbrev pub PutsFirst : List Event → List ℕ → Key → Type 0
PutsFirst journal bytes (Snapshot id) = PutsSnap journal id bytes
PutsFirst journal bytes (Manifest id) =
    IsUnused journal (Manifest id) × ChunksPut journal (manifest_by id bytes)
PutsFirst journal bytes (Txn id) = IsUnused journal (Txn id)
PutsFirst journal bytes (Chunk id) = IsUnused journal (Chunk id)
PutsFirst journal bytes (Branch name) = Unit {0}
PutsFirst journal bytes (Tag name) = Unit {0}
PutsFirst journal bytes (Tombstone name) = Unit {0}
PutsFirst journal bytes (Lease id) = Unit {0}

abbrev pub PutsOver : List Event → List ℕ → Key → Type 0
PutsOver journal bytes (Snapshot id) =
    (id ≡ initial_id → bytes ≡ initial_bytes) × ManifestsPut journal (snapshot_by id bytes)
PutsOver journal bytes (Manifest id) = ChunksPut journal (manifest_by id bytes)
PutsOver journal bytes (Txn id) = Unit {0}
PutsOver journal bytes (Chunk id) = Unit {0}
PutsOver journal bytes (Branch name) = Unit {0}
PutsOver journal bytes (Tag name) = Unit {0}
PutsOver journal bytes (Tombstone name) = Unit {0}
PutsOver journal bytes (Lease id) = Unit {0}

abbrev pub IsFirstOp : List Event → Op → Type 0
IsFirstOp journal (Get key) = Unit {0}
IsFirstOp journal (PutNew key bytes why) = PutsFirst journal bytes key
IsFirstOp journal (PutOver key bytes old why) = PutsOver journal bytes key
IsFirstOp journal (Remove key why) = Unit {0}
IsFirstOp journal (RemoveAt key old why) = Unit {0}
IsFirstOp journal (ListPart part) = Unit {0}

-- where the event puts a snapshot, log, manifest or chunk, none was put there before,
-- and what its bytes name was put
abbrev pub IsFirst : List Event → Event → Type 0
IsFirst journal event = was_done event.reply ≡ true → IsFirstOp journal event.op

-- No snapshot, log, manifest or chunk is put again but the initial snapshot, and that with its own
-- bytes alone; and each is put after the manifests and chunks that its bytes name.
abbrev pub IsOnce : List Event → Type 0
IsOnce journal = Each IsFirst [] journal

-- ---- politeness
-- The snapshot and its log were first put so: its parent is the base, from whose tree, where that
-- is well formed, its own differs only in what the log lists.
pub record IsMadeOver (journal : List Event) (base id : Id12) : Type 0 where
  pub snap : SnapshotFile
  pub made : snap_made journal id ≡ Some snap
  pub parent : snap.parent ≡ Some base
  pub log : Touched
  pub logged : log_made journal id ≡ Some log
  pub differs : (t u : Tree) → tree_of journal base ≡ Some t → IsWellFormed t
      → tree_of journal id ≡ Some u → DiffersIn log t u

-- a put of the snapshot had this parent
pub record HadParent (journal : List Event) (id parent : Id12) : Type 0 where
  pub version : ℕ
  pub bytes : List ℕ
  pub stood : StoodAt journal (Snapshot id) version bytes
  pub snap : SnapshotFile
  pub read : snapshot_by id bytes ≡ Some snap
  pub parent_is : snap.parent ≡ Some parent

-- The snapshot is a commit over this version of the branch: it was put with the
-- snapshot that was named there as its parent, and after its log; where nothing is put
-- again, it is made over that snapshot.
pub record IsCommitOver (journal : List Event) (branch : List ℕ) (old : ℕ)
    (id : Id12) : Type 0 where
  pub base : Id12
  pub named_by : List ℕ
  pub named : StoodAt journal (Branch branch) old named_by
  pub names : ref_of named_by ≡ Some base
  pub base_put : WasPut journal (Snapshot base)
  pub child : HadParent journal id base
  pub log_put : WasPut journal (Txn id)
  pub once : IsOnce journal → IsMadeOver journal base id

-- the bytes are a reference to a snapshot that was put
pub record NamesPut (journal : List Event) (bytes : List ℕ) : Type 0 where
  pub id : Id12
  pub reference : ref_of bytes ≡ Some id
  pub put : WasPut journal (Snapshot id)

-- the parent that a snapshot names was put
abbrev pub ParentPut : List Event → Option SnapshotFile → Type 0
ParentPut journal None = Unit {0}
ParentPut journal (Some s) = (id : Id12) → s.parent ≡ Some id → WasPut journal (Snapshot id)

-- a put of the snapshot had these rows
pub record HadRows (journal : List Event) (id : Id12) (rows : List NodeRow) : Type 0 where
  pub version : ℕ
  pub bytes : List ℕ
  pub stood : StoodAt journal (Snapshot id) version bytes
  pub snap : SnapshotFile
  pub read : snapshot_by id bytes ≡ Some snap
  pub rows_are : snap.nodes ≡ rows

-- a put of the parent named the manifest
pub record ParentNames (journal : List Event) (parent : Option Id12)
    (manifest : Id12) : Type 0 where
  pub id : Id12
  pub is : parent ≡ Some id
  pub rows : List NodeRow
  pub had : HadRows journal id rows
  pub names : NamesManifest rows manifest

-- each manifest that a snapshot names was put, or is one that its parent named
abbrev pub ManifestsKnown : List Event → Option SnapshotFile → Type 0
ManifestsKnown journal None = Unit {0}
ManifestsKnown journal (Some s) =
    (id : Id12) → NamesManifest s.nodes id
    → WasPut journal (Manifest id) ⊎ ParentNames journal s.parent id

-- a put of an old manifest named the object
pub record OldNames (journal : List Event) (object : Id12) : Type 0 where
  pub id : Id12
  pub version : ℕ
  pub bytes : List ℕ
  pub stood : StoodAt journal (Manifest id) version bytes
  pub manifest : ManifestFile
  pub read : manifest_by id bytes ≡ Some manifest
  pub names : NamesChunk manifest object

-- each object in which a manifest has chunks was put, or is one in which an old manifest had chunks
abbrev pub ChunksKnown : List Event → Option ManifestFile → Type 0
ChunksKnown journal None = Unit {0}
ChunksKnown journal (Some manifest) =
    (id : Id12) → NamesChunk manifest id → WasPut journal (Chunk id) ⊎ OldNames journal id

-- A snapshot is put after its log (the initial one needs none), its parent, and the manifests that
-- it names, but for those that a put of its parent named; a manifest after the objects in which it
-- has chunks, but for those that an old manifest named; a branch with a reference to a snapshot
-- that was put, as a new one or as `main` with the initial snapshot; a tag likewise; a tombstone
-- after its tag; a lease with a reference to a snapshot that was put.
abbrev pub MayPutNew : List Event → List ℕ → Why → Key → Type 0
MayPutNew journal bytes why (Snapshot id) =
    ((id ≡ initial_id) ⊎ WasPut journal (Txn id)) × ParentPut journal (snapshot_by id bytes)
    × ManifestsKnown journal (snapshot_by id bytes)
MayPutNew journal bytes why (Txn id) = Unit {0}
MayPutNew journal bytes why (Manifest id) = ChunksKnown journal (manifest_by id bytes)
MayPutNew journal bytes why (Chunk id) = Unit {0}
MayPutNew journal bytes why (Branch name) =
    NamesPut journal bytes
    × ((why ≡ Create) ⊎ ((why ≡ Init) × (name ≡ main_name) × (ref_of bytes ≡ Some initial_id)))
MayPutNew journal bytes why (Tag name) = NamesPut journal bytes × (why ≡ For_tag)
MayPutNew journal bytes why (Tombstone name) = WasPut journal (Tag name)
MayPutNew journal bytes why (Lease id) = NamesPut journal bytes × (why ≡ For_lease)

-- A snapshot but the initial one is put over with only its parent changed, to the initial snapshot.
pub record IsCut (journal : List Event) (id : Id12) (old : ℕ) (bytes : List ℕ) : Type 0 where
  pub before : List ℕ
  pub stood : StoodAt journal (Snapshot id) old before
  pub snap : SnapshotFile
  pub was : snapshot_by id before ≡ Some snap
  pub is : snapshot_by id bytes ≡ Some (record snap { parent = Some initial_id })
  pub not_initial : id ≢ initial_id

-- A branch is put over as a reset, or as a commit over the version that was read.
pub record IsMoved (journal : List Event) (name : List ℕ) (old : ℕ) (bytes : List ℕ)
    (why : Why) : Type 0 where
  pub names : NamesPut journal bytes
  pub cause : (why ≡ Reset) ⊎ ((why ≡ Commit) × IsCommitOver journal name old names.id)

abbrev pub MayPutOver : List Event → List ℕ → ℕ → Why → Key → Type 0
MayPutOver journal bytes old why (Snapshot id) = IsCut journal id old bytes
MayPutOver journal bytes old why (Txn id) = ⊥
MayPutOver journal bytes old why (Manifest id) = ⊥
MayPutOver journal bytes old why (Chunk id) = ⊥
MayPutOver journal bytes old why (Branch name) = IsMoved journal name old bytes why
MayPutOver journal bytes old why (Tag name) = ⊥
MayPutOver journal bytes old why (Tombstone name) = ⊥
MayPutOver journal bytes old why (Lease id) = ⊥

-- A collection alone removes snapshots, logs, manifests and chunks; tags and tombstones stay, a
-- branch is removed at a version alone, and a lease as one.
abbrev pub MayRemove : Why → Key → Type 0
MayRemove why (Snapshot id) = why ≡ Collect
MayRemove why (Txn id) = why ≡ Collect
MayRemove why (Manifest id) = why ≡ Collect
MayRemove why (Chunk id) = why ≡ Collect
MayRemove why (Branch name) = ⊥
MayRemove why (Tag name) = ⊥
MayRemove why (Tombstone name) = ⊥
MayRemove why (Lease id) = why ≡ For_lease

-- ... and never `main`
abbrev pub MayRemoveAt : Why → Key → Type 0
MayRemoveAt why (Snapshot id) = why ≡ Collect
MayRemoveAt why (Txn id) = why ≡ Collect
MayRemoveAt why (Manifest id) = why ≡ Collect
MayRemoveAt why (Chunk id) = why ≡ Collect
MayRemoveAt why (Branch name) = name ≢ main_name
MayRemoveAt why (Tag name) = ⊥
MayRemoveAt why (Tombstone name) = ⊥
MayRemoveAt why (Lease id) = ⊥

-- an operation after the journal is polite
abbrev pub IsPolite : List Event → Op → Type 0
IsPolite journal (Get key) = Unit {0}
IsPolite journal (PutNew key bytes why) = MayPutNew journal bytes why key
IsPolite journal (PutOver key bytes old why) = MayPutOver journal bytes old.0 why key
IsPolite journal (Remove key why) = MayRemove why key
IsPolite journal (RemoveAt key old why) = MayRemoveAt why key
IsPolite journal (ListPart part) = Unit {0}

-- answered as the machine does, and polite
abbrev pub IsGood : List Event → Event → Type 0
IsGood = IsGoodBy IsPolite

-- a journal in which each event is legal and polite
abbrev pub IsGoodJournal : List Event → Type 0
IsGoodJournal journal = Each IsGood [] journal
