-- What a client that commits sessions owes of each of its operations.
use Rattle.zarr_changes.specs.Sets.{length_of}
use Rattle.repo_objects.specs.Trees.{Extends, Puts, bytes_at, tree_under, NamesManifest, IsReadable}
use Rattle.session.specs.Sources.{MayDrawObject}
use Rattle.std.specs.Prelude.{◌≡◌, ◌⊎◌, ℕ, List, length, Some}
use Rattle.ice_ids.specs.declared.Id8.{Id8}
use Rattle.snapshot_file.specs.declared.nodes.NodeRow.{NodeRow}
use Rattle.ice_ids.specs.declared.Id12.{Id12}
use Rattle.ice_ids.specs.declared.drawing.AnyIds.{AnyIds}
use Rattle.zarr_tree.specs.Changes.{IsNormal}
use Rattle.zarr_tree.specs.Held.{HeldEntry, touched, entry_in}
use Rattle.manifest_file.specs.declared.manifest.Place.{Place}
use Rattle.snapshot_file.specs.declared.snapshot.SnapshotFile.{SnapshotFile}
use Rattle.repo_objects.specs.Readings.{snapshot_by, ref_of}
use Rattle.object_store.specs.declared.keys.Key.{Key}
use Rattle.object_store.specs.declared.keys.Key.TheVariants.{Snapshot, Manifest, Txn, Chunk}
use Rattle.object_store.specs.declared.keys.Key.TheVariants.{Branch, Tag, Tombstone, Lease}
use Rattle.object_store.specs.declared.keys.Why.{Why}
use Rattle.object_store.specs.declared.keys.Why.TheVariants.{Commit, Lease as For_lease}
use Rattle.object_store.specs.declared.events.Op.{Op}
use Rattle.object_store.specs.declared.events.Op.TheVariants.{Get, PutNew, PutOver, Remove}
use Rattle.object_store.specs.declared.events.Op.TheVariants.{RemoveAt, List as ListPart}
use Rattle.object_store.specs.declared.events.Event.{Event}
use Rattle.store_api.specs.Journal.{WasPut, puts_of, rows_of, snap_made}
use Rattle.store_api.specs.Journal.{log_made, IsOnce, IsPolite, IsGood}
use Rattle.session.specs.Sessions.{SessionState, branch_of, version_of}
use Rattle.session.specs.Sessions.{base_nodes, base_tree, changes_in, overlay}

-- The client's sessions at their commits, by the journal until then, each with an
-- object id that its commit may draw.
abbrev pub Sessions : Type 1
Sessions = List Event → SessionState → Id12 → Type 0

-- the bytes of each chunk that was set are there, as many as its place tells
abbrev pub HasChunks : Puts → List (HeldEntry Place) → Type 0
HasChunks puts entries =
    (node : Id8) (i : List ℕ) (place : Place) → entry_in entries node i ≡ Some (Some place)
    → (bytes : List ℕ) × (bytes_at puts place ≡ Some bytes) × (length bytes ≡ length_of place)

-- Whatever more is put: where a session's changes are normal for its base's tree, the tree of
-- these rows is that tree under them.
abbrev pub HasOverlay : List Event → SessionState → List NodeRow → Type 0
HasOverlay journal s rows =
    (puts : Puts) → Extends (puts_of journal) puts → IsNormal (changes_in puts s) (base_tree puts s)
    → tree_under puts rows ≡ overlay puts s

-- whatever more is put: where a session's changes are normal and all that its base's rows name is
-- readable, all that these rows name is
abbrev pub KeepsReadable : List Event → SessionState → List NodeRow → Type 0
KeepsReadable journal s rows =
    (puts : Puts) → Extends (puts_of journal) puts → IsNormal (changes_in puts s) (base_tree puts s)
    → IsReadable puts s.rows → IsReadable puts rows

-- rows name no manifest that the session's base doesn't name, but those
-- under ids that the session drew
abbrev pub NamesOwn : SessionState → List NodeRow → Type 0
NamesOwn s rows =
    (manifest : Id12) → NamesManifest rows manifest
    → NamesManifest s.rows manifest ⊎ MayDrawObject s.ids manifest

-- The snapshot is a session's: the parent that it first named is the base, whose rows are the
-- session's; its log lists exactly what the session's changes touch; its tree is the base's under
-- them, where they are normal for it; and it names no manifest but the base's and the session's
-- own. The chunks that the session set are there. (Changes are normal where no node id was drawn
-- twice. Without it two nodes may have one id, and changes know ids alone.)
pub record IsMade (s : SessionState) (id : Id12) (journal : List Event) : Type 0 where
  pub base_put : WasPut journal (Snapshot s.base)
  pub base_rows : rows_of journal s.base ≡ Some s.rows
  pub snap : SnapshotFile
  pub made : snap_made journal id ≡ Some snap
  pub rows : rows_of journal id ≡ Some snap.nodes
  pub parent : snap.parent ≡ Some s.base
  pub logged : log_made journal id ≡ Some (touched s.held (base_nodes s))
  pub tree : HasOverlay journal s snap.nodes
  pub own : NamesOwn s snap.nodes
  pub chunks : HasChunks (puts_of journal) s.held.chunks

-- a branch is put over for a commit of one of the client's sessions, on its branch, at the version
-- that it had read, with its snapshot
pub record OwesOver (mine : Sessions) (journal : List Event) (branch bytes : List ℕ) (old : ℕ)
    (why : Why) : Type 0 where
  pub session : SessionState
  pub id : Id12
  pub is_mine : mine journal session id
  pub branch_is : branch ≡ branch_of session
  pub version_is : old ≡ version_of session
  pub names : ref_of bytes ≡ Some id
  pub why_is : why ≡ Commit
  pub made : IsOnce journal → IsMade session id journal

-- a snapshot is put that is one of the client's sessions': its base is the parent, and has the
-- session's rows; its tree is the base's under the changes, where they are normal, and then all
-- that it names is readable if all that the base names is; it names no manifest but the base's and
-- the session's own; and the session's chunks are there
pub record OwesSnap (mine : Sessions) (journal : List Event) (id : Id12)
    (bytes : List ℕ) : Type 0 where
  pub session : SessionState
  pub is_mine : mine journal session id
  pub snap : SnapshotFile
  pub read : snapshot_by id bytes ≡ Some snap
  pub parent : snap.parent ≡ Some session.base
  pub tree : IsOnce journal → HasOverlay journal session snap.nodes
  pub readable : IsOnce journal → KeepsReadable journal session snap.nodes
  pub own : NamesOwn session snap.nodes
  pub base_put : WasPut journal (Snapshot session.base)
  pub base_rows : IsOnce journal → rows_of journal session.base ≡ Some session.rows
  pub logged : IsOnce journal
      → log_made journal id ≡ Some (touched session.held (base_nodes session))
  pub chunks : IsOnce journal → HasChunks (puts_of journal) session.held.chunks

-- what is put new is a snapshot, or a log, a manifest, an object with a chunk or a lease under an
-- id that the client may draw, whose source of ids this is
abbrev pub OwesNew : AnyIds → Sessions → List Event → List ℕ → Key → Type 0
OwesNew ids mine journal bytes (Snapshot id) = OwesSnap mine journal id bytes
OwesNew ids mine journal bytes (Txn id) = MayDrawObject ids id
OwesNew ids mine journal bytes (Manifest id) = MayDrawObject ids id
OwesNew ids mine journal bytes (Chunk id) = MayDrawObject ids id
OwesNew ids mine journal bytes (Branch name) = ⊥
OwesNew ids mine journal bytes (Tag name) = ⊥
OwesNew ids mine journal bytes (Tombstone name) = ⊥
OwesNew ids mine journal bytes (Lease id) = MayDrawObject ids id

-- what is put over is a branch
abbrev pub OwesPutOver : Sessions → List Event → List ℕ → ℕ → Why → Key → Type 0
OwesPutOver mine journal bytes old why (Branch name) = OwesOver mine journal name bytes old why
OwesPutOver mine journal bytes old why (Snapshot id) = ⊥
OwesPutOver mine journal bytes old why (Manifest id) = ⊥
OwesPutOver mine journal bytes old why (Txn id) = ⊥
OwesPutOver mine journal bytes old why (Chunk id) = ⊥
OwesPutOver mine journal bytes old why (Tag name) = ⊥
OwesPutOver mine journal bytes old why (Tombstone name) = ⊥
OwesPutOver mine journal bytes old why (Lease id) = ⊥

-- what is removed is a lease under such an id: nobody releases another's
abbrev pub OwesGone : AnyIds → Why → Key → Type 0
OwesGone ids why (Lease id) = MayDrawObject ids id × (why ≡ For_lease)
OwesGone ids why (Snapshot id) = ⊥
OwesGone ids why (Manifest id) = ⊥
OwesGone ids why (Txn id) = ⊥
OwesGone ids why (Chunk id) = ⊥
OwesGone ids why (Branch name) = ⊥
OwesGone ids why (Tag name) = ⊥
OwesGone ids why (Tombstone name) = ⊥

-- a client that opens sessions, edits and commits them reads, puts objects and leases, puts
-- branches over, and releases its leases
abbrev pub Owes : AnyIds → Sessions → List Event → Op → Type 0
Owes ids mine journal (Get key) = Unit {0}
Owes ids mine journal (ListPart part) = Unit {0}
Owes ids mine journal (PutNew key bytes why) = OwesNew ids mine journal bytes key
Owes ids mine journal (PutOver key bytes old why) = OwesPutOver mine journal bytes old.0 why key
Owes ids mine journal (Remove key why) = OwesGone ids why key
Owes ids mine journal (RemoveAt key old why) = ⊥

-- each operation is polite, and owed
pub record IsCareful (ids : AnyIds) (mine : Sessions) (journal : List Event) (client : ℕ)
    (op : Op) : Type 0 where
  pub polite : IsPolite journal op
  pub owes : Owes ids mine journal op

-- the event is good, and owed
pub record IsCarefulEvent (ids : AnyIds) (mine : Sessions) (journal : List Event)
    (event : Event) : Type 0 where
  pub good : IsGood journal event
  pub owes : Owes ids mine journal event.op
