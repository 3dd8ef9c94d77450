-- Sources of ids whose draws are new to a journal (own).
use Rattle.std.specs.Prelude.{◌≡◌, ◌≢◌, ℕ, ◌+◌, ◌<◌, List, length, None, Some, IsTrue}
use Rattle.ice_ids.specs.declared.Id8.{Id8}
use Rattle.ice_ids.specs.declared.Id12.{Id12}
use Rattle.ice_ids.specs.declared.drawing.AnyIds.{AnyIds}
use Rattle.ice_ids.specs.declared.drawing.Draw.{Draw}
use Rattle.ice_ids.specs.Drawing.{DrawsOnce}
use Rattle.ice_ids.specs.Text.{initial_id}
use Rattle.zarr_tree.specs.Nodes.{Node}
use Rattle.zarr_tree.specs.Trees.{Tree, node_at}
use Rattle.object_store.specs.declared.keys.Key.{Key}
use Rattle.object_store.specs.declared.keys.Key.TheVariants.{Snapshot, Manifest, Txn, Chunk, Lease}
use Rattle.object_store.specs.declared.keys.Why.{Why}
use Rattle.object_store.specs.declared.events.Op.TheVariants.{PutNew}
use Rattle.object_store.specs.declared.events.Event.{Event}
use Rattle.object_store.specs.Machine.{first_put}
use Rattle.store_api.specs.Journal.{IsUnused, tree_of}
use Rattle.session.specs.Sources.{MayDrawObject, MayDrawNode}
use Rattle.commit_path.specs.Own.{HasNotPut, id_of}
use Rattle.play_script.specs.Collections.{has_collection}
use Rattle.play_script.specs.declared.scripts.Task.{Task}
use Rattle.play_tasks.specs.Tasks.{ids_at}

-- what was put under an id, a snapshot, a log, a manifest or an object with a chunk, still stands
pub record IsUnusedId (journal : List Event) (id : Id12) : Type 0 where
  pub snapshot : IsUnused journal (Snapshot id)
  pub log : IsUnused journal (Txn id)
  pub manifest : IsUnused journal (Manifest id)
  pub chunk : IsUnused journal (Chunk id)

-- and so it is of each id that the source may draw
abbrev pub ObjectsAreNew : AnyIds → List Event → Type 0
ObjectsAreNew ids journal = (id : Id12) → MayDrawObject ids id → IsUnusedId journal id

-- no node of a tree of the journal has an id that the source may draw
abbrev pub NodesAreNew : AnyIds → List Event → Type 0
NodesAreNew ids journal =
    (id : Id12) (t : Tree) (p : List ℕ) (n : Node) → tree_of journal id ≡ Some t
    → node_at t p ≡ Some n → ¬ MayDrawNode ids n.id

-- What a source may draw is new to the journal.
pub record IsNewSource (ids : AnyIds) (journal : List Event) : Type 0 where
  pub objects : ObjectsAreNew ids journal
  pub nodes : NodesAreNew ids journal

-- ---- what was never put
-- nothing was ever put under an id: no snapshot, log, manifest, object with a chunk, or lease
pub record IsUnputId (journal : List Event) (id : Id12) : Type 0 where
  pub snapshot : first_put journal (Snapshot id) ≡ None
  pub log : first_put journal (Txn id) ≡ None
  pub manifest : first_put journal (Manifest id) ≡ None
  pub chunk : first_put journal (Chunk id) ≡ None
  pub lease : first_put journal (Lease id) ≡ None

-- and so it is of each id that the source may draw; whatever is removed, it stays so
abbrev pub ObjectsAreUnput : AnyIds → List Event → Type 0
ObjectsAreUnput ids journal = (id : Id12) → MayDrawObject ids id → IsUnputId journal id

-- so it is of the sources of a run's clients
abbrev pub IsUnputRun : Draw → List Task → List Event → Type 0
IsUnputRun draw tasks journal =
    (place : ℕ) → place < length tasks → ObjectsAreUnput (ids_at draw place) journal

-- where the event puts an object new, done or not, but for the initial snapshot,
-- nothing was ever put under its key
abbrev pub PutsUnput : List Event → Event → Type 0
PutsUnput journal event =
    (key : Key) (bytes : List ℕ) (why : Why) (id : Id12) → event.op ≡ PutNew key bytes why
    → id_of key ≡ Some id → id ≢ initial_id → first_put journal key ≡ None

-- What a run's client may draw and didn't put itself since `start` was never put: so it is
-- of what is left of its source.
abbrev pub IsLeftUnput : Draw → List Task → (start journal : List Event) → Type 0
IsLeftUnput draw tasks start journal =
    (place : ℕ) → place < length tasks → (id : Id12) → MayDrawObject (ids_at draw place) id
    → (key : Key) → id_of key ≡ Some id → HasNotPut key (place + 1) start journal
    → first_put journal key ≡ None

-- ---- runs and other sources
-- The clients of a run draw no id twice, and their sources are new to the journal that the
-- run goes on; where a task of it collects, so that what was put need not stand, nothing was
-- ever put under what they may draw.
pub record IsNewRun (draw : Draw) (tasks : List Task) (journal : List Event) : Type 0 where
  pub once : DrawsOnce draw (length tasks)
  pub sources : (place : ℕ) → place < length tasks → IsNewSource (ids_at draw place) journal
  pub unput : IsTrue (has_collection tasks) → IsUnputRun draw tasks journal

-- a source that draws no node id which one of a run's may draw
abbrev pub IsOfAnother : Draw → List Task → AnyIds → Type 0
IsOfAnother draw tasks ids =
    (place : ℕ) → place < length tasks → (id : Id8) → MayDrawNode (ids_at draw place) id
    → ¬ MayDrawNode ids id

-- a source that draws no object id which one of a run's may draw, nor the initial snapshot's
pub record DrawsOthers (draw : Draw) (tasks : List Task) (ids : AnyIds) : Type 0 where
  pub others : (place : ℕ) → place < length tasks → (id : Id12)
      → MayDrawObject (ids_at draw place) id → ¬ MayDrawObject ids id
  pub initial : ¬ MayDrawObject ids initial_id
