-- Runs of tasks over one store on which nobody else acts (own).
use Rattle.std.specs.Prelude.{◌≡◌, ℕ, List, [], ◌∷◌, ◌++◌, true, Some, All}
use Rattle.std.specs.FinMap.{get}
use Rattle.ice_ids.specs.declared.Id8.{Id8}
use Rattle.ice_ids.specs.declared.Id12.{Id12}
use Rattle.ice_ids.specs.declared.drawing.Draw.{Draw}
use Rattle.zarr_tree.specs.declared.lists.Touched.{Touched}
use Rattle.zarr_tree.specs.Nodes.{Node}
use Rattle.zarr_tree.specs.Trees.{Tree, node_at}
use Rattle.zarr_tree.specs.Changes.{Changes, apply, IsNormal}
use Rattle.zarr_tree.specs.Touched.{Touches}
use Rattle.snapshot_file.specs.declared.snapshot.SnapshotFile.{SnapshotFile}
use Rattle.snapshot_file.specs.declared.nodes.NodeRow.{NodeRow}
use Rattle.repo_objects.specs.Trees.{HasTree}
use Rattle.object_store.specs.declared.keys.Key.TheVariants.{Snapshot}
use Rattle.object_store.specs.declared.events.Event.{Event}
use Rattle.store_api.specs.Journal.{Each, WasPut, IsGood, IsGoodJournal, IsOnce}
use Rattle.store_api.specs.Journal.{puts_of, rows_of, tree_of, snap_made, log_made}
use Rattle.store_api.specs.Program.{Prog, Path}
use Rattle.histories.specs.Calls.{IsGiven}
use Rattle.histories.specs.Formats.{files_by, applied}
use Rattle.repository.specs.Beginning.{begin_program}
use Rattle.repository.specs.Refs.{refs_program}
use Rattle.play_script.specs.declared.scripts.Task.{Task}
use Rattle.play_script.specs.Well.{IsWellTask}
use Rattle.play_tasks.specs.Tasks.{IsOfClient}
use Rattle.reach.specs.Chains.{Chain}

-- the snapshot can be read, and its rows have a tree: the manifests that they name were put and are
-- readable, the bytes of their chunks are there, and the tree is well formed
pub record HasWellFormedTree (journal : List Event) (id : Id12) : Type 0 where
  pub rows : List NodeRow
  pub is : rows_of journal id ≡ Some rows
  pub has : HasTree (puts_of journal) rows

-- each snapshot that was put has one
abbrev pub AllTrees : List Event → Type 0
AllTrees journal = (id : Id12) → WasPut journal (Snapshot id) → HasWellFormedTree journal id

-- ---- where snapshots come from
-- the snapshot was first put with this one as its parent
pub record IsChildOf (journal : List Event) (base id : Id12) : Type 0 where
  pub snap : SnapshotFile
  pub made : snap_made journal id ≡ Some snap
  pub parent : snap.parent ≡ Some base

-- from a snapshot down to another one, along the parents that were first named:
-- these are the snapshots below it
unfoldable pub Descends : List Event → Id12 → List Id12 → Id12 → Type 0
Descends journal id [] below = below ≡ id
Descends journal id (x ∷ xs) below = IsChildOf journal x id × Descends journal x xs below

-- the one is the other, or an ancestor of it
pub record IsAncestor (journal : List Event) (below id : Id12) : Type 0 where
  pub way : List Id12
  pub descends : Descends journal id way below

-- the snapshot's tree has a node with this id
pub record HasNode (journal : List Event) (snapshot : Id12) (id : Id8) : Type 0 where
  pub tree : Tree
  pub has : tree_of journal snapshot ≡ Some tree
  pub path : List ℕ
  pub node : Node
  pub found : node_at tree path ≡ Some node
  pub same : node.id ≡ id

-- A snapshot comes from the one that it first named as its parent: by changes that are normal for
-- the parent's tree, and of which its log lists what they touch. No tree of the parent, or of one
-- below it along parents as they stand, has a node that they add; and each that they drop is one of
-- the tree of the parent or of an ancestor.
pub record HasCause (journal : List Event) (base id : Id12) : Type 0 where
  pub before : Tree
  pub was : tree_of journal base ≡ Some before
  pub changes : Changes
  pub normal : IsNormal changes before
  pub is : tree_of journal id ≡ Some (apply changes before)
  pub lists : Touched
  pub logged : log_made journal id ≡ Some lists
  pub touches : Touches changes before lists
  pub fresh : (p : List ℕ) (n : Node) (below : Id12) → get changes.added p ≡ Some n
      → Chain journal base below → ¬ HasNode journal below n.id
  pub drops : (node : Id8) → changes.dropped node ≡ true
      → (below : Id12) × IsAncestor journal below base × HasNode journal below node

-- each snapshot that named a parent has one
abbrev pub AllCaused : List Event → Type 0
AllCaused journal = (base id : Id12) → IsChildOf journal base id → HasCause journal base id

-- A journal that a run may go on: each event is legal and polite, nothing is put again, the changes
-- for each commit lead from its parent's tree to its own, each snapshot has a well-formed tree, of
-- which all is readable, and comes from its parent by changes that its log tells.
pub record IsSound (journal : List Event) (changes : ℕ → Changes) : Type 0 where
  pub good : IsGoodJournal journal
  pub once : IsOnce journal
  pub given : Each (IsGiven (files_by (tree_of journal)) (applied changes)) [] journal
  pub trees : AllTrees journal
  pub causes : AllCaused journal

-- From old to new there were events of this program, to its end or not,
-- each of them good, and no others.
pub record RanAlone {A : Type 0} (p : Prog A) (old new : List Event) : Type 0 where
  pub own : List Event
  pub is : new ≡ old ++ own
  pub good : Each IsGood old own
  pub left : Prog A
  pub path : Path p own left

-- From old to new there were events of the tasks' clients, in any order, each of them good and owed
-- by its client's task, and no others.
pub record PlayedAlone (draw : Draw) (tasks : List Task) (old new : List Event) : Type 0 where
  pub own : List Event
  pub is : new ≡ old ++ own
  pub owed : Each (IsOfClient draw tasks old) old own

-- the event is of this client
abbrev pub IsBy : ℕ → List Event → Event → Type 0
IsBy client journal event = event.client ≡ client

-- From old to new a repository was begun, where there was none, then the tasks of a script were
-- played, and then the refs were read, by client 0; nobody else acted.
pub record IsRun (draw : Draw) (tasks : List Task) (old new : List Event) : Type 0 where
  pub well : All IsWellTask tasks
  pub begun : List Event
  pub played : List Event
  pub opening : RanAlone begin_program old begun
  pub playing : PlayedAlone draw tasks begun played
  pub closing : RanAlone refs_program played new
  pub reader : Each (IsBy 0) played closing.own
