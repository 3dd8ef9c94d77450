-- What is known of a journal and of a session of a task in it.
use Rattle.std.proofs.Common.{◌≡◌, inl, inr, ◌⊎◌, ℕ, true, List, [], ◌++◌, refl, sym, ◌∙◌, ap, subst}
use Rattle.std.specs.FinMap.{get}
use Rattle.std.specs.Prelude.{None, Option, Some, option_map}
use Rattle.ice_ids.specs.Text.{initial_id}
use Rattle.ice_ids.specs.declared.Id12.{Id12}
use Rattle.ice_ids.specs.declared.Id8.{Id8}
use Rattle.ice_ids.specs.declared.drawing.AnyIds.{AnyIds}
use Rattle.zarr_tree.specs.Changes.{IsNormal}
use Rattle.zarr_tree.specs.Nodes.{Node}
use Rattle.zarr_tree.specs.Touched.{lists}
use Rattle.zarr_tree.specs.Trees.{IsWellFormed}
use Rattle.snapshot_file.specs.Initial.{initial_snapshot}
use Rattle.snapshot_file.specs.declared.nodes.NodeRow.{NodeRow}
use Rattle.snapshot_file.specs.declared.snapshot.SnapshotFile.{SnapshotFile}
use Rattle.repo_objects.specs.Laws.{InitialLaw, initial_bytes}
use Rattle.repo_objects.specs.Trees.{tree_under}
use Rattle.store_api.specs.Journal.{Each, IsGoodJournal, IsOnce, WasPut, log_made, puts_of, rows_of, snap_in}
use Rattle.object_store.specs.declared.events.Event.{Event}
use Rattle.object_store.specs.declared.keys.Key.TheVariants.{Snapshot}
use Rattle.store_api.proofs.Once.{initial-last}
use Rattle.session.specs.Sessions.{SessionState, base_tree}
use Rattle.session.specs.Sources.{IsLater, MayDrawNode}
use Rattle.commit_path.specs.Single.{PutsNone}
use Rattle.rebase.specs.Along.{Link}
use Rattle.rebase.specs.AlongLaws.{HasOneTextEach}
use Rattle.rebase.proofs.Made.{first-put-as}
use Rattle.reach.specs.Chains.{parent_at}
use Rattle.run_histories.specs.Runs.{AllCaused, AllTrees, HasNode, IsAncestor, IsChildOf}
use Rattle.run_histories.specs.Sources.{NodesAreNew}
use Rattle.run_histories.proofs.Ancestors.{IsFree}
use Rattle.run_histories.proofs.Origins.{AllCome}
use Rattle.run_histories.proofs.Sized.{changes_sized}
use Rattle.run_histories.proofs.Sources.{SpendsNodes}

some-same : {A : Type 0} (a b : A) → Some a ≡ Some b → a ≡ b
some-same a b e = cc

-- What is known of a journal that goes on from a start at which the client's nodes were new, where its source draws no node id twice: it is sound; each snapshot since is the client's own, or
-- inherits what it has of the client's nodes; and until the client put one, its nodes were new.
pub record Grounds (ids : AnyIds) (client : ℕ) (start journal : List Event) : Type 0 where
  pub good : IsGoodJournal journal
  pub once : IsOnce journal
  pub trees : AllTrees journal
  pub causes : AllCaused journal
  pub spends : SpendsNodes ids
  pub since : List Event
  pub is : journal ≡ start ++ since
  pub new : NodesAreNew ids start
  pub early : (first rest : List Event) → since ≡ first ++ rest → Each (PutsNone client) start first → NodesAreNew ids (start ++ first)
  pub come : AllCome ids client start journal

-- A node of a snapshot, or of an ancestor of it.
pub record HasNodeBelow (journal : List Event) (id : Id12) (node : Id8) : Type 0 where
  pub below : Id12
  pub ancestor : IsAncestor journal below id
  pub has : HasNode journal below node

-- A session of a task, by the journal. Its base was put, with its rows. What it adds has ids that its source may draw, and then neither the base nor one
-- below it along parents as they stand has a node with such an id; what it drops is a node of the base or of an ancestor; and its changes are normal for the base's tree, by the lengths of chunks.
pub record IsCarried (ids : AnyIds) (journal : List Event) (t : SessionState) : Type 0 where
  pub later : IsLater ids t.ids
  pub put : WasPut journal (Snapshot t.base)
  pub rows : rows_of journal t.base ≡ Some t.rows
  pub added : (p : List ℕ) (n : Node) → get t.held.added p ≡ Some n → MayDrawNode ids n.id
  pub free : (p : List ℕ) (n : Node) → get t.held.added p ≡ Some n → IsFree ids journal t.base
  pub drops : (node : Id8) → lists t.held.dropped node ≡ true → HasNodeBelow journal t.base node
  pub normal : IsNormal (changes_sized t) (base_tree (puts_of journal) t)
  pub texts : HasOneTextEach t.held

-- One commit, whose log and snapshot were read: its snapshot was first put with this one as its parent; or this is the initial one, and its parent as it
-- stands.
pub record IsLink (journal : List Event) (base : Id12) (l : Link) : Type 0 where
  pub put : WasPut journal (Snapshot l.file.id)
  pub rows : rows_of journal l.file.id ≡ Some l.file.nodes
  pub logged : log_made journal l.file.id ≡ Some l.lists
  pub parent : IsChildOf journal base l.file.id ⊎ ((base ≡ initial_id) × (parent_at journal l.file.id ≡ Some initial_id))

-- ---- the initial snapshot
pub initial-rows : InitialLaw → (journal : List Event) → IsOnce journal → WasPut journal (Snapshot initial_id) → rows_of journal initial_id ≡ Some []
initial-rows initial journal once put =
    ap (λ (o : Option (List ℕ)). option_map (λ (f : SnapshotFile). f.nodes) (snap_in initial_id o)) (initial-last journal once put) ∙ ap (option_map (λ (f : SnapshotFile). f.nodes)) initial

-- it has no parent
pub initial-alone : InitialLaw → (journal : List Event) → IsGoodJournal journal → IsOnce journal → WasPut journal (Snapshot initial_id) → (base : Id12) → ¬ IsChildOf journal base initial_id
initial-alone initial journal good once put base child =
    let first = first-put-as journal initial_id initial_bytes initial_snapshot good once (initial-last journal once put) initial in
    let same : initial_snapshot ≡ child.snap = elim first.same [ inl e ↦ e | inr cut ↦ absurd (cut.1 refl) ] ∙ some-same first.snap child.snap (sym first.made ∙ child.made) in
    let no : None ≡ Some base = ap (λ (f : SnapshotFile). f.parent) same ∙ child.parent in
    absurd cc

module _ (ids : AnyIds) (client : ℕ) (start journal : List Event) (g : Grounds ids client start journal) where
  -- the tree of a snapshot with these rows is well formed
  pub well-rows : (id : Id12) (rows : List NodeRow) → WasPut journal (Snapshot id) → rows_of journal id ≡ Some rows → IsWellFormed (tree_under (puts_of journal) rows)
  well-rows id rows put is =
      let t = g.trees id put in
      subst (λ (r : List NodeRow). IsWellFormed (tree_under (puts_of journal) r)) (some-same t.rows rows (sym t.is ∙ is)) t.has.well_formed
