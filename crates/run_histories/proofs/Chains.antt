-- The parent of a snapshot as it stands is the one that it first named, or the initial snapshot.
use Rattle.std.proofs.Common.{◌≡◌, inl, inr, ◌⊎◌, ℕ, List, [], refl, sym, ◌∙◌, ap, subst}
use Rattle.std.specs.Prelude.{Option, Some, None, option_map}
use Rattle.std.specs.Option.{option_and_then}
use Rattle.ice_ids.specs.Text.{initial_id}
use Rattle.ice_ids.specs.declared.Id8.{Id8}
use Rattle.ice_ids.specs.declared.Id12.{Id12}
use Rattle.zarr_tree.specs.Nodes.{Node}
use Rattle.zarr_tree.specs.Trees.{Tree, node_at}
use Rattle.zarr_tree.proofs.Maps.{get-made}
use Rattle.snapshot_file.specs.Initial.{initial_snapshot}
use Rattle.snapshot_file.specs.declared.snapshot.SnapshotFile.{SnapshotFile}
use Rattle.repo_objects.specs.Laws.{InitialLaw, initial_bytes}
use Rattle.repo_objects.specs.Readings.{snapshot_by}
use Rattle.repo_objects.specs.Trees.{tree_under}
use Rattle.object_store.specs.declared.events.Event.{Event}
use Rattle.object_store.specs.declared.keys.Key.TheVariants.{Snapshot}
use Rattle.object_store.specs.Machine.{last_put}
use Rattle.store_api.specs.Journal.{IsGoodJournal, IsOnce, puts_of, snap_in, tree_of}
use Rattle.object_store.proofs.Slots.{sound}
use Rattle.store_api.proofs.Once.{initial-last}
use Rattle.rebase.proofs.Made.{first-put-as}
use Rattle.reach.specs.Chains.{parent_at, Chain, here, down}
use Rattle.reach.proofs.Parents.{parent_in}
use Rattle.run_histories.specs.Runs.{HasNode, IsChildOf}
use Rattle.run_histories.proofs.Putting.{tree-put}

some-same : {A : Type 0} (a b : A) → Some a ≡ Some b → a ≡ b
some-same a b e = cc

-- ---- in one journal
-- what was put last names this parent
record NamesLast (journal : List Event) (id parent : Id12) : Type 0 where
  bytes : List ℕ
  last : last_put journal (Snapshot id) ≡ Some bytes
  snap : SnapshotFile
  read : snapshot_by id bytes ≡ Some snap
  parent_is : snap.parent ≡ Some parent

names-last : (journal : List Event) (id parent : Id12) → parent_at journal id ≡ Some parent → NamesLast journal id parent
names-last journal id parent e = by_bytes (last_put journal (Snapshot id)) refl e
  where
    by_snap : (bytes : List ℕ) → last_put journal (Snapshot id) ≡ Some bytes → (o : Option SnapshotFile) → snapshot_by id bytes ≡ o → option_and_then (λ (s : SnapshotFile). s.parent) o ≡ Some parent → NamesLast journal id parent
    by_snap bytes l None r h = absurd cc
    by_snap bytes l (Some snap) r h = record { bytes = bytes; last = l; snap = snap; read = r; parent_is = h }

    by_bytes : (o : Option (List ℕ)) → last_put journal (Snapshot id) ≡ o → parent_in id o ≡ Some parent → NamesLast journal id parent
    by_bytes None l h = absurd cc
    by_bytes (Some bytes) l h = by_snap bytes l (snapshot_by id bytes) refl h

-- it was first named, or it is the initial snapshot
pub parent-cases : (journal : List Event) (id parent : Id12) → IsGoodJournal journal → IsOnce journal → parent_at journal id ≡ Some parent → IsChildOf journal parent id ⊎ (parent ≡ initial_id)
parent-cases journal id parent good once e =
    let n = names-last journal id parent e in
    let first = first-put-as journal id n.bytes n.snap good once n.last n.read in
    elim first.same [
      | inl same ↦ inl (record { snap = first.snap; made = first.made; parent = ap (λ (s : SnapshotFile). s.parent) (sym same) ∙ n.parent_is })
      | inr cut ↦ inr (some-same parent initial_id (sym n.parent_is ∙ ap (λ (s : SnapshotFile). s.parent) cut.0))
    ]

-- a snapshot down a chain is the first one, or is below its parent
pub record IsUnder (journal : List Event) (id below : Id12) : Type 0 where
  pub parent : Id12
  pub named : parent_at journal id ≡ Some parent
  pub chain : Chain journal parent below

pub chain-cases : {journal : List Event} {id below : Id12} → Chain journal id below → (below ≡ id) ⊎ IsUnder journal id below
chain-cases here = inl refl
chain-cases (down {parent = p} e c) = inr (record { parent = p; named = e; chain = c })

-- ---- the initial snapshot
module _ (initial : InitialLaw) (journal : List Event) (once : IsOnce journal) where
  -- it has no parent
  initial-ends : (parent : Id12) → ¬ (parent_at journal initial_id ≡ Some parent)
  initial-ends parent e =
      let n = names-last journal initial_id parent e in
      let last : last_put journal (Snapshot initial_id) ≡ Some initial_bytes = initial-last journal once ((sound journal (Snapshot initial_id)).begun n.bytes n.last) in
      let bytes : n.bytes ≡ initial_bytes = some-same n.bytes initial_bytes (sym n.last ∙ last) in
      let snap : n.snap ≡ initial_snapshot = some-same n.snap initial_snapshot (sym n.read ∙ ap (snapshot_by initial_id) bytes ∙ initial) in
      let none : None ≡ Some parent = ap (λ (s : SnapshotFile). s.parent) (sym snap) ∙ n.parent_is in
      cc

  -- so nothing else is down a chain from it
  pub chain-initial : (id below : Id12) → Chain journal id below → id ≡ initial_id → below ≡ initial_id
  chain-initial id below c is = elim (chain-cases c) [
    | inl same ↦ same ∙ is
    | inr under ↦ absurd (initial-ends under.parent (subst (λ (i : Id12). parent_at journal i ≡ Some under.parent) is under.named))
  ]

  -- and it has no node
  pub initial-bare : (id : Id12) (node : Id8) → id ≡ initial_id → ¬ HasNode journal id node
  initial-bare id node is has =
      let h : HasNode journal initial_id node = subst (λ (i : Id12). HasNode journal i node) is has in
      let last : last_put journal (Snapshot initial_id) ≡ Some initial_bytes = initial-last journal once (tree-put journal initial_id h.tree h.has) in
      let tree : tree_of journal initial_id ≡ Some (tree_under (puts_of journal) []) =
      ap (λ (o : Option (List ℕ)). option_map (λ (s : SnapshotFile). tree_under (puts_of journal) s.nodes) (snap_in initial_id o)) last ∙ ap (option_map (λ (s : SnapshotFile). tree_under (puts_of journal) s.nodes)) initial in
      let same : h.tree ≡ tree_under (puts_of journal) [] = some-same h.tree (tree_under (puts_of journal) []) (sym h.has ∙ tree) in
      let none : node_at (tree_under (puts_of journal) []) h.path ≡ None = get-made {X = Node} [] h.path in
      let bad : None ≡ Some h.node = sym none ∙ ap (λ (t : Tree). node_at t h.path) (sym same) ∙ h.found in
      cc
