-- Where snapshots come from, in journals that go on soundly.
use Rattle.std.proofs.Common.{◌≡◌, inl, inr, ◌⊎◌, ℕ, List, [], ◌∷◌, ◌++◌, refl, sym, ◌∙◌, ap, subst}
use Rattle.std.specs.Prelude.{Option, Some, None}
use Rattle.ice_ids.specs.Text.{initial_id}
use Rattle.ice_ids.specs.declared.Id8.{Id8}
use Rattle.ice_ids.specs.declared.Id12.{Id12}
use Rattle.ice_ids.specs.declared.drawing.AnyIds.{AnyIds}
use Rattle.zarr_tree.specs.Nodes.{Node}
use Rattle.zarr_tree.specs.Trees.{Tree, node_at}
use Rattle.snapshot_file.specs.declared.snapshot.SnapshotFile.{SnapshotFile}
use Rattle.repo_objects.specs.Laws.{InitialLaw}
use Rattle.object_store.specs.declared.keys.Key.TheVariants.{Snapshot}
use Rattle.object_store.specs.declared.events.Event.{Event}
use Rattle.object_store.specs.Machine.{first_put}
use Rattle.store_api.specs.Journal.{Each, IsGood, IsGoodJournal, IsFirst, IsOnce, WasPut, tree_of, snap_in, snap_made}
use Rattle.object_store.proofs.Journals.{Each-append}
use Rattle.object_store.proofs.Slots.{first-append}
use Rattle.store_api.proofs.Standing.{standing, snap_made-append, log_made-append}
use Rattle.session.specs.Sources.{MayDrawNode}
use Rattle.run_histories.specs.Sources.{NodesAreNew}
use Rattle.reach.specs.Chains.{parent_at, Chain, StaysOrCut, here, down}
use Rattle.reach.proofs.Parents.{parent-stays}
use Rattle.run_histories.specs.Runs.{IsChildOf, Descends, IsAncestor, HasNode, HasCause, AllCaused}
use Rattle.run_histories.proofs.Chains.{chain-cases, chain-initial, initial-bare, parent-cases}
use Rattle.run_histories.proofs.Putting.{tree-put, parent-put}

some-same : {A : Type 0} (a b : A) → Some a ≡ Some b → a ≡ b
some-same a b e = cc

-- ---- in one journal
module _ (journal : List Event) where
  pub ancestor-self : (id : Id12) → IsAncestor journal id id
  unfolding Descends
  ancestor-self id = record { way = []; descends = refl }

  -- an ancestor of the parent is one of the snapshot
  pub ancestor-up : (base id below : Id12) → IsChildOf journal base id → IsAncestor journal below base → IsAncestor journal below id
  unfolding Descends
  ancestor-up base id below k a = record { way = base ∷ a.way; descends = (k, a.descends) }

  -- the snapshot itself, or an ancestor of its parent
  pub record IsAbove (below id : Id12) : Type 0 where
    pub base : Id12
    pub child : IsChildOf journal base id
    pub ancestor : IsAncestor journal below base

  pub ancestor-cases : (below id : Id12) → IsAncestor journal below id → (below ≡ id) ⊎ IsAbove below id
  unfolding Descends
  ancestor-cases below id a = by_way a.way a.descends
    where
      by_way : (way : List Id12) → Descends journal id way below → (below ≡ id) ⊎ IsAbove below id
      by_way [] d = inl d
      by_way (x ∷ xs) d = inr (record { base = x; child = d.0; ancestor = record { way = xs; descends = d.1 } })

  -- a snapshot has one parent
  pub one-parent : (a b id : Id12) → IsChildOf journal a id → IsChildOf journal b id → a ≡ b
  one-parent a b id k l =
      let snaps = some-same k.snap l.snap (sym k.made ∙ l.made) in
      some-same a b (sym k.parent ∙ ap (λ (s : SnapshotFile). s.parent) snaps ∙ l.parent)

  -- the parent of what was put was put
  pub child-put : (base id : Id12) → IsGoodJournal journal → IsChildOf journal base id → WasPut journal (Snapshot base)
  child-put base id good k = parent-put journal id base k.snap good k.made k.parent

  -- a node of its tree
  pub node-has : (id : Id12) (t : Tree) (p : List ℕ) (n : Node) → tree_of journal id ≡ Some t → node_at t p ≡ Some n → HasNode journal id n.id
  node-has id t p n tree node = record { tree = t; has = tree; path = p; node = n; found = node; same = refl }

  pub node-put : (id : Id12) (node : Id8) → HasNode journal id node → WasPut journal (Snapshot id)
  node-put id node h = tree-put journal id h.tree h.has

-- ---- nodes that a source may draw
-- no tree of the snapshot, or of one below it along parents as they stand, has a node with an id that the source may draw
abbrev pub IsFree : AnyIds → List Event → Id12 → Type 0
IsFree ids journal id = (below : Id12) (node : Id8) → Chain journal id below → HasNode journal below node → ¬ MayDrawNode ids node

-- each node of the snapshot's tree with an id that the source may draw is one of its parent's
pub record HasNodeOfParent (journal : List Event) (id : Id12) (node : Id8) : Type 0 where
  pub base : Id12
  pub child : IsChildOf journal base id
  pub has : HasNode journal base node

abbrev pub Inherits : AnyIds → List Event → Id12 → Type 0
Inherits ids journal id = (node : Id8) → HasNode journal id node → MayDrawNode ids node → HasNodeOfParent journal id node

module _ (ids : AnyIds) (journal : List Event) where
  pub new-node : NodesAreNew ids journal → (id : Id12) (node : Id8) → HasNode journal id node → ¬ MayDrawNode ids node
  new-node new id node h may = new id h.tree h.path h.node h.has h.found (subst (MayDrawNode ids) (sym h.same) may)

  pub new-free : NodesAreNew ids journal → (id : Id12) → IsFree ids journal id
  new-free new id below node a h = new-node new below node h

  module _ (initial : InitialLaw) (good : IsGoodJournal journal) (once : IsOnce journal) where
    -- what is down a chain from a snapshot is the snapshot, or below the parent that it first named, or the initial one
    pub chain-first : (base id below : Id12) → IsChildOf journal base id → Chain journal id below → (below ≡ id) ⊎ (Chain journal base below ⊎ (below ≡ initial_id))
    chain-first base id below child c = elim (chain-cases c) [
      | inl same ↦ inl same
      | inr under ↦ inr (elim (parent-cases journal id under.parent good once under.named) [
        | inl first ↦ inl (subst (λ (i : Id12). Chain journal i below) (one-parent journal under.parent base id first child) under.chain)
        | inr is ↦ inr (chain-initial initial journal once under.parent below under.chain is)
      ])
    ]

    -- a snapshot that inherits is free where its parent is
    pub free-up : (base id : Id12) → IsChildOf journal base id → Inherits ids journal id → IsFree ids journal base → IsFree ids journal id
    free-up base id child inherits free below node c h may = elim (chain-first base id below child c) [
      | inl same ↦
          let at_id : HasNode journal id node = subst (λ (i : Id12). HasNode journal i node) same h in
          let own = inherits node at_id may in
          let bases : own.base ≡ base = one-parent journal own.base base id own.child child in
          free base node here (subst (λ (i : Id12). HasNode journal i node) bases own.has) may
      | inr under ↦ elim under [
        | inl chain ↦ free below node chain h may
        | inr is ↦ initial-bare initial journal once below node is h
      ]
    ]

-- ---- a journal that goes on
-- a sound journal goes on soundly
pub record Continues (journal more : List Event) : Type 0 where
  pub good : IsGoodJournal journal
  pub once : IsOnce journal
  pub goes_on : Each IsGood journal more
  pub first : Each IsFirst journal more

module _ (journal more : List Event) (c : Continues journal more) where
  abbrev after : List Event
  after = journal ++ more

  pub tree-kept : (id : Id12) → WasPut journal (Snapshot id) → tree_of (journal ++ more) id ≡ tree_of journal id
  tree-kept id w = standing id journal more c.once w c.goes_on c.first

  pub made-kept : (id : Id12) → WasPut journal (Snapshot id) → snap_made (journal ++ more) id ≡ snap_made journal id
  made-kept id w = ap (snap_in id) (first-append journal more (Snapshot id) w.0 w.1 ∙ sym w.1)

  -- ---- what was so stays so
  pub child-on : (base id : Id12) → IsChildOf journal base id → IsChildOf (journal ++ more) base id
  child-on base id k = record { snap = k.snap; made = snap_made-append journal more id k.snap k.made; parent = k.parent }

  descends-on : (way : List Id12) (id below : Id12) → Descends journal id way below → Descends (journal ++ more) id way below
  unfolding Descends
  descends-on [] id below d = d
  descends-on (x ∷ xs) id below d = (child-on x id d.0, descends-on xs x below d.1)

  pub ancestor-on : (below id : Id12) → IsAncestor journal below id → IsAncestor (journal ++ more) below id
  ancestor-on below id a = record { way = a.way; descends = descends-on a.way id below a.descends }

  pub node-on : (id : Id12) (node : Id8) → HasNode journal id node → HasNode (journal ++ more) id node
  node-on id node h = record { tree = h.tree; has = tree-kept id (node-put journal id node h) ∙ h.has; path = h.path; node = h.node; found = h.found; same = h.same }

  -- ---- what is so of a snapshot that was put was so
  pub child-back : (base id : Id12) → WasPut journal (Snapshot id) → IsChildOf (journal ++ more) base id → IsChildOf journal base id
  child-back base id w k = record { snap = k.snap; made = sym (made-kept id w) ∙ k.made; parent = k.parent }

  pub node-back : (id : Id12) (node : Id8) → WasPut journal (Snapshot id) → HasNode (journal ++ more) id node → HasNode journal id node
  node-back id node w h = record { tree = h.tree; has = sym (tree-kept id w) ∙ h.has; path = h.path; node = h.node; found = h.found; same = h.same }

  -- ---- sources
  pub inherits-on : (ids : AnyIds) (id : Id12) → WasPut journal (Snapshot id) → Inherits ids journal id → Inherits ids (journal ++ more) id
  inherits-on ids id w inherits node h may =
      let own = inherits node (node-back id node w h) may in
      record { base = own.base; child = child-on own.base id own.child; has = node-on own.base node own.has }

  module _ (initial : InitialLaw) where
    once_after : IsOnce (journal ++ more)
    once_after = Each-append IsFirst [] journal more c.once c.first

    -- What is down a chain now was down it, and was put; or it is the initial snapshot.
    pub record WasDown (id below : Id12) : Type 0 where
      pub chain : Chain journal id below
      pub put : WasPut journal (Snapshot below)

    -- of one snapshot, where it is so of its parent
    down-back : (id p below : Id12) → parent_at (journal ++ more) id ≡ Some p → Chain (journal ++ more) p below → WasPut journal (Snapshot id) → (WasPut journal (Snapshot p) → WasDown p below ⊎ (below ≡ initial_id)) → WasDown id below ⊎ (below ≡ initial_id)
    down-back id p below e d w next = by_parent (parent-stays id journal more c.once w c.goes_on c.first)
      where
        by_first : parent_at journal id ≡ Some p → IsChildOf journal p id ⊎ (p ≡ initial_id) → WasDown id below ⊎ (below ≡ initial_id)
        by_first named (inl child) = elim (next (child-put journal p id c.good child)) [
          | inl was ↦ inl (record { chain = down named was.chain; put = was.put })
          | inr is ↦ inr is
        ]
        by_first named (inr is) = inr (chain-initial initial (journal ++ more) once_after p below d is)

        by_parent : StaysOrCut (parent_at journal id) (parent_at (journal ++ more) id) → WasDown id below ⊎ (below ≡ initial_id)
        by_parent (inl same) = by_first (sym same ∙ e) (parent-cases journal id p c.good c.once (sym same ∙ e))
        by_parent (inr cut) = inr (chain-initial initial (journal ++ more) once_after p below d (some-same p initial_id (sym e ∙ cut)))

    pub chain-back : {id below : Id12} → Chain (journal ++ more) id below → WasPut journal (Snapshot id) → WasDown id below ⊎ (below ≡ initial_id)
    chain-back here w = inl (record { chain = here; put = w })
    chain-back {id = id} {below = below} (down {parent = p} e d) w = down-back id p below e d w (λ put. chain-back d put)

    -- where no snapshot down a chain had a node, none has it now
    pub lacks-on : (id below : Id12) (node : Id8) → WasPut journal (Snapshot id) → ((b : Id12) → Chain journal id b → ¬ HasNode journal b node) → Chain (journal ++ more) id below → ¬ HasNode (journal ++ more) below node
    lacks-on id below node w lacks d h = elim (chain-back d w) [
      | inl was ↦ lacks below was.chain (node-back below node was.put h)
      | inr is ↦ initial-bare initial (journal ++ more) once_after below node is h
    ]

    pub free-on : (ids : AnyIds) (id : Id12) → WasPut journal (Snapshot id) → IsFree ids journal id → IsFree ids (journal ++ more) id
    free-on ids id w free below node d h may = lacks-on id below node w (λ b chain has. free b node chain has may) d h

    -- ---- causes
    pub cause-on : (base id : Id12) → HasCause journal base id → HasCause (journal ++ more) base id
    cause-on base id h =
        let base_put : WasPut journal (Snapshot base) = tree-put journal base h.before h.was in
        record {
          before = h.before;
          was = tree-kept base base_put ∙ h.was;
          changes = h.changes;
          normal = h.normal;
          is = tree-kept id (tree-put journal id _ h.is) ∙ h.is;
          lists = h.lists;
          logged = log_made-append journal more id h.lists h.logged;
          touches = h.touches;
          fresh = λ p n below f chain has. lacks-on base below n.id base_put (λ b was. h.fresh p n b f was) chain has;
          drops = λ node d. let x = h.drops node d in (x.0, ancestor-on x.0 base x.1, node-on x.0 node x.2);
        }

    -- each snapshot has its cause still, where each one that wasn't put before has one
    pub causes-on : ((base id : Id12) → ¬ WasPut journal (Snapshot id) → IsChildOf (journal ++ more) base id → HasCause (journal ++ more) base id) → AllCaused journal → AllCaused (journal ++ more)
    causes-on fresh causes base id k = by_case (first_put journal (Snapshot id)) refl
      where
        by_case : (o : Option (List ℕ)) → first_put journal (Snapshot id) ≡ o → HasCause (journal ++ more) base id
        by_case (Some b) e = cause-on base id (causes base id (child-back base id (b, e) k))
        by_case None e = fresh base id (λ w. let bad = sym e ∙ w.1 in cc) k
