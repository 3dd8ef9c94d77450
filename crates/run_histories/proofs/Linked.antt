-- A session is carried over one commit more.
use Rattle.std.proofs.Common.{◌≡◌, inl, inr, ℕ, true, List, [], ◌∷◌, refl, sym, ◌∙◌, ap, subst}
use Rattle.std.specs.FinMap.{get}
use Rattle.std.specs.Prelude.{None, Some, option_map}
use Rattle.std.proofs.lemmas.Bool.{false_from_ne_true}
use Rattle.ice_ids.specs.Text.{initial_id}
use Rattle.ice_ids.specs.declared.Id12.{Id12}
use Rattle.ice_ids.specs.declared.Id8.{Id8}
use Rattle.ice_ids.specs.declared.drawing.AnyIds.{AnyIds}
use Rattle.zarr_tree.specs.Changes.{IsNormal, apply}
use Rattle.zarr_path.specs.Paths.{root}
use Rattle.zarr_tree.specs.Conflicts.{AddsUnlike}
use Rattle.zarr_tree.specs.Nodes.{Node}
use Rattle.zarr_tree.specs.Touched.{Touches, lists}
use Rattle.zarr_tree.specs.Trees.{IsWellFormed, Tree, node_at}
use Rattle.zarr_tree.specs.declared.lists.Touched.{Touched}
use Rattle.zarr_tree.proofs.Apply.{added_node}
use Rattle.zarr_tree.proofs.Maps.{get-made}
use Rattle.snapshot_file.specs.declared.nodes.NodeRow.{NodeRow}
use Rattle.snapshot_file.specs.declared.snapshot.SnapshotFile.{SnapshotFile}
use Rattle.repo_objects.specs.Laws.{InitialLaw}
use Rattle.repo_objects.specs.Trees.{nodes_in, tree_under}
use Rattle.conflicts.specs.declared.solving.Policy.{Policy}
use Rattle.store_api.specs.Journal.{WasPut, puts_of, rows_of, tree_of}
use Rattle.object_store.specs.declared.events.Event.{Event}
use Rattle.object_store.specs.declared.keys.Key.TheVariants.{Snapshot}
use Rattle.session.specs.Sessions.{SessionState, base_nodes, base_tree, rebased_to}
use Rattle.session.specs.Sources.{MayDrawNode}
use Rattle.commit_path.specs.Single.{HasPutAlike}
use Rattle.commit_path.proofs.Knowing.{tree-by_rows}
use Rattle.rebase.specs.Along.{Link, along, first_hidden, left_at, past, solved_at}
use Rattle.rebase.specs.AlongLaws.{FollowsFrom, FollowsNothing, FollowsToOwn}
use Rattle.rebase.proofs.OwnCommits.{held-own, own-taken, taken-left}
use Rattle.rebase.proofs.Owned.{own-law}
use Rattle.rebase.proofs.OverNothing.{nothing-left, taken-or-free}
use Rattle.reach.specs.Chains.{parent_at, here}
use Rattle.run_histories.specs.Runs.{HasCause, HasNode, IsChildOf}
use Rattle.run_histories.proofs.Ancestors.{IsFree, ancestor-cases, ancestor-up, free-up, node-has}
use Rattle.run_histories.proofs.Chains.{chain-cases, chain-initial, initial-bare}
use Rattle.run_histories.proofs.Grounds.{Grounds, HasNodeBelow, IsCarried, IsLink, initial-alone, initial-rows, well-rows}
use Rattle.run_histories.proofs.Origins.{WasPutBy, own-alike}
use Rattle.run_histories.proofs.Sized.{changes_sized, sized}

some-same : {A : Type 0} (a b : A) → Some a ≡ Some b → a ≡ b
some-same a b e = cc

module _ (initial : InitialLaw) (ids : AnyIds) (client : ℕ) (start journal : List Event) (g : Grounds ids client start journal) where
  -- ---- a commit that the session is carried over
  module _ (s : SessionState) (k : IsCarried ids journal s) (alike : HasPutAlike client s start journal) (policy : Policy) (l : Link) (link : IsLink journal s.base l) (none_left : left_at policy s.held (base_nodes s) l ≡ []) where
    abbrev base : Tree
    base = base_tree (puts_of journal) s

    abbrev head : Tree
    head = tree_under (puts_of journal) l.file.nodes

    base-is : tree_of journal s.base ≡ Some base
    base-is = tree-by_rows journal s.base s.rows k.rows

    head-is : tree_of journal l.file.id ≡ Some head
    head-is = tree-by_rows journal l.file.id l.file.nodes link.rows

    base-well : IsWellFormed base
    base-well = well-rows ids client start journal g s.base s.rows k.put k.rows

    head-well : IsWellFormed head
    head-well = well-rows ids client start journal g l.file.id l.file.nodes link.put link.rows

    -- it isn't the client's own, where the session adds a node
    not-own : (p : List ℕ) (n : Node) → get s.held.added p ≡ Some n → ¬ WasPutBy client start journal l.file.id
    not-own p n added by =
        let a = own-alike client s start journal l.file.id alike by in
        let rows : l.file.nodes ≡ a.snap.nodes = some-same l.file.nodes a.snap.nodes (sym link.rows ∙ by.rows_are ∙ ap (option_map (λ (f : SnapshotFile). f.nodes)) a.read) in
        let own = held-own sized s.held a.session.held (base_nodes a.session) l p n added a.added a.dropped (ap nodes_in rows ∙ a.nodes) in
        taken-left sized policy s.held (base_nodes s) l own.path (own-taken (changes_sized s) l k.normal.not_dropped own) none_left

    -- so it inherits, and neither it nor one below it has a node of the client's
    child-free : (p : List ℕ) (n : Node) → get s.held.added p ≡ Some n → IsChildOf journal s.base l.file.id → IsFree ids journal l.file.id
    child-free p n added child = elim (g.come l.file.id link.put) [
      | inl by ↦ absurd (not-own p n added by)
      | inr inherits ↦ free-up ids journal initial g.good g.once s.base l.file.id child inherits (k.free p n added)
    ]

    -- ---- where the base is the parent that was first named
    module _ (child : IsChildOf journal s.base l.file.id) where
      abbrev cause : HasCause journal s.base l.file.id
      cause = g.causes s.base l.file.id child

      before-is : cause.before ≡ base
      before-is = some-same cause.before base (sym cause.was ∙ base-is)

      -- the commit's changes, over the session's base
      theirs : IsNormal cause.changes base
      theirs = subst (IsNormal cause.changes) before-is cause.normal

      after-is : apply cause.changes base ≡ head
      after-is = ap (apply cause.changes) (sym before-is) ∙ some-same (apply cause.changes cause.before) head (sym cause.is ∙ head-is)

      lists-are : cause.lists ≡ l.lists
      lists-are = some-same cause.lists l.lists (sym cause.logged ∙ link.logged)

      touches : Touches cause.changes base l.lists
      touches = subst (λ (x : Touched). Touches cause.changes base x) lists-are (subst (λ (t : Tree). Touches cause.changes t cause.lists) before-is cause.touches)

      -- a node that it adds is one of the commit's
      their-node : (p : List ℕ) (n : Node) → get cause.changes.added p ≡ Some n → HasNode journal l.file.id n.id
      their-node p n f = node-has journal l.file.id head p n head-is (ap (λ (t : Tree). node_at t p) (sym after-is) ∙ added_node cause.changes base p n f)

      -- neither adds an id that the other one adds
      unlike : AddsUnlike (changes_sized s) cause.changes
      unlike p m f q n g e =
          child-free p m f child l.file.id n.id here (their-node q n g) (subst (MayDrawNode ids) (sym e) (k.added p m f))

      child-follows : FollowsToOwn (changes_sized s) base (l ∷ []) head
      unfolding FollowsToOwn
      child-follows = inr (cause.changes, theirs, touches, ap (λ (t : Tree). t.nodes) after-is, unlike, after-is)

      child-drops : (node : Id8) → lists s.held.dropped node ≡ true → HasNodeBelow journal l.file.id node
      child-drops node d = let x = k.drops node d in record { below = x.below; ancestor = ancestor-up journal s.base l.file.id x.below child x.ancestor; has = x.has }

    -- ---- where the commit was cut: the base is the initial snapshot
    module _ (at_initial : s.base ≡ initial_id) (cut : parent_at journal l.file.id ≡ Some initial_id) where
      -- the base has no node, and no parent
      initial-put : WasPut journal (Snapshot initial_id)
      initial-put = subst (λ (i : Id12). WasPut journal (Snapshot i)) at_initial k.put

      bare-rows : s.rows ≡ []
      bare-rows = some-same s.rows [] (sym k.rows ∙ ap (rows_of journal) at_initial ∙ initial-rows initial journal g.once initial-put)

      base-bare : (p : List ℕ) → node_at base p ≡ None
      base-bare p = ap (λ (rows : List NodeRow). get (nodes_in rows) p) bare-rows ∙ get-made {X = Node} [] p

      none-dropped : (node : Id8) → lists s.held.dropped node ≡ true → ⊥
      none-dropped node d =
          let x = k.drops node d in
          elim (ancestor-cases journal x.below s.base x.ancestor) [
            | inl same ↦
                let tree : x.has.tree ≡ base = some-same x.has.tree base (sym x.has.has ∙ ap (tree_of journal) same ∙ base-is) in
                let no : None ≡ Some x.has.node = sym (base-bare x.has.path) ∙ ap (λ (t : Tree). node_at t x.has.path) (sym tree) ∙ x.has.found in
                absurd cc
            | inr above ↦ initial-alone initial journal g.good g.once initial-put above.base (subst (IsChildOf journal above.base) at_initial above.child)
          ]

      -- where the session adds a node, it adds `/`, so `/` is taken, or the commit's tree has no node either
      head-bare : (p : List ℕ) (n : Node) → get s.held.added p ≡ Some n → (q : List ℕ) → node_at head q ≡ None
      head-bare p n added = elim (taken-or-free (changes_sized s) base head base-well head-well k.normal base-bare (λ node. false_from_ne_true (lists s.held.dropped node) (none-dropped node))) [
        | inl taken ↦ absurd (taken-left sized policy s.held (base_nodes s) l root taken none_left)
        | inr f ↦ nothing-left (changes_sized s) base head base-well head-well k.normal base-bare f.free p n added
      ]

      cut-free : (p : List ℕ) (n : Node) → get s.held.added p ≡ Some n → IsFree ids journal l.file.id
      cut-free p n added below node chain has may = elim (chain-cases chain) [
        | inl same ↦
            let tree : has.tree ≡ head = some-same has.tree head (sym has.has ∙ ap (tree_of journal) same ∙ head-is) in
            let no : None ≡ Some has.node = sym (head-bare p n added has.path) ∙ ap (λ (t : Tree). node_at t has.path) (sym tree) ∙ has.found in
            absurd cc
        | inr under ↦
            let parent : under.parent ≡ initial_id = some-same under.parent initial_id (sym under.named ∙ cut) in
            initial-bare initial journal g.once below node (chain-initial initial journal g.once under.parent below under.chain parent) has
      ]

      nothing-follows : FollowsNothing (changes_sized s) base (l ∷ []) head
      unfolding FollowsToOwn
      nothing-follows = record {
        nothing = base-bare;
        none_dropped = λ node. false_from_ne_true (lists s.held.dropped node) (none-dropped node);
        first = l;
        later = [];
        is = refl;
        tree = head;
        nodes = refl;
        well_formed = head-well;
        follows = refl;
      }

    -- ---- in either case
    follows : FollowsFrom (changes_sized s) base (l ∷ []) head
    follows = elim link.parent [
      | inl child ↦ inl (child-follows child)
      | inr cut ↦ inr (nothing-follows cut.0 cut.1)
    ]

    -- its log hides no node
    pub step-honest : (node : Id8) → first_hidden (nodes_in l.file.nodes) s.held.metas ≡ Some node → ⊥
    unfolding along
    step-honest node hidden =
        (own-law sized).honest policy s.held base head (l ∷ []) l.file.id node k.texts base-well k.normal follows
        (λ i. past l.file.id (none_left i) (hidden i) (along policy (solved_at policy s.held (base_nodes s) l) (nodes_in l.file.nodes) []))

    -- and behind it the session is as before
    pub step-carried : (version : ℕ) → first_hidden (nodes_in l.file.nodes) s.held.metas ≡ None → IsCarried ids journal (rebased_to s l.file.id version l.file (solved_at policy s.held (base_nodes s) l))
    unfolding along
    step-carried version hidden = record {
      later = k.later;
      put = link.put;
      rows = link.rows;
      added = k.added;
      free = λ p n f. elim link.parent [
        | inl child ↦ child-free p n f child
        | inr cut ↦ cut-free cut.0 cut.1 p n f
      ];
      drops = λ node d. elim link.parent [
        | inl child ↦ child-drops child node d
        | inr cut ↦ absurd (none-dropped cut.0 cut.1 node d)
      ];
      normal =
          ((own-law sized).normal policy s.held (solved_at policy s.held (base_nodes s) l) base head (l ∷ []) base-well k.normal follows
          (λ i. past l.file.id (none_left i) (hidden i) (along policy (solved_at policy s.held (base_nodes s) l) (nodes_in l.file.nodes) []))).0;
      texts = k.texts;
    }
