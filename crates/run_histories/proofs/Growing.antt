-- In a run each snapshot has a well-formed tree and comes from its parent, and what another source may draw stays new.
use Rattle.std.proofs.Common.{◌≡◌, inl, inr, ◌⊎◌, ℕ, ◌+◌, ◌<◌, Bool, true, false, List, [], ◌∷◌, ◌++◌, length, refl, sym, ◌∙◌, ap, subst, arith, eqb-true}
use Rattle.std.specs.Prelude.{◌==◌, All, None, Option, Some, option_map}
use Rattle.std.proofs.lemmas.Bool.{eqb-false}
use Rattle.std.proofs.lemmas.Option.{slice_get_within}
use Rattle.ice_ids.specs.Drawing.{DrawsOnce}
use Rattle.ice_ids.specs.Text.{initial_id}
use Rattle.ice_ids.specs.declared.Id12.{Id12}
use Rattle.ice_ids.specs.declared.Id8.{Id8}
use Rattle.ice_ids.specs.declared.drawing.AnyIds.{AnyIds}
use Rattle.ice_ids.specs.declared.drawing.Draw.{Draw}
use Rattle.zarr_tree.specs.Changes.{IsNormal}
use Rattle.zarr_tree.specs.Held.{touched}
use Rattle.zarr_tree.specs.Nodes.{Node}
use Rattle.zarr_tree.specs.Trees.{IsWellFormed, Tree, node_at}
use Rattle.zarr_tree.proofs.Apply.{node_cases}
use Rattle.zarr_tree.proofs.Extend.{own-id}
use Rattle.zarr_tree.proofs.Listing.{touched-law}
use Rattle.zarr_tree.proofs.Maps.{get-made}
use Rattle.manifest_file.specs.declared.manifest.Place.{Place}
use Rattle.snapshot_file.specs.Initial.{initial_snapshot}
use Rattle.snapshot_file.specs.declared.nodes.NodeRow.{NodeRow}
use Rattle.snapshot_file.specs.declared.snapshot.SnapshotFile.{SnapshotFile}
use Rattle.repo_objects.specs.Laws.{InitialLaw, initial_bytes}
use Rattle.repo_objects.specs.Readings.{snapshot_by}
use Rattle.repo_objects.specs.Trees.{Extends, IsReadable, Puts, bytes_at, tree_under}
use Rattle.store_api.specs.Journal.{IsFirst, IsGood, IsGoodJournal, IsOnce, WasPut, puts_of, snap_in, snap_made, tree_of}
use Rattle.object_store.specs.declared.events.Event.{Event}
use Rattle.object_store.specs.declared.events.Op.{Op}
use Rattle.object_store.specs.declared.events.Op.TheVariants.{PutNew}
use Rattle.object_store.specs.declared.keys.Key.TheVariants.{Snapshot}
use Rattle.object_store.specs.declared.keys.Why.{Why}
use Rattle.object_store.proofs.Journals.{Each-append, Each-one}
use Rattle.store_api.proofs.Standing.{log_made-append, snap_made-put}
use Rattle.session.specs.Sessions.{SessionState, base_nodes, base_tree, changes_in, overlay}
use Rattle.session.specs.Sources.{MayDrawNode}
use Rattle.commit_path.specs.Owed.{HasChunks, Owes, OwesSnap}
use Rattle.commit_path.proofs.Knowing.{tree-by_rows}
use Rattle.commit_path.proofs.Putting.{chunks-extend}
use Rattle.commit_path.proofs.Readable.{nothing-readable, readable-extend}
use Rattle.play_script.specs.Well.{IsWellTask}
use Rattle.play_script.specs.declared.scripts.Task.{Task}
use Rattle.play_tasks.specs.Solving.{IsOfTask}
use Rattle.play_tasks.specs.Tasks.{ids_at}
use Rattle.run_histories.specs.Runs.{AllCaused, AllTrees, HasCause, HasWellFormedTree, IsChildOf}
use Rattle.run_histories.specs.Sources.{IsOfAnother, NodesAreNew}
use Rattle.run_histories.proofs.Along.{Fits, IsOfOpener, StaysOnce, among-at, client-fits, plain-fits, well-at}
use Rattle.run_histories.proofs.Ancestors.{Continues, Inherits, ancestor-on, causes-on, free-on, new-node, node-back, node-has, node-on, one-parent, tree-kept}
use Rattle.run_histories.proofs.Drawing.{ids_at-of}
use Rattle.run_histories.proofs.Grounds.{Grounds, IsCarried}
use Rattle.run_histories.proofs.Origins.{continues}
use Rattle.run_histories.proofs.Programs.{IsCleanup, IsPlain, IsPlainOrCleanup}
use Rattle.run_histories.proofs.Putting.{PutsFresh, grown as puts-grow, fresh-parent, nodes-one, put-now, rows-kept, trees-one}
use Rattle.run_histories.proofs.Sized.{changes_sized, normal-in}
use Rattle.run_histories.proofs.Sources.{node-apart}
use Rattle.run_histories.proofs.Walked.{task-carried_on}

some-same : {A : Type 0} (a b : A) → Some a ≡ Some b → a ≡ b
some-same a b e = cc

-- ---- the initial snapshot
-- a tree without rows has no node
no-node : (puts : Puts) (p : List ℕ) (n : Node) → node_at (tree_under puts []) p ≡ Some n → ⊥
no-node puts p n f = let none = get-made {X = Node} [] p in let bad = sym none ∙ f in cc

nothing-well : (puts : Puts) → IsWellFormed (tree_under puts [])
nothing-well puts = record {
  named = λ p n f. absurd (no-node puts p n f);
  readable = λ p n f. absurd (no-node puts p n f);
  distinct = λ p q m n f g e. absurd (no-node puts p m f);
  parents = λ p n f ne. absurd (no-node puts p n f);
  chunks = λ p i b h. absurd cc;
}

plain-initial : (op : Op) (id : Id12) (bytes : List ℕ) (why : Why) → IsPlainOrCleanup op → op ≡ PutNew (Snapshot id) bytes why → (id ≡ initial_id) × (bytes ≡ initial_bytes)
plain-initial op id bytes why (inl p) e = subst IsPlain e p
plain-initial op id bytes why (inr c) e = absurd (subst IsCleanup e c)

-- the tree of bytes that were put last
abbrev tree-of_bytes : (journal : List Event) (id : Id12) (last : Option (List ℕ)) → Option Tree
tree-of_bytes journal id last = option_map (λ (s : SnapshotFile). tree_under (puts_of journal) s.nodes) (snap_in id last)

module _ (initial : InitialLaw) (journal : List Event) (event : Event) (plain : IsPlainOrCleanup event.op) (id : Id12) (n : PutsFresh journal event (Snapshot id)) where
  initial-read : snapshot_by id n.bytes ≡ Some initial_snapshot
  initial-read =
      let e = plain-initial event.op id n.bytes n.why plain n.op_is in
      ap (λ (i : Id12). snapshot_by i n.bytes) e.0 ∙ (ap (snapshot_by initial_id) e.1 ∙ initial)

  initial-tree : tree_of (journal ++ event ∷ []) id ≡ Some (tree_under (puts_of (journal ++ event ∷ [])) [])
  initial-tree = ap (tree-of_bytes (journal ++ event ∷ []) id) n.last ∙ ap (option_map (λ (s : SnapshotFile). tree_under (puts_of (journal ++ event ∷ [])) s.nodes)) initial-read

  initial-has : HasWellFormedTree (journal ++ event ∷ []) id
  initial-has = record {
    rows = [];
    is = ap (λ (o : Option (List ℕ)). option_map (λ (s : SnapshotFile). s.nodes) (snap_in id o)) n.last ∙ ap (option_map (λ (s : SnapshotFile). s.nodes)) initial-read;
    has = record { readable = nothing-readable (puts_of (journal ++ event ∷ [])); well_formed = nothing-well (puts_of (journal ++ event ∷ [])) };
  }

  initial-nodes : (ids : AnyIds) (t : Tree) (p : List ℕ) (m : Node) → tree_of (journal ++ event ∷ []) id ≡ Some t → node_at t p ≡ Some m → ¬ MayDrawNode ids m.id
  initial-nodes ids t p m tree node may =
      let same = some-same t (tree_under (puts_of (journal ++ event ∷ [])) []) (sym tree ∙ initial-tree) in
      no-node (puts_of (journal ++ event ∷ [])) p m (ap (λ (u : Tree). node_at u p) (sym same) ∙ node)

  initial-made : (snap : SnapshotFile) (base : Id12) → snap_made (journal ++ event ∷ []) id ≡ Some snap → snap.parent ≡ Some base → ⊥
  initial-made snap base made parent =
      let same = some-same snap initial_snapshot (sym made ∙ (ap (snap_in id) n.first ∙ initial-read)) in
      let none : Some base ≡ None = sym parent ∙ ap (λ (s : SnapshotFile). s.parent) same in
      absurd cc

  initial-inherits : (ids : AnyIds) → Inherits ids (journal ++ event ∷ []) id
  initial-inherits ids node h may = absurd (initial-nodes ids h.tree h.path h.node h.has h.found (subst (MayDrawNode ids) (sym h.same) may))

-- ---- a run
module _ (draw : Draw) (tasks : List Task) (draws : DrawsOnce draw (length tasks)) (wells : All IsWellTask tasks) (initial : InitialLaw) (old : List Event) where
  -- What holds of the journal: it is good and puts nothing again, each snapshot has a well-formed tree, and comes from its parent; and no tree has a
  -- node that another source may draw, where none had before.
  pub record Holds (journal : List Event) : Type 0 where
    pub good : IsGoodJournal journal
    pub once : IsOnce journal
    pub trees : AllTrees journal
    pub causes : AllCaused journal
    pub nodes : (ids : AnyIds) → IsOfAnother draw tasks ids → NodesAreNew ids old → NodesAreNew ids journal

  abbrev pub AllNodesAreNew : List Event → Type 0
  AllNodesAreNew journal = (place : ℕ) → place < length tasks → NodesAreNew (ids_at draw place) journal

  -- ---- one more event
  module _ (start journal : List Event) (event : Event) (fits : Fits draw tasks start journal event) (h : Holds journal) where
    first : IsFirst journal event
    first = fits.first h.once

    goes-on : Continues journal (event ∷ [])
    goes-on = continues journal event h.good h.once fits.good first

    -- what inherits has no new node
    inherits-new : (ids : AnyIds) (id : Id12) → PutsFresh journal event (Snapshot id) → Inherits ids (journal ++ event ∷ []) id → NodesAreNew ids journal → (t : Tree) (p : List ℕ) (n : Node) → tree_of (journal ++ event ∷ []) id ≡ Some t → node_at t p ≡ Some n → ¬ MayDrawNode ids n.id
    inherits-new ids id now inherits new t p n tree node may =
        let own = inherits n.id (node-has (journal ++ event ∷ []) id t p n tree node) may in
        let put : WasPut journal (Snapshot own.base) = fresh-parent journal event id own.base own.child.snap fits.good now own.child.made own.child.parent in
        new-node ids journal new own.base n.id (node-back journal (event ∷ []) goes-on own.base n.id put own.has) may

    pub nodes-stay : (ids : AnyIds) → ((id : Id12) → PutsFresh journal event (Snapshot id) → Inherits ids (journal ++ event ∷ []) id) → NodesAreNew ids journal → NodesAreNew ids (journal ++ event ∷ [])
    nodes-stay ids inherits new = nodes-one journal event h.once fits.good first ids (λ id t p n now tree node. inherits-new ids id now (inherits id now) new t p n tree node) new

    -- what holds still, where what is put fresh is so
    still : ((id : Id12) → PutsFresh journal event (Snapshot id) → HasWellFormedTree (journal ++ event ∷ []) id)
        → ((base id : Id12) → PutsFresh journal event (Snapshot id) → IsChildOf (journal ++ event ∷ []) base id → HasCause (journal ++ event ∷ []) base id)
        → ((ids : AnyIds) → IsOfAnother draw tasks ids → (id : Id12) → PutsFresh journal event (Snapshot id) → Inherits ids (journal ++ event ∷ []) id)
        → Holds (journal ++ event ∷ [])
    still tree cause inherits = record {
      good = Each-append IsGood [] journal (event ∷ []) h.good (Each-one IsGood journal event fits.good);
      once = Each-append IsFirst [] journal (event ∷ []) h.once (Each-one IsFirst journal event first);
      trees = trees-one journal event h.once fits.good first tree h.trees;
      causes = causes-on journal (event ∷ []) goes-on initial (λ base id never child. elim (put-now journal event (Snapshot id) (snap_made-put (journal ++ event ∷ []) id child.snap child.made)) [
        | inl before ↦ absurd (never before)
        | inr now ↦ cause base id now child
      ]) h.causes;
      nodes = λ ids another new. nodes-stay ids (inherits ids another) (h.nodes ids another new);
    }

  -- ---- of the opening, of the closing reading, of a task on refs, or of a collection; or a cut
  module _ (journal : List Event) (event : Event) (good : IsGood journal event) (plain : IsPlainOrCleanup event.op) (h : Holds journal) where
    pub plain-holds : Holds (journal ++ event ∷ [])
    plain-holds = still old journal event (plain-fits draw tasks old journal event good plain) h
        (λ id n. initial-has initial journal event plain id n)
        (λ base id n child. absurd (initial-made initial journal event plain id n child.snap base child.made child.parent))
        (λ ids another id n. initial-inherits initial journal event plain id n ids)

    pub plain-inherits : (ids : AnyIds) (id : Id12) → PutsFresh journal event (Snapshot id) → Inherits ids (journal ++ event ∷ []) id
    plain-inherits ids id n = initial-inherits initial journal event plain id n ids

    pub plain-nodes : (place : ℕ) → NodesAreNew (ids_at draw place) journal → NodesAreNew (ids_at draw place) (journal ++ event ∷ [])
    plain-nodes place new = nodes-stay old journal event (plain-fits draw tasks old journal event good plain) h (ids_at draw place) (plain-inherits (ids_at draw place)) new

  -- ---- of a task that opens a session
  module _ (start journal : List Event) (event : Event) (c : IsOfOpener draw tasks start journal event) (stays : StaysOnce journal event) (h : Holds journal) (g : Grounds (ids_at draw c.place) (c.place + 1) start journal) where
    abbrev fits : Fits draw tasks start journal event
    fits = client-fits draw tasks start journal event c stays

    abbrev ids : AnyIds
    ids = ids_at draw c.place

    within_tasks : c.place < length tasks
    within_tasks = slice_get_within tasks c.place c.task c.at

    abbrev after : List Event
    after = journal ++ event ∷ []

    here : IsFirst journal event
    here = fits.first h.once

    on : Continues journal (event ∷ [])
    on = continues journal event h.good h.once fits.good here

    -- what was put stays put and readable
    grown : Extends (puts_of journal) (puts_of after)
    grown = puts-grow journal event h.once fits.good here

    -- a snapshot that it puts
    module _ (id : Id12) (n : PutsFresh journal event (Snapshot id)) where
      abbrev owes : OwesSnap (IsOfTask ids c.task (c.place + 1) start) journal id n.bytes
      owes = subst (Owes (ids_at draw c.place) (IsOfTask (ids_at draw c.place) c.task (c.place + 1) start) journal) n.op_is c.careful.owes

      abbrev session : SessionState
      session = owes.session

      kept : IsCarried ids journal session
      kept = task-carried_on initial ids c.task (c.place + 1) start journal g (well-at draw tasks wells c.place c.task c.at) owes.session id owes.is_mine

      base-tree : tree_of after session.base ≡ Some (base_tree (puts_of after) session)
      base-tree = tree-by_rows after owes.session.base owes.session.rows (rows-kept journal event h.once fits.good here owes.session.base owes.base_put ∙ owes.base_rows h.once)

      base-same : base_tree (puts_of journal) session ≡ base_tree (puts_of after) session
      base-same =
          some-same (base_tree (puts_of journal) session) (base_tree (puts_of after) session)
          (sym (tree-by_rows journal owes.session.base owes.session.rows (owes.base_rows h.once)) ∙ sym (tree-kept journal (event ∷ []) on owes.session.base owes.base_put) ∙ base-tree)

      -- all that the base names is readable
      base-readable : IsReadable (puts_of after) owes.session.rows
      base-readable =
          let t = h.trees owes.session.base owes.base_put in
          let rows : t.rows ≡ owes.session.rows = some-same t.rows owes.session.rows (sym t.is ∙ owes.base_rows h.once) in
          subst (λ (r : List NodeRow). IsReadable (puts_of after) r) rows (readable-extend (puts_of journal) (puts_of after) grown t.rows t.has.readable)

      has_chunks : HasChunks (puts_of after) owes.session.held.chunks
      has_chunks = chunks-extend (puts_of journal) (puts_of after) grown owes.session.held.chunks (owes.chunks h.once)

      normal : IsNormal (changes_in (puts_of after) session) (base_tree (puts_of after) session)
      normal = normal-in (puts_of after) owes.session has_chunks (subst (IsNormal (changes_sized owes.session)) base-same kept.normal)

      tree-is : tree_of after id ≡ Some (overlay (puts_of after) session)
      tree-is =
          ap (tree-of_bytes after id) n.last ∙ ap (option_map (λ (s : SnapshotFile). tree_under (puts_of after) s.nodes)) owes.read ∙ ap (λ (t : Tree). Some t) (owes.tree h.once (puts_of after) grown normal)

      session-tree : HasWellFormedTree after id
      session-tree = record {
        rows = owes.snap.nodes;
        is = ap (λ (o : Option (List ℕ)). option_map (λ (s : SnapshotFile). s.nodes) (snap_in id o)) n.last ∙ ap (option_map (λ (s : SnapshotFile). s.nodes)) owes.read;
        has = record { readable = owes.readable h.once (puts_of after) grown normal base-readable; well_formed = subst IsWellFormed (sym (owes.tree h.once (puts_of after) grown normal)) normal.well_formed };
      }

      -- its parent is the session's base
      session-child : IsChildOf after session.base id
      session-child = record { snap = owes.snap; made = ap (snap_in id) n.first ∙ owes.read; parent = owes.parent }

      -- a node of it is one that the session added, or has the id of one of the base's
      session-inherits : (other : AnyIds) → ((node : Id8) → MayDrawNode ids node → ¬ MayDrawNode other node) → Inherits other after id
      session-inherits other apart node has may =
          let same = some-same has.tree (overlay (puts_of after) session) (sym has.has ∙ tree-is) in
          elim (node_cases (changes_in (puts_of after) session) (base_tree (puts_of after) session) has.path has.node (ap (λ (u : Tree). node_at u has.path) (sym same) ∙ has.found)) [
            | inl added ↦ absurd (apart node (subst (MayDrawNode ids) has.same (kept.added has.path has.node added)) may)
            | inr o ↦ record {
              base = session.base;
              child = session-child;
              has = record {
                tree = base_tree (puts_of after) session;
                has = base-tree;
                path = has.path;
                node = o.before;
                found = o.found;
                same = sym (own-id (changes_in (puts_of after) session) (base_tree (puts_of after) session) has.path has.node o) ∙ has.same;
              };
            }
          ]

      -- it comes from its parent by the session's changes
      session-cause : HasCause after session.base id
      session-cause = record {
        before = base_tree (puts_of after) session;
        was = base-tree;
        changes = changes_in (puts_of after) session;
        normal = normal;
        is = tree-is;
        lists = touched owes.session.held (base_nodes session);
        logged = log_made-append journal (event ∷ []) id (touched owes.session.held (base_nodes session)) (owes.logged h.once);
        touches = touched-law {P = Place} (bytes_at (puts_of after)) owes.session.held (base_tree (puts_of after) session);
        fresh = λ p m below added a has. free-on journal (event ∷ []) on initial ids session.base kept.put (kept.free p m added) below m.id a has (kept.added p m added);
        drops = λ node d. let x = kept.drops node d in (x.below, ancestor-on journal (event ∷ []) on x.below session.base x.ancestor, node-on journal (event ∷ []) on x.below node x.has);
      }

      cause-of : (base : Id12) → IsChildOf after base id → HasCause after base id
      cause-of base child = subst (λ (b : Id12). HasCause after b id) (one-parent after session.base base id session-child child) session-cause

    pub client-holds : Holds after
    client-holds = still start journal event fits h session-tree (λ base id n child. cause-of id n base child)
        (λ other another id n. session-inherits id n other (another c.place within_tasks))

    -- what it puts is of its own client, or inherits
    pub client-comes : (place : ℕ) → place < length tasks → (id : Id12) → PutsFresh journal event (Snapshot id) → (event.client ≡ place + 1) ⊎ Inherits (ids_at draw place) after id
    client-comes place within id n = by_place (place == c.place) refl
      where
        apart : (place == c.place) ≡ false → (node : Id8) → MayDrawNode ids node → ¬ MayDrawNode (ids_at draw place) node
        apart e node own may =
            let same = node-apart draw (length tasks) draws (ids_at draw place) ids node (among-at draw tasks place within) (among-at draw tasks c.place within_tasks) may own in
            let a = (ids_at-of draw place).1 in
            let b = (ids_at-of draw c.place).1 in
            eqb-false place c.place e (omega (arith, a, b, same))

        by_place : (b : Bool) → (place == c.place) ≡ b → (event.client ≡ place + 1) ⊎ Inherits (ids_at draw place) after id
        by_place true e = inl (c.client ∙ ap (λ (k : ℕ). k + 1) (sym (eqb-true place c.place e)))
        by_place false e = inr (session-inherits id n (ids_at draw place) (apart e))
