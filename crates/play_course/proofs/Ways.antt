-- Sessions that are carried over the commits of others, in words of trees.
use Rattle.std.proofs.Common.{◌≡◌, inl, inr, ℕ, zero, suc, List, [], ◌∷◌, ◌++◌, map, refl, sym, ◌∙◌, ap, subst}
use Rattle.std.specs.Prelude.{All, Option, Some, None}
use Rattle.std.proofs.lemmas.List.Elements.{All-head, All-tail}
use Rattle.std.specs.FinMap.{get}
use Rattle.ice_ids.specs.Text.{initial_id}
use Rattle.ice_ids.specs.declared.Id12.{Id12}
use Rattle.zarr_tree.specs.declared.lists.Touched.{Touched}
use Rattle.zarr_tree.specs.Nodes.{Node}
use Rattle.zarr_tree.specs.Trees.{Tree, node_at}
use Rattle.zarr_tree.specs.Changes.{Changes, apply}
use Rattle.zarr_tree.specs.Touched.{Touches}
use Rattle.zarr_tree.specs.Held.{changes_of}
use Rattle.zarr_tree.proofs.Maps.{get-made}
use Rattle.manifest_file.specs.declared.manifest.Place.{Place}
use Rattle.snapshot_file.specs.declared.snapshot.SnapshotFile.{SnapshotFile}
use Rattle.snapshot_file.specs.declared.nodes.NodeRow.{NodeRow}
use Rattle.repo_objects.specs.Laws.{InitialLaw}
use Rattle.repo_objects.specs.Trees.{Puts, bytes_at, nodes_in, tree_under}
use Rattle.conflicts.specs.declared.solving.Policy.{Policy}
use Rattle.object_store.specs.declared.events.Event.{Event}
use Rattle.object_store.specs.declared.keys.Key.TheVariants.{Snapshot, Txn}
use Rattle.store_api.specs.Journal.{WasPut, puts_of, tree_of, rows_of}
use Rattle.store_api.specs.Telling.{WasGot, WasReadAs}
use Rattle.store_api.proofs.Happening.{WasGot-append}
use Rattle.session.specs.Sessions.{SessionState, base_tree, changes_in}
use Rattle.commit_path.proofs.Knowing.{tree-by_rows}
use Rattle.rebase.specs.Along.{Link}
use Rattle.rebase.specs.AlongLaws.{MeansLaw, PassesAll}
use Rattle.rebase.specs.Telling.{CameToHead, LogWasReadAs, Rises, WasWalked}
use Rattle.rebase.proofs.AsPut.{WasMade, log-logged, snapshot-made}
use Rattle.play_tasks.specs.Solving.{WasCarried, WasRebased}
use Rattle.run_histories.specs.Runs.{IsSound, IsChildOf}
use Rattle.run_histories.proofs.Carrying.{IsFront, front-front, rebased-front}
use Rattle.run_histories.proofs.Grounds.{initial-rows}
use Rattle.play_course.specs.Ways.{DidTo, FollowsOn, Carried, stays, over}

some-same : {A : Type 0} (a b : A) → Some a ≡ Some b → a ≡ b
some-same a b e = cc

-- a way behind a way
pub carried-on : {trees : Id12 → Option Tree} {policy : Policy} {a b c : Id12} {f g h : Changes} → Carried trees policy a f b g → Carried trees policy b g c h → Carried trees policy a f c h
carried-on stays q = q
carried-on (over l t u follows passes p) q = over l t u follows passes (carried-on p q)

module _ (initial : InitialLaw) (means : (bytes_at : Place → Option (List ℕ)) → MeansLaw bytes_at) (whole : List Event) (changes : ℕ → Changes) (sound : IsSound whole changes) (client : ℕ) (policy : Policy) where
  abbrev put : Puts
  put = puts_of whole

  abbrev trees : Id12 → Option Tree
  trees = tree_of whole

  abbrev under : List NodeRow → Tree
  under rows = tree_under put rows

  -- ---- one commit
  module _ (then now : List Event) (front : IsFront now whole) (base : Id12) (rows : List NodeRow) (rows_are : rows_of whole base ≡ Some rows) (base_put : WasPut whole (Snapshot base)) (l : Link) (rises : l.file.parent ≡ Some base) (read : WasReadAs client l.file.id l.file then now) (log : LogWasReadAs client l then now) where
    read-on : WasReadAs client l.file.id l.file then whole
    read-on = record {
      bytes = read.bytes;
      version = read.version;
      got = subst (λ (j : List Event). WasGot client (Snapshot l.file.id) read.bytes read.version then j) (sym front.is) (WasGot-append client (Snapshot l.file.id) read.bytes read.version then now front.more read.got);
      read = read.read;
    }

    log-on : LogWasReadAs client l then whole
    log-on = record {
      bytes = log.bytes;
      version = log.version;
      got = subst (λ (j : List Event). WasGot client (Txn l.file.id) log.bytes log.version then j) (sym front.is) (WasGot-append client (Txn l.file.id) log.bytes log.version then now front.more log.got);
      log = log.log;
      read = log.read;
      lists_are = log.lists_are;
    }

    abbrev made : WasMade whole l.file.id l.file
    made = snapshot-made client then whole sound.good sound.once initial l.file.id l.file read-on

    pub link-put : WasPut whole (Snapshot l.file.id)
    link-put = made.put

    pub link-rows : rows_of whole l.file.id ≡ Some l.file.nodes
    link-rows = made.rows

    pub link-tree : trees l.file.id ≡ Some (under l.file.nodes)
    link-tree = tree-by_rows whole l.file.id l.file.nodes link-rows

    pub base-tree-is : trees base ≡ Some (under rows)
    base-tree-is = tree-by_rows whole base rows rows_are

    by-cause : IsChildOf whole base l.file.id → DidTo (under rows) (under l.file.nodes) l.lists
    by-cause child =
        let cause = sound.causes base l.file.id child in
        let before : cause.before ≡ under rows = some-same cause.before (under rows) (sym cause.was ∙ base-tree-is) in
        let is : under l.file.nodes ≡ apply cause.changes cause.before = some-same (under l.file.nodes) (apply cause.changes cause.before) (sym link-tree ∙ cause.is) in
        let lists : cause.lists ≡ l.lists = some-same cause.lists l.lists (sym cause.logged ∙ log-logged client then whole sound.good sound.once l log-on) in
        record {
          changes = cause.changes;
          made = is ∙ ap (apply cause.changes) before;
          touches = subst (λ (x : Touched). Touches cause.changes (under rows) x) lists (subst (λ (t : Tree). Touches cause.changes t cause.lists) before cause.touches);
        }

    -- behind a cut the base is the initial snapshot, which has no node
    by-cut : base ≡ initial_id → (path : List ℕ) → node_at (under rows) path ≡ None
    by-cut at path =
        let bare : rows ≡ [] = some-same rows [] (sym rows_are ∙ ap (rows_of whole) at ∙ initial-rows initial whole sound.once (subst (λ (i : Id12). WasPut whole (Snapshot i)) at base_put)) in
        ap (λ (r : List NodeRow). get (nodes_in r) path) bare ∙ get-made {X = Node} [] path

    pub link-follows : FollowsOn (under rows) (under l.file.nodes) l.lists
    link-follows = elim made.same [
      | inl same ↦ inl (by-cause (record { snap = made.snap; made = made.made; parent = ap (λ (f : SnapshotFile). f.parent) (sym same) ∙ rises }))
      | inr cut ↦ inr (by-cut (some-same base initial_id (sym rises ∙ ap (λ (f : SnapshotFile). f.parent) cut.0)))
    ]

  -- ---- commit after commit
  pub links-carried : (then now : List Event) → IsFront now whole → (links : List Link) (base head : Id12) (rows : List NodeRow) (c e : Changes) → rows_of whole base ≡ Some rows → WasPut whole (Snapshot base)
      → Rises base (map (λ (l : Link). l.file) links ++ []) head → All (λ (f : SnapshotFile). WasReadAs client f.id f then now) (map (λ (l : Link). l.file) links ++ []) → All (λ (l : Link). LogWasReadAs client l then now) links
      → PassesAll policy c (under rows) links e → Carried trees policy base c head e
  unfolding Rises PassesAll
  links-carried then now front [] base head rows c e is was rises read logs p =
      subst (λ (h : Id12). Carried trees policy base c h e) rises (subst (λ (x : Changes). Carried trees policy base c base x) p stays)
  links-carried then now front (l ∷ ls) base head rows c e is was rises read logs p =
      let own = All-head (λ (f : SnapshotFile). WasReadAs client f.id f then now) l.file (map (λ (k : Link). k.file) ls ++ []) read in
      let log = All-head (λ (k : Link). LogWasReadAs client k then now) l ls logs in
      let at = p (under l.file.nodes) refl in
      over l (base-tree-is then now front base rows is was l rises.0 own log) (link-tree then now front base rows is was l rises.0 own log) (link-follows then now front base rows is was l rises.0 own log) at.1
      (links-carried then now front ls l.file.id head l.file.nodes at.0 e (link-rows then now front base rows is was l rises.0 own log) (link-put then now front base rows is was l rises.0 own log) rises.1
      (All-tail (λ (f : SnapshotFile). WasReadAs client f.id f then now) l.file (map (λ (k : Link). k.file) ls ++ []) read) (All-tail (λ (k : Link). LogWasReadAs client k then now) l ls logs) at.2)

  -- ---- a rebase
  -- what is known of a session's base
  abbrev pub HasBase : SessionState → Type 0
  HasBase s = (rows_of whole s.base ≡ Some s.rows) × WasPut whole (Snapshot s.base)

  pub moved-way : (s t : SessionState) (count : ℕ) (then now : List Event) → IsFront now whole → HasBase s → CameToHead client policy s t count then now → Carried trees policy s.base (changes_in put s) t.base (changes_in put t)
  moved-way s t count then now front has m =
      let passes = (means (bytes_at put)).solves policy s.held m.held (base_tree put s) m.solved.links m.solved.solved in
      let met = m.solved.met in
      subst (λ (x : SessionState). Carried trees policy s.base (changes_in put s) x.base (changes_in put x)) (sym m.becomes)
      (links-carried then now front m.solved.links s.base m.head s.rows (changes_in put s) (changes_of (bytes_at put) m.held) has.0 has.1 met.walked.rises met.walked.read met.logs passes)

  -- ---- the base behind it
  head-read : (then now : List Event) (before : List Link) (last : Link) (base head : Id12) → Rises base (map (λ (l : Link). l.file) (before ++ last ∷ []) ++ []) head → All (λ (f : SnapshotFile). WasReadAs client f.id f then now) (map (λ (l : Link). l.file) (before ++ last ∷ []) ++ [])
      → (last.file.id ≡ head) × WasReadAs client last.file.id last.file then now
  unfolding Rises
  head-read then now [] last base head rises read = (rises.1, All-head (λ (f : SnapshotFile). WasReadAs client f.id f then now) last.file [] read)
  head-read then now (l ∷ ls) last base head rises read =
      head-read then now ls last l.file.id head rises.1 (All-tail (λ (f : SnapshotFile). WasReadAs client f.id f then now) l.file (map (λ (k : Link). k.file) (ls ++ last ∷ []) ++ []) read)

  pub moved-base : (s t : SessionState) (count : ℕ) (then now : List Event) → IsFront now whole → CameToHead client policy s t count then now → HasBase t
  moved-base s t count then now front m =
      let last : Link = record { file = m.snap; lists = m.solved.lists } in
      let walked = subst (λ (ls : List Link). WasWalked client s.base s.base m.head (map (λ (l : Link). l.file) ls ++ []) then now) m.solved.last m.solved.met.walked in
      let at = head-read then now m.solved.before last s.base m.head walked.rises walked.read in
      let on : WasReadAs client m.snap.id m.snap then whole = record {
        bytes = at.1.bytes;
        version = at.1.version;
        got = subst (λ (j : List Event). WasGot client (Snapshot m.snap.id) at.1.bytes at.1.version then j) (sym front.is) (WasGot-append client (Snapshot m.snap.id) at.1.bytes at.1.version then now front.more at.1.got);
        read = at.1.read;
      } in
      let made = snapshot-made client then whole sound.good sound.once initial m.snap.id m.snap on in
      subst HasBase (sym m.becomes)
      (ap (rows_of whole) (sym at.0) ∙ made.rows, subst (λ (i : Id12). WasPut whole (Snapshot i)) at.0 made.put)

  pub rebased-way : (s t : SessionState) (then now : List Event) → IsFront now whole → HasBase s → WasRebased client policy s t then now → Carried trees policy s.base (changes_in put s) t.base (changes_in put t) × HasBase t
  rebased-way s t then now front has (inl (count, m)) = (moved-way s t count then now front has m, moved-base s t count then now front m)
  rebased-way s t then now front has (inr u) =
      (subst (λ (x : SessionState). Carried trees policy s.base (changes_in put s) x.base (changes_in put x)) (sym u.becomes) stays, subst HasBase (sym u.becomes) has)

  -- as often as it was carried
  pub carried-way : (count : ℕ) (s t : SessionState) (start now : List Event) → IsFront now whole → HasBase s → WasCarried client policy count s t start now → Carried trees policy s.base (changes_in put s) t.base (changes_in put t) × HasBase t
  unfolding WasCarried
  carried-way zero s t start now front has c =
      (subst (λ (x : SessionState). Carried trees policy s.base (changes_in put s) x.base (changes_in put x)) (sym c) stays, subst HasBase (sym c) has)
  carried-way (suc count) s t start now front has c =
      let mid : SessionState = c.0 in
      let lost : SessionState = c.1 in
      let since : List Event = start ++ c.2 in
      let earlier : IsFront since whole = front-front since now whole (rebased-front client policy lost t since now c.5) front in
      let first = carried-way count s mid start since earlier has c.3 in
      let was_lost = c.4 in
      let second = subst (λ (x : SessionState). Carried trees policy s.base (changes_in put s) x.base (changes_in put x) × HasBase x) (sym was_lost.becomes) first in
      let last = rebased-way lost t since now front second.1 c.5 in
      (carried-on second.0 last.0, last.1)
