-- The changes given for each commit, in the whole journal.
use Rattle.std.proofs.Common.{◌≡◌, ℕ, ◌<◌, ◌≤◌, cond, ltb, List, [], ◌∷◌, ◌++◌, length, refl, sym, ◌∙◌, ap, subst, arith, append_assoc, length-append}
use Rattle.std.specs.Prelude.{Option, Some, None, option_map}
use Rattle.std.specs.Option.{option_and_then}
use Rattle.std.proofs.lemmas.Bool.{lt-ltb, le-ltb}
use Rattle.ice_ids.specs.declared.Id12.{Id12}
use Rattle.ice_ids.specs.declared.drawing.Draw.{Draw}
use Rattle.zarr_tree.specs.Trees.{Tree}
use Rattle.zarr_tree.specs.Changes.{Changes, apply, IsNormal}
use Rattle.snapshot_file.specs.declared.snapshot.SnapshotFile.{SnapshotFile as Snap}
use Rattle.repo_objects.specs.Readings.{ref_of}
use Rattle.repo_objects.specs.Trees.{Extends}
use Rattle.object_store.specs.declared.keys.Key.TheVariants.{Snapshot, Branch}
use Rattle.object_store.specs.declared.keys.Why.TheVariants.{Commit}
use Rattle.object_store.specs.declared.events.Version.{Version}
use Rattle.object_store.specs.declared.events.Op.TheVariants.{PutOver}
use Rattle.object_store.specs.declared.events.Event.{Event}
use Rattle.store_api.specs.Journal.{Each, IsGood, IsGoodJournal, IsOnce, IsFirst, WasPut, puts_of, tree_of, snap_made}
use Rattle.object_store.proofs.Journals.{Each-back, Each-both}
use Rattle.object_store.proofs.Slots.{WasPut-append}
use Rattle.store_api.proofs.Standing.{standing, rows-stay, snap_made-put, puts-stay}
use Rattle.histories.specs.Calls.{LeadsFromParent, IsGiven, CommitsApply}
use Rattle.histories.specs.Formats.{files_by, applied}
use Rattle.histories.proofs.Choosing.{Knows, chosen, choice}
use Rattle.session.specs.Sessions.{SessionState, base_tree, changes_in, overlay}
use Rattle.commit_path.specs.Owed.{IsMade}
use Rattle.reach.specs.Own.{IsOwn}
use Rattle.commit_path.specs.Own.{IsOwnCommit, parent_made}
use Rattle.commit_path.proofs.Knowing.{once-front, once-back, tree-by_rows}
use Rattle.commit_path.proofs.Putting.{extends-same}
use Rattle.play_script.specs.declared.scripts.Task.{Task}
use Rattle.run_histories.specs.Runs.{IsChildOf}
use Rattle.run_histories.specs.Told.{IsOfSession, IsSolved, CommitsEnter}
use Rattle.run_histories.proofs.Along.{CommitsOwn}
use Rattle.run_histories.proofs.Sized.{changes-stay}
use Rattle.run_histories.proofs.Putting.{parent-put}

-- what holds of each event, where the whole journal is known
along-whole : (P Q : List Event → Event → Type 0) (whole old more : List Event) → whole ≡ old ++ more → ((journal : List Event) (event : Event) (rest : List Event) → whole ≡ journal ++ event ∷ rest → P journal event → Q journal event) → Each P old more → Each Q old more
unfolding Each
along-whole P Q whole old [] w f a = tt
along-whole P Q whole old (x ∷ xs) w f a = (f old x xs w a.0, along-whole P Q whole (old ++ x ∷ []) xs (w ∙ sym (append_assoc old (x ∷ []) xs)) f a.1)

-- ---- the changes at each position
-- those before, and then those that were chosen
pub joined : (ℕ → Changes) → List Event → (ℕ → Changes) → ℕ → Changes
joined before old after n = cond (ltb n (length old)) (before n) (after n)

pub joined-before : (before after : ℕ → Changes) (old : List Event) (n : ℕ) → n < length old → joined before old after n ≡ before n
unfolding joined
joined-before before after old n l = ap (λ b. cond b (before n) (after n)) (lt-ltb n (length old) l)

joined-after : (before after : ℕ → Changes) (old : List Event) (n : ℕ) → length old ≤ n → joined before old after n ≡ after n
unfolding joined
joined-after before after old n l = ap (λ b. cond b (before n) (after n)) (le-ltb n (length old) l)

-- what holds of each event that comes at a position from n on
along-past : (P Q : List Event → Event → Type 0) (n : ℕ) (old more : List Event) → n ≤ length old → ((journal : List Event) (event : Event) → n ≤ length journal → P journal event → Q journal event) → Each P old more → Each Q old more
unfolding Each
along-past P Q n old [] l f a = tt
along-past P Q n old (x ∷ xs) l f a = (f old x l a.0, along-past P Q n (old ++ x ∷ []) xs (omega (arith, l, length-append old (x ∷ []))) f a.1)

-- what is known of each event is right of the changes that were joined
pub joined-right : (Q : List Event → Event → Changes → Type 0) (before : ℕ → Changes) (old more : List Event) (a : Each (Knows Q) old more) → Each (λ journal event. Q journal event (joined before old (chosen Q old more a) (length journal))) old more
joined-right Q before old more a =
    along-past (λ journal event. Q journal event (chosen Q old more a (length journal))) _ (length old) old more (omega arith)
    (λ journal event l q. subst (λ (c : Changes). Q journal event c) (sym (joined-after before (chosen Q old more a) old (length journal) l)) q)
    (choice Q old more a)

-- the journal goes on soundly
record Follows (journal rest : List Event) : Type 0 where
  once : IsOnce journal
  good : Each IsGood journal rest
  first : Each IsFirst journal rest

-- ---- a commit of a session
-- in any journal that goes on so, its parent is the base, and both have their trees
module _ (journal rest : List Event) (f : Follows journal rest) (session : SessionState) (id : Id12) (m : IsMade session id journal) where
  made-base : (base : Id12) → parent_made journal id ≡ Some base → session.base ≡ base
  made-base base parent = base_same (sym (ap (option_and_then (λ (s : Snap). s.parent)) m.made ∙ m.parent) ∙ parent)
    where
      base_same : Some session.base ≡ Some base → session.base ≡ base
      base_same e = cc

  base-stands : tree_of (journal ++ rest) session.base ≡ Some (base_tree (puts_of journal) session)
  base-stands = standing session.base journal rest f.once m.base_put f.good f.first ∙ tree-by_rows journal session.base session.rows m.base_rows

  base-tree : tree_of (journal ++ rest) session.base ≡ Some (base_tree (puts_of (journal ++ rest)) session)
  base-tree = tree-by_rows (journal ++ rest) session.base session.rows (rows-stay session.base journal rest f.once m.base_put f.good f.first ∙ m.base_rows)

  -- what was put until then stays put and readable, so the changes are those by what was put at last
  grown : Extends (puts_of journal) (puts_of (journal ++ rest))
  grown = puts-stay journal rest f.once f.good f.first

  abbrev NormalThen : Type 0
  NormalThen = IsNormal (changes_in (puts_of journal) session) (base_tree (puts_of journal) session)

  normal-last : NormalThen → IsNormal (changes_in (puts_of (journal ++ rest)) session) (base_tree (puts_of (journal ++ rest)) session)
  normal-last normal =
      let same : base_tree (puts_of journal) session ≡ base_tree (puts_of (journal ++ rest)) session = tree_same (sym base-stands ∙ base-tree) in
      subst (λ (c : Changes). IsNormal c (base_tree (puts_of (journal ++ rest)) session)) (sym (changes-stay (puts_of journal) (puts_of (journal ++ rest)) session grown m.chunks))
      (subst (λ (t : Tree). IsNormal (changes_in (puts_of journal) session) t) same normal)
    where
      tree_same : Some (base_tree (puts_of journal) session) ≡ Some (base_tree (puts_of (journal ++ rest)) session) → base_tree (puts_of journal) session ≡ base_tree (puts_of (journal ++ rest)) session
      tree_same e = cc

  -- the commit's own, by what was put until then
  made-stands : NormalThen → tree_of (journal ++ rest) id ≡ Some (overlay (puts_of journal) session)
  made-stands normal =
      standing id journal rest f.once (snap_made-put journal id m.snap m.made) f.good f.first
      ∙ tree-by_rows journal id m.snap.nodes m.rows
      ∙ ap (λ (t : Tree). Some t) (m.tree (puts_of journal) (extends-same (puts_of journal)) normal)

  -- by what was put at last
  made-tree : NormalThen → tree_of (journal ++ rest) id ≡ Some (overlay (puts_of (journal ++ rest)) session)
  made-tree normal =
      tree-by_rows (journal ++ rest) id m.snap.nodes (rows-stay id journal rest f.once (snap_made-put journal id m.snap m.made) f.good f.first ∙ m.rows)
      ∙ ap (λ (t : Tree). Some t) (m.tree (puts_of (journal ++ rest)) grown (normal-last normal))

  made-leads : NormalThen → (c : Changes) → c ≡ changes_in (puts_of journal) session → LeadsFromParent (files_by (tree_of (journal ++ rest))) (apply c) journal id
  made-leads normal c changes base parent =
      made-stands normal
      ∙ ap (λ (x : Changes). Some (apply x (base_tree (puts_of journal) session))) (sym changes)
      ∙ ap (option_map (apply c)) (sym base-stands)
      ∙ ap (λ (i : Id12). option_map (apply c) (tree_of (journal ++ rest) i)) (made-base base parent)

-- where the event is a commit, the changes of a session that it may be of are normal for its base
abbrev pub CommitsNormal : Draw → List Task → (start journal : List Event) → Event → Type 0
CommitsNormal draw tasks start journal event = (c : Changes) (branch bytes : List ℕ) (old : Version) (id : Id12) → event.op ≡ PutOver (Branch branch) bytes old Commit → (s : IsOfSession draw tasks start c journal event.client branch old.0 id)
    → IsNormal (changes_in (puts_of journal) s.session) (base_tree (puts_of journal) s.session)

-- a commit of the client's own, of this session
own-commit : (client : ℕ) (start journal : List Event) (bytes : List ℕ) (id : Id12) (session : SessionState) → IsOnce journal → IsMade session id journal → ref_of bytes ≡ Some id → IsOwnCommit client bytes start journal → IsOwn client session.base id start journal
own-commit client start journal bytes id session once m names o =
    let same : o.id ≡ id = named (sym o.names ∙ names) in
    let parent : parent_made journal id ≡ Some o.base = subst (λ (i : Id12). parent_made journal i ≡ Some o.base) same (o.parent once) in
    let base : o.base ≡ session.base = based (sym parent ∙ (ap (option_and_then (λ (s : Snap). s.parent)) m.made ∙ m.parent)) in
    subst (λ (b : Id12). IsOwn client b id start journal) base (subst (λ (i : Id12). IsOwn client o.base i start journal) same (o.own once))
  where
    named : Some o.id ≡ Some id → o.id ≡ id
    named e = cc

    based : Some o.base ≡ Some session.base → o.base ≡ session.base
    based e = cc

module _ (draw : Draw) (tasks : List Task) (start : List Event) (changes : ℕ → Changes) (whole : List Event) (good : IsGoodJournal whole) (once : IsOnce whole) where
  follows : (journal rest : List Event) → whole ≡ journal ++ rest → Follows journal rest
  follows journal rest w =
      let good' : IsGoodJournal (journal ++ rest) = subst (λ (h : List Event). IsGoodJournal h) w good in
      let once' : IsOnce (journal ++ rest) = subst (λ (h : List Event). IsOnce h) w once in
      record { once = once-front journal rest once'; good = (Each-back IsGood [] journal rest good').1; first = once-back journal rest once' }

  base-has : (journal rest : List Event) (w : whole ≡ journal ++ rest) (session : SessionState) (id : Id12) → IsMade session id journal → tree_of whole session.base ≡ Some (base_tree (puts_of whole) session)
  base-has journal rest w session id made = subst (λ (h : List Event). tree_of h session.base ≡ Some (base_tree (puts_of h) session)) (sym w) (base-tree journal rest (follows journal rest w) session id made)

  -- what is known of each event
  abbrev Solved : List Event → Event → Type 0
  Solved journal event = IsSolved draw tasks start changes journal event × CommitsNormal draw tasks start journal event

  abbrev Applied : List Event → Event → Type 0
  Applied journal event = Solved journal event × (CommitsApply (files_by (tree_of whole)) (applied changes) journal event × CommitsOwn start journal event)

  solved-one : (journal : List Event) (event : Event) (rest : List Event) → whole ≡ journal ++ event ∷ rest → Solved journal event → IsGiven (files_by (tree_of whole)) (applied changes) journal event
  solved-one journal event rest w (solved, normal) branch bytes old id op_is names =
      let s = solved branch bytes old id op_is names in
      let f = follows journal (event ∷ rest) w in
      let then = normal (changes (length journal)) branch bytes old id op_is s in
      subst (λ (h : List Event). LeadsFromParent (files_by (tree_of h)) (apply (changes (length journal))) journal id) (sym w)
      (made-leads journal (event ∷ rest) f s.session id s.made then (changes (length journal)) s.changes_are)

  pub solved-given : (old more : List Event) → whole ≡ old ++ more → Each (IsSolved draw tasks start changes) old more → Each (CommitsNormal draw tasks start) old more → Each (IsGiven (files_by (tree_of whole)) (applied changes)) old more
  solved-given old more w a n =
      along-whole Solved (IsGiven (files_by (tree_of whole)) (applied changes)) whole old more w solved-one
      (Each-both (IsSolved draw tasks start changes) (CommitsNormal draw tasks start) Solved (λ h e p q. (p, q)) old more a n)

  -- ---- the commits that took effect
  enters-one : (journal : List Event) (event : Event) (rest : List Event) → whole ≡ journal ++ event ∷ rest → Applied journal event → CommitsEnter draw tasks start (puts_of whole) (tree_of whole) changes journal event
  enters-one journal event rest w ((solved, normal), (applied, own)) branch bytes old id stored op_is names done stands version =
      let s = solved branch bytes old id op_is names in
      let c = applied branch bytes old id stored op_is names done stands version in
      let f = follows journal (event ∷ rest) w in
      let base : s.session.base ≡ c.before.id = made-base journal (event ∷ rest) f s.session id s.made c.before.id c.child in
      let base_has : tree_of whole s.session.base ≡ Some (base_tree (puts_of whole) s.session) = base-has journal (event ∷ rest) w s.session id s.made in
      let then = normal (changes (length journal)) branch bytes old id op_is s in
      record {
        of_session = s;
        before = c.before;
        is_last = c.is_last;
        version = c.version;
        base = sym base;
        base_is = subst (λ (i : Id12). tree_of whole i ≡ Some (base_tree (puts_of whole) s.session)) base base_has;
        tree = subst (λ (h : List Event). tree_of h id ≡ Some (overlay (puts_of h) s.session)) (sym w) (made-tree journal (event ∷ rest) f s.session id s.made then);
        normal = subst (λ (h : List Event). IsNormal (changes_in (puts_of h) s.session) (base_tree (puts_of h) s.session)) (sym w) (normal-last journal (event ∷ rest) f s.session id s.made then);
        own = own-commit event.client start journal bytes id s.session f.once s.made names (own branch bytes old op_is);
      }

  pub solved-enter : (old more : List Event) → whole ≡ old ++ more → Each (IsSolved draw tasks start changes) old more → Each (CommitsNormal draw tasks start) old more → Each (CommitsApply (files_by (tree_of whole)) (applied changes)) old more → Each (CommitsOwn start) old more
      → Each (CommitsEnter draw tasks start (puts_of whole) (tree_of whole) changes) old more
  solved-enter old more w a n b c =
      along-whole Applied (CommitsEnter draw tasks start (puts_of whole) (tree_of whole) changes) whole old more w enters-one
      (Each-both Solved (λ h e. CommitsApply (files_by (tree_of whole)) (applied changes) h e × CommitsOwn start h e) Applied (λ h e p q. (p, q)) old more
      (Each-both (IsSolved draw tasks start changes) (CommitsNormal draw tasks start) Solved (λ h e p q. (p, q)) old more a n)
      (Each-both (CommitsApply (files_by (tree_of whole)) (applied changes)) (CommitsOwn start) (λ h e. CommitsApply (files_by (tree_of whole)) (applied changes) h e × CommitsOwn start h e) (λ h e p q. (p, q)) old more b c))

-- ---- the commits before
-- the snapshot whose parent that is
child-of : (journal : List Event) (base id : Id12) → parent_made journal id ≡ Some base → IsChildOf journal base id
child-of journal base id e = at (snap_made journal id) refl e
  where
    at : (o : Option Snap) → snap_made journal id ≡ o → option_and_then (λ (s : Snap). s.parent) o ≡ Some base → IsChildOf journal base id
    at None is k = cc
    at (Some s) is k = record { snap = s; made = is; parent = k }

module _ (before after : ℕ → Changes) (old more : List Event) (good : IsGoodJournal old) (once : IsOnce old) (goes_on : Each IsGood old more) (first : Each IsFirst old more) (same : (n : ℕ) → n < length old → after n ≡ before n) where
  before-one : (journal : List Event) (event : Event) (rest : List Event) → old ≡ journal ++ event ∷ rest → IsGiven (files_by (tree_of old)) (applied before) journal event → IsGiven (files_by (tree_of (old ++ more))) (applied after) journal event
  before-one journal event rest w given branch bytes version id op_is names base parent =
      let child = child-of journal base id parent in
      let within : length journal < length old = omega (arith, ap length w, length-append journal (event ∷ rest)) in
      let c : after (length journal) ≡ before (length journal) = same (length journal) within in
      let good' : IsGoodJournal (journal ++ event ∷ rest) = subst (λ (h : List Event). IsGoodJournal h) w good in
      let prefix : IsGoodJournal journal = (Each-back IsGood [] journal (event ∷ rest) good').0 in
      let id_put : WasPut old (Snapshot id) = later journal (event ∷ rest) id w (snap_made-put journal id child.snap child.made) in
      let base_put : WasPut old (Snapshot base) = later journal (event ∷ rest) base w (parent-put journal id base child.snap prefix child.made child.parent) in
      standing id old more once id_put goes_on first
      ∙ given branch bytes version id op_is names base parent
      ∙ ap (λ (x : Changes). option_map (apply x) (tree_of old base)) (sym c)
      ∙ ap (option_map (apply (after (length journal)))) (sym (standing base old more once base_put goes_on first))
    where
      later : (xs ys : List Event) (i : Id12) → old ≡ xs ++ ys → WasPut xs (Snapshot i) → WasPut old (Snapshot i)
      later xs ys i e p = subst (λ (h : List Event). WasPut h (Snapshot i)) (sym e) (WasPut-append xs ys (Snapshot i) p)

  pub before-given : Each (IsGiven (files_by (tree_of old)) (applied before)) [] old → Each (IsGiven (files_by (tree_of (old ++ more))) (applied after)) [] old
  before-given a = along-whole (IsGiven (files_by (tree_of old)) (applied before)) (IsGiven (files_by (tree_of (old ++ more))) (applied after)) old [] old refl before-one a
