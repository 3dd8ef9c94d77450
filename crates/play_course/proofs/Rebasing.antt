-- What a rebase answers in a run over an empty store.
use Rattle.std.proofs.Common.{◌≡◌, ◌≢◌, ℕ, zero, suc, ◌+◌, ◌⊎◌, inl, inr, Bool, true, false, cond, not, List, [], ◌∷◌, ◌++◌, length, refl, sym, ◌∙◌, ap, subst}
use Rattle.std.specs.Prelude.{Option, Some, None, option_map, option_and_then, nat_lt, Result, Ok, Err}
use Rattle.std.specs.FinMap.{FinMap, len}
use Rattle.ice_ids.specs.declared.Id8.{Id8}
use Rattle.ice_ids.specs.declared.Id12.{Id12}
use Rattle.ice_ids.specs.declared.drawing.AnyIds.{AnyIds}
use Rattle.ice_ids.specs.Text.{same_id12}
use Rattle.ice_ids.proofs.TextLaws.{same_id12-true}
use Rattle.zarr_path.specs.Paths.{path_cmp}
use Rattle.zarr_tree.specs.declared.lists.Touched.{Touched}
use Rattle.zarr_tree.specs.declared.cases.Conflict.{Conflict}
use Rattle.zarr_tree.specs.Nodes.{Node}
use Rattle.zarr_tree.specs.Edits.{most_nodes}
use Rattle.zarr_tree.specs.Held.{Held, entry_in, nodes_over}
use Rattle.zarr_changes.specs.Edits.{lists_key}
use Rattle.manifest_file.specs.declared.manifest.Place.{Place}
use Rattle.snapshot_file.specs.declared.snapshot.SnapshotFile.{SnapshotFile}
use Rattle.txn_file.specs.declared.log.TxnFile.{TxnFile}
use Rattle.conflicts.specs.declared.solving.Policy.{Policy}
use Rattle.repo_objects.specs.declared.bad_objects.Bad.{Bad}
use Rattle.repo_objects.specs.declared.bad_objects.Bad.TheVariants.{Unlisted}
use Rattle.repo_objects.specs.Laws.{SnapshotLaw}
use Rattle.repo_objects.specs.Readings.{read_snapshot, snapshot_by, read_log, log_by, read_ref}
use Rattle.repo_objects.specs.Trees.{nodes_in}
use Rattle.object_store.specs.declared.keys.Key.TheVariants.{Snapshot, Txn, Branch}
use Rattle.object_store.specs.declared.events.Op.TheVariants.{Get}
use Rattle.object_store.specs.declared.events.Event.{Event}
use Rattle.store_api.specs.declared.machines.Refusal.{Refusal}
use Rattle.zarr_tree.specs.declared.edit.EditFault.TheVariants as E
use Rattle.store_api.specs.declared.machines.Refusal.TheVariants as R
use Rattle.object_store.specs.Machine.{Stored, found, first_put, version_at}
use Rattle.store_api.specs.Journal.{Each, IsGood, IsOnce, WasPut, lists_of}
use Rattle.store_api.specs.Program.{Done, Ask}
use Rattle.store_api.specs.Running.{Program, ◌>>=◌, on_answer}
use Rattle.object_store.proofs.Journals.{Each-one}
use Rattle.object_store.proofs.Slots.{WasPut-append, found-stood, sound}
use Rattle.store_api.proofs.Telling.{Had}
use Rattle.repo_read.specs.declared.answers.Resolved.{Resolved}
use Rattle.repo_read.specs.Answers.{at_key, resolved_at, ref_told, snapshot_told, log_told}
use Rattle.repo_read.specs.Chains.{most_snapshots}
use Rattle.session.specs.Sessions.{SessionState, base_nodes, branch_of, rebased_to, origin_at, writes}
use Rattle.commit_path.proofs.Entries.{filter-fewer}
use Rattle.rebase.specs.declared.machine.Rebased.{Rebased}
use Rattle.rebase.specs.declared.machine.Rebased.TheVariants.{OnHead, UpToDate}
use Rattle.rebase.specs.Along.{Link, left_at, solved_at, first_hidden}
use Rattle.rebase.specs.Rebasing.{CommitsSince, head_of, walk_down, if_solved, solve_link, solve_program, on_head, over_commits, after_ref, rebase_program}
use Rattle.rebase.proofs.Walking.{IsHead, IsHead-append, got-head}
use Rattle.rebase.proofs.Moving.{IsLess, HasNamed, HasNamed-append, same-opened, moved-opened}
use Rattle.run_histories.specs.Runs.{HasCause}
use Rattle.play_course.specs.Refusing.{is_strange}
use Rattle.play_course.proofs.Tidy.{Client, IsAny, stands-readable, put-stands, all-named}
use Rattle.play_course.proofs.Parents.{ComesFrom, HasParent, comes-from, comes-more, log-stands_first, parent-more}
use Rattle.play_course.proofs.Meeting.{was-read, Meets, done-meets, ask-meets, then-meets, got-meets}
use Rattle.play_course.proofs.Knowing.{IsSoFar, OfOwn, beside, good-others, missing-plain}
use Rattle.play_course.proofs.Holding.{MayCommit, may-others, may-got}

some-same : {A : Type 0} (a b : A) → Some a ≡ Some b → a ≡ b
some-same a b e = cc

-- ---- refusals
-- it says that a commit's log hides a node
pub record SaysHidden (why : Refusal) : Type 0 where
  pub at : Id12
  pub node : Id8
  pub is : why ≡ R.BadFile (Txn at) (Unlisted node)

-- no other strange one
abbrev pub IsFine : (collects : Bool) → Refusal → Type 0
IsFine collects why = (is_strange collects why ≡ false) ⊎ SaysHidden why

-- ---- commits
abbrev AllParents : List Event → List SnapshotFile → Type 0
AllParents journal [] = Unit {0}
AllParents journal (f ∷ fs) = HasParent journal f.id × AllParents journal fs

parents-more : (journal more : List Event) (fs : List SnapshotFile) → AllParents journal fs → AllParents (journal ++ more) fs
parents-more journal more [] all = tt
parents-more journal more (f ∷ fs) all = (parent-more journal more f.id all.0, parents-more journal more fs all.1)

-- its log was put, and reads as this where it stands; and it does where no task collects
record LogStands (collects : Bool) (journal : List Event) (id : Id12) : Type 0 where
  log : TxnFile
  there : collects ≡ false → found journal (Txn id) ≢ None
  read : (s : Stored) → found journal (Txn id) ≡ Some s → log_by id s.bytes ≡ Some log

-- bytes that read as a log with these lists
record WasLog (id : Id12) (put : Option (List ℕ)) : Type 0 where
  bytes : List ℕ
  put_is : put ≡ Some bytes
  log : TxnFile
  read : log_by id bytes ≡ Some log

was-log : (id : Id12) (put : Option (List ℕ)) (lists : Touched) → option_map lists_of (option_and_then (log_by id) put) ≡ Some lists → WasLog id put
was-log id None lists e = absurd cc
was-log id (Some bytes) lists e = by_log (log_by id bytes) refl e
  where
    by_log : (o : Option TxnFile) → log_by id bytes ≡ o → option_map lists_of o ≡ Some lists → WasLog id (Some bytes)
    by_log None f g = absurd cc
    by_log (Some log) f g = record { bytes = bytes; put_is = refl; log = log; read = f }

log-stands : (collects : Bool) (journal : List Event) (f : SnapshotFile) → Each IsAny [] journal → IsSoFar collects journal → HasParent journal f.id → LogStands collects journal f.id
log-stands collects journal f tidy so_far p = record {
  log = was.log;
  there = λ none. put-stands (Txn f.id) tt journal (so_far.stand none) (was.bytes, was.put_is);
  read = λ s e.
      let same : was.bytes ≡ s.bytes = some-same was.bytes s.bytes (sym was.put_is ∙ log-stands_first f.id journal s tidy so_far.once e) in
      ap (log_by f.id) (sym same) ∙ was.read;
}
  where
    cause : HasCause journal p.parent f.id
    cause = so_far.causes p.parent f.id p.child

    was : WasLog f.id (first_put journal (Txn f.id))
    was = was-log f.id (first_put journal (Txn f.id)) cause.lists cause.logged

-- ---- the walk
-- the branch's snapshot is the next one, or the last of those above
abbrev Top : Id12 → List SnapshotFile → Id12 → List Event → Type 0
Top head [] next h = next ≡ head
Top head (f ∷ fs) next h = IsHead head (head_of f fs) h

top-more : (head : Id12) (above : List SnapshotFile) (next : Id12) (journal more : List Event) → Each IsGood journal more → Top head above next journal → Top head above next (journal ++ more)
top-more head [] next journal more good t = t
top-more head (f ∷ fs) next journal more good t = IsHead-append head (head_of f fs) journal more good t

top-read : (head : Id12) (above : List SnapshotFile) (next : Id12) (f : SnapshotFile) (h : List Event) → Top head above next h → IsHead next f h → IsHead head (head_of f above) h
top-read head [] next f h t k = subst (λ (id : Id12). IsHead id f h) t k
top-read head (g ∷ gs) next f h t k = t

-- what follows a snapshot
abbrev behind : (base head : Id12) → (left : ℕ) → (above : List SnapshotFile) → SnapshotFile → Option Id12 → Program CommitsSince
behind base head left above f parent = elim parent [
  | Some parent ↦ cond (same_id12 parent base) (Done (Ok (record { oldest = f; later = above }))) (walk_down base head left (f ∷ above) parent)
  | None ↦ Done (Err (R.NotAncestor head))
]

abbrev Nodes : Type 0
Nodes = FinMap path_cmp Node

module _ (client : Client) (ids : AnyIds) (law : SnapshotLaw) (policy : Policy) (s : SessionState) where
  own-good : (journal : List Event) (event : Event) → OfOwn client ids journal event → Each IsGood journal (event ∷ [])
  own-good journal event own = Each-one IsGood journal event own.tidy.good

  module _ (named : Resolved) where
    -- the walk has come to a snapshot that was put
    record Walks (above : List SnapshotFile) (next : Id12) (journal : List Event) : Type 0 where
      may : MayCommit client s journal
      branch : HasNamed (branch_of s) named.version.0 named.id journal
      put : WasPut journal (Snapshot next)
      parents : AllParents journal above
      top : Top named.id above next journal

    walks-more : (above : List SnapshotFile) (next : Id12) (journal more : List Event) → Each IsGood journal more → MayCommit client s (journal ++ more) → Walks above next journal → Walks above next (journal ++ more)
    walks-more above next journal more good may w = record {
      may = may;
      branch = HasNamed-append (branch_of s) named.version.0 named.id journal more good w.branch;
      put = WasPut-append journal more (Snapshot next) w.put;
      parents = parents-more journal more above w.parents;
      top = top-more named.id above next journal more good w.top;
    }

    -- the commits down to the base
    record Chain (c : CommitsSince) (journal : List Event) : Type 0 where
      may : MayCommit client s journal
      branch : HasNamed (branch_of s) named.version.0 named.id journal
      parents : AllParents journal (c.oldest ∷ c.later)
      top : IsHead named.id (head_of c.oldest c.later) journal

    chain-more : (c : CommitsSince) (journal more : List Event) → Each IsGood journal more → MayCommit client s (journal ++ more) → Chain c journal → Chain c (journal ++ more)
    chain-more c journal more good may k = record {
      may = may;
      branch = HasNamed-append (branch_of s) named.version.0 named.id journal more good k.branch;
      parents = parents-more journal more (c.oldest ∷ c.later) k.parents;
      top = IsHead-append named.id (head_of c.oldest c.later) journal more good k.top;
    }

    abbrev WalksWell : Result CommitsSince Refusal → List Event → Type 0
    WalksWell (Ok c) h = Chain c h
    WalksWell (Err why) h = is_strange client.collects why ≡ false

    -- a snapshot that was read
    record WasRead (next : Id12) (f : SnapshotFile) (journal : List Event) : Type 0 where
      head : IsHead next f journal
      own : f.id ≡ next
      from : ComesFrom journal next f

    read-here : (next : Id12) (st : Stored) (f : SnapshotFile) (journal : List Event) → Each IsAny [] journal → IsOnce journal → found journal (Snapshot next) ≡ Some st → snapshot_by next st.bytes ≡ Some f → WasRead next f journal
    read-here next st f journal tidy once at read =
        let at_key = sound journal (Snapshot next) in
        let had : Had journal (Snapshot next) st.bytes st.version = record { stood = found-stood journal (Snapshot next) st at; put = at_key.first st at; last = at_key.last st at } in
        record {
          head = got-head law next st.bytes st.version f journal had (was-read (read_snapshot next st.bytes) f read);
          own = law.own next st.bytes f read;
          from = comes-from journal tidy once next st f at read;
        }

    read-more : (next : Id12) (f : SnapshotFile) (journal more : List Event) → Each IsGood journal more → WasRead next f journal → WasRead next f (journal ++ more)
    read-more next f journal more good r = record { head = IsHead-append next f journal more good r.head; own = r.own; from = comes-more journal more next f r.from }

    abbrev GoesDown : ℕ → List SnapshotFile → Type 0
    GoesDown left above = (next : Id12) (journal : List Event) → Walks above next journal → Meets WalksWell (beside client ids) (walk_down s.base named.id left above next) journal

    -- the snapshot with a parent
    with-parent : (above : List SnapshotFile) (next parent : Id12) (f : SnapshotFile) (h : List Event) → Walks above next h → WasRead next f h → f.parent ≡ Some parent → AllParents h (f ∷ above)
    with-parent above next parent f h w r e = (subst (HasParent h) (sym r.own) (r.from parent e).1, w.parents)

    parent-meets : (left : ℕ) (above : List SnapshotFile) (next : Id12) (f : SnapshotFile) (h : List Event) → Walks above next h → WasRead next f h → GoesDown left (f ∷ above) → (o : Option Id12) → f.parent ≡ o → Meets WalksWell (beside client ids) (behind s.base named.id left above f o) h
    parent-meets left above next f h w r go None e = done-meets WalksWell (beside client ids) (Err (R.NotAncestor named.id)) h refl
    parent-meets left above next f h w r go (Some parent) e = by_base (same_id12 parent s.base)
      where
        put : WasPut h (Snapshot parent)
        put = (r.from parent e).0

        by_base : (b : Bool) → Meets WalksWell (beside client ids) (cond b (Done (Ok (record { oldest = f; later = above }))) (walk_down s.base named.id left (f ∷ above) parent)) h
        by_base true = done-meets WalksWell (beside client ids) (Ok (record { oldest = f; later = above })) h (record { may = w.may; branch = w.branch; parents = with-parent above next parent f h w r e; top = top-read named.id above next f h w.top r.head })
        by_base false = go parent h (record { may = w.may; branch = w.branch; put = put; parents = with-parent above next parent f h w r e; top = top-read named.id above next f h w.top r.head })

    walk-meets : (left : ℕ) (above : List SnapshotFile) → GoesDown left above
    unfolding walk_down
    walk-meets zero above next journal w = done-meets WalksWell (beside client ids) (Err R.TooDeep) journal refl
    walk-meets (suc left) above next journal w =
        let rest = λ (r : Result SnapshotFile Refusal). on_answer (λ (f : SnapshotFile). behind s.base named.id left above f f.parent) r in
        ask-meets WalksWell (beside client ids) (Get (Snapshot next)) (λ reply. rest (snapshot_told next reply)) journal (λ more event others own is.
        let mid = walks-more above next journal more (good-others client ids journal more others) (may-others client ids s journal more others w.may) w in
        let after = walks-more above next (journal ++ more) (event ∷ []) (own-good (journal ++ more) event own) (may-got client ids s (journal ++ more) event (Snapshot next) own is mid.may) mid in
        got-meets WalksWell (beside client ids) (λ reply. rest (snapshot_told next reply)) (journal ++ more) event own.tidy.good ((journal ++ more) ++ event ∷ []) (Snapshot next) is
        (λ st at.
        let can = stands-readable next (journal ++ more) st mid.may.before.tidy at in
        let read = read-more next can.0 (journal ++ more) (event ∷ []) (own-good (journal ++ more) event own) (read-here next st can.0 (journal ++ more) mid.may.before.tidy mid.may.before.so_far.once at can.1) in
        subst (λ (r : Result SnapshotFile Bad). Meets WalksWell (beside client ids) (rest (at_key (Snapshot next) r)) ((journal ++ more) ++ event ∷ [])) (sym (was-read (read_snapshot next st.bytes) can.0 can.1))
        (parent-meets left above next can.0 ((journal ++ more) ++ event ∷ []) after read (walk-meets left (can.0 ∷ above)) can.0.parent refl))
        (λ gone. done-meets WalksWell (beside client ids) (Err (R.Missing (Snapshot next))) ((journal ++ more) ++ event ∷ []) (missing-plain client.collects (Snapshot next) (λ none. put-stands (Snapshot next) tt (journal ++ more) (mid.may.before.so_far.stand none) mid.put gone)))
        (λ done. done-meets WalksWell (beside client ids) (Err R.StoreFault) ((journal ++ more) ++ event ∷ []) refl))

    -- ---- the logs
    -- what is held still is what was held, but for entries that were given up
    abbrev SolvesWell : CommitsSince → Result (Held Place) Refusal → List Event → Type 0
    SolvesWell c (Ok left) h = Chain c h × IsLess s.held left
    SolvesWell c (Err why) h = IsFine client.collects why

    less-solved : (held : Held Place) (before : Nodes) (l : Link) → IsLess s.held held → IsLess s.held (solved_at policy held before l)
    less-solved held before l less = record {
      rows = (solved_at policy held before l).chunks;
      is = ap (λ (h : Held Place). record h { chunks = (solved_at policy held before l).chunks }) less.is;
      fewer = λ node i x e.
          less.fewer node i x (ap (λ (h : Held Place). entry_in h.chunks node i) (sym less.is) ∙ filter-fewer (λ n j. not (lists_key _ n j)) held.chunks node i x e);
    }

    if-meets : (c : CommitsSince) (at : Id12) (left : List Conflict) (hidden : Option Id8) (p : Program (Held Place)) (h : List Event) → Meets (SolvesWell c) (beside client ids) p h → Meets (SolvesWell c) (beside client ids) (if_solved at left hidden p) h
    if-meets c at (x ∷ xs) hidden p h m = done-meets (SolvesWell c) (beside client ids) (Err (R.Left at (x ∷ xs))) h (inl refl)
    if-meets c at [] (Some node) p h m = done-meets (SolvesWell c) (beside client ids) (Err (R.BadFile (Txn at) (Unlisted node))) h (inr (record { at = at; node = node; is = refl }))
    if-meets c at [] None p h m = m

    solve-meets : (c : CommitsSince) (fs : List SnapshotFile) (held : Held Place) (before : Nodes) (journal : List Event) → Chain c journal → AllParents journal fs → IsLess s.held held → Meets (SolvesWell c) (beside client ids) (solve_program policy held before fs) journal
    unfolding solve_program
    solve-meets c [] held before journal k all less = done-meets (SolvesWell c) (beside client ids) (Ok held) journal (k, less)
    solve-meets c (f ∷ fs) held before journal k all less =
        let next = λ (left : Held Place). solve_program policy left (nodes_in f.nodes) fs in
        let rest = λ (r : Result TxnFile Refusal). on_answer (λ (log : TxnFile). solve_link policy held before (record { file = f; lists = log.lists }) next) r in
        ask-meets (SolvesWell c) (beside client ids) (Get (Txn f.id)) (λ reply. rest (log_told f.id reply)) journal (λ more event others own is.
        let may : MayCommit client s (journal ++ more) = may-others client ids s journal more others k.may in
        let mid = chain-more c journal more (good-others client ids journal more others) may k in
        let there = parents-more journal more (f ∷ fs) all in
        let after = chain-more c (journal ++ more) (event ∷ []) (own-good (journal ++ more) event own) (may-got client ids s (journal ++ more) event (Txn f.id) own is may) mid in
        let stands = log-stands client.collects (journal ++ more) f may.before.tidy may.before.so_far there.0 in
        let l : Link = record { file = f; lists = stands.log.lists } in
        got-meets (SolvesWell c) (beside client ids) (λ reply. rest (log_told f.id reply)) (journal ++ more) event own.tidy.good ((journal ++ more) ++ event ∷ []) (Txn f.id) is
        (λ st at.
        let read : read_log f.id st.bytes ≡ Ok stands.log = was-read (read_log f.id st.bytes) stands.log (stands.read st at) in
        subst (λ (r : Result TxnFile Bad). Meets (SolvesWell c) (beside client ids) (rest (at_key (Txn f.id) r)) ((journal ++ more) ++ event ∷ [])) (sym read)
        (if-meets c f.id (left_at policy held before l) (first_hidden (nodes_in f.nodes) held.metas) (next (solved_at policy held before l)) ((journal ++ more) ++ event ∷ [])
        (solve-meets c fs (solved_at policy held before l) (nodes_in f.nodes) ((journal ++ more) ++ event ∷ []) after (parents-more (journal ++ more) (event ∷ []) fs there.1) (less-solved held before l less))))
        (λ gone. done-meets (SolvesWell c) (beside client ids) (Err (R.Missing (Txn f.id))) ((journal ++ more) ++ event ∷ []) (inl (missing-plain client.collects (Txn f.id) (λ none. stands.there none gone))))
        (λ done. done-meets (SolvesWell c) (beside client ids) (Err R.StoreFault) ((journal ++ more) ++ event ∷ []) (inl refl)))

  -- ---- the rebase
  abbrev pub RebasesWell : Result Rebased Refusal → List Event → Type 0
  RebasesWell (Ok (OnHead t count)) h = MayCommit client t h
  RebasesWell (Ok (UpToDate t)) h = MayCommit client t h
  RebasesWell (Err why) h = IsFine client.collects why

  head-meets : (named : Resolved) (count : ℕ) (c : CommitsSince) (held : Held Place) (h : List Event) → Chain named c h → IsLess s.held held → Meets RebasesWell (beside client ids) (on_head s named count (head_of c.oldest c.later) held) h
  head-meets named count c held h k less = by_test (nat_lt most_nodes (len (nodes_over held (nodes_in (head_of c.oldest c.later).nodes))))
    where
      by_test : (b : Bool) → Meets RebasesWell (beside client ids) (cond b (Done (Err (R.Edit E.Full))) (Done (Ok (OnHead (rebased_to s named.id named.version.0 (head_of c.oldest c.later) held) count)))) h
      by_test true = done-meets RebasesWell (beside client ids) (Err (R.Edit E.Full)) h (inl refl)
      by_test false = done-meets RebasesWell (beside client ids) (Ok (OnHead (rebased_to s named.id named.version.0 (head_of c.oldest c.later) held) count)) h (record {
        before = k.may.before;
        known = k.may.known;
        opened = moved-opened s named.id named.version.0 (head_of c.oldest c.later) held h k.branch k.top less k.may.opened;
      })

  commits-meet : (named : Resolved) (c : CommitsSince) (h : List Event) → Chain named c h → Meets RebasesWell (beside client ids) (over_commits policy s named c) h
  commits-meet named c h k =
      then-meets (SolvesWell named c) RebasesWell (beside client ids) (solve_program policy s.held (base_nodes s) (c.oldest ∷ c.later)) (on_head s named (length c.later + 1) (head_of c.oldest c.later)) h
      (solve-meets named c (c.oldest ∷ c.later) s.held (base_nodes s) h k k.parents (record { rows = s.held.chunks; is = refl; fewer = λ node i x e. e }))
      (λ held j q. head-meets named (length c.later + 1) c held j q.0 q.1) (λ why j p. p)

  named-meets : (named : Resolved) (h : List Event) → MayCommit client s h → HasNamed (branch_of s) named.version.0 named.id h → WasPut h (Snapshot named.id) → Meets RebasesWell (beside client ids) (after_ref policy s named) h
  named-meets named h may branch put = by_base (same_id12 named.id s.base) refl
    where
      by_base : (b : Bool) → same_id12 named.id s.base ≡ b → Meets RebasesWell (beside client ids) (cond b (Done (Ok (UpToDate (record s { origin = origin_at named.version.0 s.origin })))) (walk_down s.base named.id most_snapshots [] named.id >>= over_commits policy s named)) h
      by_base true t = done-meets RebasesWell (beside client ids) (Ok (UpToDate (record s { origin = origin_at named.version.0 s.origin }))) h (record {
        before = may.before;
        known = may.known;
        opened = same-opened s named.version.0 h (subst (λ (id : Id12). HasNamed (branch_of s) named.version.0 id h) (same_id12-true named.id s.base t) branch) may.opened;
      })
      by_base false t =
          then-meets (WalksWell named) RebasesWell (beside client ids) (walk_down s.base named.id most_snapshots [] named.id) (over_commits policy s named) h
          (walk-meets named most_snapshots [] named.id h (record { may = may; branch = branch; put = put; parents = tt; top = refl }))
          (λ c j k. commits-meet named c j k) (λ why j p. inl p)

  ref-meets : (journal : List Event) → MayCommit client s journal → Meets RebasesWell (beside client ids) (Ask (Get (Branch (branch_of s))) (λ reply. on_answer (after_ref policy s) (ref_told (branch_of s) reply))) journal
  ref-meets journal may = ask-meets RebasesWell (beside client ids) (Get (Branch (branch_of s))) (λ reply. on_answer (after_ref policy s) (ref_told (branch_of s) reply)) journal (λ more event others own is.
      let mid = may-others client ids s journal more others may in
      let after = may-got client ids s (journal ++ more) event (Branch (branch_of s)) own is mid in
      got-meets RebasesWell (beside client ids) (λ reply. on_answer (after_ref policy s) (ref_told (branch_of s) reply)) (journal ++ more) event own.tidy.good ((journal ++ more) ++ event ∷ []) (Branch (branch_of s)) is
      (λ st at.
      let n = (all-named (journal ++ more) mid.before.tidy).branches (branch_of s) st at in
      let named : Resolved = record { id = n.id; version = version_at st.version } in
      subst (λ (r : Result Id12 Bad). Meets RebasesWell (beside client ids) (on_answer (after_ref policy s) (resolved_at (version_at st.version) (at_key (Branch (branch_of s)) r))) ((journal ++ more) ++ event ∷ [])) (sym (was-read (read_ref st.bytes) n.id n.reference))
      (named-meets named ((journal ++ more) ++ event ∷ []) after
      (HasNamed-append (branch_of s) st.version n.id (journal ++ more) (event ∷ []) (own-good (journal ++ more) event own) (record { bytes = st.bytes; stood = found-stood (journal ++ more) (Branch (branch_of s)) st at; names = n.reference }))
      (WasPut-append (journal ++ more) (event ∷ []) (Snapshot n.id) n.put)))
      (λ gone. done-meets RebasesWell (beside client ids) (Err R.NoRef) ((journal ++ more) ++ event ∷ []) (inl refl))
      (λ done. done-meets RebasesWell (beside client ids) (Err R.StoreFault) ((journal ++ more) ++ event ∷ []) (inl refl)))

  -- a rebase is refused as it may be, or by a log that hides a node
  pub rebase-meets : (journal : List Event) → MayCommit client s journal → Meets RebasesWell (beside client ids) (rebase_program policy s) journal
  unfolding rebase_program
  rebase-meets journal may = by_writes (writes s)
    where
      by_writes : (b : Bool) → Meets RebasesWell (beside client ids) (cond b (Ask (Get (Branch (branch_of s))) (λ reply. on_answer (after_ref policy s) (ref_told (branch_of s) reply))) (Done (Err R.ReadOnly))) journal
      by_writes true = ref-meets journal may
      by_writes false = done-meets RebasesWell (beside client ids) (Err R.ReadOnly) journal (inl refl)
