-- A task commits at most once: behind a commit that wasn't found moved it makes gets alone.
use Rattle.std.proofs.Common.{◌≡◌, inl, inr, refl, sym, subst, cond, Bool, true, false, ℕ, zero, suc, ℤ, List, [], ◌∷◌, ◌++◌, Option, None, Some, Result, Ok, Err}
use Rattle.std.specs.Prelude.{IfOk}
use Rattle.ice_ids.specs.declared.Id12.{Id12}
use Rattle.ice_ids.specs.declared.drawing.AnyIds.{AnyIds}
use Rattle.ice_ids.specs.Drawing.{drawn12, after12}
use Rattle.flat_tables.specs.declared.header.Kind.TheVariants as kinds
use Rattle.zarr_tree.specs.Held.{touched}
use Rattle.zarr_tree.specs.Touched.{is_untouched}
use Rattle.zarr_changes.specs.Sets.{changed_arrays}
use Rattle.snapshot_file.specs.Layout.{snapshot_bytes}
use Rattle.txn_file.specs.Layout.{log_file}
use Rattle.changed_snapshot.specs.declared.new_snapshot.NewList.{NewList}
use Rattle.conflicts.specs.declared.solving.Policy.{Policy}
use Rattle.object_store.specs.declared.keys.Key.{Key}
use Rattle.object_store.specs.declared.keys.Key.TheVariants.{Snapshot, Txn}
use Rattle.object_store.specs.declared.keys.Why.{Why}
use Rattle.object_store.specs.declared.keys.Why.TheVariants.{Set}
use Rattle.object_store.specs.declared.events.Version.{Version}
use Rattle.object_store.specs.declared.events.Op.{Op}
use Rattle.object_store.specs.declared.events.Op.TheVariants.{Get, PutNew}
use Rattle.object_store.specs.declared.events.New.TheVariants.{Done as New_done, Present}
use Rattle.object_store.specs.declared.events.Over.TheVariants.{Done as Over_done, Moved as Over_moved}
use Rattle.object_store.specs.declared.events.Reply.{Reply}
use Rattle.object_store.specs.declared.events.Reply.TheVariants.{Got as Is_got, New as Is_new, Over as Is_over, Gone as Is_gone, GoneAt as Is_gone_at, Listed as Is_listed, Failed}
use Rattle.object_store.specs.declared.events.Event.{Event}
use Rattle.object_store.specs.Machine.{version_at}
use Rattle.store_api.specs.declared.machines.Refusal.{Refusal}
use Rattle.store_api.specs.declared.machines.Refusal.TheVariants as R
use Rattle.store_api.specs.Program.{Prog, Done, Ask as Ask_next, is_branch}
use Rattle.store_api.specs.Running.{Program, on_answer, ◌>>=◌}
use Rattle.store_api.specs.Plays.{Play, call}
use Rattle.store_api.specs.Telling.{IsGet}
use Rattle.repo_read.specs.declared.answers.Resolved.{Resolved}
use Rattle.repo_read.specs.Answers.{ref_told}
use Rattle.repo_read.specs.Programs.{resolve_program}
use Rattle.array_region.specs.Reading.{region_program}
use Rattle.array_region.specs.Writing.{region_set_program}
use Rattle.session.specs.declared.chunks.Value.{Value}
use Rattle.session.specs.Sessions.{SessionState, base_nodes, branch_of, version_of, writes}
use Rattle.session.specs.Opening.{open_program}
use Rattle.session.specs.Chunks.{after_draw, set_program, get_program}
use Rattle.commit_path.specs.declared.commit.Tried.{Tried}
use Rattle.commit_path.specs.Committing.{Written, is_long, snap_for, log_for, put_log, after_log, put_snapshot, after_snapshot, put_branch, after_branch, after_arrays, arrays_program, unwritten, commit_program}
use Rattle.commit_path.proofs.Gets.{Gets}
use Rattle.commit_path.proofs.Opened.{open-gets}
use Rattle.rebase.specs.declared.machine.Rebased.{Rebased}
use Rattle.rebase.specs.declared.machine.Rebased.TheVariants.{OnHead, UpToDate}
use Rattle.rebase.specs.Rebasing.{after_ref, rebase_program}
use Rattle.settle.specs.declared.settle.Doubt.{Doubt}
use Rattle.settle.specs.declared.settle.Settled.{Settled}
use Rattle.settle.specs.Settling.{settle_program}
use Rattle.script_calls.specs.declared.calls.Access.{Access}
use Rattle.script_calls.specs.declared.calls.Head.{Head}
use Rattle.script_calls.specs.declared.calls.Head.TheVariants.{Session, Refs, Collect, Expire, Check}
use Rattle.play_script.specs.declared.scripts.Line.{Line}
use Rattle.play_script.specs.declared.scripts.Task.{Task}
use Rattle.leases.specs.declared.lease.Leased.{Leased}
use Rattle.leases.specs.declared.witness.Witness.{Witness}
use Rattle.leases.specs.Plays.{lease_play, release_play}
use Rattle.leases.specs.Starting.{lease_of}
use Rattle.play_outcome.specs.declared.outcome.Shown.{Shown}
use Rattle.play_outcome.specs.declared.outcome.Shown.TheVariants.{Lease}
use Rattle.play_outcome.specs.declared.outcome.End.{End}
use Rattle.play_tasks.proofs.LeaseWays.{lease-cases, put-cases}
use Rattle.play_tasks.proofs.Releases.{each-release, release-cases}
use Rattle.play_outcome.specs.declared.outcome.Outcome.{Outcome}
use Rattle.play_outcome.specs.Playing.{refused}
use Rattle.play_expire.specs.Playing.{terms_of}
use Rattle.play_tasks.specs.Lines.{LineDeed, Goes, Sets, Reads, Puts, Gathers, Leases, Commits, deed, silent}
use Rattle.play_tasks.specs.Playing.{after_settling, doubt_of, doubt_play, after_commit, after_rebase, commit_play, tries_of, policy_of, after_line, shown_by, play_deed, play_lines, asked_by, after_open, session_play, headed_play, task_play, after_confirm, after_lease, lease_by, placed_shown, left_by, release_from, release_all}
use Rattle.play_tasks.specs.Bases.{GetsWalked, IsLeaseOf}
use Rattle.play_tasks.specs.Played.{PlaysTo, CommitsOnce, is_moved}
use Rattle.play_tasks.proofs.Doubting.{which, no-doubt, settle-within, walked-get}
use Rattle.play_tasks.proofs.Elsewhere.{refs-once, collect-once, expire-once}
use Rattle.play_tasks.proofs.Checking.{check-once}
use Rattle.play_tasks.proofs.Singly.{OnlyGets, Once, NoCommit, get-none, gets-once, once-path, weaker-within, call-gets, call-once, bind-once, ask-once, either-once, NoCommits, followed-gets, followed-once, nothing-once}
use Rattle.play_tasks.proofs.Boxing.{AnyNumbers, gather-within, put-box-within}
use Rattle.play_tasks.proofs.Within.{Within, Climbs, IsOnHead, IsSame, set-within, get-within, arrays-within, ref-within}

-- ---- no operation but the put over of a branch is a commit
none-gets : (key : Key) → is_branch key ≡ false → NoCommit (Get key)
none-gets key e = refl

none-puts : (key : Key) (bytes : List ℕ) (why : Why) → ((base : Id12) → IsLeaseOf base key bytes) → NoCommit (PutNew key bytes why)
none-puts key bytes why leases = refl

-- ---- an opening
opens-none : {A : Type 0} (p : Prog A) → Gets p → Within NoCommit (λ a. Unit {0}) p
unfolding Gets Within
opens-none (Done a) g = tt
opens-none (Ask_next op k) g = (get-none op g.0, λ reply. opens-none (k reply) (g.1 reply))

-- ---- a rebase
climb-none : (op : Op) → Climbs op → NoCommit op
climb-none op c = get-none op (walked-get op c.0)

ref-none : (policy : Policy) (s : SessionState) (r : Result Resolved Refusal) → Within NoCommit (λ (a : Result Rebased Refusal). Unit {0}) (on_answer (after_ref policy s) r)
unfolding Within
ref-none policy s (Ok named) = weaker-within Climbs NoCommit climb-none (λ (a : Result Rebased Refusal). IfOk a (IsOnHead s named)) (λ (a : Result Rebased Refusal). Unit {0}) (λ a q. tt) (after_ref policy s named) (ref-within policy s named)
ref-none policy s (Err why) = tt

read-none : (policy : Policy) (s : SessionState) → Within NoCommit (λ (a : Result Rebased Refusal). Unit {0}) (resolve_program (branch_of s) >>= after_ref policy s)
unfolding Within
read-none policy s = (refl, λ reply. ref-none policy s (ref_told (branch_of s) reply))

by_writing : (policy : Policy) (s : SessionState) (b : Bool) → Within NoCommit (λ (a : Result Rebased Refusal). Unit {0}) (cond b (resolve_program (branch_of s) >>= after_ref policy s) (Done (Err R.ReadOnly)))
unfolding Within
by_writing policy s true = read-none policy s
by_writing policy s false = tt

rebase-none : (policy : Policy) (s : SessionState) → Within NoCommit (λ (a : Result Rebased Refusal). Unit {0}) (rebase_program policy s)
unfolding rebase_program
rebase-none policy s = by_writing policy s (writes s)

-- ---- a doubt is settled by gets alone
settle-gets : (branch : List ℕ) (d : Doubt) → Within IsGet (λ (r : Result Settled Refusal). Unit {0}) (settle_program branch d)
settle-gets branch d = weaker-within GetsWalked IsGet walked-get (λ (r : Result Settled Refusal). IfOk r (λ (x : Settled). Unit {0})) (λ (r : Result Settled Refusal). Unit {0}) (λ r q. tt) (settle_program branch d) (settle-within branch d)

told-gets : (shown : List Shown) (id : Id12) (r : Result Settled Refusal) → OnlyGets (after_settling shown id r)
unfolding OnlyGets
told-gets shown id r = tt

doubt-gets : (shown : List Shown) (s : SessionState) (id : Id12) → OnlyGets (doubt_play shown s id)
doubt-gets shown s id = call-gets (λ (r : Result Settled Refusal). Unit {0}) (settle_program (branch_of s) (doubt_of s id)) (after_settling shown id) (settle-gets (branch_of s) (doubt_of s id)) (told-gets shown id)

-- ---- a commit
ends-once : (line : ℕ) (shown : List Shown) (why : Refusal) → Once (refused line shown why)
unfolding Once
ends-once line shown why = tt

module _ (line : ℕ) (shown : List Shown) (s : SessionState) (lost : Version → Option Version → AnyIds → Play Outcome) (l : (old : Version) (found : Option Version) (next : AnyIds) → Once (lost old found next)) where
  abbrev after : Result Tried Refusal → Play Outcome
  after = after_commit line shown (doubt_play shown s) lost

  doubt-once : (id : Id12) → Once (doubt_play shown s id)
  doubt-once id = gets-once (doubt_play shown s id) (doubt-gets shown s id)

  refused-once : (why : Refusal) → Once (refused line shown why)
  refused-once why = ends-once line shown why

  err-once : (why : Refusal) → Once (after (Err why))
  err-once why = elim (which why) [
    | inl d ↦ subst (λ (w : Refusal). Once (after (Err w))) (sym d.1) (doubt-once d.0)
    | inr never ↦ subst (λ (p : Play Outcome). Once p) (sym (no-doubt line shown (doubt_play shown s) lost why never)) (refused-once why)
  ]

  -- behind the put over of the branch
  branch-gets : (id : Id12) (next : AnyIds) (reply : Reply) → is_moved reply ≡ false → OnlyGets (call (after_branch s id next reply) after)
  unfolding OnlyGets
  branch-gets id next (Is_over (Over_done version now)) m = tt
  branch-gets id next (Is_over (Over_moved found now)) m = absurd (cc)
  branch-gets id next (Is_got x) m = tt
  branch-gets id next (Is_new x) m = tt
  branch-gets id next (Is_gone x) m = tt
  branch-gets id next (Is_gone_at x) m = tt
  branch-gets id next (Is_listed x) m = tt
  branch-gets id next (Failed done) m = doubt-gets shown s id

  branch-once : (id : Id12) (next : AnyIds) (reply : Reply) → Once (call (after_branch s id next reply) after)
  unfolding Once
  branch-once id next (Is_over (Over_done version now)) = tt
  branch-once id next (Is_over (Over_moved found now)) = l (version_at (version_of s)) found next
  branch-once id next (Is_got x) = tt
  branch-once id next (Is_new x) = tt
  branch-once id next (Is_gone x) = tt
  branch-once id next (Is_gone_at x) = tt
  branch-once id next (Is_listed x) = tt
  branch-once id next (Failed done) = doubt-once id

  put-once : (id : Id12) (next : AnyIds) → Once (call (put_branch s id next) after)
  unfolding Once
  put-once id next = (λ c reply m. branch-gets id next reply m, tt, λ reply. branch-once id next reply)

  -- before it
  snapshot-once : (id : Id12) (next : AnyIds) (reply : Reply) → Once (call (after_snapshot s id next reply) after)
  unfolding Once
  snapshot-once id next (Is_new (New_done version now)) = put-once id next
  snapshot-once id next (Is_new (Present version now)) = tt
  snapshot-once id next (Is_got x) = tt
  snapshot-once id next (Is_over x) = tt
  snapshot-once id next (Is_gone x) = tt
  snapshot-once id next (Is_gone_at x) = tt
  snapshot-once id next (Is_listed x) = tt
  snapshot-once id next (Failed done) = tt

  put_snapshot-once : (id : Id12) (next : AnyIds) (file : List ℕ) → Once (call (put_snapshot s id next file) after)
  put_snapshot-once id next file =
      let put : Program Tried = Ask_next (PutNew (Snapshot id) file Set) (after_snapshot s id next) in
      either-once (is_long file) (Done (Err (R.TooLarge kinds.Snapshot))) put after (refused-once (R.TooLarge kinds.Snapshot)) (ask-once (PutNew (Snapshot id) file Set) (after_snapshot s id next) after refl (snapshot-once id next) (refused-once R.NoMemory))

  log-once : (message : List ℕ) (news : List NewList) (id : Id12) (next : AnyIds) (reply : Reply) → Once (call (after_log s message news id next reply) after)
  unfolding Once
  log-once message news id next (Is_new (New_done version now)) = put_snapshot-once id next (snapshot_bytes (snap_for s message news id now))
  log-once message news id next (Is_new (Present version now)) = tt
  log-once message news id next (Is_got x) = tt
  log-once message news id next (Is_over x) = tt
  log-once message news id next (Is_gone x) = tt
  log-once message news id next (Is_gone_at x) = tt
  log-once message news id next (Is_listed x) = tt
  log-once message news id next (Failed done) = tt

  put_log-once : (message : List ℕ) (news : List NewList) (o : Option Id12) (next : AnyIds) → Once (call (put_log s message news o next) after)
  put_log-once message news None next = refused-once R.IdsSpent
  put_log-once message news (Some id) next =
      let file = log_file (log_for s id) in
      let put : Program Tried = Ask_next (PutNew (Txn id) file Set) (after_log s message news id next) in
      either-once (is_long file) (Done (Err (R.TooLarge kinds.Log))) put after (refused-once (R.TooLarge kinds.Log)) (ask-once (PutNew (Txn id) file Set) (after_log s message news id next) after refl (log-once message news id next) (refused-once R.NoMemory))

  arrays-once : (message : List ℕ) (r : Result Written Refusal) → Once (call (on_answer (after_arrays s message) r) after)
  arrays-once message (Ok w) = put_log-once message w.news (drawn12 w.ids) (after12 w.ids)
  arrays-once message (Err why) = err-once why

  commit-once : (message : List ℕ) → Once (call (commit_program s message) after)
  unfolding commit_program
  commit-once message =
      let arrays : Program Written = arrays_program s.rows s.held.chunks (changed_arrays s.held (base_nodes s)) (unwritten s) in
      let within = arrays-within NoCommit none-gets none-puts s.rows s.held.chunks (changed_arrays s.held (base_nodes s)) (unwritten s) in
      let untouched = is_untouched (touched s.held (base_nodes s)) in
      let none : Program Tried = Done (Err R.NothingToCommit) in
      let some : Program Tried = arrays >>= after_arrays s message in
      either-once (writes s) (cond untouched none some) (Done (Err R.ReadOnly)) after
      (either-once untouched none some after (refused-once R.NothingToCommit)
      (bind-once (λ (r : Result Written Refusal). IfOk r (λ (w : Written). Unit {0})) arrays (on_answer (after_arrays s message)) after within (λ r q. arrays-once message r) (refused-once R.NoMemory)))
      (refused-once R.ReadOnly)

-- ---- commits of a task
module _ (line : ℕ) (shown : List Shown) where
  rebased-once : (again : SessionState → Play Outcome) → ((u : SessionState) → Once (again u)) → (r : Result Rebased Refusal) → Once (after_rebase line shown again r)
  unfolding Once
  rebased-once again g (Ok (OnHead u n)) = (g u, tt)
  rebased-once again g (Ok (UpToDate u)) = (g u, tt)
  rebased-once again g (Err why) = tt

  lost-once : (policy : Policy) (again : SessionState → Play Outcome) → ((u : SessionState) → Once (again u)) → (t : SessionState) → Once (call (rebase_program policy t) (after_rebase line shown again))
  lost-once policy again g t = call-once (λ (r : Result Rebased Refusal). Unit {0}) (rebase_program policy t) (after_rebase line shown again) (rebase-none policy t) (λ r q. rebased-once again g r) (ends-once line shown R.NoMemory)

  tries-once : (tries : ℕ) (policy : Policy) (message : List ℕ) (s : SessionState) → Once (commit_play tries policy line shown message s)
  unfolding commit_play
  tries-once zero policy message s = commit-once line shown s (λ old found next. refused line shown (R.LostRace old found)) (λ old found next. ends-once line shown (R.LostRace old found)) message
  tries-once (suc tries) policy message s =
      commit-once line shown s (λ old found next. call (rebase_program policy (record s { ids = next })) (after_rebase line shown (commit_play tries policy line shown message)))
      (λ old found next. lost-once policy (commit_play tries policy line shown message) (λ u. tries-once tries policy message u) (record s { ids = next })) message

-- ---- leases
-- a lease commits nothing
lease-quiet : (id base : Id12) (w : Witness) → NoCommits (lease_play id base w)
unfolding NoCommits
lease-quiet id base w = (refl, tt, λ reply. put-cases NoCommits id w (refl, tt, λ r. tt) tt tt reply)

-- releases are releases alone
release-gets : (done left : List Shown) (end : End) → OnlyGets (release_from done left end)
unfolding OnlyGets
release-gets done left end =
    each-release end (λ d l p. OnlyGets p) (λ d. tt)
    (λ d line id before more rest. followed-gets (λ result. release_from (d ++ Lease line id (left_by result) ∷ []) more end) rest (release_play id) (inr (id, refl), tt, λ reply. release-cases OnlyGets tt tt reply))
    (λ d s more none rest. rest) done left

-- ---- lines
-- whatever follows a line
abbrev GoesOn : (SessionState → List Shown → Play Outcome) → Type 0
GoesOn rest = (t : SessionState) (more : List Shown) → Once (rest t more)

module _ (line : ℕ) (shown : List Shown) (rest : SessionState → List Shown → Play Outcome) (g : GoesOn rest) where
  set-once : (r : Result SessionState Refusal) → Once (after_line line shown (silent r) rest)
  set-once (Ok t) = g t (shown ++ [])
  set-once (Err why) = ends-once line shown why

  get-once : {A : Type 0} (s : SessionState) (show : A → Shown) (r : Result A Refusal) → Once (after_line line shown (shown_by s show r) rest)
  get-once s show (Ok value) = g s (shown ++ show value ∷ [])
  get-once s show (Err why) = ends-once line shown why

  -- a lease, and what follows it
  leased-once : (t : SessionState) (show : Id12 → Shown) (l : Leased) → Once (after_lease show line shown t rest l)
  leased-once t show l = by_result l.result
    where
      by_result : (r : Result (Unit {0}) Refusal) → Once (after_confirm line (shown ++ placed_shown show l.placed) t rest r)
      by_result (Ok done) = g t (shown ++ placed_shown show l.placed)
      by_result (Err why) = ends-once line (shown ++ placed_shown show l.placed) why

  lease-once : (s : SessionState) (show : Id12 → Shown) → Once (lease_by show line shown s rest (lease_of s))
  lease-once s show =
      lease-cases (λ (r : Result (Play Leased) Refusal). Once (lease_by show line shown s rest r)) s
      (λ id w d e. nothing-once (after_lease show line shown (after_draw s) rest) (leased-once (after_draw s) show) (lease_play id s.base w) (lease-quiet id s.base w)) (λ why e. ends-once line shown why)

  deed-once : (access : Access) (s : SessionState) (d : LineDeed) → Once (play_deed access line shown s d rest)
  deed-once access s (Goes (Ok went)) = g went.1 (shown ++ went.0)
  deed-once access s (Goes (Err why)) = ends-once line shown why
  deed-once access s (Sets path index bytes) =
      call-once (λ (r : Result SessionState Refusal). IfOk r (IsSame s)) (set_program s path index bytes) (λ answer. after_line line shown (silent answer) rest) (set-within NoCommit none-gets none-puts s path index bytes) (λ r q. set-once r) (ends-once line shown R.NoMemory)
  deed-once access s (Reads path index show) =
      call-once (λ (r : Result Value Refusal). IfOk r (λ (v : Value). Unit {0})) (get_program s path index) (λ answer. after_line line shown (shown_by s show answer) rest) (get-within NoCommit none-gets none-puts s path index) (λ r q. get-once s show r) (ends-once line shown R.NoMemory)
  deed-once access s (Puts path from to numbers) =
      call-once (λ (r : Result SessionState Refusal). IfOk r (IsSame s)) (region_set_program s path from to numbers) (λ answer. after_line line shown (silent answer) rest) (put-box-within NoCommit none-gets none-puts s path from to numbers) (λ r q. set-once r)
      (ends-once line shown R.NoMemory)
  deed-once access s (Gathers path from to show) =
      call-once (λ (r : Result (List ℤ) Refusal). IfOk r AnyNumbers) (region_program s path from to) (λ answer. after_line line shown (shown_by s show answer) rest) (gather-within NoCommit none-gets none-puts s path from to) (λ r q. get-once s show r) (ends-once line shown R.NoMemory)
  deed-once access s (Leases show) = lease-once s show
  deed-once access s (Commits message) = tries-once line shown (tries_of access) (policy_of access) message s

lines-once : (access : Access) (ls : List Line) (s : SessionState) (shown : List Shown) → Once (play_lines access ls s shown)
unfolding play_lines Once
lines-once access [] s shown = tt
lines-once access (l ∷ ls) s shown = (deed-once l.number shown (play_lines access ls) (λ t more. lines-once access ls t more) access s (deed l.number l.call s), tt)

opened-once : (access : Access) (line : ℕ) (body : List Line) (r : Result SessionState Refusal) → Once (after_open access line body r)
opened-once access line body (Ok s) = lines-once access body s []
opened-once access line body (Err why) = ends-once line [] why

session-once : (ids : AnyIds) (access : Access) (line : ℕ) (body : List Line) → Once (session_play ids access line body)
session-once ids access line body =
    let p = open_program (asked_by access ids) in
    call-once (λ (r : Result SessionState Refusal). Unit {0}) p (after_open access line body) (opens-none p (open-gets (asked_by access ids))) (λ r q. opened-once access line body r) (ends-once line [] R.NoMemory)

-- ---- tasks
by_head : (ids : AnyIds) (task : Task) (head : Head) → Once (headed_play head ids task)
by_head ids task (Session access) = followed-once release_all (λ o. release-gets [] o.shown o.end) (session_play ids access task.line task.body) (session-once ids access task.line task.body)
by_head ids task Refs = refs-once task.body []
by_head ids task (Collect cutoff) = collect-once task.line cutoff
by_head ids task (Expire cutoff drop_branches drop_tags) = expire-once task.line (terms_of cutoff drop_branches drop_tags)
by_head ids task Check = check-once task.line

-- Of the operations on a path of a task's play, one at most is a commit that was done, or may have been; behind it there are gets and releases of leases alone.
pub task-once : (ids : AnyIds) (task : Task) (events : List Event) (outcome : Outcome) → PlaysTo (task_play ids task) events outcome → CommitsOnce events
task-once ids task events outcome plays = once-path (task_play ids task) events outcome (by_head ids task task.head) plays
