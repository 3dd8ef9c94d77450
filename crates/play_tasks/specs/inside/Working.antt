-- What a worker has still to do.
use Rattle.std.specs.Prelude.{◌≡◌, ◌&&◌, nat_lt, vec_len, vec_capacity, ℕ, zero, suc}
use Rattle.std.specs.Prelude.{◌+◌, ◌-◌, ◌*◌, ◌^◌, ◌≤◌, ◌++◌, List, drop}
use Rattle.std.specs.Prelude.{Bool, true, false, not, Option, Result, Ok, Err}
use Rattle.ice_ids.specs.declared.Id8.{Id8}
use Rattle.ice_ids.specs.declared.drawing.AnyIds.{AnyIds}
use Rattle.conflicts.specs.declared.solving.Policy.{Policy}
use Rattle.object_store.specs.declared.events.Version.{Version}
use Rattle.store_api.specs.declared.machines.Refusal.{Refusal}
use Rattle.store_api.specs.declared.machines.Refusal.TheVariants.{NoMemory, LostRace}
use Rattle.store_api.specs.Program.{Done, is_ask, is_fault}
use Rattle.store_api.specs.Running.{Program}
use Rattle.store_api.specs.Plays.{Play, Ended, Ask, Or, call, Comes}
use Rattle.array_region.specs.declared.plans.Region.{Region}
use Rattle.array_region.specs.Getting.{region_rest, region_left, region_session}
use Rattle.array_region.specs.Filling.{region_set_rest, region_set_left}
use Rattle.session.specs.declared.chunks.Value.{Value}
use Rattle.session.specs.Sessions.{SessionState}
use Rattle.session.specs.Opening.{open_rest, open_left}
use Rattle.session.specs.Setting.{set_rest, set_left}
use Rattle.session.specs.Getting.{get_rest, get_left, get_session}
use Rattle.commit_path.specs.Committing.{session_in, message_in, commit_rest, commit_left}
use Rattle.settle.specs.inside.Working.{settle_rest, settle_left}
use Rattle.leases.specs.Resting.{lease_rest, lease_left}
use Rattle.leases.specs.Following.{followed}
use Rattle.rebase.specs.declared.machine.Rebased.{Rebased}
use Rattle.rebase.specs.declared.machine.Rebased.TheVariants.{OnHead, UpToDate}
use Rattle.rebase.specs.Rebasing.{rebase_program, rebase_rest, rebase_left}
use Rattle.script_calls.specs.declared.calls.Access.{Access}
use Rattle.script_calls.specs.declared.calls.CellBox.{CellBox}
use Rattle.play_outcome.specs.declared.outcome.Shown.{Shown}
use Rattle.play_outcome.specs.declared.outcome.Outcome.{Outcome}
use Rattle.play_outcome.specs.Ending.{ends_failed}
use Rattle.play_outcome.specs.Playing.{refused}
use Rattle.play_tasks.specs.declared.working.SessionTask.{SessionTask}
use Rattle.play_tasks.specs.declared.working.Working.{Working}
use Rattle.play_tasks.specs.declared.working.Working.TheVariants as w
use Rattle.play_tasks.specs.declared.working.AskedFor.{AskedFor}
use Rattle.play_tasks.specs.declared.working.AskedFor.TheVariants as asked
use Rattle.play_tasks.specs.declared.working.Step.{Step}
use Rattle.play_tasks.specs.declared.working.Step.TheVariants as step
use Rattle.play_tasks.specs.Lines.{LineDeed, silent, value_shown}
use Rattle.play_tasks.specs.Lines.{chunk_key_shown, cells_shown, lease_shown}
use Rattle.play_tasks.specs.Playing.{Rest, after_line, shown_by, after_open}
use Rattle.play_tasks.specs.Playing.{after_settling, doubt_play, after_commit, after_rebase}
use Rattle.play_tasks.specs.Playing.{after_lease, commit_play, play_deed, play_lines}

-- ---- where a worker stands
-- the lines of a task from a number on, from 0
abbrev pub lines_from : SessionTask → ℕ → Rest
lines_from task at = play_lines task.access.now (drop at task.body.now)

-- what is played behind the setting of a chunk or a box in a line, and behind the reading of one
abbrev pub after_set : ℕ → List Shown → Rest → Result SessionState Refusal → Play Outcome
after_set line shown rest answer = after_line line shown (silent answer) rest

-- a chunk that was read for this is shown so
abbrev pub shown_for : AskedFor → ℕ → Value → Shown
shown_for asked.Chunk line = value_shown line
shown_for asked.Key line = chunk_key_shown line

abbrev pub after_get : {A : Type 0} → (A → Shown) → ℕ → List Shown → SessionState → Rest
    → Result A Refusal → Play Outcome
after_get show line shown s rest answer = after_line line shown (shown_by s show answer) rest

-- A commit of this session was lost, and may be tried again so often: the session is rebased,
-- with the ids that it draws next.
abbrev pub after_lost : (left : ℕ) → Policy → (line : ℕ) → List Shown → (message : List ℕ)
    → SessionState → (old : Version) → (found : Option Version) → (next : AnyIds) → Play Outcome
after_lost zero policy line shown message s old found next = refused line shown (LostRace old found)
after_lost (suc left) policy line shown message s old found next =
    call (rebase_program policy (record s { ids = next }))
    (after_rebase line shown (commit_play left policy line shown message))

-- Where a worker stands whose commit of this session was refused so: at the settling of a doubt, or
-- at the task's end, whatever follows a loss.
abbrev pub RefusedSo : (line : ℕ) → List Shown → SessionState → Refusal → Play Outcome → Type 0
RefusedSo line shown s why p =
    (lost : Version → Option Version → AnyIds → Play Outcome)
    → Comes (after_commit line shown (doubt_play shown s) lost (Err why)) p

-- the session that a rebase answered
abbrev pub rebased_session : Rebased → SessionState
rebased_session (OnHead s count) = s
rebased_session (UpToDate s) = s

-- a player has an operation left
abbrev pub is_live : {A : Type 0} → Play A → Bool
is_live (Ended a) = false
is_live (Ask op starved next) = true
is_live (Or p q) = false

abbrev pub working_rest : SessionTask → Working → Play Outcome
working_rest task (w.Opening opener) =
    call (open_rest opener) (after_open task.access.now task.line task.body.now)
working_rest task (w.Setting line at shown set) =
    call (set_rest set) (after_set line shown.items (lines_from task at))
working_rest task (w.Getting line at for shown get) = call (get_rest get)
    (after_get (shown_for for line) line shown.items (get_session get) (lines_from task at))
working_rest task (w.Putting line at shown set) =
    call (region_set_rest set) (after_set line shown.items (lines_from task at))
working_rest task (w.Gathering line at shown get) =
    call (region_rest get)
    (after_get (cells_shown line) line shown.items (region_session get) (lines_from task at))
working_rest task (w.Leasing line at shown session lease) =
    followed (lease_rest lease)
    (after_lease (lease_shown line) line shown.items session (lines_from task at))
working_rest task (w.Committing line tries shown commit) =
    call (commit_rest commit)
    (after_commit line shown (doubt_play shown (session_in commit))
    (after_lost tries.left tries.policy line shown (message_in commit) (session_in commit)))
working_rest task (w.Settling shown id settle) = call (settle_rest settle) (after_settling shown id)
working_rest task (w.Rebasing line tries shown message rebase) =
    call (rebase_rest rebase)
    (after_rebase line shown (commit_play tries.left tries.policy line shown message))
working_rest task (w.Ended outcome) = Ended outcome

-- the machine in it has something to do; there is room for a lease that is being put
abbrev pub is_working : Working → Bool
is_working (w.Opening opener) = is_ask (open_rest opener)
is_working (w.Setting line at shown set) = is_ask (set_rest set)
is_working (w.Getting line at for shown get) = is_ask (get_rest get)
is_working (w.Putting line at shown set) = is_ask (region_set_rest set)
is_working (w.Gathering line at shown get) = is_ask (region_rest get)
is_working (w.Leasing line at shown session lease) =
    is_live (lease_rest lease) && nat_lt (vec_len shown) (vec_capacity shown)
is_working (w.Committing line tries shown commit) = is_ask (commit_rest commit)
is_working (w.Settling shown id settle) = is_ask (settle_rest settle)
is_working (w.Rebasing line tries shown message rebase) = is_ask (rebase_rest rebase)
is_working (w.Ended outcome) = true

-- the session hasn't ended
abbrev pub is_open : Working → Bool
is_open (w.Opening opener) = true
is_open (w.Setting line at shown set) = true
is_open (w.Getting line at for shown get) = true
is_open (w.Putting line at shown set) = true
is_open (w.Gathering line at shown get) = true
is_open (w.Leasing line at shown session lease) = true
is_open (w.Committing line tries shown commit) = true
is_open (w.Settling shown id settle) = true
is_open (w.Rebasing line tries shown message rebase) = true
is_open (w.Ended outcome) = false

-- ---- how many steps are left
-- no settling takes more steps, no commit with its settling, and no rebase and the commit behind it
abbrev pub settle_steps : ℕ
settle_steps = 2 ^ 17

abbrev pub commit_steps : ℕ
commit_steps = 2 ^ 201

abbrev pub try_steps : ℕ
try_steps = 2 ^ 202

-- nor do the machines of a line
abbrev pub most_steps : ℕ
most_steps = 2 ^ 210

-- the steps of its machine, at most, and of those that may come behind it in its line
abbrev pub machine_left : Working → ℕ
machine_left (w.Opening opener) = open_left opener
machine_left (w.Setting line at shown set) = set_left set
machine_left (w.Getting line at for shown get) = get_left get
machine_left (w.Putting line at shown set) = region_set_left set
machine_left (w.Gathering line at shown get) = region_left get
machine_left (w.Leasing line at shown session lease) = lease_left lease
machine_left (w.Committing line tries shown commit) =
    tries.left * try_steps + commit_left commit + settle_steps
machine_left (w.Settling shown id settle) = settle_left settle
machine_left (w.Rebasing line tries shown message rebase) =
    tries.left * try_steps + commit_steps + rebase_left rebase
machine_left (w.Ended outcome) = 0

-- the lines behind it, of a body of so many
abbrev pub lines_left : ℕ → Working → ℕ
lines_left lines (w.Opening opener) = lines
lines_left lines (w.Setting line at shown set) = lines - at
lines_left lines (w.Getting line at for shown get) = lines - at
lines_left lines (w.Putting line at shown set) = lines - at
lines_left lines (w.Gathering line at shown get) = lines - at
lines_left lines (w.Leasing line at shown session lease) = lines - at
lines_left lines (w.Committing line tries shown commit) = 0
lines_left lines (w.Settling shown id settle) = 0
lines_left lines (w.Rebasing line tries shown message rebase) = 0
lines_left lines (w.Ended outcome) = 0

-- how many steps are left at most, of a body of so many lines
abbrev pub working_left : ℕ → Working → ℕ
working_left lines state = lines_left lines state * most_steps + machine_left state

-- ---- what a call of a session came to
-- what an edit that adds a node came to, without the node's id
abbrev pub without_id : Result Id8 Refusal → Result (Unit {0}) Refusal
without_id (Ok id) = Ok tt
without_id (Err why) = Err why

-- the edit was made, or refused; want of memory may come instead
abbrev pub Edits : (expected : Result SessionState Refusal) → Result (Unit {0}) Refusal
    → SessionState → Type 0
Edits expected (Ok done) new = expected ≡ Ok new
Edits expected (Err NoMemory) new = Unit {0}
Edits expected (Err why) new = expected ≡ Err why

-- what is to be shown was shown behind what had been, or nothing was;
-- want of memory may come instead
abbrev pub Looks : (expected : Result (List Shown) Refusal) → (before : List Shown)
    → Result (Unit {0}) Refusal → (after : List Shown) → Type 0
Looks expected before (Ok done) after =
    (more : List Shown) × (expected ≡ Ok more) × (after ≡ before ++ more)
Looks expected before (Err NoMemory) after = after ≡ before
Looks expected before (Err why) after = (expected ≡ Err why) × (after ≡ before)

-- a refusal of a session tells no fault of the store
abbrev pub is_local : Result (Unit {0}) Refusal → Bool
is_local (Ok done) = true
is_local (Err why) = not (is_fault why)

-- ---- lines
-- What a line came to that is played so, where these lines were shown before it, and `at` is the
-- number of the line behind it: the play has come to what follows on that line, or to where the
-- worker stands, with memory or without.
abbrev pub PlayComes : (line at : ℕ) → List Shown → (Rest → Play Outcome) → Step → Type 0
PlayComes line at shown play (step.On t more) = (rest : Rest) → play rest ≡ rest t more.items
PlayComes line at shown play (step.Stop state) =
    (task : SessionTask)
    → Comes (Or (play (lines_from task at)) (refused line shown NoMemory)) (working_rest task state)

-- one that does this on a session that was opened so
abbrev pub LineComes : Access → (line at : ℕ) → List Shown → SessionState → LineDeed → Step → Type 0
LineComes access line at shown s d =
    PlayComes line at shown (λ rest. play_deed access line shown s d rest)

-- ... or on one however it was opened
abbrev pub CallComes : (line at : ℕ) → List Shown → SessionState → LineDeed → Step → Type 0
CallComes line at shown s d x = (access : Access) → LineComes access line at shown s d x

-- where a program ends at once, it tells no fault of the store
abbrev pub EndsCalmly : {A : Type 0} → Program A → Type 0
EndsCalmly p = (why : Refusal) → p ≡ Done (Err why) → is_fault why ≡ false

-- what lines came to, and what a commit that was lost did: nothing of the store has failed, and a
-- machine that began has something to do
abbrev pub is_well : Working → Bool
is_well (w.Opening opener) = false
is_well (w.Setting line at shown set) = is_ask (set_rest set)
is_well (w.Getting line at for shown get) = is_ask (get_rest get)
is_well (w.Putting line at shown set) = is_ask (region_set_rest set)
is_well (w.Gathering line at shown get) = is_ask (region_rest get)
is_well (w.Leasing line at shown session lease) =
    is_live (lease_rest lease) && nat_lt (vec_len shown) (vec_capacity shown)
is_well (w.Committing line tries shown commit) = is_ask (commit_rest commit)
is_well (w.Settling shown id settle) = false
is_well (w.Rebasing line tries shown message rebase) = is_ask (rebase_rest rebase)
is_well (w.Ended outcome) = not (ends_failed outcome)

abbrev pub is_clean : Step → Bool
is_clean (step.On s shown) = true
is_clean (step.Stop state) = is_well state

-- it takes no more steps than those of a line and of the lines from this number on
abbrev pub IsBounded : (at : ℕ) → Step → Type 0
IsBounded at (step.On s shown) = Unit {0}
IsBounded at (step.Stop state) =
    (lines : ℕ) → working_left lines state ≤ (lines - at) * most_steps + most_steps

-- ---- boxes
-- the box that a line names, as a machine takes it
pub record IsBoxOf (place : CellBox) (region : Region) : Type 0 where
  pub path : region.path ≡ place.path
  pub from : region.from.items ≡ place.from
  pub to : region.to.items ≡ place.to
