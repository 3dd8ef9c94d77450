-- The play of a task: it opens a session, plays the body's lines on it, and commits, or it calls
-- on refs, or collects, or expires. Where memory is wanting, it ends there, and still shows what
-- its lines showed before. (Own.)
use Rattle.std.specs.Prelude.{ℕ, zero, suc, List, [], ◌∷◌, ◌++◌, true, false}
use Rattle.std.specs.Prelude.{Option, Some, None, Result, Ok, Err}
use Rattle.ice_ids.specs.declared.Id12.{Id12}
use Rattle.ice_ids.specs.declared.drawing.AnyIds.{AnyIds}
use Rattle.store_api.specs.declared.machines.Refusal.{Refusal}
use Rattle.store_api.specs.declared.machines.Refusal.TheVariants.{NoRef, NoMemory, LostRace}
use Rattle.store_api.specs.declared.machines.Refusal.TheVariants as R
use Rattle.store_api.specs.Plays.{Play, Or, call}
use Rattle.session.specs.Sessions.{SessionState, branch_of}
use Rattle.session.specs.Opening.{Asked, open_program}
use Rattle.session.specs.Chunks.{after_draw, set_program, get_program}
use Rattle.leases.specs.declared.lease.Leased.{Leased}
use Rattle.leases.specs.Plays.{release_play}
use Rattle.leases.specs.Starting.{lease_of}
use Rattle.leases.specs.Following.{followed}
use Rattle.array_region.specs.Reading.{region_program}
use Rattle.array_region.specs.Writing.{region_set_program}
use Rattle.conflicts.specs.declared.solving.Policy.{Policy}
use Rattle.conflicts.specs.declared.solving.Pick.TheVariants.{Fail}
use Rattle.object_store.specs.declared.events.Version.{Version}
use Rattle.commit_path.specs.declared.commit.Tried.{Tried}
use Rattle.commit_path.specs.declared.commit.Tried.TheVariants.{Done as Was_done, Lost}
use Rattle.commit_path.specs.Committing.{commit_program}
use Rattle.settle.specs.declared.settle.Settled.{Settled}
use Rattle.settle.specs.declared.settle.Settled.TheVariants as settled
use Rattle.settle.specs.declared.settle.Doubt.{Doubt}
use Rattle.settle.specs.Settling.{settle_program}
use Rattle.rebase.specs.declared.machine.Rebased.{Rebased}
use Rattle.rebase.specs.declared.machine.Rebased.TheVariants.{OnHead, UpToDate}
use Rattle.rebase.specs.Rebasing.{rebase_program}
use Rattle.repo_read.specs.declared.resolving.At.{At}
use Rattle.script_calls.specs.declared.calls.Access.{Access}
use Rattle.script_calls.specs.declared.calls.Access.TheVariants.{Write, Read}
use Rattle.script_calls.specs.declared.calls.Head.{Head}
use Rattle.script_calls.specs.declared.calls.Head.TheVariants.{Session, Refs}
use Rattle.script_calls.specs.declared.calls.Head.TheVariants.{Collect, Expire, Check}
use Rattle.play_script.specs.declared.scripts.Line.{Line}
use Rattle.play_script.specs.declared.scripts.Task.{Task}
use Rattle.play_refs.specs.Playing.{refs_play}
use Rattle.play_collect.specs.Playing.{collect_task}
use Rattle.play_expire.specs.Playing.{terms_of, expire_task}
use Rattle.play_check.specs.Playing.{check_task}
use Rattle.play_outcome.specs.declared.outcome.Shown.{Shown}
use Rattle.play_outcome.specs.declared.outcome.Shown.TheVariants.{Lease}
use Rattle.play_outcome.specs.declared.outcome.End.{End}
use Rattle.play_outcome.specs.declared.outcome.How.{How}
use Rattle.play_outcome.specs.declared.outcome.How.TheVariants as how
use Rattle.play_outcome.specs.declared.outcome.End.TheVariants.{Committed, Done, InDoubt}
use Rattle.play_outcome.specs.declared.outcome.Outcome.{Outcome}
use Rattle.play_outcome.specs.Playing.{ended, refused}
use Rattle.play_tasks.specs.Lines.{LineDeed, Goes, Sets, Reads, Puts}
use Rattle.play_tasks.specs.Lines.{Gathers, Leases, Commits, silent, deed}

-- what is played on a session once these lines were shown
abbrev pub Rest : Type 0
Rest = SessionState → List Shown → Play Outcome

-- an edit or a read, and what is played behind it
abbrev pub after_line : ℕ → List Shown → Result (List Shown × SessionState) Refusal → Rest
    → Play Outcome
after_line line shown (Ok went) rest = rest went.1 (shown ++ went.0)
after_line line shown (Err why) rest = refused line shown why

-- ---- doubt
-- what the branch told of a commit in doubt, or why it couldn't be read
abbrev pub how_of : Result Settled Refusal → How
how_of (Ok settled.Committed) = how.Committed
how_of (Ok settled.NotCommitted) = how.NotCommitted
how_of (Ok (settled.NotAncestor head)) = how.NotAncestor
how_of (Err NoRef) = how.NoRef
how_of (Err why) = how.Unsettled why

abbrev pub after_settling : List Shown → Id12 → Result Settled Refusal → Play Outcome
after_settling shown id answer = ended shown (InDoubt id (how_of answer))

-- the commit of a session that put this snapshot is in doubt
abbrev pub doubt_of : SessionState → Id12 → Doubt
doubt_of s id = record { snapshot = id; base = s.base }

-- it is settled once, by reading the session's branch, and that ends the task
abbrev pub doubt_play : List Shown → SessionState → Id12 → Play Outcome
doubt_play shown s id =
    call (settle_program (branch_of s) (doubt_of s id)) (after_settling shown id)

-- ---- commits
-- a commit ends the task, unless it is in doubt, or was lost
abbrev pub after_commit : ℕ → List Shown → (doubted : Id12 → Play Outcome)
    → (lost : Version → Option Version → AnyIds → Play Outcome)
    → Result Tried Refusal → Play Outcome
after_commit line shown doubted lost (Ok (Was_done made)) = ended shown (Committed made.id)
after_commit line shown doubted lost (Ok (Lost old found next)) = lost old found next
after_commit line shown doubted lost (Err (R.InDoubt id)) = doubted id
after_commit line shown doubted lost (Err why) = refused line shown why

-- the session that was rebased commits again; where there is no memory to
-- begin that, the task ends here
abbrev pub after_rebase : ℕ → List Shown → (again : SessionState → Play Outcome)
    → Result Rebased Refusal → Play Outcome
after_rebase line shown again (Ok (OnHead s count)) = Or (again s) (refused line shown NoMemory)
after_rebase line shown again (Ok (UpToDate s)) = Or (again s) (refused line shown NoMemory)
after_rebase line shown again (Err why) = refused line shown why

-- A commit in this line. Where it is in doubt, that is settled; where it was lost, the session is
-- rebased and commits again, as often as it may.
unfoldable pub commit_play : (tries : ℕ) → Policy → (line : ℕ) → List Shown → (message : List ℕ)
    → SessionState → Play Outcome
commit_play zero policy line shown message s =
    call (commit_program s message)
    (after_commit line shown (doubt_play shown s)
    (λ old found next. refused line shown (LostRace old found)))
commit_play (suc tries) policy line shown message s =
    call (commit_program s message)
    (after_commit line shown (doubt_play shown s)
    (λ old found next. call (rebase_program policy (record s { ids = next }))
    (after_rebase line shown (commit_play tries policy line shown message))))

-- how often the commit of a session that was opened so is tried again,
-- and how conflicts are solved then
abbrev pub tries_of : Access → ℕ
tries_of (Write branch tries policy) = tries
tries_of (Read at) = 0

abbrev pub policy_of : Access → Policy
policy_of (Write branch tries policy) = policy
policy_of (Read at) = record { chunks = Fail; drop_arrays = false; drop_groups = false }

-- ---- leases
-- a lease that may stand is shown
abbrev pub placed_shown : (Id12 → Shown) → Option Id12 → List Shown
placed_shown show None = []
placed_shown show (Some id) = show id ∷ []

-- a lease that was confirmed lets the lines go on, and another one ends the task
abbrev pub after_confirm : ℕ → List Shown → SessionState → Rest
    → Result (Unit {0}) Refusal → Play Outcome
after_confirm line shown s rest (Ok done) = rest s shown
after_confirm line shown s rest (Err why) = refused line shown why

abbrev pub after_lease : (Id12 → Shown) → ℕ → List Shown → SessionState
    → Rest → Leased → Play Outcome
after_lease show line shown s rest l =
    after_confirm line (shown ++ placed_shown show l.placed) s rest l.result

-- it begins, on the session that has drawn its id, or is refused
abbrev pub lease_by : (Id12 → Shown) → ℕ → List Shown → SessionState → Rest
    → Result (Play Leased) Refusal → Play Outcome
lease_by show line shown s rest (Ok p) =
    followed p (after_lease show line shown (after_draw s) rest)
lease_by show line shown s rest (Err why) = refused line shown why

-- ---- lines

-- what was read, a chunk or a box, is shown, and the session stays
abbrev pub shown_by : {A : Type 0} → SessionState → (A → Shown) → Result A Refusal
    → Result (List Shown × SessionState) Refusal
shown_by s show (Ok value) = Ok (show value ∷ [], s)
shown_by s show (Err why) = Err why

-- what a line comes to that does this, and what is played behind it
abbrev pub play_deed : Access → ℕ → List Shown → SessionState → LineDeed → Rest → Play Outcome
play_deed access line shown s (Goes went) rest = after_line line shown went rest
play_deed access line shown s (Sets path index bytes) rest =
    call (set_program s path index bytes) (λ answer. after_line line shown (silent answer) rest)
play_deed access line shown s (Reads path index show) rest =
    call (get_program s path index) (λ answer. after_line line shown (shown_by s show answer) rest)
play_deed access line shown s (Puts path from to numbers) rest =
    call (region_set_program s path from to numbers)
    (λ answer. after_line line shown (silent answer) rest)
play_deed access line shown s (Gathers path from to show) rest =
    call (region_program s path from to)
    (λ answer. after_line line shown (shown_by s show answer) rest)
play_deed access line shown s (Leases show) rest = lease_by show line shown s rest (lease_of s)
play_deed access line shown s (Commits message) rest =
    commit_play (tries_of access) (policy_of access) line shown message s

-- the lines in their order, the first that is refused being the last; where memory is
-- wanting, the task ends in this line
unfoldable pub play_lines : Access → List Line → SessionState → List Shown → Play Outcome
play_lines access [] s shown = ended shown Done
play_lines access (l ∷ ls) s shown =
    Or (play_deed access l.number shown s (deed l.number l.call s) (play_lines access ls))
    (refused l.number shown NoMemory)

-- the session of the task on this line, with this body, was opened, or not
abbrev pub after_open : Access → (line : ℕ) → (body : List Line)
    → Result SessionState Refusal → Play Outcome
after_open access line body (Ok s) = play_lines access body s []
after_open access line body (Err why) = refused line [] why

-- what is asked for: a session to write on a branch, or one to read what names a snapshot
abbrev pub asked_by : Access → AnyIds → Asked
asked_by (Write branch tries policy) ids = record {
  at = At.Branch branch;
  writes = true;
  ids = ids;
}
asked_by (Read at) ids = record { at = at; writes = false; ids = ids }

abbrev pub session_play : AnyIds → Access → (line : ℕ) → (body : List Line) → Play Outcome
session_play ids access line body =
    call (open_program (asked_by access ids)) (after_open access line body)

-- ---- releases
-- what the release of a lease was answered, where the lease is shown
abbrev pub left_by : Result (Unit {0}) Refusal → Option Refusal
left_by (Ok done) = None
left_by (Err why) = Some why

-- The leases that are shown are released, one after another, whatever comes of each: behind `done`,
-- where that was so, those of `left`.
abbrev pub release_from : (done left : List Shown) → End → Play Outcome
release_from done [] end = ended done end
release_from done (Lease line id left ∷ more) end =
    followed (release_play id)
    (λ result. release_from (done ++ Lease line id (left_by result) ∷ []) more end)
release_from done (shown ∷ more) end = release_from (done ++ shown ∷ []) more end

abbrev pub release_all : Outcome → Play Outcome
release_all outcome = release_from [] outcome.shown outcome.end

-- a session, and then the releases of its leases, however it ended
abbrev pub released_play : AnyIds → Access → (line : ℕ) → (body : List Line) → Play Outcome
released_play ids access line body = followed (session_play ids access line body) release_all

-- ---- tasks
abbrev pub headed_play : Head → AnyIds → Task → Play Outcome
headed_play (Session access) ids t = released_play ids access t.line t.body
headed_play Refs ids t = refs_play t.body []
headed_play (Collect cutoff) ids t = collect_task t.line cutoff
headed_play (Expire cutoff drop_branches drop_tags) ids t =
    expire_task t.line (terms_of cutoff drop_branches drop_tags)
headed_play Check ids t = check_task t.line

-- the play of a task; if it opens a session, that draws these ids
abbrev pub task_play : AnyIds → Task → Play Outcome
task_play ids t = headed_play t.head ids t
