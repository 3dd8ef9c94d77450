-- The play of a task that calls on refs: its lines are called one after another, and the first
-- that is refused is the last. Where memory is wanting, it ends there, and still shows what
-- its lines showed before. (Own.)
use Rattle.std.specs.Prelude.{ℕ, List, [], ◌∷◌, ◌++◌, map, Result, Ok, Err}
use Rattle.store_api.specs.declared.machines.Refusal.{Refusal}
use Rattle.store_api.specs.declared.machines.Refusal.TheVariants.{NoMemory}
use Rattle.store_api.specs.Plays.{Play, Or, call}
use Rattle.refs_admin.specs.declared.log.LogLine.{LogLine}
use Rattle.refs_admin.specs.Branches.{branch_new_program, branch_reset_program, branch_drop_program}
use Rattle.refs_admin.specs.Tags.{tag_new_program, tag_drop_program}
use Rattle.refs_admin.specs.LogReading.{chain_log_program}
use Rattle.script_calls.specs.declared.calls.RefCall.{RefCall}
use Rattle.script_calls.specs.declared.calls.RefCall.TheVariants as ref
use Rattle.script_calls.specs.declared.calls.Call.{Call}
use Rattle.script_calls.specs.declared.calls.Call.TheVariants as call
use Rattle.play_script.specs.declared.scripts.Line.{Line}
use Rattle.play_outcome.specs.declared.outcome.Shown.{Shown}
use Rattle.play_outcome.specs.declared.outcome.Shown.TheVariants.{Log as Shown_log}
use Rattle.play_outcome.specs.declared.outcome.End.TheVariants.{Done}
use Rattle.play_outcome.specs.declared.outcome.Outcome.{Outcome}
use Rattle.play_outcome.specs.Playing.{ended, refused}

-- what is played once these lines were shown
abbrev pub Rest : Type 0
Rest = List Shown → Play Outcome

-- ---- what a call shows
-- what is shown of a snapshot of a log that this line of the script asked for
abbrev pub log_shown : ℕ → LogLine → Shown
log_shown line l = Shown_log line l.id l.flushed_at l.message l.props

-- a log shows its snapshots, in their order
abbrev pub logged : ℕ → Result (List LogLine) Refusal → Result (List Shown) Refusal
logged line (Ok lines) = Ok (map (log_shown line) lines)
logged line (Err why) = Err why

-- another call shows nothing
abbrev pub unseen : Result (Unit {0}) Refusal → Result (List Shown) Refusal
unseen (Ok done) = Ok []
unseen (Err why) = Err why

-- ---- calls
-- a call on refs in this line of the script, and then what follows what it came to
abbrev pub ref_play : ℕ → RefCall → (Result (List Shown) Refusal → Play Outcome) → Play Outcome
ref_play line (ref.Branch name at) next =
    call (branch_new_program name at) (λ answer. next (unseen answer))
ref_play line (ref.Reset name at) next =
    call (branch_reset_program name at) (λ answer. next (unseen answer))
ref_play line (ref.Unbranch name) next =
    call (branch_drop_program name) (λ answer. next (unseen answer))
ref_play line (ref.Tag name at) next =
    call (tag_new_program name at) (λ answer. next (unseen answer))
ref_play line (ref.Untag name) next = call (tag_drop_program name) (λ answer. next (unseen answer))
ref_play line (ref.Log at) next = call (chain_log_program at) (λ answer. next (logged line answer))

-- a call that was made, and what is played behind it; one that was refused ends the task
abbrev pub after_ref : ℕ → List Shown → Rest → Result (List Shown) Refusal → Play Outcome
after_ref line shown rest (Ok more) = rest (shown ++ more)
after_ref line shown rest (Err why) = refused line shown why

-- what a line calls, and what is played behind it; no script has another line here
abbrev pub play_ref_line : ℕ → Call → List Shown → Rest → Play Outcome
play_ref_line line (call.Ref c) shown rest = ref_play line c (after_ref line shown rest)
play_ref_line line (call.Edit edit) shown rest = rest shown
play_ref_line line (call.Read read) shown rest = rest shown
play_ref_line line (call.Commit message) shown rest = rest shown
play_ref_line line (call.Prop name value) shown rest = rest shown
play_ref_line line call.Lease shown rest = rest shown

-- the lines in their order, the first that is refused being the last; where memory is
-- wanting, the task ends in this line
unfoldable pub refs_play : List Line → List Shown → Play Outcome
refs_play [] shown = ended shown Done
refs_play (l ∷ ls) shown =
    Or (play_ref_line l.number l.call shown (refs_play ls)) (refused l.number shown NoMemory)
