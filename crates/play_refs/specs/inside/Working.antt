-- What a worker has still to do.
use Rattle.std.specs.Prelude.{◌≡◌, ℕ, ◌+◌, ◌-◌, ◌*◌, ◌≤◌, List, drop, Bool, true, not, Result}
use Rattle.store_api.specs.declared.machines.Refusal.{Refusal}
use Rattle.store_api.specs.Program.{is_ask}
use Rattle.store_api.specs.Running.{Program}
use Rattle.store_api.specs.Plays.{Play, Ended, call}
use Rattle.refs_admin.specs.declared.log.LogLine.{LogLine}
use Rattle.refs_admin.specs.inside.Working.{branch_new_rest, branch_new_left, branch_reset_rest}
use Rattle.refs_admin.specs.inside.Working.{branch_reset_left, branch_drop_rest}
use Rattle.refs_admin.specs.inside.Working.{branch_drop_left, tag_new_rest, tag_new_left}
use Rattle.refs_admin.specs.inside.Working.{tag_drop_rest, tag_drop_left, log_rest, log_left}
use Rattle.script_calls.specs.declared.calls.RefCall.{RefCall}
use Rattle.play_script.specs.declared.scripts.Line.{Line}
use Rattle.play_outcome.specs.declared.outcome.Shown.{Shown}
use Rattle.play_outcome.specs.declared.outcome.Outcome.{Outcome}
use Rattle.play_outcome.specs.Ending.{ends_failed}
use Rattle.play_refs.specs.declared.working.RefMaker.{RefMaker}
use Rattle.play_refs.specs.declared.working.RefMaker.TheVariants as m
use Rattle.play_refs.specs.declared.working.RefMachine.{RefMachine}
use Rattle.play_refs.specs.declared.working.RefMachine.TheVariants.{Making, Reading}
use Rattle.play_refs.specs.declared.working.Working.{Working}
use Rattle.play_refs.specs.declared.working.Working.TheVariants as w
use Rattle.play_refs.specs.Playing.{Rest, unseen, logged, ref_play, after_ref, refs_play}

-- ---- machines
-- what a machine has to do that makes, moves or drops a ref
abbrev pub maker_rest : RefMaker → Program (Unit {0})
maker_rest (m.Branch machine) = branch_new_rest machine
maker_rest (m.Reset machine) = branch_reset_rest machine
maker_rest (m.Unbranch machine) = branch_drop_rest machine
maker_rest (m.Tag machine) = tag_new_rest machine
maker_rest (m.Untag machine) = tag_drop_rest machine

abbrev pub maker_left : RefMaker → ℕ
maker_left (m.Branch machine) = branch_new_left machine
maker_left (m.Reset machine) = branch_reset_left machine
maker_left (m.Unbranch machine) = branch_drop_left machine
maker_left (m.Tag machine) = tag_new_left machine
maker_left (m.Untag machine) = tag_drop_left machine

-- what is left of a call in this line of the script, and then what follows what it comes to
abbrev pub machine_play : ℕ → RefMachine → (Result (List Shown) Refusal → Play Outcome)
    → Play Outcome
machine_play line (Making maker) next = call (maker_rest maker) (λ answer. next (unseen answer))
machine_play line (Reading log) next = call (log_rest log) (λ answer. next (logged line answer))

-- it has something to do
abbrev pub machine_works : RefMachine → Bool
machine_works (Making maker) = is_ask (maker_rest maker)
machine_works (Reading log) = is_ask (log_rest log)

-- so many steps are left of it, at most
abbrev pub machine_left : RefMachine → ℕ
machine_left (Making maker) = maker_left maker
machine_left (Reading log) = log_left log

-- no machine takes more steps than a log
abbrev pub most_steps : ℕ
most_steps = 65538

-- the machine is that of this call, before its first operation
pub record Begins (c : RefCall) (machine : RefMachine) : Type 0 where
  pub plays : (line : ℕ) (next : Result (List Shown) Refusal → Play Outcome)
      → ref_play line c next ≡ machine_play line machine next
  pub works : machine_works machine ≡ true
  pub few : machine_left machine ≤ most_steps

-- ---- where a worker stands
-- the lines of a body from a number on, from 0
abbrev pub lines_from : List Line → ℕ → Rest
lines_from body at = refs_play (drop at body)

-- what is played behind a call that shows nothing, and behind a log
abbrev pub after_making : ℕ → List Shown → Rest → Result (Unit {0}) Refusal → Play Outcome
after_making line shown rest answer = after_ref line shown rest (unseen answer)

abbrev pub after_reading : ℕ → List Shown → Rest → Result (List LogLine) Refusal → Play Outcome
after_reading line shown rest answer = after_ref line shown rest (logged line answer)

abbrev pub working_rest : List Line → Working → Play Outcome
working_rest body (w.Calling line at shown machine) =
    machine_play line machine (after_ref line shown.items (lines_from body at))
working_rest body (w.Ended outcome) = Ended outcome

-- the lines that were shown so far
abbrev pub shown_in : Working → List Shown
shown_in (w.Calling line at shown machine) = shown.items
shown_in (w.Ended outcome) = outcome.shown

-- the machine in it has something to do
abbrev pub is_working : Working → Bool
is_working (w.Calling line at shown machine) = machine_works machine
is_working (w.Ended outcome) = true

-- what lines came to: nothing of the store has failed, and a machine that began has something to do
abbrev pub is_well : Working → Bool
is_well (w.Calling line at shown machine) = machine_works machine
is_well (w.Ended outcome) = not (ends_failed outcome)

-- how many steps are left at most, of a body of so many lines
abbrev pub working_left : ℕ → Working → ℕ
working_left lines (w.Calling line at shown machine) =
    (lines - at) * most_steps + machine_left machine
working_left lines (w.Ended outcome) = 0
