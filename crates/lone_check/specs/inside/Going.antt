-- How far a check has come, as the contracts of the code's own functions say it;
-- no public contract cites this.
use Rattle.std.specs.Prelude.{◌≡◌, ◌≤◌, ℕ, true, List, ◌++◌, IsTrue}
use Rattle.ice_base.specs.Ends.{Rose}
use Rattle.object_store.specs.declared.events.Op.{Op}
use Rattle.object_store.specs.declared.events.Event.{Event}
use Rattle.store_api.specs.Journal.{Each, IsPolite}
use Rattle.store_api.specs.Callers.{View}
use Rattle.store_api.specs.Plays.{Play, dooms, PlayKeeps, PlayLeads}
use Rattle.repo_check.specs.Exact.{IsRead}
use Rattle.play_outcome.specs.declared.outcome.Outcome.{Outcome}
use Rattle.play_outcome.specs.Ending.{is_failed}
use Rattle.play_check.specs.declared.worker.CheckWorker.{CheckWorker}
use Rattle.play_check.specs.Playing.{check_task}
use Rattle.play_check.specs.Telling.{CheckedTells}
use Rattle.play_check.specs.Workers.{checking_rest}
use Rattle.play_tasks.specs.Played.{PlaysTo}
use Rattle.lone_check.specs.Checking.{IsOfCheck}

-- what holds of each operation to come, and of the outcome
abbrev pub Reads : List Event → ℕ → Op → Type 0
Reads journal client op = IsPolite journal op × IsRead op

-- From the view `old`, where the check began, to `now`: these operations were made, and what plays
-- the rest to an end plays the check to it, behind them.
pub record Came (old now : View) (rest : Play Outcome) : Type 0 where
  pub own : List Event
  pub plays : (more : List Event) (outcome : Outcome) → PlaysTo rest more outcome
      → PlaysTo (check_task 0) (own ++ more) outcome
  pub caller : now.caller ≡ old.caller
  pub client : old.caller.number ≡ 1
  pub is : IsTrue old.caller.tells → now.seen ≡ old.seen ++ own
  pub each : IsTrue old.caller.tells → Each IsOfCheck old.seen own
  pub keeps : IsTrue old.caller.tells → PlayKeeps Reads old.caller rest now.seen
  pub leads : IsTrue old.caller.tells
      → PlayLeads (CheckedTells 0 1 old.seen) old.caller rest now.seen
  pub blames : dooms is_failed rest ≡ true → Rose old.faults now.faults
  pub counted : old.faults ≤ now.faults

abbrev pub HasCome : (old now : View) → CheckWorker → Type 0
HasCome old now worker = Came old now (checking_rest worker)
