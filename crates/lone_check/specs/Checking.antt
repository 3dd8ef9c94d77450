-- A check of a store on which nobody else acts, by client 1 and as a task on the line 0. (Own.)
use Rattle.std.specs.Prelude.{◌≡◌, ◌≤◌, true, List, ◌++◌, IsTrue}
use Rattle.ice_base.specs.Ends.{Rose}
use Rattle.object_store.specs.declared.events.Event.{Event}
use Rattle.store_api.specs.Journal.{Each, IsGood}
use Rattle.store_api.specs.Callers.{View}
use Rattle.repo_check.specs.Exact.{IsRead}
use Rattle.play_outcome.specs.declared.outcome.Outcome.{Outcome}
use Rattle.play_outcome.specs.Ending.{is_failed}
use Rattle.play_check.specs.Playing.{check_task}
use Rattle.play_check.specs.Telling.{CheckedTells}
use Rattle.play_tasks.specs.Played.{PlaysTo}

-- a get or a listing by client 1
pub record IsOfCheck (journal : List Event) (event : Event) : Type 0 where
  pub good : IsGood journal event
  pub client : event.client ≡ 1
  pub reads : IsRead event.op

-- From old to new there were the check's own operations with their answers, which play it to its
-- outcome, and no others. Where the store tells its journal, that goes on by exactly these, and the
-- outcome tells it. A fault of the store is told only where the count of faults rose.
pub record WasChecked (old new : View) (outcome : Outcome) : Type 0 where
  pub own : List Event
  pub plays : PlaysTo (check_task 0) own outcome
  pub is : IsTrue old.caller.tells → new.seen ≡ old.seen ++ own
  pub each : IsTrue old.caller.tells → Each IsOfCheck old.seen own
  pub told : IsTrue old.caller.tells → CheckedTells 0 1 old.seen outcome new.seen
  pub blames : is_failed outcome ≡ true → Rose old.faults new.faults
  pub counted : old.faults ≤ new.faults
  pub tells : new.caller.tells ≡ old.caller.tells
