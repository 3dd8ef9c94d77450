-- What is done once a script is read: the repository is begun where there is none, the tasks are
-- played, and the refs are read (own).
use Rattle.std.specs.Prelude.{◌≡◌, ◌≤◌, Bool, List, [], length}
use Rattle.std.specs.Prelude.{Option, Some, None, Result, Ok, Err, IsTrue}
use Rattle.ice_ids.specs.declared.drawing.Draw.{Draw}
use Rattle.object_store.specs.declared.events.Event.{Event}
use Rattle.store_api.specs.declared.machines.Refusal.{Refusal}
use Rattle.store_api.specs.Callers.{View, HasAll, as_client}
use Rattle.store_api.specs.Running.{Runs}
use Rattle.play_script.specs.declared.scripts.Script.{Script}
use Rattle.play_script.specs.declared.scripts.Task.{Task}
use Rattle.play_script.specs.declared.scripts.Turn.{Turn}
use Rattle.play_outcome.specs.declared.outcome.Outcome.{Outcome}
use Rattle.play_outcome.specs.declared.outcome.RefLine.{RefLine}
use Rattle.play_tasks.specs.Tasks.{AllTold, AllBlame}
use Rattle.play_run.specs.Order.{RanTasks, places_of}
use Rattle.play_at_once.specs.Running.{RanAtOnce}
use Rattle.repository.specs.Beginning.{begin_program}
use Rattle.repository.specs.Refs.{refs_program}

-- the tasks ran by the turns that a script names, and then each to its
-- end; where it names none, at once
abbrev pub RanBy : Option (List Turn) → Draw → List Task → Bool → List Outcome
    → List Event → List Event → Type 0
RanBy (Some turns) draw tasks tells outcomes old new =
    RanTasks draw tasks tells (places_of turns) outcomes old new
RanBy None draw tasks tells outcomes old new = RanAtOnce draw tasks tells outcomes old new

-- From old to new the tasks were run, by the script's turns or at once, with these outcomes; a
-- fault of the store is told only where it rose.
pub record PlaysTasks (draw : Draw) (script : Script) (old new : View)
    (outcomes : List Outcome) : Type 0 where
  pub size : length outcomes ≡ length script.tasks
  pub ran : RanBy script.turns draw script.tasks old.caller.tells outcomes old.seen new.seen
  pub blames : AllBlame outcomes old.faults new.faults
  pub counted : old.faults ≤ new.faults
  pub tells : new.caller.tells ≡ old.caller.tells

-- From old to new the repository was begun, by client 0 and with this answer, and nothing else was
-- done: there was no memory for the workers of the tasks.
pub record OnlyBegan (old new : View) : Type 0 where
  pub alone : HasAll old.caller
  pub opening : Result (Unit {0}) Refusal
  pub begins : Runs (as_client 0 old) new begin_program opening

-- no task is played where the repository couldn't be begun
abbrev pub Plays : Draw → Script → View → View → Result (Unit {0}) Refusal → List Outcome → Type 0
Plays draw script old new (Ok done) outcomes = PlaysTasks draw script old new outcomes
Plays draw script old new (Err why) outcomes = (new ≡ old) × (outcomes ≡ [])

-- From old to new, over a store on which nobody else acts: the opening, the tasks, and
-- the closing reading. The first and the last are client 0's. What each outcome says
-- holds of the journal that is left.
pub record Course (draw : Draw) (script : Script) (old new : View)
    (opening : Result (Unit {0}) Refusal) (outcomes : List Outcome)
    (refs : Result (List RefLine) Refusal) : Type 0 where
  pub begun : View
  pub played : View
  pub alone : HasAll old.caller
  pub still_alone : HasAll played.caller
  pub begins : Runs (as_client 0 old) begun begin_program opening
  pub plays : Plays draw script begun played opening outcomes
  pub reads : Runs (as_client 0 played) new refs_program refs
  pub told : IsTrue old.caller.tells → AllTold draw script.tasks outcomes begun.seen new.seen
