-- What turns do, as the contracts of the code's own functions say it;
-- no public contract cites this.
use Rattle.std.specs.Prelude.{◌≡◌, ℕ, ◌≤◌, ◌++◌, List, IsTrue, Some, length, slice_get, true}
use Rattle.ice_base.specs.Ends.{Rose}
use Rattle.ice_ids.specs.declared.drawing.Draw.{Draw}
use Rattle.object_store.specs.declared.events.Event.{Event}
use Rattle.store_api.specs.Journal.{Each}
use Rattle.store_api.specs.Callers.{View}
use Rattle.store_api.specs.Plays.{Play, dooms}
use Rattle.play_script.specs.declared.scripts.Task.{Task}
use Rattle.play_outcome.specs.declared.outcome.Outcome.{Outcome}
use Rattle.play_outcome.specs.Ending.{is_failed}
use Rattle.play_tasks.specs.Tasks.{AllStand, IsOfClient, HasEndedAt}
use Rattle.play_run.specs.Order.{InTurns}

-- the plays are tasks', which stand
pub record IsReady (view : View) (ps : List (Play Outcome)) : Type 0 where
  pub draw : Draw
  pub tasks : List Task
  pub start : List Event
  pub stand : AllStand draw tasks start view.caller.tells ps view.seen

abbrev pub CanGo : View → List (Play Outcome) → Type 0
CanGo view ps = IsTrue view.caller.tells → IsReady view ps

-- a play that is bound to tell a fault of the store is only there where the faults rose
abbrev pub Blame : List (Play Outcome) → ℕ → ℕ → Type 0
Blame ps m n =
    (place : ℕ) (p : Play Outcome) → slice_get ps place ≡ Some p
    → dooms is_failed p ≡ true → Rose m n

-- where the plays were tasks' that stood: they stand still, and the journal went on by
-- these operations, good and owed
pub record Kept (draw : Draw) (tasks : List Task) (start : List Event) (old new : View)
    (own : List Event) (qs : List (Play Outcome)) : Type 0 where
  pub stand : AllStand draw tasks start new.caller.tells qs new.seen
  pub is : new.seen ≡ old.seen ++ own
  pub careful : Each (IsOfClient draw tasks start) old.seen own

-- by these turns, whatever tasks' the plays are
pub record Went (turns : List ℕ) (old new : View) (ps qs : List (Play Outcome)) : Type 0 where
  pub tells : new.caller.tells ≡ old.caller.tells
  pub size : length qs ≡ length ps
  pub counted : old.faults ≤ new.faults
  pub blames : (m : ℕ) → m ≤ old.faults → Blame ps m old.faults → Blame qs m new.faults
  pub others : (place : ℕ) → HasEndedAt place ps → HasEndedAt place qs
  pub own : List Event
  pub order : InTurns turns ps own qs
  pub kept : (draw : Draw) (tasks : List Task) (start : List Event)
      → IsTrue old.caller.tells → AllStand draw tasks start old.caller.tells ps old.seen
      → Kept draw tasks start old new own qs
