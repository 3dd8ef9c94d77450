-- What the steps of one worker do, as the contracts of the code's own functions say it;
-- no public contract cites this.
use Rattle.std.specs.Prelude.{◌≡◌, ℕ, ◌+◌, ◌≤◌, ◌++◌, true, List, IsTrue, All}
use Rattle.ice_base.specs.Ends.{Rose}
use Rattle.ice_ids.specs.declared.drawing.Draw.{Draw}
use Rattle.object_store.specs.declared.events.Event.{Event}
use Rattle.store_api.specs.Journal.{Each, IsGood}
use Rattle.store_api.specs.Callers.{Caller, View, owns}
use Rattle.store_api.specs.Program.{events_of}
use Rattle.store_api.specs.Plays.{Play, dooms}
use Rattle.play_script.specs.declared.scripts.Task.{Task}
use Rattle.play_outcome.specs.declared.outcome.Outcome.{Outcome}
use Rattle.play_outcome.specs.Ending.{is_failed}
use Rattle.play_tasks.specs.Tasks.{Stands, IsOfClient}
use Rattle.play_tasks.specs.Played.{PlaysTo}

-- the caller acts for the worker at this place, and nobody else has its number
pub record IsClientAt (place : ℕ) (by : Caller) : Type 0 where
  pub number : by.number ≡ place + 1
  pub own : owns by (place + 1) ≡ true

-- the play is a task's that stands at this place
pub record IsReadyAt (place : ℕ) (view : View) (p : Play Outcome) : Type 0 where
  pub draw : Draw
  pub tasks : List Task
  pub start : List Event
  pub stand : Stands draw tasks start view.caller.tells place p view.seen

abbrev pub CanStep : ℕ → View → Play Outcome → Type 0
CanStep place view p = IsTrue view.caller.tells → IsReadyAt place view p

-- a play that is bound to tell a fault of the store is only there where the faults rose
abbrev pub Blames : Play Outcome → ℕ → ℕ → Type 0
Blames p m n = dooms is_failed p ≡ true → Rose m n

-- the event is good, and where its client is one of these, that client's task owes it
pub record IsKnown (draw : Draw) (tasks : List Task) (start : List Event) (clients : ℕ → Type 0)
    (journal : List Event) (event : Event) : Type 0 where
  pub good : IsGood journal event
  pub mine : clients event.client → IsOfClient draw tasks start journal event

-- The journal went on, so that each event is known. The events of the client of the
-- worker at this place are these.
pub record Tells (draw : Draw) (tasks : List Task) (start : List Event) (clients : ℕ → Type 0)
    (place : ℕ) (events old new : List Event) : Type 0 where
  pub more : List Event
  pub is : new ≡ old ++ more
  pub known : Each (IsKnown draw tasks start clients) old more
  pub alike : events_of (place + 1) more ≡ events

abbrev pub IsAt : ℕ → Event → Type 0
IsAt place event = event.client ≡ place + 1

-- the worker at this place had p to do and has q now, whatever task's the play is
pub record Went (place : ℕ) (old new : View) (p q : Play Outcome) : Type 0 where
  pub same : new.caller ≡ old.caller
  pub counted : old.faults ≤ new.faults
  pub blames : (m : ℕ) → m ≤ old.faults → Blames p m old.faults → Blames q m new.faults
  pub events : List Event
  pub mine : All (IsAt place) events
  pub plays : (more : List Event) (outcome : Outcome) → PlaysTo q more outcome
      → PlaysTo p (events ++ more) outcome
  pub kept : (draw : Draw) (tasks : List Task) (start : List Event) → IsTrue old.caller.tells
      → Stands draw tasks start old.caller.tells place p old.seen
      → Stands draw tasks start old.caller.tells place q new.seen
      × Tells draw tasks start (λ n. owns old.caller n ≡ true) place events old.seen new.seen
