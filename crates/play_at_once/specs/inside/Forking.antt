-- What workers at once do, as the contracts of the code's own functions say it;
-- no public contract cites this.
use Rattle.std.specs.Prelude.{◌≡◌, ℕ, ◌+◌, ◌<◌, ◌≤◌, ◌++◌, true, false, Bool}
use Rattle.std.specs.Prelude.{List, IsTrue, IfSome, All, Some, length, slice_get}
use Rattle.ice_base.specs.Ends.{Rose}
use Rattle.ice_ids.specs.declared.drawing.Draw.{Draw}
use Rattle.turn_cell.specs.declared.known.Known.{Known}
use Rattle.turn_cell.specs.declared.known.Owners.{Owners}
use Rattle.turn_cell.specs.Owners.{IsOwner}
use Rattle.object_store.specs.declared.events.Event.{Event}
use Rattle.store_api.specs.Journal.{Each}
use Rattle.store_api.specs.Program.{events_of}
use Rattle.store_api.specs.Plays.{Play}
use Rattle.play_script.specs.declared.scripts.Task.{Task}
use Rattle.play_outcome.specs.declared.outcome.Outcome.{Outcome}
use Rattle.play_outcome.specs.Ending.{is_failed}
use Rattle.play_tasks.specs.Tasks.{Stands, AllStand, AllBlame, AllTold, TellsAt}
use Rattle.play_tasks.specs.Played.{PlaysTo}
use Rattle.play_at_once.specs.inside.Stepping.{Blames, IsKnown, IsAt, Tells}

-- the numbers are those of the clients of so many workers, and others
pub record HasPlaces (owners : Owners) (count : ℕ) : Type 0 where
  pub low : owners.low ≡ 0
  pub end : IfSome owners.end (λ end. count < end)

-- ---- before
pub record IsSet (tells : Bool) (ps : List (Play Outcome)) (journal : List Event) : Type 0 where
  pub draw : Draw
  pub tasks : List Task
  pub start : List Event
  pub stand : AllStand draw tasks start tells ps journal

-- the plays are tasks', which stand
abbrev pub CanGo : Bool → List (Play Outcome) → List Event → Type 0
CanGo tells ps journal = IsTrue tells → IsSet tells ps journal

pub record IsSetAt (tells : Bool) (place : ℕ) (p : Play Outcome)
    (journal : List Event) : Type 0 where
  pub draw : Draw
  pub tasks : List Task
  pub start : List Event
  pub stand : Stands draw tasks start tells place p journal

abbrev pub CanGoAt : Bool → ℕ → Play Outcome → List Event → Type 0
CanGoAt tells place p journal = IsTrue tells → IsSetAt tells place p journal

-- ---- after
-- a pass has the clients that it had, no turn, and no lower count
pub record IsBack (old new : Known Event) : Type 0 where
  pub owners : new.owners ≡ old.owners
  pub idle : new.has_turn ≡ false
  pub counted : old.count ≤ new.count

-- the worker at this place came to this outcome, whatever task's its play is
pub record RanOne (tells : Bool) (place : ℕ) (old new : Known Event) (p : Play Outcome)
    (outcome : Outcome) : Type 0 where
  pub back : IsBack old new
  pub blames : (m : ℕ) → m ≤ old.count → Blames p m old.count → is_failed outcome ≡ true
      → Rose m new.count
  pub events : List Event
  pub mine : All (IsAt place) events
  pub plays : PlaysTo p events outcome
  pub kept : (draw : Draw) (tasks : List Task) (start : List Event) → IsTrue tells
      → Stands draw tasks start tells place p old.journal
      → ((task : Task) → slice_get tasks place ≡ Some task
      → TellsAt draw place task start outcome new.journal)
      × Tells draw tasks start (IsOwner old.owners) place events old.journal new.journal

-- the event is of the client of a worker at one of the first places
pub record IsAmong (count : ℕ) (event : Event) : Type 0 where
  pub place : ℕ
  pub within : place < count
  pub client : event.client ≡ place + 1

-- The journal went on, so that each event is known. The events of each worker's client are the same
-- as here, and each outcome tells the journal.
pub record AllTell (draw : Draw) (tasks : List Task) (start : List Event) (clients : ℕ → Type 0)
    (outcomes : List Outcome) (events old new : List Event) : Type 0 where
  pub more : List Event
  pub is : new ≡ old ++ more
  pub known : Each (IsKnown draw tasks start clients) old more
  pub alike : (place : ℕ) → place < length outcomes
      → events_of (place + 1) more ≡ events_of (place + 1) events
  pub told : AllTold draw tasks outcomes start new

-- the workers, of which the first is at place 0, came to these
-- outcomes, whatever tasks' the plays are
pub record RanAll (tells : Bool) (old new : Known Event) (ps : List (Play Outcome))
    (outcomes : List Outcome) : Type 0 where
  pub back : IsBack old new
  pub size : length outcomes ≡ length ps
  pub blames : (m : ℕ) → m ≤ old.count
      → ((place : ℕ) (p : Play Outcome) → slice_get ps place ≡ Some p → Blames p m old.count)
      → AllBlame outcomes m new.count
  pub events : List Event
  pub owned : All (IsAmong (length ps)) events
  pub plays : (place : ℕ) (p : Play Outcome) (outcome : Outcome) → slice_get ps place ≡ Some p
      → slice_get outcomes place ≡ Some outcome → PlaysTo p (events_of (place + 1) events) outcome
  pub kept : (draw : Draw) (tasks : List Task) (start : List Event) → IsTrue tells
      → AllStand draw tasks start tells ps old.journal
      → AllTell draw tasks start (IsOwner old.owners) outcomes events old.journal new.journal
