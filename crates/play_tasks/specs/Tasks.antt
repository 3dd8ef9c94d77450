-- What the tasks of a script owe and tell, in whatever order their clients act.
use Rattle.std.specs.Prelude.{◌≡◌, ℕ, ◌+◌, Bool, true, List, [], ◌∷◌, Some, slice_get}
use Rattle.ice_base.specs.Ends.{Rose}
use Rattle.ice_ids.specs.declared.drawing.AnyIds.{AnyIds}
use Rattle.ice_ids.specs.declared.drawing.Draw.{Draw}
use Rattle.ice_ids.specs.Drawing.{ids_of}
use Rattle.object_store.specs.declared.events.Event.{Event}
use Rattle.store_api.specs.Callers.{only}
use Rattle.store_api.specs.Plays.{Play, HasEnded, PlayKeeps, PlayLeads}
use Rattle.play_script.specs.declared.scripts.Task.{Task}
use Rattle.play_outcome.specs.declared.outcome.Outcome.{Outcome}
use Rattle.play_outcome.specs.Ending.{is_failed}
use Rattle.play_tasks.specs.Playing.{task_play}
use Rattle.play_tasks.specs.Owing.{IsDue, IsDueEvent, BeforeChange}
use Rattle.play_tasks.specs.Telling.{TellsOutcome}

-- the ids of the client of the task at a place, whose number is one more
abbrev pub ids_at : Draw → ℕ → AnyIds
ids_at draw place = ids_of draw (place + 1)

-- the plays of the tasks, of which the first stands at this place
abbrev pub plays_from : Draw → ℕ → List Task → List (Play Outcome)
plays_from draw place [] = []
plays_from draw place (t ∷ ts) = task_play (ids_at draw place) t ∷ plays_from draw (place + 1) ts

-- What the outcome of the task at this place tells of the journal,
-- where the tasks began at `start`.
abbrev pub TellsAt : Draw → ℕ → Task → List Event → Outcome → List Event → Type 0
TellsAt draw place task start outcome journal =
    TellsOutcome (ids_at draw place) task (place + 1) start outcome journal

-- Whatever others do, each operation that the worker at this place comes to is polite, and what its
-- task owes, and if it puts something and the task opens a session, comes before its client changed
-- a branch; and its outcome will tell the journal, where the tasks began at `start`.
pub record Stands (draw : Draw) (tasks : List Task) (start : List Event) (tells : Bool) (place : ℕ)
    (p : Play Outcome) (journal : List Event) : Type 0 where
  pub task : Task
  pub at : slice_get tasks place ≡ Some task
  pub careful : PlayKeeps (IsDue (ids_at draw place) task (place + 1) start)
      (only tells (place + 1)) p journal
  pub before : PlayKeeps (λ h client op. BeforeChange task client start h op)
      (only tells (place + 1)) p journal
  pub leads : PlayLeads (TellsAt draw place task start) (only tells (place + 1)) p journal

abbrev pub AllStand : Draw → List Task → List Event → Bool
    → List (Play Outcome) → List Event → Type 0
AllStand draw tasks start tells ps journal =
    (place : ℕ) (p : Play Outcome) → slice_get ps place ≡ Some p
    → Stands draw tasks start tells place p journal

-- The event is good, its client's, and what the task of that client owes, where the tasks began at
-- `start`; and if it puts something and the task opens a session, the client had changed no branch.
pub record IsOfClient (draw : Draw) (tasks : List Task) (start journal : List Event)
    (event : Event) : Type 0 where
  pub place : ℕ
  pub task : Task
  pub client : event.client ≡ place + 1
  pub at : slice_get tasks place ≡ Some task
  pub careful : IsDueEvent (ids_at draw place) task (place + 1) start journal event
  pub before : BeforeChange task (place + 1) start journal event.op

-- the worker at this place, if there is one, has ended
abbrev pub HasEndedAt : ℕ → List (Play Outcome) → Type 0
HasEndedAt place ps = (p : Play Outcome) → slice_get ps place ≡ Some p → HasEnded p

-- an outcome that tells a fault of the store comes only where the faults rose
abbrev pub AllBlame : List Outcome → ℕ → ℕ → Type 0
AllBlame outcomes m n =
    (place : ℕ) (outcome : Outcome) → slice_get outcomes place ≡ Some outcome
    → is_failed outcome ≡ true → Rose m n

-- each outcome tells the journal, where the tasks began at `start`
abbrev pub AllTold : Draw → List Task → List Outcome → List Event → List Event → Type 0
AllTold draw tasks outcomes start journal =
    (place : ℕ) (task : Task) (outcome : Outcome) → slice_get tasks place ≡ Some task
    → slice_get outcomes place ≡ Some outcome → TellsAt draw place task start outcome journal
