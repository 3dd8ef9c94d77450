-- That tasks were played, in whatever order their clients acted. (Own.)
use Rattle.std.specs.Prelude.{◌≡◌, ◌⊎◌, ℕ, ◌+◌, ◌<◌, Bool, true, false}
use Rattle.std.specs.Prelude.{List, [], ◌∷◌, All, Some, length, slice_get}
use Rattle.ice_ids.specs.declared.drawing.Draw.{Draw}
use Rattle.object_store.specs.declared.keys.Why.{Why}
use Rattle.object_store.specs.declared.keys.Why.TheVariants as For
use Rattle.object_store.specs.declared.events.Op.{Op}
use Rattle.object_store.specs.declared.events.Op.TheVariants.{Get, PutNew, PutOver, Remove}
use Rattle.object_store.specs.declared.events.Op.TheVariants.{RemoveAt, List as ListPart}
use Rattle.object_store.specs.declared.events.Over.TheVariants.{Moved}
use Rattle.object_store.specs.declared.events.Reply.{Reply}
use Rattle.object_store.specs.declared.events.Reply.TheVariants.{Over as Is_over}
use Rattle.object_store.specs.declared.events.Event.{Event}
use Rattle.store_api.specs.Callers.{Fits}
use Rattle.store_api.specs.Program.{events_of}
use Rattle.store_api.specs.Telling.{IsGet}
use Rattle.store_api.specs.Plays.{Play, Ended, Ask, Or}
use Rattle.leases.specs.Telling.{IsRelease}
use Rattle.play_script.specs.declared.scripts.Task.{Task}
use Rattle.play_outcome.specs.declared.outcome.Outcome.{Outcome}
use Rattle.play_tasks.specs.Playing.{task_play}
use Rattle.play_tasks.specs.Tasks.{ids_at}

-- ---- paths of plays
-- the first of these events is this operation with a reply that fits it, and P holds of that
-- reply and the events behind it
abbrev pub StartsWith : Op → List Event → (Reply → List Event → Type 0) → Type 0
StartsWith op [] P = ⊥
StartsWith op (event ∷ more) P = (event.op ≡ op) × Fits op event.reply × P event.reply more

-- These events are a path of the play to its end, with a. Each operation is the one that comes
-- next, and has a reply that fits it, and what follows that reply plays to a by the events behind
-- it; or there was no memory for the operation, and what follows then plays to a by all of them.
unfoldable pub PlaysTo : {A : Type 0} → Play A → List Event → A → Type 0
PlaysTo (Ended b) events a = (events ≡ []) × (b ≡ a)
PlaysTo (Ask op starved next) events a =
    StartsWith op events (λ reply more. PlaysTo (next reply) more a) ⊎ PlaysTo starved events a
PlaysTo (Or p q) events a = PlaysTo p events a ⊎ PlaysTo q events a

-- ---- commits
abbrev pub is_for_commit : Why → Bool
is_for_commit For.Init = false
is_for_commit For.Set = false
is_for_commit For.Commit = true
is_for_commit For.Create = false
is_for_commit For.Reset = false
is_for_commit For.Drop = false
is_for_commit For.Tag = false
is_for_commit For.Collect = false
is_for_commit For.Expire = false
is_for_commit For.Lease = false

-- a put over for a commit
abbrev pub is_commit : Op → Bool
is_commit (Get key) = false
is_commit (PutNew key bytes why) = false
is_commit (PutOver key bytes old why) = is_for_commit why
is_commit (Remove key why) = false
is_commit (RemoveAt key old why) = false
is_commit (ListPart part) = false

-- the reply that the branch had moved on
abbrev pub is_moved : Reply → Bool
is_moved (Is_over (Moved there now)) = true
is_moved _ = false

-- a get, or the release of a lease
abbrev pub IsGetOrRelease : Op → Type 0
IsGetOrRelease op = IsGet op ⊎ IsRelease op

-- At most one of these operations is a commit that was done, or may have been: behind one that
-- wasn't found moved there are gets and releases of leases alone.
abbrev pub CommitsOnce : List Event → Type 0
CommitsOnce [] = Unit {0}
CommitsOnce (event ∷ more) =
    (is_commit event.op ≡ true → is_moved event.reply ≡ false → All (λ e. IsGetOrRelease e.op) more)
    × CommitsOnce more

-- ---- tasks
-- the event's client is a task's
pub record IsByTask (tasks : List Task) (event : Event) : Type 0 where
  pub place : ℕ
  pub within : place < length tasks
  pub client : event.client ≡ place + 1

-- These events are the tasks' alone. However they are mixed, those of each task's client are a path
-- of its play to its outcome; and one of them at most is a commit that was done, or may have been.
pub record AllPlayed (draw : Draw) (tasks : List Task) (outcomes : List Outcome)
    (events : List Event) : Type 0 where
  pub owned : All (IsByTask tasks) events
  pub plays : (place : ℕ) (task : Task) (outcome : Outcome)
      → slice_get tasks place ≡ Some task → slice_get outcomes place ≡ Some outcome
      → PlaysTo (task_play (ids_at draw place) task) (events_of (place + 1) events) outcome
  pub once : (place : ℕ) (task : Task) (outcome : Outcome) → slice_get tasks place ≡ Some task
      → slice_get outcomes place ≡ Some outcome → CommitsOnce (events_of (place + 1) events)
