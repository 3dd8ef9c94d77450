-- A collection of a run, and what it asks of those beside it. (Icechunk's manual, "Expiring Data",
-- "Garbage collection": the cutoff precedes the oldest open session; own.)
use Rattle.std.specs.Prelude.{◌≡◌, ◌⊎◌, ℕ, ◌+◌, ◌≤◌, List, ◌∷◌, ◌++◌, Some, slice_get}
use Rattle.ice_ids.specs.declared.Id12.{Id12}
use Rattle.object_store.specs.declared.keys.Key.{Key}
use Rattle.object_store.specs.declared.events.Event.{Event}
use Rattle.store_api.specs.Journal.{Each}
use Rattle.reach.specs.Holding.{Reaches}
use Rattle.collecting.specs.Walks.{Walk, Doomed}
use Rattle.collecting.specs.Runs.{walk_of}
use Rattle.history_laws.specs.Refs.{Points, Commits}
use Rattle.script_calls.specs.declared.calls.Access.{Access}
use Rattle.script_calls.specs.declared.calls.Head.TheVariants.{Session, Collect}
use Rattle.play_script.specs.declared.scripts.Task.{Task}

-- the task at this place collects, with this cutoff
pub record CollectsAt (tasks : List Task) (place cutoff : ℕ) : Type 0 where
  pub task : Task
  pub at : slice_get tasks place ≡ Some task
  pub head_is : task.head ≡ Collect cutoff

-- the task at this place opens a session
pub record OpensAt (tasks : List Task) (place : ℕ) (access : Access) : Type 0 where
  pub task : Task
  pub at : slice_get tasks place ≡ Some task
  pub head_is : task.head ≡ Session access

-- what the events of the collection's client told it, since the tasks began
abbrev pub walk_at : (place cutoff : ℕ) → (start journal : List Event) → Walk
walk_at place cutoff start journal = walk_of cutoff (place + 1) start journal

-- It dooms the key: all objects are listed, and this is the key of one that is older than the
-- cutoff, and that nothing marks which its gets answered.
abbrev pub DoomedAt : (place cutoff : ℕ) → (start journal : List Event) → Key → Type 0
DoomedAt place cutoff start journal key = Doomed cutoff (walk_at place cutoff start journal) key

-- it was told the branches by now
abbrev pub HasBegun : (place cutoff : ℕ) → (start journal : List Event) → Type 0
HasBegun place cutoff start journal =
    (left : List Key) × ((walk_at place cutoff start journal).branches ≡ Some left)

-- ---- sessions
-- An event of the client of the task at the other place isn't earlier than the cutoff, but where
-- the collection had begun before.
abbrev pub IsNotEarlier : (place cutoff other : ℕ) → (start before : List Event) → Event → Type 0
IsNotEarlier place cutoff other start before event =
    event.client ≡ other + 1 → HasBegun place cutoff start before ⊎ (cutoff ≤ event.time)

-- the cutoff precedes the session of that task, as far as it has come
abbrev pub Precedes : (place cutoff other : ℕ) → (start since : List Event) → Type 0
Precedes place cutoff other start since = Each (IsNotEarlier place cutoff other start) start since

-- that session committed once the collection had begun
pub record CommitsBeside (place cutoff other : ℕ) (start since : List Event) : Type 0 where
  pub seen : List Event
  pub event : Event
  pub left : List Event
  pub is : since ≡ seen ++ event ∷ left
  pub client_is : event.client ≡ other + 1
  pub begun : HasBegun place cutoff start (start ++ seen)
  pub base : Id12
  pub id : Id12
  pub commits : Commits (start ++ seen) event base id

-- ---- refs
-- Where the collection had begun before, the event makes or resets no branch, and makes no tag, at
-- a snapshot that reaches such a key.
abbrev pub LeavesAlone : (doomed : Key → Type 0) → (place cutoff : ℕ)
    → (start before : List Event) → Event → Type 0
LeavesAlone doomed place cutoff start before event =
    HasBegun place cutoff start before → (id : Id12) → Points before event id → (key : Key)
    → Reaches before id key → doomed key → ⊥

-- ---- both
-- From the tasks' start up to this moment: the cutoff precedes each session that committed beside
-- the collection, and it was quiet.
pub record IsSafe (tasks : List Task) (place cutoff : ℕ) (start since : List Event) : Type 0 where
  pub precedes : (other : ℕ) (access : Access) → OpensAt tasks other access
      → CommitsBeside place cutoff other start since → Precedes place cutoff other start since
  pub quiet : Each (LeavesAlone (DoomedAt place cutoff start (start ++ since)) place cutoff start)
      start since
