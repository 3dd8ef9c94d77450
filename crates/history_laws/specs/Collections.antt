-- A collection and sessions beside it, and what keeps them from each other. (Own.)
use Rattle.std.specs.Prelude.{◌≡◌, ◌⊎◌, ℕ, ◌<◌, ◌≤◌, List, [], ◌++◌}
use Rattle.std.specs.Prelude.{length, take, Contains, Some, None}
use Rattle.ice_ids.specs.declared.Id12.{Id12}
use Rattle.ice_ids.specs.Text.{initial_id}
use Rattle.object_store.specs.declared.keys.Key.{Key}
use Rattle.object_store.specs.declared.events.Event.{Event}
use Rattle.object_store.specs.Machine.{found}
use Rattle.store_api.specs.Journal.{Each, IsGoodJournal, IsOnce, WasPut}
use Rattle.reach.specs.Holding.{Reaches}
use Rattle.reach.specs.Own.{HasPut, HoldsBesides}
use Rattle.collecting.specs.Walks.{Walk, IsObject, Doomed, May}
use Rattle.collecting.specs.Runs.{walk_of}
use Rattle.history_laws.specs.Refs.{RefReaches, Points, Commits, Removes}

-- A collection: its cutoff, its client, and where its events are: those of that client that stand
-- behind `start`, at positions before `stop`. What the client does before or later is none of it.
pub record Collection : Type 0 where
  pub cutoff : ℕ
  pub client : ℕ
  pub start : List Event
  pub stop : ℕ

-- what its own events told it
abbrev pub walk_at : Collection → List Event → Walk
walk_at c journal = walk_of c.cutoff c.client c.start (take c.stop journal)

-- where the event is one of its own, it is one that a collection may make next
abbrev pub OwesUntil : Collection → List Event → Event → Type 0
OwesUntil c before event =
    event.client ≡ c.client → length before < c.stop → May c.cutoff (walk_at c before) event.op

-- what it dooms, by what it was told
abbrev pub DoomedBy : Collection → List Event → Key → Type 0
DoomedBy c journal key = Doomed c.cutoff (walk_at c journal) key

-- it knows the branches by now, so each event to come is behind its first one
abbrev pub HasBegun : Collection → List Event → Type 0
HasBegun c journal = (left : List Key) × ((walk_at c journal).branches ≡ Some left)

-- ---- sessions
-- no event of the session's client is earlier than the cutoff, but where
-- the collection had begun before
abbrev pub IsNotBefore : Collection → (client : ℕ) → List Event → Event → Type 0
IsNotBefore c client before event =
    event.client ≡ client → HasBegun c before ⊎ (c.cutoff ≤ event.time)

-- A session of this client, whose events are those behind `from`, that the cutoff precedes.
pub record IsPreceded (c : Collection) (client : ℕ) (from journal : List Event) : Type 0 where
  pub more : List Event
  pub is : journal ≡ from ++ more
  pub each : Each (IsNotBefore c client) from more

-- The commit is one of a session that the cutoff precedes: whatever its snapshot holds, the
-- base holds, or the session put it.
pub record IsOfSession (c : Collection) (before : List Event) (event : Event)
    (base id : Id12) : Type 0 where
  pub from : List Event
  pub preceded : IsPreceded c event.client from before
  pub own : HoldsBesides (λ (key : Key). HasPut event.client key from before) base id before

-- where the collection has begun, each commit that takes effect is one of a session
abbrev pub CommitsOwn : Collection → List Event → Event → Type 0
CommitsOwn c before event =
    HasBegun c before → (base id : Id12) → Commits before event base id
    → IsOfSession c before event base id

-- where the collection has begun, no branch is made or reset, and no tag made, at a
-- snapshot that reaches such a key
abbrev pub IsQuiet : (Key → Type 0) → Collection → List Event → Event → Type 0
IsQuiet doomed c before event =
    HasBegun c before → (id : Id12) → Points before event id → (key : Key)
    → Reaches before id key → doomed key → ⊥

-- ---- a collection in a journal
-- In a legal polite journal that puts nothing again, each event of the collection is one that it
-- may make, and it has listed all objects. Later it goes on so.
pub record IsListed (c : Collection) (journal later : List Event) : Type 0 where
  pub good : IsGoodJournal journal
  pub once : IsOnce journal
  pub more : List Event
  pub is : journal ≡ c.start ++ more
  pub owes : Each (OwesUntil c) c.start (more ++ later)
  pub listed : (walk_at c journal).lists ≡ 4

-- And so far each commit beside it was a session's own, and it was quiet.
pub record IsCollected (c : Collection) (journal later : List Event) : Type 0 where
  pub listed : IsListed c journal later
  pub own : Each (CommitsOwn c) c.start listed.more
  pub quiet : Each (IsQuiet (DoomedBy c (journal ++ later)) c) c.start listed.more

-- ---- several collections
-- each event of the collection is one that it may make
pub record Collects (c : Collection) (journal : List Event) : Type 0 where
  pub more : List Event
  pub is : journal ≡ c.start ++ more
  pub owes : Each (OwesUntil c) c.start more

-- the event is one of a collection of these
pub record IsOfOne (collections : List Collection) (before : List Event)
    (event : Event) : Type 0 where
  pub collection : Collection
  pub among : Contains collections collection
  pub client_is : event.client ≡ collection.client
  pub within : length before < collection.stop
  pub more : List Event
  pub is : before ≡ collection.start ++ more

-- what removes an object is an event of one of these collections
abbrev pub OnlyCollects : List Collection → List Event → Event → Type 0
OnlyCollects collections before event =
    (key : Key) → IsObject key → Removes before event key → IsOfOne collections before event

-- an object was put, and doesn't stand any more
pub record IsLost (journal : List Event) (key : Key) : Type 0 where
  pub object : IsObject key
  pub put : WasPut journal key
  pub gone : found journal key ≡ None

-- The commit is one of a session that began behind `old`: whatever its snapshot holds, the
-- base holds, or the session put it.
pub record IsOfLater (old before : List Event) (event : Event) (base id : Id12) : Type 0 where
  pub since : List Event
  pub own : HoldsBesides (λ (key : Key). HasPut event.client key (old ++ since) before)
      base id before

-- if an object was lost by then, each commit that takes effect is one of such a session
abbrev pub CommitsLater : List Event → List Event → Event → Type 0
CommitsLater old before event =
    (lost : Key) → IsLost old lost → (base id : Id12) → Commits before event base id
    → IsOfLater old before event base id

-- no branch is made or reset, and no tag made, at a snapshot that reaches a lost object
abbrev pub LeavesLost : List Event → List Event → Event → Type 0
LeavesLost old before event =
    (id : Id12) → Points before event id → (key : Key) → Reaches before id key → IsLost old key → ⊥

-- No ref reaches a lost object, nor does the initial snapshot.
pub record NoneMissing (journal : List Event) : Type 0 where
  pub refs : (ref key : Key) → RefReaches journal ref key → IsLost journal key → ⊥
  pub initial : (key : Key) → Reaches journal initial_id key → IsLost journal key → ⊥

-- In a legal polite journal that puts nothing again, collections alone removed objects from
-- `old` on, where no ref reached a lost one (none is lost where nothing was removed before);
-- each of them that has listed all was quiet, and each commit beside it a session's own; and
-- refs left what was lost before.
pub record AreCollected (collections : List Collection) (old journal : List Event) : Type 0 where
  pub good : IsGoodJournal journal
  pub once : IsOnce journal
  pub added : List Event
  pub is : journal ≡ old ++ added
  pub only : Each (OnlyCollects collections) old added
  pub collects : (c : Collection) → Contains collections c → Collects c journal
  pub collected : (c : Collection) → Contains collections c → (walk_at c journal).lists ≡ 4
      → IsCollected c journal []
  pub none_missing : NoneMissing old
  pub own : Each (CommitsLater old) old added
  pub quiet : Each (LeavesLost old) old added
