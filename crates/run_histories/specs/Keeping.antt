-- What is promised of the collections of a run: they remove nothing that a ref, a leased session or
-- an anchored session reaches. (Own.)
use Rattle.std.specs.Prelude.{◌≡◌, ℕ, ◌+◌, List, [], ◌∷◌, ◌++◌, Some, slice_get}
use Rattle.ice_ids.specs.declared.Id12.{Id12}
use Rattle.ice_ids.specs.declared.drawing.Draw.{Draw}
use Rattle.object_store.specs.declared.keys.Key.{Key}
use Rattle.object_store.specs.declared.keys.Key.TheVariants.{Snapshot}
use Rattle.object_store.specs.declared.events.Event.{Event}
use Rattle.store_api.specs.Journal.{Each, WasPut}
use Rattle.reach.specs.Holding.{Reaches}
use Rattle.reach.specs.Own.{HasPut}
use Rattle.collecting.specs.Walks.{IsObject}
use Rattle.history_laws.specs.Refs.{RefReaches, IsAnchored, IsLeased, Removes}
use Rattle.history_laws.specs.Collections.{LeavesLost, NoneMissing}
use Rattle.history_laws.specs.Laws.{PassedNone, Stands}
use Rattle.script_calls.specs.declared.calls.Access.{Access}
use Rattle.play_script.specs.declared.scripts.Task.{Task}
use Rattle.play_outcome.specs.declared.outcome.Outcome.{Outcome}
use Rattle.play_collect.specs.Telling.{CollectedTells}
use Rattle.play_tasks.specs.Bases.{HasBase}
use Rattle.play_tasks.specs.Playing.{asked_by}
use Rattle.play_tasks.specs.Tasks.{ids_at}
use Rattle.run_histories.specs.Beside.{CollectsAt, OpensAt, walk_at, DoomedAt, Precedes, IsSafe}

-- ---- sessions
-- A task's session is open here, and one and the same ref reached its base at each event since its
-- client read what names the base.
pub record IsOpenAnchored (draw : Draw) (tasks : List Task) (place : ℕ)
    (start journal : List Event) : Type 0 where
  pub access : Access
  pub opens : OpensAt tasks place access
  pub has : HasBase (place + 1) (asked_by access (ids_at draw place)) start journal
  pub ref : Key
  pub anchored : IsAnchored ref has.base
      (has.named.got.own.before ++ has.named.got.own.event ∷ []) journal

-- A task's session is open here, and a lease names its base, since a moment behind the tasks'
-- start at which a ref named it too.
pub record IsOpenLeased (draw : Draw) (tasks : List Task) (place : ℕ)
    (start journal : List Event) : Type 0 where
  pub access : Access
  pub opens : OpensAt tasks place access
  pub has : HasBase (place + 1) (asked_by access (ids_at draw place)) start journal
  pub lease : Id12
  pub since : List Event
  pub leased : IsLeased lease has.base (start ++ since) journal

-- ---- one collection
-- The event removes the key as a collection that dooms it.
pub record RemovesDoomed (tasks : List Task) (start journal : List Event) (event : Event)
    (key : Key) : Type 0 where
  pub place : ℕ
  pub cutoff : ℕ
  pub collects : CollectsAt tasks place cutoff
  pub client_is : event.client ≡ place + 1
  pub doomed : DoomedAt place cutoff start journal key

-- What the collection dooms at this moment, nothing needs: no branch and no tag that stands
-- reaches it; no session's base does that such a ref reaches, so no anchored session's; no leased
-- session's base does, where the collection passed over nothing that this reaches; and no session
-- put it that the cutoff precedes.
pub record DoomsNothingNeeded (draw : Draw) (tasks : List Task) (place cutoff : ℕ)
    (start since : List Event) : Type 0 where
  pub refs : (ref key : Key) → RefReaches (start ++ since) ref key
      → DoomedAt place cutoff start (start ++ since) key → ⊥
  pub bases : (ref : Key) (base : Id12) (key : Key)
      → RefReaches (start ++ since) ref (Snapshot base) → Reaches (start ++ since) base key
      → DoomedAt place cutoff start (start ++ since) key → ⊥
  pub sessions : (other : ℕ)
      (session : IsOpenAnchored draw tasks other start (start ++ since)) (key : Key)
      → Reaches (start ++ since) session.has.base key
      → DoomedAt place cutoff start (start ++ since) key → ⊥
  pub leased : (other : ℕ)
      (session : IsOpenLeased draw tasks other start (start ++ since)) (key : Key)
      → PassedNone (walk_at place cutoff start (start ++ since)) (start ++ since) session.has.base
      → Reaches (start ++ since) session.has.base key
      → DoomedAt place cutoff start (start ++ since) key → ⊥
  pub puts : (other : ℕ) (access : Access) (key : Key) → OpensAt tasks other access
      → Precedes place cutoff other start since → HasPut (other + 1) key start (start ++ since)
      → DoomedAt place cutoff start (start ++ since) key → ⊥

-- ---- all of them
-- the collection of a task has listed all objects by now
pub record HasListed (tasks : List Task) (place cutoff : ℕ)
    (start journal : List Event) : Type 0 where
  pub collects : CollectsAt tasks place cutoff
  pub lists : (walk_at place cutoff start journal).lists ≡ 4

-- each such collection is safe
abbrev pub AllSafe : List Task → (start since : List Event) → Type 0
AllSafe tasks start since =
    (place cutoff : ℕ) → HasListed tasks place cutoff start (start ++ since)
    → IsSafe tasks place cutoff start since

-- the cutoff of each such collection precedes the session
abbrev pub AllPrecede : List Task → (other : ℕ) → (start since : List Event) → Type 0
AllPrecede tasks other start since =
    (place cutoff : ℕ) → HasListed tasks place cutoff start (start ++ since)
    → Precedes place cutoff other start since

-- What is needed, stands: each object that was put and that a branch or a tag reaches, or an open
-- session that is anchored or leased, and each that a session put which all cutoffs precede.
pub record NeededStands (draw : Draw) (tasks : List Task) (start since : List Event) : Type 0 where
  pub refs : (ref key : Key) → IsObject key → RefReaches (start ++ since) ref key
      → WasPut (start ++ since) key → Stands (start ++ since) key
  pub sessions : (other : ℕ)
      (session : IsOpenAnchored draw tasks other start (start ++ since)) (key : Key)
      → IsObject key → Reaches (start ++ since) session.has.base key → WasPut (start ++ since) key
      → Stands (start ++ since) key
  pub leased : (other : ℕ)
      (session : IsOpenLeased draw tasks other start (start ++ since)) (key : Key)
      → IsObject key → Reaches (start ++ since) session.has.base key → WasPut (start ++ since) key
      → Stands (start ++ since) key
  pub puts : (other : ℕ) (access : Access) (key : Key) → IsObject key → OpensAt tasks other access
      → AllPrecede tasks other start since → HasPut (other + 1) key start (start ++ since)
      → Stands (start ++ since) key

-- Of a run over a journal that was old, whose tasks began at start and ended with
-- these outcomes, nobody else acting.
pub record KeepsNeeded (draw : Draw) (tasks : List Task) (outcomes : List Outcome)
    (old start journal : List Event) : Type 0 where
  -- the tasks began in the run, behind the opening
  pub opening : List Event
  pub start_is : start ≡ old ++ opening
  pub added : List Event
  pub is : journal ≡ start ++ added
  -- whatever removes an object is a collection, which dooms it
  pub removes : (before rest : List Event) (event : Event) (key : Key)
      → journal ≡ (old ++ before) ++ event ∷ rest → IsObject key → Removes (old ++ before) event key
      → RemovesDoomed tasks start (old ++ before) event key
  -- a collection ends as it tells: it counts what it was told as removed; where it ended well,
  -- exactly what it dooms was removed, or was absent when it came to that; and where it was
  -- refused, its client's last operation has the cause
  pub told : (place cutoff : ℕ) (outcome : Outcome)
      → (c : CollectsAt tasks place cutoff) → slice_get outcomes place ≡ Some outcome
      → CollectedTells c.task.line cutoff (place + 1) start outcome journal
  -- once a collection has listed all objects, and as long as its cutoff precedes each session that
  -- commits beside it and it is quiet, it dooms nothing that is needed
  pub needed : (place cutoff : ℕ) (since rest : List Event) → added ≡ since ++ rest
      → HasListed tasks place cutoff start (start ++ since) → IsSafe tasks place cutoff start since
      → DoomsNothingNeeded draw tasks place cutoff start since
  -- and while that is so of all of them, what is needed stands; if nothing that a ref reaches was
  -- lost before the run, and refs leave alone what was
  pub stands : (since rest : List Event) → added ≡ since ++ rest → NoneMissing old
      → Each (LeavesLost old) old (opening ++ since) → AllSafe tasks start since
      → NeededStands draw tasks start since
  -- and so it is for the next run
  pub goes_on : NoneMissing old → Each (LeavesLost old) old (opening ++ added)
      → AllSafe tasks start added → NoneMissing journal
  -- over an empty store these two premises are free
  pub free : old ≡ [] → (since : List Event)
      → NoneMissing old × Each (LeavesLost old) old (opening ++ since)
