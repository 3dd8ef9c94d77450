-- Safe collection as laws over journals. (Own.)
use Rattle.std.specs.Prelude.{◌≡◌, ◌≢◌, ◌↔◌, ◌⊎◌, ℕ, ◌≤◌, List, [], ◌∷◌, ◌++◌}
use Rattle.std.specs.Prelude.{length, Contains, Some, None}
use Rattle.ice_ids.specs.declared.Id12.{Id12}
use Rattle.ice_ids.specs.Text.{initial_id}
use Rattle.object_store.specs.declared.keys.Key.{Key}
use Rattle.object_store.specs.declared.keys.Key.TheVariants.{Snapshot, Txn}
use Rattle.object_store.specs.declared.events.Event.{Event}
use Rattle.object_store.specs.Machine.{Stored, found}
use Rattle.store_api.specs.Journal.{Each, IsGood, IsGoodJournal, IsMadeOver, IsOnce, WasPut}
use Rattle.reach.specs.Holding.{Reaches}
use Rattle.reach.specs.Own.{HasPut}
use Rattle.collecting.specs.Walks.{IsAbsent, IsObject, Walk}
use Rattle.collecting.specs.Runs.{walk_of, OwesCollecting}
use Rattle.history_laws.specs.Refs.{RefReaches, IsAnchored, IsLeased, Commits}
use Rattle.history_laws.specs.Collections.{Collection, walk_at, DoomedBy, OwesUntil}
use Rattle.history_laws.specs.Collections.{HasBegun, IsPreceded, IsListed}
use Rattle.history_laws.specs.Collections.{IsCollected, NoneMissing, AreCollected}

-- ---- beside one collection
-- no ref reaches what a collection dooms
abbrev pub RefsKept : Type 0
RefsKept =
    (c : Collection) (journal later : List Event) → IsCollected c journal later → (ref key : Key)
    → RefReaches journal ref key → DoomedBy c (journal ++ later) key → ⊥

-- once all is listed, what it dooms stays the same
abbrev pub DoomsStay : Type 0
DoomsStay =
    (c : Collection) (journal later : List Event) → IsListed c journal later → (key : Key)
    → DoomedBy c (journal ++ later) key ↔ DoomedBy c journal key

-- nor does a base that a ref reaches reach it
abbrev pub BasesKept : Type 0
BasesKept =
    (c : Collection) (journal later : List Event) → IsCollected c journal later
    → (ref : Key) (base : Id12) (key : Key) → RefReaches journal ref (Snapshot base)
    → Reaches journal base key → DoomedBy c (journal ++ later) key → ⊥

-- nor is doomed what a session put that the cutoff precedes
abbrev pub PutsKept : Type 0
PutsKept =
    (c : Collection) (journal later : List Event) → IsListed c journal later
    → (client : ℕ) (from : List Event) (key : Key) → IsPreceded c client from journal
    → HasPut client key from journal → DoomedBy c (journal ++ later) key → ⊥

-- what a collection found absent it passed over, and the base reaches nothing of that,
-- but maybe the initial snapshot
abbrev pub PassedNone : Walk → List Event → (base : Id12) → Type 0
PassedNone walk journal base =
    (key : Key) → IsAbsent walk key → key ≢ Snapshot initial_id → Reaches journal base key → ⊥

-- nor does the base of a leased session reach what is doomed, where the collection passed
-- over nothing that the base reaches
abbrev pub LeasesKept : Type 0
LeasesKept =
    (c : Collection) (journal later : List Event) → IsCollected c journal later
    → (lease base : Id12) (since : List Event) (key : Key) → IsLeased lease base since journal
    → PassedNone (walk_at c journal) journal base → Reaches journal base key
    → DoomedBy c (journal ++ later) key → ⊥

-- a ref reaches the base of an anchored session
abbrev pub AnchoredReached : Type 0
AnchoredReached =
    (ref : Key) (base : Id12) (since journal : List Event) → IsAnchored ref base since journal
    → RefReaches journal ref (Snapshot base)

-- ---- beside several
-- something stands at the key
abbrev pub Stands : List Event → Key → Type 0
Stands journal key = (s : Stored) × (found journal key ≡ Some s)

-- each object that a ref reaches and that was put stands
abbrev pub ReachedFound : Type 0
ReachedFound =
    (collections : List Collection) (old journal : List Event)
    → AreCollected collections old journal → (ref key : Key) → IsObject key
    → RefReaches journal ref key → WasPut journal key → Stands journal key

-- and each that a base reaches which a ref reaches
abbrev pub BasesFound : Type 0
BasesFound =
    (collections : List Collection) (old journal : List Event)
    → AreCollected collections old journal → (ref : Key) (base : Id12) (key : Key) → IsObject key
    → RefReaches journal ref (Snapshot base) → Reaches journal base key → WasPut journal key
    → Stands journal key

-- and each that the base of a leased session reaches
abbrev pub LeasesFound : Type 0
LeasesFound =
    (collections : List Collection) (old since journal : List Event)
    → AreCollected collections old journal → (lease base : Id12) (key : Key) → IsObject key
    → IsLeased lease base (old ++ since) journal → Reaches journal base key → WasPut journal key
    → Stands journal key

-- and each that a session put which each cutoff precedes
abbrev pub OwnFound : Type 0
OwnFound =
    (collections : List Collection) (old since journal : List Event)
    → AreCollected collections old journal → (client : ℕ) (key : Key) → IsObject key
    → HasPut client key (old ++ since) journal
    → ((c : Collection) → Contains collections c → (walk_at c journal).lists ≡ 4
    → IsPreceded c client (old ++ since) journal)
    → Stands journal key

-- each object that a ref reaches was put, but for the initial snapshot and its log
abbrev pub ReachedPut : Type 0
ReachedPut =
    (journal : List Event) → IsGoodJournal journal
    → IsOnce journal → (ref key : Key) → RefReaches journal ref key
    → ((key ≡ Snapshot initial_id) ⊎ (key ≡ Txn initial_id)) ⊎ WasPut journal key

-- and at the end no ref reaches an object that was lost, nor does the initial
-- snapshot: so the journal may go on
abbrev pub NoneMissed : Type 0
NoneMissed =
    (collections : List Collection) (old journal : List Event)
    → AreCollected collections old journal → NoneMissing journal

-- where nothing was done, nothing is missing
abbrev pub NothingMissing : Type 0
NothingMissing = NoneMissing []

-- ---- what is given of collections and sessions
-- the collection of a client that does nothing else behind `start`, as far as the journal goes
abbrev pub collection_of : (cutoff client : ℕ) → (start journal : List Event) → Collection
collection_of cutoff client start journal = record {
  cutoff = cutoff;
  client = client;
  start = start;
  stop = length journal;
}

-- Where each event of a client is one that its collection may make, so it is for that collection,
-- and at each moment it was told the same.
pub record ClientCollects : Type 0 where
  pub owes : (cutoff client : ℕ) (start more : List Event)
      → Each (OwesCollecting cutoff client start) start more
      → Each (OwesUntil (collection_of cutoff client start (start ++ more))) start more
  pub walk : (cutoff client : ℕ) (start journal later : List Event)
      → walk_at (collection_of cutoff client start (journal ++ later)) journal
      ≡ walk_of cutoff client start journal

-- the event isn't the client's
abbrev pub IsNotOf : ℕ → List Event → Event → Type 0
IsNotOf client before event = event.client ≢ client

-- the cutoff precedes a session whose first event isn't earlier
abbrev pub FirstPreceded : Type 0
FirstPreceded =
    (c : Collection) (client : ℕ) (from before : List Event) (event : Event) (after : List Event)
    → IsGoodJournal ((from ++ before) ++ event ∷ after) → Each (IsNotOf client) from before
    → c.cutoff ≤ event.time → IsPreceded c client from ((from ++ before) ++ event ∷ after)

-- no event behind the first one of a collection that has listed all is earlier than its cutoff
abbrev pub BegunIsLate : Type 0
BegunIsLate =
    (c : Collection) (journal later : List Event) → IsListed c journal later
    → (before : List Event) (event : Event) (after : List Event) → journal ≡ before ++ event ∷ after
    → HasBegun c before → c.cutoff ≤ event.time

-- the snapshot of a commit first named as its parent the one that the branch named
abbrev pub CommitsChild : Type 0
CommitsChild =
    (before : List Event) (event : Event) (base id : Id12) → IsOnce before → IsGood before event
    → Commits before event base id → IsMadeOver before base id

-- ---- that the premises can be met
-- A journal in which a collection took what it doomed, while a ref reaches a snapshot: all
-- premises of the laws hold of it.
pub record TookOne : Type 0 where
  pub collection : Collection
  pub journal : List Event
  pub ref : Key
  pub base : Id12
  pub key : Key
  pub collected : IsCollected collection journal []
  pub shared : AreCollected (collection ∷ []) [] journal
  pub reached : RefReaches journal ref (Snapshot base)
  pub stands : Stands journal (Snapshot base)
  pub doomed : DoomedBy collection journal key
  pub put : WasPut journal key
  pub gone : found journal key ≡ None
