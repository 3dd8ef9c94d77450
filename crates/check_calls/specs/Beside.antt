-- A client's events, and what others did between them.
use Rattle.std.specs.Prelude.{◌≡◌, ℕ, true, List, [], ◌++◌, Some}
use Rattle.ice_ids.specs.declared.Id12.{Id12}
use Rattle.object_store.specs.declared.keys.Key.{Key}
use Rattle.object_store.specs.declared.keys.Key.TheVariants.{Snapshot}
use Rattle.object_store.specs.declared.keys.Why.{Why}
use Rattle.object_store.specs.declared.events.Version.{Version}
use Rattle.object_store.specs.declared.events.Op.TheVariants.{PutOver}
use Rattle.object_store.specs.declared.events.Event.{Event}
use Rattle.object_store.specs.Machine.{Stored, found, was_done}
use Rattle.store_api.specs.Journal.{Each, IsGood}
use Rattle.store_api.specs.Program.{events_of}
use Rattle.collecting.specs.Walks.{IsObject}
use Rattle.history_laws.specs.Refs.{Removes}

-- the event put over a snapshot that stood
pub record PutsOverSnapshot (before : List Event) (event : Event) (id : Id12) : Type 0 where
  pub bytes : List ℕ
  pub old : Version
  pub why : Why
  pub stored : Stored
  pub op_is : event.op ≡ PutOver (Snapshot id) bytes old why
  pub done : was_done event.reply ≡ true
  pub stands : found before (Snapshot id) ≡ Some stored
  pub version_is : stored.version ≡ old.0

-- the event removed no object, and put over no snapshot
pub record TakesNothing (before : List Event) (event : Event) : Type 0 where
  pub removes : (key : Key) → IsObject key → Removes before event key → ⊥
  pub puts_over : (id : Id12) → PutsOverSnapshot before event id → ⊥

-- the event is the client's
abbrev pub IsOf : ℕ → List Event → Event → Type 0
IsOf client before event = event.client ≡ client

-- All events of the client behind `start` stand between `first` and `last`, and there each event
-- is legal and polite, and such.
pub record IsBetween (P : List Event → Event → Type 0) (client : ℕ)
    (start first last journal : List Event) : Type 0 where
  pub early : List Event
  pub first_is : first ≡ start ++ early
  pub between : List Event
  pub last_is : last ≡ first ++ between
  pub late : List Event
  pub is : journal ≡ last ++ late
  pub none_early : events_of client early ≡ []
  pub none_late : events_of client late ≡ []
  pub good : Each IsGood first between
  pub each : Each P first between

-- nothing was removed there, and no snapshot put over
abbrev pub IsCalm : (client : ℕ) → (start first last journal : List Event) → Type 0
IsCalm client start first last journal = IsBetween TakesNothing client start first last journal

-- nobody else did anything there
abbrev pub IsStill : (client : ℕ) → (start first last journal : List Event) → Type 0
IsStill client start first last journal = IsBetween (IsOf client) client start first last journal
