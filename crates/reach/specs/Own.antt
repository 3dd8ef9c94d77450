-- What a client puts itself, and snapshots that hold nothing else but what their bases hold. (Own.)
use Rattle.std.specs.Prelude.{◌≡◌, ◌⊎◌, ℕ, true, List, ◌∷◌, ◌++◌, None}
use Rattle.ice_ids.specs.declared.Id12.{Id12}
use Rattle.object_store.specs.declared.keys.Key.{Key}
use Rattle.object_store.specs.declared.keys.Why.{Why}
use Rattle.object_store.specs.declared.keys.Why.TheVariants.{Set}
use Rattle.object_store.specs.declared.events.Version.{Version}
use Rattle.object_store.specs.declared.events.Op.TheVariants.{PutNew}
use Rattle.object_store.specs.declared.events.New.TheVariants.{Done as New_done}
use Rattle.object_store.specs.declared.events.Reply.TheVariants.{New as Is_new}
use Rattle.object_store.specs.declared.events.Event.{Event}
use Rattle.object_store.specs.Machine.{found, was_done}
use Rattle.store_api.specs.Journal.{IsGoodJournal}
use Rattle.store_api.specs.Telling.{HasOwn}
use Rattle.reach.specs.Holding.{Holds}

-- ---- own puts
-- the client's own put of these bytes at the key was done, and told so
pub record PutsItself (client : ℕ) (key : Key) (bytes : List ℕ)
    (start journal : List Event) : Type 0 where
  pub version : Version
  pub now : ℕ
  pub own : HasOwn client (PutNew key bytes Set) (Is_new (New_done version now)) start journal

-- the client itself put what is at the key
pub record PutItself (client : ℕ) (key : Key) (start journal : List Event) : Type 0 where
  pub bytes : List ℕ
  pub put : PutsItself client key bytes start journal

-- A put of the client, behind `start`, was done where nothing stood at the key,
-- also where its answer was lost.
pub record HasPut (client : ℕ) (key : Key) (start journal : List Event) : Type 0 where
  pub before : List Event
  pub since : List Event
  pub before_is : before ≡ start ++ since
  pub event : Event
  pub after : List Event
  pub is : journal ≡ before ++ event ∷ after
  pub client_is : event.client ≡ client
  pub bytes : List ℕ
  pub why : Why
  pub op_is : event.op ≡ PutNew key bytes why
  pub done : was_done event.reply ≡ true
  pub free : found before key ≡ None

-- ---- own snapshots
-- whatever the snapshot holds, its base holds, or it was put so
abbrev pub HoldsBesides : (Key → Type 0) → (base id : Id12) → List Event → Type 0
HoldsBesides put base id journal =
    (key : Key) → Holds journal id key → Holds journal base key ⊎ put key

-- whatever the snapshot holds, its base holds, or the client put it itself
abbrev pub IsOwn : ℕ → (base id : Id12) → List Event → List Event → Type 0
IsOwn client base id start journal =
    HoldsBesides (λ (key : Key). PutItself client key start journal) base id journal

-- ---- what a client put itself was put
-- In a legal polite journal what a client put itself was put where nothing stood; so where a
-- snapshot is its own, whatever it holds, the base holds, or such a put of the client put it.
pub record OwnLaw : Type 0 where
  pub puts : (client : ℕ) (key : Key) (start journal : List Event) → IsGoodJournal journal
      → PutItself client key start journal → HasPut client key start journal
  pub snapshots : (client : ℕ) (base id : Id12) (start journal : List Event)
      → IsGoodJournal journal → IsOwn client base id start journal
      → HoldsBesides (λ (key : Key). HasPut client key start journal) base id journal
