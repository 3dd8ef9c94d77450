-- What a mirror did: its own operations on either store, with their replies, in their order.
use Rattle.std.specs.Prelude.{◌≡◌, ℕ, Bool, List, Contains, Some}
use Rattle.ice_ids.specs.declared.Id12.{Id12}
use Rattle.repo_objects.specs.Readings.{ref_of}
use Rattle.object_store.specs.declared.keys.Key.{Key}
use Rattle.object_store.specs.declared.keys.Why.{Why}
use Rattle.object_store.specs.declared.events.Version.{Version}
use Rattle.object_store.specs.declared.events.Op.{Op}
use Rattle.object_store.specs.declared.events.Op.TheVariants.{Get, PutNew}
use Rattle.object_store.specs.declared.events.Got.TheVariants.{Found, Absent}
use Rattle.object_store.specs.declared.events.New.TheVariants.{Done as New_done}
use Rattle.object_store.specs.declared.events.Reply.{Reply}
use Rattle.object_store.specs.declared.events.Reply.TheVariants.{Got, New, Failed}
use Rattle.two_stores.specs.declared.side.Side.{Side}
use Rattle.two_stores.specs.declared.side.Side.TheVariants.{To}

pub record Deed : Type 0 where
  pub side : Side
  pub op : Op
  pub reply : Reply

-- it made this operation, and was answered so
abbrev pub Did : List Deed → Side → Op → Reply → Type 0
Did deeds side op reply = Contains deeds (record { side = side; op = op; reply = reply })

-- a get was answered with these bytes
pub record HasGot (deeds : List Deed) (side : Side) (key : Key) (bytes : List ℕ) : Type 0 where
  pub version : Version
  pub now : ℕ
  pub did : Did deeds side (Get key) (Got (Found bytes version now))

-- a get was answered that nothing is there
pub record HasMissed (deeds : List Deed) (side : Side) (key : Key) : Type 0 where
  pub now : ℕ
  pub did : Did deeds side (Get key) (Got (Absent now))

-- a get of a ref was answered with a reference to this snapshot, at this version
pub record HasRef (deeds : List Deed) (side : Side) (key : Key) (version : Version)
    (id : Id12) : Type 0 where
  pub bytes : List ℕ
  pub now : ℕ
  pub did : Did deeds side (Get key) (Got (Found bytes version now))
  pub names : ref_of bytes ≡ Some id

-- a put of these bytes in the target was answered as done
pub record HasPut (deeds : List Deed) (key : Key) (bytes : List ℕ) : Type 0 where
  pub why : Why
  pub version : Version
  pub now : ℕ
  pub did : Did deeds To (PutNew key bytes why) (New (New_done version now))

-- an operation on this side failed
pub record HasFailed (deeds : List Deed) (side : Side) : Type 0 where
  pub op : Op
  pub done : Bool
  pub did : Did deeds side op (Failed done)
