-- What own gets and puts of what is new are answered.
use Rattle.std.proofs.Common.{◌≡◌, ℕ, Bool, List, refl, sym, ap}
use Rattle.std.specs.Prelude.{Option, Some, None}
use Rattle.object_store.specs.declared.keys.Key.{Key}
use Rattle.object_store.specs.declared.keys.Why.{Why}
use Rattle.object_store.specs.declared.events.Version.{Version}
use Rattle.object_store.specs.declared.events.Op.TheVariants.{Get, PutNew}
use Rattle.object_store.specs.declared.events.New.TheVariants.{Done as New_done, Present}
use Rattle.object_store.specs.declared.events.Got.TheVariants.{Found, Absent}
use Rattle.object_store.specs.declared.events.Reply.{Reply}
use Rattle.object_store.specs.declared.events.Reply.TheVariants.{Got, New, Over, Gone, GoneAt, Listed, Failed}
use Rattle.object_store.specs.declared.events.Event.{Event}
use Rattle.object_store.specs.Machine.{Stored, version_at, got_of, new_of}
use Rattle.store_api.specs.Callers.{Caller, Makes}

-- ---- by kind: a reply of another kind is none of an honest store's
module _ (by : Caller) (old new : List Event) (P : Reply → Type 0) where
  pub got-cases : (key : Key)
      → ((bytes : List ℕ) (version : Version) (now : ℕ) → Makes by (Get key) (Got (Found bytes version now)) old new → P (Got (Found bytes version now)))
      → ((now : ℕ) → Makes by (Get key) (Got (Absent now)) old new → P (Got (Absent now)))
      → ((done : Bool) → Makes by (Get key) (Failed done) old new → P (Failed done))
      → (reply : Reply) → Makes by (Get key) reply old new → P reply
  got-cases key found absent failed (Got (Found bytes version now)) m = found bytes version now m
  got-cases key found absent failed (Got (Absent now)) m = absent now m
  got-cases key found absent failed (Failed done) m = failed done m
  got-cases key found absent failed (New x) m = let e = m.answered.answered in absurd (cc)
  got-cases key found absent failed (Over x) m = let e = m.answered.answered in absurd (cc)
  got-cases key found absent failed (Gone x) m = let e = m.answered.answered in absurd (cc)
  got-cases key found absent failed (GoneAt x) m = let e = m.answered.answered in absurd (cc)
  got-cases key found absent failed (Listed x) m = let e = m.answered.answered in absurd (cc)

  pub new-cases : (key : Key) (bytes : List ℕ) (why : Why)
      → ((version : Version) (now : ℕ) → Makes by (PutNew key bytes why) (New (New_done version now)) old new → P (New (New_done version now)))
      → ((version : Version) (now : ℕ) → Makes by (PutNew key bytes why) (New (Present version now)) old new → P (New (Present version now)))
      → ((done : Bool) → Makes by (PutNew key bytes why) (Failed done) old new → P (Failed done))
      → (reply : Reply) → Makes by (PutNew key bytes why) reply old new → P reply
  new-cases key bytes why did present failed (New (New_done version now)) m = did version now m
  new-cases key bytes why did present failed (New (Present version now)) m = present version now m
  new-cases key bytes why did present failed (Failed done) m = failed done m
  new-cases key bytes why did present failed (Got x) m = let e = m.answered.answered in absurd (cc)
  new-cases key bytes why did present failed (Over x) m = let e = m.answered.answered in absurd (cc)
  new-cases key bytes why did present failed (Gone x) m = let e = m.answered.answered in absurd (cc)
  new-cases key bytes why did present failed (GoneAt x) m = let e = m.answered.answered in absurd (cc)
  new-cases key bytes why did present failed (Listed x) m = let e = m.answered.answered in absurd (cc)

-- ---- what a put of what is new says of what stood
pub new-done : (n time : ℕ) (at : Option Stored) (version : Version) (now : ℕ) → New (New_done version now) ≡ New (new_of n time at) → (at ≡ None) × (version ≡ version_at n)
new-done n time None version now e = (refl, cc)
new-done n time (Some s) version now e = absurd (cc)

-- ---- what a get says of what stands
-- this stands
pub record Holds (at : Option Stored) (bytes : List ℕ) (version : Version) : Type 0 where
  pub stored : Stored
  pub stands : at ≡ Some stored
  pub bytes_are : stored.bytes ≡ bytes
  pub version_is : stored.version ≡ version.0

pub got-holds : (at : Option Stored) (bytes : List ℕ) (version : Version) (now time : ℕ) → Got (Found bytes version now) ≡ Got (got_of time at) → Holds at bytes version
got-holds None bytes version now time e = absurd (cc)
got-holds (Some s) bytes version now time e = let v : version ≡ version_at s.version = cc in record { stored = s; stands = refl; bytes_are = cc; version_is = ap (λ (x : Version). x.0) (sym v) }

pub got-absent : (at : Option Stored) (now time : ℕ) → Got (Absent now) ≡ Got (got_of time at) → at ≡ None
got-absent None now time e = refl
got-absent (Some s) now time e = absurd (cc)
