-- What a client's own gets and puts tell of the store.
use Rattle.std.proofs.Common.{◌≡◌, ℕ, ◌<◌, ◌^◌, true, List, [], ◌∷◌, ◌++◌, length, refl, sym, ◌∙◌, ap, subst}
use Rattle.std.specs.Prelude.{Option, Some, None}
use Rattle.std.specs.Option.{option_or}
use Rattle.object_store.specs.declared.keys.Key.{Key}
use Rattle.object_store.specs.declared.keys.Why.{Why}
use Rattle.object_store.specs.declared.events.Version.{Version}
use Rattle.object_store.specs.declared.events.Op.{Op}
use Rattle.object_store.specs.declared.events.Op.TheVariants.{Get, PutNew}
use Rattle.object_store.specs.declared.events.Got.{Got}
use Rattle.object_store.specs.declared.events.Got.TheVariants.{Found}
use Rattle.object_store.specs.declared.events.New.{New}
use Rattle.object_store.specs.declared.events.New.TheVariants.{Done as New_done}
use Rattle.object_store.specs.declared.events.Reply.{Reply}
use Rattle.object_store.specs.declared.events.Reply.TheVariants.{Got as Is_got, New as Is_new}
use Rattle.object_store.specs.declared.events.Event.{Event}
use Rattle.object_store.specs.Machine.{Stored, Slot, slot_of, found, first_put, last_put, got_of, new_of, effect, put_at, was_done, version_at}
use Rattle.store_api.specs.Journal.{Each, WasPut, StoodAt, IsFirst, IsFirstOp, IsOnce, IsGood, IsPolite}
use Rattle.store_api.specs.Callers.{Caller, Makes, own_event}
use Rattle.object_store.proofs.Journals.{Each-at}
use Rattle.object_store.proofs.Slots.{same_key-refl, slot-append_one, sound, found-stood}
use Rattle.store_api.proofs.Programs.{Grows-makes}

-- ---- a get
-- what was got stands, and stood at its version
pub record Had (journal : List Event) (key : Key) (bytes : List ℕ) (version : ℕ) : Type 0 where
  pub stood : StoodAt journal key version bytes
  pub put : WasPut journal key
  pub last : last_put journal key ≡ Some bytes

-- what a found answer says of what stands
pub record IsStored (at : Option Stored) (bytes : List ℕ) (version : Version) : Type 0 where
  pub stored : Stored
  pub stands : at ≡ Some stored
  pub bytes_are : stored.bytes ≡ bytes
  pub version_is : stored.version ≡ version.0

got-found : (at : Option Stored) (bytes : List ℕ) (version : Version) (now time : ℕ) → Found bytes version now ≡ got_of time at → IsStored at bytes version
got-found None bytes version now time e = cc
got-found (Some s) bytes version now time e = let v : version ≡ version_at s.version = cc in record { stored = s; stands = refl; bytes_are = cc; version_is = ap (λ (x : Version). x.0) (sym v) }

got-same : (g h : Got) → Is_got g ≡ Is_got h → g ≡ h
got-same g h e = cc

get-kept : (by : Caller) (key : Key) (n time : ℕ) (reply : Reply) (slot : Slot) → was_done reply ≡ true → effect key n slot (own_event by (Get key) reply time) ≡ slot
unfolding effect
get-kept by key n time reply slot d = rw (same_key-refl key, d) refl

pub get-had : (by : Caller) (key : Key) (bytes : List ℕ) (version : Version) (now : ℕ) (old new : List Event) → Makes by (Get key) (Is_got (Found bytes version now)) old new → Had new key bytes version.0
get-had by key bytes version now old new m =
    let event : Event = own_event by (Get key) (Is_got (Found bytes version now)) m.time in
    let at = got-found (found m.middle key) bytes version now m.time (got-same _ _ m.answered.answered) in
    let same : slot_of (m.middle ++ event ∷ []) key ≡ slot_of m.middle key = slot-append_one m.middle event key ∙ get-kept by key (length m.middle) m.time (Is_got (Found bytes version now)) (slot_of m.middle key) refl in
    let here : found new key ≡ Some at.stored = ap (λ (h : List Event). found h key) m.is ∙ ap (λ (s : Slot). s.stands) same ∙ at.stands in
    let s = sound new key in
    record {
      stood = subst (λ (v : ℕ). StoodAt new key v bytes) at.version_is (subst (λ (b : List ℕ). StoodAt new key at.stored.version b) at.bytes_are (found-stood new key at.stored here));
      put = s.first at.stored here;
      last = s.last at.stored here ∙ ap (λ (b : List ℕ). Some b) at.bytes_are;
    }

-- ---- a done put of a free key
pub record DidPut (journal : List Event) (key : Key) (bytes : List ℕ) : Type 0 where
  pub put : WasPut journal key
  pub version : ℕ
  pub stood : StoodAt journal key version bytes
  pub last : last_put journal key ≡ Some bytes
  pub first : IsOnce journal → first_put journal key ≡ Some bytes

new-free : (n time : ℕ) (v : Version) (now : ℕ) (at : Option Stored) → New_done v now ≡ new_of n time at → (at ≡ None) × (now ≡ time)
new-free n time v now None e = (refl, cc)
new-free n time v now (Some s) e = cc

new-same : (g h : New) → Is_new g ≡ Is_new h → g ≡ h
new-same g h e = cc

put-done : (by : Caller) (key : Key) (bytes : List ℕ) (why : Why) (v : Version) (now n time : ℕ) (slot : Slot) → slot.stands ≡ None → effect key n slot (own_event by (PutNew key bytes why) (Is_new (New_done v now)) time) ≡ put_at n time bytes slot
unfolding effect
put-done by key bytes why v now n time slot free = rw (same_key-refl key, free) refl

-- the time that a done put tells is a time
pub put-time : (by : Caller) (key : Key) (bytes : List ℕ) (why : Why) (v : Version) (now : ℕ) (old new : List Event) → Makes by (PutNew key bytes why) (Is_new (New_done v now)) old new → now < 2 ^ 64
put-time by key bytes why v now old new m =
    let same : now ≡ m.time = (new-free (length m.middle) m.time v now (found m.middle key) (new-same _ _ m.answered.answered)).1 in
    subst (λ (t : ℕ). t < 2 ^ 64) (sym same) m.answered.fits

pub put-did : (by : Caller) (key : Key) (bytes : List ℕ) (why : Why) (v : Version) (now : ℕ) (old new : List Event) → ((journal : List Event) → IsFirstOp journal (PutNew key bytes why) → found journal key ≡ None → first_put journal key ≡ None) → Makes by (PutNew key bytes why) (Is_new (New_done v now)) old new → DidPut new key bytes
put-did by key bytes why v now old new first m =
    let event : Event = own_event by (PutNew key bytes why) (Is_new (New_done v now)) m.time in
    let free : found m.middle key ≡ None = (new-free (length m.middle) m.time v now (found m.middle key) (new-same _ _ m.answered.answered)).0 in
    let slot : slot_of new key ≡ put_at (length m.middle) m.time bytes (slot_of m.middle key) = ap (λ (h : List Event). slot_of h key) m.is ∙ slot-append_one m.middle event key ∙ put-done by key bytes why v now (length m.middle) m.time (slot_of m.middle key) free in
    let first_is : first_put new key ≡ option_or (first_put m.middle key) (Some bytes) = ap (λ (s : Slot). s.first) slot in
    record {
      put = some-or (first_put m.middle key) first_is;
      version = length m.middle;
      stood = found-stood new key (record { bytes = bytes; version = length m.middle; created = m.time }) (ap (λ (s : Slot). s.stands) slot);
      last = ap (λ (s : Slot). s.last) slot;
      first = λ once.
          let once' : IsOnce (m.middle ++ event ∷ []) = subst (λ (h : List Event). IsOnce h) m.is once in
          first_is ∙ ap (λ (o : Option (List ℕ)). option_or o (Some bytes)) (first m.middle (Each-at IsFirst [] m.middle event [] once' refl) free);
    }
  where
    some-or : (o : Option (List ℕ)) → first_put new key ≡ option_or o (Some bytes) → WasPut new key
    some-or None e = (bytes, e)
    some-or (Some b) e = (b, e)

-- what an own polite event keeps
pub makes-keeps : (P : List Event → Type 0) → ((journal more : List Event) → Each IsGood journal more → P journal → P (journal ++ more)) → (by : Caller) (op : Op) (reply : Reply) (old new : List Event) → IsPolite old op → Makes by op reply old new → P old → P new
makes-keeps P stable by op reply old new polite m p =
    let g = Grows-makes by op reply old new polite m in
    subst (λ (h : List Event). P h) (sym g.is) (stable old g.more g.good p)
