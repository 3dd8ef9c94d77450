-- What stands after one more event is seen from what stood alone.
use Rattle.std.proofs.Common.{◌≡◌, ℕ, Bool, true, false, cond, [], refl, ap}
use Rattle.std.specs.Prelude.{Option, Some, None, option_map, ◌==◌}
use Rattle.object_store.specs.declared.keys.Key.{Key}
use Rattle.object_store.specs.declared.events.Op.{Op}
use Rattle.object_store.specs.declared.events.Op.TheVariants.{Get, PutNew, PutOver, Remove, RemoveAt, List as ListPart}
use Rattle.object_store.specs.declared.events.Event.{Event}
use Rattle.object_store.specs.Machine.{Stored, Slot, is_on, was_done, where_free, where_old, leaves, effect, found, got_of}
use Rattle.object_store.proofs.Slots.{slot-none}
use Rattle.mem_store.specs.Standing.{slot_with, copy_of, got_from}

free-stands : (o : Option Stored) (a b s t : Slot) → a.stands ≡ b.stands → s.stands ≡ t.stands → (where_free o a s).stands ≡ (where_free o b t).stands
free-stands None a b s t e f = e
free-stands (Some x) a b s t e f = f

cond-stands : (c : Bool) (a b s t : Slot) → a.stands ≡ b.stands → s.stands ≡ t.stands → (cond c a s).stands ≡ (cond c b t).stands
cond-stands true a b s t e f = e
cond-stands false a b s t e f = f

old-stands : (old : ℕ) (o : Option Stored) (a b s t : Slot) → a.stands ≡ b.stands → s.stands ≡ t.stands → (where_old old o a s).stands ≡ (where_old old o b t).stands
old-stands old None a b s t e f = f
old-stands old (Some x) a b s t e f = cond-stands (x.version == old) a b s t e f

leaves-stands : (n time : ℕ) (op : Op) (slot : Slot) → (leaves n time op slot).stands ≡ (leaves n time op (slot_with slot.stands)).stands
leaves-stands n time (Get key) slot = refl
leaves-stands n time (PutNew key bytes why) slot = free-stands slot.stands _ _ slot (slot_with slot.stands) refl refl
leaves-stands n time (PutOver key bytes old why) slot = old-stands old.0 slot.stands _ _ slot (slot_with slot.stands) refl refl
leaves-stands n time (Remove key why) slot = refl
leaves-stands n time (RemoveAt key old why) slot = old-stands old.0 slot.stands _ _ slot (slot_with slot.stands) refl refl
leaves-stands n time (ListPart part) slot = refl

pub effect-stands : (key : Key) (n : ℕ) (slot : Slot) (event : Event) → (effect key n slot event).stands ≡ (effect key n (slot_with slot.stands) event).stands
unfolding effect
effect-stands key n slot event =
    cond-stands (is_on key event.op) _ _ slot (slot_with slot.stands)
    (cond-stands (was_done event.reply) _ _ slot (slot_with slot.stands) (leaves-stands n event.time event.op slot) refl)
    refl

pub found-none : (key : Key) → found [] key ≡ None
found-none key = ap (λ (s : Slot). s.stands) (slot-none key)

-- a copy of what stands is what a get answers
pub got_from-copy : (now : ℕ) (o : Option Stored) → got_from now (option_map copy_of o) ≡ got_of now o
got_from-copy now None = refl
got_from-copy now (Some s) = refl
