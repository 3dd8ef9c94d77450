-- The index after one more event of the journal.
use Rattle.std.proofs.Common.{◌≡◌, ℕ, ◌<◌, Bool, true, false, cond, List, [], ◌∷◌, ◌++◌, length, refl, sym, ◌∙◌, ap, arith}
use Rattle.std.specs.Prelude.{Option, Some, None, option_map, slice_get, ◌==◌}
use Rattle.object_store.specs.declared.keys.Key.{Key}
use Rattle.object_store.specs.declared.events.Op.{Op}
use Rattle.object_store.specs.declared.events.Op.TheVariants.{Get, PutNew, PutOver, Remove, RemoveAt, List as ListPart}
use Rattle.object_store.specs.declared.events.Event.{Event}
use Rattle.object_store.specs.Machine.{Stored, Slot, is_on, was_done, leaves, effect, slot_of, found}
use Rattle.object_store.proofs.Slots.{slot-append_one, sound}
use Rattle.mem_store.specs.declared.kept_events.Answer.{Answer}
use Rattle.mem_store.specs.declared.kept_events.Answer.TheVariants.{Stood, Listed, Failed}
use Rattle.mem_store.specs.Standing.{slot_with}
use Rattle.mem_store.specs.Places.{place_left, place_after}
use Rattle.mem_store.specs.KeptEvents.{bytes_put, put_by, put_in, puts_in, reply_in, is_done}
use Rattle.mem_store.proofs.StandingLemmas.{effect-stands}
use Rattle.mem_store.proofs.Told.{get-before, get-seam}

pub put-version : (place : ℕ) (o : Option Event) → (put_by place o).version ≡ place
put-version place None = refl
put-version place (Some event) = refl

-- where the version stands, the new place comes in, and else the old one stays
at-version : (v w : ℕ) → w ≡ v → (was : ℕ) (new : ℕ → Stored) (at left : Option ℕ) (s t : Slot) → option_map new at ≡ s.stands → option_map new left ≡ t.stands → option_map new (cond (v == was) left at) ≡ (cond (w == was) t s).stands
at-version v w same was new at left s t e f = ap (λ (k : ℕ). option_map new (cond (k == was) left at)) (sym same) ∙ choose (w == was)
  where
    choose : (b : Bool) → option_map new (cond b left at) ≡ (cond b t s).stands
    choose true = f
    choose false = e

left-stands : (n time : ℕ) (op : Op) (old new : ℕ → Stored) → ((v : ℕ) → (old v).version ≡ v) → new n ≡ record { bytes = bytes_put op; version = n; created = time } → (at : Option ℕ) → option_map new at ≡ option_map old at → option_map new (place_left n op at) ≡ (leaves n time op (slot_with (option_map old at))).stands
left-stands n time (Get key) old new version here at same = same
left-stands n time (PutNew key bytes why) old new version here None same = ap (λ (s : Stored). Some s) here
left-stands n time (PutNew key bytes why) old new version here (Some v) same = same
left-stands n time (PutOver key bytes was why) old new version here None same = refl
left-stands n time (PutOver key bytes was why) old new version here (Some v) same =
    at-version v (old v).version (version v) was.0 new (Some v) (Some n) (slot_with (Some (old v))) _ same (ap (λ (s : Stored). Some s) here)
left-stands n time (Remove key why) old new version here at same = refl
left-stands n time (RemoveAt key was why) old new version here None same = refl
left-stands n time (RemoveAt key was why) old new version here (Some v) same =
    at-version v (old v).version (version v) was.0 new (Some v) None (slot_with (Some (old v))) _ same refl
left-stands n time (ListPart part) old new version here at same = same

-- a put that stood is where it was
stays-put : (journal : List Event) (event : Event) (key : Key) (at : Option ℕ) → puts_in journal at ≡ found journal key → puts_in (journal ++ event ∷ []) at ≡ puts_in journal at
stays-put journal event key None e = refl
stays-put journal event key (Some v) e =
    let below : (put_in journal v).version < length journal = (sound journal key).below (put_in journal v) (sym e) in
    let within : v < length journal = omega (arith, below, put-version v (slice_get journal v)) in
    ap (λ (o : Option Event). Some (put_by v o)) (get-before journal (event ∷ []) v within)

choose-stands : (a b : Bool) (new : ℕ → Stored) (at left : Option ℕ) (s t : Slot) → option_map new at ≡ s.stands → option_map new left ≡ t.stands → option_map new (cond a (cond b left at) at) ≡ (cond a (cond b t s) s).stands
choose-stands true true new at left s t e f = f
choose-stands true false new at left s t e f = e
choose-stands false b new at left s t e f = e

-- the put that stands at a key after one more event
pub indexed-more : (journal : List Event) (event : Event) (key : Key) (at : Option ℕ) → puts_in journal at ≡ found journal key → puts_in (journal ++ event ∷ []) (place_after (length journal) event.op (was_done event.reply) key at) ≡ found (journal ++ event ∷ []) key
unfolding effect
indexed-more journal event key at e =
    let n : ℕ = length journal in
    let new : ℕ → Stored = put_in (journal ++ event ∷ []) in
    let same : option_map new at ≡ puts_in journal at = stays-put journal event key at e in
    let here : new n ≡ record { bytes = bytes_put event.op; version = n; created = event.time } = ap (put_by n) (get-seam journal event []) in
    let left : option_map new (place_left n event.op at) ≡ (leaves n event.time event.op (slot_with (puts_in journal at))).stands = left-stands n event.time event.op (put_in journal) new (λ v. put-version v (slice_get journal v)) here at same in
    choose-stands (is_on key event.op) (was_done event.reply) new at (place_left n event.op at) (slot_with (puts_in journal at)) (leaves n event.time event.op (slot_with (puts_in journal at))) same left
    ∙ (ap (λ (o : Option Stored). (effect key n (slot_with o) event).stands) e
    ∙ (sym (effect-stands key n (slot_of journal key) event)
    ∙ ap (λ (s : Slot). s.stands) (sym (slot-append_one journal event key))))

-- an answer is of an operation that took effect where its reply is
pub done-reply : (journal : List Event) (now : ℕ) (op : Op) (answer : Answer) → was_done (reply_in journal now op answer) ≡ is_done answer
done-reply journal now (Get key) (Stood at) = refl
done-reply journal now (PutNew key bytes why) (Stood at) = refl
done-reply journal now (PutOver key bytes old why) (Stood at) = refl
done-reply journal now (Remove key why) (Stood at) = refl
done-reply journal now (RemoveAt key old why) (Stood at) = refl
done-reply journal now (ListPart part) (Stood at) = refl
done-reply journal now op (Listed entries) = refl
done-reply journal now op (Failed done) = refl
