-- What own puts and removals are answered.
use Rattle.std.proofs.Common.{◌≡◌, ℕ, Bool, List, [], ◌∷◌, ◌++◌, length, refl, ◌∙◌, ap}
use Rattle.std.specs.Prelude.{None}
use Rattle.object_store.specs.declared.keys.Key.{Key}
use Rattle.object_store.specs.declared.keys.Why.{Why}
use Rattle.object_store.specs.declared.events.Gone.{Gone}
use Rattle.object_store.specs.declared.events.Op.TheVariants.{Remove}
use Rattle.object_store.specs.declared.events.Reply.{Reply}
use Rattle.object_store.specs.declared.events.Reply.TheVariants.{Got, New, Over, Gone as Is_gone, GoneAt, Listed, Failed}
use Rattle.object_store.specs.declared.events.Event.{Event}
use Rattle.object_store.specs.Machine.{Slot, slot_of, effect, found}
use Rattle.object_store.proofs.Slots.{same_key-refl, slot-append_one}
use Rattle.store_api.specs.Callers.{Caller, Makes, own_event}

-- ---- by kind: a reply of another kind is none of an honest store's
module _ (by : Caller) (old new : List Event) (P : Reply → Type 0) where
  pub gone-cases : (key : Key) (why : Why)
      → ((gone : Gone) → Makes by (Remove key why) (Is_gone gone) old new → P (Is_gone gone))
      → ((done : Bool) → Makes by (Remove key why) (Failed done) old new → P (Failed done))
      → (reply : Reply) → Makes by (Remove key why) reply old new → P reply
  gone-cases key why did failed (Is_gone gone) m = did gone m
  gone-cases key why did failed (Failed done) m = failed done m
  gone-cases key why did failed (Got x) m = let e = m.answered.answered in absurd (cc)
  gone-cases key why did failed (New x) m = let e = m.answered.answered in absurd (cc)
  gone-cases key why did failed (Over x) m = let e = m.answered.answered in absurd (cc)
  gone-cases key why did failed (GoneAt x) m = let e = m.answered.answered in absurd (cc)
  gone-cases key why did failed (Listed x) m = let e = m.answered.answered in absurd (cc)

-- ---- what the answers say of what stands
removed : (by : Caller) (key : Key) (why : Why) (gone : Gone) (n time : ℕ) (slot : Slot) → (effect key n slot (own_event by (Remove key why) (Is_gone gone) time)).stands ≡ None
unfolding effect
removed by key why gone n time slot = rw (same_key-refl key) refl

-- behind a removal that was answered nothing stands
pub none-stands : (by : Caller) (key : Key) (why : Why) (gone : Gone) (time : ℕ) (journal : List Event) → found (journal ++ own_event by (Remove key why) (Is_gone gone) time ∷ []) key ≡ None
none-stands by key why gone time journal =
    ap (λ (s : Slot). s.stands) (slot-append_one journal (own_event by (Remove key why) (Is_gone gone) time) key) ∙ removed by key why gone (length journal) time (slot_of journal key)
