-- What removes an object, where its client's collection may make it: a removal of a key that the collection dooms.
use Rattle.std.proofs.Common.{◌≡◌, ℕ, true, List, length, sym, ◌∙◌, ap, subst}
use Rattle.std.specs.Prelude.{None}
use Rattle.object_store.specs.declared.keys.Key.{Key}
use Rattle.object_store.specs.declared.events.Op.{Op}
use Rattle.object_store.specs.declared.events.Op.TheVariants.{Get, PutNew, PutOver, Remove, RemoveAt, List as ListPart}
use Rattle.object_store.specs.declared.events.Event.{Event}
use Rattle.object_store.specs.Machine.{Slot, slot_of, is_on, leaves}
use Rattle.object_store.proofs.Slots.{same_key-true, effect-cases, slot-append_one}
use Rattle.collecting.specs.Walks.{Walk, Doomed, MayDo}
use Rattle.history_laws.specs.Refs.{Removes}

-- a get or a listing takes nothing, and a removal what its key has
abbrev pub Takes : Key → Op → Type 0
Takes key (Get k) = ⊥
Takes key (ListPart part) = ⊥
Takes key (Remove k why) = k ≡ key
Takes key (PutNew k bytes why) = Unit {0}
Takes key (PutOver k bytes old why) = Unit {0}
Takes key (RemoveAt k old why) = Unit {0}

module _ (before : List Event) (event : Event) (key : Key) (r : Removes before event key) where
  abbrev slot : Slot
  slot = slot_of before key

  there : slot.stands ≡ None → ⊥
  there none = let e = r.stands in cc

  by-op : (op : Op) → is_on key op ≡ true → (leaves (length before) event.time op slot).stands ≡ None → Takes key op
  by-op (Get k) on none = absurd (there none)
  by-op (ListPart part) on none = absurd (there none)
  by-op (Remove k why) on none = same_key-true k key on
  by-op (PutNew k bytes why) on none = tt
  by-op (PutOver k bytes old why) on none = tt
  by-op (RemoveAt k old why) on none = tt

  takes : Takes key event.op
  takes =
      effect-cases (λ (s : Slot). s.stands ≡ None → Takes key event.op) key (length before) slot event (λ none. absurd (there none)) (λ on done. by-op event.op on)
      (ap (λ (s : Slot). s.stands) (sym (slot-append_one before event key)) ∙ r.gone)

  module _ (cutoff : ℕ) (w : Walk) where
    doomed-by : (op : Op) → MayDo cutoff w op → Takes key op → Doomed cutoff w key
    doomed-by (Remove k why) may same = subst (Doomed cutoff w) same may.2
    doomed-by (Get k) may t = absurd t
    doomed-by (ListPart part) may t = absurd t
    doomed-by (PutNew k bytes why) may t = absurd may
    doomed-by (PutOver k bytes old why) may t = absurd may
    doomed-by (RemoveAt k old why) may t = absurd may

    pub removed-doomed : MayDo cutoff w event.op → Doomed cutoff w key
    removed-doomed may = doomed-by event.op may takes
