-- Tags and tombstones stay as they were put.
use Rattle.std.proofs.Common.{◌≡◌, ℕ, true, List, [], ◌∷◌, ◌++◌, length, sym, ◌∙◌, ap, subst, append_assoc, append-nil}
use Rattle.std.specs.Prelude.{Option, Some}
use Rattle.object_store.specs.declared.keys.Key.{Key}
use Rattle.object_store.specs.declared.keys.Key.TheVariants.{Tag, Tombstone}
use Rattle.object_store.specs.declared.keys.Why.{Why}
use Rattle.object_store.specs.declared.events.Op.{Op}
use Rattle.object_store.specs.declared.events.Op.TheVariants.{Get, PutNew, PutOver, Remove, RemoveAt, List as ListPart}
use Rattle.object_store.specs.declared.events.Reply.{Reply}
use Rattle.object_store.specs.declared.events.Event.{Event}
use Rattle.object_store.specs.Machine.{Stored, Slot, slot_of, found, leaves, effect, put_at, is_on}
use Rattle.store_api.specs.Journal.{Each, IsGood, IsPolite, MayPutOver, MayRemove, MayRemoveAt}
use Rattle.store_api.specs.Callers.{Caller, Waits, own_event}
use Rattle.object_store.proofs.Slots.{same_key-true, effect-cases, free-cases, slot-append_one}
use Rattle.store_api.proofs.Programs.{good-waits}

pub found-one : (journal : List Event) (event : Event) (key : Key) (o : Option Stored) → (effect key (length journal) (slot_of journal key) event).stands ≡ o → found (journal ++ event ∷ []) key ≡ o
found-one journal event key o e = ap (λ (s : Slot). s.stands) (slot-append_one journal event key) ∙ e

-- ---- a key whose object is never put over nor removed
module _ (key : Key) (no_over : (journal : List Event) (bytes : List ℕ) (old : ℕ) (why : Why) → MayPutOver journal bytes old why key → ⊥) (no_remove : (why : Why) → MayRemove why key → ⊥) (no_remove_at : (why : Why) → MayRemoveAt why key → ⊥) where
  leaves-it : (journal : List Event) (time : ℕ) (op : Op) (s : Stored) → is_on key op ≡ true → IsPolite journal op → found journal key ≡ Some s → (leaves (length journal) time op (slot_of journal key)).stands ≡ Some s
  leaves-it journal time (Get k) s on p e = e
  leaves-it journal time (PutNew k bytes why) s on p e = free-cases (λ (slot : Slot). slot.stands ≡ Some s) (found journal key) (put_at (length journal) time bytes (slot_of journal key)) (slot_of journal key) e (λ none. absurd (cc))
  leaves-it journal time (PutOver k bytes old why) s on p e = absurd (no_over journal bytes old.0 why (subst (λ (x : Key). MayPutOver journal bytes old.0 why x) (same_key-true k key on) p))
  leaves-it journal time (Remove k why) s on p e = absurd (no_remove why (subst (λ (x : Key). MayRemove why x) (same_key-true k key on) p))
  leaves-it journal time (RemoveAt k old why) s on p e = absurd (no_remove_at why (subst (λ (x : Key). MayRemoveAt why x) (same_key-true k key on) p))
  leaves-it journal time (ListPart part) s on p e = e

  pub stays-one : (journal : List Event) (event : Event) (s : Stored) → IsPolite journal event.op → found journal key ≡ Some s → found (journal ++ event ∷ []) key ≡ Some s
  stays-one journal event s p e = found-one journal event key (Some s)
      (effect-cases (λ (slot : Slot). slot.stands ≡ Some s) key (length journal) (slot_of journal key) event e (λ on done. leaves-it journal event.time event.op s on p e))

  pub stays : (journal more : List Event) (s : Stored) → Each IsGood journal more → found journal key ≡ Some s → found (journal ++ more) key ≡ Some s
  unfolding Each
  stays journal [] s g e = ap (λ (h : List Event). found h key) (append-nil journal) ∙ e
  stays journal (x ∷ xs) s g e = ap (λ (h : List Event). found h key) (sym (append_assoc journal (x ∷ []) xs)) ∙ stays (journal ++ x ∷ []) xs s g.1 (stays-one journal x s g.0.polite e)

pub tag-stays : (name : List ℕ) (journal more : List Event) (s : Stored) → Each IsGood journal more → found journal (Tag name) ≡ Some s → found (journal ++ more) (Tag name) ≡ Some s
tag-stays name = stays (Tag name) (λ journal bytes old why p. p) (λ why p. p) (λ why p. p)

pub gone-stays : (name : List ℕ) (journal more : List Event) (s : Stored) → Each IsGood journal more → found journal (Tombstone name) ≡ Some s → found (journal ++ more) (Tombstone name) ≡ Some s
gone-stays name = stays (Tombstone name) (λ journal bytes old why p. p) (λ why p. p) (λ why p. p)

-- ---- behind own events
-- a tag that stood before an own put of a key that is taken stands behind it
pub tag-new : (by : Caller) (key : Key) (bytes : List ℕ) (why : Why) (reply : Reply) (time : ℕ) (name : List ℕ) (journal : List Event) (s : Stored) → found journal (Tag name) ≡ Some s → found (journal ++ own_event by (PutNew key bytes why) reply time ∷ []) (Tag name) ≡ Some s
tag-new by key bytes why reply time name journal s e = found-one journal (own_event by (PutNew key bytes why) reply time) (Tag name) (Some s)
    (effect-cases (λ (slot : Slot). slot.stands ≡ Some s) (Tag name) (length journal) (slot_of journal (Tag name)) (own_event by (PutNew key bytes why) reply time) e
    (λ on done. free-cases (λ (slot : Slot). slot.stands ≡ Some s) (found journal (Tag name)) (put_at (length journal) time bytes (slot_of journal (Tag name))) (slot_of journal (Tag name)) e (λ none. absurd (cc))))

pub tag-get : (by : Caller) (key : Key) (reply : Reply) (time : ℕ) (name : List ℕ) (journal : List Event) (s : Stored) → found journal (Tag name) ≡ Some s → found (journal ++ own_event by (Get key) reply time ∷ []) (Tag name) ≡ Some s
tag-get by key reply time name journal s e = stays-one (Tag name) (λ journal bytes old why p. p) (λ why p. p) (λ why p. p) journal (own_event by (Get key) reply time) s tt e

pub tag-waits : (by : Caller) (name : List ℕ) (old new : List Event) (s : Stored) → Waits by old new → found old (Tag name) ≡ Some s → found new (Tag name) ≡ Some s
tag-waits by name old new s w e = ap (λ (h : List Event). found h (Tag name)) w.is ∙ tag-stays name old w.between s (good-waits by old w.between w.others) e
