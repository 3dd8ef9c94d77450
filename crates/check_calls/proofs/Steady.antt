-- What stands stays, where nothing is removed and no snapshot is put over; and where there are only reads, nothing changes.
use Rattle.std.proofs.Common.{◌≡◌, ℕ, true, List, [], ◌∷◌, ◌++◌, length, refl, sym, ◌∙◌, ap, subst, append_assoc, append-nil}
use Rattle.std.specs.Prelude.{Some, None}
use Rattle.object_store.specs.declared.keys.Key.{Key}
use Rattle.object_store.specs.declared.keys.Key.TheVariants.{Snapshot, Manifest, Txn, Chunk, Branch, Tag, Tombstone, Lease}
use Rattle.object_store.specs.declared.keys.Why.{Why}
use Rattle.object_store.specs.declared.events.Version.{Version}
use Rattle.object_store.specs.declared.events.Op.{Op}
use Rattle.object_store.specs.declared.events.Op.TheVariants.{Get, PutNew, PutOver, Remove, RemoveAt, List as ListPart}
use Rattle.object_store.specs.declared.events.Event.{Event}
use Rattle.object_store.specs.Machine.{Stored, Slot, slot_of, put_at, leaves, found, last_put, is_on, was_done}
use Rattle.object_store.proofs.Slots.{same_key-true, effect-cases, free-cases, old-cases, slot-append_one, sound}
use Rattle.store_api.specs.Journal.{Each, IsGood, IsPolite}
use Rattle.collecting.specs.Walks.{IsObject}
use Rattle.repo_check.specs.Exact.{IsRead}
use Rattle.check_calls.specs.Beside.{TakesNothing}

module _ (before : List Event) (event : Event) where
  -- ---- calm
  no-over : IsGood before event → TakesNothing before event → (key : Key) → IsObject key → (bytes : List ℕ) (old : Version) (why : Why) → event.op ≡ PutOver key bytes old why → was_done event.reply ≡ true
      → (s : Stored) → found before key ≡ Some s → s.version ≡ old.0 → ⊥
  no-over good calm (Snapshot id) object bytes old why op done s there v = calm.puts_over id (record { bytes = bytes; old = old; why = why; stored = s; op_is = op; done = done; stands = there; version_is = v })
  no-over good calm (Manifest id) object bytes old why op done s there v = subst (IsPolite before) op good.polite
  no-over good calm (Txn id) object bytes old why op done s there v = subst (IsPolite before) op good.polite
  no-over good calm (Chunk id) object bytes old why op done s there v = subst (IsPolite before) op good.polite
  no-over good calm (Branch name) object bytes old why op done s there v = absurd object
  no-over good calm (Tag name) object bytes old why op done s there v = absurd object
  no-over good calm (Tombstone name) object bytes old why op done s there v = absurd object
  no-over good calm (Lease id) object bytes old why op done s there v = absurd object

  module _ (good : IsGood before event) (calm : TakesNothing before event) (key : Key) (object : IsObject key) (s : Stored) (there : found before key ≡ Some s) where
    -- what is left of the slot, if that is what the key has behind the event
    abbrev Left : Slot → Type 0
    Left slot = slot_of (before ++ event ∷ []) key ≡ slot → slot.stands ≡ Some s

    not-taken : (slot : Slot) → slot.stands ≡ None → Left slot
    not-taken slot none is = absurd (calm.removes key object (record { stored = s; stands = there; gone = ap (λ (t : Slot). t.stands) is ∙ none }))

    leaves-left : (op : Op) → event.op ≡ op → is_on key op ≡ true → was_done event.reply ≡ true → Left (leaves (length before) event.time op (slot_of before key))
    leaves-left (Get k) op on done = λ is. there
    leaves-left (PutNew k bytes why) op on done =
        free-cases Left (found before key) (put_at (length before) event.time bytes (slot_of before key)) (slot_of before key) (λ is. there) (λ free is. absurd cc)
    leaves-left (PutOver k bytes old why) op on done =
        old-cases Left old.0 (found before key) (put_at (length before) event.time bytes (slot_of before key)) (slot_of before key) (λ is. there)
        (λ t e v is. absurd (no-over good calm key object bytes old why (op ∙ ap (λ (x : Key). PutOver x bytes old why) (same_key-true k key on)) done t e v))
    leaves-left (Remove k why) op on done = not-taken (record (slot_of before key) { stands = None }) refl
    leaves-left (RemoveAt k old why) op on done = old-cases Left old.0 (found before key) (record (slot_of before key) { stands = None }) (slot_of before key) (λ is. there) (λ t e v. not-taken (record (slot_of before key) { stands = None }) refl)
    leaves-left (ListPart part) op on done = λ is. there

    stays-one : found (before ++ event ∷ []) key ≡ Some s
    stays-one =
        let e = slot-append_one before event key in
        ap (λ (t : Slot). t.stands) e ∙ effect-cases Left key (length before) (slot_of before key) event (λ is. there) (leaves-left event.op refl) e

  -- ---- reads
  leaves-same : (key : Key) (op : Op) → IsRead op → leaves (length before) event.time op (slot_of before key) ≡ slot_of before key
  leaves-same key (Get k) r = refl
  leaves-same key (ListPart part) r = refl
  leaves-same key (PutNew k bytes why) r = absurd r
  leaves-same key (PutOver k bytes old why) r = absurd r
  leaves-same key (Remove k why) r = absurd r
  leaves-same key (RemoveAt k old why) r = absurd r

  pub reads-one : (key : Key) → IsRead event.op → slot_of (before ++ event ∷ []) key ≡ slot_of before key
  reads-one key r =
      slot-append_one before event key
      ∙ effect-cases (λ (t : Slot). t ≡ slot_of before key) key (length before) (slot_of before key) event refl (λ on done. leaves-same key event.op r)

-- what stands at an object's key stays
pub stays : (key : Key) → IsObject key → (s : Stored) (before more : List Event) → Each IsGood before more → Each TakesNothing before more → found before key ≡ Some s → found (before ++ more) key ≡ Some s
unfolding Each
stays key object s before [] good calm there = ap (λ (h : List Event). found h key) (append-nil before) ∙ there
stays key object s before (x ∷ xs) good calm there =
    ap (λ (h : List Event). found h key) (sym (append_assoc before (x ∷ []) xs))
    ∙ stays key object s (before ++ x ∷ []) xs good.1 calm.1 (stays-one before x good.0 calm.0 key object s there)

-- what a key has seen stays the same
abbrev pub Reads : List Event → Event → Type 0
Reads before event = IsRead event.op

pub same : (key : Key) (before more : List Event) → Each Reads before more → slot_of (before ++ more) key ≡ slot_of before key
unfolding Each
same key before [] r = ap (λ (h : List Event). slot_of h key) (append-nil before)
same key before (x ∷ xs) r =
    ap (λ (h : List Event). slot_of h key) (sym (append_assoc before (x ∷ []) xs))
    ∙ (same key (before ++ x ∷ []) xs r.1 ∙ reads-one before x key r.0)

-- a read takes nothing
pub reads-calm : (before : List Event) (event : Event) → IsRead event.op → TakesNothing before event
reads-calm before event r = record {
  removes = λ key object taken. let bad : Some taken.stored ≡ None = sym taken.stands ∙ (sym (ap (λ (t : Slot). t.stands) (reads-one before event key r)) ∙ taken.gone) in absurd cc;
  puts_over = λ id over. subst IsRead over.op_is r;
}

-- what stands was put last
pub last-stands : (journal : List Event) (key : Key) (s : Stored) → found journal key ≡ Some s → last_put journal key ≡ Some s.bytes
last-stands journal key s e = (sound journal key).last s e
