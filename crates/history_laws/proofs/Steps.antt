-- What one event leaves at a key.
use Rattle.std.proofs.Common.{◌≡◌, ◌⊎◌, inl, inr, ℕ, true, List, [], ◌∷◌, ◌++◌, length, refl, sym, ◌∙◌, ap, subst}
use Rattle.std.specs.Prelude.{Some, None}
use Rattle.object_store.specs.declared.keys.Key.{Key}
use Rattle.object_store.specs.declared.keys.Why.{Why}
use Rattle.object_store.specs.declared.events.Version.{Version}
use Rattle.object_store.specs.declared.events.Op.{Op}
use Rattle.object_store.specs.declared.events.Op.TheVariants.{Get, PutNew, PutOver, Remove, RemoveAt, List as ListPart}
use Rattle.object_store.specs.declared.events.Event.{Event}
use Rattle.object_store.specs.Machine.{Stored, Slot, slot_of, put_at, leaves, found, is_on, was_done}
use Rattle.object_store.proofs.Slots.{same_key-true, effect-cases, free-cases, old-cases, slot-append_one}
use Rattle.store_api.specs.Journal.{IsFirst, IsFirstOp, IsGood, IsPolite, MayPutNew, MayPutOver, PutsFirst}

-- the event put these bytes where nothing stood
pub record IsNewPut (journal : List Event) (event : Event) (key : Key) (slot : Slot) : Type 0 where
  pub bytes : List ℕ
  pub why : Why
  pub op_is : event.op ≡ PutNew key bytes why
  pub done : was_done event.reply ≡ true
  pub free : found journal key ≡ None
  pub slot_is : slot ≡ put_at (length journal) event.time bytes (slot_of journal key)

-- the event put these bytes over the version that stood
pub record IsOverPut (journal : List Event) (event : Event) (key : Key) (slot : Slot) : Type 0 where
  pub bytes : List ℕ
  pub old : Version
  pub why : Why
  pub op_is : event.op ≡ PutOver key bytes old why
  pub done : was_done event.reply ≡ true
  pub before : Stored
  pub there : found journal key ≡ Some before
  pub version_is : before.version ≡ old.0
  pub slot_is : slot ≡ put_at (length journal) event.time bytes (slot_of journal key)

-- an operation that removes what stands at the key
abbrev pub RemovesAt : Key → Op → Type 0
RemovesAt key op = ((why : Why) × (op ≡ Remove key why)) ⊎ ((old : Version) × (why : Why) × (op ≡ RemoveAt key old why))

pub record IsRemoval (journal : List Event) (event : Event) (key : Key) (slot : Slot) : Type 0 where
  pub removes : RemovesAt key event.op
  pub done : was_done event.reply ≡ true
  pub slot_is : slot ≡ record (slot_of journal key) { stands = None }

-- nothing, a put, a put over, or a removal
abbrev pub Step : List Event → Event → Key → Slot → Type 0
Step journal event key slot = (slot ≡ slot_of journal key) ⊎ (IsNewPut journal event key slot ⊎ (IsOverPut journal event key slot ⊎ IsRemoval journal event key slot))

module _ (journal : List Event) (event : Event) (key : Key) where
  leaves-step : (op : Op) → event.op ≡ op → is_on key op ≡ true → was_done event.reply ≡ true → Step journal event key (leaves (length journal) event.time op (slot_of journal key))
  leaves-step (Get k) is on done = inl refl
  leaves-step (PutNew k bytes why) is on done =
      free-cases (Step journal event key) (found journal key) (put_at (length journal) event.time bytes (slot_of journal key)) (slot_of journal key) (inl refl)
      (λ free. inr (inl (record { bytes = bytes; why = why; op_is = is ∙ ap (λ (x : Key). PutNew x bytes why) (same_key-true k key on); done = done; free = free; slot_is = refl })))
  leaves-step (PutOver k bytes old why) is on done =
      old-cases (Step journal event key) old.0 (found journal key) (put_at (length journal) event.time bytes (slot_of journal key)) (slot_of journal key) (inl refl)
      (λ s there v. inr (inr (inl (record { bytes = bytes; old = old; why = why; op_is = is ∙ ap (λ (x : Key). PutOver x bytes old why) (same_key-true k key on); done = done; before = s; there = there; version_is = v; slot_is = refl }))))
  leaves-step (Remove k why) is on done = inr (inr (inr (record { removes = inl (why, is ∙ ap (λ (x : Key). Remove x why) (same_key-true k key on)); done = done; slot_is = refl })))
  leaves-step (RemoveAt k old why) is on done =
      old-cases (Step journal event key) old.0 (found journal key) (record (slot_of journal key) { stands = None }) (slot_of journal key) (inl refl)
      (λ s there v. inr (inr (inr (record { removes = inr (old, why, is ∙ ap (λ (x : Key). RemoveAt x old why) (same_key-true k key on)); done = done; slot_is = refl }))))
  leaves-step (ListPart part) is on done = inl refl

  -- what a key has after one more event
  pub step-one : Step journal event key (slot_of (journal ++ event ∷ []) key)
  step-one = subst (Step journal event key) (sym (slot-append_one journal event key))
      (effect-cases (Step journal event key) key (length journal) (slot_of journal key) event (inl refl) (leaves-step event.op refl))

  module _ (slot : Slot) where
    pub new-polite : IsGood journal event → (h : IsNewPut journal event key slot) → MayPutNew journal h.bytes h.why key
    new-polite good h = subst (IsPolite journal) h.op_is good.polite

    pub new-first : IsFirst journal event → (h : IsNewPut journal event key slot) → PutsFirst journal h.bytes key
    new-first first h = subst (IsFirstOp journal) h.op_is (first h.done)

    pub over-polite : IsGood journal event → (h : IsOverPut journal event key slot) → MayPutOver journal h.bytes h.old.0 h.why key
    over-polite good h = subst (IsPolite journal) h.op_is good.polite
