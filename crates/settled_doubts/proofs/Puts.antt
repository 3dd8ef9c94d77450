-- What a put over leaves, and what a get found.
use Rattle.std.proofs.Common.{◌≡◌, ◌⊎◌, inl, inr, ℕ, Bool, true, cond, List, [], ◌∷◌, ◌++◌, length, take, drop, refl, sym, ◌∙◌, ap, subst, eq-eqb}
use Rattle.std.proofs.Math.Seq.{take-append_seam, drop-append_seam}
use Rattle.std.specs.Prelude.{Option, Some}
use Rattle.object_store.specs.declared.keys.Key.{Key}
use Rattle.object_store.specs.declared.keys.Why.{Why}
use Rattle.object_store.specs.declared.events.Version.{Version}
use Rattle.object_store.specs.declared.events.Op.{Op}
use Rattle.object_store.specs.declared.events.Op.TheVariants.{Get, PutOver}
use Rattle.object_store.specs.declared.events.Got.TheVariants.{Found}
use Rattle.object_store.specs.declared.events.Reply.{Reply}
use Rattle.object_store.specs.declared.events.Reply.TheVariants.{Got}
use Rattle.object_store.specs.declared.events.Event.{Event}
use Rattle.object_store.specs.Machine.{Stored, Slot, slot_of, effect, leaves, put_at, where_old, found, is_on, was_done, version_at, got_of, IsHonest, UnlessFailed}
use Rattle.object_store.proofs.Journals.{Each-at}
use Rattle.object_store.proofs.Slots.{same_key-true, same_key-refl, effect-cases, old-cases, slot-append_one}
use Rattle.store_api.specs.Journal.{IsGood, IsGoodJournal}
use Rattle.store_api.specs.Telling.{WasGot}
use Rattle.repo_read.proofs.Replies.{Holds, got-holds}

-- ---- parts of lists
-- behind the same beginning the rest is the same
pub same-rest : (start more rest : List Event) → start ++ more ≡ start ++ rest → more ≡ rest
same-rest start more rest e = sym (drop-append_seam start more) ∙ (ap (drop (length start)) e ∙ drop-append_seam start rest)

-- two beginnings of one length are the same, and so is what follows
pub same-seam : (a b xs ys : List Event) → a ++ xs ≡ b ++ ys → length a ≡ length b → (a ≡ b) × (xs ≡ ys)
same-seam a b xs ys e n =
    let first : a ≡ b = sym (take-append_seam a xs) ∙ (ap (λ (k : ℕ). take k (a ++ xs)) n ∙ (ap (take (length b)) e ∙ take-append_seam b ys)) in
    (first, same-rest b xs ys (ap (λ (x : List Event). x ++ xs) (sym first) ∙ e))

-- ---- a put over
-- these bytes were put over the version that stood
pub record WasOver (journal : List Event) (event : Event) (key : Key) (bytes : List ℕ) (old : Version) : Type 0 where
  pub done : was_done event.reply ≡ true
  pub before : Stored
  pub stood : found journal key ≡ Some before
  pub version_is : before.version ≡ old.0
  pub slot_is : slot_of (journal ++ event ∷ []) key ≡ put_at (length journal) event.time bytes (slot_of journal key)

-- it leaves a key as it was, or it is of that key, and was put over it
pub over-leaves : (journal : List Event) (event : Event) (k : Key) (bytes : List ℕ) (old : Version) (why : Why) → event.op ≡ PutOver k bytes old why → (key : Key)
    → (slot_of (journal ++ event ∷ []) key ≡ slot_of journal key) ⊎ ((k ≡ key) × WasOver journal event key bytes old)
over-leaves journal event k bytes old why op key = by_slot (slot_of (journal ++ event ∷ []) key) refl
    (subst Q (sym (slot-append_one journal event key))
    (effect-cases Q key (length journal) (slot_of journal key) event (inl refl) (λ on done. subst (λ (o : Op). is_on key o ≡ true → Q (leaves (length journal) event.time o (slot_of journal key))) (sym op) (by_old done) on)))
  where
    Q : Slot → Type 0
    Q slot = (slot ≡ slot_of journal key) ⊎ ((k ≡ key) × (was_done event.reply ≡ true) × ((s : Stored) × (found journal key ≡ Some s) × (s.version ≡ old.0)) × (slot ≡ put_at (length journal) event.time bytes (slot_of journal key)))

    by_old : was_done event.reply ≡ true → is_on key (PutOver k bytes old why) ≡ true → Q (leaves (length journal) event.time (PutOver k bytes old why) (slot_of journal key))
    by_old done on = old-cases Q old.0 (found journal key) (put_at (length journal) event.time bytes (slot_of journal key)) (slot_of journal key) (inl refl) (λ s e v. inr (same_key-true k key on, done, (s, e, v), refl))

    by_slot : (slot : Slot) → slot_of (journal ++ event ∷ []) key ≡ slot → Q slot → (slot_of (journal ++ event ∷ []) key ≡ slot_of journal key) ⊎ ((k ≡ key) × WasOver journal event key bytes old)
    by_slot slot is (inl same) = inl (is ∙ same)
    by_slot slot is (inr put) = inr (put.0, record { done = put.1; before = put.2.0; stood = put.2.1; version_is = put.2.2; slot_is = is ∙ put.3 })

-- one that was done leaves its bytes where its version stood
pub over-done : (journal : List Event) (event : Event) (key : Key) (bytes : List ℕ) (old : Version) (why : Why) (s : Stored) → event.op ≡ PutOver key bytes old why → was_done event.reply ≡ true → found journal key ≡ Some s → s.version ≡ old.0
    → slot_of (journal ++ event ∷ []) key ≡ put_at (length journal) event.time bytes (slot_of journal key)
unfolding effect
over-done journal event key bytes old why s op done stood version =
    slot-append_one journal event key
    ∙ (ap (λ (b : Bool). cond b (cond (was_done event.reply) (leaves (length journal) event.time event.op (slot_of journal key)) (slot_of journal key)) (slot_of journal key)) (ap (is_on key) op ∙ same_key-refl key)
    ∙ (ap (λ (b : Bool). cond b (leaves (length journal) event.time event.op (slot_of journal key)) (slot_of journal key)) done
    ∙ (ap (λ (o : Op). leaves (length journal) event.time o (slot_of journal key)) op
    ∙ (ap (λ (o : Option Stored). where_old old.0 o new (slot_of journal key)) stood
    ∙ ap (λ (b : Bool). cond b new (slot_of journal key)) (eq-eqb s.version old.0 version)))))
  where
    new : Slot
    new = put_at (length journal) event.time bytes (slot_of journal key)

-- ---- a get
-- what it was answered had been there
pub got-found : (client : ℕ) (key : Key) (bytes : List ℕ) (version : ℕ) (start journal : List Event) → IsGoodJournal journal → (w : WasGot client key bytes version start journal) → Holds (found w.own.before key) bytes (version_at version)
got-found client key bytes version start journal good w =
    let here : IsGood w.own.before w.own.event = Each-at IsGood [] w.own.before w.own.event w.own.after (subst IsGoodJournal w.own.is good) in
    let told : Got (Found bytes (version_at version) w.now) ≡ Got (got_of w.own.event.time (found w.own.before key)) =
    subst (λ (r : Reply). UnlessFailed (IsHonest (found w.own.before) (length w.own.before) w.own.event.time (Get key)) r) w.own.reply_is
    (subst (λ (op : Op). UnlessFailed (IsHonest (found w.own.before) (length w.own.before) w.own.event.time op) w.own.event.reply) w.own.op_is here.legal.answered) in
    got-holds (found w.own.before key) bytes (version_at version) w.now w.own.event.time told
