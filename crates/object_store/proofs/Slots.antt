-- Laws of what keys have seen.
use Rattle.std.proofs.Common.{◌≡◌, ℕ, zero, suc, ◌+◌, ◌<◌, ◌≤◌, Bool, true, false, cond, List, [], ◌∷◌, ◌++◌, length, take, drop, refl, sym, ◌∙◌, ap, subst, arith, rules, add-zero, take-append-drop, eqb-true}
use Rattle.std.specs.Prelude.{Option, Some, None, ◌==◌, bytes_eq}
use Rattle.std.specs.Option.{option_or}
use Rattle.std.proofs.lemmas.List.{take-append-le}
use Rattle.std.proofs.lemmas.Slice.Eq.{bytes_eq-Decides}
use Rattle.ice_ids.specs.declared.Id12.{Id12}
use Rattle.object_store.specs.declared.keys.Key.{Key}
use Rattle.object_store.specs.declared.keys.Key.TheVariants.{Snapshot, Manifest, Txn, Chunk, Branch, Tag, Tombstone, Lease}
use Rattle.object_store.specs.declared.events.Op.{Op}
use Rattle.object_store.specs.declared.events.Op.TheVariants.{Get, PutNew, PutOver, Remove, RemoveAt, List as ListPart}
use Rattle.object_store.specs.declared.events.Event.{Event}
use Rattle.object_store.specs.Machine.{Stored, Slot, fresh_slot, put_at, where_free, where_old, leaves, effect, through, slot_of, found, first_put, same_key, is_on, was_done}
use Rattle.object_store.specs.Journals.{StoodAt, WasPut}

pub bytes-true : (a b : List ℕ) → bytes_eq a b ≡ true → a ≡ b
bytes-true a b e = (bytes_eq-Decides a b).0 e

pub bytes-same : (a : List ℕ) → bytes_eq a a ≡ true
bytes-same a = (bytes_eq-Decides a a).1 refl

pub id-true : (a b : Id12) → bytes_eq a.0 b.0 ≡ true → a ≡ b
id-true a b e = ap (λ (x : List ℕ). record { 0 = x }) (bytes-true a.0 b.0 e)

pub same_key-refl : (key : Key) → same_key key key ≡ true
same_key-refl (Snapshot a) = bytes-same a.0
same_key-refl (Manifest a) = bytes-same a.0
same_key-refl (Txn a) = bytes-same a.0
same_key-refl (Chunk a) = bytes-same a.0
same_key-refl (Branch a) = bytes-same a
same_key-refl (Tag a) = bytes-same a
same_key-refl (Tombstone a) = bytes-same a
same_key-refl (Lease a) = bytes-same a.0

pub same_key-true : (a b : Key) → same_key a b ≡ true → a ≡ b
same_key-true (Snapshot a) (Snapshot b) e = ap Snapshot (id-true a b e)
same_key-true (Manifest a) (Manifest b) e = ap Manifest (id-true a b e)
same_key-true (Txn a) (Txn b) e = ap Txn (id-true a b e)
same_key-true (Chunk a) (Chunk b) e = ap Chunk (id-true a b e)
same_key-true (Branch a) (Branch b) e = ap Branch (bytes-true a b e)
same_key-true (Tag a) (Tag b) e = ap Tag (bytes-true a b e)
same_key-true (Tombstone a) (Tombstone b) e = ap Tombstone (bytes-true a b e)
same_key-true (Lease a) (Lease b) e = ap Lease (id-true a b e)
same_key-true _ _ e = cc

-- what an event leaves, by cases
pub effect-cases : (Q : Slot → Type 0) (key : Key) (n : ℕ) (slot : Slot) (event : Event) → Q slot → (is_on key event.op ≡ true → was_done event.reply ≡ true → Q (leaves n event.time event.op slot)) → Q (effect key n slot event)
unfolding effect
effect-cases Q key n slot event keep act = outer (is_on key event.op) refl
  where
    inner : is_on key event.op ≡ true → (b : Bool) → was_done event.reply ≡ b → Q (cond b (leaves n event.time event.op slot) slot)
    inner e true d = act e d
    inner e false d = keep

    outer : (b : Bool) → is_on key event.op ≡ b → Q (cond b (cond (was_done event.reply) (leaves n event.time event.op slot) slot) slot)
    outer true e = inner e (was_done event.reply) refl
    outer false e = keep

pub free-cases : (Q : Slot → Type 0) (o : Option Stored) (new slot : Slot) → Q slot → (o ≡ None → Q new) → Q (where_free o new slot)
free-cases Q None new slot keep act = act refl
free-cases Q (Some s) new slot keep act = keep

pub old-cases : (Q : Slot → Type 0) (old : ℕ) (o : Option Stored) (new slot : Slot) → Q slot → ((s : Stored) → o ≡ Some s → s.version ≡ old → Q new) → Q (where_old old o new slot)
old-cases Q old None new slot keep act = keep
old-cases Q old (Some s) new slot keep act = decide (s.version == old) refl
  where
    decide : (b : Bool) → (s.version == old) ≡ b → Q (cond b new slot)
    decide true e = act s refl (eqb-true s.version old e)
    decide false e = keep

-- nothing, a put or a removal
leaves-cases : (Q : Slot → Type 0) (n time : ℕ) (op : Op) (slot : Slot) → Q slot → ((bytes : List ℕ) → Q (put_at n time bytes slot)) → Q (record slot { stands = None }) → Q (leaves n time op slot)
leaves-cases Q n time (Get key) slot keep put gone = keep
leaves-cases Q n time (PutNew key bytes why) slot keep put gone = free-cases Q slot.stands _ slot keep (λ e. put bytes)
leaves-cases Q n time (PutOver key bytes old why) slot keep put gone = old-cases Q old.0 slot.stands _ slot keep (λ s e v. put bytes)
leaves-cases Q n time (Remove key why) slot keep put gone = gone
leaves-cases Q n time (RemoveAt key old why) slot keep put gone = old-cases Q old.0 slot.stands _ slot keep (λ s e v. gone)
leaves-cases Q n time (ListPart part) slot keep put gone = keep

through-append : (key : Key) (n : ℕ) (slot : Slot) (xs ys : List Event) → through key n slot (xs ++ ys) ≡ through key (n + length xs) (through key n slot xs) ys
unfolding through
through-append key n slot [] ys = rw add-zero
through-append key n slot (x ∷ xs) ys =
    let e : (n + 1) + length xs ≡ n + length (x ∷ xs) = omega arith in
    through-append key (n + 1) (effect key n slot x) xs ys ∙ ap (λ (k : ℕ). through key k (through key (n + 1) (effect key n slot x) xs) ys) e

-- what a key has after one more event
pub slot-append_one : (journal : List Event) (event : Event) (key : Key) → slot_of (journal ++ event ∷ []) key ≡ effect key (length journal) (slot_of journal key) event
unfolding through slot_of
slot-append_one journal event key = through-append key 0 fresh_slot journal (event ∷ []) ∙ ap (λ (k : ℕ). effect key k (through key 0 fresh_slot journal) event) (omega arith)

pub slot-append : (journal more : List Event) (key : Key) → slot_of (journal ++ more) key ≡ through key (length journal) (slot_of journal key) more
unfolding slot_of
slot-append journal more key = through-append key 0 fresh_slot journal more ∙ ap (λ (k : ℕ). through key k (through key 0 fresh_slot journal) more) (omega arith)

-- at the start nothing was put
pub slot-none : (key : Key) → slot_of [] key ≡ fresh_slot
unfolding slot_of through
slot-none key = refl

-- ---- the first put stays the first
abbrev HasFirst : List ℕ → Slot → Type 0
HasFirst bytes slot = slot.first ≡ Some bytes

effect-first : (key : Key) (n : ℕ) (slot : Slot) (event : Event) (b : List ℕ) → HasFirst b slot → HasFirst b (effect key n slot event)
effect-first key n slot event b e = effect-cases (HasFirst b) key n slot event e (λ _ _. leaves-cases (HasFirst b) n event.time event.op slot e (λ bytes. ap (λ o. option_or o (Some bytes)) e) e)

through-first : (key : Key) (n : ℕ) (slot : Slot) (xs : List Event) (b : List ℕ) → HasFirst b slot → HasFirst b (through key n slot xs)
unfolding through
through-first key n slot [] b e = e
through-first key n slot (x ∷ xs) b e = through-first key (n + 1) (effect key n slot x) xs b (effect-first key n slot x b e)

pub first-append : (journal more : List Event) (key : Key) (b : List ℕ) → first_put journal key ≡ Some b → first_put (journal ++ more) key ≡ Some b
first-append journal more key b e = ap (λ (s : Slot). s.first) (slot-append journal more key) ∙ through-first key (length journal) (slot_of journal key) more b e

pub WasPut-append : (journal more : List Event) (key : Key) → WasPut journal key → WasPut (journal ++ more) key
WasPut-append journal more key w = (w.0, first-append journal more key w.0 w.1)

-- ---- what stands was the last put, and is of the past; and what was put was put last
pub record Sound (n : ℕ) (slot : Slot) : Type 0 where
  pub below : (s : Stored) → slot.stands ≡ Some s → s.version < n
  pub last : (s : Stored) → slot.stands ≡ Some s → slot.last ≡ Some s.bytes
  pub first : (s : Stored) → slot.stands ≡ Some s → (b : List ℕ) × (slot.first ≡ Some b)
  pub put : (b : List ℕ) → slot.first ≡ Some b → (c : List ℕ) × (slot.last ≡ Some c)
  pub begun : (c : List ℕ) → slot.last ≡ Some c → (b : List ℕ) × (slot.first ≡ Some b)

Sound-more : (n : ℕ) (slot : Slot) → Sound n slot → Sound (n + 1) slot
Sound-more n slot h = record { below = λ s e. omega (arith, h.below s e); last = h.last; first = h.first; put = h.put; begun = h.begun }

or_some : (o : Option (List ℕ)) (b : List ℕ) → (c : List ℕ) × (option_or o (Some b) ≡ Some c)
or_some None b = (b, refl)
or_some (Some c) b = (c, refl)

Sound-put : (n time : ℕ) (slot : Slot) (bytes : List ℕ) → Sound (n + 1) (put_at n time bytes slot)
Sound-put n time slot bytes = record {
  below = λ s e. let v : n ≡ s.version = cc in omega arith;
  last = λ s e. let b : bytes ≡ s.bytes = cc in ap (λ (x : List ℕ). Some x) b;
  first = λ s e. or_some slot.first bytes;
  put = λ b e. (bytes, refl);
  begun = λ c e. or_some slot.first bytes;
}

Sound-effect : (key : Key) (n : ℕ) (slot : Slot) (event : Event) → Sound n slot → Sound (n + 1) (effect key n slot event)
Sound-effect key n slot event h =
    let more = Sound-more n slot h in
    effect-cases (Sound (n + 1)) key n slot event more (λ _ _. leaves-cases (Sound (n + 1)) n event.time event.op slot more (Sound-put n event.time slot) (record { below = λ s e. cc; last = λ s e. cc; first = λ s e. cc; put = h.put; begun = h.begun }))

Sound-through : (key : Key) (n : ℕ) (slot : Slot) (xs : List Event) → Sound n slot → Sound (n + length xs) (through key n slot xs)
unfolding through
Sound-through key n slot [] h = rw add-zero h
Sound-through key n slot (x ∷ xs) h =
    let e : (n + 1) + length xs ≡ n + length (x ∷ xs) = omega arith in
    subst (λ (k : ℕ). Sound k (through key (n + 1) (effect key n slot x) xs)) e (Sound-through key (n + 1) (effect key n slot x) xs (Sound-effect key n slot x h))

pub sound : (journal : List Event) (key : Key) → Sound (length journal) (slot_of journal key)
unfolding slot_of
sound journal key = let e : 0 + length journal ≡ length journal = omega arith in subst (λ (k : ℕ). Sound k (through key 0 fresh_slot journal)) e (Sound-through key 0 fresh_slot journal (record { below = λ s e. cc; last = λ s e. cc; first = λ s e. cc; put = λ b e. cc; begun = λ c e. cc }))

-- ---- what stands with an old version stood then
abbrev WasThere : ℕ → Slot → Slot → Type 0
WasThere n old new = (s : Stored) → new.stands ≡ Some s → s.version < n → old.stands ≡ Some s

effect-old : (key : Key) (n : ℕ) (slot : Slot) (event : Event) → WasThere n slot (effect key n slot event)
effect-old key n slot event =
    let keep : WasThere n slot slot = λ s e l. e in
    effect-cases (WasThere n slot) key n slot event keep (λ _ _. leaves-cases (WasThere n slot) n event.time event.op slot keep (λ bytes s e l. let v : n ≡ s.version = cc in absurd (omega arith)) (λ s e l. cc))

through-old : (key : Key) (n : ℕ) (slot : Slot) (xs : List Event) → WasThere n slot (through key n slot xs)
unfolding through
through-old key n slot [] s e l = e
through-old key n slot (x ∷ xs) s e l = effect-old key n slot x s (through-old key (n + 1) (effect key n slot x) xs s e (omega arith)) l

pub found-old : (journal more : List Event) (key : Key) (s : Stored) → found (journal ++ more) key ≡ Some s → s.version < length journal → found journal key ≡ Some s
found-old journal more key s e l = through-old key (length journal) (slot_of journal key) more s (sym (ap (λ (t : Slot). t.stands) (slot-append journal more key)) ∙ e) l

take-length : (n : ℕ) (xs : List Event) → n ≤ length xs → length (take n xs) ≡ n
take-length n xs l = grind (arith, rules)

-- what stands stood at its version
pub found-stood : (journal : List Event) (key : Key) (s : Stored) → found journal key ≡ Some s → StoodAt journal key s.version s.bytes
found-stood journal key s e =
    let below = (sound journal key).below s e in
    let within : s.version + 1 ≤ length journal = omega (arith, below) in
    let len : length (take (s.version + 1) journal) ≡ s.version + 1 = take-length (s.version + 1) journal within in
    let split : journal ≡ take (s.version + 1) journal ++ drop (s.version + 1) journal = sym (take-append-drop (s.version + 1) journal) in
    record { created = s.created; stood = found-old (take (s.version + 1) journal) (drop (s.version + 1) journal) key s (subst (λ (h : List Event). found h key ≡ Some s) split e) (omega (arith, len)) }

within_of : (n : ℕ) (xs : List Event) → n ≤ length (take n xs) → n ≤ length xs
within_of zero xs l = omega arith
within_of (suc n) [] l = l
within_of (suc n) (x ∷ xs) l = let h = within_of n xs (omega (arith, l)) in omega (arith, h)

-- what stood at a version stays so
pub StoodAt-append : (journal more : List Event) (key : Key) (version : ℕ) (bytes : List ℕ) → StoodAt journal key version bytes → StoodAt (journal ++ more) key version bytes
StoodAt-append journal more key version bytes h =
    let below = (sound (take (version + 1) journal) key).below _ h.stood in
    let within : version + 1 ≤ length journal = within_of (version + 1) journal (omega (arith, below)) in
    record { created = h.created; stood = rw take-append-le h.stood }

abbrev bytes_in : Option Stored → List ℕ
bytes_in None = []
bytes_in (Some s) = s.bytes

-- what stands with a version is what stood at it
pub stood-is : (journal : List Event) (key : Key) (s : Stored) (bytes : List ℕ) → found journal key ≡ Some s → StoodAt journal key s.version bytes → s.bytes ≡ bytes
stood-is journal key s bytes e h = ap bytes_in (sym (found-stood journal key s e).stood ∙ h.stood)
