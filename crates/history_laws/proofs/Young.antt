-- What was put at the cutoff or later.
use Rattle.std.proofs.Common.{◌≡◌, ◌≢◌, ◌⊎◌, inl, inr, ℕ, ◌≤◌, Bool, true, cond, List, [], ◌∷◌, ◌++◌, length, drop, sym, ◌∙◌, ap, subst, arith, append_assoc, append-nil}
use Rattle.std.specs.Prelude.{Option, Some, None}
use Rattle.std.specs.Option.{option_or}
use Rattle.std.proofs.Math.Seq.{drop-append_seam}
use Rattle.ice_ids.specs.declared.Id12.{Id12}
use Rattle.ice_ids.specs.Text.{initial_id}
use Rattle.repo_objects.specs.Laws.{InitialLaw}
use Rattle.object_store.specs.declared.keys.Key.{Key}
use Rattle.object_store.specs.declared.keys.Key.TheVariants.{Snapshot, Manifest, Txn, Chunk, Branch, Tag, Tombstone, Lease}
use Rattle.object_store.specs.declared.keys.Why.{Why}
use Rattle.object_store.specs.declared.events.Op.{Op}
use Rattle.object_store.specs.declared.events.Op.TheVariants.{PutNew}
use Rattle.object_store.specs.declared.events.Event.{Event}
use Rattle.object_store.specs.Machine.{Stored, Slot, slot_of, put_at, where_free, leaves, effect, found, first_put, first_time, is_on, was_done}
use Rattle.object_store.proofs.Journals.{Each-at, Each-back, Each-two}
use Rattle.object_store.proofs.Slots.{same_key-refl, slot-append_one}
use Rattle.store_api.specs.Journal.{Each, IsFirst, IsFirstOp, IsGood, IsOnce, PutsFirst, WasPut}
use Rattle.reach.specs.Own.{HasPut}
use Rattle.collecting.specs.Walks.{IsObject}
use Rattle.history_laws.specs.Collections.{Collection, IsNotBefore, IsPreceded}
use Rattle.history_laws.proofs.Past.{look, born-one, Past, past-of}
use Rattle.history_laws.proofs.Telling.{IsLate}

-- it was first put at the cutoff or later
abbrev pub IsYoung : ℕ → List Event → Key → Type 0
IsYoung cutoff journal key = (t : ℕ) × (first_time journal key ≡ Some t) × (cutoff ≤ t)

pub young-one : (cutoff : ℕ) (journal : List Event) (event : Event) (key : Key) → IsYoung cutoff journal key → IsYoung cutoff (journal ++ event ∷ []) key
young-one cutoff journal event key y = (y.0, born-one journal event key y.0 y.1, y.2)

pub young-along : (cutoff : ℕ) (journal more : List Event) (key : Key) → IsYoung cutoff journal key → IsYoung cutoff (journal ++ more) key
young-along cutoff journal [] key y = subst (λ (j : List Event). IsYoung cutoff j key) (sym (append-nil journal)) y
young-along cutoff journal (x ∷ xs) key y = subst (λ (j : List Event). IsYoung cutoff j key) (append_assoc journal (x ∷ []) xs) (young-along cutoff (journal ++ x ∷ []) xs key (young-one cutoff journal x key y))

-- a snapshot whose log is young
pub log-young : (cutoff : ℕ) (journal : List Event) → Past journal → (id : Id12) → WasPut journal (Snapshot id) → IsYoung cutoff journal (Txn id) → (id ≡ initial_id) ⊎ IsYoung cutoff journal (Snapshot id)
log-young cutoff journal past id put y =
    let t = (past.timed (Snapshot id)).born put.0 put.1 in
    elim (past.logs id t.0 t.1) [
      | inl i ↦ inl i
      | inr log ↦
          let same : log.0 ≡ y.0 = let e = log.1 in let f = y.1 in cc in
          inr (t.0, t.1, let a = log.2 in let b = y.2 in omega (arith, a, b, same))
    ]

-- what a put leaves where nothing stood
pub effect-new : (key : Key) (n : ℕ) (slot : Slot) (event : Event) (bytes : List ℕ) (why : Why) → event.op ≡ PutNew key bytes why → was_done event.reply ≡ true → slot.stands ≡ None → effect key n slot event ≡ put_at n event.time bytes slot
unfolding effect
effect-new key n slot event bytes why op done free =
    subst (λ (o : Op). cond (is_on key o) (cond (was_done event.reply) (leaves n event.time o slot) slot) slot ≡ put_at n event.time bytes slot) (sym op)
    (ap (λ (b : Bool). cond b (cond (was_done event.reply) (where_free slot.stands (put_at n event.time bytes slot) slot) slot) slot) (same_key-refl key)
    ∙ (ap (λ (b : Bool). cond b (where_free slot.stands (put_at n event.time bytes slot) slot) slot) done
    ∙ ap (λ (o : Option Stored). where_free o (put_at n event.time bytes slot) slot) free))

-- where nothing is put again, what is put new was never put
pub never-put : (journal : List Event) (bytes : List ℕ) (key : Key) → IsObject key → key ≢ Snapshot initial_id → PutsFirst journal bytes key → found journal key ≡ None → first_put journal key ≡ None
never-put journal bytes (Snapshot id) object other f free = f.other (λ e. other (ap Snapshot e)) free
never-put journal bytes (Manifest id) object other f free = f.0 free
never-put journal bytes (Txn id) object other f free = f free
never-put journal bytes (Chunk id) object other f free = f free
never-put journal bytes (Branch name) object other f free = absurd object
never-put journal bytes (Tag name) object other f free = absurd object
never-put journal bytes (Tombstone name) object other f free = absurd object
never-put journal bytes (Lease id) object other f free = absurd object

-- the time of what a put put first
module _ (journal : List Event) (event : Event) (key : Key) (bytes : List ℕ) (why : Why) (op : event.op ≡ PutNew key bytes why) (done : was_done event.reply ≡ true) (free : found journal key ≡ None) where
  pub put-stands : slot_of (journal ++ event ∷ []) key ≡ put_at (length journal) event.time bytes (slot_of journal key)
  put-stands = slot-append_one journal event key ∙ effect-new key (length journal) (slot_of journal key) event bytes why op done free

  put-time : Past journal → IsFirst journal event → IsObject key → key ≢ Snapshot initial_id → first_time (journal ++ event ∷ []) key ≡ Some event.time
  put-time past first object other =
      let firsts : PutsFirst journal bytes key = subst (IsFirstOp journal) op (first done) in
      let never : first_put journal key ≡ None = never-put journal bytes key object other firsts free in
      let none : first_time journal key ≡ None = elim (look (first_time journal key)) [
        | inl n ↦ n
        | inr t ↦ (let was = (past.timed key).put t.0 t.1 in let e = was.1 in cc)
      ] in
      ap (λ (s : Slot). s.born) put-stands ∙ ap (λ (o : Option ℕ). option_or o (Some event.time)) none

-- the event of an own put is behind where the session began
pub put-within : (client : ℕ) (key : Key) (from journal more : List Event) → journal ≡ from ++ more → (p : HasPut client key from journal) → more ≡ p.since ++ p.event ∷ p.after
put-within client key from journal more is p =
    let whole : from ++ more ≡ from ++ (p.since ++ p.event ∷ p.after) = sym is ∙ (p.is ∙ (ap (λ (j : List Event). j ++ p.event ∷ p.after) p.before_is ∙ append_assoc from p.since (p.event ∷ p.after))) in
    sym (drop-append_seam from more) ∙ (ap (drop (length from)) whole ∙ drop-append_seam from (p.since ++ p.event ∷ p.after))

-- What a session put that the cutoff precedes is young.
pub own-young : InitialLaw → (c : Collection) (client : ℕ) (from journal : List Event) (key : Key) → Each IsGood [] journal → IsOnce journal → Each (IsLate c) [] journal → IsPreceded c client from journal → IsObject key → key ≢ Snapshot initial_id → HasPut client key from journal → IsYoung c.cutoff journal key
own-young initial c client from journal key good once late preceded object other p =
    let goods = Each-back IsGood [] p.before (p.event ∷ p.after) (subst (λ (j : List Event). Each IsGood [] j) p.is good) in
    let onces = Each-back IsFirst [] p.before (p.event ∷ p.after) (subst IsOnce p.is once) in
    let past : Past p.before = past-of initial p.before goods.0 onces.0 in
    let first : IsFirst p.before p.event = (Each-two IsFirst p.before p.event p.after onces.1).0 in
    let is_late : IsLate c p.before p.event = Each-at (IsLate c) [] p.before p.event p.after (subst (λ (j : List Event). Each (IsLate c) [] j) p.is late) in
    let within : Each (IsNotBefore c client) from (p.since ++ p.event ∷ p.after) = subst (λ (xs : List Event). Each (IsNotBefore c client) from xs) (put-within client key from journal preceded.more preceded.is p) preceded.each in
    let not_before : IsNotBefore c client p.before p.event = subst (λ (j : List Event). IsNotBefore c client j p.event) (sym p.before_is) (Each-at (IsNotBefore c client) from p.since p.event p.after within) in
    let time : c.cutoff ≤ p.event.time = elim (not_before p.client_is) [ inl begun ↦ is_late begun | inr l ↦ l ] in
    let now : IsYoung c.cutoff (p.before ++ p.event ∷ []) key = (p.event.time, put-time p.before p.event key p.bytes p.why p.op_is p.done p.free past first object other, time) in
    subst (λ (j : List Event). IsYoung c.cutoff j key) (append_assoc p.before (p.event ∷ []) p.after ∙ sym p.is) (young-along c.cutoff (p.before ++ p.event ∷ []) p.after key now)
