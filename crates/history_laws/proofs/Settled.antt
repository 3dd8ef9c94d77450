-- Once all is listed, what a collection dooms stays so.
use Rattle.std.proofs.Common.{◌≡◌, inl, inr, ℕ, List, [], ◌∷◌, ◌++◌, sym, subst, arith, append_assoc, append-nil}
use Rattle.object_store.specs.declared.keys.Key.{Key}
use Rattle.object_store.specs.declared.keys.Part.{Part}
use Rattle.object_store.specs.declared.keys.Part.TheVariants.{Snapshots, Manifests, Txns, Chunks, Branches, Tags, Leases}
use Rattle.object_store.specs.declared.events.Op.{Op}
use Rattle.object_store.specs.declared.events.Op.TheVariants.{Get, PutNew, PutOver, Remove, RemoveAt, List as ListPart}
use Rattle.object_store.specs.declared.events.Gone.TheVariants.{Done as Gone_done, Absent as Gone_absent}
use Rattle.object_store.specs.declared.events.Reply.{Reply}
use Rattle.object_store.specs.declared.events.Reply.TheVariants.{Gone as Is_gone}
use Rattle.object_store.specs.declared.events.Event.{Event}
use Rattle.store_api.specs.Journal.{Each}
use Rattle.collecting.specs.Walks.{Walk, Doomed, RefsRead, MayGet, branch, tag, lease, object, MayList, MayDo, told}
use Rattle.history_laws.specs.Collections.{Collection, walk_at, DoomedBy, OwesUntil}
use Rattle.history_laws.proofs.Walking.{Behind, behind-more, walk-one}

-- all is listed, and each ref was got
pub record IsSettled (w : Walk) : Type 0 where
  pub lists : w.lists ≡ 4
  pub refs : RefsRead w

-- settled as well, and it dooms the same
pub record DoomsAs (cutoff : ℕ) (v w : Walk) : Type 0 where
  pub settled : IsSettled v
  pub fore : (key : Key) → Doomed cutoff w key → Doomed cutoff v key
  pub back : (key : Key) → Doomed cutoff v key → Doomed cutoff w key

itself : (cutoff : ℕ) (w : Walk) → IsSettled w → DoomsAs cutoff w w
itself cutoff w s = record { settled = s; fore = λ key d. d; back = λ key d. d }

no-get : (w : Walk) (key : Key) → IsSettled w → MayGet w key → ⊥
no-get w key s (branch f) = let e = s.refs.0 in let g = f.1 in cc
no-get w key s (tag all f) = let e = s.refs.1 in let g = f.1 in cc
no-get w key s (lease all every f) = let e = s.refs.2 in let g = f.1 in cc
no-get w key s (object refs none wanted) = let e = s.lists in absurd (omega (arith, e, none))

no-list : (w : Walk) (part : Part) → IsSettled w → MayList w part → ⊥
no-list w Branches s may = let e = s.refs.0 in cc
no-list w Tags s may = let e = s.refs.1 in let f = may.1 in cc
no-list w Snapshots s may = let e = s.lists in let f = may.1 in absurd (omega (arith, e, f))
no-list w Txns s may = let e = s.lists in let f = may.1 in absurd (omega (arith, e, f))
no-list w Manifests s may = let e = s.lists in let f = may.1 in absurd (omega (arith, e, f))
no-list w Chunks s may = let e = s.lists in let f = may.1 in absurd (omega (arith, e, f))
no-list w Leases s may = let e = s.refs.2 in let f = may.2 in cc

-- the same in all that dooms
module _ (cutoff : ℕ) (w : Walk) (s : IsSettled w) where
  settled-told : (op : Op) (reply : Reply) → MayDo cutoff w op → DoomsAs cutoff (told cutoff w op reply) w
  settled-told (Get key) reply may = absurd (no-get w key s may)
  settled-told (ListPart part) reply may = absurd (no-list w part s may)
  settled-told (Remove key why) (Is_gone (Gone_done t)) may = record {
    settled = record { lists = s.lists; refs = s.refs };
    fore = λ k d. record { whole = d.whole; entry = d.entry; listed = d.listed; key_is = d.key_is; object = d.object; old = d.old; unmarked = d.unmarked };
    back = λ k d. record { whole = d.whole; entry = d.entry; listed = d.listed; key_is = d.key_is; object = d.object; old = d.old; unmarked = d.unmarked };
  }
  settled-told (Remove key why) (Is_gone (Gone_absent t)) may = record {
    settled = record { lists = s.lists; refs = s.refs };
    fore = λ k d. record { whole = d.whole; entry = d.entry; listed = d.listed; key_is = d.key_is; object = d.object; old = d.old; unmarked = d.unmarked };
    back = λ k d. record { whole = d.whole; entry = d.entry; listed = d.listed; key_is = d.key_is; object = d.object; old = d.old; unmarked = d.unmarked };
  }
  settled-told (Remove key why) reply may = record {
    settled = record { lists = s.lists; refs = s.refs };
    fore = λ k d. record { whole = d.whole; entry = d.entry; listed = d.listed; key_is = d.key_is; object = d.object; old = d.old; unmarked = d.unmarked };
    back = λ k d. record { whole = d.whole; entry = d.entry; listed = d.listed; key_is = d.key_is; object = d.object; old = d.old; unmarked = d.unmarked };
  }
  settled-told (PutNew key bytes why) reply may = absurd may
  settled-told (PutOver key bytes old why) reply may = absurd may
  settled-told (RemoveAt key old why) reply may = absurd may

-- ---- along a journal
pub settled-one : (c : Collection) (journal : List Event) (event : Event) → Behind c journal → OwesUntil c journal event → IsSettled (walk_at c journal) → DoomsAs c.cutoff (walk_at c (journal ++ event ∷ [])) (walk_at c journal)
settled-one c journal event behind owes s = elim (walk-one c journal event behind) [
  | inl its ↦ subst (λ (v : Walk). DoomsAs c.cutoff v (walk_at c journal)) (sym its.walk) (settled-told c.cutoff (walk_at c journal) s event.op event.reply (owes its.client_is its.within).1)
  | inr same ↦ subst (λ (v : Walk). DoomsAs c.cutoff v (walk_at c journal)) (sym same) (itself c.cutoff (walk_at c journal) s)
]

-- all stays listed
pub settled-later : (c : Collection) (journal more : List Event) → Behind c journal → Each (OwesUntil c) journal more → IsSettled (walk_at c journal) → IsSettled (walk_at c (journal ++ more))
unfolding Each
settled-later c journal [] behind owes s = subst (λ (j : List Event). IsSettled (walk_at c j)) (sym (append-nil journal)) s
settled-later c journal (x ∷ xs) behind owes s =
    subst (λ (j : List Event). IsSettled (walk_at c j)) (append_assoc journal (x ∷ []) xs)
    (settled-later c (journal ++ x ∷ []) xs (behind-more c journal (x ∷ []) behind) owes.1 (settled-one c journal x behind owes.0 s).settled)

pub settled-along : (c : Collection) (journal more : List Event) → Behind c journal → Each (OwesUntil c) journal more → IsSettled (walk_at c journal) → (key : Key) → DoomedBy c (journal ++ more) key → DoomedBy c journal key
unfolding Each
settled-along c journal [] behind owes s key d = subst (λ (j : List Event). DoomedBy c j key) (append-nil journal) d
settled-along c journal (x ∷ xs) behind owes s key d =
    let one = settled-one c journal x behind owes.0 s in
    one.back key (settled-along c (journal ++ x ∷ []) xs (behind-more c journal (x ∷ []) behind) owes.1 one.settled key (subst (λ (j : List Event). DoomedBy c j key) (sym (append_assoc journal (x ∷ []) xs)) d))

pub settled-fore : (c : Collection) (journal more : List Event) → Behind c journal → Each (OwesUntil c) journal more → IsSettled (walk_at c journal) → (key : Key) → DoomedBy c journal key → DoomedBy c (journal ++ more) key
unfolding Each
settled-fore c journal [] behind owes s key d = subst (λ (j : List Event). DoomedBy c j key) (sym (append-nil journal)) d
settled-fore c journal (x ∷ xs) behind owes s key d =
    let one = settled-one c journal x behind owes.0 s in
    subst (λ (j : List Event). DoomedBy c j key) (append_assoc journal (x ∷ []) xs) (settled-fore c (journal ++ x ∷ []) xs (behind-more c journal (x ∷ []) behind) owes.1 one.settled key (one.fore key d))
