-- `main` stays there, and so do tags and tombstones.
use Rattle.std.proofs.Common.{◌≡◌, ℕ, true, List, [], ◌∷◌, ◌++◌, length, refl, sym, ◌∙◌, ap, subst, append_assoc, append-nil}
use Rattle.std.specs.Prelude.{Option, Some}
use Rattle.ice_base.specs.Names.{main_name}
use Rattle.object_store.specs.declared.keys.Key.{Key}
use Rattle.object_store.specs.declared.keys.Key.TheVariants.{Branch}
use Rattle.object_store.specs.declared.events.Op.{Op}
use Rattle.object_store.specs.declared.events.Op.TheVariants.{Get, PutNew, PutOver, Remove, RemoveAt, List as ListPart}
use Rattle.object_store.specs.declared.events.Event.{Event}
use Rattle.object_store.specs.Machine.{Stored, Slot, slot_of, found, leaves, put_at, is_on}
use Rattle.store_api.specs.Journal.{Each, IsGood, IsPolite, MayRemove, MayRemoveAt}
use Rattle.object_store.proofs.Slots.{same_key-true, effect-cases, free-cases, old-cases}
use Rattle.repo_read.proofs.Stays.{found-one, tag-stays, gone-stays}
use Rattle.refs_admin.specs.Laws.{TagsStay, MainStays}

pub tags-stay : TagsStay
tags-stay = record { tags = tag-stays; tombstones = gone-stays }

-- ---- `main`
abbrev Stands : Option Stored → Type 0
Stands at = (s : Stored) × (at ≡ Some s)

main-leaves : (journal : List Event) (time : ℕ) (op : Op) → is_on (Branch main_name) op ≡ true → IsPolite journal op → Stands (found journal (Branch main_name)) → Stands (leaves (length journal) time op (slot_of journal (Branch main_name))).stands
main-leaves journal time (Get k) on p e = e
main-leaves journal time (PutNew k bytes why) on p e = free-cases (λ (slot : Slot). Stands slot.stands) (found journal (Branch main_name)) (put_at (length journal) time bytes (slot_of journal (Branch main_name))) (slot_of journal (Branch main_name)) e (λ none. (_, refl))
main-leaves journal time (PutOver k bytes old why) on p e = old-cases (λ (slot : Slot). Stands slot.stands) old.0 (found journal (Branch main_name)) (put_at (length journal) time bytes (slot_of journal (Branch main_name))) (slot_of journal (Branch main_name)) e (λ s is v. (_, refl))
main-leaves journal time (Remove k why) on p e = absurd (subst (λ (x : Key). MayRemove why x) (same_key-true k (Branch main_name) on) p)
main-leaves journal time (RemoveAt k old why) on p e = absurd ((subst (λ (x : Key). MayRemoveAt why x) (same_key-true k (Branch main_name) on) p) refl)
main-leaves journal time (ListPart part) on p e = e

main-one : (journal : List Event) (event : Event) → IsPolite journal event.op → Stands (found journal (Branch main_name)) → Stands (found (journal ++ event ∷ []) (Branch main_name))
main-one journal event p e =
    let after = effect-cases (λ (slot : Slot). Stands slot.stands) (Branch main_name) (length journal) (slot_of journal (Branch main_name)) event e (λ on done. main-leaves journal event.time event.op on p e) in
    (after.0, found-one journal event (Branch main_name) (Some after.0) after.1)

main-more : (journal more : List Event) → Each IsGood journal more → Stands (found journal (Branch main_name)) → Stands (found (journal ++ more) (Branch main_name))
unfolding Each
main-more journal [] g e = (e.0, ap (λ (h : List Event). found h (Branch main_name)) (append-nil journal) ∙ e.1)
main-more journal (x ∷ xs) g e =
    let more = main-more (journal ++ x ∷ []) xs g.1 (main-one journal x g.0.polite e) in
    (more.0, ap (λ (h : List Event). found h (Branch main_name)) (sym (append_assoc journal (x ∷ []) xs)) ∙ more.1)

pub main-stays : MainStays
main-stays journal more s g e = main-more journal more g (s, e)
