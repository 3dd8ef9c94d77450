-- Laws of `Each`.
use Rattle.std.proofs.Common.{List, [], ◌∷◌, ◌++◌, sym, subst, append_assoc, append-nil}
use Rattle.object_store.specs.declared.events.Event.{Event}
use Rattle.object_store.specs.Journals.{Each}

pub Each-append : (P : List Event → Event → Type 0) (old xs ys : List Event) → Each P old xs → Each P (old ++ xs) ys → Each P old (xs ++ ys)
unfolding Each
Each-append P old [] ys a b = rw append-nil at b
Each-append P old (x ∷ xs) ys a b = (a.0, Each-append P (old ++ x ∷ []) xs ys a.1 (subst (λ (h : List Event). Each P h ys) (sym (append_assoc old (x ∷ []) xs)) b))

pub Each-back : (P : List Event → Event → Type 0) (old xs ys : List Event) → Each P old (xs ++ ys) → Each P old xs × Each P (old ++ xs) ys
unfolding Each
Each-back P old [] ys a = (tt, rw append-nil a)
Each-back P old (x ∷ xs) ys a =
    let r = Each-back P (old ++ x ∷ []) xs ys a.1 in
    ((a.0, r.0), subst (λ (h : List Event). Each P h ys) (append_assoc old (x ∷ []) xs) r.1)

pub Each-weaker : (P Q : List Event → Event → Type 0) → ((old : List Event) (event : Event) → P old event → Q old event) → (old xs : List Event) → Each P old xs → Each Q old xs
unfolding Each
Each-weaker P Q f old [] a = tt
Each-weaker P Q f old (x ∷ xs) a = (f old x a.0, Each-weaker P Q f (old ++ x ∷ []) xs a.1)

pub Each-both : (P Q R : List Event → Event → Type 0) → ((old : List Event) (event : Event) → P old event → Q old event → R old event) → (old xs : List Event) → Each P old xs → Each Q old xs → Each R old xs
unfolding Each
Each-both P Q R f old [] a b = tt
Each-both P Q R f old (x ∷ xs) a b = (f old x a.0 b.0, Each-both P Q R f (old ++ x ∷ []) xs a.1 b.1)

pub Each-one : (P : List Event → Event → Type 0) (old : List Event) (event : Event) → P old event → Each P old (event ∷ [])
unfolding Each
Each-one P old event p = (p, tt)

pub Each-none : (P : List Event → Event → Type 0) (old : List Event) → Each P old []
unfolding Each
Each-none P old = tt

pub Each-two : (P : List Event → Event → Type 0) (old : List Event) (x : Event) (xs : List Event) → Each P old (x ∷ xs) → P old x × Each P (old ++ x ∷ []) xs
unfolding Each
Each-two P old x xs a = a

-- P holds of one of the events, with the journal before it
pub Each-at : (P : List Event → Event → Type 0) (old xs : List Event) (event : Event) (ys : List Event) → Each P old (xs ++ event ∷ ys) → P (old ++ xs) event
Each-at P old xs event ys a = (Each-two P (old ++ xs) event ys ((Each-back P old xs (event ∷ ys) a).1)).0
