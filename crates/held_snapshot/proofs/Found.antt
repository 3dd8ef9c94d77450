-- The first element that passes a test, by what is known of those before it.
use Rattle.std.proofs.Common.{◌≡◌, ℕ, zero, suc, ◌+◌, ◌<◌, ◌≤◌, Bool, true, false, cond, ltb, List, [], ◌∷◌, length, Option, None, Some, refl, sym, ap, ◌∙◌, subst, arith, inl, inr}
use Rattle.std.specs.Prelude.{slice_get, find, position, is_some}
use Rattle.std.specs.List.{list_all, list_any, position_or_len}
use Rattle.std.proofs.lemmas.Bool.{cases_lt, lt-ltb, le-ltb, ltb-false}
use Rattle.std.proofs.lemmas.Option.{slice_get_within, slice_get_past}

-- the test answers this for each element before number k
abbrev pub Before : {A : Type 0} → (A → Bool) → Bool → List A → ℕ → Type 0
Before {A} p b xs k = (j : ℕ) (y : A) → j < k → slice_get xs j ≡ Some y → p y ≡ b

pub before_none : {A : Type 0} (p : A → Bool) (b : Bool) (xs : List A) → Before p b xs 0
before_none p b xs j y lt at = absurd (omega arith)

some_is : {A : Type 0} (x y : A) → (let o : Option A = Some x in o) ≡ Some y → x ≡ y
some_is x y e = cc

pub before_more : {A : Type 0} (p : A → Bool) (b : Bool) (xs : List A) (k : ℕ) (x : A) → Before p b xs k → slice_get xs k ≡ Some x → p x ≡ b → Before p b xs (k + 1)
before_more {A = A} p b xs k x before at is j y lt there = elim (cases_lt j k) [
  | inl under ↦ before j y under there
  | inr ge ↦
      let e : j ≡ k = omega arith in
      subst (λ (z : A). p z ≡ b) (some_is x y (sym at ∙ ap (slice_get xs) (sym e) ∙ there)) is
]

behind : {A : Type 0} (p : A → Bool) (b : Bool) (x : A) (xs : List A) (k : ℕ) → Before p b (x ∷ xs) (suc k) → Before p b xs k
behind p b x xs k before j y lt at = before (suc j) y (omega arith) at

place_at : {A : Type 0} (p : A → Bool) (xs : List A) (k : ℕ) (x : A) → Before p false xs k → slice_get xs k ≡ Some x → p x ≡ true → position_or_len p xs ≡ k
place_at p [] k x before at is = absurd cc
place_at {A = A} p (y ∷ ys) zero x before at is =
    let here : p y ≡ true = subst (λ (z : A). p z ≡ true) (sym (some_is y x at)) is in
    rw here refl
place_at p (y ∷ ys) (suc k) x before at is =
    let first : p y ≡ false = before 0 y (omega arith) refl in
    let z : 1 + k ≡ suc k = omega arith in
    rw first (ap (λ n. 1 + n) (place_at p ys k x (behind p false y ys k before) at is) ∙ z)

pub position_at : {A : Type 0} (p : A → Bool) (xs : List A) (k : ℕ) (x : A) → Before p false xs k → slice_get xs k ≡ Some x → p x ≡ true → position p xs ≡ Some k
position_at p xs k x before at is =
    let e = place_at p xs k x before at is in
    let lt = lt-ltb k (length xs) (slice_get_within xs k x at) in
    rw (e, lt) refl

none_passes : {A : Type 0} (p : A → Bool) (xs : List A) (k : ℕ) → length xs ≤ k → Before p false xs k → position_or_len p xs ≡ length xs
none_passes p [] k le before = refl
none_passes p (y ∷ ys) zero le before = absurd (omega arith)
none_passes p (y ∷ ys) (suc k) le before =
    let first : p y ≡ false = before 0 y (omega arith) refl in
    let z : 1 + length ys ≡ suc (length ys) = omega arith in
    rw first (ap (λ n. 1 + n) (none_passes p ys k (omega arith) (behind p false y ys k before)) ∙ z)

pub position_none : {A : Type 0} (p : A → Bool) (xs : List A) (k : ℕ) → length xs ≤ k → Before p false xs k → position p xs ≡ None
position_none p xs k le before =
    let e = none_passes p xs k le before in
    let out = le-ltb (length xs) (length xs) (omega arith) in
    rw (e, out) refl

-- ---- the element at that number

found_here : {A : Type 0} (p : A → Bool) (xs : List A) → find p xs ≡ slice_get xs (position_or_len p xs)
found_here p [] = refl
found_here {A = A} p (y ∷ ys) = by_test (found_here p ys) (p y) refl
  where
    by_test : find p ys ≡ slice_get ys (position_or_len p ys) → (b : Bool) → p y ≡ b → find p (y ∷ ys) ≡ slice_get (y ∷ ys) (position_or_len p (y ∷ ys))
    by_test more true e = rw e refl
    by_test more false e =
        let z : suc (position_or_len p ys) ≡ 1 + position_or_len p ys = omega arith in
        rw e (more ∙ ap (slice_get (y ∷ ys)) z)

placed : (b : Bool) (n k : ℕ) → cond b (Some n) None ≡ Some k → n ≡ k
placed true n k e = cc
placed false n k e = absurd cc

pub found_by : {A : Type 0} (p : A → Bool) (xs : List A) (k : ℕ) (x : A) → position p xs ≡ Some k → slice_get xs k ≡ Some x → find p xs ≡ Some x
found_by p xs k x is at = found_here p xs ∙ ap (slice_get xs) (placed _ (position_or_len p xs) k is) ∙ at

no_place : (b : Bool) (n : ℕ) → cond b (Some n) None ≡ None → b ≡ false
no_place true n e = absurd cc
no_place false n e = refl

out_of : {A : Type 0} (xs : List A) (k : ℕ) → cond (ltb k (length xs)) (Some k) None ≡ None → slice_get xs k ≡ None
out_of xs k e = slice_get_past xs k (ltb-false k (length xs) (no_place (ltb k (length xs)) k e))

pub found_none : {A : Type 0} (p : A → Bool) (xs : List A) → position p xs ≡ None → find p xs ≡ None
found_none p xs is = found_here p xs ∙ out_of xs (position_or_len p xs) is

pub any_by_find : {A : Type 0} (p : A → Bool) (xs : List A) → is_some (find p xs) ≡ list_any p xs
any_by_find p [] = refl
any_by_find p (x ∷ xs) = by_test (any_by_find p xs) (p x) refl
  where
    by_test : is_some (find p xs) ≡ list_any p xs → (b : Bool) → p x ≡ b → is_some (find p (x ∷ xs)) ≡ list_any p (x ∷ xs)
    by_test more true e = rw e refl
    by_test more false e = rw e more

-- ---- all elements

pub all_pass : {A : Type 0} (p : A → Bool) (xs : List A) (k : ℕ) → length xs ≤ k → Before p true xs k → list_all p xs ≡ true
all_pass p [] k le before = refl
all_pass p (y ∷ ys) zero le before = absurd (omega arith)
all_pass p (y ∷ ys) (suc k) le before =
    let first : p y ≡ true = before 0 y (omega arith) refl in
    rw first (all_pass p ys k (omega arith) (behind p true y ys k before))

pub not_all : {A : Type 0} (p : A → Bool) (xs : List A) (k : ℕ) (x : A) → slice_get xs k ≡ Some x → p x ≡ false → list_all p xs ≡ false
not_all p [] k x at is = absurd cc
not_all {A = A} p (y ∷ ys) zero x at is =
    let here : p y ≡ false = subst (λ (z : A). p z ≡ false) (sym (some_is y x at)) is in
    rw here refl
not_all p (y ∷ ys) (suc k) x at is = by_test (not_all p ys k x at is) (p y) refl
  where
    by_test : list_all p ys ≡ false → (b : Bool) → p y ≡ b → list_all p (y ∷ ys) ≡ false
    by_test more true e = rw e more
    by_test more false e = rw e refl
