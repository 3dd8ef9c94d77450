-- Elements of lists.
use Rattle.std.proofs.Common.{◌≡◌, ◌⊎◌, inl, inr, suc, ◌≤◌, Bool, true, false, List, [], ◌∷◌, map, length, refl, sym, ◌∙◌, ap, subst, arith}
use Rattle.std.specs.Prelude.{Option, Some, None, Contains}
use Rattle.std.specs.List.{flat_map, filter_map, cons_option}
use Rattle.std.proofs.lemmas.List.Elements.{Contains-append_left, Contains-append_right, Contains-append_cases}
use Rattle.ice_ids.specs.declared.Id12.{Id12}
use Rattle.ice_ids.specs.Text.{same_id12}
use Rattle.ice_ids.proofs.TextLaws.{same_id12-true, same_id12-self}
use Rattle.repo_check.specs.Exact.{AreDistinct}
use Rattle.ice_ids.proofs.Elements.{first-is, later-is, first-or-later, none-in}

module _ {B : Type 0} where
  cons-here : (o : Option B) (b : B) (xs : List B) → o ≡ Some b → Contains (cons_option o xs) b
  cons-here None b xs e = cc
  cons-here (Some c) b xs e = let same : c ≡ b = cc in subst (λ (z : B). Contains (c ∷ xs) z) same (first-is c xs)

  cons-there : (o : Option B) (b : B) (xs : List B) → Contains xs b → Contains (cons_option o xs) b
  cons-there None b xs h = h
  cons-there (Some c) b xs h = later-is c b xs h

  cons-cases : (o : Option B) (b : B) (xs : List B) → Contains (cons_option o xs) b → (o ≡ Some b) ⊎ Contains xs b
  cons-cases None b xs h = inr h
  cons-cases (Some c) b xs h = elim (first-or-later c b xs h) [ inl e ↦ inl (ap (λ (z : B). Some z) e) | inr l ↦ inr l ]

module _ {A B : Type 0} where
  pub has-map : (f : A → B) (xs : List A) (x : A) → Contains xs x → Contains (map f xs) (f x)
  has-map f [] x h = absurd (none-in x h)
  has-map f (y ∷ ys) x h = elim (first-or-later y x ys h) [
    | inl e ↦ subst (λ (z : A). Contains (f y ∷ map f ys) (f z)) e (first-is (f y) (map f ys))
    | inr l ↦ later-is (f y) (f x) (map f ys) (has-map f ys x l)
  ]

  pub record FromMap (f : A → B) (xs : List A) (b : B) : Type 0 where
    pub one : A
    pub among : Contains xs one
    pub is : f one ≡ b

  pub from-map : (f : A → B) (xs : List A) (b : B) → Contains (map f xs) b → FromMap f xs b
  from-map f [] b h = absurd (none-in b h)
  from-map f (y ∷ ys) b h = elim (first-or-later (f y) b (map f ys) h) [
    | inl e ↦ record { one = y; among = first-is y ys; is = e }
    | inr l ↦ let r = from-map f ys b l in record { one = r.one; among = later-is y r.one ys r.among; is = r.is }
  ]

  pub has-flat : (f : A → List B) (xs : List A) (x : A) (b : B) → Contains xs x → Contains (f x) b → Contains (flat_map f xs) b
  has-flat f [] x b h g = absurd (none-in x h)
  has-flat f (y ∷ ys) x b h g = elim (first-or-later y x ys h) [
    | inl e ↦ Contains-append_left (f y) (flat_map f ys) b (subst (λ (z : A). Contains (f z) b) (sym e) g)
    | inr l ↦ Contains-append_right (f y) (flat_map f ys) b (has-flat f ys x b l g)
  ]

  pub record FromFlat (f : A → List B) (xs : List A) (b : B) : Type 0 where
    pub one : A
    pub among : Contains xs one
    pub within : Contains (f one) b

  pub from-flat : (f : A → List B) (xs : List A) (b : B) → Contains (flat_map f xs) b → FromFlat f xs b
  from-flat f [] b h = absurd (none-in b h)
  from-flat f (y ∷ ys) b h = elim (Contains-append_cases (f y) (flat_map f ys) b h) [
    | inl g ↦ record { one = y; among = first-is y ys; within = g }
    | inr l ↦ let r = from-flat f ys b l in record { one = r.one; among = later-is y r.one ys r.among; within = r.within }
  ]

  pub has-filter : (f : A → Option B) (xs : List A) (x : A) (b : B) → Contains xs x → f x ≡ Some b → Contains (filter_map f xs) b
  has-filter f [] x b h e = absurd (none-in x h)
  has-filter f (y ∷ ys) x b h e = elim (first-or-later y x ys h) [
    | inl same ↦ cons-here (f y) b (filter_map f ys) (ap f same ∙ e)
    | inr l ↦ cons-there (f y) b (filter_map f ys) (has-filter f ys x b l e)
  ]

  pub record FromFilter (f : A → Option B) (xs : List A) (b : B) : Type 0 where
    pub one : A
    pub among : Contains xs one
    pub is : f one ≡ Some b

  pub from-filter : (f : A → Option B) (xs : List A) (b : B) → Contains (filter_map f xs) b → FromFilter f xs b
  from-filter f [] b h = absurd (none-in b h)
  from-filter f (y ∷ ys) b h = elim (cons-cases (f y) b (filter_map f ys) h) [
    | inl e ↦ record { one = y; among = first-is y ys; is = e }
    | inr l ↦ let r = from-filter f ys b l in record { one = r.one; among = later-is y r.one ys r.among; is = r.is }
  ]

-- ---- distinct ids
-- a list without one of its ids
record Without (ids : List Id12) (id : Id12) : Type 0 where
  rest : List Id12
  count : length ids ≡ suc (length rest)
  keeps : (x : Id12) → (x ≡ id → ⊥) → Contains ids x → Contains rest x

without : (ids : List Id12) (id : Id12) → Contains ids id → Without ids id
without [] id h = absurd (none-in id h)
without (y ∷ ys) id h = elim (first-or-later y id ys h) [
  | inl e ↦ record {
    rest = ys;
    count = refl;
    keeps = λ x other c. elim (first-or-later y x ys c) [ inl f ↦ absurd (other (sym f ∙ e)) | inr l ↦ l ];
  }
  | inr l ↦ let w = without ys id l in record {
    rest = y ∷ w.rest;
    count = ap suc w.count;
    keeps = λ x other c. elim (first-or-later y x ys c) [
      | inl f ↦ subst (λ (z : Id12). Contains (y ∷ w.rest) z) f (first-is y w.rest)
      | inr m ↦ later-is y x w.rest (w.keeps x other m)
    ];
  }
]

-- distinct ids that are all among others aren't more than these
pub few : (seen ids : List Id12) → AreDistinct seen → ((x : Id12) → Contains seen x → Contains ids x) → length seen ≤ length ids
few [] ids d h = omega arith
few (x ∷ xs) ids d h =
    let w = without ids x (h x (first-is x xs)) in
    let rest = few xs w.rest d.1 (λ y c. w.keeps y (λ e. d.0 (subst (λ (z : Id12). Contains xs z) e c)) (h y (later-is x y xs c))) in
    omega (arith, rest, w.count)

-- an id is among others, or isn't
pub among : (ids : List Id12) (id : Id12) → Contains ids id ⊎ (Contains ids id → ⊥)
among [] id = inr (none-in id)
among (y ∷ ys) id = decide (among ys id) (same_id12 y id) refl
  where
    decide : Contains ys id ⊎ (Contains ys id → ⊥) → (b : Bool) → same_id12 y id ≡ b → Contains (y ∷ ys) id ⊎ (Contains (y ∷ ys) id → ⊥)
    decide rest true e = inl (subst (λ (z : Id12). Contains (y ∷ ys) z) (same_id12-true y id e) (first-is y ys))
    decide (inl c) false e = inl (later-is y id ys c)
    decide (inr n) false e = inr (λ c. elim (first-or-later y id ys c) [ inl f ↦ (let self = subst (λ (z : Id12). same_id12 y z ≡ true) f (same_id12-self y) in absurd cc) | inr l ↦ n l ])
