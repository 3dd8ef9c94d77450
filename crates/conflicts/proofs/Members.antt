-- Members of lists, and lists each of whose members stands in a relation to all behind it.
use Rattle.std.proofs.Common.{◌≡◌, ◌∙◌, zero, suc, Bool, true, false, cond, ◌||◌, List, [], ◌∷◌, ◌++◌, map, Contains, refl, sym, ap, subst, ◌⊎◌, inl, inr, arith}
use Rattle.std.specs.List.{list_any, filter, flat_map}

abbrev pub In : {A : Type 0} → List A → A → Type 0
In [] y = ⊥
In (x ∷ xs) y = (x ≡ y) ⊎ In xs y

module _ {A : Type 0} where
  pub in-contains : (xs : List A) (y : A) → In xs y → Contains xs y
  in-contains [] y h = absurd h
  in-contains (x ∷ xs) y (inl e) = (0, omega arith, e)
  in-contains (x ∷ xs) y (inr h) = let r = in-contains xs y h in (suc r.0, omega (arith, r.1), r.2)

  pub contains-in : (xs : List A) (y : A) → Contains xs y → In xs y
  contains-in [] y h = absurd (omega (arith, h.1))
  contains-in (x ∷ xs) y (zero, l, e) = inl e
  contains-in (x ∷ xs) y (suc k, l, e) = inr (contains-in xs y (k, omega (arith, l), e))

  pub in-append : (xs ys : List A) (z : A) → In (xs ++ ys) z → In xs z ⊎ In ys z
  in-append [] ys z h = inr h
  in-append (x ∷ xs) ys z (inl e) = inl (inl e)
  in-append (x ∷ xs) ys z (inr h) = elim (in-append xs ys z h) [ inl a ↦ inl (inr a) | inr b ↦ inr b ]

  pub in-left : (xs ys : List A) (z : A) → In xs z → In (xs ++ ys) z
  in-left [] ys z h = absurd h
  in-left (x ∷ xs) ys z (inl e) = inl e
  in-left (x ∷ xs) ys z (inr h) = inr (in-left xs ys z h)

  pub in-right : (xs ys : List A) (z : A) → In ys z → In (xs ++ ys) z
  in-right [] ys z h = h
  in-right (x ∷ xs) ys z h = inr (in-right xs ys z h)

  pub any-in : (f : A → Bool) (xs : List A) → list_any f xs ≡ true → (x : A) × In xs x × (f x ≡ true)
  any-in f [] h = cc
  any-in f (x ∷ xs) h = elim (f x) as (λ b. f x ≡ b → (b || list_any f xs) ≡ true → (y : A) × In (x ∷ xs) y × (f y ≡ true)) [
    | true ↦ λ e _. (x, inl refl, e)
    | false ↦ λ _ g. let r = any-in f xs g in (r.0, inr r.1, r.2)
  ] refl h

  pub in-any : (f : A → Bool) (xs : List A) (x : A) → In xs x → f x ≡ true → list_any f xs ≡ true
  in-any f [] x h e = absurd h
  in-any f (y ∷ ys) x (inl k) e = ap (λ b. b || list_any f ys) (ap f k) ∙ ap (λ b. b || list_any f ys) e
  in-any f (y ∷ ys) x (inr h) e = ap (λ b. f y || b) (in-any f ys x h e) ∙ or-true (f y)
    where
      or-true : (b : Bool) → (b || true) ≡ true
      or-true true = refl
      or-true false = refl

  pub in-filter : (f : A → Bool) (xs : List A) (y : A) → In (filter f xs) y → In xs y × (f y ≡ true)
  in-filter f [] y h = absurd h
  in-filter f (x ∷ xs) y h = by_test (in-filter f xs y) (f x) refl h
    where
      by_test : (In (filter f xs) y → In xs y × (f y ≡ true)) → (b : Bool) → f x ≡ b → In (cond b (x ∷ filter f xs) (filter f xs)) y → In (x ∷ xs) y × (f y ≡ true)
      by_test g true e (inl k) = (inl k, ap f (sym k) ∙ e)
      by_test g true e (inr k) = let r = g k in (inr r.0, r.1)
      by_test g false e k = let r = g k in (inr r.0, r.1)

  pub filter-in : (f : A → Bool) (xs : List A) (y : A) → In xs y → f y ≡ true → In (filter f xs) y
  filter-in f [] y h e = absurd h
  filter-in f (x ∷ xs) y (inl k) e = subst (λ b. In (cond b (x ∷ filter f xs) (filter f xs)) y) (sym (ap f k ∙ e)) (inl k)
  filter-in f (x ∷ xs) y (inr k) e = elim (f x) as (λ b. In (cond b (x ∷ filter f xs) (filter f xs)) y) [ true ↦ inr (filter-in f xs y k e) | false ↦ filter-in f xs y k e ]

  -- ---- each has R to all behind it
  abbrev pub InTurn : (A → A → Type 0) → List A → Type 0
  InTurn R [] = Unit {0}
  InTurn R (x ∷ xs) = ((y : A) → In xs y → R x y) × InTurn R xs

  pub turn-append : (R : A → A → Type 0) (xs ys : List A) → InTurn R xs → InTurn R ys → ((x y : A) → In xs x → In ys y → R x y) → InTurn R (xs ++ ys)
  turn-append R [] ys a b f = b
  turn-append R (x ∷ xs) ys a b f = (
    λ y h. elim (in-append xs ys y h) [ inl k ↦ a.0 y k | inr k ↦ f x y (inl refl) k ],
    turn-append R xs ys a.1 b (λ v w h k. f v w (inr h) k),
  )

  pub turn-filter : (R : A → A → Type 0) (f : A → Bool) (xs : List A) → InTurn R xs → InTurn R (filter f xs)
  turn-filter R f [] h = tt
  turn-filter R f (x ∷ xs) h = elim (f x) as (λ b. InTurn R (cond b (x ∷ filter f xs) (filter f xs))) [
    | true ↦ (λ y k. h.0 y (in-filter f xs y k).0, turn-filter R f xs h.1)
    | false ↦ turn-filter R f xs h.1
  ]

module _ {A B : Type 0} where
  pub in-map : (g : A → B) (xs : List A) (z : B) → In (map g xs) z → (y : A) × In xs y × (g y ≡ z)
  in-map g [] z h = absurd h
  in-map g (x ∷ xs) z (inl e) = (x, inl refl, e)
  in-map g (x ∷ xs) z (inr h) = let r = in-map g xs z h in (r.0, inr r.1, r.2)

  pub map-in : (g : A → B) (xs : List A) (y : A) → In xs y → In (map g xs) (g y)
  map-in g [] y h = absurd h
  map-in g (x ∷ xs) y (inl e) = inl (ap g e)
  map-in g (x ∷ xs) y (inr h) = inr (map-in g xs y h)

  pub turn-map : (R : A → A → Type 0) (S : B → B → Type 0) (g : A → B) (xs : List A) → InTurn R xs → ((x y : A) → R x y → S (g x) (g y)) → InTurn S (map g xs)
  turn-map R S g [] h f = tt
  turn-map R S g (x ∷ xs) h f = (λ z k. let r = in-map g xs z k in subst (S (g x)) r.2 (f x r.0 (h.0 r.0 r.1)), turn-map R S g xs h.1 f)

  pub in-flat : (f : A → List B) (xs : List A) (y : B) → In (flat_map f xs) y → (a : A) × In xs a × In (f a) y
  in-flat f [] y h = absurd h
  in-flat f (x ∷ xs) y h = elim (in-append (f x) (flat_map f xs) y h) [
    | inl k ↦ (x, inl refl, k)
    | inr k ↦ let r = in-flat f xs y k in (r.0, inr r.1, r.2)
  ]

  pub flat-in : (f : A → List B) (xs : List A) (a : A) (y : B) → In xs a → In (f a) y → In (flat_map f xs) y
  flat-in f [] a y h k = absurd h
  flat-in f (x ∷ xs) a y (inl e) k = in-left (f x) (flat_map f xs) y (subst (λ z. In (f z) y) (sym e) k)
  flat-in f (x ∷ xs) a y (inr h) k = in-right (f x) (flat_map f xs) y (flat-in f xs a y h k)

  pub turn-flat : (R : A → A → Type 0) (S : B → B → Type 0) (f : A → List B) (xs : List A) → InTurn R xs → ((a : A) → In xs a → InTurn S (f a))
      → ((a b : A) → R a b → (x y : B) → In (f a) x → In (f b) y → S x y) → InTurn S (flat_map f xs)
  turn-flat R S f [] t g h = tt
  turn-flat R S f (x ∷ xs) t g h = turn-append S (f x) (flat_map f xs) (g x (inl refl)) (turn-flat R S f xs t.1 (λ a k. g a (inr k)) h)
      (λ v w k l. let r = in-flat f xs w l in h x r.0 (t.0 r.0 r.1) v w k r.2)
