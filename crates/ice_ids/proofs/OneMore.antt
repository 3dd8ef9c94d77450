-- What entering an id in a set changes.
use Rattle.std.proofs.Common.{◌≡◌, ◌⊎◌, inl, inr, Bool, true, false, List, [], ◌∷◌, refl, sym, ◌∙◌, ap}
use Rattle.std.specs.Prelude.{◌||◌}
use Rattle.std.specs.declared.cmp.Ordering.{Ordering}
use Rattle.std.specs.declared.cmp.Ordering.TheVariants.{Less, Equal, Greater}
use Rattle.std.specs.Ordering.{match_ordering}
use Rattle.std.specs.FinMap.{slice_cmp-IsAntisymmetric, nat_cmp-IsAntisymmetric}
use Rattle.ice_ids.specs.declared.Id12.{Id12}
use Rattle.ice_ids.specs.Text.{same_id12, id12_cmp}
use Rattle.ice_ids.specs.Sets.{has_object, with_object}
use Rattle.ice_ids.proofs.TextLaws.{same_id12-true, same_id12-self}

or_cases : (a b : Bool) → (a || b) ≡ true → (a ≡ true) ⊎ (b ≡ true)
or_cases true b e = inl refl
or_cases false b e = inr e

or_left : (a b : Bool) → a ≡ true → (a || b) ≡ true
or_left a b e = rw e refl

or_right : (a b : Bool) → b ≡ true → (a || b) ≡ true
or_right true b e = refl
or_right false b e = e

abbrev pub Has : List Id12 → Id12 → Type 0
Has ids id = has_object ids id ≡ true

-- ids that compare as equal are the same
same_by_order : (a b : Id12) → id12_cmp a b ≡ Equal → a ≡ b
same_by_order a b e = let bytes : a.0 ≡ b.0 = slice_cmp-IsAntisymmetric nat_cmp-IsAntisymmetric a.0 b.0 e in λ i. record { 0 = bytes i }

abbrev placed : Ordering → Id12 → Id12 → List Id12 → List Id12
placed o id x xs = match_ordering o (id ∷ x ∷ xs) (x ∷ xs) (x ∷ with_object xs id)

pub kept-with : (ids : List Id12) (id q : Id12) → Has ids q → Has (with_object ids id) q
kept-with [] id q h = absurd cc
kept-with (x ∷ xs) id q h = go (kept-with xs id q) (id12_cmp id x)
  where
    go : (Has xs q → Has (with_object xs id) q) → (o : Ordering) → Has (placed o id x xs) q
    go rest Less = or_right (same_id12 id q) (has_object (x ∷ xs) q) h
    go rest Equal = h
    go rest Greater = elim (or_cases (same_id12 x q) (has_object xs q) h) [
      | inl a ↦ or_left (same_id12 x q) (has_object (with_object xs id) q) a
      | inr b ↦ or_right (same_id12 x q) (has_object (with_object xs id) q) (rest b)
    ]

pub has-with : (ids : List Id12) (id : Id12) → Has (with_object ids id) id
has-with [] id = or_left (same_id12 id id) false (same_id12-self id)
has-with (x ∷ xs) id = go (has-with xs id) (id12_cmp id x) refl
  where
    go : Has (with_object xs id) id → (o : Ordering) → id12_cmp id x ≡ o → Has (placed o id x xs) id
    go rest Less e = or_left (same_id12 id id) (has_object (x ∷ xs) id) (same_id12-self id)
    go rest Equal e = or_left (same_id12 x id) (has_object xs id) (ap (λ (y : Id12). same_id12 y id) (sym (same_by_order id x e)) ∙ same_id12-self id)
    go rest Greater e = or_right (same_id12 x id) (has_object (with_object xs id) id) rest

pub only-with : (ids : List Id12) (id q : Id12) → Has (with_object ids id) q → Has ids q ⊎ (id ≡ q)
only-with [] id q h = elim (or_cases (same_id12 id q) false h) [
  | inl a ↦ inr (same_id12-true id q a)
  | inr b ↦ absurd cc
]
only-with (x ∷ xs) id q h = go (only-with xs id q) (id12_cmp id x) h
  where
    go : (Has (with_object xs id) q → Has xs q ⊎ (id ≡ q)) → (o : Ordering) → Has (placed o id x xs) q → Has (x ∷ xs) q ⊎ (id ≡ q)
    go rest Less h = elim (or_cases (same_id12 id q) (has_object (x ∷ xs) q) h) [
      | inl a ↦ inr (same_id12-true id q a)
      | inr b ↦ inl b
    ]
    go rest Equal h = inl h
    go rest Greater h = elim (or_cases (same_id12 x q) (has_object (with_object xs id) q) h) [
      | inl a ↦ inl (or_left (same_id12 x q) (has_object xs q) a)
      | inr b ↦ elim (rest b) [
        | inl c ↦ inl (or_right (same_id12 x q) (has_object xs q) c)
        | inr d ↦ inr d
      ]
    ]
