-- Sets of ids in the order of their bytes.
use Rattle.std.proofs.Common.{◌≡◌, ◌↔◌, ℕ, zero, suc, ◌<◌, Bool, true, false, cond, ◌||◌, List, [], ◌∷◌, length, slice_index_or, refl, sym, ap, ◌∙◌, arith}
use Rattle.std.specs.Prelude.{Contains}
use Rattle.std.specs.declared.cmp.Ordering.{Ordering}
use Rattle.std.specs.declared.cmp.Ordering.TheVariants.{Equal}
use Rattle.std.specs.Ordering.{eq_by_cmp, is_eq}
use Rattle.std.specs.Cmp.{IsTotalOrder, Equal-is, both_ways, tied_itself}
use Rattle.std.specs.Cmp.Lexicographic.{nat_list_cmp_total}
use Rattle.std.specs.List.{list_any}
use Rattle.std.specs.BTreeMap.{is_at}
use Rattle.std.specs.FinMap.{IsAntisymmetric, slice_cmp-IsAntisymmetric, nat_cmp-IsAntisymmetric}
use Rattle.ice_ids.specs.declared.Id12.{Id12}
use Rattle.ice_ids.specs.Text.{same_id12, id12_cmp}
use Rattle.ice_ids.specs.Sets.{has_object}
use Rattle.ice_ids.proofs.TextLaws.{same_id12-true, same_id12-self}

id_total : IsTotalOrder id12_cmp
id_total = record {
  antisymm = λ x y. nat_list_cmp_total.antisymm x.0 y.0;
  trans = λ x y z. nat_list_cmp_total.trans x.0 y.0 z.0;
  congr = λ x y z. nat_list_cmp_total.congr x.0 y.0 z.0;
}

id_exact : IsAntisymmetric id12_cmp
id_exact x y e = let bytes : x.0 ≡ y.0 = slice_cmp-IsAntisymmetric nat_cmp-IsAntisymmetric x.0 y.0 e in λ i. record { 0 = bytes i }

tied : (r : Ordering) → is_eq r ≡ true → r ≡ Equal
tied r e = (Equal-is r).0 e

same_ids : (x q : Id12) → same_id12 x q ≡ eq_by_cmp id12_cmp q x
same_ids x q = both_ways _ _
    (λ e. ap (eq_by_cmp id12_cmp q) (same_id12-true x q e) ∙ ap is_eq (tied_itself id_total q))
    (λ e. ap (same_id12 x) (id_exact q x (tied (id12_cmp q x) e)) ∙ same_id12-self x)

pub contains_has : (ids : List Id12) (q : Id12) → list_any (is_at (id12_cmp q)) ids ≡ has_object ids q
contains_has [] q = refl
contains_has (x ∷ ids) q = λ i. sym (same_ids x q) i || contains_has ids q i

-- ---- as elements

later : (x id : Id12) (ids : List Id12) → Contains ids id → Contains (x ∷ ids) id
later x id ids has = (suc has.0, omega (arith, has.1), has.2)

or_true : (b : Bool) → (b || true) ≡ true
or_true true = refl
or_true false = refl

first_or_later : (x id : Id12) (ids : List Id12) (b : Bool) → same_id12 x id ≡ b → (has_object ids id ≡ true → Contains ids id) → (b || has_object ids id) ≡ true → Contains (x ∷ ids) id
first_or_later x id ids true same rest h = (0, omega arith, same_id12-true x id same)
first_or_later x id ids false same rest h = later x id ids (rest h)

listed : (ids : List Id12) (id : Id12) → has_object ids id ≡ true → Contains ids id
listed [] id h = absurd cc
listed (x ∷ ids) id h = first_or_later x id ids (same_id12 x id) refl (listed ids id) h

found : (ids : List Id12) (id : Id12) (k : ℕ) → k < length ids → slice_index_or ids k id ≡ id → has_object ids id ≡ true
found [] id k lt at = absurd (omega (arith, lt))
found (x ∷ ids) id zero lt at = ap (λ y. same_id12 y id || has_object ids id) at ∙ ap (λ b. b || has_object ids id) (same_id12-self id)
found (x ∷ ids) id (suc k) lt at = ap (λ b. same_id12 x id || b) (found ids id k (omega (arith, lt)) at) ∙ or_true (same_id12 x id)

pub has_listed : (ids : List Id12) (id : Id12) → (has_object ids id ≡ true) ↔ Contains ids id
has_listed ids id = (listed ids id, λ has. found ids id has.0 has.1 has.2)

-- ---- one more id

same_one : (id q : Id12) → is_at (id12_cmp id) q ≡ same_id12 id q
same_one id q = both_ways _ _
    (λ e. ap (same_id12 id) (sym (id_exact id q (tied (id12_cmp id q) e))) ∙ same_id12-self id)
    (λ e. ap (λ x. is_at (id12_cmp id) x) (sym (same_id12-true id q e)) ∙ ap is_eq (tied_itself id_total id))

either : (b c : Bool) → cond b true c ≡ (b || c)
either true c = refl
either false c = refl

pub one_more : (old new : List Id12) (id q : Id12) → list_any (is_at (id12_cmp q)) new ≡ cond (is_at (id12_cmp id) q) true (list_any (is_at (id12_cmp q)) old) → has_object new q ≡ has_object (id ∷ old) q
one_more old new id q is =
    sym (contains_has new q) ∙ is ∙ either (is_at (id12_cmp id) q) (list_any (is_at (id12_cmp q)) old)
    ∙ (λ i. same_one id q i || contains_has old q i)
