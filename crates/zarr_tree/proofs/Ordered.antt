-- Ids and indices in their strict order, each once: they are the same ones.
use Rattle.std.proofs.Common.{◌≡◌, ◌∙◌, ℕ, Bool, true, false, cond, ◌&&◌, ◌||◌, T, List, [], ◌∷◌, map, Some, None, is_some, refl, sym, ap}
use Rattle.std.specs.declared.cmp.Ordering.{Ordering}
use Rattle.std.specs.declared.cmp.Ordering.TheVariants.{Less, Equal, Greater}
use Rattle.std.specs.Ordering.{eq_by_cmp, is_eq, is_lt}
use Rattle.std.specs.Cmp.{IsTotalOrder, Equal-is, both_ways, tied_itself}
use Rattle.std.specs.Cmp.Lexicographic.{nat_list_cmp_total}
use Rattle.std.specs.List.{list_any, list_all, AllByRecursion}
use Rattle.std.specs.List.Sorted.{IsStrictlySortedBy}
use Rattle.std.specs.FinMap.{FinMap, IsAntisymmetric, find, keys, entries, entries_sorted, is_sorted, from_entries, contains_key-keys, get-from_entries, slice_cmp-IsAntisymmetric, nat_cmp-IsAntisymmetric}
use Rattle.ice_ids.specs.declared.Id8.{Id8}
use Rattle.ice_ids.specs.Text.{same_id8, id8_cmp}
use Rattle.zarr_path.specs.Indices.{index_cmp}
use Rattle.zarr_path.proofs.OrderLaws.{same_path-true, same_path-refl}
use Rattle.zarr_tree.specs.Nodes.{same_numbers}
use Rattle.zarr_tree.specs.Touched.{lists, lists_index, IdsAscend, IndicesAscend}
use Rattle.zarr_tree.specs.Held.{ids_in_order, indices_in_order}
use Rattle.zarr_tree.proofs.Apply.{id-true, id-refl}

marked : (b : Bool) → is_some (cond b (Some (tt {0})) None) ≡ b
marked true = refl
marked false = refl

module _ {A : Type 0} (R : A → A → Ordering) (ordered : IsTotalOrder R) where
  find-marks : (xs : List A) (q : A) → find R q (map (λ (x : A). (x, tt {0})) xs) ≡ cond (list_any (eq_by_cmp R q) xs) (Some tt) None
  find-marks [] q = refl
  find-marks (x ∷ xs) q = elim (eq_by_cmp R q x) as (λ b. cond b (Some tt) (find R q (map (λ (x : A). (x, tt {0})) xs)) ≡ cond (b || list_any (eq_by_cmp R q) xs) (Some tt) None) [ true ↦ refl | false ↦ find-marks xs q ]

  any-in_order : (xs : List A) (q : A) → list_any (eq_by_cmp R q) (keys (from_entries {R = R} (map (λ (x : A). (x, tt {0})) xs))) ≡ list_any (eq_by_cmp R q) xs
  any-in_order xs q =
      sym (contains_key-keys (from_entries {R = R} (map (λ (x : A). (x, tt {0})) xs)) q)
      ∙ ap is_some (get-from_entries ordered (map (λ (x : A). (x, tt {0})) xs) q ∙ find-marks xs q) ∙ marked (list_any (eq_by_cmp R q) xs)

-- ---- ids
id_total : IsTotalOrder id8_cmp
id_total = record {
  antisymm = λ x y. nat_list_cmp_total.antisymm x.0 y.0;
  trans = λ x y z. nat_list_cmp_total.trans x.0 y.0 z.0;
  congr = λ x y z. nat_list_cmp_total.congr x.0 y.0 z.0;
}

id_exact : IsAntisymmetric id8_cmp
id_exact x y e = let bytes : x.0 ≡ y.0 = slice_cmp-IsAntisymmetric nat_cmp-IsAntisymmetric x.0 y.0 e in λ i. record { 0 = bytes i }

tied : (r : Ordering) → is_eq r ≡ true → r ≡ Equal
tied r e = (Equal-is r).0 e

same_ids : (x q : Id8) → same_id8 x q ≡ eq_by_cmp id8_cmp q x
same_ids x q = both_ways _ _
    (λ e. ap (eq_by_cmp id8_cmp q) (id-true x q e) ∙ ap is_eq (tied_itself id_total q))
    (λ e. ap (same_id8 x) (id_exact q x (tied (id8_cmp q x) e)) ∙ id-refl x)

lists-any : (xs : List Id8) (q : Id8) → lists xs q ≡ list_any (eq_by_cmp id8_cmp q) xs
lists-any [] q = refl
lists-any (x ∷ xs) q = λ i. same_ids x q i || lists-any xs q i

pub lists-in_order : (xs : List Id8) (q : Id8) → lists (ids_in_order xs) q ≡ lists xs q
lists-in_order xs q = lists-any (ids_in_order xs) q ∙ any-in_order id8_cmp id_total xs q ∙ sym (lists-any xs q)

-- ---- indices
turned : (x q : List ℕ) → same_numbers x q ≡ same_numbers q x
turned x q = both_ways _ _
    (λ e. ap (same_numbers q) (same_path-true x q e) ∙ same_path-refl q)
    (λ e. ap (same_numbers x) (same_path-true q x e) ∙ same_path-refl x)

indices-any : (xs : List (List ℕ)) (q : List ℕ) → lists_index xs q ≡ list_any (eq_by_cmp index_cmp q) xs
indices-any [] q = refl
indices-any (x ∷ xs) q = λ i. turned x q i || indices-any xs q i

pub lists_index-in_order : (xs : List (List ℕ)) (q : List ℕ) → lists_index (indices_in_order xs) q ≡ lists_index xs q
lists_index-in_order xs q = indices-any (indices_in_order xs) q ∙ any-in_order index_cmp nat_list_cmp_total xs q ∙ sym (indices-any xs q)

-- ---- the order
first_of : (a b : Bool) → T (a && b) → T a
first_of true b p = tt
first_of false b p = p

second_of : (a b : Bool) → T (a && b) → T b
second_of true b p = p
second_of false b p = absurd p

less : (o : Ordering) → T (is_lt o) → o ≡ Less
less Less p = refl
less Equal p = absurd p
less Greater p = absurd p

module _ {A : Type 0} (R : A → A → Ordering) where
  below_keys : (x : A) (es : List (A × Unit {0})) → T (list_all (λ (e : A × Unit {0}). is_lt (R x e.0)) es) → AllByRecursion (λ y. R x y ≡ Less) (map (λ (e : A × Unit {0}). e.0) es)
  below_keys x [] h = tt
  below_keys x (e ∷ es) h = (less (R x e.0) (first_of (is_lt (R x e.0)) _ h), below_keys x es (second_of (is_lt (R x e.0)) _ h))

  rising_keys : (es : List (A × Unit {0})) → T (is_sorted R es) → IsStrictlySortedBy R (map (λ (e : A × Unit {0}). e.0) es)
  unfolding IsStrictlySortedBy
  rising_keys [] h = tt
  rising_keys (e ∷ es) h =
      (below_keys e.0 es (first_of (list_all (λ (x : A × Unit {0}). is_lt (R e.0 x.0)) es) _ h), rising_keys es (second_of (list_all (λ (x : A × Unit {0}). is_lt (R e.0 x.0)) es) _ h))

  rises : (m : FinMap R (Unit {0})) → IsStrictlySortedBy R (keys m)
  rises m = rising_keys (entries m) (entries_sorted m)

pub ids-rise : (xs : List Id8) → IdsAscend (ids_in_order xs)
ids-rise xs = rises id8_cmp (from_entries {R = id8_cmp} (map (λ (x : Id8). (x, tt {0})) xs))

pub indices-rise : (xs : List (List ℕ)) → IndicesAscend (indices_in_order xs)
indices-rise xs = rises index_cmp (from_entries {R = index_cmp} (map (λ (x : List ℕ). (x, tt {0})) xs))
