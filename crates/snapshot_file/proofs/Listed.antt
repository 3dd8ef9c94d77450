-- A search by halves finds exactly the keys that are among those in order.
use Rattle.std.proofs.Common.{◌≡◌, ℕ, zero, suc, ◌≤◌, ◌<◌, ◌||◌, Bool, true, false, List, [], ◌∷◌, length, get_or, Option, Some, None, Result, Ok, Err, refl, sym, ap, ◌∙◌, arith, inl, inr, Ordering}
use Rattle.std.specs.Prelude.{is_ok, bytes_eq}
use Rattle.std.specs.List.{list_any}
use Rattle.std.specs.List.Sorted.{IsNonDecreasingBy, IsBinarySearchResult, IsSearchInRange}
use Rattle.std.specs.Ordering.{nat_cmp, is_lt, ordering_index}
use Rattle.std.specs.declared.cmp.Ordering.TheVariants.{Less, Equal, Greater}
use Rattle.std.specs.Cmp.Lexicographic.{slice_cmp}
use Rattle.std.specs.FinMap.{slice_cmp-IsAntisymmetric, nat_cmp-IsAntisymmetric}
use Rattle.std.proofs.lemmas.Bool.{cases_lt}
use Rattle.std.proofs.lemmas.Cmp.{nat_list_cmp_total, tied_itself}
use Rattle.std.proofs.lemmas.Slice.Eq.{bytes_eq-Decides}
use Rattle.flat_tables.specs.Rows.{Ascends}

abbrev pub cmp : List ℕ → List ℕ → Ordering
cmp a b = slice_cmp nat_cmp a b

less_is : (o : Ordering) → is_lt o ≡ true → o ≡ Less
less_is Less h = refl
less_is Equal h = absurd cc
less_is Greater h = absurd cc

-- ---- keys that ascend

above : {A : Type 0} (key : A → List ℕ) (before : List ℕ) (xs : List A) → Ascends key (Some before) xs → (j : ℕ) (d : A) → j < length xs → cmp before (key (get_or xs j d)) ≡ Less
above key before [] ascends j d lt = absurd (omega arith)
above key before (x ∷ xs) ascends zero d lt = less_is (cmp before (key x)) ascends.0
above key before (x ∷ xs) ascends (suc j) d lt =
    nat_list_cmp_total.trans before (key x) (key (get_or xs j d)) (less_is (cmp before (key x)) ascends.0) (above key (key x) xs ascends.1 j d (omega arith))

pairs_ascend : {A : Type 0} (key : A → List ℕ) (before : Option (List ℕ)) (xs : List A) → Ascends key before xs → (i j : ℕ) (d : A) → i < j → j < length xs → cmp (key (get_or xs i d)) (key (get_or xs j d)) ≡ Less
pairs_ascend key before [] ascends i j d less lt = absurd (omega arith)
pairs_ascend key before (x ∷ xs) ascends i zero d less lt = absurd (omega arith)
pairs_ascend key before (x ∷ xs) ascends zero (suc j) d less lt = above key (key x) xs ascends.1 j d (omega arith)
pairs_ascend key before (x ∷ xs) ascends (suc i) (suc j) d less lt = pairs_ascend key (Some (key x)) xs ascends.1 i j d (omega arith) (omega arith)

pub equal_is : (a b : List ℕ) → cmp a b ≡ Equal → a ≡ b
equal_is a b h = slice_cmp-IsAntisymmetric nat_cmp-IsAntisymmetric a b h

-- what stands before is no higher, compared with a third
rises : (a b m : List ℕ) (o : Ordering) → cmp b m ≡ o → cmp a b ≡ Less → ordering_index (cmp a m) ≤ ordering_index o
rises a b m Less is less = rw (nat_list_cmp_total.trans a b m less is) (omega arith)
rises a b m Equal is less = let at : cmp a m ≡ Less = ap (cmp a) (sym (equal_is b m is)) ∙ less in rw at (omega arith)
rises a b m Greater is less = index_small (cmp a m)
  where
    index_small : (o : Ordering) → ordering_index o ≤ 2
    index_small Less = omega arith
    index_small Equal = omega arith
    index_small Greater = omega arith

pub rises_by : {A : Type 0} (key : A → List ℕ) (xs : List A) (m : List ℕ) → Ascends key None xs → IsNonDecreasingBy (λ x. ordering_index (cmp (key x) m)) xs
rises_by key xs m ascends i j d le lt =
    elim (cases_lt i j) [
      | inl less ↦ rises (key (get_or xs i d)) (key (get_or xs j d)) m (cmp (key (get_or xs j d)) m) refl (pairs_ascend key None xs ascends i j d less lt)
      | inr ge ↦ let e : i ≡ j = omega arith in rw e (omega arith)
    ]

-- ---- whether some element passes a test

any_at : {A : Type 0} (p : A → Bool) (xs : List A) (i : ℕ) (d : A) → i < length xs → p (get_or xs i d) ≡ true → list_any p xs ≡ true
any_at p [] i d lt here = absurd (omega arith)
any_at p (x ∷ xs) zero d lt here = rw here refl
any_at p (x ∷ xs) (suc i) d lt here = later (p x) (list_any p xs) (any_at p xs i d (omega arith) here)
  where
    later : (a b : Bool) → b ≡ true → (a || b) ≡ true
    later true b e = refl
    later false b e = e

none_at : {A : Type 0} (p : A → Bool) (xs : List A) → ((i : ℕ) (d : A) → i < length xs → p (get_or xs i d) ≡ false) → list_any p xs ≡ false
none_at p [] not = refl
none_at p (x ∷ xs) not = let first : p x ≡ false = not 0 x (omega arith) in rw first (none_at p xs (λ i d lt. not (suc i) d (omega arith)))

not_same : (a b : List ℕ) (o : Ordering) (t : Bool) → bytes_eq a b ≡ t → cmp a b ≡ o → (o ≡ Equal → ⊥) → t ≡ false
not_same a b o true same is other =
    let e : a ≡ b = (bytes_eq-Decides a b).0 same in
    absurd (other (sym is ∙ ap (λ (x : List ℕ). cmp x b) e ∙ tied_itself nat_list_cmp_total b))
not_same a b o false same is other = refl

-- what a search for a key by halves answers
pub searched : {A : Type 0} (key : A → List ℕ) (xs : List A) (m : List ℕ) (r : Result ℕ ℕ) → Ascends key None xs → IsSearchInRange r (length xs) → IsBinarySearchResult (λ x. cmp (key x) m) xs r → is_ok r ≡ list_any (λ x. bytes_eq (key x) m) xs
searched key [] m (Ok i) ascends bound found = absurd (omega arith)
searched key (x ∷ xs) m (Ok i) ascends bound found =
    let e : key (get_or (x ∷ xs) i x) ≡ m = equal_is (key (get_or (x ∷ xs) i x)) m (found x) in
    sym (any_at (λ y. bytes_eq (key y) m) (x ∷ xs) i x bound ((bytes_eq-Decides (key (get_or (x ∷ xs) i x)) m).1 e))
searched key xs m (Err i) ascends bound found =
    let split = found (rises_by key xs m ascends) in
    sym (none_at (λ x. bytes_eq (key x) m) xs (λ k d lt. elim (cases_lt k i) [
      | inl less ↦ not_same (key (get_or xs k d)) m Less (bytes_eq (key (get_or xs k d)) m) refl (split.0 k d (omega arith) less) (λ e. cc)
      | inr ge ↦ not_same (key (get_or xs k d)) m Greater (bytes_eq (key (get_or xs k d)) m) refl (split.1 k d ge lt) (λ e. cc)
    ]))
