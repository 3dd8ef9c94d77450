-- A search by halves finds what stands at a path.
use Rattle.std.proofs.Common.{◌≡◌, ◌∙◌, ℕ, zero, suc, ◌<◌, true, false, List, [], ◌∷◌, length, get_or, Option, None, Some, Result, Ok, Err, refl, sym, ap, arith, inl, inr, add-one}
use Rattle.std.specs.Prelude.{find}
use Rattle.std.specs.declared.cmp.Ordering.{Ordering}
use Rattle.std.specs.declared.cmp.Ordering.TheVariants.{Less, Equal, Greater}
use Rattle.std.specs.Ordering.{is_lt, is_eq, ordering_index, ordering_reverse}
use Rattle.std.specs.List.Sorted.{IsSearchInRange, IsBinarySearchResult, IsNonDecreasingBy}
use Rattle.std.proofs.lemmas.Bool.{cases_lt}
use Rattle.std.proofs.lemmas.List.Sorted.{searchable_from_sorted}
use Rattle.flat_tables.specs.Rows.{Ascends}
use Rattle.zarr_path.specs.Paths.{path_cmp, same_path}
use Rattle.zarr_path.proofs.OrderLaws.{total, exact}

less : (o : Ordering) → is_lt o ≡ true → o ≡ Less
less Less h = refl
less Equal h = cc
less Greater h = cc

not_tied : (p q : List ℕ) (o : Ordering) → path_cmp p q ≡ o → is_eq o ≡ false → same_path p q ≡ false
not_tied p q o e apart = ap is_eq e ∙ apart

module _ {A : Type 0} (key : A → List ℕ) where
  -- what stands at a path
  abbrev pub at_path : List A → List ℕ → Option A
  at_path xs path = find (λ (x : A). same_path (key x) path) xs

  adjacent : (before : Option (List ℕ)) (xs : List A) → Ascends key before xs → (k : ℕ) (d : A) → suc k < length xs → is_lt (path_cmp (key (get_or xs (suc k) d)) (key (get_or xs k d))) ≡ false
  adjacent before [] ascend k d lt = absurd (omega arith)
  adjacent before (x ∷ []) ascend k d lt = absurd (omega arith)
  adjacent before (x ∷ next ∷ xs) ascend zero d lt = ap is_lt (total.antisymm (key next) (key x) ∙ ap ordering_reverse (less _ ascend.1.0))
  adjacent before (x ∷ next ∷ xs) ascend (suc k) d lt = adjacent (Some (key x)) (next ∷ xs) ascend.1 k d (omega arith)

  rises : (xs : List A) (path : List ℕ) → Ascends key None xs → IsNonDecreasingBy (λ (x : A). ordering_index (path_cmp (key x) path)) xs
  rises xs path ascend = searchable_from_sorted total key xs path (λ k d low lt. rw add-one (adjacent None xs ascend k d (omega arith)))

  above : (p : List ℕ) (xs : List A) (at : ℕ) (d : A) → Ascends key (Some p) xs → at < length xs → path_cmp p (key (get_or xs at d)) ≡ Less
  above p [] at d ascend lt = absurd (omega arith)
  above p (next ∷ xs) zero d ascend lt = less _ ascend.0
  above p (next ∷ xs) (suc at) d ascend lt = total.trans p (key next) (key (get_or xs at d)) (less _ ascend.0) (above (key next) xs at d ascend.1 (omega arith))

  found_at : (before : Option (List ℕ)) (xs : List A) (path : List ℕ) (at : ℕ) (d : A) → Ascends key before xs → at < length xs → path_cmp (key (get_or xs at d)) path ≡ Equal → at_path xs path ≡ Some (get_or xs at d)
  found_at before [] path at d ascend lt is = absurd (omega arith)
  found_at before (x ∷ xs) path zero d ascend lt is =
      let here : same_path (key x) path ≡ true = ap is_eq is in
      rw here refl
  found_at before (x ∷ xs) path (suc at) d ascend lt is =
      let lower : path_cmp (key x) path ≡ Less = ap (path_cmp (key x)) (sym (exact (key (get_or xs at d)) path is)) ∙ above (key x) xs at d ascend.1 (omega arith) in
      let apart : same_path (key x) path ≡ false = not_tied (key x) path Less lower refl in
      rw apart (found_at (Some (key x)) xs path at d ascend.1 (omega arith) is)

  none_at : (xs : List A) (path : List ℕ) → ((k : ℕ) (d : A) → k < length xs → same_path (key (get_or xs k d)) path ≡ false) → at_path xs path ≡ None
  none_at [] path apart = refl
  none_at (x ∷ xs) path apart =
      let here : same_path (key x) path ≡ false = apart 0 x (omega arith) in
      rw here (none_at xs path (λ k d lt. apart (suc k) d (omega arith)))

  -- what has this path is this one, or there is none
  abbrev pub IsFound : List A → List ℕ → Result ℕ ℕ → Type 0
  IsFound xs path (Ok at) = (d : A) → at_path xs path ≡ Some (get_or xs at d)
  IsFound xs path (Err at) = at_path xs path ≡ None

  pub searched : (xs : List A) (path : List ℕ) (r : Result ℕ ℕ) → Ascends key None xs → IsSearchInRange r (length xs) → IsBinarySearchResult (λ (x : A). path_cmp (key x) path) xs r → IsFound xs path r
  searched xs path (Ok at) ascend bound found = λ d. found_at None xs path at d ascend bound (found d)
  searched xs path (Err at) ascend bound found =
      let split = found (rises xs path ascend) in
      none_at xs path (λ k d lt. elim (cases_lt k at) [
        | inl below ↦ not_tied (key (get_or xs k d)) path Less (split.0 k d (omega arith) below) refl
        | inr ge ↦ not_tied (key (get_or xs k d)) path Greater (split.1 k d ge lt) refl
      ])
