-- The cells of an array, and the chunks of its grid.
use Rattle.std.proofs.Common.{◌≡◌, ◌∙◌, ◌≤◌, ◌<◌, ◌+◌, ◌*◌, ◌/◌, ◌==◌, ℕ, suc, List, [], ◌∷◌, true, length, map, nat_lt, refl, ap, sym, arith, lt-ltb, eq-eqb}
use Rattle.std.specs.Prelude.{zip}
use Rattle.std.specs.List.{AllByRecursion}
use Rattle.std.specs.Int.{div_ceil}
use Rattle.std.proofs.Math.Nat.{div-lt_iff_lt-mul, mul-le-mul_right}
use Rattle.std.proofs.lemmas.Bool.{and_parts, and_from, eqb-true}
use Rattle.std.proofs.lemmas.Grind.{div_ceil_times}
use Rattle.std.proofs.lemmas.List.Elements.{recursion_from_All}
use borrow.Author.Tests.{ltb-true}
use Rattle.zarr_meta.specs.Grids.{grid_of, are_each_below, are_below}
use Rattle.zarr_grid.specs.Cells.{chunk_of}
use Rattle.zarr_grid.specs.Laws.{InGridLaw, FirstCellLaw}
use Rattle.zarr_grid.proofs.GridEnds.{length-grid_of}

below_told : (xs ys : List ℕ) → are_below xs ys ≡ true → (length xs ≡ length ys) × (are_each_below xs ys ≡ true)
below_told xs ys h =
    let parts = and_parts (length xs == length ys) (are_each_below xs ys) h in (eqb-true (length xs) (length ys) parts.0, parts.1)

below_when : (xs ys : List ℕ) → length xs ≡ length ys → are_each_below xs ys ≡ true → are_below xs ys ≡ true
below_when xs ys h k = and_from (length xs == length ys) (are_each_below xs ys) (eq-eqb (length xs) (length ys) h) k

-- ---- along one dimension

chunk_before : (p n c : ℕ) → 1 ≤ c → p < n → p / c < div_ceil n c
chunk_before p n c h k =
    let whole = div_ceil_times n c h in
    let before : p < div_ceil n c * c = omega (arith, whole.0) in (div-lt_iff_lt-mul h).1 before

first_before : (i n c : ℕ) → 1 ≤ c → i < div_ceil n c → i * c < n
first_before i n c h k =
    let whole = div_ceil_times n c h in
    let next : (i + 1) * c ≤ div_ceil n c * c = mul-le-mul_right c (omega arith) in omega (arith, whole.1)

-- ---- along all

length-chunk_of : (chunks cell : List ℕ) → length cell ≡ length chunks → length (chunk_of chunks cell) ≡ length cell
length-chunk_of chunks [] h = refl
length-chunk_of [] (p ∷ cell) h = absurd (omega arith)
length-chunk_of (c ∷ chunks) (p ∷ cell) h = ap suc (length-chunk_of chunks cell (omega arith))

abbrev first_cell : List ℕ → List ℕ → List ℕ
first_cell chunks index = map (λ p. p.0 * p.1) (zip index chunks)

length-first_cell : (chunks index : List ℕ) → length index ≡ length chunks → length (first_cell chunks index) ≡ length index
length-first_cell chunks [] h = refl
length-first_cell [] (i ∷ index) h = absurd (omega arith)
length-first_cell (c ∷ chunks) (i ∷ index) h = ap suc (length-first_cell chunks index (omega arith))

chunks_before : (shape chunks cell : List ℕ) → AllByRecursion (λ n. 1 ≤ n) chunks → are_each_below cell shape ≡ true → are_each_below (chunk_of chunks cell) (grid_of shape chunks) ≡ true
chunks_before shape chunks [] h k = refl
chunks_before [] chunks (p ∷ cell) h k = no_dimension chunks p cell
  where
    no_dimension : (chunks : List ℕ) (p : ℕ) (cell : List ℕ) → are_each_below (chunk_of chunks (p ∷ cell)) (grid_of [] chunks) ≡ true
    no_dimension [] p cell = refl
    no_dimension (c ∷ chunks) p cell = refl
chunks_before (n ∷ shape) [] (p ∷ cell) h k = refl
chunks_before (n ∷ shape) (c ∷ chunks) (p ∷ cell) h k =
    let parts = and_parts (nat_lt p n) (are_each_below cell shape) k in
    and_from (nat_lt (p / c) (div_ceil n c)) (are_each_below (chunk_of chunks cell) (grid_of shape chunks)) (lt-ltb (p / c) (div_ceil n c) (chunk_before p n c h.0 (ltb-true p n parts.0)))
    (chunks_before shape chunks cell h.1 parts.1)

firsts_before : (shape chunks index : List ℕ) → AllByRecursion (λ n. 1 ≤ n) chunks → are_each_below index (grid_of shape chunks) ≡ true → are_each_below (first_cell chunks index) shape ≡ true
firsts_before shape chunks [] h k = refl
firsts_before shape [] (i ∷ index) h k = refl
firsts_before [] (c ∷ chunks) (i ∷ index) h k = refl
firsts_before (n ∷ shape) (c ∷ chunks) (i ∷ index) h k =
    let parts = and_parts (nat_lt i (div_ceil n c)) (are_each_below index (grid_of shape chunks)) k in
    and_from (nat_lt (i * c) n) (are_each_below (first_cell chunks index) shape) (lt-ltb (i * c) n (first_before i n c h.0 (ltb-true i (div_ceil n c) parts.0))) (firsts_before shape chunks index h.1 parts.1)

pub in_grid_law : InGridLaw
in_grid_law shape chunks cell h k l =
    let told = below_told cell shape l in
    below_when (chunk_of chunks cell) (grid_of shape chunks) (length-chunk_of chunks cell (told.0 ∙ h) ∙ told.0 ∙ sym (length-grid_of shape chunks h))
    (chunks_before shape chunks cell (recursion_from_All (λ n. 1 ≤ n) chunks k) told.1)

pub first_cell_law : FirstCellLaw
first_cell_law shape chunks index h k l =
    let told = below_told index (grid_of shape chunks) l in
    let rank : length index ≡ length shape = told.0 ∙ length-grid_of shape chunks h in
    below_when (first_cell chunks index) shape (length-first_cell chunks index (rank ∙ h) ∙ rank) (firsts_before shape chunks index (recursion_from_All (λ n. 1 ≤ n) chunks k) told.1)
