-- The place of a cell, dimension by dimension.
use Rattle.std.proofs.Common.{◌≡◌, ◌∙◌, ◌≤◌, ◌<◌, ◌+◌, ◌*◌, ◌%◌, ℕ, List, [], ◌∷◌, length, subst, arith}
use Rattle.std.specs.List.{AllByRecursion}
use Rattle.std.proofs.Math.Nat.{mod-lt, mul-le-mul_left, mul-le-mul_right, mul_assoc}
use Rattle.zarr_meta.specs.Grids.{product}
use Rattle.zarr_grid.specs.Cells.{place_of}
use Rattle.zarr_meta.proofs.GridLaws.{positive}

-- the place in the dimensions so far, by those that are left
pub record IsPlaceSoFar (place : ℕ) (chunks cell all_chunks all_cell : List ℕ) : Type 0 where
  pub told : place * product chunks + place_of chunks cell ≡ place_of all_chunks all_cell
  pub room : (place + 1) * product chunks ≤ product all_chunks
  pub rank : length cell ≡ length chunks
  pub lengths : AllByRecursion (λ n. 1 ≤ n) chunks

moved_on : (place r n m rest : ℕ) → (place * n + r) * m + rest ≡ place * (n * m) + (r * m + rest)
moved_on place r n m rest = omega (arith, mul_assoc place n m)

roomy : (place r n m : ℕ) → r < n → (place * n + r + 1) * m ≤ (place + 1) * (n * m)
roomy place r n m h =
    let less : (place * n + r + 1) * m ≤ (place * n + n) * m = mul-le-mul_right m (omega arith) in
    omega (arith, mul_assoc place n m)

step : (place p n : ℕ) (chunks cell all_chunks all_cell : List ℕ) → IsPlaceSoFar place (n ∷ chunks) (p ∷ cell) all_chunks all_cell → IsPlaceSoFar (place * n + p % n) chunks cell all_chunks all_cell
step place p n chunks cell all_chunks all_cell so_far =
    let less : p % n < n = mod-lt p so_far.lengths.0 in
    let more : (place * n + p % n + 1) * product chunks ≤ (place + 1) * (n * product chunks) = roomy place (p % n) n (product chunks) less in
    let room : (place + 1) * (n * product chunks) ≤ product all_chunks = so_far.room in
    let rank : length (p ∷ cell) ≡ length (n ∷ chunks) = so_far.rank in
    record {
      told = moved_on place (p % n) n (product chunks) (place_of chunks cell) ∙ so_far.told;
      room = omega arith;
      rank = omega arith;
      lengths = so_far.lengths.1;
    }

-- the lists that are left, before and after a step
at_heads : (place p n : ℕ) (before_chunks chunks before_cell cell all_chunks all_cell : List ℕ) → before_cell ≡ p ∷ cell → before_chunks ≡ n ∷ chunks
    → IsPlaceSoFar place before_chunks before_cell all_chunks all_cell → IsPlaceSoFar place (n ∷ chunks) (p ∷ cell) all_chunks all_cell
at_heads place p n before_chunks chunks before_cell cell all_chunks all_cell e f so_far =
    let P : List ℕ → Type 0 = λ b. IsPlaceSoFar place b (p ∷ cell) all_chunks all_cell in
    let Q : List ℕ → Type 0 = λ a. IsPlaceSoFar place before_chunks a all_chunks all_cell in
    subst P f (subst Q e so_far)

pub stepped : (place p n : ℕ) (before_chunks chunks before_cell cell all_chunks all_cell : List ℕ) → before_cell ≡ p ∷ cell → before_chunks ≡ n ∷ chunks
    → IsPlaceSoFar place before_chunks before_cell all_chunks all_cell → IsPlaceSoFar (place * n + p % n) chunks cell all_chunks all_cell
stepped place p n before_chunks chunks before_cell cell all_chunks all_cell e f so_far =
    step place p n chunks cell all_chunks all_cell (at_heads place p n before_chunks chunks before_cell cell all_chunks all_cell e f so_far)

-- a place lies within the whole chunk
pub within_whole : (place : ℕ) (chunks cell all_chunks all_cell : List ℕ) → IsPlaceSoFar place chunks cell all_chunks all_cell → place < product all_chunks
within_whole place chunks cell all_chunks all_cell so_far =
    let least : (place + 1) * 1 ≤ (place + 1) * product chunks = mul-le-mul_left (place + 1) (positive chunks so_far.lengths) in
    omega (arith, so_far.room)

-- at the end it is the place
pub place_whole : (place : ℕ) (chunks cell all_chunks all_cell : List ℕ) → IsPlaceSoFar place chunks cell all_chunks all_cell → length chunks ≡ 0 → place ≡ place_of all_chunks all_cell
place_whole place [] cell all_chunks all_cell so_far h = omega (arith, so_far.told)
place_whole place (n ∷ chunks) cell all_chunks all_cell so_far h = absurd (omega arith)
