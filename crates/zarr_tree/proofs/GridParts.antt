-- What the grid of an array's chunks gives.
use Rattle.std.proofs.Common.{◌≡◌, ℕ, ◌≤◌, true, ◌&&◌, List, [], ◌∷◌, length, nat_eq, All}
use Rattle.std.specs.Prelude.{nat_le}
use Rattle.std.specs.List.{AllByRecursion}
use Rattle.std.proofs.lemmas.List.Elements.{All-from_recursion}
use Rattle.std.proofs.lemmas.Bool.{eqb-true, leb-true}
use Rattle.zarr_meta.specs.Grids.{are_lengths, has_few_chunks, has_small_chunks, has_grid, chunk_bytes, most_chunk_length, most_chunk_bytes}
use Rattle.zarr_tree.proofs.Apply.{first, second}

pub record IsGrid (size : ℕ) (shape chunks : List ℕ) : Type 0 where
  pub ranks : length shape ≡ length chunks
  pub positive : All (λ n. 1 ≤ n) chunks
  pub small : chunk_bytes size chunks ≤ most_chunk_bytes

each_positive : (chunks : List ℕ) → are_lengths chunks ≡ true → AllByRecursion (λ n. 1 ≤ n) chunks
each_positive [] h = tt
each_positive (c ∷ cs) h =
    let own = first (nat_le 1 c && nat_le c most_chunk_length) (are_lengths cs) h in
    (leb-true 1 c (first (nat_le 1 c) (nat_le c most_chunk_length) own), each_positive cs (second (nat_le 1 c && nat_le c most_chunk_length) (are_lengths cs) h))

pub grid_parts : (size : ℕ) (shape chunks : List ℕ) → has_grid size shape chunks ≡ true → IsGrid size shape chunks
unfolding has_grid
grid_parts size shape chunks h =
    let three = first _ (has_small_chunks size chunks) h in
    let two = first _ (has_few_chunks shape chunks) three in
    record {
      ranks = eqb-true _ _ (first (nat_eq (length shape) (length chunks)) (are_lengths chunks) two);
      positive = All-from_recursion (λ n. 1 ≤ n) chunks (each_positive chunks (second (nat_eq (length shape) (length chunks)) (are_lengths chunks) two));
      small = leb-true (chunk_bytes size chunks) most_chunk_bytes (second _ (has_small_chunks size chunks) h);
    }
