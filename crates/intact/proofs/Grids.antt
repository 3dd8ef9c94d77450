-- What the grid of an array's chunks gives.
use Rattle.std.proofs.Common.{◌≡◌, ℕ, ◌≤◌, true, false, Bool, ◌&&◌, List, [], ◌∷◌, length, nat_eq, All, refl}
use Rattle.std.specs.Prelude.{nat_le}
use Rattle.std.specs.List.{AllByRecursion}
use Rattle.std.proofs.lemmas.List.Elements.{All-from_recursion}
use Rattle.std.proofs.lemmas.Bool.{leb-true}
use Rattle.zarr_meta.specs.Grids.{are_lengths, has_few_chunks, has_small_chunks, has_grid, chunk_bytes, most_chunk_length, most_chunk_bytes}

first : (a b : Bool) → (a && b) ≡ true → a ≡ true
first true b p = refl
first false b p = p

second : (a b : Bool) → (a && b) ≡ true → b ≡ true
second true b p = p
second false b p = cc

pub record IsGrid (size : ℕ) (chunks : List ℕ) : Type 0 where
  pub positive : All (λ n. 1 ≤ n) chunks
  pub small : chunk_bytes size chunks ≤ most_chunk_bytes

each-positive : (chunks : List ℕ) → are_lengths chunks ≡ true → AllByRecursion (λ n. 1 ≤ n) chunks
each-positive [] h = tt
each-positive (c ∷ cs) h =
    let own = first (nat_le 1 c && nat_le c most_chunk_length) (are_lengths cs) h in
    (leb-true 1 c (first (nat_le 1 c) (nat_le c most_chunk_length) own), each-positive cs (second (nat_le 1 c && nat_le c most_chunk_length) (are_lengths cs) h))

pub grid-parts : (size : ℕ) (shape chunks : List ℕ) → has_grid size shape chunks ≡ true → IsGrid size chunks
unfolding has_grid
grid-parts size shape chunks h =
    let three = first _ (has_small_chunks size chunks) h in
    let two = first _ (has_few_chunks shape chunks) three in
    record {
      positive = All-from_recursion (λ n. 1 ≤ n) chunks (each-positive chunks (second (nat_eq (length shape) (length chunks)) (are_lengths chunks) two));
      small = leb-true (chunk_bytes size chunks) most_chunk_bytes (second _ (has_small_chunks size chunks) h);
    }
