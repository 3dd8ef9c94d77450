-- The cells of an array: the chunk of each, and its place there.
use Rattle.std.specs.Prelude.{◌≡◌, ℕ, ◌+◌, ◌*◌, ◌/◌, ◌%◌, List, [], ◌∷◌, length, map, zip}
use Rattle.zarr_meta.specs.Grids.{product}

-- Zarr v3 core specification, "Regular grids": along each dimension the number of a cell's chunk
abbrev pub chunk_of : List ℕ → List ℕ → List ℕ
chunk_of chunks cell = map (λ p. p.0 / p.1) (zip cell chunks)

-- and how far the cell lies from where that chunk begins
abbrev pub offsets_of : List ℕ → List ℕ → List ℕ
offsets_of chunks cell = map (λ p. p.0 % p.1) (zip cell chunks)

-- C order: how many elements stand before the one at these offsets, where those of the
-- last dimension stand side by side
abbrev pub c_order : List ℕ → List ℕ → ℕ
c_order [] offsets = 0
c_order (n ∷ chunks) [] = 0
c_order (n ∷ chunks) (offset ∷ offsets) = offset * product chunks + c_order chunks offsets

-- Zarr v3 `bytes` codec: the elements of a chunk stand in C order
abbrev pub place_of : List ℕ → List ℕ → ℕ
place_of chunks cell = c_order chunks (offsets_of chunks cell)

-- the cell stands in this chunk, at this place
pub record IsCellAt (chunks index : List ℕ) (place : ℕ) (cell : List ℕ) : Type 0 where
  pub rank : length cell ≡ length chunks
  pub chunk : chunk_of chunks cell ≡ index
  pub place_in_it : place_of chunks cell ≡ place
