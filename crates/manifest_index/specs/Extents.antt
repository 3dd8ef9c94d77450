-- The least extents of some chunks.
use Rattle.std.specs.Prelude.{◌≡◌, ◌<◌, ◌≤◌, ◌+◌, ℕ, Bool, true, List, [], ◌∷◌}
use Rattle.std.specs.Prelude.{length, map, min, max, nat_lt, slice_index, All, HoldsAt}
use Rattle.std.specs.List.{slice_index_or, list_all, fold, range_with_len}
use Rattle.manifest_file.specs.declared.manifest.ChunkRef.{ChunkRef}
use Rattle.held_manifest.specs.LookUp.{within}

-- each number of an index is one behind which an extent of 32 bits can end
abbrev pub are_low : List ℕ → Bool
are_low index = list_all (λ n. nat_lt n 4294967295) index

-- the numbers of the chunks in dimension k
abbrev pub numbers : ℕ → List ChunkRef → List ℕ
numbers k refs = map (λ r. slice_index r.index k) refs

-- the least of some numbers
abbrev pub least : List ℕ → ℕ
least [] = 0
least (n ∷ ns) = fold min n ns

-- in dimension k: from the least number of the chunks up to the greatest, and one past that
abbrev pub extent_for : ℕ → List ChunkRef → ℕ × ℕ
extent_for k refs = (least (numbers k refs), fold max 0 (numbers k refs) + 1)

-- the extents of some chunks of this rank
unfoldable pub extents_for : (rank : ℕ) → List ChunkRef → List (ℕ × ℕ)
extents_for rank refs = map (λ k. extent_for k refs) (range_with_len 0 rank)

-- it holds of one of the elements
abbrev pub Has : {X : Type 0} → (X → Type 0) → List X → Type 0
Has P xs = (k : ℕ) × (k < length xs) × HoldsAt P xs k

-- the least extent in dimension k: it contains the number of each chunk, begins at that of
-- one, and ends one past that of one
abbrev pub IsExtent : ℕ → List ChunkRef → ℕ × ℕ → Type 0
IsExtent k refs e = All (λ r. (e.0 ≤ slice_index r.index k) × (slice_index r.index k < e.1)) refs
    × Has (λ r. slice_index r.index k ≡ e.0) refs × Has (λ r. slice_index r.index k + 1 ≡ e.1) refs

-- an extent for each dimension, the least one; together they contain the index of each chunk
abbrev pub AreExtents : ℕ → List ChunkRef → List (ℕ × ℕ) → Type 0
AreExtents rank refs extents =
    (length extents ≡ rank)
    × ((k : ℕ) (e : ℕ × ℕ) → k < rank → IsExtent k refs (slice_index_or extents k e))
    × All (λ r. within extents r.index ≡ true) refs
