-- Indices of chunks, as the lists of their numbers.
use Rattle.std.specs.Prelude.{ℕ, ◌^◌, Bool, List, nat_lt}
use Rattle.std.specs.declared.cmp.Ordering.{Ordering}
use Rattle.std.specs.Ordering.{nat_cmp}
use Rattle.std.specs.Cmp.Lexicographic.{slice_cmp}
use Rattle.std.specs.List.{list_all}

-- Icechunk specification, version 1, "ChunkIndices": each number of an index fits 32 bits
unfoldable pub is_index : List ℕ → Bool
is_index numbers = list_all (λ n. nat_lt n (2 ^ 32)) numbers

-- the order of lists
abbrev pub index_cmp : List ℕ → List ℕ → Ordering
index_cmp = slice_cmp nat_cmp
