-- Cells, their chunks and their places.
use Rattle.std.proofs.Common.{◌≡◌, ◌∙◌, ◌≤◌, ◌<◌, ◌+◌, ◌*◌, ◌/◌, ◌%◌, ℕ, suc, List, [], ◌∷◌, length, refl, ap, ap₂, sym, arith}
use Rattle.std.specs.List.{AllByRecursion}
use Rattle.std.specs.Prelude.{All}
use Rattle.std.proofs.Math.Nat.{mod-lt, mul-le-mul_right, div-add-mod, div-lt_iff_lt-mul}
use Rattle.std.proofs.lemmas.Nat.{div-mul-add, mod-mul-add}
use Rattle.zarr_meta.proofs.GridLaws.{positive}
use Rattle.std.proofs.lemmas.List.Elements.{recursion_from_All}
use Rattle.zarr_meta.specs.Grids.{product}
use Rattle.zarr_grid.specs.Cells.{chunk_of, place_of, IsCellAt}
use Rattle.zarr_grid.specs.Laws.{OneCellLaw}

-- one dimension more
within_more : (r n p m : ℕ) → r < n → p < m → r * m + p < n * m
within_more r n p m h k =
    let whole : (r + 1) * m ≤ n * m = mul-le-mul_right m (omega arith) in omega arith

within : (chunks cell : List ℕ) → length cell ≡ length chunks → AllByRecursion (λ n. 1 ≤ n) chunks → place_of chunks cell < product chunks
within [] cell h k = omega arith
within (n ∷ chunks) [] h k = absurd (omega arith)
within (n ∷ chunks) (c ∷ cell) h k =
    within_more (c % n) n (place_of chunks cell) (product chunks) (mod-lt c k.0) (within chunks cell (omega arith) k.1)

pub within_law : (chunks cell : List ℕ) → length cell ≡ length chunks → All (λ n. 1 ≤ n) chunks → place_of chunks cell < product chunks
within_law chunks cell h k = within chunks cell h (recursion_from_All (λ n. 1 ≤ n) chunks k)

-- ---- the one cell at a place

-- along a dimension: the chunk's first position, and the offset
abbrev cell_at : List ℕ → List ℕ → ℕ → List ℕ
cell_at [] index place = []
cell_at (n ∷ chunks) [] place = []
cell_at (n ∷ chunks) (i ∷ index) place = (i * n + place / product chunks) ∷ cell_at chunks index (place % product chunks)

heads_equal : (x y : ℕ) (xs ys : List ℕ) → x ∷ xs ≡ y ∷ ys → x ≡ y
heads_equal x y xs ys e = cc

tails_equal : (x y : ℕ) (xs ys : List ℕ) → x ∷ xs ≡ y ∷ ys → xs ≡ ys
tails_equal x y xs ys e = cc

offset_within : (place n m : ℕ) → 1 ≤ m → place < n * m → place / m < n
offset_within place n m h k = (div-lt_iff_lt-mul h).1 k

cell_found : (chunks index : List ℕ) (place : ℕ) → length index ≡ length chunks → AllByRecursion (λ n. 1 ≤ n) chunks → place < product chunks → IsCellAt chunks index place (cell_at chunks index place)
cell_found [] [] place h k l = record { rank = refl; chunk = refl; place_in_it = omega arith }
cell_found [] (i ∷ index) place h k l = absurd (omega arith)
cell_found (n ∷ chunks) [] place h k l = absurd (omega arith)
cell_found (n ∷ chunks) (i ∷ index) place h k l =
    let m = product chunks in
    let some : 1 ≤ product chunks = positive chunks k.1 in
    let offset : place / product chunks < n = offset_within place n (product chunks) some l in
    let rest = cell_found chunks index (place % product chunks) (omega arith) k.1 (mod-lt place some) in
    let split : product chunks * (place / product chunks) + place % product chunks ≡ place = div-add-mod place (product chunks) in
    record {
      rank = ap suc rest.rank;
      chunk = ap₂ (λ a b. a ∷ b) (div-mul-add i n (place / product chunks) offset) rest.chunk;
      place_in_it = ap₂ (λ a b. a * product chunks + b) (mod-mul-add i n (place / product chunks) offset) rest.place_in_it ∙ (omega arith);
    }

-- an offset and a place in the dimensions behind it are told by the whole place
told_apart : (r m p place : ℕ) → p < m → r * m + p ≡ place → (r ≡ place / m) × (p ≡ place % m)
told_apart r m p place h e = (sym (div-mul-add r m p h) ∙ ap (λ n. n / m) e, sym (mod-mul-add r m p h) ∙ ap (λ n. n % m) e)

no_other : (chunks index : List ℕ) (place : ℕ) (other : List ℕ) → AllByRecursion (λ n. 1 ≤ n) chunks → IsCellAt chunks index place other → other ≡ cell_at chunks index place
no_other [] index place [] k at = refl
no_other [] index place (c ∷ other) k at = absurd (omega (arith, at.rank))
no_other (n ∷ chunks) index place [] k at = absurd (omega (arith, at.rank))
no_other (n ∷ chunks) [] place (c ∷ other) k at = absurd (cc (at.chunk))
no_other (n ∷ chunks) (i ∷ index) place (c ∷ other) k at =
    let rank : length other ≡ length chunks = omega (arith, at.rank) in
    let parts = told_apart (c % n) (product chunks) (place_of chunks other) place (within chunks other rank k.1) at.place_in_it in
    let head : c / n ≡ i = heads_equal (c / n) i (chunk_of chunks other) index at.chunk in
    let tail : chunk_of chunks other ≡ index = tails_equal (c / n) i (chunk_of chunks other) index at.chunk in
    let split : n * (c / n) + c % n ≡ c = div-add-mod c n in
    let position : c ≡ i * n + place / product chunks = sym split ∙ ap₂ (λ a b. n * a + b) head parts.0 ∙ omega arith in
    ap₂ (λ a b. a ∷ b) position (no_other chunks index (place % product chunks) other k.1 (record { rank = rank; chunk = tail; place_in_it = parts.1 }))

pub one_cell_law : OneCellLaw
one_cell_law chunks index place h k l =
    let lengths = recursion_from_All (λ n. 1 ≤ n) chunks k in
    (cell_at chunks index place, cell_found chunks index place h lengths l, λ other at. no_other chunks index place other lengths at)
