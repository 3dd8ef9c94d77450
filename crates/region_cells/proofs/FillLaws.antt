-- Chunks that are filled, and the whole of a chunk that is written.
use Rattle.std.proofs.Common.{◌≡◌, ◌∙◌, ◌≤◌, ◌<◌, ◌+◌, ◌*◌, ◌/◌, ◌%◌, ◌⊎◌, ℕ, zero, suc, ℤ, Bool, true, false, cond, List, [], ◌∷◌, ◌++◌, length, take, drop, inl, inr, refl, sym, ap, ap₂, arith, append_assoc, append-nil, le-leb, lt-ltb, le-ltb}
use Rattle.std.specs.Prelude.{nat_lt, ◌&&◌}
use Rattle.std.specs.List.{flat_map}
use Rattle.std.proofs.Math.Nat.{mod-lt, div-add-mod, div-lt_iff_lt-mul, mul-le-mul_left}
use Rattle.std.proofs.lemmas.Nat.{div-mul-add, mod-mul-add}
use Rattle.std.proofs.lemmas.Bool.{cases_lt, lt-leb}
use Rattle.std.proofs.lemmas.List.{take_at, drop_at, drop-drop, length-drop, take-append-drop}
use Rattle.zarr_meta.specs.declared.kinds.IntKind.{IntKind}
use Rattle.zarr_meta.specs.Kinds.{size_of}
use Rattle.zarr_meta.specs.Grids.{product, chunk_bytes}
use Rattle.zarr_grid.specs.Cells.{chunk_of, place_of}
use Rattle.region_cells.specs.Numbers.{bytes_of, element_at}
use Rattle.region_cells.specs.Boxes.{numbers_from, IsInBox, IsBoxOver}
use Rattle.region_cells.specs.Parts.{WritesPart, cell_in}
use Rattle.region_cells.specs.Walks.{repeated, filled, chunk_cell, is_in_box, written_at, with_written}
use Rattle.region_cells.proofs.ElementLaws.{length-bytes_of}

-- ---- one time more
pub repeated_more : (bytes : List ℕ) (count : ℕ) → repeated bytes count ++ bytes ≡ repeated bytes (suc count)
repeated_more bytes zero = sym (append-nil bytes)
repeated_more bytes (suc count) = append_assoc bytes (repeated bytes count) bytes ∙ ap (λ l. bytes ++ l) (repeated_more bytes count)

drop_repeated : (bytes : List ℕ) (size place count : ℕ) → length bytes ≡ size → place < count → take size (drop (size * place) (repeated bytes count)) ≡ bytes
drop_repeated bytes size place zero e h = absurd (omega arith)
drop_repeated bytes size zero (suc count) e h = ap (λ q. take size (drop q (bytes ++ repeated bytes count))) (let none : size * 0 ≡ 0 = omega arith in none) ∙ take_at bytes (repeated bytes count) size e
drop_repeated bytes size (suc place) (suc count) e h =
    ap (λ q. take size (drop q (bytes ++ repeated bytes count))) (let split : size * suc place ≡ size + size * place = omega arith in split)
    ∙ ap (take size) (sym (drop-drop (size * place) size (bytes ++ repeated bytes count)))
    ∙ ap (λ l. take size (drop (size * place) l)) (drop_at bytes (repeated bytes count) size e)
    ∙ drop_repeated bytes size place count e (omega arith)

pub filled_at : (kind : IntKind) (big : Bool) (number : ℤ) (count place : ℕ) → place < count → element_at kind place (filled kind big number count) ≡ bytes_of kind big number
filled_at kind big number count place h = drop_repeated (bytes_of kind big number) (size_of kind) place count (length-bytes_of kind big number) h

-- ---- bytes are their elements, one after another
elements_from : (size at count : ℕ) (bytes : List ℕ) → length (drop (size * at) bytes) ≡ size * count → drop (size * at) bytes ≡ flat_map (λ place. take size (drop (size * place) bytes)) (numbers_from at count)
elements_from size at zero bytes e = nothing (drop (size * at) bytes) (e ∙ omega arith)
  where
    nothing : (l : List ℕ) → length l ≡ 0 → l ≡ []
    nothing [] h = refl
    nothing (x ∷ l) h = absurd (omega arith)
elements_from size at (suc count) bytes e =
    let next : size * at + size ≡ size * suc at = omega arith in
    let behind : drop size (drop (size * at) bytes) ≡ drop (size * suc at) bytes = drop-drop size (size * at) bytes ∙ ap (λ q. drop q bytes) next in
    sym (take-append-drop size (drop (size * at) bytes))
    ∙ ap (λ l. take size (drop (size * at) bytes) ++ l) (behind ∙ elements_from size (suc at) count bytes (ap length (sym behind) ∙ length-drop size (drop (size * at) bytes) ∙ omega arith))

flat_map_same : (f g : ℕ → List ℕ) (at count : ℕ) → ((place : ℕ) → at ≤ place → place < at + count → f place ≡ g place) → flat_map f (numbers_from at count) ≡ flat_map g (numbers_from at count)
flat_map_same f g at zero h = refl
flat_map_same f g at (suc count) h = ap₂ (λ a b. a ++ b) (h at (omega arith) (omega arith)) (flat_map_same f g (suc at) count (λ place low high. h place (omega arith) (omega arith)))

-- ---- the cell at a place of a chunk
record IsChunkCell (chunks index : List ℕ) (place : ℕ) (cell : List ℕ) : Type 0 where
  rank : length cell ≡ length chunks
  chunk : chunk_of chunks cell ≡ index
  there : place_of chunks cell ≡ place

some_elements : (from to chunks index : List ℕ) → IsBoxOver from to chunks index → 1 ≤ product chunks
some_elements [] [] [] [] over = omega arith
some_elements [] [] [] (i ∷ index) over = absurd over
some_elements [] [] (n ∷ chunks) index over = absurd over
some_elements [] (b ∷ to) chunks index over = absurd over
some_elements (a ∷ from) [] chunks index over = absurd over
some_elements (a ∷ from) (b ∷ to) [] index over = absurd over
some_elements (a ∷ from) (b ∷ to) (n ∷ chunks) [] over = absurd over
some_elements (a ∷ from) (b ∷ to) (n ∷ chunks) (i ∷ index) over =
    let rest = some_elements from to chunks index over.2 in
    let grows : n * 1 ≤ n * product chunks = mul-le-mul_left n rest in omega (arith, over.0)

cell_found : (from to chunks index : List ℕ) (place : ℕ) → IsBoxOver from to chunks index → place < product chunks → IsChunkCell chunks index place (chunk_cell chunks index place)
cell_found [] [] [] [] place over h = record { rank = refl; chunk = refl; there = omega arith }
cell_found [] [] [] (i ∷ index) place over h = absurd over
cell_found [] [] (n ∷ chunks) index place over h = absurd over
cell_found [] (b ∷ to) chunks index place over h = absurd over
cell_found (a ∷ from) [] chunks index place over h = absurd over
cell_found (a ∷ from) (b ∷ to) [] index place over h = absurd over
cell_found (a ∷ from) (b ∷ to) (n ∷ chunks) [] place over h = absurd over
cell_found (a ∷ from) (b ∷ to) (n ∷ chunks) (i ∷ index) place over h =
    let some = some_elements from to chunks index over.2 in
    let offset : place / product chunks < n = (div-lt_iff_lt-mul some).1 h in
    let rest = cell_found from to chunks index (place % product chunks) over.2 (mod-lt place some) in
    let split : product chunks * (place / product chunks) + place % product chunks ≡ place = div-add-mod place (product chunks) in
    record {
      rank = ap suc rest.rank;
      chunk = ap₂ (λ x y. x ∷ y) (div-mul-add i n (place / product chunks) offset) rest.chunk;
      there = ap₂ (λ x y. x * product chunks + y) (mod-mul-add i n (place / product chunks) offset) rest.there ∙ (omega arith);
    }

-- ---- whether a box has a cell
abbrev Tells : (from to cell : List ℕ) → Type 0
Tells from to cell = ((is_in_box from to cell ≡ true) × IsInBox from to cell) ⊎ ((is_in_box from to cell ≡ false) × (IsInBox from to cell → ⊥))

box_told : (from to cell : List ℕ) → Tells from to cell
box_told [] [] [] = inl (refl, tt)
box_told [] [] (x ∷ cell) = inr (refl, λ h. h)
box_told [] (b ∷ to) [] = inr (refl, λ h. h)
box_told [] (b ∷ to) (x ∷ cell) = inr (refl, λ h. h)
box_told (a ∷ from) [] [] = inr (refl, λ h. h)
box_told (a ∷ from) [] (x ∷ cell) = inr (refl, λ h. h)
box_told (a ∷ from) (b ∷ to) [] = inr (refl, λ h. h)
box_told (a ∷ from) (b ∷ to) (x ∷ cell) = go (box_told from to cell) (cases_lt x a) (cases_lt x b)
  where
    go : Tells from to cell → (x < a) ⊎ (a ≤ x) → (x < b) ⊎ (b ≤ x) → Tells (a ∷ from) (b ∷ to) (x ∷ cell)
    go rest (inl less) upper = inr (ap (λ t. t && nat_lt x b && is_in_box from to cell) (lt-leb a x less), λ h. omega (arith, h.0, less))
    go rest (inr least) (inr most) = inr (ap₂ (λ t u. t && u && is_in_box from to cell) (le-leb a x least) (le-ltb x b most), λ h. omega (arith, h.1, most))
    go (inl rest) (inr least) (inl less) = inl (ap₂ (λ t u. t && u && is_in_box from to cell) (le-leb a x least) (lt-ltb x b less) ∙ rest.0, (least, less, rest.1))
    go (inr rest) (inr least) (inl less) = inr (ap₂ (λ t u. t && u && is_in_box from to cell) (le-leb a x least) (lt-ltb x b less) ∙ rest.0, λ h. rest.1 h.2)

pub written_is : (kind : IntKind) (big : Bool) (from to chunks index : List ℕ) (numbers : List ℤ) (old new : List ℕ) → IsBoxOver from to chunks index → length old ≡ chunk_bytes (size_of kind) chunks
    → WritesPart kind big from to chunks index numbers old new → new ≡ with_written kind big from to chunks index numbers old
written_is kind big from to chunks index numbers old new over whole written =
    let start : size_of kind * 0 ≡ 0 = omega arith in
    let all : drop (size_of kind * 0) new ≡ new = ap (λ q. drop q new) start in
    sym all
    ∙ elements_from (size_of kind) 0 (product chunks) new (ap length all ∙ written.same_length ∙ whole)
    ∙ flat_map_same (λ place. element_at kind place new) (λ place. written_at kind big from to numbers old place (chunk_cell chunks index place)) 0 (product chunks)
    (λ place low high. each place (omega arith))
  where
    each : (place : ℕ) → place < product chunks → element_at kind place new ≡ written_at kind big from to numbers old place (chunk_cell chunks index place)
    each place h =
        let cell = chunk_cell chunks index place in
        let found = cell_found from to chunks index place over h in
        elim (box_told from to (chunk_cell chunks index place)) [
          | inl in_it ↦
              ap (λ q. element_at kind q new) (sym found.there) ∙ written.inside (chunk_cell chunks index place) in_it.1 found.chunk
              ∙ sym (ap (λ b. cond b (bytes_of kind big (cell_in from to (chunk_cell chunks index place) numbers)) (element_at kind place old)) in_it.0)
          | inr out ↦
              ap (λ q. element_at kind q new) (sym found.there) ∙ written.outside (chunk_cell chunks index place) found.rank out.1 found.chunk ∙ ap (λ q. element_at kind q old) found.there
              ∙ sym (ap (λ b. cond b (bytes_of kind big (cell_in from to (chunk_cell chunks index place) numbers)) (element_at kind place old)) out.0)
        ]

-- ---- what was written stands in front
pub front_written : (kind : IntKind) (big : Bool) (number : ℤ) (new rest : List ℕ) → new ≡ bytes_of kind big number ++ rest → take (size_of kind) new ≡ bytes_of kind big number
front_written kind big number new rest e = ap (take (size_of kind)) e ∙ take_at (bytes_of kind big number) rest (size_of kind) (length-bytes_of kind big number)
