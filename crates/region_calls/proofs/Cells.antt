-- The numbers of an array's cells, where a box of them was written.
use Rattle.std.proofs.Common.{◌≡◌, ◌≤◌, ◌<◌, ◌+◌, ◌*◌, ◌/◌, ◌%◌, ◌⊎◌, inl, inr, ℕ, zero, suc, ℤ, Bool, true, false, cond, List, [], ◌∷◌, ◌++◌, length, take, drop, get_or, slice_index_or, refl, sym, ◌∙◌, ap, ap₂, subst, arith, le-leb, lt-ltb}
use Rattle.std.specs.Prelude.{◌&&◌, nat_le, nat_lt, zip, Option, Some, None}
use Rattle.std.specs.List.{Contains, flat_map}
use Rattle.std.proofs.Math.Nat.{div-add-mod, div-lt_iff_lt-mul, div-mul-le_self, mul-le-mul_left}
use Rattle.std.proofs.lemmas.Bool.{cases_lt, leb-true, ltb-true, false≢true}
use Rattle.std.proofs.lemmas.Nat.{div-mul-add, mod-mul-add}
use Rattle.std.proofs.lemmas.List.{take_at, drop_at, drop-drop, length-append, length-map}
use Rattle.std.proofs.lemmas.List.Elements.{Contains-get_or}
use Rattle.std.proofs.lemmas.Slice.Zip.{length-zip}
use Rattle.zarr_path.specs.Paths.{same_path}
use Rattle.zarr_path.proofs.OrderLaws.{same_path-true, same_path-refl}
use Rattle.zarr_meta.specs.declared.kinds.IntKind.{IntKind}
use Rattle.zarr_meta.specs.declared.views.ArrayView.{ArrayView}
use Rattle.zarr_meta.specs.Grids.{product}
use Rattle.zarr_meta.specs.Kinds.{size_of, is_in_range}
use Rattle.zarr_grid.specs.Cells.{chunk_of, place_of}
use Rattle.zarr_tree.specs.Nodes.{chunk_length}
use Rattle.zarr_tree.specs.Trees.{Tree}
use Rattle.zarr_tree.proofs.Apply.{both, first, second}
use Rattle.region_cells.specs.Numbers.{number_of, bytes_of, element_at}
use Rattle.region_cells.specs.Boxes.{numbers_from, count_of, IsInBox, place_in_box, IsBoxOver}
use Rattle.region_cells.specs.Parts.{cell_in, number_in_chunk}
use Rattle.region_cells.specs.Walks.{AreGridded, chunks_met, firsts_of, ends_of, repeated, chunk_cell, is_in_box, written_at, with_written, number_held}
use Rattle.region_cells.proofs.BoxLaws.{box_at, cell_back}
use Rattle.region_cells.proofs.ElementLaws.{whole_element, length-bytes_of}
use Rattle.region_cells.proofs.FillLaws.{filled_at}
use Rattle.region_cells.proofs.NumberLaws.{number_back}
use Rattle.region_cells.proofs.PartLaws.{place_below, element_below, same_rank}
use Rattle.region_cells.proofs.WalkLaws.{met_some, met_is, length-met, same_length_met}
use Rattle.array_region.specs.Cells.{cell_number}
use Rattle.array_region.specs.Planning.{IsBoxOf}
use Rattle.array_region.proofs.Ranged.{AreNumbers}
use Rattle.region_calls.specs.Written.{bytes_held}

-- ---- pieces of one length
pieces_at : (size : ℕ) (piece : ℕ → List ℕ) (at count place : ℕ) → ((k : ℕ) → at ≤ k → k < at + count → length (piece k) ≡ size) → place < count
    → take size (drop (size * place) (flat_map piece (numbers_from at count))) ≡ piece (at + place)
pieces_at size piece at zero place long less = absurd (omega (arith, less))
pieces_at size piece at (suc count) zero long less =
    ap (λ q. take size (drop q (piece at ++ flat_map piece (numbers_from (suc at) count)))) (let none : size * 0 ≡ 0 = omega arith in none)
    ∙ take_at (piece at) (flat_map piece (numbers_from (suc at) count)) size (long at (omega arith) (omega arith))
    ∙ ap piece (let same : at ≡ at + 0 = omega arith in same)
pieces_at size piece at (suc count) (suc place) long less =
    ap (λ q. take size (drop q (piece at ++ flat_map piece (numbers_from (suc at) count)))) (let split : size * suc place ≡ size + size * place = omega arith in split)
    ∙ ap (take size) (sym (drop-drop (size * place) size (piece at ++ flat_map piece (numbers_from (suc at) count))))
    ∙ ap (λ l. take size (drop (size * place) l)) (drop_at (piece at) (flat_map piece (numbers_from (suc at) count)) size (long at (omega arith) (omega arith)))
    ∙ pieces_at size piece (suc at) count place (λ k low high. long k (omega (arith, low)) (omega (arith, high))) (omega (arith, less))
    ∙ ap piece (let same : suc at + place ≡ at + suc place = omega arith in same)

length-repeated : (bytes : List ℕ) (size count : ℕ) → length bytes ≡ size → length (repeated bytes count) ≡ size * count
length-repeated bytes size zero e = omega arith
length-repeated bytes size (suc count) e = let rest = length-repeated bytes size count e in length-append bytes (repeated bytes count) ∙ omega (arith, e, rest)

-- ---- the cell at the place of a cell in its chunk
cell_there : (from to chunks index cell : List ℕ) → IsBoxOver from to chunks index → length cell ≡ length chunks → chunk_cell chunks (chunk_of chunks cell) (place_of chunks cell) ≡ cell
cell_there [] [] [] [] [] over e = refl
cell_there [] [] [] [] (x ∷ cell) over e = absurd (omega (arith, e))
cell_there [] [] [] (i ∷ index) cell over e = absurd over
cell_there [] [] (n ∷ chunks) index cell over e = absurd over
cell_there [] (b ∷ to) chunks index cell over e = absurd over
cell_there (a ∷ from) [] chunks index cell over e = absurd over
cell_there (a ∷ from) (b ∷ to) [] index cell over e = absurd over
cell_there (a ∷ from) (b ∷ to) (n ∷ chunks) [] cell over e = absurd over
cell_there (a ∷ from) (b ∷ to) (n ∷ chunks) (i ∷ index) [] over e = absurd (omega (arith, e))
cell_there (a ∷ from) (b ∷ to) (n ∷ chunks) (i ∷ index) (x ∷ cell) over e =
    let rank : length cell ≡ length chunks = omega (arith, e) in
    let below : place_of chunks cell < product chunks = element_below from to chunks index cell over.2 rank in
    let split : n * (x / n) + x % n ≡ x = div-add-mod x n in
    ap₂ (λ y ys. y ∷ ys) (ap (λ q. x / n * n + q) (div-mul-add (x % n) (product chunks) (place_of chunks cell) below) ∙ omega (arith, split))
    (ap (chunk_cell chunks (chunk_of chunks cell)) (mod-mul-add (x % n) (product chunks) (place_of chunks cell) below) ∙ cell_there from to chunks index cell over.2 rank)

-- ---- whether a box has a cell
box_has : (from to cell : List ℕ) → IsInBox from to cell → is_in_box from to cell ≡ true
box_has [] [] [] h = refl
box_has [] [] (x ∷ cell) h = absurd h
box_has [] (b ∷ to) cell h = absurd h
box_has (a ∷ from) [] cell h = absurd h
box_has (a ∷ from) (b ∷ to) [] h = absurd h
box_has (a ∷ from) (b ∷ to) (x ∷ cell) h = both _ _ (both _ _ (le-leb a x h.0) (lt-ltb x b h.1)) (box_has from to cell h.2)

has_box : (from to cell : List ℕ) → is_in_box from to cell ≡ true → IsInBox from to cell
has_box [] [] [] h = tt
has_box [] [] (x ∷ cell) h = cc
has_box [] (b ∷ to) cell h = cc
has_box (a ∷ from) [] cell h = cc
has_box (a ∷ from) (b ∷ to) [] h = cc
has_box (a ∷ from) (b ∷ to) (x ∷ cell) h =
    let sides = first (nat_le a x && nat_lt x b) (is_in_box from to cell) h in
    (leb-true a x (first (nat_le a x) (nat_lt x b) sides), ltb-true x b (second (nat_le a x) (nat_lt x b) sides), has_box from to cell (second (nat_le a x && nat_lt x b) (is_in_box from to cell) h))

box_hasn't : (from to cell : List ℕ) → (IsInBox from to cell → ⊥) → is_in_box from to cell ≡ false
box_hasn't from to cell out = by_test (is_in_box from to cell) refl
  where
    by_test : (b : Bool) → is_in_box from to cell ≡ b → is_in_box from to cell ≡ false
    by_test true e = absurd (out (has_box from to cell e))
    by_test false e = e

-- ---- each cell's chunk is one that the box meets
chunk_in : (chunks from to cell : List ℕ) → AreGridded chunks from to → IsInBox from to cell → IsInBox (firsts_of chunks from) (ends_of chunks to) (chunk_of chunks cell)
chunk_in [] [] [] [] g h = tt
chunk_in [] [] [] (x ∷ cell) g h = absurd h
chunk_in [] [] (b ∷ to) cell g h = absurd g
chunk_in [] (a ∷ from) to cell g h = absurd g
chunk_in (n ∷ chunks) [] to cell g h = absurd g
chunk_in (n ∷ chunks) (a ∷ from) [] cell g h = absurd g
chunk_in (n ∷ chunks) (a ∷ from) (b ∷ to) [] g h = absurd h
chunk_in (n ∷ chunks) (a ∷ from) (b ∷ to) (x ∷ cell) g h =
    (not_before (x / n) (a / n) (λ less. let before : x < a / n * n = (div-lt_iff_lt-mul g.0).0 less in omega (arith, div-mul-le_self a n, h.0)), met_some n x b g.0 h.1, chunk_in chunks from to cell g.2 h.2)
  where
    not_before : (p q : ℕ) → (p < q → ⊥) → q ≤ p
    not_before p q none = elim (cases_lt p q) [ inl less ↦ absurd (none less) | inr least ↦ least ]

is_met : (chunks from to cell : List ℕ) → AreGridded chunks from to → IsInBox from to cell → Contains (chunks_met chunks from to) (chunk_of chunks cell)
is_met chunks from to cell g h =
    let some : 1 ≤ count_of from to = omega (arith, place_below from to cell h) in
    let there = chunk_in chunks from to cell g h in
    let ranks = same_length_met chunks from to g in
    let k = place_in_box (firsts_of chunks from) (ends_of chunks to) (chunk_of chunks cell) in
    let within = place_below (firsts_of chunks from) (ends_of chunks to) (chunk_of chunks cell) there in
    subst (λ index. Contains (chunks_met chunks from to) index)
    (ap (λ l. get_or l k []) (met_is chunks from to some) ∙ box_at (firsts_of chunks from) (ends_of chunks to) k ranks within ∙ cell_back (firsts_of chunks from) (ends_of chunks to) (chunk_of chunks cell) there)
    (Contains-get_or (chunks_met chunks from to) k [] (omega (arith, within, length-met chunks from to g some)))

pub has_told : (xs : List (List ℕ)) (x : List ℕ) → Contains xs x ⊎ (Contains xs x → ⊥)
has_told [] x = inr (λ h. omega (arith, h.1))
has_told (y ∷ ys) x = by_test (same_path x y) refl (has_told ys x)
  where
    behind : same_path x y ≡ false → (Contains ys x → ⊥) → (k : ℕ) → k < suc (length ys) → slice_index_or (y ∷ ys) k x ≡ x → ⊥
    behind ne none zero less e = absurd (false≢true (sym ne ∙ ap (same_path x) e ∙ same_path-refl x))
    behind ne none (suc k) less e = none (k, omega (arith, less), e)

    by_test : (b : Bool) → same_path x y ≡ b → Contains ys x ⊎ (Contains ys x → ⊥) → Contains (y ∷ ys) x ⊎ (Contains (y ∷ ys) x → ⊥)
    by_test true e rest = inl (0, omega arith, sym (same_path-true x y e))
    by_test false e (inl h) = inl (suc h.0, omega (arith, h.1), h.2)
    by_test false e (inr none) = inr (λ h. behind e none h.0 h.1 h.2)

-- ---- a chunk that was written
module _ (kind : IntKind) (big : Bool) (from to chunks index : List ℕ) (numbers : List ℤ) (old : List ℕ) (whole : length old ≡ size_of kind * product chunks) where
  abbrev new : List ℕ
  new = with_written kind big from to chunks index numbers old

  long_at : (place : ℕ) → place < product chunks → length (element_at kind place old) ≡ size_of kind
  long_at place h = let most : size_of kind * (place + 1) ≤ size_of kind * product chunks = mul-le-mul_left (size_of kind) (omega (arith, h)) in whole_element kind place old (omega (arith, most, whole))

  piece_long : (place : ℕ) (cell : List ℕ) → place < product chunks → (b : Bool) → length (cond b (bytes_of kind big (cell_in from to cell numbers)) (element_at kind place old)) ≡ size_of kind
  piece_long place cell h true = length-bytes_of kind big (cell_in from to cell numbers)
  piece_long place cell h false = long_at place h

  element_written : (place : ℕ) → place < product chunks → element_at kind place new ≡ written_at kind big from to numbers old place (chunk_cell chunks index place)
  element_written place h =
      pieces_at (size_of kind) (λ k. written_at kind big from to numbers old k (chunk_cell chunks index k)) 0 (product chunks) place
      (λ k low high. piece_long k (chunk_cell chunks index k) (omega (arith, high)) (is_in_box from to (chunk_cell chunks index k))) h
      ∙ ap (λ k. written_at kind big from to numbers old k (chunk_cell chunks index k)) (let same : 0 + place ≡ place = omega arith in same)

  module _ (cell : List ℕ) (over : IsBoxOver from to chunks index) (rank : length cell ≡ length chunks) (there : chunk_of chunks cell ≡ index) where
    it : chunk_cell chunks index (place_of chunks cell) ≡ cell
    it = ap (λ i. chunk_cell chunks i (place_of chunks cell)) (sym there) ∙ cell_there from to chunks index cell over rank

    element_is : element_at kind (place_of chunks cell) new ≡ written_at kind big from to numbers old (place_of chunks cell) cell
    element_is = element_written (place_of chunks cell) (element_below from to chunks index cell over rank) ∙ ap (written_at kind big from to numbers old (place_of chunks cell)) it

    by_box : (b : Bool) → is_in_box from to cell ≡ b → number_in_chunk kind big chunks cell new ≡ number_of kind big (cond b (bytes_of kind big (cell_in from to cell numbers)) (element_at kind (place_of chunks cell) old))
    by_box b e = ap (number_of kind big) (element_is ∙ ap (λ t. cond t (bytes_of kind big (cell_in from to cell numbers)) (element_at kind (place_of chunks cell) old)) e)

    pub number_inside : IsInBox from to cell → number_in_chunk kind big chunks cell new ≡ number_of kind big (bytes_of kind big (cell_in from to cell numbers))
    number_inside h = by_box true (box_has from to cell h)

    pub number_outside : (IsInBox from to cell → ⊥) → number_in_chunk kind big chunks cell new ≡ number_in_chunk kind big chunks cell old
    number_outside out = by_box false (box_hasn't from to cell out)

-- ---- a tree with the numbers of a box
module _ (path : List ℕ) (array : ArrayView) (from to : List ℕ) (numbers : List ℤ) (t u : Tree) (count : ℕ) (box : IsBoxOf array from to count) (are : AreNumbers array.kind count numbers) (filled_in : is_in_range array.kind array.fill ≡ true)
    (whole : (index bytes : List ℕ) → t.chunk path index ≡ Some bytes → length bytes ≡ chunk_length array) where
  abbrev Touched : Type 0
  Touched = (index : List ℕ) → Contains (chunks_met array.chunks from to) index → u.chunk path index ≡ Some (with_written array.kind array.big from to array.chunks index numbers (bytes_held array (t.chunk path index)))

  abbrev old_at : List ℕ → List ℕ
  old_at index = bytes_held array (t.chunk path index)

  old_long : (index : List ℕ) → length (old_at index) ≡ size_of array.kind * product array.chunks
  old_long index = by_held (t.chunk path index) (whole index)
    where
      by_held : (o : Option (List ℕ)) → ((bytes : List ℕ) → o ≡ Some bytes → length bytes ≡ chunk_length array) → length (bytes_held array o) ≡ size_of array.kind * product array.chunks
      by_held None h = length-repeated (bytes_of array.kind array.big array.fill) (size_of array.kind) (product array.chunks) (length-bytes_of array.kind array.big array.fill)
      by_held (Some bytes) h = h bytes refl

  index_rank : (cell : List ℕ) → length cell ≡ length array.chunks → length (chunk_of array.chunks cell) ≡ length array.chunks
  index_rank cell rank = length-map (zip cell array.chunks) _ ∙ length-zip cell array.chunks ∙ omega (arith, rank)

  over_cell : (cell : List ℕ) → length cell ≡ length array.chunks → IsBoxOver from to array.chunks (chunk_of array.chunks cell)
  over_cell cell rank = box.over (chunk_of array.chunks cell) (index_rank cell rank)

  seen : (touched : Touched) (cell : List ℕ) → Contains (chunks_met array.chunks from to) (chunk_of array.chunks cell)
      → cell_number u path array cell ≡ number_in_chunk array.kind array.big array.chunks cell (with_written array.kind array.big from to array.chunks (chunk_of array.chunks cell) numbers (old_at (chunk_of array.chunks cell)))
  seen touched cell met = ap (number_held array.kind array.big array.fill array.chunks cell) (touched (chunk_of array.chunks cell) met)

  pub box_numbers : Touched → (cell : List ℕ) → IsInBox from to cell → cell_in from to cell numbers ≡ cell_number u path array cell
  box_numbers touched cell h =
      let index = chunk_of array.chunks cell in
      let rank : length cell ≡ length array.chunks = same_rank from to array.chunks array.chunks cell (box.over array.chunks refl) h in
      let below : place_in_box from to cell < length numbers = omega (arith, place_below from to cell h, are.whole, box.counted) in
      sym (
      seen touched cell (is_met array.chunks from to cell box.gridded h) ∙ number_inside array.kind array.big from to array.chunks index numbers (old_at index) (old_long index) cell (over_cell cell rank) rank refl h
      ∙ number_back array.kind array.big (cell_in from to cell numbers) (are.range (place_in_box from to cell) below)
      )

  pub other_numbers : Touched → ((index : List ℕ) → (Contains (chunks_met array.chunks from to) index → ⊥) → u.chunk path index ≡ t.chunk path index) → (cell : List ℕ) → length cell ≡ length array.chunks → (IsInBox from to cell → ⊥)
      → cell_number u path array cell ≡ cell_number t path array cell
  other_numbers touched others cell rank out =
      let index = chunk_of array.chunks cell in
      elim (has_told (chunks_met array.chunks from to) (chunk_of array.chunks cell)) [
        | inl met ↦ seen touched cell met ∙ number_outside array.kind array.big from to array.chunks index numbers (old_at index) (old_long index) cell (over_cell cell rank) rank refl out ∙ as_held (t.chunk path index)
        | inr none ↦ ap (number_held array.kind array.big array.fill array.chunks cell) (others (chunk_of array.chunks cell) none)
      ]
    where
      as_held : (o : Option (List ℕ)) → number_in_chunk array.kind array.big array.chunks cell (bytes_held array o) ≡ number_held array.kind array.big array.fill array.chunks cell o
      as_held None =
          ap (number_of array.kind array.big)
          (filled_at array.kind array.big array.fill (product array.chunks) (place_of array.chunks cell) (element_below from to array.chunks (chunk_of array.chunks cell) cell (over_cell cell rank) rank))
          ∙ number_back array.kind array.big array.fill filled_in
      as_held (Some bytes) = refl
