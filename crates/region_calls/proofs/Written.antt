-- The bytes that a chunk gets.
use Rattle.std.proofs.Common.{◌≡◌, ◌≤◌, ◌<◌, ◌+◌, ◌*◌, ◌/◌, ◌%◌, ◌⊎◌, inl, inr, ℕ, zero, suc, ℤ, Bool, true, false, cond, List, [], ◌∷◌, ◌++◌, length, refl, sym, ◌∙◌, ap, ap₂, arith, eqb-true, eq-eqb, lt-ltb}
use Rattle.std.specs.Prelude.{◌==◌, ◌&&◌, not, nat_le, nat_lt, Option, Some, None}
use Rattle.std.specs.FinMap.{FinMap, get}
use Rattle.std.specs.List.{list_all, flat_map}
use Rattle.std.proofs.Math.Nat.{mod-lt, div-lt_iff_lt-mul}
use Rattle.std.proofs.lemmas.Bool.{leb-true, le-leb}
use Rattle.zarr_path.specs.Paths.{path_cmp}
use Rattle.zarr_meta.specs.declared.kinds.IntKind.{IntKind}
use Rattle.zarr_meta.specs.declared.views.ArrayView.{ArrayView}
use Rattle.zarr_meta.specs.Grids.{product}
use Rattle.zarr_tree.specs.declared.edit.EditFault.{EditFault}
use Rattle.zarr_tree.specs.declared.edit.EditFault.TheVariants as E
use Rattle.zarr_tree.specs.Nodes.{Node, array_in, in_grid, chunk_length}
use Rattle.zarr_tree.specs.Edits.{at_node, at_array}
use Rattle.zarr_tree.proofs.Apply.{both, first, second}
use Rattle.zarr_changes.specs.Sets.{set_refusal}
use Rattle.session.specs.declared.chunks.Value.{Value}
use Rattle.session.specs.declared.chunks.Value.TheVariants.{Bytes, Fill}
use Rattle.region_cells.specs.Numbers.{bytes_of, element_at}
use Rattle.region_cells.specs.Boxes.{count_of, numbers_from}
use Rattle.region_cells.specs.Parts.{cell_in}
use Rattle.region_cells.specs.Walks.{chunk_cell, is_in_box, written_at, with_written}
use Rattle.array_region.specs.Reading.{Reads, fits}
use Rattle.array_region.specs.Writing.{is_covered, bytes_read, with_numbers, as_bytes, bytes_put}
use Rattle.region_calls.specs.ChunkTold.{value_of}
use Rattle.region_calls.specs.Written.{bytes_held}

-- ---- a chunk that is covered
flat_map_same : (f g : ℕ → List ℕ) (at count : ℕ) → ((place : ℕ) → at ≤ place → place < at + count → f place ≡ g place) → flat_map f (numbers_from at count) ≡ flat_map g (numbers_from at count)
flat_map_same f g at zero h = refl
flat_map_same f g at (suc count) h = ap₂ (λ a b. a ++ b) (h at (omega arith) (omega arith)) (flat_map_same f g (suc at) count (λ place low high. h place (omega arith) (omega arith)))

some_within : (n p place : ℕ) → place < n * p → 1 ≤ p
some_within n zero place h = let none : n * 0 ≡ 0 = omega arith in absurd (omega (arith, h, none))
some_within n (suc p) place h = omega arith

-- all its cells are in the box
covered_in : (from to chunks index : List ℕ) (place : ℕ) → is_covered from to chunks index ≡ true → place < product chunks → is_in_box from to (chunk_cell chunks index place) ≡ true
covered_in [] [] [] [] place c h = refl
covered_in [] [] [] (i ∷ index) place c h = cc
covered_in [] [] (n ∷ chunks) index place c h = cc
covered_in [] (b ∷ to) chunks index place c h = cc
covered_in (a ∷ from) [] chunks index place c h = cc
covered_in (a ∷ from) (b ∷ to) [] index place c h = cc
covered_in (a ∷ from) (b ∷ to) (n ∷ chunks) [] place c h = cc
covered_in (a ∷ from) (b ∷ to) (n ∷ chunks) (i ∷ index) place c h =
    let some : 1 ≤ product chunks = some_within n (product chunks) place h in
    let offset : place / product chunks < n = (div-lt_iff_lt-mul some).1 h in
    let sides = first (nat_le a (i * n) && nat_le (i * n + n) b) (is_covered from to chunks index) c in
    let low : a ≤ i * n = leb-true a (i * n) (first (nat_le a (i * n)) (nat_le (i * n + n) b) sides) in
    let high : i * n + n ≤ b = leb-true (i * n + n) b (second (nat_le a (i * n)) (nat_le (i * n + n) b) sides) in
    both _ _ (both _ _ (le-leb a (i * n + place / product chunks) (omega arith)) (lt-ltb (i * n + place / product chunks) b (omega arith)))
    (covered_in from to chunks index (place % product chunks) (second _ _ c) (mod-lt place some))

-- so its bytes don't matter
pub covered_same : (kind : IntKind) (big : Bool) (from to chunks index : List ℕ) (numbers : List ℤ) (a b : List ℕ) → is_covered from to chunks index ≡ true
    → with_written kind big from to chunks index numbers a ≡ with_written kind big from to chunks index numbers b
covered_same kind big from to chunks index numbers a b c =
    flat_map_same (λ place. written_at kind big from to numbers a place (chunk_cell chunks index place)) (λ place. written_at kind big from to numbers b place (chunk_cell chunks index place)) 0 (product chunks)
    (λ place low high.
    let it = covered_in from to chunks index place c (omega (arith, high)) in
    ap (λ t. cond t (bytes_of kind big (cell_in from to (chunk_cell chunks index place) numbers)) (element_at kind place a)) it
    ∙ sym (ap (λ t. cond t (bytes_of kind big (cell_in from to (chunk_cell chunks index place) numbers)) (element_at kind place b)) it))

-- ---- bytes that a tree takes
taken_by : (g l : Bool) (want got : ℕ) → cond (not g) (Some E.OutOfGrid) (cond (not l) (Some (E.ChunkLength want got)) None) ≡ None → l ≡ true
taken_by true true want got e = refl
taken_by true false want got e = cc
taken_by false l want got e = cc

pub taken_length : (nodes : FinMap path_cmp Node) (path index : List ℕ) (len : ℕ) (n : Node) (a : ArrayView) → get nodes path ≡ Some n → array_in n.text ≡ Some a → set_refusal nodes path index len ≡ None → len ≡ chunk_length a
taken_length nodes path index len n a f v e =
    eqb-true len (chunk_length a) (taken_by (in_grid a index) (len == chunk_length a) (chunk_length a) len
    (sym (ap (λ o. at_array o (fault n)) v) ∙ sym (ap (λ o. at_node o (λ m. at_array (array_in m.text) (fault m))) f) ∙ e))
  where
    fault : Node → ArrayView → Option EditFault
    fault m array = cond (not (in_grid array index)) (Some E.OutOfGrid) (cond (not (len == chunk_length array)) (Some (E.ChunkLength (chunk_length array) len)) None)

-- a list that isn't empty is one of bytes
as_is : (xs : List ℕ) → 1 ≤ length (as_bytes xs) → as_bytes xs ≡ xs
as_is xs h = by_test (list_all (λ n. nat_lt n 256) xs) h
  where
    by_test : (b : Bool) → 1 ≤ length (cond b xs []) → cond b xs [] ≡ xs
    by_test true g = refl
    by_test false g = absurd (omega (arith, g))

pub bytes_small : (xs : List ℕ) → list_all (λ n. nat_lt n 256) (as_bytes xs) ≡ true
bytes_small xs = by_test (list_all (λ n. nat_lt n 256) xs) refl
  where
    by_test : (b : Bool) → list_all (λ n. nat_lt n 256) xs ≡ b → list_all (λ n. nat_lt n 256) (cond b xs []) ≡ true
    by_test true e = e
    by_test false e = refl

-- ---- the chunk's bytes, by what was there
-- what was read of a chunk by which is held there
abbrev pub ValueIs : (from to chunks index : List ℕ) → Option (List ℕ) → Value → Type 0
ValueIs from to chunks index held value = ((is_covered from to chunks index ≡ true) × (value ≡ Fill)) ⊎ (held ≡ value_of value)

read_is : (array : ArrayView) (held : Option (List ℕ)) (value : Value) → held ≡ value_of value → bytes_read array value ≡ bytes_held array held
read_is array held Fill e = sym (ap (bytes_held array) e)
read_is array held (Bytes bytes) e = sym (ap (bytes_held array) e)

module _ (r : Reads) (index : List ℕ) (numbers : List ℤ) (value : Value) (rank : length index ≡ length r.array.chunks) (count : length numbers ≡ count_of r.from r.to) (some : 1 ≤ chunk_length r.array) (whole : length (bytes_put r index numbers value) ≡ chunk_length r.array) where
  bytes_are : bytes_put r index numbers value ≡ with_numbers r index numbers (bytes_read r.array value)
  bytes_are = as_is (with_numbers r index numbers (bytes_read r.array value)) (omega (arith, some, whole))

  does_fit : fits r index (bytes_read r.array value) numbers ≡ true
  does_fit = by_test (fits r index (bytes_read r.array value) numbers) refl (ap length (sym bytes_are) ∙ whole)
    where
      by_test : (b : Bool) → fits r index (bytes_read r.array value) numbers ≡ b → length (cond b (with_written r.array.kind r.array.big r.from r.to r.array.chunks index numbers (bytes_read r.array value)) (bytes_read r.array value)) ≡ chunk_length r.array
          → fits r index (bytes_read r.array value) numbers ≡ true
      by_test true e w = e
      by_test false e w = both _ _ (both _ _ (eq-eqb (length index) (length r.array.chunks) rank) (eq-eqb (length (bytes_read r.array value)) (chunk_length r.array) w)) (eq-eqb (length numbers) (count_of r.from r.to) count)

  pub put_is : (held : Option (List ℕ)) → ValueIs r.from r.to r.array.chunks index held value
      → bytes_put r index numbers value ≡ with_written r.array.kind r.array.big r.from r.to r.array.chunks index numbers (bytes_held r.array held)
  put_is held v =
      bytes_are ∙ ap (λ b. cond b (with_written r.array.kind r.array.big r.from r.to r.array.chunks index numbers (bytes_read r.array value)) (bytes_read r.array value)) does_fit ∙ by_value v
    where
      by_value : ValueIs r.from r.to r.array.chunks index held value
          → with_written r.array.kind r.array.big r.from r.to r.array.chunks index numbers (bytes_read r.array value) ≡ with_written r.array.kind r.array.big r.from r.to r.array.chunks index numbers (bytes_held r.array held)
      by_value (inl c) = covered_same r.array.kind r.array.big r.from r.to r.array.chunks index numbers (bytes_read r.array value) (bytes_held r.array held) c.0
      by_value (inr e) = ap (with_written r.array.kind r.array.big r.from r.to r.array.chunks index numbers) (read_is r.array held value e)
