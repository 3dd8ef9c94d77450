-- Numbers that the type of an array holds, and chunks that a box covers.
use Rattle.std.proofs.Common.{◌≡◌, ◌≢◌, ◌∙◌, ◌≤◌, ◌<◌, ◌+◌, ◌*◌, ℕ, zero, suc, ℤ, pos, Bool, true, false, cond, List, [], ◌∷◌, length, get_or, refl, sym, ap, arith, eqb-true, eq-eqb}
use Rattle.std.specs.Prelude.{◌&&◌, ◌==◌, nat_le, Option, Some, None, option_map}
use Rattle.std.proofs.Math.Nat.{mul-le-mul_right}
use Rattle.zarr_meta.specs.declared.kinds.IntKind.{IntKind}
use Rattle.zarr_meta.specs.declared.kinds.IntKind.TheVariants as kind
use Rattle.zarr_meta.specs.Grids.{product, chunk_bytes, most_chunk_bytes}
use Rattle.zarr_meta.specs.Kinds.{size_of, is_in_range}
use Rattle.region_cells.specs.Rows.{AreInRange}
use Rattle.region_cells.specs.Walks.{IsFirstOutside}
use Rattle.store_api.specs.declared.machines.Refusal.TheVariants.{Region}
use Rattle.store_api.specs.declared.machines.RegionFault.TheVariants.{CellCount, CellRange}
use Rattle.array_region.specs.Writing.{is_covered, outside_from, cells_refused}

pub outside_none : (kind : IntKind) (numbers : List ℤ) (at : ℕ) → AreInRange kind numbers → outside_from kind numbers at ≡ None
outside_none kind [] at h = refl
outside_none kind (number ∷ numbers) at h =
    ap (λ b. cond b (outside_from kind numbers (suc at)) (Some at)) (h 0 (omega arith)) ∙ outside_none kind numbers (suc at) (λ k less. h (suc k) (omega (arith, less)))

pub outside_some : (kind : IntKind) (numbers : List ℤ) (k at : ℕ) → IsFirstOutside kind numbers k → outside_from kind numbers at ≡ Some (at + k)
outside_some kind [] k at f = absurd (let w = f.within in omega (arith, w))
outside_some kind (number ∷ numbers) zero at f =
    ap (λ b. cond b (outside_from kind numbers (suc at)) (Some at)) f.outside ∙ ap (λ (n : ℕ). Some n) (let same : at ≡ at + 0 = omega arith in same)
outside_some kind (number ∷ numbers) (suc k) at f =
    ap (λ b. cond b (outside_from kind numbers (suc at)) (Some at)) (f.before 0 (omega arith))
    ∙ outside_some kind numbers k (suc at) (record { within = let w = f.within in omega (arith, w); outside = f.outside; before = λ j less. f.before (suc j) (omega (arith, less)) })
    ∙ ap (λ (n : ℕ). Some n) (let same : suc at + k ≡ at + suc k = omega arith in same)

-- none is outside
none_outside : (kind : IntKind) (numbers : List ℤ) (at : ℕ) → outside_from kind numbers at ≡ None → AreInRange kind numbers
none_outside kind [] at e = λ k h. absurd (omega (arith, h))
none_outside kind (number ∷ numbers) at e = by_test (λ d. none_outside kind numbers (suc at) d) (is_in_range kind number) refl e
  where
    each : is_in_range kind number ≡ true → AreInRange kind numbers → (k : ℕ) → k < suc (length numbers) → is_in_range kind (get_or (number ∷ numbers) k (pos 0)) ≡ true
    each t rest zero h = t
    each t rest (suc k) h = rest k (omega (arith, h))

    by_test : (outside_from kind numbers (suc at) ≡ None → AreInRange kind numbers) → (b : Bool) → is_in_range kind number ≡ b → cond b (outside_from kind numbers (suc at)) (Some at) ≡ None → AreInRange kind (number ∷ numbers)
    by_test rest true t d = each t (rest d)
    by_test rest false t d = cc

-- so the numbers aren't refused
pub record AreNumbers (kind : IntKind) (count : ℕ) (numbers : List ℤ) : Type 0 where
  pub whole : length numbers ≡ count
  pub range : AreInRange kind numbers

pub not_refused : (kind : IntKind) (count : ℕ) (numbers : List ℤ) → cells_refused kind count numbers ≡ None → AreNumbers kind count numbers
not_refused kind count numbers e = by_count (length numbers == count) refl e
  where
    by_range : length numbers ≡ count → (o : Option ℕ) → outside_from kind numbers 0 ≡ o → option_map (λ at. Region (CellRange at)) o ≡ None → AreNumbers kind count numbers
    by_range same None r d = record { whole = same; range = none_outside kind numbers 0 r }
    by_range same (Some at) r d = cc

    by_count : (b : Bool) → (length numbers == count) ≡ b → cond b (option_map (λ at. Region (CellRange at)) (outside_from kind numbers 0)) (Some (Region (CellCount count (length numbers)))) ≡ None → AreNumbers kind count numbers
    by_count true t d = by_range (eqb-true (length numbers) count t) (outside_from kind numbers 0) refl d
    by_count false t d = cc

-- which refusal there is
module _ (kind : IntKind) (count : ℕ) (numbers : List ℤ) (same : length numbers ≡ count) where
  by_places : cells_refused kind count numbers ≡ option_map (λ at. Region (CellRange at)) (outside_from kind numbers 0)
  by_places = ap (λ b. cond b (option_map (λ at. Region (CellRange at)) (outside_from kind numbers 0)) (Some (Region (CellCount count (length numbers))))) (eq-eqb (length numbers) count same)

  pub range_refused : (at : ℕ) → IsFirstOutside kind numbers at → Some (Region (CellRange at)) ≡ cells_refused kind count numbers
  range_refused at f =
      let first : 0 + at ≡ at = omega arith in
      sym (by_places ∙ ap (option_map (λ at. Region (CellRange at))) (outside_some kind numbers at 0 f ∙ ap (λ (n : ℕ). Some n) first))

  pub none_refused : AreInRange kind numbers → None ≡ cells_refused kind count numbers
  none_refused h = sym (by_places ∙ ap (option_map (λ at. Region (CellRange at))) (outside_none kind numbers 0 h))

pub not_same : (a b : ℕ) → (a ≡ b → ⊥) → (a == b) ≡ false
not_same a b ne = by_test (a == b) refl
  where
    by_test : (t : Bool) → (a == b) ≡ t → t ≡ false
    by_test true e = absurd (ne (eqb-true a b e))
    by_test false e = refl

and_false : (a : Bool) → (a && false) ≡ false
and_false true = refl
and_false false = refl

-- an index that has no number for each dimension is that of no chunk that is covered
pub uncovered : (from to chunks index : List ℕ) → length index ≢ length chunks → is_covered from to chunks index ≡ false
uncovered [] [] [] [] ne = absurd (ne refl)
uncovered [] [] [] (i ∷ index) ne = refl
uncovered [] [] (n ∷ chunks) index ne = refl
uncovered [] (b ∷ to) chunks index ne = refl
uncovered (a ∷ from) [] chunks index ne = refl
uncovered (a ∷ from) (b ∷ to) [] index ne = refl
uncovered (a ∷ from) (b ∷ to) (n ∷ chunks) [] ne = refl
uncovered (a ∷ from) (b ∷ to) (n ∷ chunks) (i ∷ index) ne =
    ap (λ r. nat_le a (i * n) && nat_le (i * n + n) b && r) (uncovered from to chunks index (λ e. ne (omega (arith, e)))) ∙ and_false (nat_le a (i * n) && nat_le (i * n + n) b)

pub some_size : (kind : IntKind) → 1 ≤ size_of kind
some_size kind.Int8 = omega arith
some_size kind.Uint8 = omega arith
some_size kind.Int16 = omega arith
some_size kind.Uint16 = omega arith
some_size kind.Int32 = omega arith
some_size kind.Uint32 = omega arith
some_size kind.Int64 = omega arith
some_size kind.Uint64 = omega arith

-- elements of one byte would be fewer bytes
pub one_byte : (kind : IntKind) (chunks : List ℕ) → chunk_bytes (size_of kind) chunks ≤ most_chunk_bytes → chunk_bytes 1 chunks ≤ most_chunk_bytes
one_byte kind chunks h = let few : 1 * product chunks ≤ size_of kind * product chunks = mul-le-mul_right (product chunks) (some_size kind) in omega (arith, few, h)
