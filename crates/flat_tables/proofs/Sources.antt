-- Tables that are made one at a time, and a table with a vector of these.
use Rattle.std.proofs.Common.{◌≡◌, ℕ, ◌+◌, ◌-◌, inl, inr, ◌≤◌, ◌<◌, ◌^◌, List, [], ◌∷◌, ◌++◌, length, map, drop, sym, ap, subst, ◌∙◌, arith, append_assoc, All}
use Rattle.std.specs.Prelude.{slice_get, Some}
use Rattle.std.proofs.lemmas.Bool.{cases_lt}
use Rattle.std.proofs.lemmas.Option.{slice_get_within, get_or_from_slice_get}
use Rattle.std.proofs.lemmas.List.{length-append, drop_more}
use Rattle.std.proofs.lemmas.List.Elements.{All-push, All-weaker}
use Rattle.flat_tables.specs.declared.flat.Flat.{Flat}
use Rattle.flat_tables.specs.Layout.{Block, blocks}
use Rattle.flat_tables.specs.Frames.{places}
use Rattle.flat_tables.specs.Trees.{part_of, layout, capped}
use Rattle.flat_tables.proofs.Vectors.{IsPlaced, table_placed}
use Rattle.flat_tables.proofs.Lengths.{Begun, begun, capped_on}
use Rattle.flat_tables.proofs.Folds.{layout_is}

drop_at : (bs : List Block) (i : ℕ) (b : Block) → slice_get bs i ≡ Some b → drop i bs ≡ b ∷ drop (i + 1) bs
drop_at bs i b is = drop_more bs i b (slice_get_within bs i b is) ∙ ap (λ (x : Block). x ∷ drop (i + 1) bs) (get_or_from_slice_get bs i b b is)

-- one more table was appended
pub one_appended : (bs : List Block) (i : ℕ) (b : Block) (out new : List ℕ) → slice_get bs i ≡ Some b → new ≡ out ++ b.bytes (length out) → Begun out new (λ e. blocks (drop (i + 1) bs) e) (blocks (drop i bs) (length out))
one_appended bs i b out new at is = begun out new (b.bytes (length out)) _ _ is (ap (λ xs. blocks xs (length out)) (drop_at bs i b at))

pub one_fits : (bs : List Block) (i e : ℕ) (b : Block) → slice_get bs i ≡ Some b → length (b.bytes e) + length (blocks (drop (i + 1) bs) (e + length (b.bytes e))) ≡ length (blocks (drop i bs) e)
one_fits bs i e b at = sym (length-append (b.bytes e) (blocks (drop (i + 1) bs) (e + length (b.bytes e)))) ∙ ap (λ xs. length (blocks xs e)) (sym (drop_at bs i b at))

-- ---- where they stand

-- the end behind one more table, as the machine holds it
pub one_end : (bs : List Block) (i e next total : ℕ) (b : Block) → slice_get bs i ≡ Some b → next ≡ capped (e + length (b.bytes e)) → capped (e + length (blocks (drop i bs) e)) ≡ total → capped (next + length (blocks (drop (i + 1) bs) next)) ≡ total
one_end bs i e next total b at is so_far =
    let rest = drop (i + 1) bs in
    let all : e + length (blocks (drop i bs) e) ≡ e + length (b.bytes e) + length (blocks rest (e + length (b.bytes e))) = omega (arith, one_fits bs i e b at) in
    rw is (capped_on (λ n. length (blocks rest n)) (e + length (b.bytes e)) ∙ ap capped (sym all)) ∙ so_far

-- the places up to one more table, where the bytes keep to a limit
pub one_place : (bs : List Block) (i e next place limit : ℕ) (b : Block) (each all : List ℕ) → limit < 2 ^ 64 - 1 → slice_get bs i ≡ Some b → IsPlaced b → place ≡ capped (b.place e) → next ≡ capped (e + length (b.bytes e))
    → (e ≤ limit → each ++ places (drop i bs) e ≡ all) → next ≤ limit → (each ++ place ∷ []) ++ places (drop (i + 1) bs) next ≡ all
one_place bs i e next place limit b each all small at placed place-is next-is so_far fits =
    let end : next ≡ e + length (b.bytes e) = omega arith in
    let here : place ≡ b.place e = omega (arith, placed.within e) in
    append_assoc each (place ∷ []) (places (drop (i + 1) bs) next)
    ∙ rw (end, here) (ap (λ xs. each ++ places xs e) (sym (drop_at bs i b at)))
    ∙ so_far (omega arith)

-- each place lies between where the tables begin and where they end
pub one_within : (from e next place : ℕ) (b : Block) (each : List ℕ) → from ≤ e → e < 2 ^ 64 → IsPlaced b → place ≡ capped (b.place e) → next ≡ capped (e + length (b.bytes e)) → All (λ p. (from ≤ p) × (p ≤ e)) each → All (λ p. (from ≤ p) × (p ≤ next)) (each ++ place ∷ [])
one_within from e next place b each behind small placed place-is next-is within =
    All-push (λ p. (from ≤ p) × (p ≤ next)) each place
    (All-weaker (λ p. (from ≤ p) × (p ≤ e)) (λ p. (from ≤ p) × (p ≤ next)) (λ p k. (k.0, omega (arith, k.1))) each within)
    (omega (arith, placed.after e), omega (arith, placed.within e))

pub flat_placed : (f : Flat) → IsPlaced (layout f)
flat_placed f = subst IsPlaced (sym (layout_is f)) (table_placed (map part_of f.slots.items))

-- what is told of each that was made
pub one_told : (P : ℕ → Type 0) (i : ℕ) → ((k : ℕ) → k < i → P k) → P i → (k : ℕ) → k < i + 1 → P k
one_told P i all here k lt = elim (cases_lt k i) [
  | inl below ↦ all k below
  | inr above ↦ let e : i ≡ k = omega arith in subst P e here
]
