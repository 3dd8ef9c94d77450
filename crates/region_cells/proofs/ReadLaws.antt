-- What reading the chunks of a box one after another comes to.
use Rattle.std.proofs.Common.{◌≡◌, ◌≢◌, ◌∙◌, ◌≤◌, ◌<◌, ◌*◌, ◌/◌, ◌⊎◌, ℕ, zero, suc, ℤ, pos, Bool, true, false, cond, List, [], ◌∷◌, length, map, get_or, replicate, inl, inr, refl, sym, ap, ap₂, arith, eq-eqb, ne_eqb}
use Rattle.std.specs.Prelude.{◌&&◌, Option, Some, None, zip}
use Rattle.std.proofs.Math.Nat.{div-lt_iff_lt-mul, div-mul-le_self}
use Rattle.std.proofs.lemmas.Bool.{cases_lt, cases_eq}
use Rattle.std.proofs.lemmas.List.{length-map, length-replicate, get_or-replicate, get_or-map, ext_get_or}
use Rattle.std.proofs.lemmas.Slice.Zip.{length-zip, get_or-zip}
use Rattle.zarr_meta.specs.declared.kinds.IntKind.{IntKind}
use Rattle.zarr_grid.specs.Cells.{chunk_of}
use Rattle.region_cells.specs.Boxes.{box_cells, count_of, IsInBox, place_in_box}
use Rattle.region_cells.specs.Parts.{ReadsPart, cell_in, number_in_chunk}
use Rattle.region_cells.specs.Walks.{AreGridded, chunks_met, firsts_of, ends_of, cell_at, is_same, with_part, with_chunk, with_chunks, number_held}
use Rattle.region_cells.proofs.PartLaws.{place_below}
use Rattle.region_cells.proofs.BoxLaws.{length-box, box_at, at_place, cell_back, whole_box}
use Rattle.region_cells.proofs.WalkLaws.{met_some, met_is, length-met, same_length_met}

-- ---- whether indices are the same
abbrev Tells : List ℕ → List ℕ → Type 0
Tells xs ys = ((is_same xs ys ≡ true) × (xs ≡ ys)) ⊎ ((is_same xs ys ≡ false) × (xs ≢ ys))

same_told : (xs ys : List ℕ) → Tells xs ys
same_told [] [] = inl (refl, refl)
same_told [] (y ∷ ys) = inr (refl, λ e. let d : length {A = ℕ} [] ≡ length (y ∷ ys) = ap length e in omega arith)
same_told (x ∷ xs) [] = inr (refl, λ e. let d : length (x ∷ xs) ≡ length {A = ℕ} [] = ap length e in omega arith)
same_told (x ∷ xs) (y ∷ ys) =
    elim (cases_eq x y) [
      | inr ne ↦ inr (ap (λ b. b && is_same xs ys) (ne_eqb x y ne), λ e. ne (heads x y xs ys e))
      | inl same ↦ elim (same_told xs ys) [
        | inl rest ↦ inl (ap (λ b. b && is_same xs ys) (eq-eqb x y same) ∙ rest.0, ap₂ (λ a b. a ∷ b) same rest.1)
        | inr rest ↦ inr (ap (λ b. b && is_same xs ys) (eq-eqb x y same) ∙ rest.0, λ e. rest.1 (tails x y xs ys e))
      ]
    ]
  where
    heads : (x y : ℕ) (xs ys : List ℕ) → x ∷ xs ≡ y ∷ ys → x ≡ y
    heads x y xs ys e = cc

    tails : (x y : ℕ) (xs ys : List ℕ) → x ∷ xs ≡ y ∷ ys → xs ≡ ys
    tails x y xs ys e = cc

-- ---- a part that was read
module _ (kind : IntKind) (big : Bool) (from to chunks : List ℕ) (rank : length from ≡ length to) where
  length-with_part : (index bytes : List ℕ) (numbers : List ℤ) → length numbers ≡ count_of from to → length (with_part kind big from to chunks index bytes numbers) ≡ count_of from to
  length-with_part index bytes numbers e =
      length-map (zip (box_cells from to) numbers) (λ p. cond (is_same (chunk_of chunks p.0) index) (number_in_chunk kind big chunks p.0 bytes) p.1)
      ∙ length-zip (box_cells from to) numbers ∙ omega (arith, length-box from to rank)

  -- the number at a place
  part_at : (index bytes : List ℕ) (numbers : List ℤ) → length numbers ≡ count_of from to → (k : ℕ) → k < count_of from to
      → get_or (with_part kind big from to chunks index bytes numbers) k (pos 0)
      ≡ cond (is_same (chunk_of chunks (cell_at from to k)) index) (number_in_chunk kind big chunks (cell_at from to k) bytes) (get_or numbers k (pos 0))
  part_at index bytes numbers e k h =
      get_or-map (λ (p : List ℕ × ℤ). cond (is_same (chunk_of chunks p.0) index) (number_in_chunk kind big chunks p.0 bytes) p.1) (zip (box_cells from to) numbers) k ([], pos 0) (pos 0)
      (omega (arith, length-zip (box_cells from to) numbers, length-box from to rank))
      ∙ ap (λ (p : List ℕ × ℤ). cond (is_same (chunk_of chunks p.0) index) (number_in_chunk kind big chunks p.0 bytes) p.1)
      (get_or-zip (box_cells from to) numbers k ([], pos 0) (omega (arith, length-box from to rank)) (omega arith))
      ∙ ap (λ cell. cond (is_same (chunk_of chunks cell) index) (number_in_chunk kind big chunks cell bytes) (get_or numbers k (pos 0))) (box_at from to k rank h)

  part_of_cell : (index bytes : List ℕ) (numbers : List ℤ) → length numbers ≡ count_of from to → (cell : List ℕ) → IsInBox from to cell
      → cell_in from to cell (with_part kind big from to chunks index bytes numbers)
      ≡ cond (is_same (chunk_of chunks cell) index) (number_in_chunk kind big chunks cell bytes) (cell_in from to cell numbers)
  part_of_cell index bytes numbers e cell h =
      part_at index bytes numbers e (place_in_box from to cell) (place_below from to cell h)
      ∙ ap (λ c. cond (is_same (chunk_of chunks c) index) (number_in_chunk kind big chunks c bytes) (cell_in from to cell numbers)) (cell_back from to cell h)

  told_whole : (index bytes : List ℕ) (old new : List ℤ) → length old ≡ count_of from to → ReadsPart kind big from to chunks index bytes old new
      → new ≡ with_part kind big from to chunks index bytes old
  told_whole index bytes old new e read =
      ext_get_or (pos 0) new (with_part kind big from to chunks index bytes old) (read.same_length ∙ e ∙ sym (length-with_part index bytes old e))
      (λ k less.
      let within : k < count_of from to = omega (arith, read.same_length) in
      let at = at_place from to k rank within in
      let cell = cell_at from to k in
      ap (λ q. get_or new q (pos 0)) (sym at.place)
      ∙ elim (same_told (chunk_of chunks cell) index) [
        | inl same ↦ read.inside cell at.in_box same.1 ∙ sym (ap (λ b. cond b (number_in_chunk kind big chunks cell bytes) (get_or old k (pos 0))) same.0)
        | inr other ↦ read.outside cell at.in_box other.1 ∙ ap (λ q. get_or old q (pos 0)) at.place ∙ sym (ap (λ b. cond b (number_in_chunk kind big chunks cell bytes) (get_or old k (pos 0))) other.0)
      ]
      ∙ sym (part_at index bytes old e k within))

  -- ---- chunks that were read, one after another
  abbrev IsOneOf : List (List ℕ) → List ℕ → Type 0
  IsOneOf [] index = ⊥
  IsOneOf (first ∷ rest) index = (index ≡ first) ⊎ IsOneOf rest index

  module _ (fill : ℤ) (held : List ℕ → Option (List ℕ)) (cell : List ℕ) (in_box : IsInBox from to cell) where
    -- the number of the cell's chunk, or the fill value while that chunk is still to be read
    abbrev IsRead : List (List ℕ) → List ℤ → Type 0
    IsRead met numbers = (IsOneOf met (chunk_of chunks cell) × (cell_in from to cell numbers ≡ fill)) ⊎ (cell_in from to cell numbers ≡ number_held kind big fill chunks cell (held (chunk_of chunks cell)))

    length-with_chunk : (index : List ℕ) (value : Option (List ℕ)) (numbers : List ℤ) → length numbers ≡ count_of from to → length (with_chunk kind big from to chunks index value numbers) ≡ count_of from to
    length-with_chunk index None numbers e = e
    length-with_chunk index (Some bytes) numbers e = length-with_part index bytes numbers e

    -- a chunk more
    read_more : (index : List ℕ) (met : List (List ℕ)) (numbers : List ℤ) → length numbers ≡ count_of from to → (value : Option (List ℕ)) → held index ≡ value
        → IsRead (index ∷ met) numbers → IsRead met (with_chunk kind big from to chunks index value numbers)
    read_more index met numbers e None v (inl (inl same, is)) = inr (is ∙ sym (ap (number_held kind big fill chunks cell) (ap held same ∙ v)))
    read_more index met numbers e None v (inl (inr later, is)) = inl (later, is)
    read_more index met numbers e None v (inr is) = inr is
    read_more index met numbers e (Some bytes) v so_far =
        elim (same_told (chunk_of chunks cell) index) [
          | inl same ↦ inr (part_of_cell index bytes numbers e cell in_box ∙ ap (λ b. cond b (number_in_chunk kind big chunks cell bytes) (cell_in from to cell numbers)) same.0
              ∙ sym (ap (number_held kind big fill chunks cell) (ap held same.1 ∙ v)))
          | inr other ↦
              let stays : cell_in from to cell (with_part kind big from to chunks index bytes numbers) ≡ cell_in from to cell numbers =
              part_of_cell index bytes numbers e cell in_box ∙ ap (λ b. cond b (number_in_chunk kind big chunks cell bytes) (cell_in from to cell numbers)) other.0 in
              kept index met (with_part kind big from to chunks index bytes numbers) numbers stays other.1 so_far
        ]
      where
        kept : (index : List ℕ) (met : List (List ℕ)) (new old : List ℤ) → cell_in from to cell new ≡ cell_in from to cell old → chunk_of chunks cell ≢ index → IsRead (index ∷ met) old → IsRead met new
        kept index met new old s ne (inl (inl same, is)) = absurd (ne same)
        kept index met new old s ne (inl (inr later, is)) = inl (later, s ∙ is)
        kept index met new old s ne (inr is) = inr (s ∙ is)

    read_all : (met : List (List ℕ)) (numbers : List ℤ) → length numbers ≡ count_of from to → IsRead met numbers
        → cell_in from to cell (with_chunks kind big from to chunks held met numbers) ≡ number_held kind big fill chunks cell (held (chunk_of chunks cell))
    read_all [] numbers e (inl none) = absurd none.0
    read_all [] numbers e (inr is) = is
    read_all (index ∷ met) numbers e so_far =
        read_all met (with_chunk kind big from to chunks index (held index) numbers) (length-with_chunk index (held index) numbers e) (read_more index met numbers e (held index) refl so_far)

  length-with_chunks : (held : List ℕ → Option (List ℕ)) (met : List (List ℕ)) (numbers : List ℤ) → length numbers ≡ count_of from to → length (with_chunks kind big from to chunks held met numbers) ≡ count_of from to
  length-with_chunks held [] numbers e = e
  length-with_chunks held (index ∷ met) numbers e = length-with_chunks held met (with_chunk kind big from to chunks index (held index) numbers) (go (held index))
    where
      go : (value : Option (List ℕ)) → length (with_chunk kind big from to chunks index value numbers) ≡ count_of from to
      go None = e
      go (Some bytes) = length-with_part index bytes numbers e

  one_of : (xs : List (List ℕ)) (k : ℕ) (x : List ℕ) → k < length xs → get_or xs k [] ≡ x → IsOneOf xs x
  one_of [] k x h e = absurd (omega arith)
  one_of (y ∷ xs) zero x h e = inl (sym e)
  one_of (y ∷ xs) (suc k) x h e = inr (one_of xs k x (omega arith) e)

-- ---- each cell's chunk is one that the box meets
chunk_in : (chunks from to cell : List ℕ) → AreGridded chunks from to → IsInBox from to cell → IsInBox (firsts_of chunks from) (ends_of chunks to) (chunk_of chunks cell)
chunk_in [] [] [] [] g h = tt
chunk_in [] [] [] (x ∷ cell) g h = absurd h
chunk_in [] [] (b ∷ to) cell g h = absurd g
chunk_in [] (a ∷ from) to cell g h = absurd g
chunk_in (n ∷ chunks) [] to cell g h = absurd g
chunk_in (n ∷ chunks) (a ∷ from) [] cell g h = absurd g
chunk_in (n ∷ chunks) (a ∷ from) (b ∷ to) [] g h = absurd h
chunk_in (n ∷ chunks) (a ∷ from) (b ∷ to) (x ∷ cell) g h = (not_before (x / n) (a / n) (λ less. let before : x < a / n * n = (div-lt_iff_lt-mul g.0).0 less in omega (arith, div-mul-le_self a n, h.0)), met_some n x b g.0 h.1, chunk_in chunks from to cell g.2 h.2)
  where
    not_before : (p q : ℕ) → (p < q → ⊥) → q ≤ p
    not_before p q none = elim (cases_lt p q) [ inl less ↦ absurd (none less) | inr least ↦ least ]

is_met : (kind : IntKind) (big : Bool) (chunks from to cell : List ℕ) (rank : length from ≡ length to) → AreGridded chunks from to → IsInBox from to cell → IsOneOf kind big from to chunks rank (chunks_met chunks from to) (chunk_of chunks cell)
is_met kind big chunks from to cell rank g h =
    let some : 1 ≤ count_of from to = omega (arith, place_below from to cell h) in
    let there = chunk_in chunks from to cell g h in
    let ranks = same_length_met chunks from to g in
    let k = place_in_box (firsts_of chunks from) (ends_of chunks to) (chunk_of chunks cell) in
    let within = place_below (firsts_of chunks from) (ends_of chunks to) (chunk_of chunks cell) there in
    one_of kind big from to chunks rank (chunks_met chunks from to) k (chunk_of chunks cell) (omega (arith, within, length-met chunks from to g some))
    (ap (λ l. get_or l k []) (met_is chunks from to some) ∙ box_at (firsts_of chunks from) (ends_of chunks to) k ranks within ∙ cell_back (firsts_of chunks from) (ends_of chunks to) (chunk_of chunks cell) there)

same_rank_of : (chunks from to : List ℕ) → AreGridded chunks from to → length from ≡ length to
same_rank_of [] [] [] g = refl
same_rank_of [] [] (b ∷ to) g = absurd g
same_rank_of [] (a ∷ from) to g = absurd g
same_rank_of (n ∷ chunks) [] to g = absurd g
same_rank_of (n ∷ chunks) (a ∷ from) [] g = absurd g
same_rank_of (n ∷ chunks) (a ∷ from) (b ∷ to) g = ap suc (same_rank_of chunks from to g.2)

pub part_is : (kind : IntKind) (big : Bool) (from to chunks index bytes : List ℕ) (old new : List ℤ) → length from ≡ length to → length old ≡ count_of from to
    → ReadsPart kind big from to chunks index bytes old new → new ≡ with_part kind big from to chunks index bytes old
part_is kind big from to chunks index bytes old new rank e read = told_whole kind big from to chunks rank index bytes old new e read

pub box_read : (kind : IntKind) (big : Bool) (fill : ℤ) (chunks from to : List ℕ) (held : List ℕ → Option (List ℕ)) → AreGridded chunks from to
    → with_chunks kind big from to chunks held (chunks_met chunks from to) (replicate (count_of from to) fill)
    ≡ map (λ cell. number_held kind big fill chunks cell (held (chunk_of chunks cell))) (box_cells from to)
box_read kind big fill chunks from to held g =
    let rank = same_rank_of chunks from to g in
    let long : length (replicate (count_of from to) fill) ≡ count_of from to = length-replicate (count_of from to) fill in
    whole_box (λ cell. number_held kind big fill chunks cell (held (chunk_of chunks cell))) from to (with_chunks kind big from to chunks held (chunks_met chunks from to) (replicate (count_of from to) fill)) rank
    (length-with_chunks kind big from to chunks rank held (chunks_met chunks from to) (replicate (count_of from to) fill) long)
    (λ cell h. read_all kind big from to chunks rank fill held cell h (chunks_met chunks from to) (replicate (count_of from to) fill) long
    (inl (is_met kind big chunks from to cell rank g h, get_or-replicate (count_of from to) (place_in_box from to cell) fill (pos 0) (place_below from to cell h))))
