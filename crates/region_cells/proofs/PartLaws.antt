-- The part of a box in a chunk, row by row.
use Rattle.std.proofs.Common.{◌≡◌, ◌≢◌, ◌∙◌, ◌≤◌, ◌<◌, ◌+◌, ◌-◌, ◌*◌, ◌/◌, ◌%◌, ℕ, suc, ℤ, pos, Bool, List, [], ◌∷◌, length, take, drop, get_or, max, min, inl, inr, refl, sym, ap, ap₂, subst, arith}
use Rattle.std.proofs.Math.Nat.{mod-lt, mul-le-mul_right, mul-le-mul_left, div-add-mod, mul_assoc, mul_comm}
use Rattle.std.proofs.lemmas.List.{get_or-take, get_or-drop, length-take-le, length-drop}
use Rattle.std.proofs.lemmas.Nat.{div-mul-add, mod-mul-add, mul-add-lt}
use Rattle.std.proofs.lemmas.Bool.{cases_lt, cases_eq}
use borrow.Rule.Slice.PartMut.{put_mid}
use Rattle.zarr_meta.specs.declared.kinds.IntKind.{IntKind}
use Rattle.zarr_meta.specs.Kinds.{size_of}
use Rattle.zarr_meta.specs.Grids.{product, chunk_bytes}
use Rattle.zarr_grid.specs.Cells.{chunk_of, place_of}
use Rattle.region_cells.specs.Numbers.{number_of, element_at}
use Rattle.region_cells.specs.Boxes.{IsInBox, IsBoxOver, count_of, place_in_box}
use Rattle.region_cells.specs.declared.sides.Side.{Side}
use Rattle.region_cells.specs.declared.sides.Sides.{Sides}
use Rattle.region_cells.specs.Sides.{AreOver, Splits}
use Rattle.region_cells.specs.Rows.{ReadsRow}
use Rattle.region_cells.specs.Parts.{ReadsPart, cell_in, number_in_chunk}
use Rattle.region_cells.proofs.ElementLaws.{get_or-before, get_or-inside, get_or-behind, length-put_mid, element_within, element_behind}

-- ---- along one dimension
pub in_chunk : (x n i : ℕ) → 1 ≤ n → x / n ≡ i → (i * n ≤ x) × (x < i * n + n) × (x % n ≡ x - i * n)
in_chunk x n i h e =
    let split : n * (x / n) + x % n ≡ x = div-add-mod x n in
    let rest : x % n < n = mod-lt x h in
    let front : n * (x / n) ≡ n * i = ap (λ q. n * q) e in
    (omega arith, omega arith, omega arith)

pub chunk_there : (x n i : ℕ) → i * n ≤ x → x < i * n + n → (x / n ≡ i) × (x % n ≡ x - i * n)
chunk_there x n i h k =
    let split : i * n + (x - i * n) ≡ x = omega arith in
    (ap (λ y. y / n) (sym split) ∙ div-mul-add i n (x - i * n) (omega arith), ap (λ y. y % n) (sym split) ∙ mod-mul-add i n (x - i * n) (omega arith))

pub heads_equal : (x y : ℕ) (xs ys : List ℕ) → x ∷ xs ≡ y ∷ ys → x ≡ y
heads_equal x y xs ys e = cc

pub tails_equal : (x y : ℕ) (xs ys : List ℕ) → x ∷ xs ≡ y ∷ ys → xs ≡ ys
tails_equal x y xs ys e = cc

-- ---- places within their bounds
pub place_below : (from to cell : List ℕ) → IsInBox from to cell → place_in_box from to cell < count_of from to
place_below [] [] [] h = omega arith
place_below [] [] (x ∷ cell) h = absurd h
place_below [] (b ∷ to) [] h = absurd h
place_below [] (b ∷ to) (x ∷ cell) h = absurd h
place_below (a ∷ from) [] [] h = absurd h
place_below (a ∷ from) [] (x ∷ cell) h = absurd h
place_below (a ∷ from) (b ∷ to) [] h = absurd h
place_below (a ∷ from) (b ∷ to) (x ∷ cell) h =
    let below = place_below from to cell h.2 in
    let within = mul-add-lt (x - a) (count_of from to) (place_in_box from to cell) (b - a) (omega (arith, h.0, h.1)) below in
    omega (arith, within)

pub element_below : (from to chunks index cell : List ℕ) → IsBoxOver from to chunks index → length cell ≡ length chunks → place_of chunks cell < product chunks
element_below [] [] [] [] cell h e = omega arith
element_below [] [] [] (i ∷ index) cell h e = absurd h
element_below [] [] (n ∷ chunks) index cell h e = absurd h
element_below [] (b ∷ to) chunks index cell h e = absurd h
element_below (a ∷ from) [] chunks index cell h e = absurd h
element_below (a ∷ from) (b ∷ to) [] index cell h e = absurd h
element_below (a ∷ from) (b ∷ to) (n ∷ chunks) [] cell h e = absurd h
element_below (a ∷ from) (b ∷ to) (n ∷ chunks) (i ∷ index) [] h e = absurd (omega arith)
element_below (a ∷ from) (b ∷ to) (n ∷ chunks) (i ∷ index) (x ∷ cell) h e =
    let below = element_below from to chunks index cell h.2 (omega arith) in
    let within = mul-add-lt (x % n) (product chunks) (place_of chunks cell) n (mod-lt x h.0) below in
    omega (arith, within)

pub same_rank : (from to chunks index cell : List ℕ) → IsBoxOver from to chunks index → IsInBox from to cell → length cell ≡ length chunks
same_rank [] [] [] [] [] h k = refl
same_rank [] [] [] [] (x ∷ cell) h k = absurd k
same_rank [] [] [] (i ∷ index) cell h k = absurd h
same_rank [] [] (n ∷ chunks) index cell h k = absurd h
same_rank [] (b ∷ to) chunks index cell h k = absurd h
same_rank (a ∷ from) [] chunks index cell h k = absurd h
same_rank (a ∷ from) (b ∷ to) [] index cell h k = absurd h
same_rank (a ∷ from) (b ∷ to) (n ∷ chunks) [] cell h k = absurd h
same_rank (a ∷ from) (b ∷ to) (n ∷ chunks) (i ∷ index) [] h k = absurd k
same_rank (a ∷ from) (b ∷ to) (n ∷ chunks) (i ∷ index) (x ∷ cell) h k = ap suc (same_rank from to chunks index cell h.2 k.2)

-- ---- one row of a box
pub row_room : (p a b count : ℕ) → a ≤ p → p < b → (p - a) * count + count ≤ (b - a) * count
row_room p a b count h k = let le : (p - a + 1) * count ≤ (b - a) * count = mul-le-mul_right count (omega arith) in omega arith

module _ (a b : ℕ) (from to : List ℕ) (p put row : ℕ) (mid sub : List ℤ)
    (begun : a ≤ p) (ends : p < b) (row_is : row ≡ count_of from to) (put_is : put ≡ (p - a) * count_of from to)
    (all : length mid ≡ (b - a) * count_of from to) where
  pub row_within : put + row ≤ length mid
  row_within = omega (arith, row_room p a b (count_of from to) begun ends)

  pub length-row : length (take row (drop put mid)) ≡ row
  length-row = length-take-le row (drop put mid) (omega (arith, row_within, length-drop put mid))

  pub cell_part : (cell : List ℕ) → IsInBox from to cell → cell_in from to cell (take row (drop put mid)) ≡ cell_in (a ∷ from) (b ∷ to) (p ∷ cell) mid
  cell_part cell h =
      get_or-take row (drop put mid) (place_in_box from to cell) (pos 0) (omega (arith, place_below from to cell h))
      ∙ get_or-drop put mid (place_in_box from to cell) (pos 0)
      ∙ ap (λ q. get_or mid q (pos 0)) (omega arith)

  module _ (same : length sub ≡ length (take row (drop put mid))) where
    pub cell_on : (cell : List ℕ) → IsInBox from to cell → cell_in (a ∷ from) (b ∷ to) (p ∷ cell) (put_mid put row mid sub) ≡ cell_in from to cell sub
    cell_on cell h =
        ap (λ q. get_or (put_mid put row mid sub) q (pos 0)) (omega arith)
        ∙ get_or-inside put row mid sub (place_in_box from to cell) (pos 0) (omega (arith, place_below from to cell h, length-row)) (omega (arith, row_within))

    pub cell_off : (x : ℕ) (cell : List ℕ) → IsInBox (a ∷ from) (b ∷ to) (x ∷ cell) → x ≢ p
        → cell_in (a ∷ from) (b ∷ to) (x ∷ cell) (put_mid put row mid sub) ≡ cell_in (a ∷ from) (b ∷ to) (x ∷ cell) mid
    cell_off x cell h ne =
        elim (cases_lt x p) [
          | inl less ↦ get_or-before put row mid sub ((x - a) * count_of from to + place_in_box from to cell) (pos 0)
              (omega (arith, row_room x a p (count_of from to) h.0 less, place_below from to cell h.2)) (omega (arith, row_within))
          | inr least ↦ get_or-behind put row mid sub ((x - a) * count_of from to + place_in_box from to cell) (pos 0)
              (let more : p < x = omega arith in omega (arith, row_room p a x (count_of from to) begun more)) row_within (omega (arith, length-row))
        ]

-- ---- rows that were read
-- of the numbers of a box, those below this position along the first dimension were read
pub record ReadsBelow (kind : IntKind) (big : Bool) (a b n i : ℕ) (from to chunks index bytes : List ℕ) (p : ℕ) (old new : List ℤ) : Type 0 where
  pub same_length : length new ≡ length old
  pub inside : (x : ℕ) (cell : List ℕ) → IsInBox (a ∷ from) (b ∷ to) (x ∷ cell) → x < p → chunk_of (n ∷ chunks) (x ∷ cell) ≡ i ∷ index
      → cell_in (a ∷ from) (b ∷ to) (x ∷ cell) new ≡ number_in_chunk kind big (n ∷ chunks) (x ∷ cell) bytes
  pub outside : (x : ℕ) (cell : List ℕ) → IsInBox (a ∷ from) (b ∷ to) (x ∷ cell) → (x < p → chunk_of (n ∷ chunks) (x ∷ cell) ≡ i ∷ index → ⊥)
      → cell_in (a ∷ from) (b ∷ to) (x ∷ cell) new ≡ cell_in (a ∷ from) (b ∷ to) (x ∷ cell) old

module _ (kind : IntKind) (big : Bool) (a b n i : ℕ) (from to chunks index bytes : List ℕ) where
  -- an element of a block of the chunk's
  pub element_in_block : (p at block : ℕ) → 1 ≤ n → i * n ≤ p → p < i * n + n → block ≡ size_of kind * product chunks → at ≡ (p - i * n) * (size_of kind * product chunks)
      → (cell : List ℕ) → place_of chunks cell < product chunks
      → element_at kind (place_of chunks cell) (take block (drop at bytes)) ≡ element_at kind (place_of (n ∷ chunks) (p ∷ cell)) bytes
  element_in_block p at block some h k block_is at_is cell below =
      let whole : size_of kind * (place_of chunks cell + 1) ≤ size_of kind * product chunks = mul-le-mul_left (size_of kind) (omega arith) in
      let offset : p % n ≡ p - i * n = (chunk_there p n i h k).1 in
      element_within kind (place_of chunks cell) (p % n * product chunks + place_of chunks cell) at block bytes (omega arith)
      (rw offset (omega arith))

  pub read_nothing : (p : ℕ) (old : List ℤ) → ((x : ℕ) (cell : List ℕ) → IsInBox (a ∷ from) (b ∷ to) (x ∷ cell) → x < p → chunk_of (n ∷ chunks) (x ∷ cell) ≡ i ∷ index → ⊥)
      → ReadsBelow kind big a b n i from to chunks index bytes p old old
  read_nothing p old none = record {
    same_length = refl;
    inside = λ x cell h less e. absurd (none x cell h less e);
    outside = λ x cell h not_there. refl;
  }

  pub read_start : (old : List ℤ) → 1 ≤ n → ReadsBelow kind big a b n i from to chunks index bytes (max a (i * n)) old old
  read_start old some = read_nothing (max a (i * n)) old
      (λ x cell h less e. let there = in_chunk x n i some (heads_equal (x / n) i (chunk_of chunks cell) index e) in omega (arith, there.0, h.0, less))

  pub read_end : (p : ℕ) (old new : List ℤ) → 1 ≤ n → min b (i * n + n) ≤ p → ReadsBelow kind big a b n i from to chunks index bytes p old new
      → ReadsPart kind big (a ∷ from) (b ∷ to) (n ∷ chunks) (i ∷ index) bytes old new
  read_end p old new some most below = record { same_length = below.same_length; inside = inside; outside = outside }
    where
      inside : (cell : List ℕ) → IsInBox (a ∷ from) (b ∷ to) cell → chunk_of (n ∷ chunks) cell ≡ i ∷ index
          → cell_in (a ∷ from) (b ∷ to) cell new ≡ number_in_chunk kind big (n ∷ chunks) cell bytes
      inside [] h e = absurd h
      inside (x ∷ cell) h e = below.inside x cell h (let there = in_chunk x n i some (heads_equal (x / n) i (chunk_of chunks cell) index e) in omega (arith, there.1, h.1, most)) e

      outside : (cell : List ℕ) → IsInBox (a ∷ from) (b ∷ to) cell → chunk_of (n ∷ chunks) cell ≢ i ∷ index
          → cell_in (a ∷ from) (b ∷ to) cell new ≡ cell_in (a ∷ from) (b ∷ to) cell old
      outside [] h e = absurd h
      outside (x ∷ cell) h e = below.outside x cell h (λ less there. e there)

  pub read_step : (p at block put row : ℕ) (old mid sub : List ℤ) → IsBoxOver from to chunks index → 1 ≤ n → a ≤ p → p < b → i * n ≤ p → p < i * n + n
      → block ≡ size_of kind * product chunks → at ≡ (p - i * n) * (size_of kind * product chunks) → row ≡ count_of from to → put ≡ (p - a) * count_of from to
      → length mid ≡ (b - a) * count_of from to
      → ReadsBelow kind big a b n i from to chunks index bytes p old mid
      → ReadsPart kind big from to chunks index (take block (drop at bytes)) (take row (drop put mid)) sub
      → ReadsBelow kind big a b n i from to chunks index bytes (p + 1) old (put_mid put row mid sub)
  read_step p at block put row old mid sub over some begun ends h k block_is at_is row_is put_is all below read =
      let within = row_within a b from to p put row mid sub begun ends row_is put_is all in
      let on = cell_on a b from to p put row mid sub begun ends row_is put_is all read.same_length in
      let off = cell_off a b from to p put row mid sub begun ends row_is put_is all read.same_length in
      let part = cell_part a b from to p put row mid sub begun ends row_is put_is all in
      record {
        same_length = length-put_mid put row mid sub within (read.same_length ∙ length-row a b from to p put row mid sub begun ends row_is put_is all) ∙ below.same_length;
        inside = λ x cell in_box less there. elim (cases_eq x p) [
          | inl e ↦ subst (λ y. cell_in (a ∷ from) (b ∷ to) (y ∷ cell) (put_mid put row mid sub) ≡ number_in_chunk kind big (n ∷ chunks) (y ∷ cell) bytes) (sym e)
              (on cell in_box.2 ∙ read.inside cell in_box.2 (tails_equal (x / n) i (chunk_of chunks cell) index there)
              ∙ ap (number_of kind big) (element_in_block p at block some h k block_is at_is cell (element_below from to chunks index cell over (same_rank from to chunks index cell over in_box.2))))
          | inr ne ↦ off x cell in_box ne ∙ below.inside x cell in_box (omega arith) there
        ];
        outside = λ x cell in_box none. elim (cases_eq x p) [
          | inl e ↦ subst (λ y. cell_in (a ∷ from) (b ∷ to) (y ∷ cell) (put_mid put row mid sub) ≡ cell_in (a ∷ from) (b ∷ to) (y ∷ cell) old) (sym e)
              (on cell in_box.2 ∙ read.outside cell in_box.2 (λ same. none (omega arith) (ap₂ (λ q c. q ∷ c) (ap (λ y. y / n) e ∙ (chunk_there p n i h k).0) same))
              ∙ part cell in_box.2 ∙ subst (λ y. cell_in (a ∷ from) (b ∷ to) (y ∷ cell) mid ≡ cell_in (a ∷ from) (b ∷ to) (y ∷ cell) old) e (below.outside x cell in_box (λ less there. omega arith)))
          | inr ne ↦ off x cell in_box ne ∙ below.outside x cell in_box (λ less there. none (omega arith) there)
        ];
      }

-- ---- a box of one dimension
pub read_last : (kind : IntKind) (big : Bool) (a b n i : ℕ) (bytes : List ℕ) (first end at put count : ℕ) (old row : List ℤ)
    → 1 ≤ n → first ≡ max a (i * n) → end ≡ min b (i * n + n) → first < end → at ≡ (first - i * n) * size_of kind → put ≡ first - a → count ≡ end - first
    → length old ≡ b - a → length row ≡ count → ReadsRow kind big (drop at bytes) row
    → ReadsPart kind big (a ∷ []) (b ∷ []) (n ∷ []) (i ∷ []) bytes old (put_mid put count old row)
read_last kind big a b n i bytes first end at put count old row some first_is end_is less at_is put_is count_is all long read =
    record { same_length = length-put_mid put count old row (omega arith) long; inside = inside; outside = outside }
  where
    inside_at : (x : ℕ) → a ≤ x → x < b → (i * n ≤ x) × (x < i * n + n) × (x % n ≡ x - i * n)
        → cell_in (a ∷ []) (b ∷ []) (x ∷ []) (put_mid put count old row) ≡ number_in_chunk kind big (n ∷ []) (x ∷ []) bytes
    inside_at x h k there =
        let offset : first - i * n + (x - first) ≡ x % n = omega (arith, there.0, there.1, there.2) in
        let shift : at + size_of kind * (x - first) ≡ size_of kind * (x % n * 1 + 0) = rw (at_is, sym offset) (omega arith) in
        ap (λ q. get_or (put_mid put count old row) q (pos 0)) (omega (arith, there.0, there.1))
        ∙ get_or-inside put count old row (x - first) (pos 0) (omega (arith, there.0, there.1)) (omega arith)
        ∙ read (x - first) (omega (arith, there.0, there.1))
        ∙ ap (number_of kind big) (element_behind kind (x - first) (x % n * 1 + 0) at bytes shift)

    outside_at : (x : ℕ) → a ≤ x → x < b → x / n ≢ i → cell_in (a ∷ []) (b ∷ []) (x ∷ []) (put_mid put count old row) ≡ cell_in (a ∷ []) (b ∷ []) (x ∷ []) old
    outside_at x h k ne =
        elim (cases_lt x first) [
          | inl before ↦ get_or-before put count old row ((x - a) * 1 + 0) (pos 0) (omega arith) (omega arith)
          | inr least ↦ get_or-behind put count old row ((x - a) * 1 + 0) (pos 0)
              (elim (cases_lt x end) [ inl inner ↦ absurd (ne (chunk_there x n i (omega arith) (omega arith)).0) | inr behind ↦ omega arith ]) (omega arith) long
        ]

    inside : (cell : List ℕ) → IsInBox (a ∷ []) (b ∷ []) cell → chunk_of (n ∷ []) cell ≡ i ∷ []
        → cell_in (a ∷ []) (b ∷ []) cell (put_mid put count old row) ≡ number_in_chunk kind big (n ∷ []) cell bytes
    inside [] h e = absurd h
    inside (x ∷ []) h e = inside_at x h.0 h.1 (in_chunk x n i some (heads_equal (x / n) i [] [] e))
    inside (x ∷ (y ∷ cell)) h e = absurd h.2

    outside : (cell : List ℕ) → IsInBox (a ∷ []) (b ∷ []) cell → chunk_of (n ∷ []) cell ≢ i ∷ []
        → cell_in (a ∷ []) (b ∷ []) cell (put_mid put count old row) ≡ cell_in (a ∷ []) (b ∷ []) cell old
    outside [] h e = absurd h
    outside (x ∷ []) h e = outside_at x h.0 h.1 (λ q. e (ap (λ m. m ∷ []) q))
    outside (x ∷ (y ∷ cell)) h e = absurd h.2

-- a box that the chunk doesn't meet
pub read_none : (kind : IntKind) (big : Bool) (a b n i : ℕ) (from to chunks index bytes : List ℕ) (old : List ℤ) → 1 ≤ n → min b (i * n + n) ≤ max a (i * n)
    → ReadsPart kind big (a ∷ from) (b ∷ to) (n ∷ chunks) (i ∷ index) bytes old old
read_none kind big a b n i from to chunks index bytes old some h =
    read_end kind big a b n i from to chunks index bytes (max a (i * n)) old old some h (read_start kind big a b n i from to chunks index bytes old some)

-- ---- no dimension
pub read_one : (kind : IntKind) (big : Bool) (from to chunks index bytes : List ℕ) (old new : List ℤ) → IsBoxOver from to chunks index → length chunks ≡ 0
    → length old ≡ count_of from to → length new ≡ length old → ReadsRow kind big bytes new → ReadsPart kind big from to chunks index bytes old new
read_one kind big [] [] [] [] bytes old new over rank all same read = record { same_length = same; inside = inside; outside = outside }
  where
    inside : (cell : List ℕ) → IsInBox [] [] cell → chunk_of [] cell ≡ [] → cell_in [] [] cell new ≡ number_in_chunk kind big [] cell bytes
    inside [] h e = read 0 (omega arith)
    inside (x ∷ cell) h e = absurd h

    outside : (cell : List ℕ) → IsInBox [] [] cell → chunk_of [] cell ≢ [] → cell_in [] [] cell new ≡ cell_in [] [] cell old
    outside [] h e = absurd (e refl)
    outside (x ∷ cell) h e = absurd h
read_one kind big [] [] [] (i ∷ index) bytes old new over rank all same read = absurd over
read_one kind big [] (b ∷ to) [] index bytes old new over rank all same read = absurd over
read_one kind big (a ∷ from) [] [] index bytes old new over rank all same read = absurd over
read_one kind big (a ∷ from) (b ∷ to) [] index bytes old new over rank all same read = absurd over
read_one kind big from to (n ∷ chunks) index bytes old new over rank all same read = absurd (omega arith)

-- ---- dimensions taken apart
pub none_left : (from to chunks index : List ℕ) → IsBoxOver from to chunks index → length chunks ≡ 0 → (from ≡ []) × (to ≡ []) × (chunks ≡ []) × (index ≡ [])
none_left [] [] [] [] over rank = (refl, refl, refl, refl)
none_left [] [] [] (i ∷ index) over rank = absurd over
none_left [] (b ∷ to) [] index over rank = absurd over
none_left (a ∷ from) [] [] index over rank = absurd over
none_left (a ∷ from) (b ∷ to) [] index over rank = absurd over
none_left from to (n ∷ chunks) index over rank = absurd (omega arith)

pub one_element : (z bytes cells : ℕ) (from to chunks index : List ℕ) → IsBoxOver from to chunks index → length chunks ≡ 0 → bytes ≡ chunk_bytes z chunks → cells ≡ count_of from to → z * cells ≤ bytes
one_element z bytes cells from to chunks index over rank e f =
    let none = none_left from to chunks index over rank in
    let whole : bytes ≡ z * 1 = e ∙ ap (chunk_bytes z) none.2 in
    let one : cells ≡ 1 = f ∙ ap₂ count_of none.0 none.1 in
    rw one (omega arith)

-- what holds of the first dimension and those behind it holds of all, and the other way round
pub joined : (F : (from to chunks index : List ℕ) → Type 0) (s : Sides) (side : Side) (rest : Sides) → Splits s side rest
    → F (side.from ∷ rest.from.now) (side.to ∷ rest.to.now) (side.chunk ∷ rest.chunks.now) (side.number ∷ rest.index.now) → F s.from.now s.to.now s.chunks.now s.index.now
joined F s side rest h x =
    subst (λ l. F l s.to.now s.chunks.now s.index.now) (sym h.from)
    (subst (λ l. F (side.from ∷ rest.from.now) l s.chunks.now s.index.now) (sym h.to)
    (subst (λ l. F (side.from ∷ rest.from.now) (side.to ∷ rest.to.now) l s.index.now) (sym h.chunk)
    (subst (λ l. F (side.from ∷ rest.from.now) (side.to ∷ rest.to.now) (side.chunk ∷ rest.chunks.now) l) (sym h.number) x)))

pub parted : (F : (from to chunks index : List ℕ) → Type 0) (s : Sides) (side : Side) (rest : Sides) → Splits s side rest
    → F s.from.now s.to.now s.chunks.now s.index.now → F (side.from ∷ rest.from.now) (side.to ∷ rest.to.now) (side.chunk ∷ rest.chunks.now) (side.number ∷ rest.index.now)
parted F s side rest h x =
    subst (λ l. F (side.from ∷ rest.from.now) (side.to ∷ rest.to.now) (side.chunk ∷ rest.chunks.now) l) h.number
    (subst (λ l. F (side.from ∷ rest.from.now) (side.to ∷ rest.to.now) l s.index.now) h.chunk
    (subst (λ l. F (side.from ∷ rest.from.now) l s.chunks.now s.index.now) h.to
    (subst (λ l. F l s.to.now s.chunks.now s.index.now) h.from x)))

-- the last dimension
pub joined_last : (F : (from to chunks index : List ℕ) → Type 0) (s : Sides) (side : Side) (rest : Sides) → Splits s side rest → AreOver rest → length rest.chunks.now ≡ 0
    → F (side.from ∷ []) (side.to ∷ []) (side.chunk ∷ []) (side.number ∷ []) → F s.from.now s.to.now s.chunks.now s.index.now
joined_last F s side rest h over rank x =
    let none = none_left rest.from.now rest.to.now rest.chunks.now rest.index.now over rank in
    joined F s side rest h
    (subst (λ l. F (side.from ∷ l) (side.to ∷ rest.to.now) (side.chunk ∷ rest.chunks.now) (side.number ∷ rest.index.now)) (sym none.0)
    (subst (λ l. F (side.from ∷ []) (side.to ∷ l) (side.chunk ∷ rest.chunks.now) (side.number ∷ rest.index.now)) (sym none.1)
    (subst (λ l. F (side.from ∷ []) (side.to ∷ []) (side.chunk ∷ l) (side.number ∷ rest.index.now)) (sym none.2)
    (subst (λ l. F (side.from ∷ []) (side.to ∷ []) (side.chunk ∷ []) (side.number ∷ l)) (sym none.3) x))))

pub count_of_last : (s : Sides) (side : Side) (rest : Sides) → Splits s side rest → AreOver rest → length rest.chunks.now ≡ 0 → count_of s.from.now s.to.now ≡ side.to - side.from
count_of_last s side rest h over rank =
    joined_last (λ from to chunks index. count_of from to ≡ side.to - side.from) s side rest h over rank (omega arith)

-- a part of a whole that is so many times as long
pub part_of : (whole n part : ℕ) → 1 ≤ n → whole ≡ n * part → whole / n ≡ part
part_of whole n part h e =
    ap (λ w. w / n) (e ∙ omega (arith, mul_comm n part)) ∙ div-mul-add part n 0 h

pub part_length : {X : Type 0} (xs : List X) (at k : ℕ) → at + k ≤ length xs → length (take (at + k - at) (drop at xs)) ≡ k
part_length xs at k h = length-take-le (at + k - at) (drop at xs) (omega (arith, length-drop at xs)) ∙ omega arith

-- ---- what one step of the walk over the rows stands on
pub record IsStep (kind : IntKind) (s : Sides) (side : Side) (rest : Sides) (bytes cells : ℕ) : Type 0 where
  pub split : Splits s side rest
  pub over : AreOver s
  pub whole : bytes ≡ chunk_bytes (size_of kind) s.chunks.now
  pub count : cells ≡ count_of s.from.now s.to.now

module _ (kind : IntKind) (s : Sides) (side : Side) (rest : Sides) (bytes cells : ℕ) (step : IsStep kind s side rest bytes cells) where
  pub over_parted : IsBoxOver (side.from ∷ rest.from.now) (side.to ∷ rest.to.now) (side.chunk ∷ rest.chunks.now) (side.number ∷ rest.index.now)
  over_parted = parted (λ from to chunks index. IsBoxOver from to chunks index) s side rest step.split step.over

  pub count_parted : cells ≡ (side.to - side.from) * count_of rest.from.now rest.to.now
  count_parted = step.count ∙ parted (λ from to chunks index. count_of s.from.now s.to.now ≡ count_of from to) s side rest step.split refl

  pub whole_parted : bytes ≡ size_of kind * (side.chunk * product rest.chunks.now)
  whole_parted = step.whole ∙ ap (chunk_bytes (size_of kind)) step.split.chunk

  pub row_is : side.from < side.to → cells / (side.to - side.from) ≡ count_of rest.from.now rest.to.now
  row_is less = part_of cells (side.to - side.from) (count_of rest.from.now rest.to.now) (omega arith) count_parted

  pub block_is : bytes / side.chunk ≡ size_of kind * product rest.chunks.now
  block_is = part_of bytes side.chunk (size_of kind * product rest.chunks.now) over_parted.0 (whole_parted ∙ omega (arith, mul_assoc (size_of kind) side.chunk (product rest.chunks.now)))

  pub fewer_left : length rest.chunks.now < length s.chunks.now
  fewer_left = let longer : length s.chunks.now ≡ length (side.chunk ∷ rest.chunks.now) = ap length step.split.chunk in omega arith

  -- one position that box and chunk have along the first dimension
  module _ (p start : ℕ) (begins : max side.from (side.number * side.chunk) ≤ p) (ends : p < min side.to (side.number * side.chunk + side.chunk)) (start_is : start ≡ side.number * side.chunk) where
    pub wide : side.from < side.to
    wide = omega arith

    pub row_there : (p - side.from) * (cells / (side.to - side.from)) ≡ (p - side.from) * count_of rest.from.now rest.to.now
    row_there = ap (λ q. (p - side.from) * q) (row_is wide)

    pub block_there : (p - start) * (bytes / side.chunk) ≡ (p - side.number * side.chunk) * (size_of kind * product rest.chunks.now)
    block_there = ap₂ (λ a b. (p - a) * b) start_is block_is

    pub length_block : (all : List ℕ) → length all ≡ bytes → length (take ((p - start) * (bytes / side.chunk) + bytes / side.chunk - (p - start) * (bytes / side.chunk)) (drop ((p - start) * (bytes / side.chunk)) all)) ≡ chunk_bytes (size_of kind) rest.chunks.now
    length_block all e =
        let room = row_room p (side.number * side.chunk) (side.number * side.chunk + side.chunk) (size_of kind * product rest.chunks.now) (omega arith) (omega arith) in
        let length_is : side.number * side.chunk + side.chunk - side.number * side.chunk ≡ side.chunk = omega arith in
        let whole : (side.number * side.chunk + side.chunk - side.number * side.chunk) * (size_of kind * product rest.chunks.now) ≡ bytes =
        ap (λ q. q * (size_of kind * product rest.chunks.now)) length_is ∙ omega (arith, whole_parted, mul_assoc (size_of kind) side.chunk (product rest.chunks.now)) in
        part_length all ((p - start) * (bytes / side.chunk)) (bytes / side.chunk) (omega (arith, room, whole, block_there, block_is)) ∙ block_is

    pub length_cells : (all : List ℤ) → length all ≡ cells → length (take ((p - side.from) * (cells / (side.to - side.from)) + cells / (side.to - side.from) - (p - side.from) * (cells / (side.to - side.from))) (drop ((p - side.from) * (cells / (side.to - side.from))) all)) ≡ count_of rest.from.now rest.to.now
    length_cells all e =
        let room = row_room p side.from side.to (count_of rest.from.now rest.to.now) (omega arith) (omega arith) in
        part_length all ((p - side.from) * (cells / (side.to - side.from))) (cells / (side.to - side.from)) (omega (arith, room, count_parted, row_there, row_is wide)) ∙ row_is wide

    pub read_on : (big : Bool) (all : List ℕ) (old mid sub : List ℤ) → length mid ≡ cells
        → ReadsBelow kind big side.from side.to side.chunk side.number rest.from.now rest.to.now rest.chunks.now rest.index.now all p old mid
        → ReadsPart kind big rest.from.now rest.to.now rest.chunks.now rest.index.now
        (take ((p - start) * (bytes / side.chunk) + bytes / side.chunk - (p - start) * (bytes / side.chunk)) (drop ((p - start) * (bytes / side.chunk)) all))
        (take ((p - side.from) * (cells / (side.to - side.from)) + cells / (side.to - side.from) - (p - side.from) * (cells / (side.to - side.from))) (drop ((p - side.from) * (cells / (side.to - side.from))) mid)) sub
        → ReadsBelow kind big side.from side.to side.chunk side.number rest.from.now rest.to.now rest.chunks.now rest.index.now all (p + 1) old
        (put_mid ((p - side.from) * (cells / (side.to - side.from))) ((p - side.from) * (cells / (side.to - side.from)) + cells / (side.to - side.from) - (p - side.from) * (cells / (side.to - side.from))) mid sub)
    read_on big all old mid sub e below read =
        read_step kind big side.from side.to side.chunk side.number rest.from.now rest.to.now rest.chunks.now rest.index.now all p
        ((p - start) * (bytes / side.chunk)) ((p - start) * (bytes / side.chunk) + bytes / side.chunk - (p - start) * (bytes / side.chunk))
        ((p - side.from) * (cells / (side.to - side.from))) ((p - side.from) * (cells / (side.to - side.from)) + cells / (side.to - side.from) - (p - side.from) * (cells / (side.to - side.from)))
        old mid sub over_parted.2 over_parted.0 (omega arith) (omega arith) (omega arith) (omega arith)
        (omega (arith, block_is)) block_there (omega (arith, row_is wide)) row_there (e ∙ count_parted) below read
