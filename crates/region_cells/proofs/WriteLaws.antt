-- The part of a box that is written into a chunk, row by row.
use Rattle.std.proofs.Common.{◌≡◌, ◌≢◌, ◌∙◌, ◌≤◌, ◌<◌, ◌+◌, ◌-◌, ◌*◌, ◌/◌, ◌%◌, ◌⊎◌, ℕ, ℤ, pos, Bool, true, List, [], ◌∷◌, ◌++◌, length, take, drop, get_or, max, min, inl, inr, refl, sym, ap, subst, arith, append-nil}
use Rattle.std.proofs.Math.Nat.{mul-le-mul_left, mul-le-mul_right, mul_assoc}
use Rattle.std.proofs.lemmas.Bool.{cases_lt, cases_eq}
use Rattle.std.proofs.lemmas.List.{get_or-take, get_or-drop, length-take, length-take-le, length-drop, drop-drop, drop_at, drop_all}
use borrow.Rule.Slice.PartMut.{put_mid}
use Rattle.zarr_meta.specs.declared.kinds.IntKind.{IntKind}
use Rattle.zarr_meta.specs.Kinds.{size_of, is_in_range}
use Rattle.zarr_meta.specs.Grids.{product}
use Rattle.zarr_grid.specs.Cells.{chunk_of, place_of}
use Rattle.region_cells.specs.Numbers.{bytes_of, element_at}
use Rattle.region_cells.specs.Boxes.{IsInBox, IsBoxOver, count_of}
use Rattle.region_cells.specs.Rows.{WritesRow, AreInRange}
use Rattle.region_cells.specs.declared.sides.Side.{Side}
use Rattle.region_cells.specs.declared.sides.Sides.{Sides}
use Rattle.region_cells.specs.Parts.{WritesPart, cell_in}
use Rattle.region_cells.proofs.ElementLaws.{get_or-before, get_or-inside, get_or-behind, same_elements, whole_element, length-element, length-put_mid, element_behind}
use Rattle.region_cells.proofs.PartLaws.{in_chunk, chunk_there, heads_equal, tails_equal, IsStep, over_parted, count_parted, whole_parted, row_is, block_is, row_there, block_there, element_below, same_rank, cell_part, element_in_block}

-- ---- elements of bytes in which others were put
element_in_mid : (kind : IntKind) (k m at block : ℕ) (mid sub : List ℕ) → size_of kind * k + size_of kind ≤ block → at + size_of kind * k ≡ size_of kind * m
    → length sub ≡ block → at + block ≤ length mid → element_at kind m (put_mid at block mid sub) ≡ element_at kind k sub
element_in_mid kind k m at block mid sub h e long room =
    let whole : length (put_mid at block mid sub) ≡ length mid = length-put_mid at block mid sub room long in
    same_elements kind m k (put_mid at block mid sub) sub
    (whole_element kind m (put_mid at block mid sub) (omega arith) ∙ sym (whole_element kind k sub (omega arith)))
    (λ j few.
    let shift : size_of kind * m + j ≡ at + (size_of kind * k + j) = omega arith in
    ap (λ q. get_or (put_mid at block mid sub) q 0) shift ∙ get_or-inside at block mid sub (size_of kind * k + j) 0 (omega arith) (omega arith))

element_out_of_mid : (kind : IntKind) (m at block : ℕ) (mid sub : List ℕ) → (size_of kind * m + size_of kind ≤ at) ⊎ (at + block ≤ size_of kind * m)
    → length sub ≡ block → at + block ≤ length mid → element_at kind m (put_mid at block mid sub) ≡ element_at kind m mid
element_out_of_mid kind m at block mid sub where_it_is long room =
    same_elements kind m m (put_mid at block mid sub) mid (length-element kind m (put_mid at block mid sub) mid (length-put_mid at block mid sub room long))
    (λ j few. elim where_it_is [
      | inl before ↦ get_or-before at block mid sub (size_of kind * m + j) 0 (omega arith) (omega arith)
      | inr behind ↦ get_or-behind at block mid sub (size_of kind * m + j) 0 (omega arith) room long
    ])

-- where all behind a place was written
tail_is : (at : ℕ) (old new : List ℕ) → put_mid at (length old - at) old new ≡ take at old ++ new
tail_is at old new =
    ap (λ xs. take at old ++ (new ++ xs)) (drop_all (length old - at) (drop at old) (omega (arith, length-drop at old))) ∙ ap (λ xs. take at old ++ xs) (append-nil new)

element_of_tail : (kind : IntKind) (k m at : ℕ) (old new : List ℕ) → at + size_of kind * k ≡ size_of kind * m → at ≤ length old
    → element_at kind m (put_mid at (length old - at) old new) ≡ element_at kind k new
element_of_tail kind k m at old new e h =
    ap (element_at kind m) (tail_is at old new)
    ∙ ap (λ q. take (size_of kind) (drop q (take at old ++ new))) (sym e)
    ∙ ap (take (size_of kind)) (sym (drop-drop (size_of kind * k) at (take at old ++ new)))
    ∙ ap (λ xs. take (size_of kind) (drop (size_of kind * k) xs)) (drop_at (take at old) new at (length-take-le at old h))

-- ---- rows that were written
-- of the numbers of a box, those below this position along the first dimension were written
pub record WritesBelow (kind : IntKind) (big : Bool) (a b n i : ℕ) (from to chunks index : List ℕ) (numbers : List ℤ) (p : ℕ) (old new : List ℕ) : Type 0 where
  pub same_length : length new ≡ length old
  pub inside : (x : ℕ) (cell : List ℕ) → IsInBox (a ∷ from) (b ∷ to) (x ∷ cell) → x < p → chunk_of (n ∷ chunks) (x ∷ cell) ≡ i ∷ index
      → element_at kind (place_of (n ∷ chunks) (x ∷ cell)) new ≡ bytes_of kind big (cell_in (a ∷ from) (b ∷ to) (x ∷ cell) numbers)
  pub outside : (x : ℕ) (cell : List ℕ) → length cell ≡ length chunks → (x < p → IsInBox (a ∷ from) (b ∷ to) (x ∷ cell) → ⊥) → chunk_of (n ∷ chunks) (x ∷ cell) ≡ i ∷ index
      → element_at kind (place_of (n ∷ chunks) (x ∷ cell)) new ≡ element_at kind (place_of (n ∷ chunks) (x ∷ cell)) old

-- a row ends where the next one begins, or before
rows_apart : (s t count : ℕ) → s < t → s * count + count ≤ t * count
rows_apart s t count h = let le : (s + 1) * count ≤ t * count = mul-le-mul_right count (omega arith) in omega arith

module _ (kind : IntKind) (big : Bool) (a b n i : ℕ) (from to chunks index : List ℕ) (numbers : List ℤ) where
  pub write_start : (old : List ℕ) → 1 ≤ n → WritesBelow kind big a b n i from to chunks index numbers (max a (i * n)) old old
  write_start old some = record {
    same_length = refl;
    inside = λ x cell h less e. let there = in_chunk x n i some (heads_equal (x / n) i (chunk_of chunks cell) index e) in absurd (omega (arith, there.0, h.0, less));
    outside = λ x cell rank none e. refl;
  }

  pub write_end : (p : ℕ) (old new : List ℕ) → 1 ≤ n → min b (i * n + n) ≤ p → WritesBelow kind big a b n i from to chunks index numbers p old new
      → WritesPart kind big (a ∷ from) (b ∷ to) (n ∷ chunks) (i ∷ index) numbers old new
  write_end p old new some most below = record { same_length = below.same_length; inside = inside; outside = outside }
    where
      inside : (cell : List ℕ) → IsInBox (a ∷ from) (b ∷ to) cell → chunk_of (n ∷ chunks) cell ≡ i ∷ index
          → element_at kind (place_of (n ∷ chunks) cell) new ≡ bytes_of kind big (cell_in (a ∷ from) (b ∷ to) cell numbers)
      inside [] h e = absurd h
      inside (x ∷ cell) h e = below.inside x cell h (let there = in_chunk x n i some (heads_equal (x / n) i (chunk_of chunks cell) index e) in omega (arith, there.1, h.1, most)) e

      outside : (cell : List ℕ) → length cell ≡ length (n ∷ chunks) → (IsInBox (a ∷ from) (b ∷ to) cell → ⊥) → chunk_of (n ∷ chunks) cell ≡ i ∷ index
          → element_at kind (place_of (n ∷ chunks) cell) new ≡ element_at kind (place_of (n ∷ chunks) cell) old
      outside [] rank none e = absurd (omega arith)
      outside (x ∷ cell) rank none e = below.outside x cell (omega arith) (λ less h. none h) e

  -- an element of another block stays
  other_block : (p at block : ℕ) (mid sub : List ℕ) → 1 ≤ n → i * n ≤ p → block ≡ size_of kind * product chunks → at ≡ (p - i * n) * (size_of kind * product chunks)
      → length sub ≡ block → at + block ≤ length mid
      → (x : ℕ) (cell : List ℕ) → x ≢ p → x / n ≡ i → place_of chunks cell < product chunks
      → element_at kind (place_of (n ∷ chunks) (x ∷ cell)) (put_mid at block mid sub) ≡ element_at kind (place_of (n ∷ chunks) (x ∷ cell)) mid
  other_block p at block mid sub some begun block_is at_is long room x cell ne there below =
      let m = x % n * product chunks + place_of chunks cell in
      let in_it = in_chunk x n i some there in
      element_out_of_mid kind (x % n * product chunks + place_of chunks cell) at block mid sub
      (elim (cases_lt x p) [
        | inl less ↦
            let rows : x % n * product chunks + product chunks ≤ (p - i * n) * product chunks = rows_apart (x % n) (p - i * n) (product chunks) (omega (arith, in_it.0, in_it.2)) in
            let elements : size_of kind * (x % n * product chunks + place_of chunks cell + 1) ≤ size_of kind * ((p - i * n) * product chunks) = mul-le-mul_left (size_of kind) (omega arith) in
            inl (omega arith)
        | inr least ↦
            let rows : (p - i * n) * product chunks + product chunks ≤ x % n * product chunks = rows_apart (p - i * n) (x % n) (product chunks) (omega (arith, in_it.0, in_it.2)) in
            let elements : size_of kind * ((p - i * n) * product chunks + product chunks) ≤ size_of kind * (x % n * product chunks + place_of chunks cell) = mul-le-mul_left (size_of kind) (omega arith) in
            inr (omega arith)
      ])
      long room

  -- and one of this block is that of what was put there
  this_block : (p at block : ℕ) (mid sub : List ℕ) → 1 ≤ n → i * n ≤ p → p < i * n + n → block ≡ size_of kind * product chunks → at ≡ (p - i * n) * (size_of kind * product chunks)
      → length sub ≡ block → at + block ≤ length mid
      → (cell : List ℕ) → place_of chunks cell < product chunks
      → element_at kind (place_of (n ∷ chunks) (p ∷ cell)) (put_mid at block mid sub) ≡ element_at kind (place_of chunks cell) sub
  this_block p at block mid sub some begun ends block_is at_is long room cell below =
      let whole : size_of kind * (place_of chunks cell + 1) ≤ size_of kind * product chunks = mul-le-mul_left (size_of kind) (omega arith) in
      let offset : p % n ≡ p - i * n = (chunk_there p n i begun ends).1 in
      element_in_mid kind (place_of chunks cell) (p % n * product chunks + place_of chunks cell) at block mid sub (omega arith) (rw offset (omega arith)) long room

  pub write_step : (p at block put row : ℕ) (old mid sub : List ℕ) → IsBoxOver from to chunks index → 1 ≤ n → a ≤ p → p < b → i * n ≤ p → p < i * n + n
      → block ≡ size_of kind * product chunks → at ≡ (p - i * n) * (size_of kind * product chunks) → row ≡ count_of from to → put ≡ (p - a) * count_of from to
      → length numbers ≡ (b - a) * count_of from to → length mid ≡ n * (size_of kind * product chunks)
      → WritesBelow kind big a b n i from to chunks index numbers p old mid
      → WritesPart kind big from to chunks index (take row (drop put numbers)) (take block (drop at mid)) sub
      → WritesBelow kind big a b n i from to chunks index numbers (p + 1) old (put_mid at block mid sub)
  write_step p at block put row old mid sub over some begun ends h k block_is at_is row_is put_is all whole below written =
      let blocks : (p - i * n) * (size_of kind * product chunks) + size_of kind * product chunks ≤ n * (size_of kind * product chunks) = rows_apart (p - i * n) n (size_of kind * product chunks) (omega arith) in
      let room : at + block ≤ length mid = omega arith in
      let long : length sub ≡ block = written.same_length ∙ length-take-le block (drop at mid) (omega (arith, length-drop at mid)) in
      let on = this_block p at block mid sub some h k block_is at_is long room in
      let off = other_block p at block mid sub some h block_is at_is long room in
      let part = cell_part a b from to p put row numbers numbers begun ends row_is put_is all in
      let kept = element_in_block kind big a b n i from to chunks index mid p at block some h k block_is at_is in
      record {
        same_length = length-put_mid at block mid sub room long ∙ below.same_length;
        inside = λ x cell in_box less there.
            let few : place_of chunks cell < product chunks = element_below from to chunks index cell over (same_rank from to chunks index cell over in_box.2) in
            elim (cases_eq x p) [
              | inl e ↦ subst (λ y. element_at kind (place_of (n ∷ chunks) (y ∷ cell)) (put_mid at block mid sub) ≡ bytes_of kind big (cell_in (a ∷ from) (b ∷ to) (y ∷ cell) numbers)) (sym e)
                  (on cell few ∙ written.inside cell in_box.2 (tails_equal (x / n) i (chunk_of chunks cell) index there) ∙ ap (bytes_of kind big) (part cell in_box.2))
              | inr ne ↦ off x cell ne (heads_equal (x / n) i (chunk_of chunks cell) index there) few ∙ below.inside x cell in_box (omega arith) there
            ];
        outside = λ x cell rank none there.
            let few : place_of chunks cell < product chunks = element_below from to chunks index cell over rank in
            elim (cases_eq x p) [
              | inl e ↦ subst (λ y. element_at kind (place_of (n ∷ chunks) (y ∷ cell)) (put_mid at block mid sub) ≡ element_at kind (place_of (n ∷ chunks) (y ∷ cell)) old) (sym e)
                  (on cell few ∙ written.outside cell rank (λ in_it. none (omega arith) (omega arith, omega arith, in_it)) (tails_equal (x / n) i (chunk_of chunks cell) index there) ∙ kept cell few
                  ∙ subst (λ y. element_at kind (place_of (n ∷ chunks) (y ∷ cell)) mid ≡ element_at kind (place_of (n ∷ chunks) (y ∷ cell)) old) e (below.outside x cell rank (λ less in_box. omega arith) there))
              | inr ne ↦ off x cell ne (heads_equal (x / n) i (chunk_of chunks cell) index there) few ∙ below.outside x cell rank (λ less in_box. none (omega arith) in_box) there
            ];
      }

-- ---- a box of one dimension
pub write_last : (kind : IntKind) (big : Bool) (a b n i : ℕ) (first end at put count : ℕ) (numbers : List ℤ) (old new : List ℕ)
    → 1 ≤ n → first ≡ max a (i * n) → end ≡ min b (i * n + n) → first < end → at ≡ (first - i * n) * size_of kind → put ≡ first - a → count ≡ end - first
    → length numbers ≡ b - a → length old ≡ size_of kind * n → length new ≡ length old - at
    → WritesRow kind big (take count (drop put numbers)) (drop at old) new
    → WritesPart kind big (a ∷ []) (b ∷ []) (n ∷ []) (i ∷ []) numbers old (put_mid at (length old - at) old new)
write_last kind big a b n i first end at put count numbers old new some first_is end_is less at_is put_is count_is all whole long written =
    record { same_length = length-put_mid at (length old - at) old new (omega (arith, at_within)) long; inside = inside; outside = outside }
  where
    at_within : at ≤ length old
    at_within = let most : size_of kind * (first - i * n) ≤ size_of kind * n = mul-le-mul_left (size_of kind) (omega arith) in omega arith

    row_long : length (take count (drop put numbers)) ≡ count
    row_long = length-take-le count (drop put numbers) (omega (arith, length-drop put numbers))

    inside_at : (x : ℕ) → a ≤ x → x < b → (i * n ≤ x) × (x < i * n + n) × (x % n ≡ x - i * n)
        → element_at kind (place_of (n ∷ []) (x ∷ [])) (put_mid at (length old - at) old new) ≡ bytes_of kind big (cell_in (a ∷ []) (b ∷ []) (x ∷ []) numbers)
    inside_at x h k there =
        let offset : first - i * n + (x - first) ≡ x % n = omega (arith, there.0, there.1, there.2) in
        let shift : at + size_of kind * (x - first) ≡ size_of kind * (x % n * 1 + 0) = rw (at_is, sym offset) (omega arith) in
        let few : x - first < count = omega (arith, there.0, there.1) in
        element_of_tail kind (x - first) (x % n * 1 + 0) at old new shift at_within
        ∙ written.inside (x - first) (omega (arith, row_long))
        ∙ ap (bytes_of kind big) (get_or-take count (drop put numbers) (x - first) (pos 0) few ∙ get_or-drop put numbers (x - first) (pos 0) ∙ ap (λ q. get_or numbers q (pos 0)) (omega (arith, there.0, there.1)))

    outside_at : (x : ℕ) → (a ≤ x → x < b → ⊥) → (i * n ≤ x) × (x < i * n + n) × (x % n ≡ x - i * n)
        → element_at kind (place_of (n ∷ []) (x ∷ [])) (put_mid at (length old - at) old new) ≡ element_at kind (place_of (n ∷ []) (x ∷ [])) old
    outside_at x none there =
        elim (cases_lt x first) [
          | inl before ↦
              let elements : size_of kind * (x % n * 1 + 0 + 1) ≤ size_of kind * (first - i * n) = mul-le-mul_left (size_of kind) (omega (arith, there.0, there.2)) in
              element_out_of_mid kind (x % n * 1 + 0) at (length old - at) old new (inl (omega arith)) long (omega (arith, at_within))
          | inr least ↦ elim (cases_lt x end) [
            | inl inner ↦ absurd (none (omega arith) (omega arith))
            | inr behind ↦
                let offset : first - i * n + (x - first) ≡ x % n = omega (arith, there.0, there.1, there.2) in
                let shift : at + size_of kind * (x - first) ≡ size_of kind * (x % n * 1 + 0) = rw (at_is, sym offset) (omega arith) in
                element_of_tail kind (x - first) (x % n * 1 + 0) at old new shift at_within
                ∙ written.outside (x - first) (omega (arith, row_long))
                ∙ element_behind kind (x - first) (x % n * 1 + 0) at old shift
          ]
        ]

    inside : (cell : List ℕ) → IsInBox (a ∷ []) (b ∷ []) cell → chunk_of (n ∷ []) cell ≡ i ∷ []
        → element_at kind (place_of (n ∷ []) cell) (put_mid at (length old - at) old new) ≡ bytes_of kind big (cell_in (a ∷ []) (b ∷ []) cell numbers)
    inside [] h e = absurd h
    inside (x ∷ []) h e = inside_at x h.0 h.1 (in_chunk x n i some (heads_equal (x / n) i [] [] e))
    inside (x ∷ (y ∷ cell)) h e = absurd h.2

    outside : (cell : List ℕ) → length cell ≡ length (n ∷ []) → (IsInBox (a ∷ []) (b ∷ []) cell → ⊥) → chunk_of (n ∷ []) cell ≡ i ∷ []
        → element_at kind (place_of (n ∷ []) cell) (put_mid at (length old - at) old new) ≡ element_at kind (place_of (n ∷ []) cell) old
    outside [] rank none e = absurd (omega arith)
    outside (x ∷ []) rank none e = outside_at x (λ h k. none (h, k, tt)) (in_chunk x n i some (heads_equal (x / n) i [] [] e))
    outside (x ∷ (y ∷ cell)) rank none e = absurd (omega arith)

-- a box that the chunk doesn't meet
pub write_none : (kind : IntKind) (big : Bool) (a b n i : ℕ) (from to chunks index : List ℕ) (numbers : List ℤ) (old : List ℕ) → 1 ≤ n → min b (i * n + n) ≤ max a (i * n)
    → WritesPart kind big (a ∷ from) (b ∷ to) (n ∷ chunks) (i ∷ index) numbers old old
write_none kind big a b n i from to chunks index numbers old some h =
    write_end kind big a b n i from to chunks index numbers (max a (i * n)) old old some h (write_start kind big a b n i from to chunks index numbers old some)

-- ---- no dimension
pub write_one : (kind : IntKind) (big : Bool) (from to chunks index : List ℕ) (numbers : List ℤ) (old new : List ℕ) → IsBoxOver from to chunks index → length chunks ≡ 0
    → length numbers ≡ count_of from to → WritesRow kind big numbers old new → WritesPart kind big from to chunks index numbers old new
write_one kind big [] [] [] [] numbers old new over rank all written = record { same_length = written.same_length; inside = inside; outside = outside }
  where
    inside : (cell : List ℕ) → IsInBox [] [] cell → chunk_of [] cell ≡ [] → element_at kind (place_of [] cell) new ≡ bytes_of kind big (cell_in [] [] cell numbers)
    inside [] h e = written.inside 0 (omega arith)
    inside (x ∷ cell) h e = absurd h

    outside : (cell : List ℕ) → length cell ≡ length {A = ℕ} [] → (IsInBox [] [] cell → ⊥) → chunk_of [] cell ≡ [] → element_at kind (place_of [] cell) new ≡ element_at kind (place_of [] cell) old
    outside [] rank none e = absurd (none tt)
    outside (x ∷ cell) rank none e = absurd (omega arith)
write_one kind big [] [] [] (i ∷ index) numbers old new over rank all written = absurd over
write_one kind big [] (b ∷ to) [] index numbers old new over rank all written = absurd over
write_one kind big (a ∷ from) [] [] index numbers old new over rank all written = absurd over
write_one kind big (a ∷ from) (b ∷ to) [] index numbers old new over rank all written = absurd over
write_one kind big from to (n ∷ chunks) index numbers old new over rank all written = absurd (omega arith)

-- ---- one position that box and chunk have along the first dimension
pub range_within : (kind : IntKind) (count at : ℕ) (numbers : List ℤ) → AreInRange kind numbers → AreInRange kind (take count (drop at numbers))
range_within kind count at numbers h k less =
    let bound : length (take count (drop at numbers)) ≡ min count (length numbers - at) = length-take count (drop at numbers) ∙ ap (min count) (length-drop at numbers) in
    let is : get_or (take count (drop at numbers)) k (pos 0) ≡ get_or numbers (at + k) (pos 0) = get_or-take count (drop at numbers) k (pos 0) (omega arith) ∙ get_or-drop at numbers k (pos 0) in
    subst (λ n. is_in_range kind n ≡ true) (sym is) (h (at + k) (omega arith))

module _ (kind : IntKind) (s : Sides) (side : Side) (rest : Sides) (bytes cells : ℕ) (step : IsStep kind s side rest bytes cells)
    (p start : ℕ) (begins : max side.from (side.number * side.chunk) ≤ p) (ends : p < min side.to (side.number * side.chunk + side.chunk)) (start_is : start ≡ side.number * side.chunk) where
  pub write_on : (big : Bool) (numbers : List ℤ) (old mid sub : List ℕ) → length numbers ≡ cells → length mid ≡ bytes
      → WritesBelow kind big side.from side.to side.chunk side.number rest.from.now rest.to.now rest.chunks.now rest.index.now numbers p old mid
      → WritesPart kind big rest.from.now rest.to.now rest.chunks.now rest.index.now
      (take ((p - side.from) * (cells / (side.to - side.from)) + cells / (side.to - side.from) - (p - side.from) * (cells / (side.to - side.from))) (drop ((p - side.from) * (cells / (side.to - side.from))) numbers))
      (take ((p - start) * (bytes / side.chunk) + bytes / side.chunk - (p - start) * (bytes / side.chunk)) (drop ((p - start) * (bytes / side.chunk)) mid)) sub
      → WritesBelow kind big side.from side.to side.chunk side.number rest.from.now rest.to.now rest.chunks.now rest.index.now numbers (p + 1) old
      (put_mid ((p - start) * (bytes / side.chunk)) ((p - start) * (bytes / side.chunk) + bytes / side.chunk - (p - start) * (bytes / side.chunk)) mid sub)
  write_on big numbers old mid sub e f below written =
      let over = over_parted kind s side rest bytes cells step in
      let less : side.from < side.to = omega arith in
      let rows = row_is kind s side rest bytes cells step less in
      let blocks = block_is kind s side rest bytes cells step in
      let whole : bytes ≡ side.chunk * (size_of kind * product rest.chunks.now) = whole_parted kind s side rest bytes cells step ∙ omega (arith, mul_assoc (size_of kind) side.chunk (product rest.chunks.now)) in
      write_step kind big side.from side.to side.chunk side.number rest.from.now rest.to.now rest.chunks.now rest.index.now numbers p
      ((p - start) * (bytes / side.chunk)) ((p - start) * (bytes / side.chunk) + bytes / side.chunk - (p - start) * (bytes / side.chunk))
      ((p - side.from) * (cells / (side.to - side.from))) ((p - side.from) * (cells / (side.to - side.from)) + cells / (side.to - side.from) - (p - side.from) * (cells / (side.to - side.from)))
      old mid sub over.2 over.0 (omega arith) (omega arith) (omega arith) (omega arith)
      (omega (arith, blocks)) (block_there kind s side rest bytes cells step p start begins ends start_is) (omega (arith, rows)) (row_there kind s side rest bytes cells step p start begins ends start_is)
      (e ∙ count_parted kind s side rest bytes cells step) (f ∙ whole) below written
