-- The cells of a box, one after another.
use Rattle.std.proofs.Common.{◌≡◌, ◌∙◌, ◌≤◌, ◌<◌, ◌+◌, ◌-◌, ◌*◌, ◌/◌, ◌%◌, ℕ, zero, suc, ℤ, pos, List, [], ◌∷◌, length, map, get_or, inl, inr, refl, sym, ap, ap₂, arith}
use Rattle.std.specs.List.{flat_map}
use Rattle.std.proofs.Math.Nat.{mod-lt, div-add-mod, div-lt_iff_lt-mul}
use Rattle.std.proofs.lemmas.Nat.{div-mul-add, mod-mul-add}
use Rattle.std.proofs.lemmas.Bool.{cases_lt}
use Rattle.std.proofs.lemmas.List.{length-append, length-map, get_or_append_left, get_or-append_right, get_or-map, ext_get_or}
use Rattle.region_cells.specs.Boxes.{numbers_from, box_cells, count_of, IsInBox, place_in_box}
use Rattle.region_cells.specs.Parts.{cell_in}
use Rattle.region_cells.specs.Walks.{cell_at}
use Rattle.region_cells.proofs.PartLaws.{place_below}

-- ---- pieces of one length
length-pieces : {X : Type 0} (piece : ℕ → List X) (c : ℕ) → ((n : ℕ) → length (piece n) ≡ c) → (a n : ℕ) → length (flat_map piece (numbers_from a n)) ≡ n * c
length-pieces piece c h a zero = omega arith
length-pieces piece c h a (suc n) = length-append (piece a) (flat_map piece (numbers_from (suc a) n)) ∙ ap₂ (λ x y. x + y) (h a) (length-pieces piece c h (suc a) n) ∙ omega arith

further : (k c : ℕ) → 1 ≤ c → c ≤ k → (k / c ≡ suc ((k - c) / c)) × (k % c ≡ (k - c) % c)
further k c some h =
    let r = k - c in
    let split : c * ((k - c) / c) + (k - c) % c ≡ k - c = div-add-mod (k - c) c in
    let rest : (k - c) % c < c = mod-lt (k - c) some in
    let whole : suc ((k - c) / c) * c + (k - c) % c ≡ k = omega arith in
    (ap (λ x. x / c) (sym whole) ∙ div-mul-add (suc ((k - c) / c)) c ((k - c) % c) rest, ap (λ x. x % c) (sym whole) ∙ mod-mul-add (suc ((k - c) / c)) c ((k - c) % c) rest)

nearer : (k c : ℕ) → k < c → (k / c ≡ 0) × (k % c ≡ k)
nearer k c h = (ap (λ x. x / c) (let e : k ≡ 0 * c + k = omega arith in e) ∙ div-mul-add 0 c k h, ap (λ x. x % c) (let e : k ≡ 0 * c + k = omega arith in e) ∙ mod-mul-add 0 c k h)

get_or-pieces : {X : Type 0} (piece : ℕ → List X) (c : ℕ) (d : X) → ((n : ℕ) → length (piece n) ≡ c) → 1 ≤ c → (a n k : ℕ) → k < n * c
    → get_or (flat_map piece (numbers_from a n)) k d ≡ get_or (piece (a + k / c)) (k % c) d
get_or-pieces piece c d h some a zero k less = absurd (omega arith)
get_or-pieces piece c d h some a (suc n) k less =
    elim (cases_lt k c) [
      | inl near ↦
          get_or_append_left (piece a) (flat_map piece (numbers_from (suc a) n)) d k (omega (arith, h a))
          ∙ ap₂ (λ x y. get_or (piece x) y d) (let e : a ≡ a + k / c = omega (arith, (nearer k c near).0) in e) (sym (nearer k c near).1)
      | inr far ↦
          get_or-append_right (piece a) (flat_map piece (numbers_from (suc a) n)) c k d (h a) far
          ∙ get_or-pieces piece c d h some (suc a) n (k - c) (omega arith)
          ∙ ap₂ (λ x y. get_or (piece x) y d) (let e : suc a + (k - c) / c ≡ a + k / c = omega (arith, (further k c some far).0) in e) (sym (further k c some far).1)
    ]

-- ---- the cells of a box
pub length-box : (from to : List ℕ) → length from ≡ length to → length (box_cells from to) ≡ count_of from to
length-box [] [] e = refl
length-box [] (b ∷ to) e = absurd (omega arith)
length-box (a ∷ from) [] e = absurd (omega arith)
length-box (a ∷ from) (b ∷ to) e =
    length-pieces (λ n. map (λ cell. n ∷ cell) (box_cells from to)) (count_of from to) (λ n. length-map (box_cells from to) (λ cell. n ∷ cell) ∙ length-box from to (omega arith)) a (b - a)

-- a product that is more than something has no factor 0
positive_part : (k n c : ℕ) → k < n * c → 1 ≤ c
positive_part k n zero h = absurd (omega arith)
positive_part k n (suc c) h = omega arith

pub box_at : (from to : List ℕ) (k : ℕ) → length from ≡ length to → k < count_of from to → get_or (box_cells from to) k [] ≡ cell_at from to k
box_at [] [] zero e h = refl
box_at [] [] (suc k) e h = absurd (omega arith)
box_at [] (b ∷ to) k e h = absurd (omega arith)
box_at (a ∷ from) [] k e h = absurd (omega arith)
box_at (a ∷ from) (b ∷ to) k e h =
    let c = count_of from to in
    let some : 1 ≤ count_of from to = positive_part k (b - a) (count_of from to) h in
    let rank : length from ≡ length to = omega arith in
    let within : k % count_of from to < count_of from to = mod-lt k some in
    get_or-pieces (λ n. map (λ cell. n ∷ cell) (box_cells from to)) (count_of from to) [] (λ n. length-map (box_cells from to) (λ cell. n ∷ cell) ∙ length-box from to rank) some a (b - a) k h
    ∙ get_or-map (λ cell. (a + k / count_of from to) ∷ cell) (box_cells from to) (k % count_of from to) [] [] (omega (arith, length-box from to rank))
    ∙ ap (λ cell. (a + k / count_of from to) ∷ cell) (box_at from to (k % count_of from to) rank within)

pub record IsAtPlace (from to : List ℕ) (k : ℕ) (cell : List ℕ) : Type 0 where
  pub in_box : IsInBox from to cell
  pub place : place_in_box from to cell ≡ k

pub at_place : (from to : List ℕ) (k : ℕ) → length from ≡ length to → k < count_of from to → IsAtPlace from to k (cell_at from to k)
at_place [] [] k e h = record { in_box = tt; place = omega arith }
at_place [] (b ∷ to) k e h = absurd (omega arith)
at_place (a ∷ from) [] k e h = absurd (omega arith)
at_place (a ∷ from) (b ∷ to) k e h =
    let some : 1 ≤ count_of from to = positive_part k (b - a) (count_of from to) h in
    let rank : length from ≡ length to = omega arith in
    let rest = at_place from to (k % count_of from to) rank (mod-lt k some) in
    let split : count_of from to * (k / count_of from to) + k % count_of from to ≡ k = div-add-mod k (count_of from to) in
    let less : k / count_of from to < b - a = (div-lt_iff_lt-mul some).1 h in
    let offset : a + k / count_of from to - a ≡ k / count_of from to = omega arith in
    record {
      in_box = (omega arith, omega arith, rest.in_box);
      place = ap₂ (λ x y. x * count_of from to + y) offset rest.place ∙ omega arith;
    }

pub cell_back : (from to cell : List ℕ) → IsInBox from to cell → cell_at from to (place_in_box from to cell) ≡ cell
cell_back [] [] [] h = refl
cell_back [] [] (x ∷ cell) h = absurd h
cell_back [] (b ∷ to) [] h = absurd h
cell_back [] (b ∷ to) (x ∷ cell) h = absurd h
cell_back (a ∷ from) [] [] h = absurd h
cell_back (a ∷ from) [] (x ∷ cell) h = absurd h
cell_back (a ∷ from) (b ∷ to) [] h = absurd h
cell_back (a ∷ from) (b ∷ to) (x ∷ cell) h =
    let below = place_below from to cell h.2 in
    let head : ((x - a) * count_of from to + place_in_box from to cell) / count_of from to ≡ x - a = div-mul-add (x - a) (count_of from to) (place_in_box from to cell) below in
    ap₂ (λ y c. y ∷ c) (let e : a + ((x - a) * count_of from to + place_in_box from to cell) / count_of from to ≡ x = omega (arith, h.0) in e)
    (ap (cell_at from to) (mod-mul-add (x - a) (count_of from to) (place_in_box from to cell) below) ∙ cell_back from to cell h.2)

-- numbers that each cell of a box has at its place are all of them, in order
pub whole_box : (f : List ℕ → ℤ) (from to : List ℕ) (numbers : List ℤ) → length from ≡ length to → length numbers ≡ count_of from to
    → ((cell : List ℕ) → IsInBox from to cell → cell_in from to cell numbers ≡ f cell) → numbers ≡ map f (box_cells from to)
whole_box f from to numbers e long each =
    ext_get_or (pos 0) numbers (map f (box_cells from to)) (long ∙ sym (length-box from to e) ∙ sym (length-map (box_cells from to) f))
    (λ k less.
    let within : k < count_of from to = omega arith in
    let at = at_place from to k e within in
    ap (λ q. get_or numbers q (pos 0)) (sym at.place) ∙ each (cell_at from to k) at.in_box
    ∙ ap f (sym (box_at from to k e within))
    ∙ sym (get_or-map f (box_cells from to) k [] (pos 0) (omega (arith, length-box from to e))))
