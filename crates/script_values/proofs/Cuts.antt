-- Texts cut at their first separator, and lines at their first line feed.
use Rattle.std.proofs.Common.{◌≡◌, ◌≢◌, ℕ, zero, suc, ◌+◌, ◌-◌, ◌<◌, Bool, true, false, cond, nat_eq, List, [], ◌∷◌, ◌++◌, length, get_or, take, drop, refl, ap, arith, Option, None, Some}
use Rattle.std.specs.List.{onto_first}
use Rattle.std.proofs.lemmas.Grind.{common_steps}
use Rattle.std.proofs.lemmas.List.{length-append}
use Rattle.script_values.specs.Words.{cut_of, lines_of, parts, pieces}

same : (c : ℕ) → nat_eq c c ≡ true
same c = grind arith

differ : (b c : ℕ) → b ≢ c → nat_eq b c ≡ false
differ b c h = grind (arith, h)

pub cut_append : (c : ℕ) (xs ys : List ℕ) → ((i : ℕ) → i < length xs → get_or xs i 0 ≢ c) → cut_of c (xs ++ (c ∷ ys)) ≡ (xs, Some ys)
unfolding cut_of
cut_append c [] ys none = rw (same c) refl
cut_append c (x ∷ xs) ys none =
    rw (differ x c (none 0 (omega arith)), cut_append c xs ys (λ i h. none (suc i) (omega (arith, h)))) refl

pub cut_whole : (c : ℕ) (xs : List ℕ) → ((i : ℕ) → i < length xs → get_or xs i 0 ≢ c) → cut_of c xs ≡ (xs, None)
unfolding cut_of
cut_whole c [] none = refl
cut_whole c (x ∷ xs) none =
    rw (differ x c (none 0 (omega arith)), cut_whole c xs (λ i h. none (suc i) (omega (arith, h)))) refl

by_cut : (t : Bool) (c b : ℕ) (bs : List ℕ) → parts c bs ≡ (cut_of c bs).0 ∷ pieces c (cut_of c bs).1 → cond t ([] ∷ parts c bs) (onto_first b (parts c bs)) ≡ (cond {A = List ℕ × Option (List ℕ)} t ([], Some bs) (b ∷ (cut_of c bs).0, (cut_of c bs).1)).0 ∷ pieces c (cond {A = List ℕ × Option (List ℕ)} t ([], Some bs) (b ∷ (cut_of c bs).0, (cut_of c bs).1)).1
by_cut true c b bs e = refl
by_cut false c b bs e = ap (onto_first b) e

-- the parts begin with the cut
pub parts_cut : (c : ℕ) (xs : List ℕ) → parts c xs ≡ (cut_of c xs).0 ∷ pieces c (cut_of c xs).1
unfolding cut_of
parts_cut c [] = refl
parts_cut c (b ∷ bs) = by_cut (nat_eq b c) c b bs (parts_cut c bs)

pub parts_from_cut : (c : ℕ) (xs first : List ℕ) (rest : Option (List ℕ)) → cut_of c xs ≡ (first, rest) → parts c xs ≡ first ∷ pieces c rest
parts_from_cut c xs first rest e = rw e at (parts_cut c xs)

pub rest_shorter : (bs xs : List ℕ) (c : ℕ) (ys : List ℕ) → bs ≡ xs ++ (c ∷ ys) → length ys < length bs
rest_shorter bs xs c ys e = rw (e, length-append xs (c ∷ ys)) (omega arith)

-- the first line ends at the first line feed
pub lines_at : (xs : List ℕ) (i : ℕ) → i < length xs → get_or xs i 0 ≡ 10 → ((k : ℕ) → k < i → get_or xs k 0 ≢ 10) → lines_of xs ≡ take i xs ∷ lines_of (drop (i + 1) xs)
unfolding lines_of
lines_at [] i lt is none = absurd (omega (arith, lt))
lines_at (x ∷ xs) zero lt is none = rw is refl
lines_at (x ∷ xs) (suc i) lt is none =
    let e : suc i + 1 ≡ suc (i + 1) = omega arith in
    rw (e, differ x 10 (none 0 (omega arith)), lines_at xs i (omega (arith, lt)) is (λ k h. none (suc k) (omega (arith, h)))) refl

rest_is : (xs : List ℕ) (i : ℕ) → take (length xs - i) (drop i xs) ≡ drop i xs
rest_is xs i = grind (arith, common_steps)

-- the same, with the rest as a slice to the end
pub lines_slice : (xs : List ℕ) (i : ℕ) → i < length xs → get_or xs i 0 ≡ 10 → ((k : ℕ) → k < i → get_or xs k 0 ≢ 10) → lines_of xs ≡ take i xs ∷ lines_of (take (length xs - (i + 1)) (drop (i + 1) xs))
lines_slice xs i lt is none = rw (rest_is xs (i + 1)) (lines_at xs i lt is none)

-- the last line has no line feed
pub lines_whole : (xs : List ℕ) → 0 < length xs → ((k : ℕ) → k < length xs → get_or xs k 0 ≢ 10) → lines_of xs ≡ xs ∷ lines_of []
unfolding lines_of
lines_whole [] some none = absurd (omega (arith, some))
lines_whole (x ∷ []) some none = rw (differ x 10 (none 0 (omega arith))) refl
lines_whole (x ∷ y ∷ ys) some none =
    rw (differ x 10 (none 0 (omega arith)), lines_whole (y ∷ ys) (omega arith) (λ k h. none (suc k) (omega (arith, h)))) refl

-- the first word ends at the first space
pub cut_at : (c : ℕ) (xs : List ℕ) (i : ℕ) → i < length xs → get_or xs i 0 ≡ c → ((k : ℕ) → k < i → get_or xs k 0 ≢ c) → (cut_of c xs).0 ≡ take i xs
unfolding cut_of
cut_at c [] i lt is none = absurd (omega (arith, lt))
cut_at c (x ∷ xs) zero lt is none = rw (is, same c) refl
cut_at c (x ∷ xs) (suc i) lt is none =
    rw (differ x c (none 0 (omega arith)), cut_at c xs i (omega (arith, lt)) is (λ k h. none (suc k) (omega (arith, h)))) refl
