-- Texts that are put together are cut where they were joined.
use Rattle.std.proofs.Common.{◌≡◌, ℕ, ◌<◌, Bool, true, false, cond, List, [], ◌∷◌, ◌++◌, length, None, Some, refl, ap, arith}
use Rattle.std.specs.Prelude.{◌==◌}
use Rattle.std.specs.List.{list_all, onto_first}
use Rattle.std.proofs.lemmas.Bool.{and_parts, not-true, cond_both}
use Rattle.std.proofs.lemmas.Bool.Decides.{nat_tests}
use Rattle.script_values.specs.Words.{Text, lines_of, cut_of, parts, next}
use Rattle.grown_scripts.proofs.Bytes.{is_not, is_line, line_no_feed}

same : (c : ℕ) → (c == c) ≡ true
same c = grind (arith, nat_tests)

-- a first byte that isn't the separator
first_off : (c b : ℕ) (bs : Text) → list_all (is_not c) (b ∷ bs) ≡ true → ((b == c) ≡ false) × (list_all (is_not c) bs ≡ true)
first_off c b bs h =
    let both = and_parts (is_not c b) (list_all (is_not c) bs) h in
    (not-true (b == c) both.0, both.1)

-- a line ends at its line feed
pub feed_at : (w rest : Text) → list_all (is_not 10) w ≡ true → lines_of (w ++ 10 ∷ rest) ≡ w ∷ lines_of rest
unfolding lines_of
feed_at [] rest h = refl
feed_at (b ∷ bs) rest h = let off = first_off 10 b bs h in rw (off.0, feed_at bs rest off.1) refl

pub line_off : (w rest : Text) → is_line w ≡ true → lines_of (w ++ 10 ∷ rest) ≡ w ∷ lines_of rest
line_off w rest h = feed_at w rest (line_no_feed w h)

pub cut_at : (c : ℕ) (w rest : Text) → list_all (is_not c) w ≡ true → cut_of c (w ++ c ∷ rest) ≡ (w, Some rest)
unfolding cut_of
cut_at c [] rest h = rw (same c) refl
cut_at c (b ∷ bs) rest h = let off = first_off c b bs h in rw (off.0, cut_at c bs rest off.1) refl

pub cut_none : (c : ℕ) (w : Text) → list_all (is_not c) w ≡ true → cut_of c w ≡ (w, None)
unfolding cut_of
cut_none c [] h = refl
cut_none c (b ∷ bs) h = let off = first_off c b bs h in rw (off.0, cut_none c bs off.1) refl

-- words

pub next_word : (w rest : Text) → 0 < length w → list_all (is_not 32) w ≡ true → next (Some (w ++ 32 ∷ rest)) ≡ Some (w, Some rest)
next_word [] rest some h = absurd (omega (arith, some))
next_word (b ∷ bs) rest some h = rw (cut_at 32 (b ∷ bs) rest h) refl

pub last_word : (w : Text) → 0 < length w → list_all (is_not 32) w ≡ true → next (Some w) ≡ Some (w, None)
last_word [] some h = absurd (omega (arith, some))
last_word (b ∷ bs) some h = rw (cut_none 32 (b ∷ bs) h) refl

-- parts

pub one_part : (c : ℕ) (w : Text) → list_all (is_not c) w ≡ true → parts c w ≡ w ∷ []
one_part c [] h = refl
one_part c (b ∷ bs) h = let off = first_off c b bs h in rw (off.0, one_part c bs off.1) refl

onto_append : (b : ℕ) (xs ys zs : List Text) → xs ≡ ys ++ zs → 0 < length ys → onto_first b xs ≡ onto_first b ys ++ zs
onto_append b xs [] zs e some = absurd (omega (arith, some))
onto_append b xs (y ∷ ys) zs e some = rw e refl

pub some_part : (c : ℕ) (w : Text) → 0 < length (parts c w)
some_part c [] = omega arith
some_part c (b ∷ bs) =
    cond_both (b == c) ([] ∷ parts c bs) (onto_first b (parts c bs)) (λ (ps : List Text). 0 < length ps)
    (λ _. omega arith) (λ _. onto_some (parts c bs))
  where
    onto_some : (ps : List Text) → 0 < length (onto_first b ps)
    onto_some [] = omega arith
    onto_some (p ∷ ps) = omega arith

-- the parts of two texts with a separator between them
pub parts_join : (c : ℕ) (xs ys : Text) → parts c (xs ++ c ∷ ys) ≡ parts c xs ++ parts c ys
parts_join c [] ys = rw (same c) refl
parts_join c (x ∷ xs) ys = by_first (x == c) (parts_join c xs ys)
  where
    by_first : (t : Bool) → parts c (xs ++ c ∷ ys) ≡ parts c xs ++ parts c ys → cond {A = List Text} t ([] ∷ parts c (xs ++ c ∷ ys)) (onto_first x (parts c (xs ++ c ∷ ys))) ≡ cond {A = List Text} t ([] ∷ parts c xs) (onto_first x (parts c xs)) ++ parts c ys
    by_first true e = ap (λ (ps : List Text). [] ∷ ps) e
    by_first false e = onto_append x _ (parts c xs) (parts c ys) e (some_part c xs)
