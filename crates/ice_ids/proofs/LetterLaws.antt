-- Letters of base 32 and the digits that they stand for.
use Rattle.std.proofs.Common.{◌≡◌, ℕ, zero, suc, ◌+◌, ◌*◌, ◌^◌, ◌<◌, ◌≤◌, Bool, true, false, ◌&&◌, ◌==◌, nat_lt, List, length, get_or, map, Option, Some, None, is_none, unwrap_or, Ok, Err, take, refl, ap, ◌∙◌, arith, subst, inl, inr}
use Rattle.std.specs.List.{All, position, position_or_len}
use Rattle.std.proofs.lemmas.Bool.{eqb-true, ltb-true, lt-ltb, le-ltb}
use Rattle.std.proofs.lemmas.Bool.Decides.{eqb_tells}
use Rattle.std.proofs.lemmas.List.Quantifiers.{position-Some}
use Rattle.std.proofs.lemmas.List.{map_more, take-map, length-map}
use Rattle.std.proofs.lemmas.List.Sums.{position_or_len_is}
use Rattle.std.proofs.lemmas.List.Elements.{All-map}
use Rattle.std.specs.Int.Digits.{number_from_digits}
use Rattle.std.proofs.lemmas.Int.Digits.{number_push}
use Rattle.ice_ids.specs.Text.{alphabet, letter_of, digit_of, value_of, is_foreign, number_of_letters, number_unless}
use Rattle.ice_ids.specs.declared.IdFault.TheVariants as F
use Rattle.ice_ids.proofs.DigitLaws.{number-take-below}

-- a test that each number below a bound passes
abbrev all_below : (ℕ → Bool) → ℕ → Bool
all_below test zero = true
all_below test (suc n) = test n && all_below test n

both_from_and : (a b : Bool) → (a && b) ≡ true → (a ≡ true) × (b ≡ true)
both_from_and true b both = (refl, both)
both_from_and false b both = cc

all_below-at : (test : ℕ → Bool) (n k : ℕ) → all_below test n ≡ true → k < n → test k ≡ true
all_below-at test zero k passes below = absurd (omega arith)
all_below-at test (suc n) k passes below =
    let both : (test n ≡ true) × (all_below test n ≡ true) = both_from_and (test n) (all_below test n) passes in
    elim (eqb_tells k n) as (λ _. test k ≡ true) [
      | inl same ↦ ap test same.1 ∙ both.0
      | inr other ↦ let earlier : k < n = omega (arith, other.1) in all_below-at test n k both.1 earlier
    ]

reads_back : ℕ → Bool
reads_back digit = unwrap_or (digit_of (letter_of digit)) 32 == digit

all_read_back : all_below reads_back 32 ≡ true
unfolding reads_back digit_of letter_of alphabet
all_read_back = refl

some_from_value : (read : Option ℕ) (digit : ℕ) → digit < 32 → (unwrap_or read 32 == digit) ≡ true → read ≡ Some digit
some_from_value None digit below same = let is : 32 ≡ digit = eqb-true _ _ same in absurd (omega arith)
some_from_value (Some value) digit below same = ap (λ v. Some v) (eqb-true _ _ same)

-- each digit's letter is read as that digit
pub digit_of-letter_of : (digit : ℕ) → digit < 32 → digit_of (letter_of digit) ≡ Some digit
unfolding reads_back
digit_of-letter_of digit below =
    some_from_value (digit_of (letter_of digit)) digit below (all_below-at reads_back 32 digit all_read_back below)

-- each letter that is read is that digit's letter
pub letter_of-digit_of : (letter digit : ℕ) → digit_of letter ≡ Some digit → (digit < 32) × (letter_of digit ≡ letter)
unfolding digit_of letter_of alphabet
letter_of-digit_of letter digit is =
    let at : (digit < 32) × ((get_or alphabet digit 0 == letter) ≡ true) × ((k : ℕ) → k < digit → (get_or alphabet k 0 == letter) ≡ false) =
    position-Some (λ a. a == letter) alphabet digit 0 is in
    (at.0, eqb-true (get_or alphabet digit 0) letter at.1)

is_plain : ℕ → Bool
is_plain digit = nat_lt 47 (letter_of digit) && nat_lt (letter_of digit) 91

all_plain : all_below is_plain 32 ≡ true
unfolding is_plain letter_of alphabet
all_plain = refl

-- a letter is an ASCII character that can be printed, and no space and no quote
pub letter_of-plain : (digit : ℕ) → digit < 32 → (47 < letter_of digit) × (letter_of digit < 91)
unfolding is_plain
letter_of-plain digit below =
    let both : (nat_lt 47 (letter_of digit) ≡ true) × (nat_lt (letter_of digit) 91 ≡ true) =
    both_from_and _ _ (all_below-at is_plain 32 digit all_plain below) in
    (ltb-true 47 (letter_of digit) both.0, ltb-true (letter_of digit) 91 both.1)

read-below : (letter : ℕ) (read : Option ℕ) → digit_of letter ≡ read → unwrap_or read 0 < 32
read-below letter None is = omega arith
read-below letter (Some digit) is = (letter_of-digit_of letter digit is).0

pub value_of-below : (letter : ℕ) → value_of letter < 32
unfolding value_of
value_of-below letter = read-below letter (digit_of letter) refl

pub is_foreign-None : (letter : ℕ) → digit_of letter ≡ None → is_foreign letter ≡ true
unfolding is_foreign
is_foreign-None letter is = ap is_none is

pub is_foreign-Some : (letter digit : ℕ) → digit_of letter ≡ Some digit → is_foreign letter ≡ false
unfolding is_foreign
is_foreign-Some letter digit is = ap is_none is

pub value_of-Some : (letter digit : ℕ) → digit_of letter ≡ Some digit → value_of letter ≡ digit
unfolding value_of
value_of-Some letter digit is = ap (λ read. unwrap_or read 0) is

position-first : (p : ℕ → Bool) (xs : List ℕ) (i : ℕ) → i < length xs → ((k : ℕ) → k < i → p (get_or xs k 0) ≡ false) → p (get_or xs i 0) ≡ true → position p xs ≡ Some i
position-first p xs i inside before here =
    let first : position_or_len p xs ≡ i = position_or_len_is p xs i 0 (omega arith) before (λ _. here) in
    let test : nat_lt i (length xs) ≡ true = lt-ltb i (length xs) inside in
    rw (first, test) refl

position-none : (p : ℕ → Bool) (xs : List ℕ) → ((k : ℕ) → k < length xs → p (get_or xs k 0) ≡ false) → position p xs ≡ None
position-none p xs before =
    let first : position_or_len p xs ≡ length xs = position_or_len_is p xs (length xs) 0 (omega arith) before (λ below. absurd (omega arith)) in
    let test : nat_lt (length xs) (length xs) ≡ false = le-ltb (length xs) (length xs) (omega arith) in
    rw (first, test) refl

-- the first byte that is no letter is told
pub number_of_letters-foreign : (text : List ℕ) (at : ℕ) → at < length text → ((k : ℕ) → k < at → is_foreign (get_or text k 0) ≡ false) → is_foreign (get_or text at 0) ≡ true → number_of_letters text ≡ Err (F.Digit at)
unfolding number_of_letters number_unless
number_of_letters-foreign text at inside before here =
    ap (λ found. number_unless found text) (position-first is_foreign text at inside before here)

-- letters alone write a number
pub number_of_letters-all : (text : List ℕ) → ((k : ℕ) → k < length text → is_foreign (get_or text k 0) ≡ false) → number_of_letters text ≡ Ok (number_from_digits 32 (map value_of text))
unfolding number_of_letters number_unless
number_of_letters-all text before =
    ap (λ found. number_unless found text) (position-none is_foreign text before)

-- one more letter
pub letters_more : (text : List ℕ) (at digit : ℕ) → at < length text → digit_of (get_or text at 0) ≡ Some digit → number_from_digits 32 (map value_of (take (at + 1) text)) ≡ number_from_digits 32 (map value_of (take at text)) * 32 + digit
letters_more text at digit inside is =
    ap (number_from_digits 32) (map_more value_of text at 0 inside)
    ∙ number_push 32 (map value_of (take at text)) (value_of (get_or text at 0))
    ∙ ap (λ d. number_from_digits 32 (map value_of (take at text)) * 32 + d) (value_of-Some _ digit is)

pub letters-below : (text : List ℕ) (i n : ℕ) → i ≤ n → i ≤ length text → number_from_digits 32 (map value_of (take i text)) < 32 ^ n
letters-below text i n within inside =
    let below : All (λ d. d < 32) (map value_of text) = All-map (λ d. d < 32) value_of text (λ k d _. value_of-below _) in
    subst (λ (xs : List ℕ). number_from_digits 32 xs < 32 ^ n) (take-map value_of i text)
    (number-take-below 32 (map value_of text) i n (omega arith) below within (rw length-map inside))
