-- The text of an id and its reading undo each other.
use Rattle.std.proofs.Common.{◌≡◌, ℕ, suc, ◌+◌, ◌*◌, ◌/◌, ◌%◌, ◌^◌, ◌<◌, ◌≤◌, Bool, true, false, ◌==◌, cond, List, [], ◌∷◌, length, get_or, map, Option, Some, None, is_none, unwrap_or, Result, Ok, Err, All, refl, sym, ap, ◌∙◌, arith, subst, add-zero, inl, inr, IsOk, MatchResult}
use Rattle.std.specs.List.{position, position_or_len}
use Rattle.std.specs.Int.Digits.{number_from_digits}
use Rattle.std.specs.Str.{IsAscii, IsUtf8}
use Rattle.std.proofs.lemmas.List.{length-map, get_or-map, get_or_past}
use Rattle.std.proofs.lemmas.List.Elements.{All-head, All-tail, All-map}
use Rattle.std.proofs.lemmas.List.Sums.{fails_before_first}
use Rattle.std.proofs.lemmas.Nat.{shl-shr, shr_split, mod_low, pow_pos}
use Rattle.std.proofs.lemmas.Bool.{eqb-true, eq-eqb, ltb-false, cases_lt}
use Rattle.std.proofs.lemmas.Slice.Eq.{bytes_eq-Decides}
use Rattle.std.proofs.lemmas.Str.{IsUtf8-from_ascii}
use Rattle.ice_ids.specs.declared.Id12.{Id12}
use Rattle.ice_ids.specs.declared.Id8.{Id8}
use Rattle.ice_ids.specs.declared.IdFault.{IdFault}
use Rattle.ice_ids.specs.declared.IdFault.TheVariants as F
use Rattle.ice_ids.specs.Digits.{digits_in}
use Rattle.ice_ids.specs.Text.{letter_of, digit_of, value_of, is_foreign, text_of_bytes, number_of_text, number_of_letters, number_unless, without_added, IsId12, IsId8, id12_text, id8_text, id12_of_text, id12_of_number, id8_of_text, id8_of_number, same_id12, same_id8}
use Rattle.ice_ids.proofs.DigitLaws.{length-digits_in, digits_in-All, number-digits_in, digits_in-number, number-below}
use Rattle.ice_ids.proofs.LetterLaws.{digit_of-letter_of, letter_of-digit_of, is_foreign-Some, value_of-Some, value_of-below, number_of_letters-all, letter_of-plain}

-- ## Reading what was written

values-letters : (ds : List ℕ) → All (λ d. d < 32) ds → map value_of (map letter_of ds) ≡ ds
values-letters [] below = refl
values-letters (d ∷ ds) below =
    let here : value_of (letter_of d) ≡ d = value_of-Some _ d (digit_of-letter_of d (All-head (λ e. e < 32) d ds below)) in
    ap (λ x. x ∷ map value_of (map letter_of ds)) here
    ∙ ap (λ xs. d ∷ xs) (values-letters ds (All-tail (λ e. e < 32) d ds below))

letters-not_foreign : (ds : List ℕ) → All (λ d. d < 32) ds → (k : ℕ) → k < length (map letter_of ds) → is_foreign (get_or (map letter_of ds) k 0) ≡ false
letters-not_foreign ds below k inside =
    let within : k < length ds = omega (arith, length-map ds letter_of) in
    ap is_foreign (get_or-map letter_of ds k 0 0 within)
    ∙ is_foreign-Some _ _ (digit_of-letter_of (get_or ds k 0) (below k 0 within))

-- the letters of digits are read as the number that they write
read-letters : (ds : List ℕ) → All (λ d. d < 32) ds → number_of_letters (map letter_of ds) ≡ Ok (number_from_digits 32 ds)
read-letters ds below =
    number_of_letters-all (map letter_of ds) (letters-not_foreign ds below)
    ∙ ap (λ xs. Ok (number_from_digits 32 xs)) (values-letters ds below)

added-none : (added number : ℕ) → without_added added (Ok (number * 2 ^ added)) ≡ Ok number
unfolding without_added
added-none added number =
    let rest : number * 2 ^ added % 2 ^ added ≡ 0 =
    ap (λ n. n % 2 ^ added) (sym (add-zero (number * 2 ^ added))) ∙ mod_low number added 0 (pow_pos added) in
    let test : (number * 2 ^ added % 2 ^ added == 0) ≡ true = eq-eqb _ 0 rest in
    ap (λ b. cond b (Ok (number * 2 ^ added / 2 ^ added)) (Err F.Added)) test ∙ ap (λ n. Ok n) (shl-shr number added)

-- the text of bytes is read as the number that they stand for
number_of_text-text_of_bytes : (count characters added : ℕ) (bytes : List ℕ) → length bytes ≡ count → All (λ b. b < 256) bytes → ((n : ℕ) → n < 256 ^ count → n * 2 ^ added < 32 ^ characters) → number_of_text characters added (text_of_bytes characters added bytes) ≡ Ok (number_from_digits 256 bytes)
unfolding number_of_text text_of_bytes
number_of_text-text_of_bytes count characters added bytes long below room =
    let number : ℕ = number_from_digits 256 bytes in
    let digits : List ℕ = digits_in 32 characters (number * 2 ^ added) in
    let small : number < 256 ^ count = subst (λ (m : ℕ). number < 256 ^ m) long (number-below 256 bytes below) in
    let whole : length (map letter_of digits) ≡ characters = length-map digits letter_of ∙ length-digits_in 32 characters (number * 2 ^ added) in
    let test : (length (map letter_of digits) == characters) ≡ true = eq-eqb _ _ whole in
    let read : number_of_letters (map letter_of digits) ≡ Ok (number * 2 ^ added) =
    read-letters digits (digits_in-All 32 characters (number * 2 ^ added) (omega arith))
    ∙ ap (λ n. Ok n) (number-digits_in 32 characters (number * 2 ^ added) (omega arith) (room number small)) in
    ap (λ b. cond b (without_added added (number_of_letters (map letter_of digits))) (Err (F.Length (length (map letter_of digits))))) test
    ∙ ap (without_added added) read
    ∙ added-none added number

-- ## What is read was written

taken-Ok : (test : Bool) (read : Result ℕ IdFault) (fault : IdFault) (number : ℕ) → cond test read (Err fault) ≡ Ok number → (test ≡ true) × (read ≡ Ok number)
taken-Ok true read fault number is = (refl, is)
taken-Ok false read fault number is = cc

abbrev value_in : Result ℕ IdFault → ℕ
value_in (Ok number) = number
value_in (Err fault) = 0

without_added-Ok : (added : ℕ) (read : Result ℕ IdFault) (number : ℕ) → without_added added read ≡ Ok number → read ≡ Ok (number * 2 ^ added)
unfolding without_added
without_added-Ok added (Ok whole) number is =
    let both : ((whole % 2 ^ added == 0) ≡ true) × (Ok (whole / 2 ^ added) ≡ Ok number) = taken-Ok _ _ F.Added number is in
    let quotient : whole / 2 ^ added ≡ number = ap value_in both.1 in
    let rest : whole % 2 ^ added ≡ 0 = eqb-true _ 0 both.0 in
    let split : whole / 2 ^ added * 2 ^ added + whole % 2 ^ added ≡ whole = shr_split whole added in
    let times : whole / 2 ^ added * 2 ^ added ≡ number * 2 ^ added = ap (λ n. n * 2 ^ added) quotient in
    ap (λ n. Ok n) (omega arith)
without_added-Ok added (Err fault) number is = cc

cond-None : (test : Bool) (i : ℕ) → cond test (Some i) None ≡ None → test ≡ false
cond-None true i is = cc
cond-None false i is = refl

position-None : (p : ℕ → Bool) (xs : List ℕ) → position p xs ≡ None → (k : ℕ) → k < length xs → p (get_or xs k 0) ≡ false
position-None p xs none k inside =
    let past : length xs ≤ position_or_len p xs = ltb-false _ _ (cond-None _ _ none) in
    fails_before_first p xs k 0 (omega arith)

some-digit : (letter : ℕ) (read : Option ℕ) → digit_of letter ≡ read → is_none read ≡ false → letter_of (unwrap_or read 0) ≡ letter
some-digit letter None is known = cc
some-digit letter (Some digit) is known = (letter_of-digit_of letter digit is).1

letter_of-value_of : (letter : ℕ) → is_foreign letter ≡ false → letter_of (value_of letter) ≡ letter
unfolding is_foreign value_of
letter_of-value_of letter known = some-digit letter (digit_of letter) refl known

letters-values : (text : List ℕ) → ((k : ℕ) → k < length text → is_foreign (get_or text k 0) ≡ false) → map letter_of (map value_of text) ≡ text
letters-values [] known = refl
letters-values (c ∷ cs) known =
    ap (λ x. x ∷ map letter_of (map value_of cs)) (letter_of-value_of c (known 0 (omega arith)))
    ∙ ap (λ xs. c ∷ xs) (letters-values cs (λ k inside. known (suc k) (omega arith)))

-- letters that are read are the digits of their number, spelled
record IsSpelled (text : List ℕ) (number : ℕ) : Type 0 where
  letters : map letter_of (digits_in 32 (length text) number) ≡ text
  small : number < 32 ^ length text

spelled : (found : Option ℕ) (text : List ℕ) (number : ℕ) → position is_foreign text ≡ found → number_unless found text ≡ Ok number → IsSpelled text number
unfolding number_unless
spelled (Some at) text number where' is = cc
spelled None text number where' is =
    let ds : List ℕ = map value_of text in
    let long : length ds ≡ length text = length-map text value_of in
    let below : All (λ d. d < 32) ds = All-map (λ d. d < 32) value_of text (λ k d _. value_of-below _) in
    let writes : number_from_digits 32 ds ≡ number = ap value_in is in
    let digits : digits_in 32 (length text) number ≡ ds =
    ap (λ m. digits_in 32 m number) (sym long) ∙ ap (λ n. digits_in 32 (length ds) n) (sym writes) ∙ digits_in-number 32 ds below in
    record {
      letters = ap (map letter_of) digits ∙ letters-values text (position-None is_foreign text where');
      small = subst (λ (m : ℕ). number < 32 ^ m) long (subst (λ (n : ℕ). n < 32 ^ length ds) writes (number-below 32 ds below));
    }

number_of_letters-Ok : (text : List ℕ) (number : ℕ) → number_of_letters text ≡ Ok number → IsSpelled text number
unfolding number_of_letters
number_of_letters-Ok text number is = spelled (position is_foreign text) text number refl is

-- a text that is read is the text of what was read
number_of_text-Ok : (count characters added : ℕ) (text : List ℕ) (number : ℕ) → ((n : ℕ) → n * 2 ^ added < 32 ^ characters → n < 256 ^ count) → number_of_text characters added text ≡ Ok number → text ≡ text_of_bytes characters added (digits_in 256 count number)
unfolding number_of_text text_of_bytes
number_of_text-Ok count characters added text number fits is =
    let both : ((length text == characters) ≡ true) × (without_added added (number_of_letters text) ≡ Ok number) =
    taken-Ok _ _ (F.Length (length text)) number is in
    let long : length text ≡ characters = eqb-true _ _ both.0 in
    let by : IsSpelled text (number * 2 ^ added) = number_of_letters-Ok text _ (without_added-Ok added (number_of_letters text) number both.1) in
    let small : number < 256 ^ count = fits number (subst (λ (m : ℕ). number * 2 ^ added < 32 ^ m) long by.small) in
    let same : number_from_digits 256 (digits_in 256 count number) ≡ number = number-digits_in 256 count number (omega arith) small in
    sym by.letters
    ∙ ap (λ m. map letter_of (digits_in 32 m (number * 2 ^ added))) long
    ∙ ap (λ n. map letter_of (digits_in 32 characters (n * 2 ^ added))) (sym same)

-- ## What stands in a text

length-text_of_bytes : (characters added : ℕ) (bytes : List ℕ) → length (text_of_bytes characters added bytes) ≡ characters
unfolding text_of_bytes
length-text_of_bytes characters added bytes = length-map _ letter_of ∙ length-digits_in 32 characters _

text_of_bytes-plain : (characters added : ℕ) (bytes : List ℕ) → All (λ c. (47 < c) × (c < 91)) (text_of_bytes characters added bytes)
unfolding text_of_bytes
text_of_bytes-plain characters added bytes =
    All-map (λ c. (47 < c) × (c < 91)) letter_of _ (λ k d inside. letter_of-plain _ (digits_in-All 32 characters _ (omega arith) k d inside))

plain-IsAscii : (text : List ℕ) → All (λ c. (47 < c) × (c < 91)) text → IsAscii text
plain-IsAscii text plain i = elim (cases_lt i (length text)) [
  | inl inside ↦ let here = plain i 0 inside in omega (arith, here.1)
  | inr past ↦ let default : get_or text i 0 ≡ 0 = get_or_past text i 0 past in omega arith
]

text_of_bytes-IsUtf8 : (characters added : ℕ) (bytes : List ℕ) → IsUtf8 (text_of_bytes characters added bytes)
text_of_bytes-IsUtf8 characters added bytes = IsUtf8-from_ascii _ (plain-IsAscii _ (text_of_bytes-plain characters added bytes))

-- ## Object ids

pub id12_of_text-id12_text : (id : Id12) → IsId12 id → id12_of_text (id12_text id) ≡ Ok id
id12_of_text-id12_text id known =
    ap id12_of_number (number_of_text-text_of_bytes 12 20 4 id.0 known.0 known.1 (λ n small. omega arith))
    ∙ ap (λ bytes. Ok (record { 0 = bytes }))
    (ap (λ m. digits_in 256 m (number_from_digits 256 id.0)) (sym known.0) ∙ digits_in-number 256 id.0 known.1)

abbrev id12_in : Id12 → Result Id12 IdFault → Id12
id12_in default (Ok id) = id
id12_in default (Err fault) = default

id12-read : (text : List ℕ) (id : Id12) (read : Result ℕ IdFault) → number_of_text 20 4 text ≡ read → id12_of_number read ≡ Ok id → (text ≡ id12_text id) × IsId12 id
id12-read text id (Ok number) is made =
    let bytes : List ℕ = digits_in 256 12 number in
    let same : bytes ≡ id.0 = ap (λ read. (id12_in id read).0) made in
    let spelled : text ≡ text_of_bytes 20 4 bytes = number_of_text-Ok 12 20 4 text number (λ n small. omega arith) is in
    let below : All (λ b. b < 256) bytes = digits_in-All 256 12 number (omega arith) in (
      spelled ∙ ap (text_of_bytes 20 4) same,
      (ap length (sym same) ∙ length-digits_in 256 12 number, subst (λ (xs : List ℕ). All (λ b. b < 256) xs) same below),
    )
id12-read text id (Err fault) is made = cc

pub id12_of_text-Ok : (text : List ℕ) (id : Id12) → id12_of_text text ≡ Ok id → (text ≡ id12_text id) × IsId12 id
id12_of_text-Ok text id is = id12-read text id (number_of_text 20 4 text) refl is

pub length-id12_text : (id : Id12) → length (id12_text id) ≡ 20
length-id12_text id = length-text_of_bytes 20 4 id.0

pub id12_text-plain : (id : Id12) → All (λ c. (47 < c) × (c < 91)) (id12_text id)
id12_text-plain id = text_of_bytes-plain 20 4 id.0

pub id12_text-IsUtf8 : (id : Id12) → IsUtf8 (id12_text id)
id12_text-IsUtf8 id = text_of_bytes-IsUtf8 20 4 id.0

-- two ids with one text are one
pub same_from_id12_text : (a b : Id12) → IsId12 a → IsId12 b → id12_text a ≡ id12_text b → a ≡ b
same_from_id12_text a b known other same =
    ap (id12_in a) (sym (id12_of_text-id12_text a known) ∙ ap id12_of_text same ∙ id12_of_text-id12_text b other)

pub same_id12-true : (a b : Id12) → same_id12 a b ≡ true → a ≡ b
same_id12-true a b is = ap (λ bytes. record { 0 = bytes }) ((bytes_eq-Decides a.0 b.0).0 is)

pub same_id12-self : (a : Id12) → same_id12 a a ≡ true
same_id12-self a = (bytes_eq-Decides a.0 a.0).1 refl

-- ## Node ids

pub id8_of_text-id8_text : (id : Id8) → IsId8 id → id8_of_text (id8_text id) ≡ Ok id
id8_of_text-id8_text id known =
    ap id8_of_number (number_of_text-text_of_bytes 8 13 1 id.0 known.0 known.1 (λ n small. omega arith))
    ∙ ap (λ bytes. Ok (record { 0 = bytes }))
    (ap (λ m. digits_in 256 m (number_from_digits 256 id.0)) (sym known.0) ∙ digits_in-number 256 id.0 known.1)

abbrev id8_in : Id8 → Result Id8 IdFault → Id8
id8_in default (Ok id) = id
id8_in default (Err fault) = default

id8-read : (text : List ℕ) (id : Id8) (read : Result ℕ IdFault) → number_of_text 13 1 text ≡ read → id8_of_number read ≡ Ok id → (text ≡ id8_text id) × IsId8 id
id8-read text id (Ok number) is made =
    let bytes : List ℕ = digits_in 256 8 number in
    let same : bytes ≡ id.0 = ap (λ read. (id8_in id read).0) made in
    let spelled : text ≡ text_of_bytes 13 1 bytes = number_of_text-Ok 8 13 1 text number (λ n small. omega arith) is in
    let below : All (λ b. b < 256) bytes = digits_in-All 256 8 number (omega arith) in (
      spelled ∙ ap (text_of_bytes 13 1) same,
      (ap length (sym same) ∙ length-digits_in 256 8 number, subst (λ (xs : List ℕ). All (λ b. b < 256) xs) same below),
    )
id8-read text id (Err fault) is made = cc

pub id8_of_text-Ok : (text : List ℕ) (id : Id8) → id8_of_text text ≡ Ok id → (text ≡ id8_text id) × IsId8 id
id8_of_text-Ok text id is = id8-read text id (number_of_text 13 1 text) refl is

pub length-id8_text : (id : Id8) → length (id8_text id) ≡ 13
length-id8_text id = length-text_of_bytes 13 1 id.0

pub id8_text-plain : (id : Id8) → All (λ c. (47 < c) × (c < 91)) (id8_text id)
id8_text-plain id = text_of_bytes-plain 13 1 id.0

pub id8_text-IsUtf8 : (id : Id8) → IsUtf8 (id8_text id)
id8_text-IsUtf8 id = text_of_bytes-IsUtf8 13 1 id.0

-- two ids with one text are one
pub same_from_id8_text : (a b : Id8) → IsId8 a → IsId8 b → id8_text a ≡ id8_text b → a ≡ b
same_from_id8_text a b known other same =
    ap (id8_in a) (sym (id8_of_text-id8_text a known) ∙ ap id8_of_text same ∙ id8_of_text-id8_text b other)

pub same_id8-true : (a b : Id8) → same_id8 a b ≡ true → a ≡ b
same_id8-true a b is = ap (λ bytes. record { 0 = bytes }) ((bytes_eq-Decides a.0 b.0).0 is)

pub same_id8-self : (a : Id8) → same_id8 a a ≡ true
same_id8-self a = (bytes_eq-Decides a.0 a.0).1 refl

-- a result that can't be a refusal is there
pub ok_from_cases : {A E : Type 0} (r : Result A E) (P : A → Type 0) (Q : E → Type 0) → MatchResult r P Q → ((e : E) → Q e → ⊥) → IsOk r
ok_from_cases (Ok x) P Q cases never = refl
ok_from_cases (Err e) P Q cases never = absurd (never e cases)
