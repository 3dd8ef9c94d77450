-- Lists of bytes: their parts, the numbers that they stand for, and texts.
use Rattle.std.proofs.Common.{◌≡◌, ℕ, ◌+◌, ◌*◌, ◌/◌, ◌%◌, ◌^◌, ◌<◌, zero, suc, true, ltb, List, [], ◌∷◌, ◌++◌, length, take, drop, get_or, lit<, refl, subst, arith, inl, inr}
use Rattle.std.specs.Prelude.{All}
use Rattle.std.specs.Int.{Width, w32, w64, byte_len, byte_at, bytes_low_first, to_le_bytes, from_le_bytes}
use Rattle.std.specs.List.{list_all}
use Rattle.std.specs.Str.{IsUtf8}
use Rattle.std.proofs.lemmas.Bool.{and_parts, ltb-true, lt-ltb, cases_lt, cond_both}
use Rattle.std.proofs.lemmas.List.{get_or_past}
use Rattle.std.proofs.lemmas.List.Elements.{All-nil, All-cons, All-head, All-tail, All-append, All-take, All-drop, All-replicate}
use Rattle.flat_tables.specs.Layout.{zeros}
use lib.Utf8.{scalar, scalars, encode, encodes, next, scalar_cases}

abbrev pub AreBytes : List ℕ → Type 0
AreBytes xs = All (λ byte. byte < 256) xs

-- ---- parts

pub no_bytes : AreBytes []
no_bytes = All-nil (λ b. b < 256)

pub one_more : (x : ℕ) (xs : List ℕ) → x < 256 → AreBytes xs → AreBytes (x ∷ xs)
one_more x xs small are = All-cons (λ b. b < 256) x xs small are

pub bytes_both : (xs ys : List ℕ) → AreBytes xs → AreBytes ys → AreBytes (xs ++ ys)
bytes_both xs ys are more = All-append (λ b. b < 256) xs ys are more

pub bytes_take : (n : ℕ) (xs : List ℕ) → AreBytes xs → AreBytes (take n xs)
bytes_take n xs are = All-take (λ b. b < 256) n xs are

pub bytes_drop : (n : ℕ) (xs : List ℕ) → AreBytes xs → AreBytes (drop n xs)
bytes_drop n xs are = All-drop (λ b. b < 256) n xs are

pub zeros_are : (n : ℕ) → AreBytes (zeros n)
zeros_are n = All-replicate (λ b. b < 256) n 0 (lit< tt)

-- the same as a test
pub bytes_tested : (xs : List ℕ) → list_all (λ n. ltb n 256) xs ≡ true → AreBytes xs
bytes_tested [] e = no_bytes
bytes_tested (x ∷ xs) e =
    let both = and_parts (ltb x 256) (list_all (λ n. ltb n 256) xs) e in
    one_more x xs (ltb-true x 256 both.0) (bytes_tested xs both.1)

pub bytes_pass : (xs : List ℕ) → AreBytes xs → list_all (λ n. ltb n 256) xs ≡ true
bytes_pass [] are = refl
bytes_pass (x ∷ xs) are = rw (lt-ltb x 256 (All-head (λ b. b < 256) x xs are)) (bytes_pass xs (All-tail (λ b. b < 256) x xs are))

-- ---- numbers

-- one of them, or 0 past the end
at_most_one : (xs : List ℕ) → AreBytes xs → (i : ℕ) → get_or xs i 0 < 256
at_most_one xs are i = elim (cases_lt i (length xs)) [
  | inl within ↦ are i 0 within
  | inr past ↦ rw (get_or_past xs i 0 past) (lit< tt)
]

four : (a b c d : ℕ) → a < 256 → b < 256 → c < 256 → d < 256 → a + b * 256 + c * 65536 + d * 16777216 < 2 ^ 32
four a b c d in_a in_b in_c in_d = omega arith

eight : (a b c d e f g h : ℕ) → a < 256 → b < 256 → c < 256 → d < 256 → e < 256 → f < 256 → g < 256 → h < 256 → a + b * 256 + c * 65536 + d * 16777216 + e * 4294967296 + f * 1099511627776 + g * 281474976710656 + h * 72057594037927936 < 2 ^ 64
eight a b c d e f g h in_a in_b in_c in_d in_e in_f in_g in_h = omega arith

pub number_32 : (xs : List ℕ) → AreBytes xs → from_le_bytes w32 xs < 2 ^ 32
number_32 xs are = let at = at_most_one xs are in four _ _ _ _ (at 0) (at 1) (at 2) (at 3)

pub number_64 : (xs : List ℕ) → AreBytes xs → from_le_bytes w64 xs < 2 ^ 64
number_64 xs are = let at = at_most_one xs are in eight _ _ _ _ _ _ _ _ (at 0) (at 1) (at 2) (at 3) (at 4) (at 5) (at 6) (at 7)

rest_small : (n : ℕ) → n % 256 < 256
rest_small n = omega arith

byte_small : (i n : ℕ) → byte_at i n < 256
byte_small zero n = rest_small n
byte_small (suc i) n = rest_small (n / 256 ^ suc i)

low_first : (i k n : ℕ) → AreBytes (bytes_low_first i k n)
low_first i zero n = no_bytes
low_first i (suc k) n = one_more (byte_at i n) (bytes_low_first (suc i) k n) (byte_small i n) (low_first (suc i) k n)

pub number_bytes : (w : Width) (n : ℕ) → AreBytes (to_le_bytes w n)
number_bytes w n = low_first 0 (byte_len w) n

-- ---- texts

low : (c : ℕ) → next c < 256
low c = omega arith

encode_bytes : (c : ℕ) → c < 1114112 → AreBytes (encode c)
unfolding encode
encode_bytes c h =
    cond_both (ltb c 128) _ _ AreBytes (λ e. let l = ltb-true c 128 e in one_more c [] (omega arith) no_bytes) (λ _.
    cond_both (ltb c 2048) _ _ AreBytes (λ e. let l = ltb-true c 2048 e in one_more (192 + c / 64) (next c ∷ []) (omega arith) (one_more (next c) [] (low c) no_bytes)) (λ _.
    cond_both (ltb c 65536) _ _ AreBytes (λ e. let l = ltb-true c 65536 e in one_more (224 + c / 4096) (next (c / 64) ∷ next c ∷ []) (omega arith) (one_more (next (c / 64)) (next c ∷ []) (low (c / 64)) (one_more (next c) [] (low c) no_bytes))) (λ _.
    one_more (240 + c / 262144) (next (c / 4096) ∷ next (c / 64) ∷ next c ∷ []) (omega arith) (one_more (next (c / 4096)) (next (c / 64) ∷ next c ∷ []) (low (c / 4096)) (one_more (next (c / 64)) (next c ∷ []) (low (c / 64)) (one_more (next c) [] (low c) no_bytes))))))

below : (c : ℕ) → scalar c ≡ true → c < 1114112
below c h = let cases = scalar_cases c h in omega (arith, cases)

encodes_bytes : (cs : List ℕ) → scalars cs ≡ true → AreBytes (encodes cs)
encodes_bytes [] h = no_bytes
encodes_bytes (c ∷ cs) h =
    let parts = and_parts (scalar c) (scalars cs) h in
    bytes_both (encode c) (encodes cs) (encode_bytes c (below c parts.0)) (encodes_bytes cs parts.1)

-- text is bytes
pub utf8_bytes : (text : List ℕ) → IsUtf8 text → AreBytes text
utf8_bytes text is = subst AreBytes is.1.1 (encodes_bytes is.0 is.1.0)
