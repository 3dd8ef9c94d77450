-- The plain text of an array is UTF-8.
use Rattle.std.proofs.Common.{◌≡◌, ℕ, ◌-◌, ◌/◌, ◌%◌, ◌^◌, ◌<◌, ◌≤◌, zero, suc, Bool, true, false, List, [], ◌∷◌, ◌++◌, refl, subst, arith}
use Rattle.std.specs.Prelude.{ℤ, pos, negsuc, ◌||◌, nat_lt, codes}
use Rattle.std.specs.List.{All, list_all}
use Rattle.std.specs.Fmt.{decimal, signed_decimal}
use Rattle.std.specs.Char.{encode_utf8, IsScalar, digit_char}
use Rattle.std.specs.Str.{IsUtf8, IsAscii, is_utf8, encode_utf8_all, all_scalars}
use Rattle.std.proofs.lemmas.Bool.{and_parts, leb-true, ltb-true, ltb-false, cond_both}
use Rattle.std.proofs.lemmas.Bool.Decides.{nat_tests}
use Rattle.std.proofs.lemmas.Fmt.{IsAscii-decimal_wide}
use Rattle.std.proofs.lemmas.Grind.{flat_map-append}
use Rattle.std.proofs.lemmas.List.Elements.{All-head, All-tail}
use Rattle.std.proofs.lemmas.Str.{IsUtf8-append, IsUtf8-from_ascii, IsUtf8-nil, IsUtf8-encode, IsUtf8-from_is_utf8, is_utf8-from_IsUtf8, encode_ascii}
use Rattle.json.specs.Print.{escape_letter, escape_byte, escape}
use Rattle.serde_json.specs.Data.{string}
use Rattle.serde_json.specs.Written.{compact_text}
use Rattle.zarr_meta.specs.declared.kinds.IntKind.TheVariants.{Int8, Int16}
use Rattle.zarr_meta.specs.Plain.{more_numbers, listed, codec_text, text_about}
use Rattle.script_values.specs.Words.{Text}
use Rattle.script_values.specs.Values.{◌reads◌, is_signed}
use Rattle.script_values.specs.Arrays.{codec_of, array_line_text}
use Rattle.script_values.proofs.PlainText.{before_shape, before_type, before_chunks, before_fill, before_codec, at_end}
use Rattle.script_values.proofs.Inversions.{IsWide}

-- one byte of ASCII, and then text
cons_utf8 : (b : ℕ) (bs : List ℕ) → b < 128 → IsUtf8 bs → IsUtf8 (b ∷ bs)
cons_utf8 b bs low rest = IsUtf8-append (b ∷ []) bs (IsUtf8-from_ascii (b ∷ []) one) rest
  where
    one : IsAscii (b ∷ [])
    one zero = low
    one (suc i) = omega arith

ascii_utf8 : (bs : List ℕ) → list_all (λ b. nat_lt b 128) bs ≡ true → IsUtf8 bs
ascii_utf8 [] low = IsUtf8-nil
ascii_utf8 (b ∷ bs) low =
    let parts = and_parts (nat_lt b 128) (list_all (λ b. nat_lt b 128) bs) low in
    cons_utf8 b bs (ltb-true b 128 parts.0) (ascii_utf8 bs parts.1)

-- text stays text where it is escaped

letter_low : (b : ℕ) → b < 128 → escape_letter b < 128
letter_low b low = grind (arith, nat_tests)

digit_low : (d : ℕ) → d < 16 → digit_char d < 128
digit_low d low = grind (arith, nat_tests)

escape_low : (b : ℕ) → b < 128 → IsUtf8 (escape_byte b)
unfolding escape_byte
escape_low b low =
    cond_both (nat_lt 0 (escape_letter b)) _ _ IsUtf8 (λ _. cons_utf8 92 _ (omega arith) (cons_utf8 (escape_letter b) [] (letter_low b low) IsUtf8-nil)) (λ _.
    cond_both (nat_lt b 32) _ _ IsUtf8 (λ _. cons_utf8 92 _ (omega arith) (cons_utf8 117 _ (omega arith) (cons_utf8 48 _ (omega arith) (cons_utf8 48 _ (omega arith) digits)))) (λ _.
    cons_utf8 b [] low IsUtf8-nil))
  where
    digits : IsUtf8 (digit_char (b / 16) ∷ digit_char (b % 16) ∷ [])
    digits = cons_utf8 (digit_char (b / 16)) _ (digit_low (b / 16) (omega arith)) (cons_utf8 (digit_char (b % 16)) [] (digit_low (b % 16) (omega arith)) IsUtf8-nil)

escape_high : (b : ℕ) → 128 ≤ b → escape_byte b ≡ b ∷ []
unfolding escape_byte
escape_high b high = grind (arith, nat_tests)

high_cons : (b : ℕ) (bs : List ℕ) → 128 ≤ b → escape bs ≡ bs → escape (b ∷ bs) ≡ b ∷ bs
high_cons b bs high rest = rw (escape_high b high, rest) refl

escape_encode : (c : ℕ) → 128 ≤ c → escape (encode_utf8 c) ≡ encode_utf8 c
unfolding encode_utf8
escape_encode c high =
    cond_both (nat_lt c 128) _ _ (λ bs. escape bs ≡ bs) (λ low. absurd (omega (arith, ltb-true c 128 low))) (λ _.
    cond_both (nat_lt c 2048) _ _ (λ bs. escape bs ≡ bs) (λ _. high_cons _ _ (omega arith) (high_cons _ _ (omega arith) refl)) (λ _.
    cond_both (nat_lt c 65536) _ _ (λ bs. escape bs ≡ bs) (λ _. high_cons _ _ (omega arith) (high_cons _ _ (omega arith) (high_cons _ _ (omega arith) refl))) (λ _.
    high_cons _ _ (omega arith) (high_cons _ _ (omega arith) (high_cons _ _ (omega arith) (high_cons _ _ (omega arith) refl))))))

escape_char : (c : ℕ) (low : Bool) → nat_lt c 128 ≡ low → IsScalar c → IsUtf8 (escape (encode_utf8 c))
escape_char c true e scalar =
    let low = ltb-true c 128 e in
    rw (encode_ascii c low) (IsUtf8-append (escape_byte c) [] (escape_low c low) IsUtf8-nil)
escape_char c false e scalar = rw (escape_encode c (ltb-false c 128 e)) (IsUtf8-encode c scalar)

escape_chars : (cs : List ℕ) → all_scalars cs ≡ true → IsUtf8 (escape (encode_utf8_all cs))
escape_chars [] h = IsUtf8-nil
escape_chars (c ∷ cs) h =
    let parts = and_parts _ _ h in
    rw (flat_map-append escape_byte (encode_utf8 c) (encode_utf8_all cs)) (IsUtf8-append _ _ (escape_char c (nat_lt c 128) refl parts.0) (escape_chars cs parts.1))

string_utf8 : (text : Text) → is_utf8 text ≡ true → IsUtf8 (compact_text (string text))
string_utf8 text h =
    let u = IsUtf8-from_is_utf8 text h in
    let escaped = subst (λ (bs : List ℕ). IsUtf8 (escape bs)) u.1.1 (escape_chars u.0 u.1.0) in
    cons_utf8 34 _ (omega arith) (IsUtf8-append (escape text) (34 ∷ []) escaped (cons_utf8 34 [] (omega arith) IsUtf8-nil))

-- numbers are ASCII

decimal_utf8 : (n : ℕ) → n < 10 ^ 64 → IsUtf8 (decimal n)
decimal_utf8 n few = IsUtf8-from_ascii (decimal n) (IsAscii-decimal_wide n few)

more_utf8 : (ns : List ℕ) → All IsWide ns → IsUtf8 (more_numbers ns)
more_utf8 [] wide = IsUtf8-nil
more_utf8 (n ∷ ns) wide =
    let first : n ≤ 2 ^ 128 - 1 = All-head IsWide n ns wide in
    cons_utf8 44 _ (omega arith) (IsUtf8-append (decimal n) (more_numbers ns) (decimal_utf8 n (omega arith)) (more_utf8 ns (All-tail IsWide n ns wide)))

listed_utf8 : (ns : List ℕ) → All IsWide ns → IsUtf8 (listed ns)
listed_utf8 [] wide = IsUtf8-nil
listed_utf8 (n ∷ ns) wide =
    let first : n ≤ 2 ^ 128 - 1 = All-head IsWide n ns wide in
    IsUtf8-append (decimal n) (more_numbers ns) (decimal_utf8 n (omega arith)) (more_utf8 ns (All-tail IsWide n ns wide))

signed_utf8 : (z : ℤ) → is_signed z ≡ true → IsUtf8 (signed_decimal z)
signed_utf8 (pos n) h =
    let few = leb-true n (2 ^ 127 - 1) h in
    decimal_utf8 n (omega arith)
signed_utf8 (negsuc n) h =
    let few = leb-true n (2 ^ 127 - 1) (and_parts _ _ h).0 in
    cons_utf8 45 _ (omega arith) (decimal_utf8 (suc n) (omega arith))

codec_utf8 : (data_type : Text) → IsUtf8 (codec_of data_type)
codec_utf8 data_type =
    cond_both ((data_type reads codes "int8") || (data_type reads codes "uint8")) Int8 Int16 (λ kind. IsUtf8 (codec_text kind))
    (λ _. ascii_utf8 _ refl) (λ _. ascii_utf8 _ refl)

parts_utf8 : (a l b q c m d f e k z : Text) → IsUtf8 a → IsUtf8 l → IsUtf8 b → IsUtf8 q → IsUtf8 c → IsUtf8 m → IsUtf8 d → IsUtf8 f → IsUtf8 e → IsUtf8 k → IsUtf8 z → IsUtf8 (a ++ l ++ b ++ q ++ c ++ m ++ d ++ f ++ e ++ k ++ z)
parts_utf8 a l b q c m d f e k z ha hl hb hq hc hm hd hf he hk hz =
    IsUtf8-append _ z (IsUtf8-append _ k (IsUtf8-append _ e (IsUtf8-append _ f (IsUtf8-append _ d (IsUtf8-append _ m (IsUtf8-append _ c (IsUtf8-append _ q (IsUtf8-append _ b (IsUtf8-append a l ha hl) hb) hq) hc) hm) hd) hf) he) hk) hz

pub array_utf8 : (data_type : Text) (shape chunks : List ℕ) (fill : ℤ) → is_utf8 data_type ≡ true → All IsWide shape → All IsWide chunks → is_signed fill ≡ true → is_utf8 (array_line_text data_type shape chunks fill) ≡ true
unfolding text_about
array_utf8 data_type shape chunks fill text wide wide_chunks is_fill =
    is_utf8-from_IsUtf8 _ (
    parts_utf8 before_shape (listed shape) before_type (compact_text (string data_type)) before_chunks (listed chunks) before_fill (signed_decimal fill) before_codec (codec_of data_type) at_end
    (ascii_utf8 before_shape refl) (listed_utf8 shape wide) (ascii_utf8 before_type refl) (string_utf8 data_type text) (ascii_utf8 before_chunks refl) (listed_utf8 chunks wide_chunks)
    (ascii_utf8 before_fill refl) (signed_utf8 fill is_fill) (ascii_utf8 before_codec refl) (codec_utf8 data_type) (ascii_utf8 at_end refl))
