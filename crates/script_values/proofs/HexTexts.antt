-- A word stands for bytes just where it is their text.
use Rattle.std.proofs.Common.{◌≡◌, ◌≢◌, ℕ, ◌+◌, ◌-◌, ◌*◌, ◌/◌, ◌%◌, ◌<◌, true, List, [], ◌∷◌, ◌++◌, Result, Ok, Err, refl, sym, ap, subst, ◌∙◌, arith}
use Rattle.std.specs.Prelude.{◌&&◌, nat_le, ◌↔◌, codes}
use Rattle.std.specs.List.{flat_map}
use Rattle.std.specs.Char.{digit_char}
use Rattle.std.proofs.lemmas.Bool.{and_parts, cond_both}
use Rattle.std.proofs.lemmas.Bool.Decides.{nat_tests}
use Rattle.std.proofs.lemmas.Slice.Eq.{bytes_eq-Decides}
use Rattle.std.proofs.lemmas.List.Elements.{All-head, All-tail}
use Rattle.ice_base.specs.Lists.{IsBytes}
use Rattle.script_values.specs.declared.kinds.ScriptKind.{ScriptKind}
use Rattle.script_values.specs.declared.kinds.ScriptKind.TheVariants as k
use Rattle.script_values.specs.Words.{Text}
use Rattle.script_values.specs.Parts.{◌&◌, each}
use Rattle.script_values.specs.Values.{◌reads◌, hex_digit_of, byte_of, pairs, bytes_of}
use Rattle.script_values.specs.HexText.{byte_text, bytes_text}
use Rattle.script_values.proofs.Inversions.{made_ok, both_ok, digit_ok, bytes_ok}

-- digits

digit_reads : (d : ℕ) → d < 16 → hex_digit_of (digit_char d) ≡ Ok d
unfolding hex_digit_of
digit_reads d low = grind (arith, nat_tests)

low_digit : (b d : ℕ) → nat_le 48 b ≡ true → nat_le b 57 ≡ true → b - 48 ≡ d → b ≡ digit_char d
low_digit b d least most same = grind (arith, nat_tests)

letter : (b d : ℕ) → nat_le 97 b ≡ true → nat_le b 102 ≡ true → b - 97 + 10 ≡ d → b ≡ digit_char d
letter b d least most same = grind (arith, nat_tests)

digit_back : (b d : ℕ) → hex_digit_of b ≡ Ok d → b ≡ digit_char d
unfolding hex_digit_of
digit_back b d h =
    cond_both (nat_le 48 b && nat_le b 57) (Ok (b - 48)) _ (λ (r : Result ℕ ScriptKind). r ≡ Ok d → b ≡ digit_char d)
    (λ t e. let p = and_parts (nat_le 48 b) (nat_le b 57) t in low_digit b d p.0 p.1 (cc))
    (λ _. cond_both (nat_le 97 b && nat_le b 102) (Ok (b - 97 + 10)) (Err k.Hex) (λ (r : Result ℕ ScriptKind). r ≡ Ok d → b ≡ digit_char d)
    (λ t e. let p = and_parts (nat_le 97 b) (nat_le b 102) t in letter b d p.0 p.1 (cc))
    (λ _ e. absurd (cc)))
    h

-- bytes

byte_reads : (b : ℕ) → b < 256 → byte_of (byte_text b) ≡ Ok b
unfolding byte_of
byte_reads b low =
    let whole : b / 16 * 16 + b % 16 ≡ b = omega arith in
    rw (digit_reads (b / 16) (omega arith), digit_reads (b % 16) (omega arith)) (ap (λ (x : ℕ). Ok x) whole)

byte_back : (w : Text) (byte : ℕ) → byte_of w ≡ Ok byte → w ≡ byte_text byte
unfolding byte_of
byte_back [] byte h = absurd (cc)
byte_back (a ∷ []) byte h = absurd (cc)
byte_back (a ∷ b ∷ []) byte h =
    let m = made_ok (λ (d : ℕ × ℕ). d.0 * 16 + d.1) (hex_digit_of a & hex_digit_of b) byte h in
    let digits = both_ok (hex_digit_of a) (hex_digit_of b) m.0 m.1 in
    let high : byte / 16 ≡ m.0.0 = omega (arith, m.2, digit_ok b m.0.1 digits.1) in
    let low : byte % 16 ≡ m.0.1 = omega (arith, m.2, digit_ok b m.0.1 digits.1) in
    rw (high, low, ← digit_back a m.0.0 digits.0, ← digit_back b m.0.1 digits.1) refl
byte_back (a ∷ b ∷ c ∷ w) byte h = absurd (cc)

-- words

bytes_read : (bytes : List ℕ) → IsBytes bytes → each byte_of (pairs (flat_map byte_text bytes)) ≡ Ok bytes
unfolding pairs
bytes_read [] low = refl
bytes_read (b ∷ bs) low =
    let first = byte_reads b (All-head (λ (byte : ℕ). byte < 256) b bs low) in
    rw (first, bytes_read bs (All-tail (λ (byte : ℕ). byte < 256) b bs low)) refl

bytes_back : (w : Text) (bytes : List ℕ) → each byte_of (pairs w) ≡ Ok bytes → w ≡ flat_map byte_text bytes
unfolding pairs
bytes_back [] bytes h = let none : [] ≡ bytes = cc in ap (flat_map byte_text) none
bytes_back (a ∷ []) bytes h =
    let m = made_ok (λ (p : ℕ × List ℕ). p.0 ∷ p.1) (byte_of (a ∷ []) & Ok []) bytes h in
    let half : a ∷ [] ≡ byte_text m.0.0 = byte_back (a ∷ []) m.0.0 (both_ok (byte_of (a ∷ [])) (Ok []) m.0 m.1).0 in
    absurd (cc)
bytes_back (a ∷ b ∷ w) bytes h =
    let m = made_ok (λ (p : ℕ × List ℕ). p.0 ∷ p.1) (byte_of (a ∷ b ∷ []) & each byte_of (pairs w)) bytes h in
    let r = both_ok (byte_of (a ∷ b ∷ [])) (each byte_of (pairs w)) m.0 m.1 in
    subst (λ (all : List ℕ). a ∷ b ∷ w ≡ flat_map byte_text all) m.2
    (ap (λ (t : Text). t ++ w) (byte_back (a ∷ b ∷ []) m.0.0 r.0) ∙ ap (λ (t : Text). byte_text m.0.0 ++ t) (bytes_back w m.0.1 r.1))

-- a text that isn't empty
filled : (w : Text) (bytes : List ℕ) → w ≢ [] → w ≡ flat_map byte_text bytes → w ≡ bytes_text bytes
filled w [] some e = absurd (some e)
filled w (b ∷ bs) some e = e

text_of_bytes : (w : Text) (bytes : List ℕ) → w ≢ [] → bytes_of w ≡ Ok bytes → w ≡ bytes_text bytes
unfolding bytes_of
text_of_bytes w bytes some h =
    cond_both (w reads codes "-") (Ok []) (each byte_of (pairs w)) (λ (r : Result (List ℕ) ScriptKind). r ≡ Ok bytes → w ≡ bytes_text bytes)
    (λ t e. let none : [] ≡ bytes = cc in subst (λ (all : List ℕ). w ≡ bytes_text all) none ((bytes_eq-Decides w (codes "-")).0 t))
    (λ _ e. filled w bytes some (bytes_back w bytes e))
    h

bytes_of_text : (bytes : List ℕ) → IsBytes bytes → bytes_of (bytes_text bytes) ≡ Ok bytes
unfolding bytes_of
bytes_of_text [] low = refl
bytes_of_text (b ∷ bs) low =
    cond_both (flat_map byte_text (b ∷ bs) reads codes "-") (Ok []) (each byte_of (pairs (flat_map byte_text (b ∷ bs)))) (λ (r : Result (List ℕ) ScriptKind). r ≡ Ok (b ∷ bs))
    (λ t. let dash : flat_map byte_text (b ∷ bs) ≡ codes "-" = (bytes_eq-Decides (flat_map byte_text (b ∷ bs)) (codes "-")).0 t in absurd (cc))
    (λ _. bytes_read (b ∷ bs) low)

pub hex_law : (w : Text) (bytes : List ℕ) → w ≢ [] → (bytes_of w ≡ Ok bytes) ↔ (IsBytes bytes × (w ≡ bytes_text bytes))
hex_law w bytes some = (
  λ h. (bytes_ok w bytes h, text_of_bytes w bytes some h),
  λ p. subst (λ (t : Text). bytes_of t ≡ Ok bytes) (sym p.1) (bytes_of_text bytes p.0),
)
