-- A reference that is written is read back.
use Rattle.std.proofs.Common.{append_assoc, ◌≡◌, ◌∙◌, ◌<◌, ◌+◌, ◌++◌, ℕ, List, [], ◌∷◌, Option, Some, Ok, refl, sym, ap, subst, arith, codes, rules, length, length-append}
use Rattle.std.specs.Prelude.{option_and_then}
use Rattle.std.specs.List.{AllByRecursion}
use Rattle.std.specs.Str.{IsUtf8}
use Rattle.std.proofs.lemmas.List.Elements.{recursion_from_All}
use Rattle.std.proofs.lemmas.Str.{IsUtf8-append, IsUtf8-from_ascii}
use Rattle.std.proofs.lemmas.Str.Ascii.{IsAscii-from_all}
use Rattle.json.specs.Token.{Token, begin_object, end_object, key, string as string_token}
use Rattle.json.specs.Lex.{tokens}
use Rattle.json.specs.Print.{ArePrintable, print, print_from, escape, escape_byte}
use Rattle.json.specs.Json as json
use Rattle.json.proofs.Printed.Tokens.{tokens-print}
use Rattle.serde_json.specs.Data.{Data, object, string, member, no_members}
use Rattle.serde_json.specs.Read.{read, of_json, max_depth}
use Rattle.ice_ids.specs.declared.Id12.{Id12}
use Rattle.ice_ids.specs.Text.{IsId12, id12_text, id12_of_text}
use Rattle.ice_ids.proofs.TextLaws.{id12_of_text-id12_text, id12_of_text-Ok, id12_text-plain, id12_text-IsUtf8, length-id12_text}
use Rattle.ref_file.specs.Refs.{RefersTo, ref_bytes}

-- neither a control byte, a quote nor a backslash
abbrev IsPlain : ℕ → Type 0
IsPlain letter = (47 < letter) × (letter < 91)

plain_byte : (x : ℕ) → IsPlain x → escape_byte x ≡ x ∷ []
unfolding escape_byte
plain_byte x h = grind arith

plain_text : (text : List ℕ) → AllByRecursion IsPlain text → escape text ≡ text
plain_text [] h = refl
plain_text (x ∷ text) h = rw (plain_byte x h.0, plain_text text h.1) refl

-- the bytes around a text
abbrev spelled : List ℕ → List ℕ
spelled text = codes "{\"snapshot\":\"" ++ text ++ codes "\"}"

ref_tokens : List ℕ → List Token
ref_tokens text = begin_object ∷ key (codes "snapshot") ∷ string_token text ∷ end_object ∷ []

printed : (text : List ℕ) → escape text ≡ text → print (ref_tokens text) ≡ spelled text
unfolding ref_tokens print_from escape_byte
printed text plain =
    ap (λ (t : List ℕ). codes "{\"snapshot\":\"" ++ ((t ++ 34 ∷ []) ++ 125 ∷ [])) plain
    ∙ ap (λ (t : List ℕ). codes "{\"snapshot\":\"" ++ t) (append_assoc text (34 ∷ []) (125 ∷ []))

printable : (text : List ℕ) → ArePrintable (ref_tokens text)
unfolding ref_tokens ArePrintable
printable text = (tt, (tt, (tt, (tt, tt))))

abbrev ref_data : List ℕ → Data
ref_data text = object (member (codes "snapshot") (string text) no_members)

-- the value of these tokens
value_of : List Token → Option Data
value_of ts = option_and_then of_json (option_and_then (λ p. json.if_last p.0 p.1) (json.value max_depth ts))

value_of_ref : (text : List ℕ) → value_of (ref_tokens text) ≡ Some (ref_data text)
unfolding value_of ref_tokens json.value
value_of_ref text = refl

read_by_tokens : (text : List ℕ) → read text ≡ value_of (tokens text)
unfolding value_of
read_by_tokens text = refl

back : (text : List ℕ) → AllByRecursion IsPlain text → read (spelled text) ≡ Some (ref_data text)
back text h =
    read_by_tokens (spelled text)
    ∙ ap value_of (ap tokens (sym (printed text (plain_text text h))) ∙ tokens-print (ref_tokens text) (printable text))
    ∙ value_of_ref text

utf8 : (text : List ℕ) → IsUtf8 text → IsUtf8 (spelled text)
utf8 text is =
    IsUtf8-append (codes "{\"snapshot\":\"") (text ++ codes "\"}") (IsUtf8-from_ascii (codes "{\"snapshot\":\"") (IsAscii-from_all (codes "{\"snapshot\":\"") (search rules)))
    (IsUtf8-append text (codes "\"}") is (IsUtf8-from_ascii (codes "\"}") (IsAscii-from_all (codes "\"}") (search rules))))

pub ref_bytes-RefersTo : (id : Id12) → IsId12 id → RefersTo (ref_bytes id) id
unfolding ref_bytes
ref_bytes-RefersTo id known =
    let plain : AllByRecursion IsPlain (id12_text id) = recursion_from_All IsPlain (id12_text id) (id12_text-plain id) in
    (ref_data (id12_text id), id12_text id, (utf8 (id12_text id) (id12_text-IsUtf8 id), back (id12_text id) plain), refl, id12_of_text-id12_text id known)

-- a file that is written of an id that was read
pub written_RefersTo : (file text : List ℕ) (id : Id12) → Ok id ≡ id12_of_text text → file ≡ ref_bytes id → RefersTo file id
written_RefersTo file text id read is = subst (λ (f : List ℕ). RefersTo f id) (sym is) (ref_bytes-RefersTo id (id12_of_text-Ok text id (sym read)).1)

pub length-ref_bytes : (id : Id12) → length (ref_bytes id) ≡ 35
unfolding ref_bytes
length-ref_bytes id =
    let all : length (id12_text id ++ codes "\"}") ≡ length (id12_text id) + 2 = length-append (id12_text id) (codes "\"}") in
    omega (arith, length-id12_text id)
