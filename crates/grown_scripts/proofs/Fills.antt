-- A line that fills a chunk.
use Rattle.std.proofs.Common.{◌≡◌, ℕ, ◌/◌, ◌%◌, ◌<◌, true, false, [], ◌∷◌, ◌++◌, length, Some, Ok, refl, arith, length-append, append_assoc}
use Rattle.std.specs.Prelude.{◌&&◌, nat_eq, codes, decimal}
use Rattle.std.specs.List.{list_all}
use Rattle.std.specs.Fmt.{digit_glyph}
use Rattle.std.proofs.lemmas.Bool.{and_right, and_from}
use Rattle.std.proofs.lemmas.Bool.Decides.{nat_tests}
use Rattle.std.proofs.lemmas.Fmt.{decimal_nonempty}
use Rattle.zarr_path.specs.Paths.{path_fault, names_of, is_name}
use Rattle.script_calls.specs.declared.calls.Call.{Call}
use Rattle.script_calls.specs.declared.calls.Call.TheVariants as call
use Rattle.script_calls.specs.declared.calls.EditCall.TheVariants as edit
use Rattle.script_calls.specs.declared.calls.Class.TheVariants as c
use Rattle.script_values.specs.Words.{Text, parts, three}
use Rattle.script_values.specs.Parts.{each}
use Rattle.script_values.specs.Values.{◌reads◌, path_of, index_part_of, index_of}
use Rattle.script_calls.specs.Forms.{chunk_and_byte, node_edit_of, chunk_edit_of, form_of}
use Rattle.grow_script.specs.Script.{hex_pair, fill_text}
use Rattle.grown_scripts.proofs.Bytes.{is_not, is_line_byte, is_line, is_word_byte, is_word, all_append, digit_word, digit_no_comma, word_line, line_text, word_no_space}
use Rattle.grown_scripts.proofs.Cutting.{next_word, last_word, parts_join, one_part}
use Rattle.grown_scripts.proofs.Numbers.{decimal_digits, number_back, byte_back}

-- the line without its line feed
abbrev pub index_word : ℕ → ℕ → Text
index_word row column = decimal row ++ 44 ∷ decimal column

abbrev pub fill_rest : ℕ → ℕ → ℕ → Text
fill_rest row column byte = codes "/x" ++ 32 ∷ index_word row column ++ 32 ∷ hex_pair byte

abbrev pub fill_words : ℕ → ℕ → ℕ → Text
fill_words row column byte = codes "fill" ++ 32 ∷ fill_rest row column byte

regroup : (a b h : Text) → codes "fill /x " ++ a ++ codes "," ++ b ++ codes " " ++ h ++ codes "\n" ≡ (codes "fill" ++ 32 ∷ codes "/x" ++ 32 ∷ (a ++ 44 ∷ b) ++ 32 ∷ h) ++ 10 ∷ []
regroup a b h = simp append_assoc

pub fill_line_is : (row column byte : ℕ) → fill_text row column byte ≡ fill_words row column byte ++ 10 ∷ []
fill_line_is row column byte = regroup (decimal row) (decimal column) (hex_pair byte)

-- its words

comma_word : (a b : Text) → is_word a ≡ true → is_word b ≡ true → is_word (a ++ 44 ∷ b) ≡ true
comma_word a b h k = all_append is_word_byte a (44 ∷ b) h k

index_is_word : (row column : ℕ) → row < 64 → column < 64 → is_word (index_word row column) ≡ true
index_is_word row column r c = comma_word (decimal row) (decimal column) (digit_word (decimal row) (decimal_digits row (omega arith))) (digit_word (decimal column) (decimal_digits column (omega arith)))

glyph_word : (d : ℕ) → d < 16 → is_word_byte (digit_glyph false d) ≡ true
glyph_word d low = grind (arith, nat_tests)

byte_is_word : (byte : ℕ) → byte < 256 → is_word (hex_pair byte) ≡ true
byte_is_word byte low =
    and_from (is_word_byte (digit_glyph false (byte / 16))) (is_word_byte (digit_glyph false (byte % 16)) && true) (glyph_word (byte / 16) (omega arith))
    (and_from (is_word_byte (digit_glyph false (byte % 16))) true (glyph_word (byte % 16) (omega arith)) refl)

spaced : (a b : Text) → is_line a ≡ true → is_line b ≡ true → is_line (a ++ 32 ∷ b) ≡ true
spaced a b h k = all_append is_line_byte a (32 ∷ b) h k

pub fill_is_line : (row column byte : ℕ) → row < 64 → column < 64 → byte < 256 → is_line (fill_words row column byte) ≡ true
fill_is_line row column byte r c b =
    spaced (index_word row column) (hex_pair byte) (word_line (index_word row column) (index_is_word row column r c)) (word_line (hex_pair byte) (byte_is_word byte b))

-- three words
three_words : (a b c : Text) → 0 < length a → 0 < length b → 0 < length c → list_all (is_not 32) a ≡ true → list_all (is_not 32) b ≡ true → list_all (is_not 32) c ≡ true → three (Some (a ++ 32 ∷ (b ++ 32 ∷ c))) ≡ Some (a, b, c)
three_words a b c p q r h i j = rw (next_word a (b ++ 32 ∷ c) p h, next_word b c q i, last_word c r j) refl

-- their values

pub path_back : path_of (codes "/x") ≡ Ok (codes "/x")
unfolding path_of path_fault names_of is_name
path_back = rw (line_text (codes "/x") refl) refl

not_dash : (w : Text) → 1 < length w → (w reads codes "-") ≡ false
not_dash [] some = absurd (omega (arith, some))
not_dash (a ∷ []) some = absurd (omega (arith, some))
not_dash (a ∷ b ∷ w) some = and_right (nat_eq a 45) false refl

index_parts : (row column : ℕ) → row < 64 → column < 64 → each index_part_of (parts 44 (index_word row column)) ≡ Ok (row ∷ column ∷ [])
index_parts row column r c =
    rw (
      parts_join 44 (decimal row) (decimal column),
      one_part 44 (decimal row) (digit_no_comma (decimal row) (decimal_digits row (omega arith))),
      one_part 44 (decimal column) (digit_no_comma (decimal column) (decimal_digits column (omega arith))),
      number_back 0 4294967295 row (omega arith) (omega arith) (omega arith),
      number_back 0 4294967295 column (omega arith) (omega arith) (omega arith),
    ) refl

index_some : (row column : ℕ) → row < 64 → column < 64 → 1 < length (index_word row column)
index_some row column r c =
    let size = length-append (decimal row) (44 ∷ decimal column) in
    omega (arith, size, decimal_nonempty row (omega arith))

index_back : (row column : ℕ) → row < 64 → column < 64 → index_of (index_word row column) ≡ Ok (row ∷ column ∷ [])
unfolding index_of
index_back row column r c = rw (not_dash (index_word row column) (index_some row column r c)) (index_parts row column r c)

chunk_back : (row column byte : ℕ) → row < 64 → column < 64 → byte < 256 → chunk_and_byte (Some (fill_rest row column byte)) ≡ Ok ((codes "/x", row ∷ column ∷ []), byte)
unfolding chunk_and_byte
chunk_back row column byte r c b =
    let words = three_words (codes "/x") (index_word row column) (hex_pair byte) (omega arith) (omega (arith, index_some row column r c)) (omega arith) refl (word_no_space (index_word row column) (index_is_word row column r c)) (word_no_space (hex_pair byte) (byte_is_word byte b)) in
    rw (words, path_back, index_back row column r c, byte_back byte b) refl

-- what the line calls
abbrev pub fill_call : ℕ → ℕ → ℕ → Call
fill_call row column byte = call.Edit (edit.Fill (codes "/x") (row ∷ column ∷ []) byte)

pub fill_form : (row column byte : ℕ) → row < 64 → column < 64 → byte < 256 → form_of (codes "fill") (Some (fill_rest row column byte)) ≡ record { class = c.Edit; call = Ok (fill_call row column byte) }
unfolding form_of node_edit_of chunk_edit_of
fill_form row column byte r c b = rw (chunk_back row column byte r c b) refl
