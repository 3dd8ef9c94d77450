-- Own: what a word stands for, or the kind of its fault.
use Rattle.std.specs.Prelude.{ℕ, ◌+◌, ◌-◌, ◌*◌, ◌/◌, ◌^◌, ◌==◌, ℤ, pos, negsuc}
use Rattle.std.specs.Prelude.{int_le, List, [], ◌∷◌, if◌then◌else◌, Option, Some, None}
use Rattle.std.specs.Prelude.{Result, Ok, Err, Bool, true, false, not, ◌&&◌, ◌||◌}
use Rattle.std.specs.Prelude.{nat_le, length, drop, slice_index, bytes_eq, codes}
use Rattle.jiff.specs.Words.{parse_timestamp, Error}
use Rattle.std.specs.List.{list_all}
use Rattle.std.specs.Char.{is_ascii_digit, is_ascii_lowercase}
use Rattle.std.specs.Str.Parse.{digits_value, starts_with_minus, signed_digits_value}
use Rattle.std.specs.Option.{is_none}
use Rattle.ice_base.specs.Names.{name_fault}
use Rattle.ice_ids.specs.declared.Id12.{Id12}
use Rattle.ice_ids.specs.Text.{id12_of_text}
use Rattle.std.specs.Str.{is_utf8}
use Rattle.zarr_path.specs.Paths.{is_path}
use Rattle.conflicts.specs.declared.solving.Pick.{Pick}
use Rattle.conflicts.specs.declared.solving.Pick.TheVariants as pick
use Rattle.conflicts.specs.declared.solving.Policy.{Policy}
use Rattle.script_values.specs.declared.kinds.ScriptKind.{ScriptKind}
use Rattle.script_values.specs.declared.kinds.ScriptKind.TheVariants as k
use Rattle.script_values.specs.Words.{Text, cut_of, parts}
use Rattle.script_values.specs.Parts.{◌&◌, made, each, told_as}

-- the word is this text
infix 30 ◌reads◌
abbrev pub ◌reads◌ : Text → Text → Bool
w reads text = bytes_eq w text

-- the name of a task is 1 to 16 bytes of `a` to `z`, `0` to `9` and `_`
abbrev pub is_task_byte : ℕ → Bool
is_task_byte b = is_ascii_lowercase b || is_ascii_digit b || (b == 95)

abbrev pub is_task_name : Text → Bool
is_task_name w = not (length w == 0) && nat_le (length w) 16 && list_all is_task_byte w

unfoldable pub task_name_of : Text → Result Text ScriptKind
task_name_of w = if is_task_name w then Ok w else Err k.Name

-- the path of a node: UTF-8, as any text is
unfoldable pub path_of : Text → Result Text ScriptKind
path_of w = if is_path w && is_utf8 w then Ok w else Err k.Path

-- a text of the language is UTF-8
abbrev pub text_of : Text → Result Text ScriptKind
text_of w = if is_utf8 w then Ok w else Err k.Text

-- the name of a branch or a tag
unfoldable pub ref_name_of : Text → Result Text ScriptKind
ref_name_of w = if is_none (name_fault w) then Ok w else Err k.Name

-- the id of a snapshot
unfoldable pub id_of : Text → Result Id12 ScriptKind
id_of w = told_as k.Id (id12_of_text w)

-- a number is decimal digits alone, and may begin with zeros
abbrev pub is_digits : Text → Bool
is_digits w = not (length w == 0) && list_all is_ascii_digit w

abbrev pub is_number : ℕ → ℕ → Text → Bool
is_number least most w =
    is_digits w && nat_le least (digits_value 10 w) && nat_le (digits_value 10 w) most

unfoldable pub number_of : ℕ → ℕ → Text → Result ℕ ScriptKind
number_of least most w = if is_number least most w then Ok (digits_value 10 w) else Err k.Number

-- numbers of up to 128 bits with commas between them, or `-` where there are none
abbrev pub wide_of : Text → Result ℕ ScriptKind
wide_of w = number_of 0 (2 ^ 128 - 1) w

unfoldable pub numbers_of : Text → Result (List ℕ) ScriptKind
numbers_of w = if w reads codes "-" then Ok [] else each wide_of (parts 44 w)

-- an index has numbers of 32 bits with commas between them, or `-` where there are none
abbrev pub index_part_of : Text → Result ℕ ScriptKind
index_part_of w = number_of 0 (2 ^ 32 - 1) w

unfoldable pub index_of : Text → Result (List ℕ) ScriptKind
index_of w = if w reads codes "-" then Ok [] else each index_part_of (parts 44 w)

-- a corner of a box has numbers of 64 bits with commas between them, or `-` where there are none
abbrev pub long_of : Text → Result ℕ ScriptKind
long_of w = number_of 0 (2 ^ 64 - 1) w

unfoldable pub corner_of : Text → Result (List ℕ) ScriptKind
corner_of w = if w reads codes "-" then Ok [] else each long_of (parts 44 w)

-- a digit of base 16, with lower-case letters
unfoldable pub hex_digit_of : ℕ → Result ℕ ScriptKind
hex_digit_of b =
    if nat_le 48 b && nat_le b 57 then Ok (b - 48) else
    (if nat_le 97 b && nat_le b 102 then Ok (b - 97 + 10) else Err k.Hex)

-- a byte is two such digits, the high one first
unfoldable pub byte_of : Text → Result ℕ ScriptKind
byte_of [] = Err k.Hex
byte_of (a ∷ []) = Err k.Hex
byte_of (a ∷ b ∷ []) = made (λ d. d.0 * 16 + d.1) (hex_digit_of a & hex_digit_of b)
byte_of (a ∷ b ∷ c ∷ w) = Err k.Hex

-- a word in pieces of two bytes, of which the last may have one
unfoldable pub pairs : Text → List Text
pairs [] = []
pairs (a ∷ []) = (a ∷ []) ∷ []
pairs (a ∷ b ∷ w) = (a ∷ b ∷ []) ∷ pairs w

-- bytes of two digits each, or `-` where there are none
unfoldable pub bytes_of : Text → Result (List ℕ) ScriptKind
bytes_of w = if w reads codes "-" then Ok [] else each byte_of (pairs w)

-- a fill value is digits, perhaps behind a `-`, for a number of 128 bits with a sign
abbrev pub magnitude : Text → Text
magnitude w = if starts_with_minus w then drop 1 w else w

abbrev pub is_signed : ℤ → Bool
is_signed z = int_le (negsuc (2 ^ 127 - 1)) z && int_le z (pos (2 ^ 127 - 1))

unfoldable pub fill_of : Text → Result ℤ ScriptKind
fill_of w =
    if is_digits (magnitude w) && is_signed (signed_digits_value 10 w)
    then Ok (signed_digits_value 10 w)
    else Err k.Number

-- the numbers of cells are written as fill values are, with commas between
-- them, or `-` where there are none
unfoldable pub cells_of : Text → Result (List ℤ) ScriptKind
cells_of w = if w reads codes "-" then Ok [] else each fill_of (parts 44 w)

-- the count of a turn, which is 1 where none stands
unfoldable pub count_of : Option Text → Result ℕ ScriptKind
count_of None = Ok 1
count_of (Some w) = number_of 1 9999 w

-- the microseconds since 1970, rounded down, of an instant that isn't before that
abbrev pub micros_of : Result ℤ Error → Result ℕ ScriptKind
micros_of (Ok (pos nanos)) = Ok (nanos / 1000)
micros_of (Ok (negsuc nanos)) = Err k.Number
micros_of (Err fault) = Err k.Number

-- a number of 64 bits in 1 to 20 digits
abbrev pub micros_number_of : Text → Result ℕ ScriptKind
micros_number_of w = if nat_le (length w) 20 then number_of 0 (2 ^ 64 - 1) w else Err k.Number

-- a cutoff: microseconds since 1970, or `@` (64) and an instant, as jiff reads it
unfoldable pub cutoff_of : Text → Result ℕ ScriptKind
cutoff_of w =
    if slice_index w 0 == 64 then micros_of (parse_timestamp (drop 1 w)) else micros_number_of w

-- which refs an expiry may drop: whether branches, and whether tags
unfoldable pub flags_of : Text → Result (Bool × Bool) ScriptKind
flags_of w =
    if w reads codes "keep" then Ok (false, false) else
    (if w reads codes "branches" then Ok (true, false) else
    (if w reads codes "tags" then Ok (false, true) else
    (if w reads codes "both" then Ok (true, true) else Err k.Word)))

-- how often a commit may be carried over those of others: one digit
unfoldable pub tries_in : Text → Result ℕ ScriptKind
tries_in [] = Err k.Number
tries_in (b ∷ []) = if is_ascii_digit b then Ok (b - 48) else Err k.Number
tries_in (b ∷ c ∷ w) = Err k.Number

-- what becomes of a chunk that both sides wrote
unfoldable pub pick_in : Text → Result Pick ScriptKind
pick_in w =
    if w reads codes "fail" then Ok pick.Fail else
    (if w reads codes "ours" then Ok pick.Ours else
    (if w reads codes "theirs" then Ok pick.Theirs else Err k.Word))

-- whether updated arrays may be dropped, and whether groups may: `a`, `g` or `ag` behind a
-- `+`, and neither where none stands
unfoldable pub drops_in : Option Text → Result (Bool × Bool) ScriptKind
drops_in None = Ok (false, false)
drops_in (Some w) =
    if w reads codes "a" then Ok (true, false) else
    (if w reads codes "g" then Ok (false, true) else
    (if w reads codes "ag" then Ok (true, true) else Err k.Word))

abbrev pub policy : Pick × (Bool × Bool) → Policy
policy v = record { chunks = v.0; drop_arrays = v.1.0; drop_groups = v.1.1 }

-- how conflicts are solved: what becomes of chunks, and perhaps which drops pass
unfoldable pub policy_in : Text → Result Policy ScriptKind
policy_in w = made policy (pick_in (cut_of 43 w).0 & drops_in (cut_of 43 w).1)
