-- What bytes stand for as JSON (RFC 8259), in the words of the crate that reads them.
use Rattle.std.specs.Prelude.{ℕ, ℤ, ◌≡◌, List, [], ◌∷◌, Option, Some}
use Rattle.std.specs.Prelude.{IsUtf8, option_and_then, option_map}
use Rattle.serde_json.specs.Data.{Data, Items, no_items, item}
use Rattle.serde_json.specs.Read.{read}
use Rattle.serde_json.specs.Find.{get, as_number, as_u64, as_integer, as_str, as_array}
use Rattle.json_words.specs.declared.JsonFault.{JsonFault}
use Rattle.json_words.specs.declared.JsonFault.TheVariants.{Json, NoMemory}

-- the bytes are UTF-8, and serde_json reads their text as this value
abbrev pub ReadsAs : List ℕ → Data → Type 0
ReadsAs bytes value = IsUtf8 bytes × (read bytes ≡ Some value)

-- serde_json reads the bytes as no value
abbrev pub IsRefused : List ℕ → Type 0
IsRefused bytes = (value : Data) → ¬ ReadsAs bytes value

-- the cause of each refusal; want of memory may come anywhere
abbrev pub Refuses : List ℕ → JsonFault → Type 0
Refuses bytes Json = IsRefused bytes
Refuses bytes NoMemory = Unit {0}

-- A number that serde_json holds as a whole number: from 0 to 2^64 - 1, without a sign, a fraction
-- or an exponent.
abbrev pub whole_number : Data → Option ℕ
whole_number value = option_and_then as_u64 (as_number value)

-- the same, from -2^63 to 2^64 - 1; `-0` is none
abbrev pub integer_number : Data → Option ℤ
integer_number value = option_and_then as_integer (as_number value)

-- the whole numbers of a list, where each item is one
abbrev pub whole_numbers : Items → Option (List ℕ)
whole_numbers no_items = Some []
whole_numbers (item value items) =
    option_and_then (λ number. option_map (λ numbers. number ∷ numbers) (whole_numbers items))
    (whole_number value)

-- the text of an object's member, where it has the member and that is a text
abbrev pub text_member : List ℕ → Data → Option (List ℕ)
text_member name value = option_and_then as_str (get name value)

-- the items of an object's member, where it has the member and that is a list
abbrev pub list_member : List ℕ → Data → Option Items
list_member name value = option_and_then as_array (get name value)
