-- Own: the plain text of an array, of any name of a type and any numbers.
use Rattle.std.specs.Prelude.{◌≡◌, ℕ, ℤ, if◌then◌else◌, ◌||◌, List, codes}
use Rattle.serde_json.specs.Data.{string}
use Rattle.serde_json.specs.Written.{compact_text}
use Rattle.zarr_meta.specs.declared.kinds.IntKind.{IntKind}
use Rattle.zarr_meta.specs.declared.kinds.IntKind.TheVariants.{Int8, Int16}
use Rattle.zarr_meta.specs.Kinds.{name_of}
use Rattle.zarr_meta.specs.Plain.{codec_text, text_about, array_text}
use Rattle.script_values.specs.Words.{Text}
use Rattle.script_values.specs.Values.{◌reads◌}

-- elements of `int8` and `uint8` have one byte; those of all other types are taken to have more
abbrev pub codec_of : Text → Text
codec_of data_type = codec_text
    (if (data_type reads codes "int8") || (data_type reads codes "uint8") then Int8 else Int16)

-- the plain text of an array of this type
abbrev pub array_line_text : Text → List ℕ → List ℕ → ℤ → Text
array_line_text data_type shape chunks fill =
    text_about (compact_text (string data_type)) (codec_of data_type) shape chunks fill

-- of the eight types it is the one plain text that metadata have
abbrev pub PlainLaw : Type 0
PlainLaw =
    (kind : IntKind) (shape chunks : List ℕ) (fill : ℤ)
    → array_line_text (name_of kind) shape chunks fill ≡ array_text kind shape chunks fill
