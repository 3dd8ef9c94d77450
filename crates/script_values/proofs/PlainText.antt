-- The plain text of an array is that of zarr_meta.
use Rattle.std.proofs.Common.{◌≡◌, ℕ, ℤ, List, refl}
use Rattle.std.specs.Prelude.{codes}
use Rattle.json.specs.Print.{escape_byte}
use Rattle.zarr_meta.specs.declared.kinds.IntKind.{IntKind}
use Rattle.zarr_meta.specs.declared.kinds.IntKind.TheVariants.{Int8, Int16, Int32, Int64, Uint8, Uint16, Uint32, Uint64}
use Rattle.zarr_meta.specs.Kinds.{name_of}
use Rattle.zarr_meta.specs.Plain.{array_text}
use Rattle.script_values.specs.Words.{Text}
use Rattle.script_values.specs.Arrays.{array_line_text}

-- the parts of the text that are fixed, by what they stand before

abbrev pub before_shape : Text
before_shape = codes "{\"zarr_format\":3,\"node_type\":\"array\",\"shape\":["

abbrev pub before_type : Text
before_type = codes "],\"data_type\":"

abbrev pub before_chunks : Text
before_chunks = codes ",\"chunk_grid\":{\"name\":\"regular\",\"configuration\":{\"chunk_shape\":["

abbrev pub before_fill : Text
before_fill = codes "]}},\"chunk_key_encoding\":{\"name\":\"default\",\"configuration\":{\"separator\":\"/\"}},\"fill_value\":"

abbrev pub before_codec : Text
before_codec = codes ",\"codecs\":["

abbrev pub at_end : Text
at_end = codes "]}"

pub plain_law : (kind : IntKind) (shape chunks : List ℕ) (fill : ℤ) → array_line_text (name_of kind) shape chunks fill ≡ array_text kind shape chunks fill
unfolding array_text escape_byte
plain_law Int8 shape chunks fill = refl
plain_law Int16 shape chunks fill = refl
plain_law Int32 shape chunks fill = refl
plain_law Int64 shape chunks fill = refl
plain_law Uint8 shape chunks fill = refl
plain_law Uint16 shape chunks fill = refl
plain_law Uint32 shape chunks fill = refl
plain_law Uint64 shape chunks fill = refl
