-- The elements of a chunk, and the number that stands in each. (Zarr v3 core specification,
-- "Core data types"; `bytes` codec.)
use Rattle.std.specs.Prelude.{ℕ, suc, ◌*◌, ◌^◌, ◌-◌, ◌-ℤ◌, ℤ, pos, negsuc}
use Rattle.std.specs.Prelude.{int_le, Bool, if◌then◌else◌, List, take, drop}
use Rattle.byteorder.specs.Endian.{big_number, little_number, big_bytes, little_bytes}
use Rattle.zarr_meta.specs.declared.kinds.IntKind.{IntKind}
use Rattle.zarr_meta.specs.Kinds.{size_of, greatest_of}

-- "endian": the bits of an element, with the most or the least significant byte first
abbrev pub bits_in : IntKind → (big : Bool) → List ℕ → ℕ
bits_in kind big bytes =
    if big then big_number (size_of kind) bytes else little_number (size_of kind) bytes

-- how many values so many bits have
abbrev pub values_of : IntKind → ℕ
values_of kind = 2 ^ (8 * size_of kind)

-- "Core data types": bits as a number of the type; with a sign, by two's complement
abbrev pub number_of_bits : IntKind → ℕ → ℤ
number_of_bits kind bits =
    if int_le (pos bits) (greatest_of kind) then pos bits else pos bits -ℤ pos (values_of kind)

-- the number that an element's bytes stand for
abbrev pub number_of : IntKind → (big : Bool) → List ℕ → ℤ
number_of kind big bytes = number_of_bits kind (bits_in kind big bytes)

-- and the other way round: the bits of a number of the type, and the bytes
abbrev pub bits_of_number : IntKind → ℤ → ℕ
bits_of_number kind (pos n) = n
bits_of_number kind (negsuc n) = values_of kind - suc n

abbrev pub bytes_of : IntKind → (big : Bool) → ℤ → List ℕ
bytes_of kind big number =
    if big then big_bytes (size_of kind) (bits_of_number kind number)
    else little_bytes (size_of kind) (bits_of_number kind number)

-- the bytes of the element at a place of a chunk, whose elements stand side by side
abbrev pub element_at : IntKind → (place : ℕ) → List ℕ → List ℕ
element_at kind place bytes = take (size_of kind) (drop (size_of kind * place) bytes)
