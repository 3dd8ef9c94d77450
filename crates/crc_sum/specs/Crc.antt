-- Cyclic redundancy checks of 32 bits, the low bit of each byte first (RFC 1952, section 8;
-- RFC 3720, 12.1 and B.4).
use Rattle.std.specs.Prelude.{ℕ, zero, suc, ◌+◌, ◌*◌, ◌/◌, ◌%◌, ◌==◌, ◌-◌, ◌^◌, if◌then◌else◌}
use Rattle.std.specs.Prelude.{◌≡◌, ◌<◌, List, [], ◌∷◌, length, slice_get, Some, bit_xor}

-- the two polynomials, their highest power in the lowest bit: of gzip, and of Castagnoli
abbrev pub gzip_polynomial : ℕ
gzip_polynomial = 0xEDB88320

abbrev pub castagnoli_polynomial : ℕ
castagnoli_polynomial = 0x82F63B78

-- the remainder moves down by a bit, and where a 1 falls out the polynomial is taken away
abbrev pub moved : (polynomial remainder : ℕ) → ℕ
moved polynomial r = if r % 2 == 1 then bit_xor (r / 2) polynomial else r / 2

unfoldable pub moved_by : ℕ → (polynomial remainder : ℕ) → ℕ
moved_by zero polynomial r = r
moved_by (suc n) polynomial r = moved_by n polynomial (moved polynomial r)

-- the remainder behind more bytes
unfoldable pub remainder_behind : (polynomial remainder : ℕ) → List ℕ → ℕ
remainder_behind polynomial r [] = r
remainder_behind polynomial r (b ∷ bs) =
    remainder_behind polynomial (moved_by 8 polynomial (bit_xor r b)) bs

abbrev pub ones : ℕ
ones = 2 ^ 32 - 1

unfoldable pub check_by : ℕ → List ℕ → ℕ
check_by polynomial bytes = bit_xor ones (remainder_behind polynomial ones bytes)

abbrev pub crc32 : List ℕ → ℕ
crc32 bytes = check_by gzip_polynomial bytes

abbrev pub crc32c : List ℕ → ℕ
crc32c bytes = check_by castagnoli_polynomial bytes

-- the row of a place in eight tables of 256: its number within the table, moved down by as many bytes
-- as the table's number is, from 1 on
abbrev pub row_at : (polynomial place : ℕ) → ℕ
row_at polynomial place = moved_by (8 * (place / 256) + 8) polynomial (place % 256)

pub record AreRows (polynomial : ℕ) (rows : List ℕ) : Type 0 where
  pub size : length rows ≡ 2048
  pub rows_are : (k : ℕ) → k < 2048 → slice_get rows k ≡ Some (row_at polynomial k)
