-- Where the parts of a payload lie, as the FlatBuffers internals have them: each is
-- found by an offset from an earlier one. Places are counted from the payload's
-- first byte, and sums don't wrap.
use Rattle.std.specs.Prelude.{ℕ, zero, suc, ◌+◌, ◌-◌, ◌*◌, ◌^◌, List, [], ◌∷◌, length, take, drop}
use Rattle.std.specs.Prelude.{Option, Some, None, Result, Ok, Err, nat_lt, ◌==◌, if◌then◌else◌}
use Rattle.std.specs.Int.{Width, w8, w16, w32, w64, byte_len, from_le_bytes}
use Rattle.std.specs.Str.{is_utf8}
use Rattle.flat_tables.specs.declared.fault.FlatFault.{FlatFault}
use Rattle.flat_tables.specs.declared.fault.FlatFault.TheVariants.{Outside, NotText}
use Rattle.flat_tables.specs.Step.{◌>>=◌, on_some}

-- own: the n bytes from p on, or p as the fault where they don't lie in the payload
abbrev pub span : List ℕ → ℕ → ℕ → Result (List ℕ) FlatFault
span bytes p n =
    if nat_lt (length bytes) (p + n) then Err (Outside p) else Ok (take n (drop p bytes))

-- scalars are little-endian
abbrev pub number_at : Width → List ℕ → ℕ → Result ℕ FlatFault
number_at w bytes p =
    if nat_lt (length bytes) (p + byte_len w) then Err (Outside p)
    else Ok (from_le_bytes w (take (byte_len w) (drop p bytes)))

-- a table in a payload: its place, the place and the size of its vtable, and its own size
pub record TableIn : Type 0 where
  pub bytes : List ℕ
  pub at : ℕ
  pub vtable : ℕ
  pub entries : ℕ
  pub size : ℕ

-- a vector in a payload: the place of its first element, how many there are, and the size of each
pub record VectorIn : Type 0 where
  pub bytes : List ℕ
  pub first : ℕ
  pub count : ℕ
  pub size : ℕ

-- the place that lies before t by a signed number of 32 bits
abbrev pub back_from : ℕ → ℕ → Result ℕ FlatFault
back_from t s =
    if nat_lt s (2 ^ 31) then (if nat_lt t s then Err (Outside t) else Ok (t - s))
    else Ok (t + (2 ^ 32 - s))

-- a table begins with the signed offset back to its vtable, and that with two
-- sizes: its own and the table's
unfoldable pub table_at : List ℕ → ℕ → Result TableIn FlatFault
table_at bytes t = do
  s ← number_at w32 bytes t
  v ← back_from t s
  _ ← span bytes v 4
  n ← number_at w16 bytes v
  m ← number_at w16 bytes (v + 2)
  if nat_lt n 4 then Err (Outside v) else do
    _ ← span bytes v n
    if nat_lt m 4 then Err (Outside t) else do
      _ ← span bytes t m
      Ok (record { bytes = bytes; at = t; vtable = v; entries = n; size = m })

-- an unsigned offset of 32 bits is counted from where it stands
unfoldable pub target_of : List ℕ → ℕ → Result ℕ FlatFault
target_of bytes a = do
  u ← number_at w32 bytes a
  Ok (a + u)

-- a payload begins with the offset to its root table
unfoldable pub root_of : List ℕ → Result TableIn FlatFault
root_of bytes = do
  u ← number_at w32 bytes 0
  table_at bytes u

-- the place of the field of n bytes in slot k, where it isn't absent: its entry in the vtable is
-- its offset from the table, and it is absent where the entry is 0 or lies past the vtable
unfoldable pub field_of : TableIn → ℕ → ℕ → Result (Option ℕ) FlatFault
field_of t k n = if nat_lt t.entries (6 + 2 * k) then Ok None else do
  f ← number_at w16 t.bytes (t.vtable + (4 + 2 * k))
  if f == 0 then Ok None
      else if nat_lt t.size (f + n) then Err (Outside (t.at + f)) else Ok (Some (t.at + f))

-- a struct lies in the table itself
unfoldable pub struct_of : TableIn → ℕ → ℕ → Result (Option (List ℕ)) FlatFault
struct_of t k n = do
  a ← field_of t k n
  on_some a (λ p. span t.bytes p n)

abbrev pub width_of : ℕ → Width
width_of n = if n == 1 then w8 else if n == 2 then w16 else if n == 4 then w32 else w64

-- so does a number
unfoldable pub scalar_of : TableIn → ℕ → ℕ → Result (Option ℕ) FlatFault
scalar_of t k n = do
  a ← field_of t k n
  on_some a (λ p. number_at (width_of n) t.bytes p)

-- tables, vectors and strings lie behind an offset
unfoldable pub child_of : TableIn → ℕ → Result (Option TableIn) FlatFault
child_of t k = do
  a ← field_of t k 4
  on_some a (λ p. target_of t.bytes p >>= table_at t.bytes)

-- a vector begins with the number of its elements
unfoldable pub vector_at : List ℕ → ℕ → ℕ → Result VectorIn FlatFault
vector_at bytes size q = do
  n ← number_at w32 bytes q
  _ ← span bytes (q + 4) (n * size)
  Ok (record { bytes = bytes; first = q + 4; count = n; size = size })

unfoldable pub vector_of : TableIn → ℕ → ℕ → Result (Option VectorIn) FlatFault
vector_of t k size = do
  a ← field_of t k 4
  on_some a (λ p. target_of t.bytes p >>= vector_at t.bytes size)

-- a string is a vector of bytes and one byte more; own: that byte isn't
-- looked at, and the others are UTF-8
unfoldable pub text_at : List ℕ → ℕ → Result (List ℕ) FlatFault
text_at bytes q = do
  v ← vector_at bytes 1 q
  _ ← span bytes (q + 4 + v.count) 1
  s ← span bytes (q + 4) v.count
  if is_utf8 s then Ok s else Err (NotText (q + 4))

unfoldable pub text_of : TableIn → ℕ → Result (Option (List ℕ)) FlatFault
text_of t k = do
  a ← field_of t k 4
  on_some a (λ p. target_of t.bytes p >>= text_at t.bytes)

-- the bytes of element i, and of all elements
abbrev pub item_of : VectorIn → ℕ → List ℕ
item_of v i = take v.size (drop (v.first + i * v.size) v.bytes)

abbrev pub all_of : VectorIn → List ℕ
all_of v = take (v.count * v.size) (drop v.first v.bytes)

-- the bytes of each of n elements from number i on, and of each element
abbrev pub items_from : VectorIn → ℕ → ℕ → List (List ℕ)
items_from v i zero = []
items_from v i (suc n) = item_of v i ∷ items_from v (i + 1) n

abbrev pub items_of : VectorIn → List (List ℕ)
items_of v = items_from v 0 v.count

-- element i of a vector of tables is the offset to its table
unfoldable pub table_of : VectorIn → ℕ → Result TableIn FlatFault
table_of v i = target_of v.bytes (v.first + i * 4) >>= table_at v.bytes
