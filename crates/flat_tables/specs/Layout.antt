-- Own: the one layout of a payload, of the many that the FlatBuffers internals allow. A block is
-- what is appended to the bytes that stand already.
use Rattle.std.specs.Prelude.{ℕ, ◌+◌, ◌-◌, ◌*◌, ◌%◌, max, List, [], ◌∷◌, ◌++◌, length, replicate}
use Rattle.std.specs.Prelude.{take, Option, Some, None, Bool, true, false, if◌then◌else◌}
use Rattle.std.specs.Int.{w16, w32, w64, to_le_bytes}

-- a table, vector or string: its place, and the bytes that are appended,
-- where so many bytes stand already
pub record Block : Type 0 where
  pub place : ℕ → ℕ
  pub bytes : ℕ → List ℕ

-- a field: whether it is there, its alignment and size, its bytes where it stands at one place and
-- what is beneath it is appended at another, and what is beneath it
pub record Part : Type 0 where
  pub present : Bool
  pub align : ℕ
  pub size : ℕ
  pub field : ℕ → ℕ → List ℕ
  pub beneath : ℕ → List ℕ

-- how many bytes lead from n to a multiple of k
abbrev pub gap_to : ℕ → ℕ → ℕ
gap_to k n = (k - n % k) % k

abbrev pub zeros : ℕ → List ℕ
zeros n = replicate n 0

-- no field
abbrev pub absent : Part
absent = record { present = false; align = 1; size = 0; field = λ a e. []; beneath = λ e. [] }

-- bytes that stand in the table itself
abbrev pub inline : ℕ → List ℕ → Part
inline align bytes = record {
  present = true;
  align = align;
  size = length bytes;
  field = λ a e. bytes;
  beneath = λ e. [];
}

-- a number of size bytes, aligned to its size
abbrev pub scalar : ℕ → ℕ → Part
scalar size value = inline size (take size (to_le_bytes w64 value))

-- an offset to a block beneath the table
abbrev pub offset_to : Block → Part
offset_to b = record {
  present = true;
  align = 4;
  size = 4;
  field = λ a e. to_le_bytes w32 (b.place e - a);
  beneath = b.bytes;
}

-- a field that is there where the value is
abbrev pub part_if : {A : Type 0} → (A → Part) → Option A → Part
part_if part None = absent
part_if part (Some x) = part x

-- a vector: count elements, whose bytes are these; it and its first element stand at multiples of
-- 4, the element also at one of its alignment
unfoldable pub vector_block : ℕ → ℕ → List ℕ → Block
vector_block align count items = record {
  place = λ e. e + gap_to (max 4 align) (e + 4);
  bytes = λ e. zeros (gap_to (max 4 align) (e + 4)) ++ (to_le_bytes w32 count ++ items);
}

-- a string, which one zero byte follows
unfoldable pub text_block : List ℕ → Block
text_block text = record {
  place = λ e. e + gap_to 4 e;
  bytes = λ e. zeros (gap_to 4 e) ++ (to_le_bytes w32 (length text) ++ (text ++ 0 ∷ []));
}

-- the offsets from a on to blocks that are appended at e, and those blocks
abbrev pub offsets : List Block → ℕ → ℕ → List ℕ
offsets [] a e = []
offsets (b ∷ bs) a e =
    to_le_bytes w32 (b.place e - a) ++ offsets bs (a + 4) (e + length (b.bytes e))

-- blocks one after the other
abbrev pub blocks : List Block → ℕ → List ℕ
blocks [] e = []
blocks (b ∷ bs) e = b.bytes e ++ blocks bs (e + length (b.bytes e))

-- a vector of tables but for these: its offsets
abbrev pub tables_head : List Block → ℕ → List ℕ
tables_head bs e =
    let q = e + gap_to 4 (e + 4) in zeros (gap_to 4 (e + 4)) ++ to_le_bytes w32 (length bs)
    ++ offsets bs (q + 4) (q + 4 + 4 * length bs)

-- a vector of tables: its offsets, and then each table with all beneath it
unfoldable pub tables_block : List Block → Block
tables_block bs = record {
  place = λ e. e + gap_to 4 (e + 4);
  bytes = λ e. tables_head bs e ++ blocks bs (e + gap_to 4 (e + 4) + 4 + 4 * length bs);
}

-- where the fields end, from offset o on; each stands at the next multiple of its alignment
abbrev pub fields_end : List Part → ℕ → ℕ
fields_end [] o = o
fields_end (p ∷ ps) o =
    if p.present then fields_end ps (o + gap_to p.align o + p.size) else fields_end ps o

-- the vtable's entries, 0 for a field that isn't there
abbrev pub entries : List Part → ℕ → List ℕ
entries [] o = []
entries (p ∷ ps) o =
    if p.present
    then to_le_bytes w16 (o + gap_to p.align o) ++ entries ps (o + gap_to p.align o + p.size)
    else to_le_bytes w16 0 ++ entries ps o

-- the fields of the table at t, from offset o on, with what is beneath them appended at e
abbrev pub fields : List Part → ℕ → ℕ → ℕ → List ℕ
fields [] o t e = []
fields (p ∷ ps) o t e =
    if p.present
    then zeros (gap_to p.align o) ++ (p.field (t + (o + gap_to p.align o)) e
    ++ fields ps (o + gap_to p.align o + p.size) t (e + length (p.beneath e)))
    else fields ps o t (e + length (p.beneath e))

-- what is beneath the fields, in their order
abbrev pub all_beneath : List Part → ℕ → List ℕ
all_beneath [] e = []
all_beneath (p ∷ ps) e = p.beneath e ++ all_beneath ps (e + length (p.beneath e))

-- a table of n slots stands at a multiple of 8, with its vtable directly before it
abbrev pub table_place : ℕ → ℕ → ℕ
table_place n e = e + gap_to 8 (e + (4 + 2 * n)) + (4 + 2 * n)

-- the vtable, and the table with its fields from offset 4 on
abbrev pub table_head : List Part → ℕ → List ℕ
table_head ps e = let t = table_place (length ps) e in
    zeros (gap_to 8 (e + (4 + 2 * length ps))) ++ to_le_bytes w16 (4 + 2 * length ps)
    ++ to_le_bytes w16 (fields_end ps 4) ++ entries ps 4 ++ to_le_bytes w32 (4 + 2 * length ps)
    ++ fields ps 4 t (t + fields_end ps 4)

-- a table with all beneath it
unfoldable pub table_block : List Part → Block
table_block ps = record {
  place = table_place (length ps);
  bytes = λ e. table_head ps e ++ all_beneath ps (table_place (length ps) e + fields_end ps 4);
}

-- a payload with this root table
unfoldable pub payload : Block → List ℕ
payload b = to_le_bytes w32 (b.place 4) ++ b.bytes 4
