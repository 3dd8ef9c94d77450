-- Own: the layout of a tree of tables, and what can be laid out.
use Rattle.std.specs.Prelude.{◌≡◌, ℕ, ◌+◌, ◌-◌, min, ◌/◌, ◌%◌, ◌^◌, ◌<◌, ◌≤◌}
use Rattle.std.specs.Prelude.{List, [], ◌∷◌, length, ◌==◌, ◌||◌, ◌&&◌, nat_lt}
use Rattle.std.specs.Prelude.{nat_le, Bool, true, false, Option, Some, None}
use Rattle.std.specs.String.{string_bytes}
use Rattle.flat_tables.specs.declared.flat.Slot.{Slot}
use Rattle.flat_tables.specs.declared.flat.Flat.{Flat}
use Rattle.flat_tables.specs.declared.flat.Slot.TheOpen.{Slot-F, Flat-F, Absent, Scalar}
use Rattle.flat_tables.specs.declared.flat.Slot.TheOpen.{Struct, Text, Structs, Table, Tables}
use Rattle.flat_tables.specs.declared.flat.Slot.TheFolds.{fold-Flat, fold-Slot}
use Rattle.flat_tables.specs.Layout.{Part, Block, absent, inline, scalar, offset_to}
use Rattle.flat_tables.specs.Layout.{text_block, vector_block, tables_block, table_block}

-- a field, with the layouts of the tables beneath it
abbrev pub part_step : Slot-F Part Block → Part
part_step Absent = absent
part_step (Scalar size value) = scalar size value
part_step (Text text) = offset_to (text_block (string_bytes text))
part_step (Struct align bytes) = inline align bytes.items
part_step (Structs align size bytes) =
    offset_to (vector_block align (length bytes.items / size) bytes.items)
part_step (Table block) = offset_to block
part_step (Tables blocks) = offset_to (tables_block blocks.items)

abbrev pub table_step : Flat-F Part Block → Block
table_step f = table_block f.slots.items

-- the layout of a table with all beneath it, and of a field
abbrev pub layout : Flat → Block
layout = fold-Flat Part Block part_step table_step

abbrev pub part_of : Slot → Part
part_of = fold-Slot Part Block part_step table_step

abbrev pub all_true : List Bool → Bool
all_true [] = true
all_true (b ∷ bs) = b && all_true bs

abbrev pub is_align : ℕ → Bool
is_align n = n == 1 || n == 4 || n == 8

-- what can be laid out: at most 64 slots a table, numbers that hold their value, structs of at most
-- 255 bytes, and vectors of whole elements
abbrev pub writable_step : Slot-F Bool Bool → Bool
writable_step Absent = true
writable_step (Scalar size value) =
    (size == 1 || size == 2 || size == 4 || size == 8) && nat_lt value (256 ^ size)
writable_step (Text text) = true
writable_step (Struct align bytes) = is_align align && nat_le (length bytes.items) 255
writable_step (Structs align size bytes) =
    is_align align && nat_lt 0 size && length bytes.items % size == 0
writable_step (Table writable) = writable
writable_step (Tables writables) = all_true writables.items

abbrev pub writable_table_step : Flat-F Bool Bool → Bool
writable_table_step f = nat_le (length f.slots.items) 64 && all_true f.slots.items

abbrev pub is_writable : Flat → Bool
is_writable = fold-Flat Bool Bool writable_step writable_table_step

abbrev pub is_writable_slot : Slot → Bool
is_writable_slot = fold-Slot Bool Bool writable_step writable_table_step

-- a number as the machine holds it: the greatest stands for all that are greater
abbrev pub capped : ℕ → ℕ
capped n = min n (2 ^ 64 - 1)

-- where all ends that is beneath a field, and where a table does, if there is one
abbrev pub behind_field : Option Slot → ℕ → ℕ
behind_field None e = e
behind_field (Some s) e = e + length ((part_of s).beneath e)

abbrev pub behind_table : Option Flat → ℕ → ℕ
behind_table None e = e
behind_table (Some f) e = e + length ((layout f).bytes e)

-- where a part is present, its alignment and size
abbrev pub HasShape : Option (ℕ × ℕ) → Part → Type 0
HasShape None p = p.present ≡ false
HasShape (Some x) p =
    (p.present ≡ true) × (p.align ≡ x.0) × (p.size ≡ x.1) × (0 < x.0) × (x.0 ≤ 8) × (x.1 ≤ 255)
