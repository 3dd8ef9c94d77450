-- Ids and indices that were written are read again, and so are rows that stand in order.
use Rattle.std.proofs.Common.{◌≡◌, ℕ, ◌^◌, ◌<◌, lit<, List, [], length, None, Result, Ok, refl}
use Rattle.std.specs.Int.{w32, to_le_bytes}
use Rattle.ice_ids.specs.declared.Id8.{Id8}
use Rattle.ice_ids.specs.declared.Id12.{Id12}
use Rattle.flat_tables.specs.declared.fault.FileFault.{FileFault}
use Rattle.flat_tables.specs.Places.{TableIn}
use Rattle.flat_tables.specs.Rows.{rows, each, in_order, Ascends}
use Rattle.flat_tables.proofs.Loop.{ReadsFrom, each_reads, ordered_reads, rows_again}
use Rattle.flat_tables.proofs.Again.{SlotRead, struct_again, structs_again, four_bytes, numbers_again_32}
use Rattle.file_fields.specs.Fields.{id8_of, id12_of, index_of, id8_part, id12_part, index_part, IsId8, IsId12, IsIndex}

pub ordered_again : {A : Type 0} (key : A → List ℕ) (slot : ℕ) (f : ℕ → Result A FileFault) (xs : List A) (n : ℕ) → n ≡ length xs → ReadsFrom f 0 xs → Ascends key None xs → rows (in_order key slot (each f)) [] n ≡ Ok xs
ordered_again key slot f xs n len reads ascends =
    rows_again (in_order key slot (each f)) xs n len (ordered_reads key slot (each f) [] xs None refl (each_reads f [] xs 0 refl reads) ascends)

pub id8_again : (t : TableIn) (k : ℕ) (id : Id8) → IsId8 id → SlotRead t k (id8_part id) → id8_of t k ≡ Ok id
unfolding id8_of
id8_again t k id is slot = rw (struct_again t k 1 8 id.0 is slot) refl

pub id12_again : (t : TableIn) (k : ℕ) (id : Id12) → IsId12 id → SlotRead t k (id12_part id) → id12_of t k ≡ Ok id
unfolding id12_of
id12_again t k id is slot = rw (struct_again t k 1 12 id.0 is slot) refl

pub index_again : (t : TableIn) (k : ℕ) (index : List ℕ) → IsIndex index → length t.bytes < 2 ^ 32 → SlotRead t k (index_part index) → index_of t k ≡ Ok index
unfolding index_of
index_again t k index is small slot =
    let v = structs_again t k 4 4 (to_le_bytes w32) index (lit< tt) (four_bytes index) small slot in
    rw (v.is, v.items, numbers_again_32 index is) refl
