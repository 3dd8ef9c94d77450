-- A log that was written is read again.
use Rattle.std.proofs.Common.{◌≡◌, ℕ, ◌+◌, ◌^◌, ◌≤◌, ◌<◌, lit<, lit≤, Result, List, [], ◌∷◌, length, map, None, Some, Ok, refl, sym, arith}
use Rattle.std.specs.List.{AllByRecursion}
use Rattle.ice_ids.specs.declared.Id8.{Id8}
use Rattle.flat_tables.specs.declared.header.Kind.TheVariants as kinds
use Rattle.flat_tables.specs.declared.fault.FileFault.{FileFault}
use Rattle.flat_tables.specs.Places.{TableIn, VectorIn, item_of, vector_of}
use Rattle.flat_tables.specs.Rows.{Ascends}
use Rattle.flat_tables.specs.Layout.{payload}
use Rattle.flat_tables.proofs.Files.{file_again}
use Rattle.flat_tables.proofs.Loop.{ReadsFrom}
use Rattle.flat_tables.proofs.Again.{IsTable, HasParts, SlotRead, inline_field, offset_field, root_again, structs_again, tables_again, tables_each}
use Rattle.zarr_tree.specs.declared.lists.ArrayChunks.{ArrayChunks}
use Rattle.txn_file.specs.declared.log.TxnFile.{TxnFile}
use Rattle.file_fields.specs.Fields.{id_key, index_key, index_of, IsIndex}
use Rattle.file_fields.proofs.Again.{ordered_again, id8_again, id12_again, index_again}
use Rattle.txn_file.specs.Logs.{array_key, id_at, ids_in, ids_of, index_at, indices_in, array_of, array_at, arrays_in, arrays_of, lists_of, log_of, txn_of}
use Rattle.txn_file.specs.Layout.{ids_part, index_parts, indices_part, array_parts, arrays_part, log_parts, log_block, log_file, IdsAscend, ChunksAscend, IsOrdered, AreIds, IsArray, IsLog}
use Rattle.txn_file.proofs.Each.{each}
use Rattle.txn_file.proofs.Ids.{id_is}

-- ---- an index

index_fields : (index : List ℕ) → IsIndex index → IsTable (index_parts index)
index_fields index is = record { fields = (offset_field _, tt); few = lit≤ tt }

index_read : (index : List ℕ) (t : TableIn) → IsIndex index → HasParts t (index_parts index) → index_of t 0 ≡ Ok index
index_read index t is parts = index_again t 0 index is parts.small parts.slots.0

-- ---- an array with its chunks

pub record CanArray (array : ArrayChunks) : Type 0 where
  pub is : IsArray array
  pub ascend : ChunksAscend array

array_fields : (array : ArrayChunks) → CanArray array → IsTable (array_parts array)
array_fields array can = record { fields = (inline_field 1 array.node.0 (lit≤ tt) (omega (arith, can.is.node.0)), (offset_field _, tt)); few = lit≤ tt }

indices_again : (t : TableIn) (indices : List (List ℕ)) → length t.bytes < 2 ^ 32 → AllByRecursion IsIndex indices → Ascends index_key None indices → SlotRead t 1 (indices_part indices) → (v : VectorIn) × (vector_of t 1 4 ≡ Ok (Some v)) × (indices_in v ≡ Ok indices)
unfolding index_at
indices_again t indices small are ascend slot =
    let v = tables_again t 1 index_parts indices small slot in
    let reads = tables_each index_parts (λ u. index_of u 0) IsIndex index_fields index_read v.vector indices 0 v.end v.small are v.tables in
    (v.vector, v.is, ordered_again index_key 1 (index_at v.vector) indices v.vector.count v.count reads ascend)

array_again : (array : ArrayChunks) (t : TableIn) → CanArray array → HasParts t (array_parts array) → array_of t ≡ Ok array
unfolding array_of
array_again array t can parts =
    let node = id8_again t 0 array.node can.is.node.0 parts.slots.0 in
    let chunks = indices_again t array.chunks parts.small can.is.chunks can.ascend parts.slots.1.0 in
    rw (node, chunks.1, chunks.2) refl

both : (xs : List ArrayChunks) → AllByRecursion IsArray xs → AllByRecursion ChunksAscend xs → AllByRecursion CanArray xs
both [] is ascend = tt
both (x ∷ xs) is ascend = (record { is = is.0; ascend = ascend.0 }, both xs is.1 ascend.1)

-- ---- the lists of a log

ids_read : (v : VectorIn) (ids : List Id8) (i : ℕ) → ReadsFrom (λ (j : ℕ). let r : Result (List ℕ) FileFault = Ok (item_of v j) in r) i (map id_key ids) → ReadsFrom (id_at v) i ids
ids_read v [] i reads = tt
ids_read v (id ∷ ids) i reads =
    let here : item_of v i ≡ id.0 = cc in
    (id_is v i id (sym here), ids_read v ids (i + 1) reads.1)

ids_again : (t : TableIn) (k : ℕ) (ids : List Id8) → length t.bytes < 2 ^ 32 → AreIds ids → IdsAscend ids → SlotRead t k (ids_part ids) → ids_of t k ≡ Ok ids
unfolding ids_of
ids_again t k ids small are ascend slot =
    let v = structs_again t k 1 8 id_key ids (lit< tt) (each (λ id is. is.0) ids are) small slot in
    let again : ids_in k v.vector ≡ Ok ids = ordered_again id_key k (id_at v.vector) ids v.vector.count v.count (ids_read v.vector ids 0 v.reads) ascend in
    rw (v.is, again) refl

arrays_again : (t : TableIn) (arrays : List ArrayChunks) → length t.bytes < 2 ^ 32 → AllByRecursion CanArray arrays → Ascends array_key None arrays → SlotRead t 7 (arrays_part arrays) → arrays_of t ≡ Ok arrays
unfolding arrays_of array_at
arrays_again t arrays small can ascend slot =
    let v = tables_again t 7 array_parts arrays small slot in
    let reads = tables_each array_parts array_of CanArray array_fields array_again v.vector arrays 0 v.end v.small can v.tables in
    let again : arrays_in v.vector ≡ Ok arrays = ordered_again array_key 7 (array_at v.vector) arrays v.vector.count v.count reads ascend in
    rw (v.is, again) refl

-- ---- the log

log_fields : (log : TxnFile) → IsLog log → IsTable (log_parts log)
log_fields log is = record { fields = (inline_field 1 log.id.0 (lit≤ tt) (omega (arith, is.id.0)), (offset_field _, (offset_field _, (offset_field _, (offset_field _, (offset_field _, (offset_field _, (offset_field _, tt)))))))); few = lit≤ tt }

log_again : (log : TxnFile) → IsLog log → IsOrdered log → length (payload (log_block log)) < 2 ^ 32 → log_of (payload (log_block log)) ≡ Ok log
unfolding lists_of log_of log_block
log_again log is order small =
    let root = root_again (log_parts log) (log_fields log is) small in
    let t = root.table in
    let p = root.parts in
    let s1 = p.slots.1 in
    let s2 = s1.1 in
    let s3 = s2.1 in
    let s4 = s3.1 in
    let s5 = s4.1 in
    let s6 = s5.1 in
    let s7 = s6.1 in
    let id = id12_again t 0 log.id is.id.0 p.slots.0 in
    let i1 = ids_again t 1 log.lists.new_groups p.small is.new_groups order.new_groups s1.0 in
    let i2 = ids_again t 2 log.lists.new_arrays p.small is.new_arrays order.new_arrays s2.0 in
    let i3 = ids_again t 3 log.lists.deleted_groups p.small is.deleted_groups order.deleted_groups s3.0 in
    let i4 = ids_again t 4 log.lists.deleted_arrays p.small is.deleted_arrays order.deleted_arrays s4.0 in
    let i5 = ids_again t 5 log.lists.updated_arrays p.small is.updated_arrays order.updated_arrays s5.0 in
    let i6 = ids_again t 6 log.lists.updated_groups p.small is.updated_groups order.updated_groups s6.0 in
    let i7 = arrays_again t log.lists.updated_chunks p.small (both log.lists.updated_chunks is.updated_chunks order.chunks) order.arrays s7.0 in
    rw (root.is, id, i1, i2, i3, i4, i5, i6, i7) refl

pub txn_again : (log : TxnFile) → IsLog log → IsOrdered log → length (payload (log_block log)) ≤ 268435417 → txn_of (log_file log) ≡ Ok log
unfolding txn_of log_file
txn_again log is order fits = file_again kinds.Log log_of (payload (log_block log)) log fits (log_again log is order (omega arith))
