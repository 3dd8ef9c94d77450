-- What a file of a transaction log stands for is in order.
use Rattle.std.proofs.Common.{◌≡◌, ℕ, List, drop, None, Ok, subst}
use Rattle.std.specs.List.{AllByRecursion}
use Rattle.ice_ids.specs.declared.Id8.{Id8}
use Rattle.ice_ids.specs.declared.Id12.{Id12}
use Rattle.flat_tables.specs.declared.header.Kind.TheVariants as kinds
use Rattle.flat_tables.specs.Places.{TableIn, VectorIn, root_of, vector_of, table_of}
use Rattle.flat_tables.specs.Rows.{flat, required, each, Ascends}
use Rattle.flat_tables.proofs.Loop.{bind_ok}
use Rattle.file_fields.specs.Fields.{id_key, index_key, id8_of, id12_of}
use Rattle.file_fields.proofs.WasRead.{rows_ascend, rows_have, optional_has, value_is, payload_was}
use Rattle.zarr_tree.specs.declared.lists.ArrayChunks.{ArrayChunks}
use Rattle.zarr_tree.specs.declared.lists.Touched.{Touched}
use Rattle.txn_file.specs.declared.log.TxnFile.{TxnFile}
use Rattle.txn_file.specs.Logs.{array_key, id_at, ids_in, ids_of, index_at, indices_in, array_of, array_at, arrays_in, arrays_of, lists_of, log_of, txn_of}
use Rattle.txn_file.specs.Layout.{IdsAscend, ChunksAscend, IsOrdered}

ids_ordered : (t : TableIn) (slot : ℕ) (ids : List Id8) → ids_of t slot ≡ Ok ids → IdsAscend ids
unfolding ids_of
ids_ordered t slot ids e = optional_has IdsAscend (vector_of t slot 8) (ids_in slot) ids tt (λ v is. rows_ascend id_key slot (each (id_at v)) v.count ids is) e

array_ordered : (t : TableIn) (array : ArrayChunks) → array_of t ≡ Ok array → ChunksAscend array
unfolding array_of
array_ordered t array e =
    let node = bind_ok (id8_of t 0) _ array e in
    let v = bind_ok (required 1 (vector_of t 1 4)) _ array node.2 in
    let chunks = bind_ok (indices_in v.0) _ array v.2 in
    subst ChunksAscend (value_is _ array chunks.2) (rows_ascend index_key 1 (each (index_at v.0)) v.0.count chunks.0 chunks.1)

array_at_ordered : (v : VectorIn) (i : ℕ) (array : ArrayChunks) → array_at v i ≡ Ok array → ChunksAscend array
unfolding array_at
array_at_ordered v i array e =
    let t = bind_ok (flat (table_of v i)) array_of array e in
    array_ordered t.0 array t.2

-- arrays that ascend, each with chunks that do
record AreOrdered (arrays : List ArrayChunks) : Type 0 where
  ascend : Ascends array_key None arrays
  chunks : AllByRecursion ChunksAscend arrays

arrays_ordered : (t : TableIn) (arrays : List ArrayChunks) → arrays_of t ≡ Ok arrays → AreOrdered arrays
unfolding arrays_of
arrays_ordered t arrays e = optional_has AreOrdered (vector_of t 7 4) arrays_in arrays (record { ascend = tt; chunks = tt }) (λ v is. record {
  ascend = rows_ascend array_key 7 (each (array_at v)) v.count arrays is;
  chunks = rows_have ChunksAscend array_key 7 (array_at v) v.count arrays (array_at_ordered v) is;
}) e

lists_ordered : (t : TableIn) (s : Touched) → lists_of t ≡ Ok s → (id : Id12) → IsOrdered (record { id = id; lists = s })
unfolding lists_of
lists_ordered t s e id =
    let a1 = bind_ok (ids_of t 1) _ s e in
    let a2 = bind_ok (ids_of t 2) _ s a1.2 in
    let a3 = bind_ok (ids_of t 3) _ s a2.2 in
    let a4 = bind_ok (ids_of t 4) _ s a3.2 in
    let a5 = bind_ok (ids_of t 5) _ s a4.2 in
    let a6 = bind_ok (ids_of t 6) _ s a5.2 in
    let a7 = bind_ok (arrays_of t) _ s a6.2 in
    let arrays = arrays_ordered t a7.0 a7.1 in
    subst (λ (s : Touched). IsOrdered (record { id = id; lists = s })) (value_is _ s a7.2) (record {
      new_groups = ids_ordered t 1 a1.0 a1.1;
      new_arrays = ids_ordered t 2 a2.0 a2.1;
      deleted_groups = ids_ordered t 3 a3.0 a3.1;
      deleted_arrays = ids_ordered t 4 a4.0 a4.1;
      updated_arrays = ids_ordered t 5 a5.0 a5.1;
      updated_groups = ids_ordered t 6 a6.0 a6.1;
      arrays = arrays.ascend;
      chunks = arrays.chunks;
    })

log_ordered : (payload : List ℕ) (log : TxnFile) → log_of payload ≡ Ok log → IsOrdered log
unfolding log_of
log_ordered payload log e =
    let t = bind_ok (flat (root_of payload)) _ log e in
    let id = bind_ok (id12_of t.0 0) _ log t.2 in
    let lists = bind_ok (lists_of t.0) _ log id.2 in
    subst IsOrdered (value_is _ log lists.2) (lists_ordered t.0 lists.0 lists.1 id.0)

pub txn_ordered : (file : List ℕ) (log : TxnFile) → txn_of file ≡ Ok log → IsOrdered log
unfolding txn_of
txn_ordered file log e = log_ordered (drop 39 file) log (payload_was kinds.Log log_of file log e)
