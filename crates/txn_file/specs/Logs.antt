-- What the payload of a transaction log says. (Icechunk specification version 1, "Transaction log";
-- which slot has what, and that lists stand in order, is own.)
use Rattle.std.specs.Prelude.{ℕ, List, [], Result, Ok}
use Rattle.ice_ids.specs.declared.Id8.{Id8}
use Rattle.flat_tables.specs.declared.header.Kind.TheVariants as kinds
use Rattle.flat_tables.specs.declared.fault.FileFault.{FileFault}
use Rattle.flat_tables.specs.Step.{◌>>=◌}
use Rattle.flat_tables.specs.Places.{TableIn, VectorIn, root_of, vector_of, item_of, table_of}
use Rattle.flat_tables.specs.Rows.{flat, required, optional_rows, rows, each, in_order}
use Rattle.flat_tables.specs.File.{file_of}
use Rattle.file_fields.specs.Fields.{id_key, index_key, id8_of, id12_of, index_of}
use Rattle.zarr_tree.specs.declared.lists.ArrayChunks.{ArrayChunks}
use Rattle.zarr_tree.specs.declared.lists.Touched.{Touched}
use Rattle.txn_file.specs.declared.log.TxnFile.{TxnFile}

-- arrays stand in the order of their ids
abbrev pub array_key : ArrayChunks → List ℕ
array_key array = id_key array.node

-- a list of node ids, which may be absent
abbrev pub id_at : VectorIn → ℕ → Result Id8 FileFault
id_at v i = Ok (record { 0 = item_of v i })

abbrev pub ids_in : ℕ → VectorIn → Result (List Id8) FileFault
ids_in slot v = rows (in_order id_key slot (each (id_at v))) [] v.count

unfoldable pub ids_of : TableIn → ℕ → Result (List Id8) FileFault
ids_of t slot = optional_rows (vector_of t slot 8) (ids_in slot)

-- table ChunkIndices: one index
unfoldable pub index_at : VectorIn → ℕ → Result (List ℕ) FileFault
index_at v i = flat (table_of v i) >>= λ t. index_of t 0

abbrev pub indices_in : VectorIn → Result (List (List ℕ)) FileFault
indices_in v = rows (in_order index_key 1 (each (index_at v))) [] v.count

-- table ArrayUpdatedChunks: an array and its chunks
unfoldable pub array_of : TableIn → Result ArrayChunks FileFault
array_of t = do
  node ← id8_of t 0
  v ← required 1 (vector_of t 1 4)
  chunks ← indices_in v
  Ok (record { node = node; chunks = chunks })

unfoldable pub array_at : VectorIn → ℕ → Result ArrayChunks FileFault
array_at v i = flat (table_of v i) >>= array_of

abbrev pub arrays_in : VectorIn → Result (List ArrayChunks) FileFault
arrays_in v = rows (in_order array_key 7 (each (array_at v))) [] v.count

unfoldable pub arrays_of : TableIn → Result (List ArrayChunks) FileFault
arrays_of t = optional_rows (vector_of t 7 4) arrays_in

-- table TransactionLog: its lists, and the log that the payload says, or its first fault
unfoldable pub lists_of : TableIn → Result Touched FileFault
lists_of t = do
  new_groups ← ids_of t 1
  new_arrays ← ids_of t 2
  deleted_groups ← ids_of t 3
  deleted_arrays ← ids_of t 4
  updated_arrays ← ids_of t 5
  updated_groups ← ids_of t 6
  updated_chunks ← arrays_of t
  Ok (record {
    new_groups = new_groups;
    new_arrays = new_arrays;
    deleted_groups = deleted_groups;
    deleted_arrays = deleted_arrays;
    updated_arrays = updated_arrays;
    updated_groups = updated_groups;
    updated_chunks = updated_chunks;
  })

unfoldable pub log_of : List ℕ → Result TxnFile FileFault
log_of payload = do
  t ← flat (root_of payload)
  id ← id12_of t 0
  lists ← lists_of t
  Ok (record { id = id; lists = lists })

-- the log that a file stands for, or the file's first fault
unfoldable pub txn_of : List ℕ → Result TxnFile FileFault
txn_of file = file_of kinds.Log log_of file
