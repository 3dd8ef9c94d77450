-- What a file stands for never tells want of memory.
use Rattle.std.proofs.Common.{◌≡◌, ◌≢◌, ℕ, List, [], length, Err}
use Rattle.flat_tables.specs.declared.header.Kind.TheVariants as kinds
use Rattle.flat_tables.specs.declared.fault.FileFault.{FileFault}
use Rattle.flat_tables.specs.declared.fault.FileFault.TheVariants.{NoMemory}
use Rattle.flat_tables.specs.Places.{TableIn, VectorIn, root_of, vector_of, table_of}
use Rattle.flat_tables.specs.Rows.{flat, required, each, in_order}
use Rattle.file_fields.specs.Fields.{id_key, index_key, id8_of, id12_of, index_of}
use Rattle.file_fields.proofs.NoMemory.{Told, bind_told, flat_told, required_told, optional_rows_told, in_order_told, rows_told, id8_told, id12_told, index_told, file_told, told_fault}
use Rattle.txn_file.specs.Logs.{array_key, id_at, ids_in, ids_of, index_at, indices_in, array_of, array_at, arrays_in, arrays_of, lists_of, log_of, txn_of}

-- ---- lists

ids_in_told : (slot : ℕ) (v : VectorIn) → Told (ids_in slot v)
ids_in_told slot v = rows_told (in_order id_key slot (each (id_at v))) [] v.count (λ before. in_order_told id_key slot (each (id_at v)) before tt)

ids_told : (t : TableIn) (slot : ℕ) → Told (ids_of t slot)
unfolding ids_of
ids_told t slot = optional_rows_told (vector_of t slot 8) (ids_in slot) (ids_in_told slot)

index_at_told : (v : VectorIn) (at : ℕ) → Told (index_at v at)
unfolding index_at
index_at_told v at = bind_told (flat (table_of v at)) (λ t. index_of t 0) (flat_told (table_of v at)) (λ t. index_told t 0)

indices_told : (v : VectorIn) → Told (indices_in v)
indices_told v = rows_told (in_order index_key 1 (each (index_at v))) [] v.count (λ before. in_order_told index_key 1 (each (index_at v)) before (index_at_told v (length before)))

array_told : (t : TableIn) → Told (array_of t)
unfolding array_of
array_told t =
    bind_told (id8_of t 0) _ (id8_told t 0) (λ node.
    bind_told (required 1 (vector_of t 1 4)) _ (required_told 1 (vector_of t 1 4)) (λ v.
    bind_told (indices_in v) _ (indices_told v) (λ chunks. tt)))

array_at_told : (v : VectorIn) (at : ℕ) → Told (array_at v at)
unfolding array_at
array_at_told v at = bind_told (flat (table_of v at)) array_of (flat_told (table_of v at)) array_told

arrays_in_told : (v : VectorIn) → Told (arrays_in v)
arrays_in_told v = rows_told (in_order array_key 7 (each (array_at v))) [] v.count (λ before. in_order_told array_key 7 (each (array_at v)) before (array_at_told v (length before)))

arrays_told : (t : TableIn) → Told (arrays_of t)
unfolding arrays_of
arrays_told t = optional_rows_told (vector_of t 7 4) arrays_in arrays_in_told

lists_told : (t : TableIn) → Told (lists_of t)
unfolding lists_of
lists_told t =
    bind_told (ids_of t 1) _ (ids_told t 1) (λ new_groups.
    bind_told (ids_of t 2) _ (ids_told t 2) (λ new_arrays.
    bind_told (ids_of t 3) _ (ids_told t 3) (λ deleted_groups.
    bind_told (ids_of t 4) _ (ids_told t 4) (λ deleted_arrays.
    bind_told (ids_of t 5) _ (ids_told t 5) (λ updated_arrays.
    bind_told (ids_of t 6) _ (ids_told t 6) (λ updated_groups.
    bind_told (arrays_of t) _ (arrays_told t) (λ updated_chunks. tt)))))))

-- ---- the file

payload_told : (payload : List ℕ) → Told (log_of payload)
unfolding log_of
payload_told payload =
    bind_told (flat (root_of payload)) _ (flat_told (root_of payload)) (λ t.
    bind_told (id12_of t 0) _ (id12_told t 0) (λ id.
    bind_told (lists_of t) _ (lists_told t) (λ lists. tt)))

txn_told : (file : List ℕ) → Told (txn_of file)
unfolding txn_of
txn_told file = file_told kinds.Log log_of file payload_told

-- the fault of a file is no want of memory
pub never_memory : (file : List ℕ) (fault : FileFault) → txn_of file ≡ Err fault → fault ≢ NoMemory
never_memory file fault is = told_fault (txn_of file) fault (txn_told file) is
