-- The parts of what was read, as they are read once more.
use Rattle.std.proofs.Common.{◌≡◌, ℕ, ◌<◌, List, [], length, Option, None, Some, Result, Ok, Err, refl, sym, subst, ap, ◌∙◌, arith}
use Rattle.std.specs.Prelude.{IsOk, slice_get}
use Rattle.ice_ids.specs.declared.Id8.{Id8}
use Rattle.flat_tables.specs.declared.header.Kind.TheVariants as kinds
use Rattle.flat_tables.specs.declared.fault.FlatFault.{FlatFault}
use Rattle.flat_tables.specs.declared.fault.FileFault.{FileFault}
use Rattle.flat_tables.specs.Places.{TableIn, VectorIn, root_of, vector_of, item_of, table_of}
use Rattle.flat_tables.specs.Rows.{flat, required, optional_rows, each, Ascends}
use Rattle.flat_tables.proofs.Loop.{bind_ok}
use Rattle.file_fields.specs.Fields.{payload_in, id_key, index_key, id8_of, id12_of}
use Rattle.file_fields.proofs.Places.{flat_was, required_was}
use Rattle.file_fields.proofs.Payloads.{payload_read}
use Rattle.file_fields.proofs.WasRead.{value_is}
use Rattle.zarr_tree.specs.declared.lists.ArrayChunks.{ArrayChunks}
use Rattle.zarr_tree.specs.declared.lists.Touched.{Touched}
use Rattle.txn_file.specs.declared.log.TxnFile.{TxnFile}
use Rattle.txn_file.specs.Logs.{array_key, id_at, ids_in, ids_of, index_at, indices_in, array_of, array_at, arrays_in, arrays_of, lists_of, log_of, txn_of}
use Rattle.held_manifest.specs.Views.{rows_or_none}
use Rattle.held_manifest.proofs.Checked.{row_at, read_ok, count_ok, ascends_ok, ok_same}
use Rattle.held_log.specs.Files.{RootOf, log_or_empty}

-- ---- a list that may be absent, and was read

pub found_ok : {A : Type 0} (r : Result (Option VectorIn) FlatFault) (read : VectorIn → Result (List A) FileFault) → IsOk (optional_rows r read) → IsOk r
found_ok (Ok found) read ok = refl
found_ok (Err fault) read ok = absurd cc

pub none_was : {A : Type 0} (r : Result (Option VectorIn) FlatFault) (read : VectorIn → Result (List A) FileFault) → r ≡ Ok None → [] ≡ rows_or_none (optional_rows r read)
none_was r read is = ap (λ q. rows_or_none (optional_rows q read)) (sym is)

pub some_was : {A : Type 0} (r : Result (Option VectorIn) FlatFault) (read : VectorIn → Result (List A) FileFault) (v : VectorIn) → r ≡ Ok (Some v) → optional_rows r read ≡ read v
some_was r read v is = ap (λ q. optional_rows q read) is

-- ---- id number i

pub record IdAt (slot : ℕ) (v : VectorIn) (i : ℕ) : Type 0 where
  pub below : i < v.count
  pub at : slice_get (rows_or_none (ids_in slot v)) i ≡ Some (record { 0 = item_of v i })

pub id_here : (slot : ℕ) (v : VectorIn) (i : ℕ) → IsOk (ids_in slot v) → i < length (rows_or_none (ids_in slot v)) → IdAt slot v i
id_here slot v i ok lt =
    let r = row_at id_key slot (each (id_at v)) v.count (rows_or_none (ids_in slot v)) i (read_ok (ids_in slot v) ok) lt in
    let len = count_ok id_key slot (each (id_at v)) v.count ok in
    let is : id_at v i ≡ Ok r.row = ap (id_at v) (sym r.len) ∙ r.is in
    record { below = omega (arith, len); at = r.at ∙ ap (λ (x : Id8). Some x) (sym (value_is (record { 0 = item_of v i }) r.row is)) }

-- ---- index number i

pub record IndexAt (v : VectorIn) (i : ℕ) : Type 0 where
  pub below : i < v.count
  pub row : List ℕ
  pub is : index_at v i ≡ Ok row
  pub at : slice_get (rows_or_none (indices_in v)) i ≡ Some row

pub index_here : (v : VectorIn) (i : ℕ) → IsOk (indices_in v) → i < length (rows_or_none (indices_in v)) → IndexAt v i
index_here v i ok lt =
    let r = row_at index_key 1 (each (index_at v)) v.count (rows_or_none (indices_in v)) i (read_ok (indices_in v) ok) lt in
    let len = count_ok index_key 1 (each (index_at v)) v.count ok in
    record { below = omega (arith, len); row = r.row; is = ap (index_at v) (sym r.len) ∙ r.is; at = r.at }

-- ---- array number i

pub record ArrayParts (t : TableIn) (array : ArrayChunks) : Type 0 where
  pub node_is : id8_of t 0 ≡ Ok array.node
  pub vector : VectorIn
  pub vector_is : vector_of t 1 4 ≡ Ok (Some vector)
  pub chunks_are : indices_in vector ≡ Ok array.chunks

array_parts : (t : TableIn) (array : ArrayChunks) → array_of t ≡ Ok array → ArrayParts t array
unfolding array_of
array_parts t array e =
    let node = bind_ok (id8_of t 0) _ array e in
    let v = bind_ok (required 1 (vector_of t 1 4)) _ array node.2 in
    let chunks = bind_ok (indices_in v.0) _ array v.2 in
    subst (ArrayParts t) (value_is _ array chunks.2) (record {
      node_is = node.1;
      vector = v.0;
      vector_is = required_was 1 (vector_of t 1 4) v.0 v.1;
      chunks_are = chunks.1;
    })

table_parts : (v : VectorIn) (i : ℕ) (array : ArrayChunks) → array_at v i ≡ Ok array → (t : TableIn) × (table_of v i ≡ Ok t) × ArrayParts t array
unfolding array_at
table_parts v i array e =
    let t = bind_ok (flat (table_of v i)) array_of array e in
    (t.0, flat_was (table_of v i) t.0 t.1, array_parts t.0 array t.2)

pub record ArrayAt (v : VectorIn) (i : ℕ) : Type 0 where
  pub below : i < v.count
  pub table : TableIn
  pub table_is : table_of v i ≡ Ok table
  pub row : ArrayChunks
  pub parts : ArrayParts table row
  pub at : slice_get (rows_or_none (arrays_in v)) i ≡ Some row

pub array_here : (v : VectorIn) (i : ℕ) → IsOk (arrays_in v) → i < length (rows_or_none (arrays_in v)) → ArrayAt v i
array_here v i ok lt =
    let r = row_at array_key 7 (each (array_at v)) v.count (rows_or_none (arrays_in v)) i (read_ok (arrays_in v) ok) lt in
    let len = count_ok array_key 7 (each (array_at v)) v.count ok in
    let t = table_parts v i r.row (ap (array_at v) (sym r.len) ∙ r.is) in
    record { below = omega (arith, len); table = t.0; table_is = t.1; row = r.row; parts = t.2; at = r.at }

-- ---- the lists

pub record ListsParts (t : TableIn) (s : Touched) : Type 0 where
  pub new_groups : ids_of t 1 ≡ Ok s.new_groups
  pub new_arrays : ids_of t 2 ≡ Ok s.new_arrays
  pub deleted_groups : ids_of t 3 ≡ Ok s.deleted_groups
  pub deleted_arrays : ids_of t 4 ≡ Ok s.deleted_arrays
  pub updated_arrays : ids_of t 5 ≡ Ok s.updated_arrays
  pub updated_groups : ids_of t 6 ≡ Ok s.updated_groups
  pub updated_chunks : arrays_of t ≡ Ok s.updated_chunks

lists_parts : (t : TableIn) (s : Touched) → lists_of t ≡ Ok s → ListsParts t s
unfolding lists_of
lists_parts t s e =
    let a1 = bind_ok (ids_of t 1) _ s e in
    let a2 = bind_ok (ids_of t 2) _ s a1.2 in
    let a3 = bind_ok (ids_of t 3) _ s a2.2 in
    let a4 = bind_ok (ids_of t 4) _ s a3.2 in
    let a5 = bind_ok (ids_of t 5) _ s a4.2 in
    let a6 = bind_ok (ids_of t 6) _ s a5.2 in
    let a7 = bind_ok (arrays_of t) _ s a6.2 in
    subst (ListsParts t) (value_is _ s a7.2) (record {
      new_groups = a1.1;
      new_arrays = a2.1;
      deleted_groups = a3.1;
      deleted_arrays = a4.1;
      updated_arrays = a5.1;
      updated_groups = a6.1;
      updated_chunks = a7.1;
    })

pub record SomeLists (t : TableIn) : Type 0 where
  pub lists : Touched
  pub is : lists_of t ≡ Ok lists
  pub parts : ListsParts t lists

pub some_lists : (t : TableIn) → IsOk (lists_of t) → SomeLists t
some_lists t ok = from (lists_of t) refl ok
  where
    from : (r : Result Touched FileFault) → lists_of t ≡ r → IsOk r → SomeLists t
    from (Ok s) e ok = record { lists = s; is = e; parts = lists_parts t s e }
    from (Err fault) e ok = absurd cc

-- ---- the log

pub record LogParts (file : List ℕ) (log : TxnFile) : Type 0 where
  pub payload : List ℕ
  pub payload_is : payload_in kinds.Log file ≡ Ok payload
  pub table : TableIn
  pub table_is : root_of payload ≡ Ok table
  pub id_is : id12_of table 0 ≡ Ok log.id
  pub lists_are : lists_of table ≡ Ok log.lists

payload_parts : (file payload : List ℕ) (log : TxnFile) → payload_in kinds.Log file ≡ Ok payload → log_of payload ≡ Ok log → LogParts file log
unfolding log_of
payload_parts file payload log is e =
    let t = bind_ok (flat (root_of payload)) _ log e in
    let id = bind_ok (id12_of t.0 0) _ log t.2 in
    let lists = bind_ok (lists_of t.0) _ log id.2 in
    subst (LogParts file) (value_is _ log lists.2) (record {
      payload = payload;
      payload_is = is;
      table = t.0;
      table_is = flat_was (root_of payload) t.0 t.1;
      id_is = id.1;
      lists_are = lists.1;
    })

pub log_ok : (r : Result TxnFile FileFault) → IsOk r → r ≡ Ok (log_or_empty r)
log_ok (Ok log) ok = refl
log_ok (Err fault) ok = absurd cc

pub log_parts : (file : List ℕ) → IsOk (txn_of file) → LogParts file (log_or_empty (txn_of file))
unfolding txn_of
log_parts file ok =
    let e = sym (payload_read kinds.Log log_of file) ∙ log_ok (txn_of file) ok in
    let p = bind_ok (payload_in kinds.Log file) log_of (log_or_empty (txn_of file)) e in
    payload_parts file p.0 (log_or_empty (txn_of file)) p.1 p.2

-- the root table is the same each time
pub root_same : (file : List ℕ) (table : TableIn) (log : TxnFile) (parts : LogParts file log) → RootOf file table → table ≡ parts.table
root_same file table log parts root =
    let same = ok_same root.0 parts.payload (sym root.1 ∙ parts.payload_is) in
    ok_same table parts.table (sym root.2 ∙ ap root_of same ∙ parts.table_is)

-- ---- rows in order

pub ids_ascend : (slot : ℕ) (v : VectorIn) → IsOk (ids_in slot v) → Ascends id_key None (rows_or_none (ids_in slot v))
ids_ascend slot v ok = ascends_ok id_key slot (each (id_at v)) v.count ok

pub ids_count : (slot : ℕ) (v : VectorIn) → IsOk (ids_in slot v) → length (rows_or_none (ids_in slot v)) ≡ v.count
ids_count slot v ok = count_ok id_key slot (each (id_at v)) v.count ok

pub indices_ascend : (v : VectorIn) → IsOk (indices_in v) → Ascends index_key None (rows_or_none (indices_in v))
indices_ascend v ok = ascends_ok index_key 1 (each (index_at v)) v.count ok

pub indices_count : (v : VectorIn) → IsOk (indices_in v) → length (rows_or_none (indices_in v)) ≡ v.count
indices_count v ok = count_ok index_key 1 (each (index_at v)) v.count ok

pub arrays_ascend : (v : VectorIn) → IsOk (arrays_in v) → Ascends array_key None (rows_or_none (arrays_in v))
arrays_ascend v ok = ascends_ok array_key 7 (each (array_at v)) v.count ok

pub arrays_count : (v : VectorIn) → IsOk (arrays_in v) → length (rows_or_none (arrays_in v)) ≡ v.count
arrays_count v ok = count_ok array_key 7 (each (array_at v)) v.count ok
