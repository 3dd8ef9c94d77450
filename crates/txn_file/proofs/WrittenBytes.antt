-- What is written of a log is bytes.
use Rattle.std.proofs.Common.{ℕ, List, length, map, refl}
use Rattle.std.specs.Int.{w32, to_le_bytes}
use Rattle.std.specs.List.{flat_map, AllByRecursion}
use Rattle.ice_ids.specs.declared.Id8.{Id8}
use Rattle.ice_ids.specs.Text.{IsId8}
use Rattle.flat_tables.specs.declared.header.Kind.TheVariants as kinds
use Rattle.flat_tables.specs.Header.{header}
use Rattle.flat_tables.specs.Layout.{vector_block, tables_block, payload}
use Rattle.file_fields.specs.Fields.{id_key, IsIndex}
use Rattle.file_fields.proofs.Bytes.{AreBytes, bytes_both, bytes_tested, bytes_pass, number_bytes}
use Rattle.file_fields.proofs.Blocks.{OfBytes, HasBytes, inline_has, offset_has, vector_of_bytes, each_bytes, tables_of_bytes, table_of_bytes, payload_of_bytes}
use Rattle.zarr_tree.specs.declared.lists.ArrayChunks.{ArrayChunks}
use Rattle.txn_file.specs.declared.log.TxnFile.{TxnFile}
use Rattle.txn_file.specs.Layout.{ids_part, index_parts, index_block, indices_part, array_parts, array_block, arrays_part, log_parts, log_block, log_file, AreIds, IsArray, IsLog}
use Rattle.txn_file.specs.Laws.{BytesLaw}

-- ---- ids and indices

ids_have : (ids : List Id8) → AreIds ids → HasBytes (ids_part ids)
ids_have ids are =
    let bytes = flat_map id_key ids in
    offset_has (vector_block 1 (length ids) bytes) (vector_of_bytes 1 (length ids) bytes (each_bytes IsId8 id_key (λ id is. is.1) ids are))

index_of_bytes : (index : List ℕ) → IsIndex index → OfBytes (index_block index)
index_of_bytes index is =
    let bytes = flat_map (to_le_bytes w32) index in
    let numbers = vector_of_bytes 4 (length index) bytes (each_bytes _ (to_le_bytes w32) (λ n small. number_bytes w32 n) index is) in
    table_of_bytes (index_parts index) (offset_has (vector_block 4 (length index) bytes) numbers, tt)

indices_have : (indices : List (List ℕ)) → AllByRecursion IsIndex indices → HasBytes (indices_part indices)
indices_have indices are = offset_has (tables_block (map index_block indices)) (tables_of_bytes IsIndex index_block index_of_bytes indices are)

-- ---- arrays

array_of_bytes : (array : ArrayChunks) → IsArray array → OfBytes (array_block array)
array_of_bytes array is = table_of_bytes (array_parts array) (inline_has 1 array.node.0 is.node.1, (indices_have array.chunks is.chunks, tt))

arrays_have : (arrays : List ArrayChunks) → AllByRecursion IsArray arrays → HasBytes (arrays_part arrays)
arrays_have arrays are = offset_has (tables_block (map array_block arrays)) (tables_of_bytes IsArray array_block array_of_bytes arrays are)

-- ---- the log

log_of_bytes : (log : TxnFile) → IsLog log → OfBytes (log_block log)
unfolding log_block
log_of_bytes log is =
    let s = log.lists in
    table_of_bytes (log_parts log)
    (inline_has 1 log.id.0 is.id.1, (ids_have s.new_groups is.new_groups, (ids_have s.new_arrays is.new_arrays, (ids_have s.deleted_groups is.deleted_groups, (ids_have s.deleted_arrays is.deleted_arrays, (ids_have s.updated_arrays is.updated_arrays, (ids_have s.updated_groups is.updated_groups, (arrays_have s.updated_chunks is.updated_chunks, tt))))))))

header_are : AreBytes (header kinds.Log)
unfolding header
header_are = bytes_tested (header kinds.Log) refl

pub written_bytes : BytesLaw
unfolding log_file
written_bytes log is = bytes_pass (log_file log) (bytes_both (header kinds.Log) (payload (log_block log)) header_are (payload_of_bytes (log_block log) (log_of_bytes log is)))
