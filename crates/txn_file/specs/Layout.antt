-- The one file of a transaction log, and what can be written.
use Rattle.std.specs.Prelude.{ℕ, List, [], ◌∷◌, ◌++◌, length, map, None}
use Rattle.std.specs.List.{flat_map, AllByRecursion}
use Rattle.ice_ids.specs.declared.Id8.{Id8}
use Rattle.ice_ids.specs.Text.{IsId8, IsId12}
use Rattle.flat_tables.specs.declared.header.Kind.TheVariants as kinds
use Rattle.flat_tables.specs.Header.{header}
use Rattle.flat_tables.specs.Rows.{Ascends}
use Rattle.flat_tables.specs.Layout.{Part, Block, offset_to, vector_block}
use Rattle.flat_tables.specs.Layout.{tables_block, table_block, payload}
use Rattle.file_fields.specs.Fields.{id_key, index_key, id8_part, id12_part, index_part, IsIndex}
use Rattle.zarr_tree.specs.declared.lists.ArrayChunks.{ArrayChunks}
use Rattle.txn_file.specs.declared.log.TxnFile.{TxnFile}
use Rattle.txn_file.specs.Logs.{array_key}

-- the ids one after another
abbrev pub ids_part : List Id8 → Part
ids_part ids = offset_to (vector_block 1 (length ids) (flat_map id_key ids))

-- table ChunkIndices
abbrev pub index_parts : List ℕ → List Part
index_parts index = index_part index ∷ []

abbrev pub index_block : List ℕ → Block
index_block index = table_block (index_parts index)

abbrev pub indices_part : List (List ℕ) → Part
indices_part indices = offset_to (tables_block (map index_block indices))

-- table ArrayUpdatedChunks
abbrev pub array_parts : ArrayChunks → List Part
array_parts array = id8_part array.node ∷ indices_part array.chunks ∷ []

abbrev pub array_block : ArrayChunks → Block
array_block array = table_block (array_parts array)

abbrev pub arrays_part : List ArrayChunks → Part
arrays_part arrays = offset_to (tables_block (map array_block arrays))

-- table TransactionLog
abbrev pub log_parts : TxnFile → List Part
log_parts log =
    id12_part log.id ∷ ids_part log.lists.new_groups ∷ ids_part log.lists.new_arrays
    ∷ ids_part log.lists.deleted_groups ∷ ids_part log.lists.deleted_arrays
    ∷ ids_part log.lists.updated_arrays ∷ ids_part log.lists.updated_groups
    ∷ arrays_part log.lists.updated_chunks ∷ []

unfoldable pub log_block : TxnFile → Block
log_block log = table_block (log_parts log)

-- the bytes of its file
unfoldable pub log_file : TxnFile → List ℕ
log_file log = header kinds.Log ++ payload (log_block log)

-- what can be written: each list strictly ascends
abbrev pub IdsAscend : List Id8 → Type 0
IdsAscend ids = Ascends id_key None ids

abbrev pub ChunksAscend : ArrayChunks → Type 0
ChunksAscend array = Ascends index_key None array.chunks

pub record IsOrdered (log : TxnFile) : Type 0 where
  pub new_groups : IdsAscend log.lists.new_groups
  pub new_arrays : IdsAscend log.lists.new_arrays
  pub deleted_groups : IdsAscend log.lists.deleted_groups
  pub deleted_arrays : IdsAscend log.lists.deleted_arrays
  pub updated_arrays : IdsAscend log.lists.updated_arrays
  pub updated_groups : IdsAscend log.lists.updated_groups
  pub arrays : Ascends array_key None log.lists.updated_chunks
  pub chunks : AllByRecursion ChunksAscend log.lists.updated_chunks

-- what the types say of a log: ids are 12 or 8 bytes, and indices have numbers of 32 bits
abbrev pub AreIds : List Id8 → Type 0
AreIds ids = AllByRecursion IsId8 ids

pub record IsArray (array : ArrayChunks) : Type 0 where
  pub node : IsId8 array.node
  pub chunks : AllByRecursion IsIndex array.chunks

pub record IsLog (log : TxnFile) : Type 0 where
  pub id : IsId12 log.id
  pub new_groups : AreIds log.lists.new_groups
  pub new_arrays : AreIds log.lists.new_arrays
  pub deleted_groups : AreIds log.lists.deleted_groups
  pub deleted_arrays : AreIds log.lists.deleted_arrays
  pub updated_arrays : AreIds log.lists.updated_arrays
  pub updated_groups : AreIds log.lists.updated_groups
  pub updated_chunks : AllByRecursion IsArray log.lists.updated_chunks
