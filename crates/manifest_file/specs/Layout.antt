-- The one file of a manifest, and what can be written.
use Rattle.std.specs.Prelude.{◌<◌, ◌≤◌, ◌^◌, ℕ, List, [], ◌∷◌, ◌++◌, map, None}
use Rattle.std.specs.List.{AllByRecursion}
use Rattle.flat_tables.specs.declared.header.Kind.TheVariants as kinds
use Rattle.flat_tables.specs.Header.{header}
use Rattle.flat_tables.specs.Rows.{Ascends}
use Rattle.flat_tables.specs.Layout.{Part, Block, absent, scalar, offset_to}
use Rattle.flat_tables.specs.Layout.{tables_block, table_block, payload}
use Rattle.ice_base.specs.Lists.{IsBytes}
use Rattle.ice_ids.specs.Text.{IsId8, IsId12}
use Rattle.file_fields.specs.Fields.{id8_part, id12_part, index_part, bytes_part, IsIndex}
use Rattle.manifest_file.specs.declared.manifest.Place.{Place}
use Rattle.manifest_file.specs.declared.manifest.Place.TheVariants.{Inline, Object}
use Rattle.manifest_file.specs.declared.manifest.ChunkRef.{ChunkRef}
use Rattle.manifest_file.specs.declared.manifest.ArrayRefs.{ArrayRefs}
use Rattle.manifest_file.specs.declared.manifest.ManifestFile.{ManifestFile}
use Rattle.manifest_file.specs.Manifests.{refs_limit, refs_of, ref_key, array_key}

-- table ChunkRef: the slots behind the index; the last three are never written
abbrev pub place_parts : Place → List Part
place_parts (Inline bytes) =
    bytes_part bytes ∷ absent ∷ absent ∷ absent ∷ absent ∷ absent ∷ absent ∷ []
place_parts (Object id offset size) =
    absent ∷ scalar 8 offset ∷ scalar 8 size ∷ id12_part id ∷ absent ∷ absent ∷ absent ∷ []

abbrev pub ref_parts : ChunkRef → List Part
ref_parts chunk = index_part chunk.index ∷ place_parts chunk.place

abbrev pub ref_block : ChunkRef → Block
ref_block chunk = table_block (ref_parts chunk)

abbrev pub refs_part : List ChunkRef → Part
refs_part refs = offset_to (tables_block (map ref_block refs))

-- table ArrayManifest
abbrev pub array_parts : ArrayRefs → List Part
array_parts array = id8_part array.node ∷ refs_part array.refs ∷ []

abbrev pub array_block : ArrayRefs → Block
array_block array = table_block (array_parts array)

abbrev pub arrays_part : List ArrayRefs → Part
arrays_part arrays = offset_to (tables_block (map array_block arrays))

-- table Manifest
abbrev pub manifest_parts : ManifestFile → List Part
manifest_parts manifest = id12_part manifest.id ∷ arrays_part manifest.arrays ∷ []

unfoldable pub manifest_block : ManifestFile → Block
manifest_block manifest = table_block (manifest_parts manifest)

-- the bytes of its file
unfoldable pub file_bytes : ManifestFile → List ℕ
file_bytes manifest = header kinds.Manifest ++ payload (manifest_block manifest)

-- what can be written: arrays strictly ascend, so do the chunks of each, and there
-- are no more chunks than the limit
abbrev pub RefsAscend : ArrayRefs → Type 0
RefsAscend array = Ascends ref_key None array.refs

pub record CanWrite (manifest : ManifestFile) : Type 0 where
  pub arrays : Ascends array_key None manifest.arrays
  pub refs : AllByRecursion RefsAscend manifest.arrays
  pub few : refs_of manifest.arrays ≤ refs_limit

-- what the types say of a manifest: ids are 12 or 8 bytes, numbers have their
-- width, and a chunk's bytes are bytes
abbrev pub IsPlace : Place → Type 0
IsPlace (Inline bytes) = IsBytes bytes
IsPlace (Object id offset size) = IsId12 id × (offset < 2 ^ 64) × (size < 2 ^ 64)

pub record IsRef (chunk : ChunkRef) : Type 0 where
  pub index : IsIndex chunk.index
  pub place : IsPlace chunk.place

pub record IsArray (array : ArrayRefs) : Type 0 where
  pub node : IsId8 array.node
  pub refs : AllByRecursion IsRef array.refs

pub record IsManifest (manifest : ManifestFile) : Type 0 where
  pub id : IsId12 manifest.id
  pub arrays : AllByRecursion IsArray manifest.arrays
