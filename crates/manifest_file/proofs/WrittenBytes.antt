-- What is written of a manifest is bytes.
use Rattle.std.proofs.Common.{◌≡◌, ℕ, ◌++◌, true, ltb, ◌<◌, ◌^◌, List, length, map, refl}
use Rattle.std.specs.Int.{w32, to_le_bytes}
use Rattle.std.specs.List.{list_all, flat_map, AllByRecursion}
use Rattle.flat_tables.specs.declared.header.Kind.TheVariants as kinds
use Rattle.flat_tables.specs.Header.{header}
use Rattle.flat_tables.specs.Layout.{vector_block, tables_block, payload}
use Rattle.file_fields.specs.Fields.{index_part, bytes_part, IsIndex}
use Rattle.file_fields.proofs.Bytes.{AreBytes, bytes_both, bytes_tested, bytes_pass, number_bytes}
use Rattle.file_fields.proofs.Blocks.{OfBytes, HasBytes, absent_has, inline_has, scalar_has, offset_has, vector_of_bytes, each_bytes, tables_of_bytes, table_of_bytes, payload_of_bytes}
use Rattle.manifest_file.specs.declared.manifest.Place.{Place}
use Rattle.manifest_file.specs.declared.manifest.Place.TheVariants.{Inline, Object}
use Rattle.manifest_file.specs.declared.manifest.ChunkRef.{ChunkRef}
use Rattle.manifest_file.specs.declared.manifest.ArrayRefs.{ArrayRefs}
use Rattle.manifest_file.specs.declared.manifest.ManifestFile.{ManifestFile}
use Rattle.manifest_file.specs.Layout.{place_parts, ref_parts, ref_block, refs_part, array_parts, array_block, arrays_part, manifest_parts, manifest_block, file_bytes, IsPlace, IsRef, IsArray, IsManifest}

-- ---- chunks

data_has : (bytes : List ℕ) → AreBytes bytes → HasBytes (bytes_part bytes)
data_has bytes are = offset_has (vector_block 1 (length bytes) bytes) (vector_of_bytes 1 (length bytes) bytes are)

place_has : (place : Place) → IsPlace place → AllByRecursion HasBytes (place_parts place)
place_has (Inline bytes) is = (data_has bytes is, (absent_has, (absent_has, (absent_has, (absent_has, (absent_has, (absent_has, tt)))))))
place_has (Object id offset size) is =
    (absent_has, (scalar_has 8 offset, (scalar_has 8 size, (inline_has 1 id.0 is.0.1, (absent_has, (absent_has, (absent_has, tt)))))))

index_has : (index : List ℕ) → IsIndex index → HasBytes (index_part index)
index_has index is =
    let bytes = flat_map (to_le_bytes w32) index in
    offset_has (vector_block 4 (length index) bytes) (vector_of_bytes 4 (length index) bytes (each_bytes (λ n. n < 2 ^ 32) (to_le_bytes w32) (λ n small. number_bytes w32 n) index is))

ref_of_bytes : (chunk : ChunkRef) → IsRef chunk → OfBytes (ref_block chunk)
ref_of_bytes chunk is = table_of_bytes (ref_parts chunk) (index_has chunk.index is.index, place_has chunk.place is.place)

refs_have : (refs : List ChunkRef) → AllByRecursion IsRef refs → HasBytes (refs_part refs)
refs_have refs are = offset_has (tables_block (map ref_block refs)) (tables_of_bytes IsRef ref_block ref_of_bytes refs are)

-- ---- the manifest

array_of_bytes : (array : ArrayRefs) → IsArray array → OfBytes (array_block array)
array_of_bytes array is = table_of_bytes (array_parts array) (inline_has 1 array.node.0 is.node.1, (refs_have array.refs is.refs, tt))

arrays_have : (arrays : List ArrayRefs) → AllByRecursion IsArray arrays → HasBytes (arrays_part arrays)
arrays_have arrays are = offset_has (tables_block (map array_block arrays)) (tables_of_bytes IsArray array_block array_of_bytes arrays are)

manifest_of_bytes : (manifest : ManifestFile) → IsManifest manifest → OfBytes (manifest_block manifest)
unfolding manifest_block
manifest_of_bytes manifest is = table_of_bytes (manifest_parts manifest) (inline_has 1 manifest.id.0 is.id.1, (arrays_have manifest.arrays is.arrays, tt))

header_are : AreBytes (header kinds.Manifest)
unfolding header
header_are = bytes_tested (header kinds.Manifest) refl

pub written_bytes : (manifest : ManifestFile) → IsManifest manifest → list_all (λ n. ltb n 256) (file_bytes manifest) ≡ true
unfolding file_bytes
written_bytes manifest is =
    bytes_pass (header kinds.Manifest ++ payload (manifest_block manifest)) (bytes_both (header kinds.Manifest) (payload (manifest_block manifest)) header_are (payload_of_bytes (manifest_block manifest) (manifest_of_bytes manifest is)))
