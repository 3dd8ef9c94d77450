-- A manifest that was written is read again.
use Rattle.std.proofs.Common.{◌≡◌, ℕ, ◌+◌, ◌*◌, ◌^◌, ◌≤◌, ◌<◌, lit<, lit≤, List, [], ◌∷◌, ◌++◌, length, None, Some, Ok, refl, ap, arith}
use Rattle.std.specs.List.{AllByRecursion}
use Rattle.flat_tables.specs.declared.header.Kind.TheVariants as kinds
use Rattle.flat_tables.specs.Places.{TableIn, VectorIn, vector_of}
use Rattle.flat_tables.specs.Rows.{each, in_order, Ascends}
use Rattle.flat_tables.specs.Layout.{absent, payload}
use Rattle.flat_tables.proofs.Files.{file_again, length_file}
use Rattle.flat_tables.proofs.Loop.{ReadsAll, ordered_reads, rows_again, at_most_ok}
use Rattle.flat_tables.proofs.Again.{IsField, IsTable, HasParts, SlotRead, SlotsRead, EachBehind, eight, absent_field, inline_field, offset_field, scalar_field, root_again, vector_again, vector_absent, scalar_again, scalar_absent, struct_again, struct_absent, text_absent, tables_again, tables_behind}
use Rattle.file_fields.proofs.Again.{id8_again, id12_again, index_again}
use Rattle.manifest_file.specs.declared.manifest.Place.{Place}
use Rattle.manifest_file.specs.declared.manifest.Place.TheVariants.{Inline, Object}
use Rattle.manifest_file.specs.declared.manifest.ChunkRef.{ChunkRef}
use Rattle.manifest_file.specs.declared.manifest.ArrayRefs.{ArrayRefs}
use Rattle.manifest_file.specs.declared.manifest.ManifestFile.{ManifestFile}
use Rattle.manifest_file.specs.Manifests.{refs_limit, refs_of, ref_key, array_key, place_in, ref_of, ref_at, refs_in, array_of, array_at, array_behind, arrays_in, payload_of, manifest_of}
use Rattle.manifest_file.specs.Layout.{place_parts, ref_parts, refs_part, array_parts, arrays_part, manifest_parts, manifest_block, file_bytes, RefsAscend, CanWrite, IsPlace, IsRef, IsArray, IsManifest}
use Rattle.manifest_file.proofs.Behind.{refs_more, refs_before}

-- ---- where a chunk is

three_absent : AllByRecursion IsField (absent ∷ absent ∷ absent ∷ [])
three_absent = (absent_field, (absent_field, (absent_field, tt)))

place_fields : (place : Place) → IsPlace place → AllByRecursion IsField (place_parts place)
place_fields (Inline bytes) is = (offset_field _, (absent_field, (absent_field, (absent_field, three_absent))))
place_fields (Object id offset size) is = (absent_field, (scalar_field 8 offset (lit≤ tt), (scalar_field 8 size (lit≤ tt), (inline_field 1 id.0 (lit≤ tt) (omega (arith, is.0.0)), three_absent))))

place_again : (place : Place) (t : TableIn) (at : ℕ) → IsPlace place → length t.bytes < 2 ^ 32 → SlotsRead t 1 (place_parts place) → place_in t at ≡ Ok place
unfolding place_in
place_again (Inline bytes) t at is small slots =
    let one : length bytes ≡ length bytes * 1 = omega arith in
    let v = vector_again t 1 1 1 (length bytes) bytes (lit< tt) one small slots.0 in
    rw (v.is, scalar_absent t 2 8 slots.1.0, scalar_absent t 3 8 slots.1.1.0, struct_absent t 4 12 slots.1.1.1.0, text_absent t 5 slots.1.1.1.1.0, v.all_is) refl
place_again (Object id offset size) t at is small slots =
    rw (vector_absent t 1 1 slots.0, scalar_again t 2 8 offset (eight offset is.1) slots.1.0, scalar_again t 3 8 size (eight size is.2) slots.1.1.0, struct_again t 4 1 12 id.0 is.0.0 slots.1.1.1.0, text_absent t 5 slots.1.1.1.1.0) refl

place_few : (place : Place) → length (place_parts place) ≤ 63
place_few (Inline bytes) = lit≤ tt
place_few (Object id offset size) = lit≤ tt

-- ---- a chunk

ref_fields : (front : List ChunkRef) (chunk : ChunkRef) → IsRef chunk → IsTable (ref_parts chunk)
ref_fields front chunk is = record { fields = (offset_field _, place_fields chunk.place is.place); few = omega (arith, place_few chunk.place) }

ref_again : (front : List ChunkRef) (chunk : ChunkRef) (t : TableIn) → IsRef chunk → HasParts t (ref_parts chunk) → ref_of (length front) t ≡ Ok chunk
unfolding ref_of
ref_again front chunk t is parts =
    rw (index_again t 0 chunk.index is.index parts.small parts.slots.0, place_again chunk.place t (length front) is.place parts.small parts.slots.1) refl

each_ref : (front refs : List ChunkRef) → AllByRecursion IsRef refs → EachBehind (λ before. IsRef) front refs
each_ref front [] is = tt
each_ref front (chunk ∷ refs) is = (is.0, each_ref (front ++ chunk ∷ []) refs is.1)

refs_again : (t : TableIn) (refs : List ChunkRef) → length t.bytes < 2 ^ 32 → AllByRecursion IsRef refs → Ascends ref_key None refs → SlotRead t 1 (refs_part refs) → (v : VectorIn) × (vector_of t 1 4 ≡ Ok (Some v)) × (v.count ≡ length refs) × (refs_in v ≡ Ok refs)
unfolding ref_at
refs_again t refs small is ascend slot =
    let v = tables_again t 1 ref_parts refs small slot in
    let reads : ReadsAll (each (ref_at v.vector)) [] refs = tables_behind ref_parts (λ before. ref_of (length before)) (λ before. IsRef) ref_fields ref_again v.vector [] refs 0 v.end refl v.small (each_ref [] refs is) v.tables in
    (v.vector, v.is, v.count, rows_again (in_order ref_key 1 (each (ref_at v.vector))) refs v.vector.count v.count (ordered_reads ref_key 1 (each (ref_at v.vector)) [] refs None refl reads ascend))

-- ---- an array behind others

pub record CanArray (front : List ArrayRefs) (array : ArrayRefs) : Type 0 where
  pub is : IsArray array
  pub ascend : RefsAscend array
  pub few : refs_of front + length array.refs ≤ refs_limit

array_fields : (front : List ArrayRefs) (array : ArrayRefs) → CanArray front array → IsTable (array_parts array)
array_fields front array can = record { fields = (inline_field 1 array.node.0 (lit≤ tt) (omega (arith, can.is.node.0)), (offset_field _, tt)); few = lit≤ tt }

array_again : (front : List ArrayRefs) (array : ArrayRefs) (t : TableIn) → CanArray front array → HasParts t (array_parts array) → array_of (refs_of front) t ≡ Ok array
unfolding array_of
array_again front array t can parts =
    let node = id8_again t 0 array.node can.is.node.0 parts.slots.0 in
    let refs = refs_again t array.refs parts.small can.is.refs can.ascend parts.slots.1.0 in
    let few = at_most_ok refs_limit (refs_of front + refs.0.count) (refs_of front + length array.refs) (ap (λ (n : ℕ). refs_of front + n) refs.2) can.few in
    rw (node, refs.1, few, refs.3) refl

each_array : (front arrays : List ArrayRefs) → AllByRecursion IsArray arrays → AllByRecursion RefsAscend arrays → refs_of front + refs_of arrays ≤ refs_limit → EachBehind CanArray front arrays
each_array front [] is ascend few = tt
each_array front (array ∷ arrays) is ascend few =
    let more = refs_more front array in
    let before = refs_before array arrays in
    (record { is = is.0; ascend = ascend.0; few = omega arith }, each_array (front ++ array ∷ []) arrays is.1 ascend.1 (omega arith))

-- ---- the manifest

manifest_fields : (manifest : ManifestFile) → IsManifest manifest → IsTable (manifest_parts manifest)
manifest_fields manifest is = record { fields = (inline_field 1 manifest.id.0 (lit≤ tt) (omega (arith, is.id.0)), (offset_field _, tt)); few = lit≤ tt }

arrays_again : (t : TableIn) (arrays : List ArrayRefs) → length t.bytes < 2 ^ 32 → EachBehind CanArray [] arrays → Ascends array_key None arrays → SlotRead t 1 (arrays_part arrays) → (v : VectorIn) × (vector_of t 1 4 ≡ Ok (Some v)) × (arrays_in v ≡ Ok arrays)
unfolding array_at
arrays_again t arrays small can ascend slot =
    let v = tables_again t 1 array_parts arrays small slot in
    let reads : ReadsAll (array_behind v.vector) [] arrays = tables_behind array_parts (λ before. array_of (refs_of before)) CanArray array_fields array_again v.vector [] arrays 0 v.end refl v.small can v.tables in
    (v.vector, v.is, rows_again (in_order array_key 1 (array_behind v.vector)) arrays v.vector.count v.count (ordered_reads array_key 1 (array_behind v.vector) [] arrays None refl reads ascend))

payload_again : (manifest : ManifestFile) → IsManifest manifest → CanWrite manifest → length (payload (manifest_block manifest)) < 2 ^ 32 → payload_of (payload (manifest_block manifest)) ≡ Ok manifest
unfolding payload_of manifest_block
payload_again manifest is can small =
    let root = root_again (manifest_parts manifest) (manifest_fields manifest is) small in
    let t = root.table in
    let p = root.parts in
    let id = id12_again t 0 manifest.id is.id.0 p.slots.0 in
    let each = each_array [] manifest.arrays is.arrays can.refs (omega (arith, can.few)) in
    let arrays = arrays_again t manifest.arrays p.small each can.arrays p.slots.1.0 in
    rw (root.is, id, arrays.1, arrays.2) refl

pub manifest_again : (manifest : ManifestFile) → IsManifest manifest → CanWrite manifest → length (payload (manifest_block manifest)) ≤ 268435417 → manifest_of (file_bytes manifest) ≡ Ok manifest
unfolding manifest_of file_bytes
manifest_again manifest is can fits = file_again kinds.Manifest payload_of (payload (manifest_block manifest)) manifest fits (payload_again manifest is can (omega arith))

-- a file that keeps to the limit
pub written_again : (manifest : ManifestFile) → IsManifest manifest → CanWrite manifest → length (file_bytes manifest) ≤ 268435456 → manifest_of (file_bytes manifest) ≡ Ok manifest
unfolding file_bytes
written_again manifest is can fits = manifest_again manifest is can (omega (arith, length_file kinds.Manifest (payload (manifest_block manifest))))
