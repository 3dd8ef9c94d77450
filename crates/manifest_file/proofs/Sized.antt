-- A manifest that was read from a file of bytes has what its types say.
use Rattle.std.proofs.Common.{◌≡◌, ℕ, ◌+◌, ◌<◌, ◌^◌, true, ltb, List, [], ◌∷◌, ◌++◌, length, map, drop, Option, Some, None, Result, Ok, Err, lit<, refl, sym, subst}
use Rattle.std.specs.Int.{w32, from_le_bytes}
use Rattle.std.specs.List.{AllByRecursion, list_all}
use Rattle.ice_base.specs.Lists.{IsBytes}
use Rattle.flat_tables.specs.declared.header.Kind.TheVariants as kinds
use Rattle.flat_tables.specs.declared.fault.FlatFault.{FlatFault}
use Rattle.flat_tables.specs.declared.fault.FileFault.{FileFault}
use Rattle.flat_tables.specs.Places.{TableIn, VectorIn, root_of, struct_of, scalar_of, text_of, vector_of, items_of, all_of, table_of}
use Rattle.flat_tables.specs.Rows.{flat, required, optional, at_most, in_order}
use Rattle.flat_tables.proofs.Loop.{ReadsAll, bind_ok, rows_read, were_read}
use Rattle.file_fields.specs.Fields.{id8_of, id12_of, index_of, IsIndex}
use Rattle.file_fields.proofs.Bytes.{bytes_tested, bytes_drop, number_32}
use Rattle.file_fields.proofs.Places.{flat_was, required_was, value_was, vector_was, all_bytes, element_bytes, root_bytes, struct_long, struct_bytes, scalar_fits, id8_is, id12_is}
use Rattle.file_fields.proofs.WasRead.{rows_have, items_give, payload_was}
use Rattle.manifest_file.specs.declared.manifest.Place.{Place}
use Rattle.manifest_file.specs.declared.manifest.Place.TheVariants.{Inline, Object}
use Rattle.manifest_file.specs.declared.manifest.ChunkRef.{ChunkRef}
use Rattle.manifest_file.specs.declared.manifest.ArrayRefs.{ArrayRefs}
use Rattle.manifest_file.specs.declared.manifest.ManifestFile.{ManifestFile}
use Rattle.manifest_file.specs.Manifests.{refs_limit, refs_of, ref_key, array_key, place_of, place_in, ref_of, ref_at, refs_in, array_of, array_at, array_behind, arrays_in, payload_of, manifest_of}
use Rattle.manifest_file.specs.Layout.{IsPlace, IsRef, IsArray, IsManifest}

-- ---- where a chunk is

number_is : (r : Result (Option ℕ) FlatFault) (n : ℕ) → ((m : ℕ) → r ≡ Ok (Some m) → m < 2 ^ 64) → optional 0 r ≡ Ok n → n < 2 ^ 64
number_is (Ok None) n fits e = subst (λ (m : ℕ). m < 2 ^ 64) (value_was {A = ℕ} {E = FileFault} 0 n e) (lit< tt)
number_is (Ok (Some m)) n fits e = subst (λ (k : ℕ). k < 2 ^ 64) (value_was {A = ℕ} {E = FileFault} m n e) (fits m refl)
number_is (Err fault) n fits e = absurd cc

scalar_is : (t : TableIn) (k n : ℕ) → IsBytes t.bytes → optional 0 (scalar_of t k 8) ≡ Ok n → n < 2 ^ 64
scalar_is t k n are e = number_is (scalar_of t k 8) n (λ m is. scalar_fits t k m are is) e

found_is : (t : TableIn) (at : ℕ) (location : Option (List ℕ)) (inline : Option VectorIn) (offset size : ℕ) (object : Option (List ℕ)) (place : Place) → IsBytes t.bytes
    → vector_of t 1 1 ≡ Ok inline → offset < 2 ^ 64 → size < 2 ^ 64 → struct_of t 4 12 ≡ Ok object → place_of at location inline offset size object ≡ Ok place → IsPlace place
found_is t at (Some location) inline offset size object place are v o s b e = absurd cc
found_is t at None (Some w) offset size None place are v o s b e =
    subst IsPlace (value_was {A = Place} {E = FileFault} (Inline (all_of w)) place e) (all_bytes w (vector_was t 1 1 w are v).bytes)
found_is t at None None offset size (Some id) place are v o s b e =
    subst IsPlace (value_was {A = Place} {E = FileFault} (Object (record { 0 = id }) offset size) place e) ((struct_long t 4 12 id b, struct_bytes t 4 12 id are b), o, s)
found_is t at None (Some w) offset size (Some id) place are v o s b e = absurd cc
found_is t at None None offset size None place are v o s b e = absurd cc

place_is : (t : TableIn) (at : ℕ) (place : Place) → IsBytes t.bytes → place_in t at ≡ Ok place → IsPlace place
unfolding place_in
place_is t at place are e =
    let inline = bind_ok (flat (vector_of t 1 1)) _ place e in
    let offset = bind_ok (optional 0 (scalar_of t 2 8)) _ place inline.2 in
    let size = bind_ok (optional 0 (scalar_of t 3 8)) _ place offset.2 in
    let object = bind_ok (flat (struct_of t 4 12)) _ place size.2 in
    let location = bind_ok (flat (text_of t 5)) _ place object.2 in
    found_is t at location.0 inline.0 offset.0 size.0 object.0 place are
    (flat_was (vector_of t 1 1) inline.0 inline.1) (scalar_is t 2 offset.0 are offset.1) (scalar_is t 3 size.0 are size.1) (flat_was (struct_of t 4 12) object.0 object.1) location.2

-- ---- chunks

index_is : (t : TableIn) (k : ℕ) (index : List ℕ) → IsBytes t.bytes → index_of t k ≡ Ok index → IsIndex index
unfolding index_of
index_is t k index are e =
    let v = bind_ok (required k (vector_of t k 4)) _ index e in
    let was = vector_was t k 4 v.0 are (required_was k (vector_of t k 4) v.0 v.1) in
    subst IsIndex (value_was {A = List ℕ} {E = FileFault} (map (from_le_bytes w32) (items_of v.0)) index v.2) (items_give (λ n. n < 2 ^ 32) (from_le_bytes w32) v.0 was.bytes (λ bytes these. number_32 bytes these) 0 v.0.count)

ref_is : (t : TableIn) (at : ℕ) (chunk : ChunkRef) → IsBytes t.bytes → ref_of at t ≡ Ok chunk → IsRef chunk
unfolding ref_of
ref_is t at chunk are e =
    let index = bind_ok (index_of t 0) _ chunk e in
    let place = bind_ok (place_in t at) _ chunk index.2 in
    let made : ChunkRef = record { index = index.0; place = place.0 } in
    let is : IsRef made = record { index = index_is t 0 index.0 are index.1; place = place_is t at place.0 are place.1 } in
    subst IsRef (value_was {A = ChunkRef} {E = FileFault} made chunk place.2) is

refs_are : (v : VectorIn) (refs : List ChunkRef) → IsBytes v.bytes → refs_in v ≡ Ok refs → AllByRecursion IsRef refs
unfolding ref_at
refs_are v refs are e =
    rows_have IsRef ref_key 1 (ref_at v) v.count refs (λ i chunk is.
    let t = bind_ok (flat (table_of v i)) (ref_of i) chunk is in
    ref_is t.0 i chunk (element_bytes v i t.0 are (flat_was (table_of v i) t.0 t.1)) t.2) e

-- ---- arrays

array_is : (t : TableIn) (before : ℕ) (array : ArrayRefs) → IsBytes t.bytes → array_of before t ≡ Ok array → IsArray array
unfolding array_of
array_is t before array are e =
    let node = bind_ok (id8_of t 0) _ array e in
    let v = bind_ok (required 1 (vector_of t 1 4)) _ array node.2 in
    let few = bind_ok (at_most refs_limit (before + v.0.count)) _ array v.2 in
    let refs = bind_ok (refs_in v.0) _ array few.2 in
    let was = vector_was t 1 4 v.0 are (required_was 1 (vector_of t 1 4) v.0 v.1) in
    let made : ArrayRefs = record { node = node.0; refs = refs.0 } in
    let is : IsArray made = record { node = id8_is t 0 node.0 are node.1; refs = refs_are v.0 refs.0 was.bytes refs.1 } in
    subst IsArray (value_was {A = ArrayRefs} {E = FileFault} made array refs.2) is

array_at_is : (v : VectorIn) (i before : ℕ) (array : ArrayRefs) → IsBytes v.bytes → array_at v i before ≡ Ok array → IsArray array
unfolding array_at
array_at_is v i before array are e =
    let t = bind_ok (flat (table_of v i)) (array_of before) array e in
    array_is t.0 before array (element_bytes v i t.0 are (flat_was (table_of v i) t.0 t.1)) t.2

each_is : (v : VectorIn) (front arrays : List ArrayRefs) → IsBytes v.bytes → ReadsAll (array_behind v) front arrays → AllByRecursion IsArray arrays
each_is v front [] are reads = tt
each_is v front (array ∷ arrays) are reads = (array_at_is v (length front) (refs_of front) array are reads.0, each_is v (front ++ array ∷ []) arrays are reads.1)

arrays_are : (v : VectorIn) (arrays : List ArrayRefs) → IsBytes v.bytes → arrays_in v ≡ Ok arrays → AllByRecursion IsArray arrays
arrays_are v arrays are e =
    let r = rows_read (in_order array_key 1 (array_behind v)) [] v.count arrays e in
    subst (AllByRecursion IsArray) (sym r.all_is) (each_is v [] r.more are (were_read array_key 1 (array_behind v) [] r.more r.reads))

-- ---- the manifest

payload_sized : (payload : List ℕ) (manifest : ManifestFile) → IsBytes payload → payload_of payload ≡ Ok manifest → IsManifest manifest
unfolding payload_of
payload_sized payload manifest are e =
    let t = bind_ok (flat (root_of payload)) _ manifest e in
    let id = bind_ok (id12_of t.0 0) _ manifest t.2 in
    let v = bind_ok (required 1 (vector_of t.0 1 4)) _ manifest id.2 in
    let arrays = bind_ok (arrays_in v.0) _ manifest v.2 in
    let in_bytes = root_bytes payload t.0 are (flat_was (root_of payload) t.0 t.1) in
    let was = vector_was t.0 1 4 v.0 in_bytes (required_was 1 (vector_of t.0 1 4) v.0 v.1) in
    let made : ManifestFile = record { id = id.0; arrays = arrays.0 } in
    let is : IsManifest made = record { id = id12_is t.0 0 id.0 in_bytes id.1; arrays = arrays_are v.0 arrays.0 was.bytes arrays.1 } in
    subst IsManifest (value_was {A = ManifestFile} {E = FileFault} made manifest arrays.2) is

pub manifest_sized : (file : List ℕ) (manifest : ManifestFile) → list_all (λ n. ltb n 256) file ≡ true → manifest_of file ≡ Ok manifest → IsManifest manifest
unfolding manifest_of
manifest_sized file manifest tested e = payload_sized (drop 39 file) manifest (bytes_drop 39 file (bytes_tested file tested)) (payload_was kinds.Manifest payload_of file manifest e)
