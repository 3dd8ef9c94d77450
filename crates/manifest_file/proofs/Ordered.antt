-- What a file of a manifest stands for is in order and within the limit.
use Rattle.std.proofs.Common.{◌≡◌, ℕ, ◌+◌, ◌≤◌, List, [], ◌∷◌, ◌++◌, length, drop, Ok, sym, subst, append_assoc, arith}
use Rattle.std.proofs.lemmas.List.{append-nil}
use Rattle.std.specs.List.{AllByRecursion}
use Rattle.flat_tables.specs.declared.header.Kind.TheVariants as kinds
use Rattle.flat_tables.specs.Places.{TableIn, VectorIn, root_of, vector_of, table_of}
use Rattle.flat_tables.specs.Rows.{flat, required, at_most, each, in_order}
use Rattle.flat_tables.proofs.Loop.{ReadsAll, bind_ok, rows_read, were_read}
use Rattle.file_fields.specs.Fields.{id8_of, id12_of}
use Rattle.file_fields.proofs.WasRead.{rows_ascend, rows_count, value_is, payload_was, within_limit}
use Rattle.manifest_file.specs.declared.manifest.ArrayRefs.{ArrayRefs}
use Rattle.manifest_file.specs.declared.manifest.ManifestFile.{ManifestFile}
use Rattle.manifest_file.specs.Manifests.{refs_limit, refs_of, ref_key, array_key, ref_at, refs_in, array_of, array_at, array_behind, arrays_in, payload_of, manifest_of}
use Rattle.manifest_file.specs.Layout.{RefsAscend, CanWrite}
use Rattle.manifest_file.proofs.Behind.{refs_more}

-- an array that was read behind so many chunks
record WasArray (before : ℕ) (array : ArrayRefs) : Type 0 where
  ascend : RefsAscend array
  few : before + length array.refs ≤ refs_limit

array_was : (t : TableIn) (before : ℕ) (array : ArrayRefs) → array_of before t ≡ Ok array → WasArray before array
unfolding array_of
array_was t before array e =
    let node = bind_ok (id8_of t 0) _ array e in
    let v = bind_ok (required 1 (vector_of t 1 4)) _ array node.2 in
    let few = bind_ok (at_most refs_limit (before + v.0.count)) _ array v.2 in
    let refs = bind_ok (refs_in v.0) _ array few.2 in
    let within = within_limit refs_limit (before + v.0.count) few.0 few.1 in
    let count = rows_count (in_order ref_key 1 (each (ref_at v.0))) v.0.count refs.0 refs.1 in
    subst (WasArray before) (value_is _ array refs.2) (record {
      ascend = rows_ascend ref_key 1 (each (ref_at v.0)) v.0.count refs.0 refs.1;
      few = omega (arith, within, count);
    })

array_at_was : (v : VectorIn) (i before : ℕ) (array : ArrayRefs) → array_at v i before ≡ Ok array → WasArray before array
unfolding array_at
array_at_was v i before array e =
    let t = bind_ok (flat (table_of v i)) (array_of before) array e in
    array_was t.0 before array t.2

-- arrays that were read behind others
record WereArrays (front arrays : List ArrayRefs) : Type 0 where
  ascend : AllByRecursion RefsAscend arrays
  few : refs_of (front ++ arrays) ≤ refs_limit

arrays_were : (v : VectorIn) (front arrays : List ArrayRefs) → refs_of front ≤ refs_limit → ReadsAll (array_behind v) front arrays → WereArrays front arrays
arrays_were v front [] few reads = record { ascend = tt; few = rw (append-nil front) few }
arrays_were v front (array ∷ arrays) few reads =
    let was = array_at_was v (length front) (refs_of front) array reads.0 in
    let more : refs_of (front ++ array ∷ []) ≤ refs_limit = omega (arith, refs_more front array, was.few) in
    let rest = arrays_were v (front ++ array ∷ []) arrays more reads.1 in
    record { ascend = (was.ascend, rest.ascend); few = rw (append_assoc front (array ∷ []) arrays) at rest.few }

all_were : (v : VectorIn) (arrays : List ArrayRefs) → arrays_in v ≡ Ok arrays → WereArrays [] arrays
all_were v arrays e =
    let r = rows_read (in_order array_key 1 (array_behind v)) [] v.count arrays e in
    subst (WereArrays []) (sym r.all_is) (arrays_were v [] r.more (omega arith) (were_read array_key 1 (array_behind v) [] r.more r.reads))

payload_ordered : (payload : List ℕ) (manifest : ManifestFile) → payload_of payload ≡ Ok manifest → CanWrite manifest
unfolding payload_of
payload_ordered payload manifest e =
    let t = bind_ok (flat (root_of payload)) _ manifest e in
    let id = bind_ok (id12_of t.0 0) _ manifest t.2 in
    let v = bind_ok (required 1 (vector_of t.0 1 4)) _ manifest id.2 in
    let arrays = bind_ok (arrays_in v.0) _ manifest v.2 in
    let were = all_were v.0 arrays.0 arrays.1 in
    subst CanWrite (value_is _ manifest arrays.2) (record {
      arrays = rows_ascend array_key 1 (array_behind v.0) v.0.count arrays.0 arrays.1;
      refs = were.ascend;
      few = were.few;
    })

pub manifest_ordered : (file : List ℕ) (manifest : ManifestFile) → manifest_of file ≡ Ok manifest → CanWrite manifest
unfolding manifest_of
manifest_ordered file manifest e = payload_ordered (drop 39 file) manifest (payload_was kinds.Manifest payload_of file manifest e)
