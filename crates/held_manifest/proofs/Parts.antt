-- The parts of what was read, as they are read once more.
use Rattle.std.proofs.Common.{◌≡◌, ℕ, ◌+◌, ◌<◌, List, length, Option, None, Some, Result, Ok, Err, refl, sym, subst, ap, ◌∙◌, arith}
use Rattle.std.specs.Prelude.{IsOk, IfOk, IfSome, slice_get}
use Rattle.flat_tables.specs.declared.header.Kind.TheVariants as kinds
use Rattle.flat_tables.specs.declared.fault.FlatFault.{FlatFault}
use Rattle.flat_tables.specs.declared.fault.FileFault.{FileFault}
use Rattle.flat_tables.specs.Places.{TableIn, VectorIn, root_of, vector_of, table_of}
use Rattle.flat_tables.specs.Rows.{flat, required, at_most, each, Ascends}
use Rattle.flat_tables.proofs.Loop.{bind_ok}
use Rattle.file_fields.specs.Fields.{payload_in, id8_of, id12_of}
use Rattle.file_fields.proofs.Payloads.{payload_read}
use Rattle.file_fields.proofs.WasRead.{value_is}
use Rattle.manifest_file.specs.declared.manifest.ChunkRef.{ChunkRef}
use Rattle.manifest_file.specs.declared.manifest.ArrayRefs.{ArrayRefs}
use Rattle.manifest_file.specs.declared.manifest.ManifestFile.{ManifestFile}
use Rattle.manifest_file.specs.Manifests.{refs_limit, refs_of, ref_key, array_key, ref_at, refs_in, array_of, array_at, array_behind, arrays_in, payload_of, manifest_of}
use Rattle.held_manifest.specs.Views.{rows_or_none}
use Rattle.held_manifest.specs.Files.{RootOf, manifest_or_empty}
use Rattle.held_manifest.proofs.Checked.{row_at, read_ok, count_ok, ascends_ok, ok_same}

flat_ok : {A : Type 0} (r : Result A FlatFault) (x : A) → flat r ≡ Ok x → r ≡ Ok x
flat_ok (Ok y) x e = cc
flat_ok (Err fault) x e = absurd cc

required_ok : {A : Type 0} (k : ℕ) (r : Result (Option A) FlatFault) (x : A) → required k r ≡ Ok x → r ≡ Ok (Some x)
required_ok k (Ok None) x e = absurd cc
required_ok k (Ok (Some y)) x e = cc
required_ok k (Err fault) x e = absurd cc

-- ---- chunk number i

pub record ChunkAt (v : VectorIn) (i : ℕ) : Type 0 where
  pub below : i < v.count
  pub row : ChunkRef
  pub is : ref_at v i ≡ Ok row
  pub at : slice_get (rows_or_none (refs_in v)) i ≡ Some row

pub chunk_at : (v : VectorIn) (i : ℕ) → IsOk (refs_in v) → i < length (rows_or_none (refs_in v)) → ChunkAt v i
chunk_at v i ok lt =
    let r = row_at ref_key 1 (each (ref_at v)) v.count (rows_or_none (refs_in v)) i (read_ok (refs_in v) ok) lt in
    let len = count_ok ref_key 1 (each (ref_at v)) v.count ok in
    record { below = omega (arith, len); row = r.row; is = ap (ref_at v) (sym r.len) ∙ r.is; at = r.at }

-- ---- array number i

pub record ArrayParts (t : TableIn) (array : ArrayRefs) : Type 0 where
  pub node_is : id8_of t 0 ≡ Ok array.node
  pub vector : VectorIn
  pub vector_is : vector_of t 1 4 ≡ Ok (Some vector)
  pub refs_are : refs_in vector ≡ Ok array.refs

array_parts : (t : TableIn) (before : ℕ) (array : ArrayRefs) → array_of before t ≡ Ok array → ArrayParts t array
unfolding array_of
array_parts t before array e =
    let node = bind_ok (id8_of t 0) _ array e in
    let v = bind_ok (required 1 (vector_of t 1 4)) _ array node.2 in
    let few = bind_ok (at_most refs_limit (before + v.0.count)) _ array v.2 in
    let refs = bind_ok (refs_in v.0) _ array few.2 in
    subst (ArrayParts t) (value_is _ array refs.2) (record {
      node_is = node.1;
      vector = v.0;
      vector_is = required_ok 1 (vector_of t 1 4) v.0 v.1;
      refs_are = refs.1;
    })

pub record ArrayAt (v : VectorIn) (i : ℕ) : Type 0 where
  pub below : i < v.count
  pub table : TableIn
  pub table_is : table_of v i ≡ Ok table
  pub row : ArrayRefs
  pub parts : ArrayParts table row
  pub at : slice_get (rows_or_none (arrays_in v)) i ≡ Some row

table_parts : (v : VectorIn) (i before : ℕ) (array : ArrayRefs) → array_at v i before ≡ Ok array → (t : TableIn) × (table_of v i ≡ Ok t) × ArrayParts t array
unfolding array_at
table_parts v i before array e =
    let t = bind_ok (flat (table_of v i)) (array_of before) array e in
    (t.0, flat_ok (table_of v i) t.0 t.1, array_parts t.0 before array t.2)

pub array_here : (v : VectorIn) (i : ℕ) → IsOk (arrays_in v) → i < length (rows_or_none (arrays_in v)) → ArrayAt v i
array_here v i ok lt =
    let r = row_at array_key 1 (array_behind v) v.count (rows_or_none (arrays_in v)) i (read_ok (arrays_in v) ok) lt in
    let len = count_ok array_key 1 (array_behind v) v.count ok in
    let t = table_parts v i (refs_of r.before) r.row (ap (λ (n : ℕ). array_at v n (refs_of r.before)) (sym r.len) ∙ r.is) in
    record { below = omega (arith, len); table = t.0; table_is = t.1; row = r.row; parts = t.2; at = r.at }

-- ---- the manifest

pub record ManifestParts (file : List ℕ) (manifest : ManifestFile) : Type 0 where
  pub payload : List ℕ
  pub payload_is : payload_in kinds.Manifest file ≡ Ok payload
  pub table : TableIn
  pub table_is : root_of payload ≡ Ok table
  pub id_is : id12_of table 0 ≡ Ok manifest.id
  pub vector : VectorIn
  pub vector_is : vector_of table 1 4 ≡ Ok (Some vector)
  pub arrays_are : arrays_in vector ≡ Ok manifest.arrays

payload_parts : (file payload : List ℕ) (manifest : ManifestFile) → payload_in kinds.Manifest file ≡ Ok payload → payload_of payload ≡ Ok manifest → ManifestParts file manifest
unfolding payload_of
payload_parts file payload manifest is e =
    let t = bind_ok (flat (root_of payload)) _ manifest e in
    let id = bind_ok (id12_of t.0 0) _ manifest t.2 in
    let v = bind_ok (required 1 (vector_of t.0 1 4)) _ manifest id.2 in
    let arrays = bind_ok (arrays_in v.0) _ manifest v.2 in
    subst (ManifestParts file) (value_is _ manifest arrays.2) (record {
      payload = payload;
      payload_is = is;
      table = t.0;
      table_is = flat_ok (root_of payload) t.0 t.1;
      id_is = id.1;
      vector = v.0;
      vector_is = required_ok 1 (vector_of t.0 1 4) v.0 v.1;
      arrays_are = arrays.1;
    })

pub manifest_ok : (r : Result ManifestFile FileFault) → IsOk r → r ≡ Ok (manifest_or_empty r)
manifest_ok (Ok manifest) ok = refl
manifest_ok (Err fault) ok = absurd cc

pub manifest_parts : (file : List ℕ) → IsOk (manifest_of file) → ManifestParts file (manifest_or_empty (manifest_of file))
unfolding manifest_of
manifest_parts file ok =
    let e = sym (payload_read kinds.Manifest payload_of file) ∙ manifest_ok (manifest_of file) ok in
    let p = bind_ok (payload_in kinds.Manifest file) payload_of (manifest_or_empty (manifest_of file)) e in
    payload_parts file p.0 (manifest_or_empty (manifest_of file)) p.1 p.2

pub refs_ascend : (v : VectorIn) → IsOk (refs_in v) → Ascends ref_key None (rows_or_none (refs_in v))
refs_ascend v ok = ascends_ok ref_key 1 (each (ref_at v)) v.count ok

pub refs_count : (v : VectorIn) → IsOk (refs_in v) → length (rows_or_none (refs_in v)) ≡ v.count
refs_count v ok = count_ok ref_key 1 (each (ref_at v)) v.count ok

pub arrays_ascend : (v : VectorIn) → IsOk (arrays_in v) → Ascends array_key None (rows_or_none (arrays_in v))
arrays_ascend v ok = ascends_ok array_key 1 (array_behind v) v.count ok

pub arrays_count : (v : VectorIn) → IsOk (arrays_in v) → length (rows_or_none (arrays_in v)) ≡ v.count
arrays_count v ok = count_ok array_key 1 (array_behind v) v.count ok

-- the root table is the same each time
pub root_same : (file : List ℕ) (table : TableIn) (manifest : ManifestFile) (parts : ManifestParts file manifest) → RootOf file table → table ≡ parts.table
root_same file table manifest parts root =
    let same = ok_same root.0 parts.payload (sym root.1 ∙ parts.payload_is) in
    ok_same table parts.table (sym root.2 ∙ ap root_of same ∙ parts.table_is)

-- a vector that was found has elements of its size
pub sized : {E : Type 0} (r : Result (Option VectorIn) E) (o : Option VectorIn) (v : VectorIn) (n : ℕ) → IfOk r (λ found. IfSome found (λ w. w.size ≡ n)) → r ≡ Ok o → o ≡ Some v → v.size ≡ n
sized r o v n all is some =
    let found : IfSome o (λ w. w.size ≡ n) = subst (λ q. IfOk q (λ found. IfSome found (λ w. w.size ≡ n))) is all in
    subst (λ q. IfSome q (λ w. w.size ≡ n)) some found
