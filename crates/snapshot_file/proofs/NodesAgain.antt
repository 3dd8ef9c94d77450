-- A node that was written is read again.
use Rattle.std.proofs.Common.{◌≡◌, ℕ, ◌^◌, ◌<◌, lit<, lit≤, Result, List, [], ◌∷◌, length, map, take, drop, Option, None, Some, Ok, refl, ap, ◌∙◌, arith}
use Rattle.std.specs.Prelude.{IfSome}
use Rattle.std.specs.List.{AllByRecursion}
use Rattle.std.specs.Int.{w32, w64, from_le_bytes}
use Rattle.std.proofs.lemmas.Nat.{from_le_bytes-to_le_bytes_4, from_le_bytes-to_le_bytes_8}
use Rattle.flat_tables.specs.declared.fault.FileFault.{FileFault}
use Rattle.flat_tables.specs.Places.{TableIn, text_of}
use Rattle.flat_tables.specs.Rows.{flat, rows, each}
use Rattle.flat_tables.specs.Layout.{part_if}
use Rattle.flat_tables.proofs.Loop.{ReadsFrom, each_reads, rows_again}
use Rattle.flat_tables.proofs.Again.{IsTable, HasParts, SlotRead, inline_field, offset_field, scalar_field, field_if, scalar_again, Fits, one, structs_again, vector_again, vector_absent, child_again, text_again, text_if_again, tables_again, tables_each}
use Rattle.file_fields.proofs.Again.{id8_again, id12_again}
use Rattle.snapshot_file.specs.declared.nodes.ManifestRef.{ManifestRef}
use Rattle.snapshot_file.specs.declared.nodes.NodeKind.{NodeKind}
use Rattle.snapshot_file.specs.declared.nodes.NodeKind.TheVariants.{Group, Array}
use Rattle.snapshot_file.specs.declared.nodes.NodeRow.{NodeRow}
use Rattle.snapshot_file.specs.Nodes.{dimension_of, extent_of, manifest_of, manifest_at, manifests_in, manifests_of, name_at, names_in, names_of, shape_of, array_of, kind_of, node_of}
use Rattle.snapshot_file.specs.Layout.{text_part, name_parts, names_part, extent_bytes, manifest_parts, manifests_part, dimension_bytes, shape_part, kind_parts, kind_block, type_of, node_parts, IsDimension, IsExtent, IsName, IsManifest, IsKind, IsNode}

-- rows that need no order
each_again : {A : Type 0} (f : ℕ → Result A FileFault) (xs : List A) (n : ℕ) → n ≡ length xs → ReadsFrom f 0 xs → rows (each f) [] n ≡ Ok xs
each_again f xs n len reads = rows_again (each f) xs n len (each_reads f [] xs 0 refl reads)

-- ---- pairs of numbers

extent_back : (extent : ℕ × ℕ) → IsExtent extent → extent_of (extent_bytes extent) ≡ extent
extent_back extent is =
    let from : from_le_bytes w32 (take 4 (extent_bytes extent)) ≡ extent.0 = from_le_bytes-to_le_bytes_4 extent.0 is.0 in
    let to : from_le_bytes w32 (drop 4 (extent_bytes extent)) ≡ extent.1 = from_le_bytes-to_le_bytes_4 extent.1 is.1 in
    ap (λ (n : ℕ). let pair : ℕ × ℕ = (n, from_le_bytes w32 (drop 4 (extent_bytes extent))) in pair) from ∙ ap (λ (n : ℕ). let pair : ℕ × ℕ = (extent.0, n) in pair) to

extents_back : (extents : List (ℕ × ℕ)) → AllByRecursion IsExtent extents → map extent_of (map extent_bytes extents) ≡ extents
extents_back [] are = refl
extents_back (x ∷ xs) are = ap (λ (y : ℕ × ℕ). y ∷ map extent_of (map extent_bytes xs)) (extent_back x are.0) ∙ ap (λ (ys : List (ℕ × ℕ)). x ∷ ys) (extents_back xs are.1)

extents_sized : (extents : List (ℕ × ℕ)) → AllByRecursion (λ extent. length (extent_bytes extent) ≡ 8) extents
extents_sized [] = tt
extents_sized (x ∷ xs) = (refl, extents_sized xs)

dimension_back : (dimension : ℕ × ℕ) → IsDimension dimension → dimension_of (dimension_bytes dimension) ≡ dimension
dimension_back dimension is =
    let first : from_le_bytes w64 (take 8 (dimension_bytes dimension)) ≡ dimension.0 = from_le_bytes-to_le_bytes_8 dimension.0 is.0 in
    let second : from_le_bytes w64 (drop 8 (dimension_bytes dimension)) ≡ dimension.1 = from_le_bytes-to_le_bytes_8 dimension.1 is.1 in
    ap (λ (n : ℕ). let pair : ℕ × ℕ = (n, from_le_bytes w64 (drop 8 (dimension_bytes dimension))) in pair) first ∙ ap (λ (n : ℕ). let pair : ℕ × ℕ = (dimension.0, n) in pair) second

shape_back : (shape : List (ℕ × ℕ)) → AllByRecursion IsDimension shape → map dimension_of (map dimension_bytes shape) ≡ shape
shape_back [] are = refl
shape_back (x ∷ xs) are = ap (λ (y : ℕ × ℕ). y ∷ map dimension_of (map dimension_bytes xs)) (dimension_back x are.0) ∙ ap (λ (ys : List (ℕ × ℕ)). x ∷ ys) (shape_back xs are.1)

shape_sized : (shape : List (ℕ × ℕ)) → AllByRecursion (λ dimension. length (dimension_bytes dimension) ≡ 16) shape
shape_sized [] = tt
shape_sized (x ∷ xs) = (refl, shape_sized xs)

-- ---- manifests

manifest_fields : (manifest : ManifestRef) → IsManifest manifest → IsTable (manifest_parts manifest)
manifest_fields manifest is = record { fields = (inline_field 1 manifest.id.0 (lit≤ tt) (omega (arith, is.id.0)), (offset_field _, tt)); few = lit≤ tt }

manifest_again : (manifest : ManifestRef) (t : TableIn) → IsManifest manifest → HasParts t (manifest_parts manifest) → manifest_of t ≡ Ok manifest
unfolding manifest_of
manifest_again manifest t is parts =
    let id = id12_again t 0 manifest.id is.id.0 parts.slots.0 in
    let v = structs_again t 1 4 8 extent_bytes manifest.extents (lit< tt) (extents_sized manifest.extents) parts.small parts.slots.1.0 in
    rw (id, v.is, v.items, extents_back manifest.extents is.extents) refl

manifests_again : (t : TableIn) (manifests : List ManifestRef) → length t.bytes < 2 ^ 32 → AllByRecursion IsManifest manifests → SlotRead t 2 (manifests_part manifests) → manifests_of t ≡ Ok manifests
unfolding manifests_of manifest_at
manifests_again t manifests small are slot =
    let v = tables_again t 2 manifest_parts manifests small slot in
    let reads = tables_each manifest_parts manifest_of IsManifest manifest_fields manifest_again v.vector manifests 0 v.end v.small are v.tables in
    let again : manifests_in v.vector ≡ Ok manifests = each_again (manifest_at v.vector) manifests v.vector.count v.count reads in
    rw (v.is, again) refl

-- ---- names

name_fields : (name : Option (List ℕ)) → IsName name → IsTable (name_parts name)
name_fields name is = record { fields = (field_if text_part name (λ text. offset_field _), tt); few = lit≤ tt }

name_again : (name : Option (List ℕ)) (t : TableIn) → IsName name → HasParts t (name_parts name) → flat (text_of t 0) ≡ Ok name
name_again name t is parts = ap flat (text_if_again t 0 name is parts.small parts.slots.0)

names_again : (t : TableIn) (names : Option (List (Option (List ℕ)))) → length t.bytes < 2 ^ 32 → IfSome names (AllByRecursion IsName) → SlotRead t 1 (part_if names_part names) → names_of t ≡ Ok names
unfolding names_of name_at
names_again t None small are slot = rw (vector_absent t 1 4 slot) refl
names_again t (Some names) small are slot =
    let v = tables_again t 1 name_parts names small slot in
    let reads = tables_each name_parts (λ table. flat (text_of table 0)) IsName name_fields name_again v.vector names 0 v.end v.small are v.tables in
    let again : names_in v.vector ≡ Ok names = each_again (name_at v.vector) names v.vector.count v.count reads in
    rw (v.is, again) refl

-- ---- what a node is

shape_again : (t : TableIn) (shape : List (ℕ × ℕ)) → length t.bytes < 2 ^ 32 → AllByRecursion IsDimension shape → SlotRead t 0 (shape_part shape) → shape_of t ≡ Ok shape
unfolding shape_of
shape_again t shape small are slot =
    let v = structs_again t 0 8 16 dimension_bytes shape (lit< tt) (shape_sized shape) small slot in
    rw (v.is, v.items, shape_back shape are) refl

kind_fields : (kind : NodeKind) → IsTable (kind_parts kind)
kind_fields Group = record { fields = tt; few = lit≤ tt }
kind_fields (Array shape names manifests) = record { fields = (offset_field _, (field_if names_part names (λ some. offset_field _), (offset_field _, tt))); few = lit≤ tt }

kind_again : (kind : NodeKind) (t : TableIn) → IsKind kind → HasParts t (kind_parts kind) → kind_of (type_of kind) t ≡ Ok (Some kind)
unfolding kind_of array_of
kind_again Group t is parts = refl
kind_again (Array shape names manifests) t is parts =
    let s = shape_again t shape parts.small is.shape_is parts.slots.0 in
    let n = names_again t names parts.small is.names_are parts.slots.1.0 in
    let m = manifests_again t manifests parts.small is.manifests_are parts.slots.1.1.0 in
    rw (s, n, m) refl

-- ---- a node

pub node_fields : (node : NodeRow) → IsNode node → IsTable (node_parts node)
unfolding kind_block
node_fields node is = record { fields = (inline_field 1 node.id.0 (lit≤ tt) (omega (arith, is.id.0)), (offset_field _, (offset_field _, (scalar_field 1 (type_of node.kind) (lit≤ tt), (offset_field _, tt))))); few = lit≤ tt }

type_fits : (kind : NodeKind) → Fits 1 (type_of kind)
type_fits Group = one 2 (lit< tt)
type_fits (Array shape names manifests) = one 1 (lit< tt)

pub node_again : (at : ℕ) (node : NodeRow) (t : TableIn) → IsNode node → HasParts t (node_parts node) → node_of at t ≡ Ok node
unfolding node_of kind_block
node_again at node t is parts =
    let s1 = parts.slots.1 in
    let s2 = s1.1 in
    let s3 = s2.1 in
    let s4 = s3.1 in
    let id = id8_again t 0 node.id is.id.0 parts.slots.0 in
    let path = text_again t 1 node.path is.text parts.small s1.0 in
    let text = vector_again t 2 1 1 (length node.user_data) node.user_data (lit< tt) (omega arith) parts.small s2.0 in
    let type = scalar_again t 3 1 (type_of node.kind) (type_fits node.kind) s3.0 in
    let child = child_again t 4 (kind_parts node.kind) (kind_fields node.kind) parts.small s4.0 in
    let kind = kind_again node.kind child.0 is.kind child.2 in
    rw (id, path, text.is, type, child.1, kind, is.path, text.all_is) refl
