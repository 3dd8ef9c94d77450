-- The nodes that were read from a payload of bytes have what their types say.
use Rattle.std.proofs.Common.{◌≡◌, ℕ, Bool, true, false, cond, nat_eq, List, map, take, drop, Option, Some, None, Ok, subst}
use Rattle.std.specs.Prelude.{IfSome}
use Rattle.std.specs.List.{AllByRecursion}
use Rattle.zarr_path.specs.Paths.{is_path}
use Rattle.ice_base.specs.Lists.{IsBytes}
use Rattle.flat_tables.specs.declared.fault.FileFault.{FileFault}
use Rattle.flat_tables.specs.Step.{◌>>=◌}
use Rattle.flat_tables.specs.Places.{TableIn, VectorIn, scalar_of, text_of, child_of, vector_of, items_of, all_of, table_of}
use Rattle.flat_tables.specs.Rows.{flat, required}
use Rattle.flat_tables.proofs.Loop.{bind_ok}
use Rattle.file_fields.specs.Fields.{id8_of, id12_of}
use Rattle.file_fields.proofs.Bytes.{bytes_take, bytes_drop, number_32, number_64}
use Rattle.file_fields.proofs.Places.{flat_was, required_was, some_was, value_was, then_was, vector_was, all_bytes, child_bytes, element_bytes, text_is, id8_is, id12_is}
use Rattle.file_fields.proofs.WasRead.{rows_below, optional_found, items_give}
use Rattle.snapshot_file.specs.declared.nodes.ManifestRef.{ManifestRef}
use Rattle.snapshot_file.specs.declared.nodes.NodeKind.{NodeKind}
use Rattle.snapshot_file.specs.declared.nodes.NodeKind.TheVariants.{Group, Array}
use Rattle.snapshot_file.specs.declared.nodes.NodeRow.{NodeRow}
use Rattle.snapshot_file.specs.Nodes.{dimension_of, extent_of, manifest_of, manifest_at, manifests_in, manifests_of, name_at, names_in, names_of, shape_of, array_of, kind_of, proper_path, known_kind, node_of, node_at}
use Rattle.snapshot_file.specs.Layout.{IsDimension, IsExtent, IsName, IsManifest, IsArray, IsKind, IsNode}

-- ---- manifests

extent_is : (bytes : List ℕ) → IsBytes bytes → IsExtent (extent_of bytes)
extent_is bytes are = (number_32 (take 4 bytes) (bytes_take 4 bytes are), number_32 (drop 4 bytes) (bytes_drop 4 bytes are))

manifest_is : (t : TableIn) (manifest : ManifestRef) → IsBytes t.bytes → manifest_of t ≡ Ok manifest → IsManifest manifest
unfolding manifest_of
manifest_is t manifest are e =
    let id = bind_ok (id12_of t 0) _ manifest e in
    let v = bind_ok (required 1 (vector_of t 1 8)) _ manifest id.2 in
    let was = vector_was t 1 8 v.0 are (required_was 1 (vector_of t 1 8) v.0 v.1) in
    let made : ManifestRef = record { id = id.0; extents = map extent_of (items_of v.0) } in
    let is : IsManifest made = record { id = id12_is t 0 id.0 are id.1; extents = items_give IsExtent extent_of v.0 was.bytes extent_is 0 v.0.count } in
    subst IsManifest (value_was {A = ManifestRef} {E = FileFault} made manifest v.2) is

manifests_are : (t : TableIn) (manifests : List ManifestRef) → IsBytes t.bytes → manifests_of t ≡ Ok manifests → AllByRecursion IsManifest manifests
unfolding manifests_of manifest_at
manifests_are t manifests are e =
    optional_found (AllByRecursion IsManifest) (vector_of t 2 4) manifests_in manifests tt (λ v found read.
    let was = vector_was t 2 4 v are found in
    rows_below IsManifest (manifest_at v) v.count manifests (λ i x lt is.
    let c = bind_ok (flat (table_of v i)) manifest_of x is in
    manifest_is c.0 x (element_bytes v i c.0 was.bytes (flat_was (table_of v i) c.0 c.1)) c.2) read) e

-- ---- names

name_is : (t : TableIn) (name : Option (List ℕ)) → flat (text_of t 0) ≡ Ok name → IsName name
name_is t None e = tt
name_is t (Some text) e = text_is t 0 text (flat_was (text_of t 0) (Some text) e)

names_are : (t : TableIn) (names : Option (List (Option (List ℕ)))) → names_of t ≡ Ok names → IfSome names (AllByRecursion IsName)
unfolding names_of name_at
names_are t None e = tt
names_are t (Some names) e =
    let o = bind_ok (flat (vector_of t 1 4)) _ (Some names) e in
    let v = some_was o.0 names_in names o.2 in
    rows_below IsName (name_at v.0) v.0.count names (λ i name lt is.
    let c = bind_ok (flat (table_of v.0 i)) (λ table. flat (text_of table 0)) name is in
    name_is c.0 name c.2) v.1

-- ---- what a node is

dimension_is : (bytes : List ℕ) → IsBytes bytes → IsDimension (dimension_of bytes)
dimension_is bytes are = (number_64 (take 8 bytes) (bytes_take 8 bytes are), number_64 (drop 8 bytes) (bytes_drop 8 bytes are))

shape_is : (t : TableIn) (shape : List (ℕ × ℕ)) → IsBytes t.bytes → shape_of t ≡ Ok shape → AllByRecursion IsDimension shape
unfolding shape_of
shape_is t shape are e =
    let v = bind_ok (required 0 (vector_of t 0 16)) _ shape e in
    let was = vector_was t 0 16 v.0 are (required_was 0 (vector_of t 0 16) v.0 v.1) in
    subst (AllByRecursion IsDimension) (value_was {A = List (ℕ × ℕ)} {E = FileFault} (map dimension_of (items_of v.0)) shape v.2) (items_give IsDimension dimension_of v.0 was.bytes dimension_is 0 v.0.count)

array_is : (t : TableIn) (kind : NodeKind) → IsBytes t.bytes → array_of t ≡ Ok kind → IsKind kind
unfolding array_of
array_is t kind are e =
    let shape = bind_ok (shape_of t) _ kind e in
    let names = bind_ok (names_of t) _ kind shape.2 in
    let manifests = bind_ok (manifests_of t) _ kind names.2 in
    let is : IsArray shape.0 names.0 manifests.0 = record { shape_is = shape_is t shape.0 are shape.1; names_are = names_are t names.0 names.1; manifests_are = manifests_are t manifests.0 are manifests.1 } in
    subst IsKind (value_was {A = NodeKind} {E = FileFault} (Array shape.0 names.0 manifests.0) kind manifests.2) is

some_is : (x y : NodeKind) → Some x ≡ Some y → x ≡ y
some_is x y e = cc

kind_cases : (array group : Bool) (t : TableIn) (kind : NodeKind) → IsBytes t.bytes → cond array (array_of t >>= λ k. Ok (Some k)) (cond group (Ok (Some Group)) (Ok None)) ≡ Ok (Some kind) → IsKind kind
kind_cases true group t kind are e =
    let a = bind_ok (array_of t) (λ k. Ok (Some k)) (Some kind) e in
    subst IsKind (some_is a.0 kind (value_was {A = Option NodeKind} {E = FileFault} (Some a.0) (Some kind) a.2)) (array_is t a.0 are a.1)
kind_cases false true t kind are e = subst IsKind (some_is Group kind (value_was {A = Option NodeKind} {E = FileFault} (Some Group) (Some kind) e)) tt
kind_cases false false t kind are e = absurd cc

kind_is : (type : ℕ) (t : TableIn) (kind : NodeKind) → IsBytes t.bytes → kind_of type t ≡ Ok (Some kind) → IsKind kind
unfolding kind_of
kind_is type t kind are e = kind_cases (nat_eq type 1) (nat_eq type 2) t kind are e

-- ---- a node

known_was : (at : ℕ) (o : Option NodeKind) (kind : NodeKind) → known_kind at o ≡ Ok kind → o ≡ Some kind
known_was at None kind e = absurd cc
known_was at (Some x) kind e = cc

node_is : (at : ℕ) (t : TableIn) (node : NodeRow) → IsBytes t.bytes → node_of at t ≡ Ok node → IsNode node
unfolding node_of
node_is at t node are e =
    let id = bind_ok (id8_of t 0) _ node e in
    let path = bind_ok (required 1 (text_of t 1)) _ node id.2 in
    let text = bind_ok (required 2 (vector_of t 2 1)) _ node path.2 in
    let type = bind_ok (required 3 (scalar_of t 3 1)) _ node text.2 in
    let table = bind_ok (required 4 (child_of t 4)) _ node type.2 in
    let kind = bind_ok (kind_of type.0 table.0) _ node table.2 in
    let proper = bind_ok (proper_path at path.0) _ node kind.2 in
    let known = bind_ok (known_kind at kind.0) _ node proper.2 in
    let made : NodeRow = record { id = id.0; path = path.0; user_data = all_of text.0; kind = known.0 } in
    let beneath = child_bytes t 4 table.0 are (required_was 4 (child_of t 4) table.0 table.1) in
    let some : kind_of type.0 table.0 ≡ Ok (Some known.0) = subst (λ (o : Option NodeKind). kind_of type.0 table.0 ≡ Ok o) (known_was at kind.0 known.0 known.1) kind.1 in
    let is : IsNode made = record {
      id = id8_is t 0 id.0 are id.1;
      path = (then_was (is_path path.0) _ path.0 proper.0 proper.1).0;
      text = text_is t 1 path.0 (required_was 1 (text_of t 1) path.0 path.1);
      user_data = all_bytes text.0 (vector_was t 2 1 text.0 are (required_was 2 (vector_of t 2 1) text.0 text.1)).bytes;
      kind = kind_is type.0 table.0 known.0 beneath some;
    } in
    subst IsNode (value_was {A = NodeRow} {E = FileFault} made node known.2) is

pub node_at_is : (v : VectorIn) (i : ℕ) (node : NodeRow) → IsBytes v.bytes → node_at v i ≡ Ok node → IsNode node
unfolding node_at
node_at_is v i node are e =
    let c = bind_ok (flat (table_of v i)) (node_of i) node e in
    node_is i c.0 node (element_bytes v i c.0 are (flat_was (table_of v i) c.0 c.1)) c.2
