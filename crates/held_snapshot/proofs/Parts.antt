-- The parts of what was read, as they are read once more.
use Rattle.std.proofs.Common.{◌≡◌, ◌≢◌, ℕ, ◌==◌, ◌<◌, ◌≤◌, Bool, true, false, cond, List, [], length, Option, None, Some, Result, Ok, Err, inl, inr, refl, sym, subst, ap, ◌∙◌}
use Rattle.std.specs.Prelude.{slice_get, IsOk, IfOk, IsOkAnd, IsSome, IfSome, is_some}
use Rattle.std.proofs.lemmas.Bool.{cases_eq, eq-eqb, ne_eqb}
use Rattle.flat_tables.specs.declared.header.Kind.TheVariants as kinds
use Rattle.flat_tables.specs.declared.fault.FlatFault.{FlatFault}
use Rattle.flat_tables.specs.declared.fault.FileFault.{FileFault}
use Rattle.flat_tables.specs.declared.fault.FileFault.TheVariants.{Path}
use Rattle.flat_tables.specs.Step.{◌>>=◌, on_some}
use Rattle.flat_tables.specs.Places.{TableIn, VectorIn, root_of, scalar_of, text_of, child_of, vector_of, all_of, table_of}
use Rattle.flat_tables.specs.Rows.{flat, required, optional_rows, at_most}
use Rattle.flat_tables.proofs.Loop.{bind_ok}
use Rattle.zarr_path.specs.Paths.{is_path}
use Rattle.file_fields.specs.Fields.{payload_in, id8_of, id12_of}
use Rattle.file_fields.proofs.Places.{flat_was, then_was}
use Rattle.file_fields.proofs.Payloads.{payload_read}
use Rattle.file_fields.proofs.WasRead.{value_is, within_limit}
use Rattle.snapshot_file.specs.declared.nodes.ManifestRef.{ManifestRef}
use Rattle.snapshot_file.specs.declared.nodes.NodeKind.{NodeKind}
use Rattle.snapshot_file.specs.declared.nodes.NodeKind.TheVariants.{Group, Array}
use Rattle.snapshot_file.specs.declared.nodes.NodeRow.{NodeRow}
use Rattle.snapshot_file.specs.declared.snapshot.SnapshotFile.{SnapshotFile}
use Rattle.snapshot_file.specs.Nodes.{manifests_of, names_in, names_of, shape_of, array_of, kind_of, proper_path, known_kind, node_of, node_at}
use Rattle.snapshot_file.specs.Props.{prop_limit, prop_key}
use Rattle.snapshot_file.specs.Snapshots.{node_limit, nodes_in, nodes_of, property_at, properties_in, few_properties_in, properties_of, files_of, manifests_named, first_unlisted, parent_of, rest_of, payload_of, snapshot_of}
use Rattle.snapshot_file.proofs.WasRead.{Rest, listed_read}
use Rattle.held_manifest.specs.Views.{rows_or_none}
use Rattle.held_manifest.proofs.Checked.{ok_by, read_ok}
use Rattle.held_snapshot.specs.Files.{IsTableOf, snapshot_or_empty}
use Rattle.held_snapshot.specs.Views.{kind_or_group, kind_seen, row_or_empty, row_seen}
use Rattle.held_snapshot.specs.LookUp.{is_array}
use Rattle.held_snapshot.proofs.Walked.{RowHere, ordered_here}

-- a result that is Ok is that of some value
pub some_ok : {A E : Type 0} (r : Result A E) → IsOk r → (x : A) × (r ≡ Ok x)
some_ok (Ok x) ok = (x, refl)
some_ok (Err e) ok = absurd cc

-- a vector that was found has elements of its size
pub size_was : {E : Type 0} (r : Result VectorIn E) (v : VectorIn) (n : ℕ) → IfOk r (λ w. w.size ≡ n) → r ≡ Ok v → v.size ≡ n
size_was r v n all is = subst (λ q. IfOk q (λ w. w.size ≡ n)) is all

-- ---- a list that may be absent, and was read

pub found_ok : {A : Type 0} (r : Result (Option VectorIn) FlatFault) (read : VectorIn → Result (List A) FileFault) → IsOk (optional_rows r read) → IsOk r
found_ok (Ok found) read ok = refl
found_ok (Err fault) read ok = absurd cc

pub none_was : {A : Type 0} (r : Result (Option VectorIn) FlatFault) (read : VectorIn → Result (List A) FileFault) → r ≡ Ok None → optional_rows r read ≡ Ok []
none_was r read is = ap (λ q. optional_rows q read) is

pub some_was : {A : Type 0} (r : Result (Option VectorIn) FlatFault) (read : VectorIn → Result (List A) FileFault) (v : VectorIn) → r ≡ Ok (Some v) → optional_rows r read ≡ read v
some_was r read v is = ap (λ q. optional_rows q read) is

-- ---- the names of an array

names_by : Result (Option VectorIn) FlatFault → Result (Option (List (Option (List ℕ)))) FileFault
names_by r = flat r >>= λ names. on_some names names_in

was_found : (r : Result (Option VectorIn) FlatFault) → IsOk (names_by r) → IsOk r
unfolding names_by
was_found (Ok found) ok = refl
was_found (Err fault) ok = absurd cc

pub names_found : (t : TableIn) → IsOk (names_of t) → IsOk (vector_of t 1 4)
unfolding names_of names_by
names_found t ok = was_found (vector_of t 1 4) ok

pub no_names : (t : TableIn) → vector_of t 1 4 ≡ Ok None → names_of t ≡ Ok None
unfolding names_of names_by
no_names t is = ap names_by is

pub record SomeNames (t : TableIn) (v : VectorIn) : Type 0 where
  pub ok : IsOk (names_in v)
  pub is : names_of t ≡ Ok (Some (rows_or_none (names_in v)))

pub some_names : (t : TableIn) (v : VectorIn) → IsOk (names_of t) → vector_of t 1 4 ≡ Ok (Some v) → SomeNames t v
unfolding names_of names_by
some_names t v ok is =
    let e : names_of t ≡ names_by (Ok (Some v)) = ap names_by is in
    let names = some_ok (names_of t) ok in
    let read = bind_ok (names_in v) (λ names. Ok (Some names)) names.0 (sym e ∙ names.1) in
    let there = ok_by (names_in v) read.0 read.1 in
    record { ok = there; is = e ∙ ap (λ r. r >>= λ names. Ok (Some names)) (read_ok (names_in v) there) }

-- ---- an array

pub record SomeArray (t : TableIn) : Type 0 where
  pub shape : List (ℕ × ℕ)
  pub shape_is : shape_of t ≡ Ok shape
  pub names : Option (List (Option (List ℕ)))
  pub names_are : names_of t ≡ Ok names
  pub manifests : List ManifestRef
  pub manifests_are : manifests_of t ≡ Ok manifests
  pub is : kind_or_group (array_of t) ≡ Array shape names manifests

pub some_array : (t : TableIn) → IsOk (array_of t) → SomeArray t
unfolding array_of
some_array t ok =
    let kind = some_ok (array_of t) ok in
    let shape = bind_ok (shape_of t) _ kind.0 kind.1 in
    let names = bind_ok (names_of t) _ kind.0 shape.2 in
    let manifests = bind_ok (manifests_of t) _ kind.0 names.2 in
    record {
      shape = shape.0;
      shape_is = shape.1;
      names = names.0;
      names_are = names.1;
      manifests = manifests.0;
      manifests_are = manifests.1;
      is = ap kind_or_group (kind.1 ∙ sym manifests.2);
    }

-- ---- a kind, by its table

pub array_or_not : (found : Option TableIn) → IfSome found (λ t. IsOk (array_of t)) → is_some found ≡ is_array (kind_seen found)
array_or_not None ok = refl
array_or_not (Some t) ok = ap is_array (sym (some_array t ok).is)

pub array_there : (found : Option TableIn) (t : TableIn) → IfSome found (λ t. IsOk (array_of t)) → found ≡ Some t → SomeArray t
array_there found t ok is = some_array t (subst (λ o. IfSome o (λ t. IsOk (array_of t))) is ok)

abbrev pub HasKind : ℕ → TableIn → Type 0
HasKind type t = IsOkAnd (kind_of type t) (λ kind. IsSome kind)

pub has_kind : (type : ℕ) (t : TableIn) (kind : NodeKind) → kind_of type t ≡ Ok (Some kind) → HasKind type t
has_kind type t kind is = rw is refl

pub record ArrayKind (type : ℕ) (t : TableIn) : Type 0 where
  pub ok : IsOk (array_of t)
  pub is : kind_of type t ≡ Ok (Some (kind_or_group (array_of t)))

array_kind : (r : Result NodeKind FileFault) → IsOkAnd (r >>= λ kind. Ok (Some kind)) (λ kind. IsSome kind) → IsOk r × ((r >>= λ kind. Ok (Some kind)) ≡ Ok (Some (kind_or_group r)))
array_kind (Ok kind) has = (refl, refl)
array_kind (Err fault) has = absurd has

pub kind_array : (type : ℕ) (t : TableIn) → type ≡ 1 → HasKind type t → ArrayKind type t
unfolding kind_of
kind_array type t is has =
    let r = array_kind (array_of t) (subst (λ (n : ℕ). HasKind n t) is has) in
    record { ok = r.0; is = ap (λ (n : ℕ). kind_of n t) is ∙ r.1 }

group_or_none : Bool → Result (Option NodeKind) FileFault
group_or_none b = cond b (Ok (Some Group)) (Ok None)

group_kind : (b : Bool) → IsOkAnd (group_or_none b) (λ kind. IsSome kind) → group_or_none b ≡ Ok (Some Group)
unfolding group_or_none
group_kind true has = refl
group_kind false has = absurd cc

pub kind_group : (type : ℕ) (t : TableIn) → type ≢ 1 → HasKind type t → kind_of type t ≡ Ok (Some Group)
unfolding kind_of group_or_none
kind_group type t other has =
    let no : (type == 1) ≡ false = ne_eqb type 1 other in
    let e : kind_of type t ≡ group_or_none (type == 2) = rw no refl in
    e ∙ group_kind (type == 2) (subst (λ r. IsOkAnd r (λ kind. IsSome kind)) e has)

-- ---- what the type tells

type_array : (kind : NodeKind) (made : NodeKind) (t : TableIn) (some : SomeArray t) → kind ≡ made → made ≡ Array some.shape some.names some.manifests → is_array kind ≡ true
type_array kind made t some is array = ap is_array (is ∙ array)

some_kind : (a b : NodeKind) → (let r : Result (Option NodeKind) FileFault = Ok (Some a) in r) ≡ Ok (Some b) → a ≡ b
some_kind a b e = cc

pub type_tells : (type : ℕ) (t : TableIn) (kind : NodeKind) → kind_of type t ≡ Ok (Some kind) → (type == 1) ≡ is_array kind
type_tells type t kind is =
    let has = has_kind type t kind is in
    elim (cases_eq type 1) [
      | inl one ↦
          let made = kind_array type t one has in
          let some = some_array t made.ok in
          eq-eqb type 1 one ∙ sym (type_array kind (kind_or_group (array_of t)) t some (some_kind kind _ (sym is ∙ made.is)) some.is)
      | inr other ↦ ne_eqb type 1 other ∙ ap is_array (some_kind Group kind (sym (kind_group type t other has) ∙ is))
    ]

pub group_names_none : (kind : NodeKind) → is_array kind ≡ false → manifests_named kind ≡ []
group_names_none Group e = refl
group_names_none (Array shape names manifests) e = absurd cc

-- ---- a node

known_was : (at : ℕ) (kind : Option NodeKind) (known : NodeKind) → known_kind at kind ≡ Ok known → kind ≡ Some known
known_was at None known e = absurd cc
known_was at (Some kind) known e = cc

pub record NodeParts (t : TableIn) (row : NodeRow) : Type 0 where
  pub id_is : id8_of t 0 ≡ Ok row.id
  pub path_is : required 1 (text_of t 1) ≡ Ok row.path
  pub proper : is_path row.path ≡ true
  pub text : VectorIn
  pub text_is : required 2 (vector_of t 2 1) ≡ Ok text
  pub bytes_are : all_of text ≡ row.user_data
  pub type : ℕ
  pub type_is : required 3 (scalar_of t 3 1) ≡ Ok type
  pub child : TableIn
  pub child_is : required 4 (child_of t 4) ≡ Ok child
  pub kind_is : kind_of type child ≡ Ok (Some row.kind)

node_parts : (at : ℕ) (t : TableIn) (row : NodeRow) → node_of at t ≡ Ok row → NodeParts t row
unfolding node_of
node_parts at t row e =
    let id = bind_ok (id8_of t 0) _ row e in
    let path = bind_ok (required 1 (text_of t 1)) _ row id.2 in
    let text = bind_ok (required 2 (vector_of t 2 1)) _ row path.2 in
    let type = bind_ok (required 3 (scalar_of t 3 1)) _ row text.2 in
    let table = bind_ok (required 4 (child_of t 4)) _ row type.2 in
    let kind = bind_ok (kind_of type.0 table.0) _ row table.2 in
    let proper = bind_ok (proper_path at path.0) _ row kind.2 in
    let known = bind_ok (known_kind at kind.0) _ row proper.2 in
    let is = then_was {A = List ℕ} {E = FileFault} (is_path path.0) (Path at) path.0 proper.0 proper.1 in
    let made : NodeRow = record { id = id.0; path = path.0; user_data = all_of text.0; kind = known.0 } in
    subst (NodeParts t) {x = made} (value_is made row known.2) (record {
      id_is = id.1;
      path_is = path.1;
      proper = is.0;
      text = text.0;
      text_is = text.1;
      bytes_are = refl;
      type = type.0;
      type_is = type.1;
      child = table.0;
      child_is = table.1;
      kind_is = kind.1 ∙ ap (λ (k : Option NodeKind). Ok k) (known_was at kind.0 known.0 known.1);
    })

row_ok : (r : Result NodeRow FileFault) → IsOk r → r ≡ Ok (row_or_empty r)
row_ok (Ok row) ok = refl
row_ok (Err fault) ok = absurd cc

pub some_node : (at : ℕ) (t : TableIn) → IsOk (node_of at t) → NodeParts t (row_seen at t)
some_node at t ok = node_parts at t (row_seen at t) (row_ok (node_of at t) ok)

pub record NodeTable (v : VectorIn) (at : ℕ) : Type 0 where
  pub table : TableIn
  pub table_is : table_of v at ≡ Ok table
  pub node_is : node_of at table ≡ Ok (row_seen at table)
  pub is : node_at v at ≡ Ok (row_seen at table)

pub node_table : (v : VectorIn) (at : ℕ) → IsOk (node_at v at) → NodeTable v at
unfolding node_at
node_table v at ok =
    let row = some_ok (node_at v at) ok in
    let t = bind_ok (flat (table_of v at)) (node_of at) row.0 row.1 in
    let seen = row_ok (node_of at t.0) (ok_by (node_of at t.0) row.0 t.2) in
    record { table = t.0; table_is = flat_was (table_of v at) t.0 t.1; node_is = seen; is = row.1 ∙ sym t.2 ∙ seen }

-- ---- the lists of a snapshot

pub record SomeNodes (t : TableIn) : Type 0 where
  pub vector : VectorIn
  pub vector_is : required 2 (vector_of t 2 4) ≡ Ok vector
  pub few : vector.count ≤ node_limit
  pub ok : IsOk (nodes_in vector)
  pub is : nodes_of t ≡ nodes_in vector

pub some_nodes : (t : TableIn) → IsOk (nodes_of t) → SomeNodes t
unfolding nodes_of
some_nodes t ok =
    let nodes = some_ok (nodes_of t) ok in
    let v = bind_ok (required 2 (vector_of t 2 4)) _ nodes.0 nodes.1 in
    let few = bind_ok (at_most node_limit v.0.count) _ nodes.0 v.2 in
    record {
      vector = v.0;
      vector_is = v.1;
      few = within_limit node_limit v.0.count few.0 few.1;
      ok = ok_by (nodes_in v.0) nodes.0 few.2;
      is = nodes.1 ∙ sym few.2;
    }

pub record FewProperties (v : VectorIn) : Type 0 where
  pub few : v.count ≤ prop_limit
  pub ok : IsOk (properties_in v)
  pub is : few_properties_in v ≡ properties_in v

pub some_properties : (v : VectorIn) → IsOk (few_properties_in v) → FewProperties v
some_properties v ok =
    let props = some_ok (few_properties_in v) ok in
    let few = bind_ok (at_most prop_limit v.count) _ props.0 props.1 in
    record { few = within_limit prop_limit v.count few.0 few.1; ok = ok_by (properties_in v) props.0 few.2; is = props.1 ∙ sym few.2 }

pub property_here : (v : VectorIn) (i : ℕ) → IsOk (few_properties_in v) → i < length (rows_or_none (few_properties_in v)) → RowHere (property_at v) v.count (rows_or_none (few_properties_in v)) i
property_here v i ok lt =
    let few = some_properties v ok in
    let same = ap (λ r. rows_or_none r) few.is in
    let here = ordered_here prop_key 5 (property_at v) v.count i few.ok (subst (λ (xs : List (List ℕ × List ℕ)). i < length xs) same lt) in
    record { below = here.below; row = here.row; is = here.is; at = ap (λ (xs : List (List ℕ × List ℕ)). slice_get xs i) same ∙ here.at }

-- ---- the snapshot

pub snapshot_ok : (r : Result SnapshotFile FileFault) → IsOk r → r ≡ Ok (snapshot_or_empty r)
snapshot_ok (Ok snapshot) ok = refl
snapshot_ok (Err fault) ok = absurd cc

record RestParts (t : TableIn) (rest : Rest) : Type 0 where
  flushed_at : required 3 (scalar_of t 3 8) ≡ Ok rest.0
  message : required 4 (text_of t 4) ≡ Ok rest.1.0
  props : properties_of t ≡ Ok rest.1.1.0
  files : files_of t ≡ Ok rest.1.1.1

rest_parts : (t : TableIn) (rest : Rest) → rest_of t ≡ Ok rest → RestParts t rest
unfolding rest_of
rest_parts t rest e =
    let flushed_at = bind_ok (required 3 (scalar_of t 3 8)) _ rest e in
    let message = bind_ok (required 4 (text_of t 4)) _ rest flushed_at.2 in
    let props = bind_ok (properties_of t) _ rest message.2 in
    let files = bind_ok (files_of t) _ rest props.2 in
    let made : Rest = (flushed_at.0, (message.0, (props.0, files.0))) in
    subst (RestParts t) {x = made} (value_is made rest files.2) (record { flushed_at = flushed_at.1; message = message.1; props = props.1; files = files.1 })

pub record SnapshotParts (file : List ℕ) (s : SnapshotFile) : Type 0 where
  pub payload : List ℕ
  pub payload_is : payload_in kinds.Snapshot file ≡ Ok payload
  pub says : payload_of payload ≡ Ok s
  pub table : TableIn
  pub table_is : root_of payload ≡ Ok table
  pub slots : IsTableOf table s

payload_parts : (file payload : List ℕ) (s : SnapshotFile) → payload_in kinds.Snapshot file ≡ Ok payload → payload_of payload ≡ Ok s → SnapshotParts file s
unfolding payload_of
payload_parts file payload s is e =
    let t = bind_ok (flat (root_of payload)) _ s e in
    let id = bind_ok (id12_of t.0 0) _ s t.2 in
    let parent = bind_ok (parent_of t.0) _ s id.2 in
    let nodes = bind_ok (nodes_of t.0) _ s parent.2 in
    let rest = bind_ok (rest_of t.0) _ s nodes.2 in
    let made : SnapshotFile = record {
      id = id.0;
      parent = parent.0;
      nodes = nodes.0;
      flushed_at = rest.0.0;
      message = rest.0.1.0;
      props = rest.0.1.1.0;
      manifest_files = rest.0.1.1.1;
    } in
    let listed = listed_read (first_unlisted rest.0.1.1.1 nodes.0) made s rest.2 in
    let behind = rest_parts t.0 rest.0 rest.1 in
    let slots = subst (IsTableOf t.0) {x = made} listed.1 (record {
      id = id.1;
      parent = parent.1;
      nodes = nodes.1;
      flushed_at = behind.flushed_at;
      message = behind.message;
      props = behind.props;
      files = behind.files;
    }) in
    record { payload = payload; payload_is = is; says = e; table = t.0; table_is = flat_was (root_of payload) t.0 t.1; slots = slots }

pub snapshot_parts : (file : List ℕ) → IsOk (snapshot_of file) → SnapshotParts file (snapshot_or_empty (snapshot_of file))
unfolding snapshot_of
snapshot_parts file ok =
    let e = sym (payload_read kinds.Snapshot payload_of file) ∙ snapshot_ok (snapshot_of file) ok in
    let p = bind_ok (payload_in kinds.Snapshot file) payload_of (snapshot_or_empty (snapshot_of file)) e in
    payload_parts file p.0 (snapshot_or_empty (snapshot_of file)) p.1 p.2
