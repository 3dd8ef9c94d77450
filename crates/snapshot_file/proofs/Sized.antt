-- A snapshot that was read from a file of bytes has what its types say.
use Rattle.std.proofs.Common.{◌≡◌, ℕ, ◌<◌, ◌≤◌, ◌^◌, true, ltb, List, length, take, drop, Option, Some, None, Ok, subst, arith}
use Rattle.std.specs.Prelude.{IfSome}
use Rattle.std.specs.List.{AllByRecursion, list_all}
use Rattle.std.specs.Str.{IsUtf8}
use Rattle.std.proofs.lemmas.List.{length-take-le}
use Rattle.ice_base.specs.Lists.{IsBytes}
use Rattle.flat_tables.specs.declared.header.Kind.TheVariants as kinds
use Rattle.flat_tables.specs.declared.fault.FileFault.{FileFault}
use Rattle.flat_tables.specs.Places.{TableIn, VectorIn, root_of, struct_of, scalar_of, text_of, vector_of, item_of}
use Rattle.flat_tables.specs.Rows.{flat, required, at_most}
use Rattle.flat_tables.specs.Layout.{payload}
use Rattle.flat_tables.proofs.Files.{length_file}
use Rattle.flat_tables.proofs.Loop.{bind_ok}
use Rattle.ice_ids.specs.declared.Id12.{Id12}
use Rattle.ice_ids.specs.Text.{IsId12}
use Rattle.file_fields.specs.Fields.{id12_of}
use Rattle.file_fields.proofs.Bytes.{bytes_tested, bytes_take, bytes_drop, number_32, number_64}
use Rattle.file_fields.proofs.Places.{flat_was, required_was, value_was, VectorWas, vector_was, item_bytes, item_long, root_bytes, struct_long, struct_bytes, scalar_fits, text_is, id12_is}
use Rattle.file_fields.proofs.WasRead.{ordered_below, optional_found, payload_was, value_is}
use Rattle.snapshot_file.specs.declared.nodes.NodeRow.{NodeRow}
use Rattle.snapshot_file.specs.declared.snapshot.ManifestInfo.{ManifestInfo}
use Rattle.snapshot_file.specs.declared.snapshot.SnapshotFile.{SnapshotFile}
use Rattle.snapshot_file.specs.Nodes.{node_at}
use Rattle.snapshot_file.specs.Snapshots.{node_limit, node_key, file_key, nodes_of, properties_of, info_of, info_at, files_in, files_of, first_unlisted, id_if, parent_of, rest_of, payload_of, snapshot_of}
use Rattle.snapshot_file.specs.Props.{AreProps}
use Rattle.snapshot_file.specs.Layout.{snapshot_block, snapshot_bytes, IsNode, IsInfo, IsSnapshot, IsWritable}
use Rattle.snapshot_file.proofs.NodesSized.{node_at_is}
use Rattle.snapshot_file.proofs.WasRead.{Rest, listed_read, payload_writable}
use Rattle.snapshot_file.proofs.PropsRead.{props_read}
use Rattle.snapshot_file.proofs.Again.{snapshot_again}

-- ---- nodes and manifest files

nodes_are : (t : TableIn) (nodes : List NodeRow) → IsBytes t.bytes → nodes_of t ≡ Ok nodes → AllByRecursion IsNode nodes
unfolding nodes_of
nodes_are t nodes are e =
    let v = bind_ok (required 2 (vector_of t 2 4)) _ nodes e in
    let few = bind_ok (at_most node_limit v.0.count) _ nodes v.2 in
    let was = vector_was t 2 4 v.0 are (required_was 2 (vector_of t 2 4) v.0 v.1) in
    ordered_below IsNode node_key 2 (node_at v.0) v.0.count nodes (λ i node lt is. node_at_is v.0 i node was.bytes is) few.2

info_sized : (bytes : List ℕ) → length bytes ≡ 32 → IsBytes bytes → IsInfo (info_of bytes)
info_sized bytes long are = record {
  id = (length-take-le 12 bytes (omega (arith, long)), bytes_take 12 bytes are);
  size = number_64 (take 8 (drop 16 bytes)) (bytes_take 8 (drop 16 bytes) (bytes_drop 16 bytes are));
  refs = number_32 (take 4 (drop 24 bytes)) (bytes_take 4 (drop 24 bytes) (bytes_drop 24 bytes are));
}

info_at_is : (v : VectorIn) (i : ℕ) (file : ManifestInfo) → VectorWas v 32 → i < v.count → info_at v i ≡ Ok file → IsInfo file
info_at_is v i file was lt e = subst IsInfo (value_was {A = ManifestInfo} {E = FileFault} (info_of (item_of v i)) file e) (info_sized (item_of v i) (item_long v 32 i was lt) (item_bytes v i was.bytes))

files_are : (t : TableIn) (files : List ManifestInfo) → IsBytes t.bytes → files_of t ≡ Ok files → AllByRecursion IsInfo files
unfolding files_of
files_are t files are e =
    optional_found (AllByRecursion IsInfo) (vector_of t 6 32) files_in files tt (λ v found read.
    let was = vector_was t 6 32 v are found in
    ordered_below IsInfo file_key 6 (info_at v) v.count files (λ i file lt is. info_at_is v i file was lt is) read) e

-- ---- the snapshot

struct_is : (t : TableIn) (parent : Option (List ℕ)) → IsBytes t.bytes → struct_of t 1 12 ≡ Ok parent → IfSome (id_if parent) IsId12
struct_is t None are e = tt
struct_is t (Some bytes) are e = (struct_long t 1 12 bytes e, struct_bytes t 1 12 bytes are e)

parent_is : (t : TableIn) (parent : Option Id12) → IsBytes t.bytes → parent_of t ≡ Ok parent → IfSome parent IsId12
parent_is t parent are e =
    let found = bind_ok (flat (struct_of t 1 12)) _ parent e in
    subst (λ (id : Option Id12). IfSome id IsId12) (value_is (id_if found.0) parent found.2) (struct_is t found.0 are (flat_was (struct_of t 1 12) found.0 found.1))

record RestIs (rest : Rest) : Type 0 where
  flushed_at : rest.0 < 2 ^ 64
  message : IsUtf8 rest.1.0
  props : AreProps rest.1.1.0
  files : AllByRecursion IsInfo rest.1.1.1

rest_is : (t : TableIn) (rest : Rest) → IsBytes t.bytes → rest_of t ≡ Ok rest → RestIs rest
unfolding rest_of
rest_is t rest are e =
    let flushed_at = bind_ok (required 3 (scalar_of t 3 8)) _ rest e in
    let message = bind_ok (required 4 (text_of t 4)) _ rest flushed_at.2 in
    let props = bind_ok (properties_of t) _ rest message.2 in
    let files = bind_ok (files_of t) _ rest props.2 in
    subst RestIs (value_is (flushed_at.0, (message.0, (props.0, files.0))) rest files.2) (record {
      flushed_at = scalar_fits t 3 flushed_at.0 are (required_was 3 (scalar_of t 3 8) flushed_at.0 flushed_at.1);
      message = text_is t 4 message.0 (required_was 4 (text_of t 4) message.0 message.1);
      props = props_read t props.0 props.1;
      files = files_are t files.0 are files.1;
    })

payload_sized : (payload : List ℕ) (s : SnapshotFile) → IsBytes payload → payload_of payload ≡ Ok s → IsSnapshot s
unfolding payload_of
payload_sized payload s are e =
    let t = bind_ok (flat (root_of payload)) _ s e in
    let id = bind_ok (id12_of t.0 0) _ s t.2 in
    let parent = bind_ok (parent_of t.0) _ s id.2 in
    let nodes = bind_ok (nodes_of t.0) _ s parent.2 in
    let rest = bind_ok (rest_of t.0) _ s nodes.2 in
    let made : SnapshotFile = record { id = id.0; parent = parent.0; nodes = nodes.0; flushed_at = rest.0.0; message = rest.0.1.0; props = rest.0.1.1.0; manifest_files = rest.0.1.1.1 } in
    let listed = listed_read (first_unlisted rest.0.1.1.1 nodes.0) made s rest.2 in
    let in_bytes = root_bytes payload t.0 are (flat_was (root_of payload) t.0 t.1) in
    let behind = rest_is t.0 rest.0 in_bytes rest.1 in
    let is : IsSnapshot made = record {
      id = id12_is t.0 0 id.0 in_bytes id.1;
      parent = parent_is t.0 parent.0 in_bytes parent.1;
      nodes = nodes_are t.0 nodes.0 in_bytes nodes.1;
      flushed_at = behind.flushed_at;
      message = behind.message;
      props = behind.props;
      files = behind.files;
    } in
    subst IsSnapshot listed.1 is

pub file_sized : (file : List ℕ) (s : SnapshotFile) → list_all (λ n. ltb n 256) file ≡ true → snapshot_of file ≡ Ok s → IsSnapshot s
unfolding snapshot_of
file_sized file s tested e = payload_sized (drop 39 file) s (bytes_drop 39 file (bytes_tested file tested)) (payload_was kinds.Snapshot payload_of file s e)

pub file_writable : (file : List ℕ) (s : SnapshotFile) → snapshot_of file ≡ Ok s → IsWritable s
unfolding snapshot_of
file_writable file s e = payload_writable (drop 39 file) s (payload_was kinds.Snapshot payload_of file s e)

-- a file that keeps to the limit
pub file_again : (s : SnapshotFile) → IsSnapshot s → IsWritable s → length (snapshot_bytes s) ≤ 268435456 → snapshot_of (snapshot_bytes s) ≡ Ok s
unfolding snapshot_bytes
file_again s is can fits = snapshot_again s is can (omega (arith, length_file kinds.Snapshot (payload (snapshot_block s))))
