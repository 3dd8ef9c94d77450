-- A snapshot that was read can be written.
use Rattle.std.proofs.Common.{◌≡◌, ℕ, ◌≤◌, List, length, Option, None, Some, Result, Ok, Err, refl, subst}
use Rattle.std.specs.Prelude.{IfOk}
use Rattle.flat_tables.specs.declared.fault.FileFault.{FileFault}
use Rattle.flat_tables.specs.Places.{TableIn, root_of, scalar_of, text_of, vector_of}
use Rattle.flat_tables.specs.Rows.{Reads, flat, required, each, in_order, at_most, Ascends}
use Rattle.flat_tables.proofs.Loop.{bind_ok}
use Rattle.snapshot_file.specs.declared.nodes.NodeRow.{NodeRow}
use Rattle.snapshot_file.specs.declared.snapshot.ManifestInfo.{ManifestInfo}
use Rattle.snapshot_file.specs.declared.snapshot.SnapshotFile.{SnapshotFile}
use Rattle.snapshot_file.specs.Nodes.{node_at}
use Rattle.snapshot_file.specs.Snapshots.{node_limit, node_key, file_key, nodes_of, info_at, files_of, files_in, properties_of, first_unlisted, unless_unlisted, parent_of, rest_of, payload_of}
use Rattle.snapshot_file.specs.Layout.{IsWritable}
use Rattle.file_fields.specs.Fields.{id12_of}
use Rattle.file_fields.proofs.WasRead.{rows_ascend, rows_count, optional_has, within_limit, value_is}

pub listed_read : (at : Option ℕ) (x s : SnapshotFile) → unless_unlisted at x ≡ Ok s → (at ≡ None) × (x ≡ s)
listed_read None x s e = (refl, cc)
listed_read (Some at) x s e = absurd cc

-- what the slots behind the nodes have
abbrev pub Rest : Type 0
Rest = ℕ × (List ℕ × (List (List ℕ × List ℕ) × List ManifestInfo))

pub record NodesRead (nodes : List NodeRow) : Type 0 where
  pub few : length nodes ≤ node_limit
  pub ascend : Ascends node_key None nodes

nodes_read : (t : TableIn) (nodes : List NodeRow) → nodes_of t ≡ Ok nodes → NodesRead nodes
unfolding nodes_of
nodes_read t nodes e =
    let a = bind_ok (required 2 (vector_of t 2 4)) _ nodes e in
    let b = bind_ok (at_most node_limit a.0.count) _ nodes a.2 in
    record {
      few = rw (rows_count (in_order node_key 2 (each (node_at a.0))) a.0.count nodes b.2) (within_limit node_limit a.0.count b.0 b.1);
      ascend = rows_ascend node_key 2 (each (node_at a.0)) a.0.count nodes b.2;
    }

files_read : (t : TableIn) (files : List ManifestInfo) → files_of t ≡ Ok files → Ascends file_key None files
unfolding files_of
files_read t files e = optional_has (Ascends file_key None) (vector_of t 6 32) files_in files tt (λ v read. rows_ascend file_key 6 (each (info_at v)) v.count files read) e

rest_read : (t : TableIn) (rest : Rest) → rest_of t ≡ Ok rest → Ascends file_key None rest.1.1.1
unfolding rest_of
rest_read t rest e =
    let flushed_at = bind_ok (required 3 (scalar_of t 3 8)) _ rest e in
    let message = bind_ok (required 4 (text_of t 4)) _ rest flushed_at.2 in
    let props = bind_ok (properties_of t) _ rest message.2 in
    let files = bind_ok (files_of t) _ rest props.2 in
    subst (λ (r : Rest). Ascends file_key None r.1.1.1) (value_is (flushed_at.0, (message.0, (props.0, files.0))) rest files.2) (files_read t files.0 files.1)

pub payload_writable : (payload : List ℕ) (s : SnapshotFile) → payload_of payload ≡ Ok s → IsWritable s
unfolding payload_of
payload_writable payload s e =
    let t = bind_ok (flat (root_of payload)) _ s e in
    let id = bind_ok (id12_of t.0 0) _ s t.2 in
    let parent = bind_ok (parent_of t.0) _ s id.2 in
    let nodes = bind_ok (nodes_of t.0) _ s parent.2 in
    let rest = bind_ok (rest_of t.0) _ s nodes.2 in
    let listed = listed_read (first_unlisted rest.0.1.1.1 nodes.0) _ s rest.2 in
    let behind = rest_read t.0 rest.0 rest.1 in
    let ascend = nodes_read t.0 nodes.0 nodes.1 in
    subst IsWritable listed.1 (record { few = ascend.few; nodes = ascend.ascend; files = behind; listed = listed.0 })

-- what a call read of a payload can be written
pub reads_writable : (r : Result SnapshotFile FileFault) (payload : List ℕ) → Reads (λ s. s) r (payload_of payload) → IfOk r IsWritable
reads_writable (Ok s) payload reads = payload_writable payload s reads
reads_writable (Err fault) payload reads = tt
