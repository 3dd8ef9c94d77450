use Rattle.std.proofs.Common.{◌≡◌, ℕ, List, Some, ap, sym, subst, ◌∙◌, arith}
use Rattle.std.specs.Prelude.{slice_get, None}
use Rattle.std.specs.FinMap.{entries}
use Rattle.std.proofs.lemmas.Option.{slice_get-map}
use Rattle.std.proofs.Common.{option_map}
use Rattle.flat_tables.specs.Rows.{Ascends}
use Rattle.zarr_tree.specs.Nodes.{Node, array_in}
use Rattle.snapshot_file.specs.declared.nodes.NodeRow.{NodeRow}
use Rattle.snapshot_file.specs.declared.snapshot.SnapshotFile.{SnapshotFile}
use Rattle.snapshot_file.specs.Snapshots.{node_key}
use Rattle.repo_objects.specs.Trees.{node_of, nodes_in}
use Rattle.repo_objects.proofs.Rows.{len-nodes, entries-nodes}
use Rattle.intact.specs.Rows.{want_in}
use Rattle.intact.proofs.snapshots.want_at.Goals as goal

pub row-requires : goal.row-requires
row-requires c =
    let same : c.nodes.result ≡ c.args.loaded.now.nodes = c.nodes.ensures ∙ ap (λ (s : SnapshotFile). s.nodes) c.file.ensures.value in
    let order = subst (Ascends node_key None) same c.len-rows.ensures.order in
    let below = c.requires in
    omega (arith, below, len-nodes c.args.loaded.now.nodes order)

same-some : {A : Type 0} (a b : A) → Some a ≡ Some b → a ≡ b
same-some a b e = cc

pub returns : goal.returns
returns c node at =
    let same : c.nodes.result ≡ c.args.loaded.now.nodes = c.nodes.ensures ∙ ap (λ (s : SnapshotFile). s.nodes) c.file.ensures.value in
    let order = subst (Ascends node_key None) same c.len-rows.ensures.order in
    let rows = c.args.loaded.now.nodes in
    let entry : List ℕ × Node = (node.path, node_of node) in
    let there : slice_get (entries (nodes_in rows)) c.args.row ≡ Some entry =
    ap (λ (es : List (List ℕ × Node)). slice_get es c.args.row) (entries-nodes rows order)
    ∙ (slice_get-map (λ (r : NodeRow). (r.path, node_of r)) rows c.args.row ∙ ap (option_map (λ (r : NodeRow). (r.path, node_of r))) at) in
    let pair = same-some _ _ (sym c.row.ensures.row ∙ there) in
    c.want_in.ensures ∙ ap (λ (p : List ℕ × Node). want_in (array_in p.1.text)) pair
