use Rattle.std.proofs.Common.{List, Some, sym, ap, ◌∙◌}
use Rattle.std.specs.Prelude.{slice_get}
use Rattle.zarr_tree.specs.Nodes.{Node}
use Rattle.snapshot_file.specs.declared.nodes.NodeRow.{NodeRow}
use Rattle.snapshot_file.specs.declared.snapshot.SnapshotFile.{SnapshotFile}
use Rattle.held_snapshot.specs.LookUp.{row_place}
use Rattle.repo_objects.proofs.Rows.{node_missing, node_placed}
use Rattle.repo_objects.proofs.loaded_snapshot.LoadedTreeLike.find.Goals as goal

pub returns-in-None : goal.returns-in-None
returns-in-None c =
    let same = c.nodes-nodes.ensures ∙ ap (λ (s : SnapshotFile). s.nodes) c.self.view_is in
    let none = ap (λ (rows : List NodeRow). row_place rows c.args.path.now) (sym same) ∙ sym c.place.ensures ∙ c.in-None.is in
    sym (node_missing c.args.self.now.nodes c.args.path.now none)

pub returns-in-Some : goal.returns-in-Some
returns-in-Some c =
    let same = c.nodes-nodes.ensures ∙ ap (λ (s : SnapshotFile). s.nodes) c.self.view_is in
    let placed = ap (λ (rows : List NodeRow). row_place rows c.args.path.now) (sym same) ∙ sym c.place.ensures ∙ c.in-Some.is in
    let there = ap (λ (rows : List NodeRow). slice_get rows c.in-Some.at) (sym same) ∙ c.at.ensures in
    ap (λ (n : Node). Some n) c.found.ensures ∙ sym (node_placed c.args.self.now.nodes c.args.path.now c.in-Some.at c.at.result placed there)
