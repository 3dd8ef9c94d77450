use Rattle.std.proofs.Common.{◌≡◌, ◌<◌, ℕ, List, Some, length, ap, sym, subst, ◌∙◌, option_map}
use Rattle.std.specs.Prelude.{slice_get}
use Rattle.zarr_tree.specs.Nodes.{Node}
use Rattle.snapshot_file.specs.declared.nodes.NodeRow.{NodeRow}
use Rattle.snapshot_file.specs.declared.snapshot.SnapshotFile.{SnapshotFile}
use Rattle.snapshot_file.specs.Snapshots.{node_key}
use Rattle.repo_objects.specs.Trees.{node_of}
use Rattle.repo_objects.proofs.Rows.{below_len, row-nodes}
use Rattle.repo_objects.proofs.loaded_snapshot.LoadedTreeLike.row.Goals as goal

pub at-row-requires : goal.at-row-requires
at-row-requires c =
    let same = ap (λ (s : SnapshotFile). s.nodes) c.self.view_is in
    subst (λ (xs : List NodeRow). c.args.at < length xs) (sym (c.nodes.ensures ∙ same)) (below_len _ _ same c.self.invariant.0.nodes c.args.at c.requires)

pub returns-clause-row : goal.returns-clause-row
returns-clause-row c =
    let at = c.args.at in
    let row = c.at-row.result in
    let same = ap (λ (s : SnapshotFile). s.nodes) c.self.view_is in
    let here : slice_get c.self.inside.held.nodes at ≡ Some row = ap (λ (xs : List NodeRow). slice_get xs at) (sym c.nodes.ensures) ∙ c.at-row.ensures in
    let named = ap (option_map node_key) here ∙ ap (λ (p : List ℕ). Some p) (sym c.path.ensures.value) in
    let stands = ap (λ (xs : List NodeRow). option_map node_of (slice_get xs at)) (sym same) ∙ ap (option_map node_of) here ∙ ap (λ (n : Node). Some n) (sym c.found.ensures) in
    row-nodes _ _ same c.self.invariant.0.nodes at _ _ named stands
