use Rattle.std.proofs.Common.{ap, sym, ◌∙◌}
use Rattle.std.specs.FinMap.{entries}
use Rattle.zarr_path.specs.Paths.{path_cmp}
use Rattle.zarr_path.proofs.OrderLaws.{total, exact}
use Rattle.zarr_tree.specs.Rows.{node_rows}
use Rattle.zarr_tree.proofs.RowLaws.{entries-made}
use Rattle.tree_model.proofs.nodes.Nodes.rows.Goals as goal

pub returns : goal.returns
returns c =
    ap node_rows c.iter.ensures.rest ∙ sym (entries-made path_cmp total exact (node_rows c.self.inside.nodes.entries) c.self.invariant.0)
    ∙ ap entries c.self.view_is
