use Rattle.std.proofs.Common.{◌&&◌, ◌∙◌, ap}
use Rattle.std.specs.List.{list_any}
use Rattle.zarr_path.specs.Paths.{is_within}
use Rattle.zarr_tree.specs.Touched.{lists}
use Rattle.tree_model.proofs.Finding.{gone_rows}
use Rattle.tree_model.proofs.changes.Changes.is_gone.Goals as goal

pub loop-above-init : goal.loop-above-init
loop-above-init c =
    ap (list_any (λ row. is_within row.0 c.args.path.now && lists c.args.self.now.dropped row.1.id)) c.rows-rows.ensures
    ∙ gone_rows (lists c.args.self.now.dropped) c.args.nodes.now c.args.path.now
