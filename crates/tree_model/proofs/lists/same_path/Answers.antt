use Rattle.std.proofs.Common.{◌∙◌}
use Rattle.zarr_path.proofs.OrderLaws.{pointwise-same}
use Rattle.tree_model.proofs.lists.same_path.Goals as goal

pub returns : goal.returns
returns c = c.eq.ensures ∙ pointwise-same c.args.path.now c.args.other.now
