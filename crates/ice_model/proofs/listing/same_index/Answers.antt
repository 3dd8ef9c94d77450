use Rattle.std.proofs.Common.{◌∙◌}
use Rattle.zarr_path.proofs.OrderLaws.{pointwise-same}
use Rattle.ice_model.proofs.listing.same_index.Goals as goal

pub returns : goal.returns
returns c = c.eq.ensures ∙ pointwise-same c.args.index.now c.args.other.now
