use Rattle.std.proofs.Common.{◌∙◌}
use Rattle.zarr_path.proofs.OrderLaws.{pointwise-same}
use Rattle.zarr_tree.proofs.frozen.same_lengths.Goals as goal

pub returns : goal.returns
returns c = c.eq.ensures ∙ (λ i. pointwise-same (c.as_slice.ensures i) (c.as_slice-2.ensures i) i)
