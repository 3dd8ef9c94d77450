use Rattle.std.proofs.Common.{ap, ◌∙◌}
use Rattle.std.specs.FinMap.{len}
use Rattle.zarr_tree.proofs.KeptLaws.{counted}
use Rattle.zarr_changes.proofs.added.Added.len.Goals as goal

pub returns : goal.returns
returns c = c.len.ensures.len ∙ counted c.self.inside.nodes.entries c.self.invariant.0 ∙ ap len c.self.view_is
