use Rattle.std.proofs.Common.{ap, ◌∙◌}
use Rattle.std.specs.FinMap.{get}
use Rattle.zarr_tree.proofs.KeptLaws.{found_in}
use Rattle.zarr_changes.proofs.added.Added.find.Goals as goal

pub returns : goal.returns
returns c = c.get.ensures.value ∙ found_in c.self.inside.nodes.entries c.args.path.now ∙ ap (λ nodes. get nodes c.args.path.now) c.self.view_is
