use Rattle.std.proofs.Common.{◌∙◌}
use Rattle.held_manifest.proofs.Numbers.{same_test}
use Rattle.held_manifest.proofs.chunks.RefView.is.Goals as goal

pub returns : goal.returns
returns c = c.is_eq.ensures ∙ same_test c.args.self.now.index c.args.index.now c.compare.result c.compare.ensures
