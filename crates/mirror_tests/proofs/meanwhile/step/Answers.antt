use Rattle.std.proofs.Common.{◌∙◌}
use Rattle.two_stores.specs.Sides.{pair_of}
use Rattle.mirror.specs.inside.Working.{mirror_rest}
use Rattle.mirror_tests.proofs.Asking.{may-untold}
use Rattle.mirror_tests.proofs.meanwhile.step.Goals as goal

pub step-requires-clause-polite : goal.step-requires-clause-polite
step-requires-clause-polite g c =
    may-untold (mirror_rest c.args.mirror.now) (pair_of (g.S.Viewed.view c.args.from.now) (g.T.Viewed.view c.args.to.now))
    (g.met.S.WholeStore.told c.args.from.now ∙ c.requires.from) (g.met.T.WholeStore.told c.args.to.now ∙ c.requires.to)
