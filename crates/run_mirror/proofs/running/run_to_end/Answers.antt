use Rattle.two_stores.specs.Sides.{pair_of}
use Rattle.mirror.specs.inside.Working.{mirror_rest}
use Rattle.run_mirror.proofs.Coming.{came-may, come-on, both-alone}
use Rattle.run_mirror.proofs.running.run_to_end.Goals as goal

pub step-requires-clause-polite : goal.step-requires-clause-polite
step-requires-clause-polite g c =
    came-may (pair_of (g.S.Viewed.view c.args.from.now) (g.T.Viewed.view c.args.to.now)) (pair_of (g.S.Viewed.view c.loop-mirror.from) (g.T.Viewed.view c.loop-mirror.to)) (mirror_rest c.loop-mirror.mirror) c.loop-mirror.invariant

pub loop-mirror-preserved : goal.loop-mirror-preserved
loop-mirror-preserved g c =
    come-on c.mirror_law.ensures (pair_of (g.S.Viewed.view c.args.from.now) (g.T.Viewed.view c.args.to.now)) (pair_of (g.S.Viewed.view c.loop-mirror.from) (g.T.Viewed.view c.loop-mirror.to)) (pair_of (g.S.Viewed.view c.step.new.from) (g.T.Viewed.view c.step.new.to)) (mirror_rest c.loop-mirror.mirror) (mirror_rest c.step.new.self)
    (both-alone (pair_of (g.S.Viewed.view c.loop-mirror.from) (g.T.Viewed.view c.loop-mirror.to)) (g.met.S.WholeStore.alone c.loop-mirror.from) (g.met.T.WholeStore.alone c.loop-mirror.to)) c.loop-mirror.invariant c.step.ensures.step
