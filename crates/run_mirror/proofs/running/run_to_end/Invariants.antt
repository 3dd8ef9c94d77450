use Rattle.two_stores.specs.Sides.{pair_of}
use Rattle.mirror.specs.inside.Working.{mirror_left}
use Rattle.run_mirror.specs.inside.Coming.{HasCome}
use Rattle.run_mirror.proofs.running.run_to_end.Given as goal

abbrev pub invariant-loop-mirror : goal.invariant-loop-mirror
invariant-loop-mirror g l = HasCome (pair_of (g.S.Viewed.view l.initial.from) (g.T.Viewed.view l.initial.to)) (pair_of (g.S.Viewed.view l.from) (g.T.Viewed.view l.to)) l.mirror

abbrev pub decreases-loop-mirror : goal.decreases-loop-mirror
decreases-loop-mirror g l = mirror_left l.mirror
