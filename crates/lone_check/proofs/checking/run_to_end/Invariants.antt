use Rattle.play_check.specs.Workers.{checking_left}
use Rattle.lone_check.specs.inside.Going.{HasCome}
use Rattle.lone_check.proofs.checking.run_to_end.Given as goal

abbrev pub invariant-loop-worker : goal.invariant-loop-worker
invariant-loop-worker g l = HasCome (g.S.Viewed.view l.initial.store) (g.S.Viewed.view l.store) l.worker

abbrev pub decreases-loop-worker : goal.decreases-loop-worker
decreases-loop-worker g l = checking_left l.worker
