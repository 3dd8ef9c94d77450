use Rattle.std.proofs.Common.{ap, sym, ◌∙◌, ◌++◌, List}
use Rattle.play_tasks.specs.declared.worker.Worker.{Worker}
use Rattle.play_run.proofs.Rounds.{ended_next}
use Rattle.play_run.proofs.workers.take_outcomes.Goals as goal

pub into_outcome-requires : goal.into_outcome-requires
into_outcome-requires c =
    ended_next c.args.workers.items c.loop-worker.yielded c.next.new.self.rest.items c.in-Some.worker (ap (λ (ws : List Worker). c.loop-worker.yielded ++ ws) (sym c.in-Some.ensures.steps.0) ∙ c.loop-worker.invariant.1) c.requires.ended
