use Rattle.std.proofs.Common.{inr, refl}
use Rattle.object_store.specs.declared.keys.Key.TheVariants.{Snapshot}
use Rattle.repo_check.specs.Works.{Work, meet_snapshot, tell}
use Rattle.repo_check.specs.Plays.{walks}
use Rattle.repo_check.specs.inside.Working.{checking_rest}
use Rattle.repo_check.proofs.Answering.{worked-or, starved-same}
use Rattle.repo_check.proofs.course.Course.miss_snapshot.Goals as goal

pub returns-in-Ok-clause-comes : goal.returns-in-Ok-clause-comes
returns-in-Ok-clause-comes c =
    worked-or (λ (w : Work). walks c.args.self.now.roots (tell (Snapshot c.args.id) c.args.kind w)) (meet_snapshot c.args.id c.args.self.now.work) c.meet_snapshot.new.self c.args.self.now.work (checking_rest c.end_walk.result c.end_walk.new.self) c.in-Ok.ensures.ok refl c.end_walk.ensures.comes

pub returns-in-Err-clause-comes : goal.returns-in-Err-clause-comes
returns-in-Err-clause-comes c = inr (starved-same c.meet_snapshot.new.self c.args.self.now.work c.in-Err.ensures.err)
