use Rattle.std.proofs.Common.{inr}
use Rattle.object_store.specs.declared.keys.Key.TheVariants.{Snapshot}
use Rattle.repo_check.specs.Works.{Work, tell}
use Rattle.repo_check.specs.Plays.{walks}
use Rattle.repo_check.specs.inside.Working.{checking_rest}
use Rattle.repo_check.proofs.Answering.{worked, starved-same}
use Rattle.repo_check.proofs.course.Course.end_walk.Goals as goal

pub returns-in-Ok-clause-comes : goal.returns-in-Ok-clause-comes
returns-in-Ok-clause-comes c =
    worked (λ (w : Work). walks c.args.self.now.roots w) (tell (Snapshot c.args.id) c.args.kind c.args.self.now.work) c.tell.new.self c.args.self.now.work (checking_rest c.next_root.result c.next_root.new.self) c.in-Ok.ensures.ok c.next_root.ensures.comes

pub returns-in-Err-clause-comes : goal.returns-in-Err-clause-comes
returns-in-Err-clause-comes c = inr (starved-same c.tell.new.self c.args.self.now.work c.in-Err.ensures.err)
