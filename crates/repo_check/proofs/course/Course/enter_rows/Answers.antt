use Rattle.std.proofs.Common.{inr}
use Rattle.repo_check.specs.Works.{Work, meet_snapshot}
use Rattle.repo_check.specs.Plays.{read_on, walk, walks}
use Rattle.repo_check.specs.inside.Working.{checking_rest}
use Rattle.repo_check.proofs.Answering.{worked, starved-same}
use Rattle.repo_check.proofs.course.Course.enter_rows.Goals as goal

pub returns-in-Ok-clause-comes : goal.returns-in-Ok-clause-comes
returns-in-Ok-clause-comes c =
    worked (λ (w : Work). read_on (walk c.args.self.now.left (walks c.args.self.now.roots)) c.args.id c.args.loaded w (walks c.args.self.now.roots)) (meet_snapshot c.args.id c.args.self.now.work) c.meet_snapshot.new.self c.args.self.now.work (checking_rest c.read_on.result c.read_on.new.self) c.in-Ok.ensures.ok c.read_on.ensures.comes

pub returns-in-Err-clause-comes : goal.returns-in-Err-clause-comes
returns-in-Err-clause-comes c = inr (starved-same c.meet_snapshot.new.self c.args.self.now.work c.in-Err.ensures.err)
