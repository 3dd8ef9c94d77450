use Rattle.std.proofs.Common.{inr}
use Rattle.object_store.specs.declared.keys.Key.TheVariants.{Manifest}
use Rattle.repo_check.specs.Works.{Work, meet_file, tell}
use Rattle.repo_check.specs.inside.Working.{files_rest, checking_rest}
use Rattle.repo_check.proofs.Answering.{worked, starved-same}
use Rattle.repo_check.proofs.course.Course.miss_file.Goals as goal

pub returns-in-Ok-clause-comes : goal.returns-in-Ok-clause-comes
returns-in-Ok-clause-comes c =
    worked (λ (w : Work). files_rest c.args.self.now.left c.args.self.now.roots c.args.place w) (tell (Manifest c.args.visit.manifest) c.args.kind (meet_file c.args.visit c.args.self.now.work)) c.miss_file.new.self c.args.self.now.work (checking_rest c.next_file.result c.next_file.new.self) c.in-Ok.ensures.ok c.next_file.ensures.comes

pub returns-in-Err-clause-comes : goal.returns-in-Err-clause-comes
returns-in-Err-clause-comes c = inr (starved-same c.miss_file.new.self c.args.self.now.work c.in-Err.ensures.err)
