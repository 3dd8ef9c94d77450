use Rattle.commit_path.specs.Committing.{session_in}
use Rattle.settle.specs.inside.Working.{settle_rest}
use Rattle.play_tasks.proofs.Doubting.{settling-begun, settling-works}
use Rattle.play_tasks.proofs.doubts.begin_settling.Goals as goal

pub returns-clause-rest : goal.returns-clause-rest
returns-clause-rest c = λ task. settling-begun c.args.shown (session_in c.args.commit) c.args.snapshot c.base-base.result c.into_branch-branch.result (settle_rest c.new.result) c.new.ensures.program c.into_branch-branch.ensures c.base-base.ensures

pub returns-clause-works : goal.returns-clause-works
returns-clause-works c = settling-works c.into_branch-branch.result (record { snapshot = c.args.snapshot; base = c.base-base.result }) (settle_rest c.new.result) c.new.ensures.program
