use Rattle.std.proofs.Common.{inr, List, ap}
use Rattle.object_store.specs.declared.events.Entry.{Entry}
use Rattle.live_refs.specs.Live.{live}
use Rattle.repo_check.specs.Works.{Work}
use Rattle.repo_check.specs.Plays.{starved, then_tags}
use Rattle.repo_check.specs.inside.Working.{checking_rest, checking_left}
use Rattle.repo_check.proofs.Answering.{named, branches-named}
use Rattle.repo_check.proofs.course.Course.on_branches.Goals as goal

pub returns-in-Ok-clause-comes : goal.returns-in-Ok-clause-comes
returns-in-Ok-clause-comes c =
    named then_tags c.args.self.now c.take_names.new.self (live c.args.listed.now.entries) (live c.as_slice.result.now) (checking_rest c.next_branch.result c.next_branch.new.self)
    (ap (λ (entries : List Entry). live entries) c.as_slice.ensures) c.in-Ok.ensures.names c.next_branch.ensures.comes

pub returns-in-Ok-clause-falls : goal.returns-in-Ok-clause-falls
returns-in-Ok-clause-falls c =
    branches-named c.args.self.now c.take_names.new.self (live c.as_slice.result.now) (checking_left c.next_branch.result c.next_branch.new.self) c.in-Ok.ensures.names c.in-Ok.ensures.few c.next_branch.ensures.falls

pub returns-in-Err-clause-comes : goal.returns-in-Err-clause-comes
returns-in-Err-clause-comes c = inr (ap (λ (w : Work). starved w) c.in-Err.ensures.err)
