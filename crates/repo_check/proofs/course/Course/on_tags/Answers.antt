use Rattle.std.proofs.Common.{inr, List, ap}
use Rattle.object_store.specs.declared.events.Entry.{Entry}
use Rattle.live_refs.specs.Live.{live}
use Rattle.repo_check.specs.Works.{Work}
use Rattle.repo_check.specs.Plays.{starved, walks}
use Rattle.repo_check.specs.inside.Working.{checking_rest, checking_left}
use Rattle.repo_check.proofs.Answering.{named, tags-named}
use Rattle.repo_check.proofs.course.Course.on_tags.Goals as goal

pub returns-in-Ok-clause-comes : goal.returns-in-Ok-clause-comes
returns-in-Ok-clause-comes c =
    named walks c.args.self.now c.take_names.new.self (live c.args.listed.now.entries) (live c.as_slice.result.now) (checking_rest c.next_tag.result c.next_tag.new.self)
    (ap (λ (entries : List Entry). live entries) c.as_slice.ensures) c.in-Ok.ensures.names c.next_tag.ensures.comes

pub returns-in-Ok-clause-falls : goal.returns-in-Ok-clause-falls
returns-in-Ok-clause-falls c =
    tags-named c.args.self.now c.take_names.new.self (live c.as_slice.result.now) (checking_left c.next_tag.result c.next_tag.new.self) c.in-Ok.ensures.names c.in-Ok.ensures.few c.next_tag.ensures.falls

pub returns-in-Err-clause-comes : goal.returns-in-Err-clause-comes
returns-in-Err-clause-comes c = inr (ap (λ (w : Work). starved w) c.in-Err.ensures.err)
