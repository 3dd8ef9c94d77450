use Rattle.std.proofs.Common.{sym}
use Rattle.expiry.specs.inside.Looking.{look_rest}
use Rattle.expiry.proofs.StepsPlay.{refs-next, refs-tags, refs-done}
use Rattle.expiry.proofs.going.next_ref.Goals as goal

pub returns-in-Next-clause-comes : goal.returns-in-Next-clause-comes
returns-in-Next-clause-comes c = refs-next c.args.terms c.args.refs c.in-Next.turn c.in-Next.key c.new.result.key (look_rest c.new.result) c.in-Next.ensures c.new.ensures.program c.new.ensures.key

pub returns-in-Branches-clause-comes : goal.returns-in-Branches-clause-comes
returns-in-Branches-clause-comes c = refs-tags c.args.terms c.args.refs c.in-Over.refs c.to_tags.result c.in-Over.ensures.0 c.in-Over.ensures.1 (sym c.in-Branches.ensures) c.to_tags.ensures

pub returns-in-Tags-clause-comes : goal.returns-in-Tags-clause-comes
returns-in-Tags-clause-comes c = refs-done c.args.terms c.args.refs c.in-Over.refs c.into_cases.result c.in-Over.ensures.0 c.in-Over.ensures.1 (sym c.in-Tags.ensures) c.into_cases.ensures
