use Rattle.std.proofs.Common.{arith}
use Rattle.array_region.proofs.Ranged.{range_refused, none_refused}
use Rattle.array_region.proofs.giving.refused.Goals as goal

pub returns-in-Some : goal.returns-in-Some
returns-in-Some c = range_refused c.args.plan.now.array.kind c.args.plan.now.count c.args.numbers.now (omega arith) c.in-Some.at c.in-Some.ensures

pub returns-in-None : goal.returns-in-None
returns-in-None c = none_refused c.args.plan.now.array.kind c.args.plan.now.count c.args.numbers.now (omega arith) c.in-None.ensures
