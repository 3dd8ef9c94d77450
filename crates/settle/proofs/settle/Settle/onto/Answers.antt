use Rattle.std.proofs.Common.{sym, ◌∙◌}
use Rattle.settle.proofs.Steps.{state-over, other-lands, way-deep, way-next}
use Rattle.settle.proofs.settle.Settle.onto.Goals as goal

pub returns-then-way-eq0-clause-lands : goal.returns-then-way-eq0-clause-lands
returns-then-way-eq0-clause-lands c = (state-over c.args.self.now.doubt _ c.requires.ended, λ n. other-lands _ _ (sym c.met.ensures ∙ c.in_default.is) ∙ way-deep c.args.self.now.doubt c.args.way.head c.args.way.left c.args.way.next c.if-way-eq0.true)

pub returns-clause-lands : goal.returns-clause-lands
returns-clause-lands c = rw c.put_back.ensures (other-lands _ _ (sym c.met.ensures ∙ c.in_default.is), way-next c.args.self.now.doubt c.args.way.head c.args.way.left c.args.way.next c.if-way-eq0.false)
