use Rattle.std.proofs.Common.{sym, ◌∙◌, ap}
use Rattle.mirror.proofs.Landing.{seen-by, seen-tag, seen-same, seen-other}
use Rattle.mirror.proofs.mirror.Mirror.after_target.Goals as goal

pub returns-in-None-clause-lands : goal.returns-in-None-clause-lands
returns-in-None-clause-lands c = ap (seen-by c.args.self.now) (sym c.in-None.is)

pub returns-then-first-clause-lands : goal.returns-then-first-clause-lands
returns-then-first-clause-lands c = seen-tag c.args.self.now c.first.result.now c.first.ensures.0 c.first.ensures.1 c.in-Some.there c.if-first.true ∙ ap (seen-by c.args.self.now) (sym c.in-Some.is)

pub returns-then-eq-clause-lands : goal.returns-then-eq-clause-lands
returns-then-eq-clause-lands c =
    c.told_ref.ensures.lands ∙ (seen-same c.args.self.now c.first.result.now c.first.ensures.0 c.first.ensures.1 c.in-Some.there c.if-first.false (sym c.eq.ensures ∙ c.if-eq.true) ∙ ap (seen-by c.args.self.now) (sym c.in-Some.is))

pub returns-else-eq-clause-lands : goal.returns-else-eq-clause-lands
returns-else-eq-clause-lands c =
    seen-other c.args.self.now c.first.result.now c.first.ensures.0 c.first.ensures.1 c.in-Some.there c.if-first.false (sym c.eq.ensures ∙ c.if-eq.false) ∙ ap (seen-by c.args.self.now) (sym c.in-Some.is)
