use Rattle.std.proofs.Common.{◌≡◌, ◌∙◌, ap, arith}
use Rattle.std.specs.Prelude.{slice_get}
use Rattle.std.specs.FinMap.{entries, len-entries}
use Rattle.tree_model.proofs.Walk.{walked, before_end, its_first}
use Rattle.tree_model.proofs.nodes.Nodes.row.Goals as goal

pub loop-preserved : goal.loop-preserved
loop-preserved c =
    walked (entries c.args.self.now) c.loop.rows c.next.new.self c.loop.counter c.next.result
    (omega (arith, c.loop-test.true, c.requires, len-entries c.args.self.now)) c.next.ensures.row c.loop.invariant

pub unreachable-requires : goal.unreachable-requires
unreachable-requires c =
    before_end (entries c.args.self.now) c.loop.rows c.next-2.new.self c.loop.counter c.next-2.result
    (omega (arith, c.loop-test.false, c.loop.auto.counter-end, c.requires, len-entries c.args.self.now)) c.next-2.ensures.row c.loop.invariant c.in-None.is

pub returns-clause-row : goal.returns-clause-row
returns-clause-row c =
    let at : c.args.at ≡ c.loop.counter = omega (arith, c.loop-test.false, c.loop.auto.counter-end) in
    ap (slice_get (entries c.args.self.now)) at
    ∙ its_first (entries c.args.self.now) c.loop.rows c.next-2.new.self c.loop.counter c.in-Some.row c.next-2.result c.next-2.ensures.row c.loop.invariant c.in-Some.is
