use Rattle.std.proofs.Common.{◌∙◌, ap, arith, sym}
use Rattle.script_calls.specs.declared.calls.Call.TheVariants as call
use Rattle.play_outcome.specs.declared.outcome.End.TheVariants.{Done}
use Rattle.play_outcome.specs.Playing.{ended}
use Rattle.play_refs.specs.inside.Working.{working_rest}
use Rattle.play_refs.proofs.Leaving.{one_ref, one_on, at_end}
use Rattle.play_refs.proofs.lines.play_lines.Goals as goal

pub returns-in-Ref-clause-leaves : goal.returns-in-Ref-clause-leaves
returns-in-Ref-clause-leaves c =
    let body = c.args.body.now in
    let own = c.deref.result.now in
    let is = c.in-Ref.is ∙ ap call.Ref (sym c.deref.ensures) in
    let q = working_rest body c.begin_call.result in
    c.loop-at.invariant.1 q (one_ref body c.loop-at.at c.index-body-at.result own c.args.shown.items q c.loop-at-test.true c.index-body-at.is is (c.begin_call.ensures.comes body))

pub loop-at-preserved : goal.loop-at-preserved
loop-at-preserved c =
    let before = c.loop-at.invariant.0 in (
      omega (arith, before),
      λ q k. c.loop-at.invariant.1 q (one_on c.args.body.now c.loop-at.at c.index-body-at.result c.args.shown.items q c.loop-at-test.true c.index-body-at.is c.in_default.not-Ref k),
    )

pub returns-clause-leaves : goal.returns-clause-leaves
returns-clause-leaves c = c.loop-at.invariant.1 (ended c.from_vec.result Done) (at_end c.args.body.now c.loop-at.at c.args.shown.items c.from_vec.result c.loop-at-test.false c.from_vec.ensures)
