use Rattle.std.proofs.Common.{ap, refl, arith, slice_index_or}
use Rattle.play_script.specs.declared.scripts.Line.{Line}
use Rattle.play_outcome.specs.declared.outcome.End.TheVariants.{Done}
use Rattle.play_outcome.specs.Playing.{ended}
use Rattle.play_tasks.specs.inside.Working.{working_rest}
use Rattle.play_tasks.proofs.Locals.{one_on, one_stop, at_end}
use Rattle.play_tasks.proofs.lines.play_lines.Goals as goal

pub returns-in-Stop-clause-leaves : goal.returns-in-Stop-clause-leaves
returns-in-Stop-clause-leaves c =
    let task = c.args.task.now in
    let body = task.body.now in
    let at = c.loop-at.at in
    let line = slice_index_or body at c.index-task-at.result in
    let is = ap (λ (x : Line). slice_index_or body at x) c.index-task-at.is in
    let state = c.in-Stop.working in
    c.loop-at.invariant.1 (working_rest task state) (one_stop task body at line c.loop-at.session c.loop-at.shown.items state refl c.loop-at-test.true is c.in-Stop.ensures.comes)

pub loop-at-preserved : goal.loop-at-preserved
loop-at-preserved c =
    let task = c.args.task.now in
    let body = task.body.now in
    let at = c.loop-at.at in
    let line = slice_index_or body at c.index-task-at.result in
    let is = ap (λ (x : Line). slice_index_or body at x) c.index-task-at.is in
    let before = c.loop-at.invariant.0 in (
      omega (arith, before),
      λ q k. c.loop-at.invariant.1 q (one_on task body at line c.loop-at.session c.in-On.next c.loop-at.shown.items c.in-On.more.items q refl c.loop-at-test.true is c.in-On.ensures.comes k),
    )

pub returns-clause-leaves : goal.returns-clause-leaves
returns-clause-leaves c =
    let task = c.args.task.now in
    c.loop-at.invariant.1 (ended c.from_vec.result Done) (at_end task task.body.now c.loop-at.at c.loop-at.session c.loop-at.shown.items c.from_vec.result refl c.loop-at-test.false c.from_vec.ensures)
