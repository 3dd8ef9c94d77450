use Rattle.std.proofs.Common.{refl}
use Rattle.session.specs.Opening.{open_rest}
use Rattle.play_tasks.specs.Playing.{after_open}
use Rattle.play_tasks.proofs.Machines.{again-faults, well-faults}
use Rattle.play_tasks.proofs.steps.after_opening.Goals as goal

pub returns-in-Ok-Again-clause-blames : goal.returns-in-Ok-Again-clause-blames
returns-in-Ok-Again-clause-blames c =
    let task = c.args.task.now in
    again-faults c.args.answer (open_rest c.args.opener) (after_open task.access.now task.line task.body.now) c.in-Ok-Again.field-0 refl c.requires c.in-Ok-Again.is c.in-Ok-Again.field-0-is

pub returns-in-Ok-Ready-clause-blames : goal.returns-in-Ok-Ready-clause-blames
returns-in-Ok-Ready-clause-blames c = well-faults c.args.answer c.args.task.now c.play_lines.result c.play_lines.ensures.clean
