use Rattle.std.proofs.Common.{refl}
use Rattle.array_region.specs.Filling.{region_set_rest}
use Rattle.play_tasks.specs.inside.Working.{after_set, lines_from}
use Rattle.play_tasks.proofs.Machines.{again-faults, stop-faults, well-faults, well-works}
use Rattle.play_tasks.proofs.steps.after_putting.Goals as goal

pub returns-in-Ok-Again-clause-blames : goal.returns-in-Ok-Again-clause-blames
returns-in-Ok-Again-clause-blames c =
    again-faults c.args.answer (region_set_rest c.args.set) (after_set c.args.line c.args.shown.items (lines_from c.args.task.now c.args.at)) c.in-Ok-Again.field-0 refl c.requires c.in-Ok-Again.is c.in-Ok-Again.field-0-is

pub returns-in-Ok-Ready-clause-works : goal.returns-in-Ok-Ready-clause-works
returns-in-Ok-Ready-clause-works c = well-works c.play_lines.result c.play_lines.ensures.clean

pub returns-in-Ok-Ready-clause-blames : goal.returns-in-Ok-Ready-clause-blames
returns-in-Ok-Ready-clause-blames c = well-faults c.args.answer c.args.task.now c.play_lines.result c.play_lines.ensures.clean

pub returns-in-Err-clause-blames : goal.returns-in-Err-clause-blames
returns-in-Err-clause-blames c = stop-faults c.args.answer c.in-Err.why c.args.line c.args.shown.items c.args.task.now c.refuse.result c.in-Err.is c.refuse.ensures
