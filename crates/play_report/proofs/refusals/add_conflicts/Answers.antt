use Rattle.std.proofs.Common.{ap, arith}
use Rattle.std.proofs.lemmas.List.{take_all}
use Rattle.std.specs.List.{flat_map}
use Rattle.drafts.proofs.Taking.{took_as, took_none, took_on}
use Rattle.play_report.proofs.Lines.{each-item, next_conflict, conflicts-each}
use Rattle.play_report.proofs.refusals.add_conflicts.Goals as goal

pub loop-conflict-init : goal.loop-conflict-init
loop-conflict-init g c = took_none _ _

pub loop-conflict-preserved : goal.loop-conflict-preserved
loop-conflict-preserved g c = took_as (each-item next_conflict c.args.conflicts.now c.loop-conflict.conflict-index c.conflict-item.result (omega arith) c.conflict-item.is) (took_on c.loop-conflict.invariant c.add_conflict.ensures)

pub returns : goal.returns
returns g c = took_as (conflicts-each c.args.conflicts.now) (took_as (ap (flat_map next_conflict) (take_all c.loop-conflict.conflict-index c.args.conflicts.now (omega arith))) c.loop-conflict.invariant)
