use Rattle.std.proofs.Common.{ap, arith}
use Rattle.std.proofs.lemmas.List.{take_all}
use Rattle.std.specs.List.{flat_map}
use Rattle.drafts.proofs.Taking.{took_as, took_none, took_on}
use Rattle.play_report.proofs.Lines.{each-item}
use Rattle.play_report.specs.Report.{fault_line}
use Rattle.play_report.proofs.checks.add_faults.Goals as goal

pub loop-fault-init : goal.loop-fault-init
loop-fault-init g c = took_none _ _

pub loop-fault-preserved : goal.loop-fault-preserved
loop-fault-preserved g c = took_as (each-item (fault_line c.args.task.now) c.args.faults.now c.loop-fault.fault-index c.fault-item.result (omega arith) c.fault-item.is) (took_on c.loop-fault.invariant c.add_fault_line.ensures)

pub returns : goal.returns
returns g c = took_as (ap (flat_map (fault_line c.args.task.now)) (take_all c.loop-fault.fault-index c.args.faults.now (omega arith))) c.loop-fault.invariant
