use Rattle.std.proofs.Common.{ap, arith}
use Rattle.std.proofs.lemmas.List.{take_all}
use Rattle.std.specs.List.{flat_map}
use Rattle.drafts.proofs.Taking.{took_as, took_none, took_on}
use Rattle.play_report.proofs.Lines.{each-item}
use Rattle.play_report.specs.Report.{case_lines}
use Rattle.play_report.proofs.cases.add_cases.Goals as goal

pub loop-case-init : goal.loop-case-init
loop-case-init g c = took_none _ _

pub loop-case-preserved : goal.loop-case-preserved
loop-case-preserved g c = took_as (each-item (case_lines c.args.task.now c.args.line) c.args.cases.now c.loop-case.case-index c.case-item.result (omega arith) c.case-item.is) (took_on c.loop-case.invariant c.add_case_lines.ensures)

pub returns : goal.returns
returns g c = took_as (ap (flat_map (case_lines c.args.task.now c.args.line)) (take_all c.loop-case.case-index c.args.cases.now (omega arith))) c.loop-case.invariant
