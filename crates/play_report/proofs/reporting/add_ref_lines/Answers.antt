use Rattle.std.proofs.Common.{ap, arith}
use Rattle.std.proofs.lemmas.List.{take_all}
use Rattle.std.specs.List.{flat_map}
use Rattle.drafts.proofs.Taking.{took_as, took_none, took_on}
use Rattle.play_report.proofs.Lines.{each-item}
use Rattle.play_report.specs.Report.{ref_line}
use Rattle.play_report.proofs.reporting.add_ref_lines.Goals as goal

pub loop-line-init : goal.loop-line-init
loop-line-init g c = took_none _ _

pub loop-line-preserved : goal.loop-line-preserved
loop-line-preserved g c = took_as (each-item (ref_line) c.args.refs.now c.loop-line.line-index c.line-item.result (omega arith) c.line-item.is) (took_on c.loop-line.invariant c.add_ref_line.ensures)

pub returns : goal.returns
returns g c = took_as (ap (flat_map (ref_line)) (take_all c.loop-line.line-index c.args.refs.now (omega arith))) c.loop-line.invariant
