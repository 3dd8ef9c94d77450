use Rattle.std.proofs.Common.{ap, arith}
use Rattle.std.proofs.lemmas.List.{take_all}
use Rattle.std.specs.List.{flat_map}
use Rattle.drafts.proofs.Taking.{took_as, took_none, took_on}
use Rattle.play_report.proofs.Lines.{each-item}
use Rattle.play_report.specs.Report.{left_lines}
use Rattle.play_report.proofs.reporting.add_all_left.Goals as goal

pub loop-shown-init : goal.loop-shown-init
loop-shown-init g c = took_none _ _

pub loop-shown-preserved : goal.loop-shown-preserved
loop-shown-preserved g c = took_as (each-item (left_lines c.args.name.now) c.args.all.now c.loop-shown.shown-index c.shown-item.result (omega arith) c.shown-item.is) (took_on c.loop-shown.invariant c.add_left_lines.ensures)

pub returns : goal.returns
returns g c = took_as (ap (flat_map (left_lines c.args.name.now)) (take_all c.loop-shown.shown-index c.args.all.now (omega arith))) c.loop-shown.invariant
