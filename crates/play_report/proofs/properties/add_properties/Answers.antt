use Rattle.std.proofs.Common.{ap, arith, ℕ, List}
use Rattle.std.proofs.lemmas.List.{take_all}
use Rattle.std.specs.List.{flat_map}
use Rattle.drafts.proofs.Taking.{took_as, took_none, took_on}
use Rattle.play_report.proofs.Lines.{each-got}
use Rattle.play_report.specs.Report.{property_line}
use Rattle.play_report.proofs.properties.add_properties.Goals as goal

pub loop-at-init : goal.loop-at-init
loop-at-init g c = took_none _ _

pub loop-at-preserved : goal.loop-at-preserved
loop-at-preserved g c =
    let prop : List ℕ × List ℕ = (c.row.result.0.now, c.row.result.1.now) in
    took_as (each-got (property_line c.args.name.now c.args.line) c.args.props.now c.loop-at.at prop c.row.ensures) (took_on c.loop-at.invariant c.add_property_line.ensures)

pub returns : goal.returns
returns g c = took_as (ap (flat_map (property_line c.args.name.now c.args.line)) (take_all c.loop-at.at c.args.props.now (omega arith))) c.loop-at.invariant
