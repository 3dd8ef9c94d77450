use Rattle.std.proofs.Common.{ap, arith, get_or, rules}
use Rattle.std.specs.Prelude.{pos, FitsSigned}
use Rattle.std.specs.Int.{w128}
use Rattle.std.specs.List.{flat_map}
use Rattle.std.proofs.lemmas.Int.{to_z-of_z}
use Rattle.std.proofs.lemmas.List.{take_all}
use Rattle.drafts.proofs.Taking.{took_as, took_none, took_on}
use Rattle.play_report.specs.Report.{next_cell}
use Rattle.play_report.proofs.Lines.{each-next}
use Rattle.play_report.proofs.cells.add_more_cells.Goals as goal

pub loop-number-init : goal.loop-number-init
loop-number-init g c = took_none _ _

pub loop-number-preserved : goal.loop-number-preserved
loop-number-preserved g c =
    let number = get_or c.args.numbers.now c.loop-number.number-index (pos 0) in
    let fits : FitsSigned w128 number = search rules in
    took_as (each-next next_cell c.args.numbers.now c.loop-number.number-index (pos 0) (omega arith))
    (took_on c.loop-number.invariant (took_as (ap next_cell (to_z-of_z w128 number fits)) c.add_next_cell.ensures))

pub returns : goal.returns
returns g c = took_as (ap (flat_map next_cell) (take_all c.loop-number.number-index c.args.numbers.now (omega arith))) c.loop-number.invariant
