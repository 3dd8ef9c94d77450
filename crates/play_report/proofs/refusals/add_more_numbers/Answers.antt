use Rattle.std.proofs.Common.{ap, arith}
use Rattle.std.proofs.lemmas.List.{take_all}
use Rattle.std.specs.List.{flat_map}
use Rattle.drafts.proofs.Taking.{took_as, took_none, took_on}
use Rattle.play_report.proofs.Lines.{each-next, next_number, numbers-each}
use Rattle.play_report.proofs.refusals.add_more_numbers.Goals as goal

pub loop-number-init : goal.loop-number-init
loop-number-init g c = took_none _ _

pub loop-number-preserved : goal.loop-number-preserved
loop-number-preserved g c = took_as (each-next next_number c.args.numbers.now c.loop-number.number-index 0 (omega arith)) (took_on c.loop-number.invariant c.add_next_number.ensures)

pub returns : goal.returns
returns g c = took_as (numbers-each c.args.numbers.now) (took_as (ap (flat_map next_number) (take_all c.loop-number.number-index c.args.numbers.now (omega arith))) c.loop-number.invariant)
