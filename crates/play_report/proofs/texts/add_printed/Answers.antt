use Rattle.std.proofs.Common.{ap, arith, map}
use Rattle.std.proofs.lemmas.List.{take_all}
use Rattle.drafts.proofs.Taking.{took_as, took_none, took_on}
use Rattle.play_report.proofs.Lines.{map-next}
use Rattle.play_report.specs.Report.{printed}
use Rattle.play_report.proofs.texts.add_printed.Goals as goal

pub loop-byte-init : goal.loop-byte-init
loop-byte-init g c = took_none _ _

pub loop-byte-preserved : goal.loop-byte-preserved
loop-byte-preserved g c = took_as (map-next printed c.args.text.now c.loop-byte.byte-index (omega arith)) (took_on c.loop-byte.invariant c.add_printed_byte.ensures)

pub returns : goal.returns
returns g c = took_as (ap (map printed) (take_all c.loop-byte.byte-index c.args.text.now (omega arith))) c.loop-byte.invariant
