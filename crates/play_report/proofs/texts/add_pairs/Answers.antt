use Rattle.std.proofs.Common.{ap, arith}
use Rattle.std.proofs.lemmas.List.{take_all}
use Rattle.std.specs.List.{flat_map}
use Rattle.drafts.proofs.Taking.{took_as, took_none, took_on}
use Rattle.play_report.proofs.Lines.{each-next}
use Rattle.play_report.specs.Report.{byte_text}
use Rattle.play_report.proofs.texts.add_pairs.Goals as goal

pub loop-byte-init : goal.loop-byte-init
loop-byte-init g c = took_none _ _

pub loop-byte-preserved : goal.loop-byte-preserved
loop-byte-preserved g c = took_as (each-next byte_text c.args.bytes.now c.loop-byte.byte-index 0 (omega arith)) (took_on c.loop-byte.invariant c.add_pair.ensures)

pub returns : goal.returns
returns g c = took_as (ap (flat_map byte_text) (take_all c.loop-byte.byte-index c.args.bytes.now (omega arith))) c.loop-byte.invariant
