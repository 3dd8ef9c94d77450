use Rattle.std.proofs.Common.{ap, arith}
use Rattle.std.proofs.lemmas.List.{take_all}
use Rattle.std.specs.List.{flat_map}
use Rattle.drafts.proofs.Taking.{took_as, took_none, took_on}
use Rattle.play_report.proofs.Lines.{each-item}
use Rattle.run_mirror.specs.Texts.{ref_text}
use Rattle.run_mirror.proofs.telling.add_refs.Goals as goal

pub loop-told-init : goal.loop-told-init
loop-told-init g c = took_none _ _

pub loop-told-preserved : goal.loop-told-preserved
loop-told-preserved g c = took_as (each-item ref_text c.args.refs.now c.loop-told.told-index c.told-item.result (omega arith) c.told-item.is) (took_on c.loop-told.invariant c.add_ref.ensures)

pub returns : goal.returns
returns g c = took_as (ap (flat_map ref_text) (take_all c.loop-told.told-index c.args.refs.now (omega arith))) c.loop-told.invariant
