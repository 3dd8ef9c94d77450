use Rattle.std.proofs.Common.{arith}
use Rattle.drafts.proofs.Taking.{took_as, took_none, took_on}
use Rattle.play_report.proofs.Lines.{tasks-next, tasks-all}
use Rattle.play_report.proofs.reporting.add_tasks.Goals as goal

pub loop-place-init : goal.loop-place-init
loop-place-init g c = took_none _ _

pub loop-place-preserved : goal.loop-place-preserved
loop-place-preserved g c = took_as (tasks-next (λ n. n.now) c.args.names.now c.args.outcomes.now c.loop-place.place _ c.index-outcomes-place.result (omega arith) (omega arith) c.index-outcomes-place.is) (took_on c.loop-place.invariant c.add_outcome.ensures)

pub returns : goal.returns
returns g c = took_as (tasks-all (λ n. n.now) c.args.names.now c.args.outcomes.now c.loop-place.place (omega arith)) c.loop-place.invariant
