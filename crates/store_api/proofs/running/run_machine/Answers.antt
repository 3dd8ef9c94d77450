use Rattle.store_api.proofs.RunLaws.{stands-again, stands-ready, stands-refused, polite-now}
use Rattle.store_api.proofs.running.run_machine.Goals as goal

pub drive-requires-clause-polite : goal.drive-requires-clause-polite
drive-requires-clause-polite g c = polite-now (g.S.Viewed.view c.loop-answer.store) _ c.loop-answer.invariant.polite

pub loop-answer-preserved : goal.loop-answer-preserved
loop-answer-preserved g c = stands-again _ _ _ _ c.loop-answer.invariant _ _ c.in-Ok-Again.field-0 c.in-Ok-Again.field-0-is c.in-Ok-Again.ensures.step

pub returns-in-Ok-Ready-clause-runs : goal.returns-in-Ok-Ready-clause-runs
returns-in-Ok-Ready-clause-runs g c = stands-ready _ _ _ _ c.loop-answer.invariant _ _ c.in-Ok-Ready.answer c.in-Ok-Ready.field-0 c.in-Ok-Ready.field-0-is c.in-Ok-Ready.ensures.step

pub returns-in-Err-clause-runs : goal.returns-in-Err-clause-runs
returns-in-Err-clause-runs g c = stands-refused _ _ _ _ c.loop-answer.invariant _ _ c.in-Err.refusal c.in-Err.ensures.step
