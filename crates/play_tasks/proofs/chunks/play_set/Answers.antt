use Rattle.session.specs.Chunks.{set_program}
use Rattle.play_tasks.proofs.Calm.{set-calm}
use Rattle.play_tasks.proofs.chunks.play_set.Goals as goal

pub returns-clause-comes : goal.returns-clause-comes
returns-clause-comes c = λ access. c.after_call.ensures.comes c.args.session (set_program c.args.session c.args.path.now c.args.index.now c.args.bytes.now) c.set_chunk.ensures.sets

pub returns-clause-clean : goal.returns-clause-clean
returns-clause-clean c = c.after_call.ensures.clean c.args.session (set_program c.args.session c.args.path.now c.args.index.now c.args.bytes.now) c.set_chunk.ensures.sets (set-calm c.args.session c.args.path.now c.args.index.now c.args.bytes.now)
