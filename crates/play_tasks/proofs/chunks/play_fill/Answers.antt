use Rattle.session.specs.Chunks.{set_program, filled}
use Rattle.play_tasks.proofs.Calm.{set-calm}
use Rattle.play_tasks.proofs.chunks.play_fill.Goals as goal

pub returns-clause-comes : goal.returns-clause-comes
returns-clause-comes c = λ access. c.after_call.ensures.comes c.args.session (set_program c.args.session c.args.path.now c.args.index.now (filled c.args.session c.args.path.now c.args.byte)) c.fill_chunk.ensures.sets

pub returns-clause-clean : goal.returns-clause-clean
returns-clause-clean c =
    let bytes = filled c.args.session c.args.path.now c.args.byte in
    c.after_call.ensures.clean c.args.session (set_program c.args.session c.args.path.now c.args.index.now bytes) c.fill_chunk.ensures.sets (set-calm c.args.session c.args.path.now c.args.index.now bytes)
