use Rattle.chunk_gc.specs.Plays.{nothing, after_marking}
use Rattle.chunk_gc.specs.inside.Working.{mark_rest}
use Rattle.chunk_gc.specs.inside.Collecting.{collecting_rest}
use Rattle.chunk_gc.proofs.Acting.{acts}
use Rattle.chunk_gc.proofs.removing.step_marking.Goals as goal

pub returns-clause-acts : goal.returns-clause-acts
returns-clause-acts g c =
    acts (after_marking nothing) (collecting_rest c.after_step.result) (g.S.Viewed.view c.args.store.now) (g.S.Viewed.view c.step-answer.new.store) (mark_rest c.args.mark) (mark_rest c.step-answer.new.self) c.step-answer.result c.requires c.step-answer.ensures.step c.after_step.ensures.comes c.after_step.ensures.blames
