use Rattle.rebase.specs.Rebasing.{rebase_rest}
use Rattle.play_tasks.specs.Playing.{after_rebase, commit_play}
use Rattle.play_tasks.specs.inside.Working.{working_rest}
use Rattle.play_outcome.proofs.Stepping.{acts}
use Rattle.play_tasks.proofs.commits.step_rebasing.Goals as goal

pub returns-clause-acts : goal.returns-clause-acts
returns-clause-acts g c =
    let task = c.args.task.now in
    let tries = c.args.tries in
    let old = g.S.Viewed.view c.args.store.now in
    let new = g.S.Viewed.view c.step-answer.new.store in
    acts (after_rebase c.args.line c.args.shown (commit_play tries.left tries.policy c.args.line c.args.shown c.args.message)) (working_rest task c.after_rebasing.result) old new (rebase_rest c.args.rebase) (rebase_rest c.step-answer.new.self) c.step-answer.result c.requires c.step-answer.ensures.step (c.after_rebasing.ensures.goes task) (c.after_rebasing.ensures.blames task)
