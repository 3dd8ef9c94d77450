use Rattle.std.proofs.Common.{sym, subst}
use Rattle.std.specs.Prelude.{Result}
use Rattle.store_api.specs.declared.machines.Refusal.{Refusal}
use Rattle.store_api.specs.Plays.{Play, Comes}
use Rattle.commit_path.specs.declared.commit.Tried.{Tried}
use Rattle.commit_path.specs.Committing.{session_in, message_in, commit_rest}
use Rattle.play_outcome.specs.declared.outcome.Outcome.{Outcome}
use Rattle.play_tasks.specs.Playing.{doubt_play, after_commit}
use Rattle.play_outcome.specs.Settling.{settled}
use Rattle.play_tasks.specs.inside.Working.{after_lost, working_rest}
use Rattle.play_tasks.proofs.Machines.{behind-same}
use Rattle.play_outcome.proofs.Stepping.{acts}
use Rattle.play_tasks.proofs.commits.step_committing.Goals as goal

pub returns-clause-acts : goal.returns-clause-acts
returns-clause-acts g c =
    let task = c.args.task.now in
    let line = c.args.line in
    let shown = c.args.shown in
    let tries = c.args.tries in
    let was = c.args.commit in
    let now = c.step-answer.new.self in
    let old = g.S.Viewed.view c.args.store.now in
    let new = g.S.Viewed.view c.step-answer.new.store in
    let to = working_rest task c.after_committing.result in
    let behind = behind-same tries.left tries.policy line shown (message_in was) (message_in now) (session_in was) (session_in now) c.step-answer.ensures.session c.step-answer.ensures.message in
    let comes = subst (λ (f : Result Tried Refusal → Play Outcome). Comes (settled f (commit_rest now) c.step-answer.result) to) (sym behind) (c.after_committing.ensures.goes task) in
    acts (after_commit line shown (doubt_play shown (session_in was)) (after_lost tries.left tries.policy line shown (message_in was) (session_in was))) to old new (commit_rest was) (commit_rest now) c.step-answer.result c.requires.live c.step-answer.ensures.step comes (c.after_committing.ensures.blames task)
