use Rattle.std.proofs.Common.{◌∙◌, ap, refl, subst, sym}
use Rattle.std.specs.Prelude.{Result}
use Rattle.store_api.specs.declared.machines.Next.{Next}
use Rattle.store_api.specs.declared.machines.Refusal.{Refusal}
use Rattle.store_api.specs.Plays.{Comes}
use Rattle.commit_path.specs.declared.commit.Tried.{Tried}
use Rattle.commit_path.specs.Committing.{session_in, message_in, commit_rest}
use Rattle.play_outcome.specs.Settling.{settled, tells_fault}
use Rattle.play_tasks.specs.Playing.{doubt_play, after_commit}
use Rattle.play_tasks.specs.inside.Working.{after_lost, working_rest}
use Rattle.play_tasks.proofs.Machines.{again-faults, well-faults}
use Rattle.play_tasks.proofs.commits.after_committing.Goals as goal

pub returns-in-Ok-Again-clause-blames : goal.returns-in-Ok-Again-clause-blames
returns-in-Ok-Again-clause-blames c = λ task.
    let tries = c.args.tries in
    let commit = c.args.commit in
    let f = after_commit c.args.line c.args.shown (doubt_play c.args.shown (session_in commit)) (after_lost tries.left tries.policy c.args.line c.args.shown (message_in commit) (session_in commit)) in
    let again = rw c.in-Ok-Again.is at c.in-Ok-Again.field-0-is in
    again-faults c.args.answer (commit_rest commit) f c.in-Ok-Again.field-0 refl c.requires.live c.in-Ok-Again.is again

pub returns-in-Ok-Ready-Lost-clause-blames : goal.returns-in-Ok-Ready-Lost-clause-blames
returns-in-Ok-Ready-Lost-clause-blames c = λ task. well-faults c.args.answer task c.after_loss.result c.after_loss.ensures.clean

pub returns-in-Err-clause-goes : goal.returns-in-Err-clause-goes
returns-in-Err-clause-goes c = λ task.
    let tries = c.args.tries in
    let commit = c.args.commit in
    let lost = after_lost tries.left tries.policy c.args.line c.args.shown (message_in commit) (session_in commit) in
    let to = working_rest task c.after_refusal.result in
    subst (λ (answer : Result (Next Tried) Refusal). Comes (settled (after_commit c.args.line c.args.shown (doubt_play c.args.shown (session_in commit)) lost) (commit_rest commit) answer) to) (sym c.in-Err.is) (c.after_refusal.ensures.goes task lost)

pub returns-in-Err-clause-blames : goal.returns-in-Err-clause-blames
returns-in-Err-clause-blames c = λ task doomed. ap tells_fault c.in-Err.is ∙ c.after_refusal.ensures.blames task doomed
