use Rattle.std.proofs.Common.{◌∙◌, ap, refl, subst, sym}
use Rattle.std.specs.Prelude.{Result, Ok}
use Rattle.store_api.specs.declared.machines.Next.{Next}
use Rattle.store_api.specs.declared.machines.Refusal.{Refusal}
use Rattle.store_api.specs.Plays.{Comes}
use Rattle.rebase.specs.declared.machine.Rebased.{Rebased}
use Rattle.rebase.specs.Rebasing.{rebase_rest}
use Rattle.play_tasks.specs.Playing.{after_rebase, commit_play}
use Rattle.play_outcome.specs.Settling.{settled}
use Rattle.play_tasks.specs.inside.Working.{working_rest}
use Rattle.play_tasks.proofs.Machines.{again-faults, rebase-answers, stop-faults, well-faults}
use Rattle.play_tasks.proofs.commits.after_rebasing.Goals as goal

pub returns-in-Ok-Again-clause-blames : goal.returns-in-Ok-Again-clause-blames
returns-in-Ok-Again-clause-blames c = λ task.
    let again = commit_play c.args.tries.left c.args.tries.policy c.args.line c.args.shown c.args.message in
    again-faults c.args.answer (rebase_rest c.args.rebase) (after_rebase c.args.line c.args.shown again) c.in-Ok-Again.field-0 refl c.requires c.in-Ok-Again.is c.in-Ok-Again.field-0-is

pub returns-in-Ok-Ready-clause-goes : goal.returns-in-Ok-Ready-clause-goes
returns-in-Ok-Ready-clause-goes c = λ task.
    let line = c.args.line in
    let shown = c.args.shown in
    let again = commit_play c.args.tries.left c.args.tries.policy line shown c.args.message in
    let to = working_rest task c.begin_commit.result in
    subst (λ (answer : Result (Next Rebased) Refusal). Comes (settled (after_rebase line shown again) (rebase_rest c.args.rebase) answer) to) (sym (c.in-Ok-Ready.is ∙ ap (λ (next : Next Rebased). Ok next) c.in-Ok-Ready.field-0-is))
    (rebase-answers line shown again c.in-Ok-Ready.rebased c.rebased_session-session.result to c.rebased_session-session.ensures (c.begin_commit.ensures.comes task))

pub returns-in-Ok-Ready-clause-blames : goal.returns-in-Ok-Ready-clause-blames
returns-in-Ok-Ready-clause-blames c = λ task. well-faults c.args.answer task c.begin_commit.result c.begin_commit.ensures.clean

pub returns-in-Err-clause-blames : goal.returns-in-Err-clause-blames
returns-in-Err-clause-blames c = λ task. stop-faults c.args.answer c.in-Err.why c.args.line c.args.shown task c.stop.result c.in-Err.is c.stop.ensures
