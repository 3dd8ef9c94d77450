use Rattle.std.proofs.Common.{◌∙◌, ◌<◌, sym, ap, subst, arith, length}
use Rattle.store_api.specs.Plays.{Acts, PlayIsPolite}
use Rattle.leases.proofs.Following.{followed-polite}
use Rattle.play_outcome.specs.Ending.{is_failed}
use Rattle.play_tasks.specs.declared.working.Phase.{Phase}
use Rattle.play_tasks.specs.Playing.{release_all}
use Rattle.play_tasks.specs.inside.Working.{working_rest}
use Rattle.play_tasks.specs.inside.Phases.{is_phase, phase_rest, phase_left}
use Rattle.play_tasks.proofs.Phases.{phase-acts, phase-live, phase-open}
use Rattle.play_tasks.proofs.session_worker.step_phase.Goals as goal

pub step_on-requires-clause-live : goal.step_on-requires-clause-live
step_on-requires-clause-live g c = phase-live c.args.task.now c.in-Playing.state (sym (ap is_phase c.in-Playing.is) ∙ c.requires.works)

pub step_on-requires-clause-works : goal.step_on-requires-clause-works
step_on-requires-clause-works g c = (phase-open c.in-Playing.state (sym (ap is_phase c.in-Playing.is) ∙ c.requires.works)).1

pub step_on-requires-clause-polite : goal.step_on-requires-clause-polite
step_on-requires-clause-polite g c = λ tells.
    let task = c.args.task.now in
    let seen = (g.S.Viewed.view c.args.store.now).seen in
    followed-polite release_all (working_rest task c.in-Playing.state) seen (phase-live task c.in-Playing.state (sym (ap is_phase c.in-Playing.is) ∙ c.requires.works))
    (subst (λ (x : Phase). PlayIsPolite (phase_rest task x) seen) c.in-Playing.is (c.requires.polite tells))

pub returns-in-Playing-clause-acts : goal.returns-in-Playing-clause-acts
returns-in-Playing-clause-acts g c =
    let task = c.args.task.now in
    let old = g.S.Viewed.view c.args.store.now in
    let new = g.S.Viewed.view c.step_on.new.store in
    subst (λ (x : Phase). Acts is_failed old new (phase_rest task x) (phase_rest task c.phase_of.result)) (sym c.in-Playing.is)
    (phase-acts task c.in-Playing.state c.step_on.result c.phase_of.result old new c.step_on.ensures.acts (c.phase_of.ensures.rest task) c.phase_of.ensures.works)

pub returns-in-Playing-clause-falls : goal.returns-in-Playing-clause-falls
returns-in-Playing-clause-falls g c =
    let n = length c.args.task.now.body.now in
    let few = c.phase_of.ensures.few n in
    let falls = c.step_on.ensures.falls in
    subst (λ (x : Phase). phase_left n c.phase_of.result < phase_left n x) (sym c.in-Playing.is) (omega (arith, few, falls))
