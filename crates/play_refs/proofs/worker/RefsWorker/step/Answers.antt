use Rattle.std.proofs.Common.{sym, subst}
use Rattle.store_api.specs.Plays.{Acts}
use Rattle.play_outcome.specs.Ending.{is_failed}
use Rattle.play_refs.specs.declared.working.Working.{Working}
use Rattle.play_refs.specs.inside.Working.{working_rest}
use Rattle.play_refs.proofs.Plain.{acts-plain}
use Rattle.play_refs.proofs.worker.RefsWorker.step.Goals as goal

pub returns-clause-acts : goal.returns-clause-acts
returns-clause-acts g c =
    let body = c.args.self.now.body.now in
    let old = g.S.Viewed.view c.args.store.now in
    let new = g.S.Viewed.view c.step_on-next.new.store in
    let first = c.replace-state.result in
    let next = c.step_on-next.result in
    subst (λ (state : Working). Acts is_failed old new (working_rest body c.args.self.now.state) (working_rest body state)) (sym c.replace-ended.ensures.after)
    (subst (λ (state : Working). Acts is_failed old new (working_rest body state) (working_rest body next)) c.replace-state.ensures.value
    (acts-plain body old new (working_rest body first) next c.step_on-next.ensures.works c.step_on-next.ensures.plain c.step_on-next.ensures.acts))
