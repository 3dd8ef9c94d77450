use Rattle.std.proofs.Common.{Result, Ok, ap, ◌∙◌, subst}
use Rattle.object_store.specs.declared.keys.Key.{Key}
use Rattle.store_api.specs.declared.machines.Next.{Next}
use Rattle.store_api.specs.declared.machines.Refusal.{Refusal}
use Rattle.store_api.specs.Plays.{Comes}
use Rattle.expiry.specs.declared.look.Decision.{Decision}
use Rattle.expiry.specs.Plays.{after_look, decide}
use Rattle.expiry.specs.inside.Looking.{look_rest}
use Rattle.expiry.specs.inside.Expiring.{case_rest, expiring_rest}
use Rattle.expiry.proofs.StepsPlay.{settled-ready}
use Rattle.expiry.proofs.going.after_step.Goals as goal

pub returns-in-Ok-Ready-clause-comes : goal.returns-in-Ok-Ready-clause-comes
returns-in-Ok-Ready-clause-comes c =
    let own : Next Decision → Result (Next Decision) Refusal = λ x. Ok x in
    let decision = c.in-Ok-Ready.decision in
    let r = expiring_rest c.args.terms c.decide.result in
    settled-ready (after_look c.args.look.key (case_rest c.args.terms c.args.look.key c.args.turn)) (look_rest c.args.look) c.args.answer decision r
    (c.in-Ok-Ready.is ∙ ap (λ (x : Next Decision). own x) c.in-Ok-Ready.field-0-is)
    (subst (λ (key : Key). Comes (decide key (case_rest c.args.terms key c.args.turn) decision) r) c.into_key.ensures c.decide.ensures.comes)
