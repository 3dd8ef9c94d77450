use Rattle.std.proofs.Common.{subst}
use Rattle.object_store.specs.declared.keys.Key.{Key}
use Rattle.store_api.specs.Plays.{Comes}
use Rattle.expiry.specs.Plays.{after_look}
use Rattle.expiry.specs.inside.Looking.{look_rest}
use Rattle.expiry.specs.inside.Expiring.{case_rest, expiring_rest, settled}
use Rattle.expiry.proofs.StepsPlay.{look-acts}
use Rattle.expiry.proofs.going.step_looking.Goals as goal

pub returns-clause-acts : goal.returns-clause-acts
returns-clause-acts g c =
    let rest = expiring_rest c.args.terms c.after_step.result in
    let comes = subst (λ (key : Key). Comes (settled (after_look key (case_rest c.args.terms key c.args.turn)) (look_rest c.step-answer.new.self) c.step-answer.result) rest) c.step-answer.ensures.kept.0 c.after_step.ensures.comes in
    look-acts (after_look c.args.look.key (case_rest c.args.terms c.args.look.key c.args.turn)) rest (g.S.Viewed.view c.args.store.now) (g.S.Viewed.view c.step-answer.new.store) (look_rest c.args.look) (look_rest c.step-answer.new.self) c.step-answer.result c.requires c.step-answer.ensures.step comes c.after_step.ensures.blames
