use Rattle.std.proofs.Common.{List, ℕ, ap, refl}
use Rattle.object_store.specs.declared.keys.Key.TheVariants.{Snapshot}
use Rattle.object_store.specs.declared.keys.Why.TheVariants.{Expire}
use Rattle.object_store.specs.declared.events.Op.TheVariants.{PutOver}
use Rattle.expiry.specs.Plays.{cut_told}
use Rattle.expiry.specs.inside.Expiring.{case_rest, expiring_rest}
use Rattle.expiry.proofs.StepsHeard.{cut-tells}
use Rattle.expiry.proofs.StepsPlay.{heard-acts}
use Rattle.expiry.proofs.going.step_cutting.Goals as goal

pub returns-clause-acts : goal.returns-clause-acts
returns-clause-acts g c =
    let cut = c.args.cut in
    heard-acts (cut_told cut.id) (case_rest c.args.terms cut.key c.args.turn) _ (λ reply. refl) (g.S.Viewed.view c.args.store.now) (g.S.Viewed.view c.perform-answer.new.store) (expiring_rest c.args.terms c.after_deciding.result)
    _ _ (ap (λ (bytes : List ℕ). PutOver (Snapshot cut.id) bytes cut.version Expire) c.as_slice.ensures.value) (cut-tells cut.id cut.bytes cut.version) c.perform-answer.result c.perform-answer.ensures.called c.perform-answer.ensures.fits c.perform-answer.ensures.answered
    c.cut_heard.result c.cut_heard.ensures c.after_deciding.ensures.comes c.after_deciding.ensures.blames
