use Rattle.std.proofs.Common.{refl}
use Rattle.expiry.specs.Plays.{drop_told, drop_op}
use Rattle.expiry.specs.inside.Expiring.{case_rest, expiring_rest}
use Rattle.expiry.proofs.StepsHeard.{drop-tells}
use Rattle.expiry.proofs.StepsPlay.{heard-acts}
use Rattle.expiry.proofs.going.step_dropping.Goals as goal

pub returns-clause-acts : goal.returns-clause-acts
returns-clause-acts g c =
    heard-acts drop_told (case_rest c.args.terms c.args.key c.args.turn) _ (λ reply. refl) (g.S.Viewed.view c.args.store.now) (g.S.Viewed.view c.drop_ref-answer.new.store) (expiring_rest c.args.terms c.after_deciding.result)
    _ (drop_op c.args.key c.args.version) refl (drop-tells c.args.key c.args.version c.requires.drops) c.drop_ref-answer.result c.drop_ref-answer.ensures.called c.drop_ref-answer.ensures.fits c.drop_ref-answer.ensures.answered
    c.drop_heard.result c.drop_heard.ensures c.after_deciding.ensures.comes c.after_deciding.ensures.blames
