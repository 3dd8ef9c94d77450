use Rattle.std.proofs.Common.{sym, subst, IfOk}
use Rattle.object_store.specs.declared.events.Op.{Op}
use Rattle.store_api.specs.Callers.{Called, MayCall, Fits}
use Rattle.repo_check.specs.inside.Working.{checking_op}
use Rattle.repo_check.proofs.Acting.{called-none, polite-op}
use Rattle.repo_check.proofs.asking.ask.Goals as goal

pub perform-answer-requires : goal.perform-answer-requires
perform-answer-requires g c =
    let view = g.S.Viewed.view c.args.store.now in
    subst (λ (op : Op). MayCall view op) (sym c.in-Ok.ensures) (polite-op c.args.state.now view)

pub returns-in-Ok-clause-called : goal.returns-in-Ok-clause-called
returns-in-Ok-clause-called g c =
    subst (λ (op : Op). Called (λ reply. reply) op c.perform-answer.result (g.S.Viewed.view c.args.store.now) (g.S.Viewed.view c.perform-answer.new.store)) c.in-Ok.ensures c.perform-answer.ensures.called

pub returns-in-Ok-clause-fits : goal.returns-in-Ok-clause-fits
returns-in-Ok-clause-fits g c = subst (λ (op : Op). IfOk c.perform-answer.result (Fits op)) c.in-Ok.ensures c.perform-answer.ensures.fits

pub returns-in-Err-clause-called : goal.returns-in-Err-clause-called
returns-in-Err-clause-called g c = called-none (checking_op c.args.state.now) (g.S.Viewed.view c.args.store.now)
