use Rattle.std.proofs.Common.{Ok}
use Rattle.object_store.specs.declared.events.Op.TheVariants.{Get}
use Rattle.expiry.specs.Looks.{ref_seen, look_named}
use Rattle.expiry.specs.inside.Looking.{look_rest}
use Rattle.expiry.proofs.StepsHeard.{ref-tells}
use Rattle.repo_read.proofs.Hearing.{refused, went}
use Rattle.expiry.proofs.StepsLook.{state-over}
use Rattle.expiry.proofs.look.Look.on_ref.Goals as goal

pub returns-in-Ok-clause-took : goal.returns-in-Ok-clause-took
returns-in-Ok-clause-took c =
    let key = c.args.self.now.key in
    went (Get key) (ref_seen key) (look_named c.args.self.now.terms key) (ref-tells key) c.args.reply c.in-Ok.named c.in-Ok.ensures.told (look_rest c.after_ref.new.self) (Ok c.after_ref.result) c.after_ref.ensures.lands tt

pub returns-in-Err-clause-took : goal.returns-in-Err-clause-took
returns-in-Err-clause-took c = refused _ _ _ (ref-tells c.args.self.now.key) c.args.reply c.in-Err.why c.requires.fits c.in-Err.ensures.told c.in-Err.ensures.outright _ (state-over _ _ _ c.requires.ended)
