use Rattle.expiry.specs.Plays.{drop_op}
use Rattle.expiry.proofs.StepsPlay.{called-none}
use Rattle.expiry.proofs.going.drop_ref.Goals as goal

pub returns-in-Err-clause-called : goal.returns-in-Err-clause-called
returns-in-Err-clause-called g c = called-none (drop_op c.args.key.now c.args.version) (g.S.Viewed.view c.args.store.now)
