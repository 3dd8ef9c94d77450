use Rattle.expiry.specs.Resting.{expire_rest}
use Rattle.play_expire.specs.Playing.{outcome_of}
use Rattle.store_api.proofs.Ended.{has-ended}
use Rattle.play_expire.proofs.worker.ExpireWorker.into_outcome.Goals as goal

pub into_outcome-requires : goal.into_outcome-requires
into_outcome-requires c = has-ended (outcome_of c.args.self.line) (expire_rest c.args.self.expire) c.requires
