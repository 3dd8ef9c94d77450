use Rattle.chunk_gc.specs.Resting.{collect_rest}
use Rattle.play_collect.specs.Playing.{outcome_of}
use Rattle.store_api.proofs.Ended.{has-ended}
use Rattle.play_collect.proofs.worker.CollectWorker.into_outcome.Goals as goal

pub into_outcome-requires : goal.into_outcome-requires
into_outcome-requires c = has-ended (outcome_of c.args.self.line) (collect_rest c.args.self.collect) c.requires
