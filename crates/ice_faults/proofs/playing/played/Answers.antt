use Rattle.store_api.specs.Journal.{Each}
use Rattle.ice_faults.proofs.playing.played.Goals as goal

pub run-requires-clause-good : goal.run-requires-clause-good
unfolding Each
run-requires-clause-good g c κs = rw c.new-store.ensures.inner (rw c.new-memory.ensures.journal (λ lives tells. tt))
