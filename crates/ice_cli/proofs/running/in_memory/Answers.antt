use Rattle.std.proofs.Common.{refl}
use Rattle.store_api.specs.Journal.{Each}
use Rattle.ice_cli.proofs.Endings.{by-run}
use Rattle.ice_cli.proofs.running.in_memory.Goals as goal

pub run_over-ended-requires-clause-good : goal.run_over-ended-requires-clause-good
unfolding Each
run_over-ended-requires-clause-good g c κs = rw c.new-store.ensures.journal (λ lives tells. tt)

pub returns : goal.returns
returns g c = by-run _ _ _ _ _ _ c.run_over-ended.ensures c.end_with_words.ensures (refl, c.new-store.ensures.journal)
