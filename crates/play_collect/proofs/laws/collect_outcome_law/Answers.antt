use Rattle.play_collect.proofs.Lasting.{CollectedTells-others}
use Rattle.play_collect.proofs.laws.collect_outcome_law.Goals as goal

pub returns : goal.returns
returns c = λ by line cutoff outcome start journal more others. CollectedTells-others cutoff by start journal more others line outcome
