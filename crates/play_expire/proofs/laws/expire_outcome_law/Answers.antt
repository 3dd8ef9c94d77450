use Rattle.play_expire.proofs.Lasting.{ExpiredTells-more}
use Rattle.play_expire.proofs.laws.expire_outcome_law.Goals as goal

pub returns : goal.returns
returns c = λ by line terms outcome start journal more others. ExpiredTells-more line terms by.number start journal more outcome
