use Rattle.play_refs.proofs.Playing.{RefsTells-others}
use Rattle.play_refs.proofs.laws.refs_outcome_law.Goals as goal

pub returns : goal.returns
returns c = λ by body outcome start journal more others. RefsTells-others by journal more others body start outcome
