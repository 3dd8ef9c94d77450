use Rattle.play_tasks.proofs.Others.{TellsOutcome-others}
use Rattle.play_tasks.proofs.laws.outcome_law.Goals as goal

pub returns : goal.returns
returns c by ids task outcome start journal more others =
    TellsOutcome-others (record { refs = c.refs_outcome_law.ensures; collect = c.collect_outcome_law.ensures; expire = c.expire_outcome_law.ensures; check = c.check_outcome_law.ensures }) by start journal more others ids task outcome
