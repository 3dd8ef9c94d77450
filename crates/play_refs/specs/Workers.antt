-- What a worker has still to do.
use Rattle.std.specs.Prelude.{ℕ, length}
use Rattle.store_api.specs.Plays.{Play}
use Rattle.play_outcome.specs.declared.outcome.Outcome.{Outcome}
use Rattle.play_refs.specs.declared.worker.RefsWorker.{RefsWorker}
use Rattle.play_refs.specs.inside.Working.{working_rest, working_left}

-- what is still to be done
abbrev pub refs_rest : RefsWorker → Play Outcome
refs_rest w = working_rest w.body.now w.state

-- how many steps are left at most
abbrev pub refs_left : RefsWorker → ℕ
refs_left w = working_left (length w.body.now) w.state
