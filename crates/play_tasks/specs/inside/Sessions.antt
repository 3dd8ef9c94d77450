-- What the worker of a session has still to do.
use Rattle.std.specs.Prelude.{ℕ, length}
use Rattle.store_api.specs.Plays.{Play}
use Rattle.play_outcome.specs.declared.outcome.Outcome.{Outcome}
use Rattle.play_tasks.specs.declared.session_worker.SessionWorker.{SessionWorker}
use Rattle.play_tasks.specs.inside.Phases.{phase_rest, phase_left}

abbrev pub session_rest : SessionWorker → Play Outcome
session_rest w = phase_rest w.task w.phase

abbrev pub session_left : SessionWorker → ℕ
session_left w = phase_left (length w.task.body.now) w.phase
