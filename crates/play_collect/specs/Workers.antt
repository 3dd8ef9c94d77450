-- What a worker that collects has still to do.
use Rattle.std.specs.Prelude.{ℕ}
use Rattle.store_api.specs.Plays.{Play, ended_as}
use Rattle.chunk_gc.specs.Resting.{collect_rest, collect_left}
use Rattle.play_outcome.specs.declared.outcome.Outcome.{Outcome}
use Rattle.play_collect.specs.declared.worker.CollectWorker.{CollectWorker}
use Rattle.play_collect.specs.Playing.{outcome_of}

-- what is still to be done
abbrev pub collecting_rest : CollectWorker → Play Outcome
collecting_rest w = ended_as (outcome_of w.line) (collect_rest w.collect)

-- how many steps are left at most
abbrev pub collecting_left : CollectWorker → ℕ
collecting_left w = collect_left w.collect
