-- What a worker has still to do.
use Rattle.std.specs.Prelude.{ℕ}
use Rattle.store_api.specs.Plays.{Play}
use Rattle.play_outcome.specs.declared.outcome.Outcome.{Outcome}
use Rattle.play_refs.specs.Workers.{refs_rest, refs_left}
use Rattle.play_collect.specs.Workers.{collecting_rest, collecting_left}
use Rattle.play_expire.specs.Workers.{expiring_rest, expiring_left}
use Rattle.play_check.specs.Workers.{checking_rest, checking_left}
use Rattle.play_tasks.specs.declared.worker.Player.{Player}
use Rattle.play_tasks.specs.declared.worker.Player.TheVariants.{Session, Refs}
use Rattle.play_tasks.specs.declared.worker.Player.TheVariants.{Collect, Expire, Check}
use Rattle.play_tasks.specs.declared.worker.Worker.{Worker}
use Rattle.play_tasks.specs.inside.Sessions.{session_rest, session_left}

abbrev pub player_rest : Player → Play Outcome
player_rest (Session w) = session_rest w
player_rest (Refs w) = refs_rest w
player_rest (Collect w) = collecting_rest w
player_rest (Expire w) = expiring_rest w
player_rest (Check w) = checking_rest w

-- what is still to be done
abbrev pub worker_rest : Worker → Play Outcome
worker_rest w = player_rest w.player

abbrev pub player_left : Player → ℕ
player_left (Session w) = session_left w
player_left (Refs w) = refs_left w
player_left (Collect w) = collecting_left w
player_left (Expire w) = expiring_left w
player_left (Check w) = checking_left w

-- how many steps are left at most
abbrev pub worker_left : Worker → ℕ
worker_left w = player_left w.player
