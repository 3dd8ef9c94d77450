-- What a worker that expires has still to do.
use Rattle.std.specs.Prelude.{ℕ}
use Rattle.store_api.specs.Plays.{Play, ended_as}
use Rattle.expiry.specs.Resting.{expire_rest, expire_left}
use Rattle.play_outcome.specs.declared.outcome.Outcome.{Outcome}
use Rattle.play_expire.specs.declared.worker.ExpireWorker.{ExpireWorker}
use Rattle.play_expire.specs.Playing.{outcome_of}

-- what is still to be done
abbrev pub expiring_rest : ExpireWorker → Play Outcome
expiring_rest w = ended_as (outcome_of w.line) (expire_rest w.expire)

-- how many steps are left at most
abbrev pub expiring_left : ExpireWorker → ℕ
expiring_left w = expire_left w.expire
