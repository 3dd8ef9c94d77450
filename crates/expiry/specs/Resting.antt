-- What an expiry has still to do.
use Rattle.std.specs.Prelude.{ℕ}
use Rattle.store_api.specs.Plays.{Play}
use Rattle.expiry.specs.declared.standing.Expired.{Expired}
use Rattle.expiry.specs.declared.expire.Expire.{Expire}
use Rattle.expiry.specs.inside.Expiring.{expiring_rest, expiring_left}

abbrev pub expire_rest : Expire → Play Expired
expire_rest e = expiring_rest e.terms e.state

-- how many steps are left at most
abbrev pub expire_left : Expire → ℕ
expire_left e = expiring_left e.state
