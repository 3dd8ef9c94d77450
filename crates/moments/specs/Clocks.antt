-- The machine's clock (own).
use Rattle.std.specs.Prelude.{ℕ}
use Rattle.moments.specs.declared.wall_clock.WallClock.{WallClock}

-- the last moment that it gave
abbrev pub last_of : {R : Type 0} → WallClock R → ℕ
last_of clock = clock.last
