use Rattle.std.proofs.Common.{◌≡◌, ◌/◌, ◌-◌, ◌*◌, length, drop}
use Rattle.xxh_sum.specs.Sums.{striped, start}
use Rattle.xxh_sum.proofs.striped.Given as goal

abbrev pub invariant-loop-i : goal.invariant-loop-i
invariant-loop-i l =
    striped (length l.bytes / 32 - l.i) (drop (32 * l.i) l.bytes) l.lanes ≡ striped (length l.bytes / 32) l.bytes start
