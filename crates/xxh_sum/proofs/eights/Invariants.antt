use Rattle.std.proofs.Common.{◌≡◌, ◌/◌, ◌-◌, ◌*◌, length, drop}
use Rattle.xxh_sum.specs.Sums.{eights}
use Rattle.xxh_sum.proofs.eights.Given as goal

abbrev pub invariant-loop-i : goal.invariant-loop-i
invariant-loop-i l =
    eights (length l.bytes / 8 - l.i) (drop (8 * l.i) l.bytes) l.sum ≡ eights (length l.bytes / 8) l.bytes l.start
