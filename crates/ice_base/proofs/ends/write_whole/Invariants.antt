use Rattle.std.proofs.Common.{◌≤◌, ◌-◌, length, take}
use Rattle.ice_base.specs.Ends.{Appended}
use Rattle.ice_base.proofs.ends.write_whole.Given as goal

-- what has been written is what was appended
abbrev pub invariant-loop-at : goal.invariant-loop-at
invariant-loop-at g l =
    record {
      within : l.at ≤ length l.bytes;
      faults : (g.K.Sink.at l.fn.sink).faults ≤ (g.K.Sink.at l.sink).faults;
      written : Appended (g.K.Sink.at l.fn.sink).written (g.K.Sink.at l.sink).written (take l.at l.bytes);
    }

abbrev pub decreases-loop-at : goal.decreases-loop-at
decreases-loop-at g l = length l.bytes - l.at
