use Rattle.std.proofs.Common.{◌≤◌, ◌-◌, length}
use Rattle.ice_base.specs.Ends.{Taken}
use Rattle.ice_base.proofs.ends.read_input.Given as goal

-- what has been read is what was taken from the source
abbrev pub invariant-loop-buffer : goal.invariant-loop-buffer
invariant-loop-buffer g l =
    record {
      within : length l.bytes ≤ l.most;
      faults : (g.S.Source.at l.initial.source).faults ≤ (g.S.Source.at l.source).faults;
      taken : Taken (g.S.Source.at l.initial.source).left (g.S.Source.at l.source).left l.bytes;
    }

abbrev pub decreases-loop-buffer : goal.decreases-loop-buffer
decreases-loop-buffer g l = l.most - length l.bytes
