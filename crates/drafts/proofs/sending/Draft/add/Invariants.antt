use Rattle.std.proofs.Common.{◌≤◌, ◌-◌, length, take}
use Rattle.drafts.specs.Drafts.{Took}
use Rattle.drafts.proofs.sending.Draft.add.Given as goal

-- what has been added is what was taken
abbrev pub invariant-loop-at : goal.invariant-loop-at
invariant-loop-at g l =
    record {
      within : l.at ≤ length l.bytes;
      took : Took l.fn.self (g.K.Sink.at l.fn.to) (take l.at l.bytes) l.self (g.K.Sink.at l.to);
    }

abbrev pub decreases-loop-at : goal.decreases-loop-at
decreases-loop-at g l = length l.bytes - l.at
