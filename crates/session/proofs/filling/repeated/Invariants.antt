use Rattle.std.proofs.Common.{◌≡◌, ◌≤◌, ◌-◌, length}
use Rattle.std.specs.Prelude.{replicate}
use Rattle.session.proofs.filling.repeated.Given as goal

-- those so far, and no more than asked for
abbrev pub invariant-loop-piece : goal.invariant-loop-piece
invariant-loop-piece l =
    record {
      within : length l.bytes.items ≤ l.len;
      alike : l.bytes.items ≡ replicate (length l.bytes.items) l.byte;
    }

abbrev pub decreases-loop-piece : goal.decreases-loop-piece
decreases-loop-piece l = l.len - length l.bytes.items
