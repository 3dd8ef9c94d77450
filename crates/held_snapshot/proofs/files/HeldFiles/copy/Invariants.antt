use Rattle.std.proofs.Common.{◌≡◌, take}
use Rattle.held_snapshot.proofs.files.HeldFiles.copy.Given as goal

abbrev pub invariant-loop-i : goal.invariant-loop-i
invariant-loop-i l = l.files.items ≡ take l.i l.self
