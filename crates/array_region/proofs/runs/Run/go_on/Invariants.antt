use Rattle.array_region.proofs.Writes.{IsGoing}
use Rattle.array_region.proofs.runs.Run.go_on.Given as goal

abbrev pub invariant-loop-at : goal.invariant-loop-at
invariant-loop-at l = IsGoing l.fn.self l.self l.at
