use Rattle.commit_path.proofs.Walking.{GoesOn}
use Rattle.std.proofs.Common.{length}
use Rattle.commit_path.proofs.commit.Commit.go_on.Given as goal

-- the arrays so far were written without an operation
abbrev pub invariant-loop-self : goal.invariant-loop-self
invariant-loop-self l = GoesOn l.fn.self l.self

abbrev pub decreases-loop-self : goal.decreases-loop-self
decreases-loop-self l = length l.self.arrays.left
