use Rattle.std.proofs.Common.{◌≡◌}
use Rattle.script_values.specs.Words.{parts, pieces, seen}
use Rattle.script_values.specs.Parts.{each}
use Rattle.script_values.specs.SoFar.{parts_seen}
use Rattle.script_values.proofs.Earliest.{joined, left_size}
use Rattle.script_values.proofs.lists.listed_in.Given as goal

abbrev pub invariant-loop-left : goal.invariant-loop-left
invariant-loop-left g l = joined (parts_seen l.numbers) (each g.N.Listed.stands_for (pieces 44 (seen l.left))) ≡ each g.N.Listed.stands_for (parts 44 l.fn.word)

abbrev pub decreases-loop-left : goal.decreases-loop-left
decreases-loop-left g l = left_size (seen l.left)
