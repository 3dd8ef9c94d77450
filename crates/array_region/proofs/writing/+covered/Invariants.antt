use Rattle.std.proofs.Common.{length}
use Rattle.array_region.proofs.writing.+covered.Given as goal

abbrev pub decreases-covered : goal.decreases-covered
decreases-covered l = length l.sides.chunks.now
