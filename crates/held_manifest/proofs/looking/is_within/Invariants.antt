use Rattle.std.proofs.Common.{◌≡◌, drop}
use Rattle.held_manifest.specs.LookUp.{within}
use Rattle.held_manifest.proofs.looking.is_within.Given as goal

abbrev pub invariant-loop-k : goal.invariant-loop-k
invariant-loop-k l = within (drop l.k l.extents) (drop l.k l.index) ≡ within l.extents l.index
