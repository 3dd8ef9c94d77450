use Rattle.std.proofs.Common.{◌≡◌, drop}
use Rattle.intact.specs.Parts.{first_short}
use Rattle.intact.proofs.parts.first_short.Given as goal

abbrev pub invariant-loop-i : goal.invariant-loop-i
invariant-loop-i l = first_short l.want l.refs ≡ first_short l.want (drop l.i l.refs)
