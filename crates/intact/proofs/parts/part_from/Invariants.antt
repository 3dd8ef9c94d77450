use Rattle.std.proofs.Common.{◌≡◌, drop}
use Rattle.intact.specs.Parts.{parts_in}
use Rattle.intact.proofs.parts.part_from.Given as goal

abbrev pub invariant-loop-i : goal.invariant-loop-i
invariant-loop-i l = parts_in l.want (drop l.from l.refs) ≡ parts_in l.want (drop l.i l.refs)
