use Rattle.std.proofs.Common.{arith}
use Rattle.intact.specs.Parts.{entries_of}
use Rattle.intact.proofs.Places.{few-parts}
use Rattle.intact.proofs.parts.ManifestPlace.new.Goals as goal

pub returns-clause-few : goal.returns-clause-few
returns-clause-few c = omega (arith, few-parts c.args.visit.now.want (entries_of c.args.visit.now.node c.args.held), c.entry_count-few.ensures, c.entry_count-few.type_inv)
