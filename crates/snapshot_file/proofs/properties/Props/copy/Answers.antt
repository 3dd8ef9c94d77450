use Rattle.std.proofs.Common.{◌≡◌, sym, subst, arith}
use Rattle.std.proofs.lemmas.Grind.{common_steps}
use Rattle.snapshot_file.specs.Props.{AreProps}
use Rattle.snapshot_file.proofs.properties.Props.copy.Goals as goal

pub from_rows-requires : goal.from_rows-requires
from_rows-requires c =
    let same : c.loop-name.rows.items ≡ c.args.self.now = grind (arith, common_steps) in
    subst AreProps (sym same) c.rows-name-items.ensures.rule
