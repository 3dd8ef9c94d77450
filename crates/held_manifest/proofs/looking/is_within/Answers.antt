use Rattle.std.proofs.Common.{sym}
use Rattle.held_manifest.proofs.Within.{within_unequal}
use Rattle.held_manifest.proofs.looking.is_within.Goals as goal

pub returns-then-extents-index : goal.returns-then-extents-index
returns-then-extents-index c = sym (within_unequal _ _ c.if-extents-index.true)
