use Rattle.zarr_changes.proofs.TouchLaws.{ended}
use Rattle.zarr_changes.proofs.net.kinds_of.Goals as goal

pub returns : goal.returns
returns c = ended c.loop-found.rows c.args.rows c.loop-found.kinds c.loop-found.invariant c.in_default.ensures.row
