use Rattle.std.proofs.Common.{ap}
use Rattle.zarr_changes.specs.inside.Touching.{with_entries}
use Rattle.zarr_changes.proofs.TouchLaws.{ended}
use Rattle.zarr_changes.proofs.chunk_lists.kinds_with.Goals as goal

pub returns : goal.returns
returns g c =
    ended (with_entries c.args.entries.now c.loop-found.overlay) (with_entries c.args.entries.now c.args.overlay) c.loop-found.kinds c.loop-found.invariant
    (ap (with_entries c.args.entries.now) c.in_default.ensures.row)
