use Rattle.std.proofs.Common.{refl, lit≤}
use Rattle.snapshot_file.specs.Snapshots.{first_unlisted}
use Rattle.hostile_tests.proofs.lying.snapshot_of.Goals as goal

-- it has no nodes and no manifests
pub returns : goal.returns
unfolding first_unlisted
returns c = rw c.new.ensures (rw c.new-3.ensures (record { few = lit≤ tt; nodes = tt; files = tt; listed = refl }))
