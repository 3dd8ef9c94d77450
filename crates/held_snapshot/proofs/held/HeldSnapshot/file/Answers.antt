use Rattle.std.proofs.Common.{subst}
use Rattle.snapshot_file.specs.declared.snapshot.SnapshotFile.{SnapshotFile}
use Rattle.snapshot_file.specs.Layout.{IsWritable}
use Rattle.snapshot_file.proofs.WasRead.{payload_writable}
use Rattle.held_snapshot.proofs.Parts.{snapshot_parts}
use Rattle.held_snapshot.proofs.held.HeldSnapshot.file.Goals as goal

pub returns-clause-writable : goal.returns-clause-writable
returns-clause-writable c =
    let parts = snapshot_parts c.self.inside.file c.self.invariant in
    subst (λ (s : SnapshotFile). IsWritable s) c.self.view_is (payload_writable parts.payload _ parts.says)
