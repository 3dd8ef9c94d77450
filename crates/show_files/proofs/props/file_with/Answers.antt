use Rattle.std.proofs.Common.{sym, subst}
use Rattle.snapshot_file.specs.declared.snapshot.SnapshotFile.{SnapshotFile}
use Rattle.snapshot_file.specs.Layout.{IsWritable}
use Rattle.snapshot_file.proofs.InitialLaws.{initial_can}
use Rattle.show_files.proofs.props.file_with.Goals as goal

-- properties change nothing of what is asked
pub write-written-requires : goal.write-written-requires
write-written-requires c = subst (λ (s : SnapshotFile). IsWritable (record s { props = c.args.props })) (sym c.in_ok-snapshot.ensures) (initial_can c.args.props)
