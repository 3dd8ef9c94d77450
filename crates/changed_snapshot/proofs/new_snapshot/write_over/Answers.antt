use Rattle.std.proofs.Common.{◌≡◌, ◌∙◌, List, Some, ap, sym, subst}
use Rattle.snapshot_file.specs.declared.nodes.NodeRow.{NodeRow}
use Rattle.snapshot_file.specs.declared.snapshot.ManifestInfo.{ManifestInfo}
use Rattle.snapshot_file.specs.declared.snapshot.SnapshotFile.{SnapshotFile}
use Rattle.snapshot_file.specs.Layout.{IsWritable}
use Rattle.changed_snapshot.specs.Rows.{rows_over, files_with, files_over}
use Rattle.changed_snapshot.proofs.Proper.{writable_over}
use Rattle.changed_snapshot.proofs.new_snapshot.write_over.Goals as goal

-- what is written is the snapshot of the base under the changes
pub write_rows-requires : goal.write_rows-requires
write_rows-requires c =
    let base : SnapshotFile = c.args.base.now in
    let all : List ManifestInfo = files_with base.manifest_files c.args.news.now in
    let file : List NodeRow → List ManifestInfo → SnapshotFile = λ nodes files. record {
      id = c.args.stamp.id;
      parent = Some c.args.stamp.parent;
      nodes = nodes;
      flushed_at = c.args.stamp.flushed_at;
      message = c.args.message.now;
      props = c.args.props.now;
      manifest_files = files;
    } in
    let rows : c.in_ok-rows.rows ≡ rows_over c.args.changes.now c.args.news.now base.nodes = c.in_ok-rows.ensures in
    let old : c.manifest_files.result ≡ base.manifest_files = c.manifest_files.ensures ∙ ap (λ (s : SnapshotFile). s.manifest_files) c.file.ensures.value in
    let with : c.in_ok-files.files ≡ all = c.in_ok-files.ensures ∙ ap (λ (xs : List ManifestInfo). files_with xs c.args.news.now) old in
    let files : c.in_ok-manifest_files.manifest_files ≡ files_over all (rows_over c.args.changes.now c.args.news.now base.nodes) =
    c.in_ok-manifest_files.ensures ∙ (λ i. files_over ((c.as_slice.ensures ∙ with) i) (rows i))
    in
    subst IsWritable (λ i. file (sym rows i) (sym files i)) (writable_over base c.args.changes.now c.args.news.now c.args.stamp c.args.message.now c.args.props.now c.file.ensures.writable c.requires.few)
