use Rattle.std.proofs.Common.{◌≡◌, ◌<◌, ◌+◌, List, ◌∷◌, Some, length, ap, sym, ◌∙◌, arith}
use Rattle.std.specs.Prelude.{slice_get}
use Rattle.snapshot_file.specs.declared.nodes.ManifestRef.{ManifestRef}
use Rattle.snapshot_file.specs.declared.nodes.NodeRow.{NodeRow}
use Rattle.snapshot_file.specs.declared.snapshot.SnapshotFile.{SnapshotFile}
use Rattle.snapshot_file.specs.Snapshots.{manifests_named}
use Rattle.intact.specs.declared.visits.FileVisit.{FileVisit}
use Rattle.intact.specs.Places.{files_from}
use Rattle.intact.proofs.Places.{files-here, files-passed, some-at}
use Rattle.intact.proofs.snapshots.file_from.Goals as goal

pub returns-then-from-len : goal.returns-then-from-len
returns-then-from-len c =
    let rows = c.args.loaded.now.nodes in
    let same : c.nodes-rows.result ≡ rows = c.nodes-rows.ensures ∙ ap (λ (s : SnapshotFile). s.nodes) c.file.ensures.value in
    let at : slice_get rows c.loop-i.i ≡ Some c.at.result = ap (λ (xs : List NodeRow). slice_get xs c.loop-i.i) (sym same) ∙ c.at.ensures in
    let count : c.len.result ≡ length (manifests_named c.at.result.kind) = c.len.ensures ∙ ap (λ (ms : List ManifestRef). length ms) (c.manifests.ensures ∙ ap manifests_named c.kind.ensures) in
    let below = c.if-from-len.true in
    let within : c.loop-i.from < length (manifests_named c.at.result.kind) = omega (arith, below, count) in
    let manifest = some-at (manifests_named c.at.result.kind) c.loop-i.from within in
    let file = c.file_at.ensures c.at.result manifest.0 at manifest.1 in (
      c.loop-i.invariant.left ∙ (files-here rows c.loop-i.i c.loop-i.from c.at.result manifest.0 at manifest.1 ∙ ap (λ (f : FileVisit). f ∷ files_from c.loop-i.i (c.loop-i.from + 1) rows) (sym file)),
      omega (arith, below, c.len.type_inv, c.loop-i.invariant.steps),
    )

pub loop-i-preserved : goal.loop-i-preserved
loop-i-preserved c =
    let rows = c.args.loaded.now.nodes in
    let same : c.nodes-rows.result ≡ rows = c.nodes-rows.ensures ∙ ap (λ (s : SnapshotFile). s.nodes) c.file.ensures.value in
    let at : slice_get rows c.loop-i.i ≡ Some c.at.result = ap (λ (xs : List NodeRow). slice_get xs c.loop-i.i) (sym same) ∙ c.at.ensures in
    let count : c.len.result ≡ length (manifests_named c.at.result.kind) = c.len.ensures ∙ ap (λ (ms : List ManifestRef). length ms) (c.manifests.ensures ∙ ap manifests_named c.kind.ensures) in
    record {
      left = c.loop-i.invariant.left ∙ files-passed rows c.loop-i.i c.loop-i.from c.at.result at (let past = c.if-from-len.false in omega (arith, past, count));
      steps = omega (arith, c.loop-i.invariant.steps, c.loop-i-test.true, c.len-i-end.ensures.few);
    }
