use Rattle.std.proofs.Common.{◌≡◌, List, Some, get_or, refl, ap, ◌∙◌}
use Rattle.std.specs.Prelude.{slice_get}
use Rattle.zarr_meta.specs.declared.metas.Meta.{Meta}
use Rattle.snapshot_file.specs.declared.snapshot.SnapshotFile.{SnapshotFile}
use Rattle.repo_objects.proofs.Metas.{node_read}
use Rattle.repo_objects.proofs.loaded_snapshot.Loaded.found.Goals as goal

pub returns : goal.returns
returns c =
    let rows = c.self.inside.held.nodes in
    let at = c.args.at in
    let row = c.args.row.now in
    let meta = c.index-as_slice-at.result in
    let is : slice_get rows at ≡ Some row = ap (λ (s : SnapshotFile). slice_get s.nodes at) c.self.view_is ∙ c.requires in
    let has = c.index-as_slice-at.is ∙ ap (λ (xs : List Meta). get_or xs at meta) c.as_slice.ensures in
    let text : meta.text ≡ row.user_data = node_read rows c.self.inside.metas at row meta c.self.invariant.1 is has in
    rw (c.id.ensures, c.deref.ensures, text) refl
