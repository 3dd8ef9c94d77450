use Rattle.std.proofs.Common.{◌<◌, List, Some, length, ap, sym, subst, ◌∙◌}
use Rattle.std.specs.Prelude.{slice_get}
use Rattle.snapshot_file.specs.declared.nodes.ManifestRef.{ManifestRef}
use Rattle.snapshot_file.specs.Nodes.{manifest_at}
use Rattle.held_manifest.proofs.Checked.{ok_by, ok_same}
use Rattle.held_snapshot.proofs.Walked.{walked_here}
use Rattle.held_snapshot.proofs.manifests.ManifestVector.at.Goals as goal

pub manifest_at-requires-clause-below : goal.manifest_at-requires-clause-below
manifest_at-requires-clause-below c =
    let v = c.self.inside.vector in
    let here = walked_here (manifest_at v) v.count c.args.i c.self.invariant.0 (subst (λ (xs : List ManifestRef). c.args.i < length xs) (sym c.self.view_is) c.requires) in
    here.below

pub unwrap-requires : goal.unwrap-requires
unwrap-requires c =
    let v = c.self.inside.vector in
    let here = walked_here (manifest_at v) v.count c.args.i c.self.invariant.0 (subst (λ (xs : List ManifestRef). c.args.i < length xs) (sym c.self.view_is) c.requires) in
    ok_by c.manifest_at.result here.row (c.manifest_at.ensures ∙ here.is)

pub returns : goal.returns
returns c =
    let v = c.self.inside.vector in
    let here = walked_here (manifest_at v) v.count c.args.i c.self.invariant.0 (subst (λ (xs : List ManifestRef). c.args.i < length xs) (sym c.self.view_is) c.requires) in
    let same = ok_same here.row c.unwrap.result (sym here.is ∙ sym c.manifest_at.ensures ∙ c.unwrap.ensures) in
    ap (λ (xs : List ManifestRef). slice_get xs c.args.i) (sym c.self.view_is) ∙ here.at ∙ ap (λ (r : ManifestRef). Some r) same
