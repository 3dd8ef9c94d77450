use Rattle.std.proofs.Common.{◌<◌, List, Some, length, ap, sym, subst, ◌∙◌}
use Rattle.std.specs.Prelude.{slice_get}
use Rattle.snapshot_file.specs.declared.snapshot.ManifestInfo.{ManifestInfo}
use Rattle.snapshot_file.specs.Snapshots.{file_key, info_of, info_at}
use Rattle.snapshot_file.proofs.Infos.{info_is}
use Rattle.held_manifest.proofs.Checked.{ok_same}
use Rattle.held_snapshot.proofs.Walked.{ordered_here}
use Rattle.held_snapshot.proofs.files.FileVector.at.Goals as goal

pub item-requires : goal.item-requires
item-requires c =
    let v = c.self.inside.vector in
    let here = ordered_here file_key 6 (info_at v) v.count c.args.i c.self.invariant.0 (subst (λ (xs : List ManifestInfo). c.args.i < length xs) (sym c.self.view_is) c.requires) in
    here.below

pub info_of-requires : goal.info_of-requires
info_of-requires c = c.item.ensures.len ∙ c.self.invariant.1

pub returns : goal.returns
returns c =
    let v = c.self.inside.vector in
    let here = ordered_here file_key 6 (info_at v) v.count c.args.i c.self.invariant.0 (subst (λ (xs : List ManifestInfo). c.args.i < length xs) (sym c.self.view_is) c.requires) in
    let is = info_is v c.args.i c.info_of.result (c.info_of.ensures ∙ ap info_of c.item.ensures.item) in
    let same = ok_same here.row c.info_of.result (sym here.is ∙ is) in
    ap (λ (xs : List ManifestInfo). slice_get xs c.args.i) (sym c.self.view_is) ∙ here.at ∙ ap (λ (r : ManifestInfo). Some r) same
