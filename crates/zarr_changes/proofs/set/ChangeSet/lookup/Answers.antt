use Rattle.std.proofs.Common.{◌≡◌, ◌∙◌, ap, sym, Some, None}
use Rattle.std.specs.FinMap.{get}
use Rattle.std.specs.Option.{option_copied}
use Rattle.manifest_file.specs.declared.manifest.Place.{Place}
use Rattle.zarr_tree.specs.Held.{Held}
use Rattle.zarr_changes.proofs.Over.{over-added}
use Rattle.zarr_changes.proofs.set.ChangeSet.lookup.Goals as goal

pub returns-in-Some : goal.returns-in-Some
returns-in-Some g c =
    let held : Held Place = c.args.self.now in
    let there : get held.added c.args.path.now ≡ Some c.in-Some.node.now =
    ap (λ (h : Held Place). get h.added c.args.path.now) (sym c.self.view_is) ∙ sym c.find.ensures ∙ ap option_copied c.in-Some.is in
    ap (λ n. Some n) c.found.ensures ∙ sym (over-added held (g.B.TreeLike.nodes c.args.base.now) c.args.path.now (Some c.in-Some.node.now) there)

pub returns-in-None : goal.returns-in-None
returns-in-None g c =
    let held : Held Place = c.args.self.now in
    let absent : get held.added c.args.path.now ≡ None = ap (λ (h : Held Place). get h.added c.args.path.now) (sym c.self.view_is) ∙ sym c.find.ensures ∙ ap option_copied c.in-None.is in
    c.own.ensures ∙ sym (over-added held (g.B.TreeLike.nodes c.args.base.now) c.args.path.now None absent)
