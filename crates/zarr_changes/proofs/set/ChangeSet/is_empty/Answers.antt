use Rattle.std.proofs.Common.{◌≡◌, ◌∙◌, ap, sym, not, true, false}
use Rattle.std.specs.FinMap.{entries}
use Rattle.manifest_file.specs.declared.manifest.Place.{Place}
use Rattle.zarr_tree.specs.Held.{Held}
use Rattle.zarr_changes.specs.inside.Touching.{has_metadata}
use Rattle.zarr_changes.proofs.TouchLaws.{where_added, where_touched, where_neither}
use Rattle.zarr_changes.proofs.set.ChangeSet.is_empty.Goals as goal

pub returns-then-not-is_empty : goal.returns-then-not-is_empty
returns-then-not-is_empty g c =
    let some : not (has_metadata (entries c.args.self.now.added)) ≡ false = ap (λ (h : Held Place). not (has_metadata (entries h.added))) (sym c.self.view_is) ∙ sym c.is_empty.ensures ∙ c.if-not-is_empty.true in
    where_added c.args.self.now (g.B.TreeLike.nodes c.args.base.now) some

pub returns-then-touches_base : goal.returns-then-touches_base
returns-then-touches_base g c = where_touched c.args.self.now (g.B.TreeLike.nodes c.args.base.now) (sym c.touches_base.ensures ∙ c.if-touches_base.true)

pub returns : goal.returns
returns g c =
    let none : not (has_metadata (entries c.args.self.now.added)) ≡ true = ap (λ (h : Held Place). not (has_metadata (entries h.added))) (sym c.self.view_is) ∙ sym c.is_empty.ensures ∙ c.if-not-is_empty.false in
    ap not c.has_written.ensures ∙ where_neither c.args.self.now (g.B.TreeLike.nodes c.args.base.now) none (sym c.touches_base.ensures ∙ c.if-touches_base.false)
