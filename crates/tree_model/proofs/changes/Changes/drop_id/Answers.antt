use Rattle.std.proofs.Common.{◌≡◌, ◌∙◌, Some, sym, ap}
use Rattle.std.specs.Option.{option_copied}
use Rattle.std.specs.FinMap.{get}
use Rattle.zarr_tree.specs.Nodes.{Node}
use Rattle.zarr_tree.specs.Changes.{has_id}
use Rattle.tree_model.proofs.OneMore.{id_dropped}
use Rattle.tree_model.proofs.changes.Changes.drop_id.Goals as goal

pub returns-in_ok-push-clause-ok : goal.returns-in_ok-push-clause-ok
returns-in_ok-push-clause-ok c =
    let n : Node = c.in-Some.node.now in
    let found : get c.args.under.now c.args.path.now ≡ Some n = ap (get c.args.under.now) (sym c.as_str.ensures.value) ∙ sym c.find.ensures ∙ ap option_copied c.in-Some.is in
    id_dropped c.args.self.now.dropped c.push.new.self c.found.result.id n (get c.args.under.now c.args.path.now) (get c.args.own.now c.args.path.now)
    c.in_ok-push.ensures.ok found (ap (λ (m : Node). m.id) c.found.ensures)
    (ap (has_id c.found.result.id) (ap (get c.args.own.now) (sym c.as_str-in-Some.ensures.value) ∙ sym c.find-in-Some.ensures) ∙ sym c.has_id.ensures ∙ c.if-has_id.true)
