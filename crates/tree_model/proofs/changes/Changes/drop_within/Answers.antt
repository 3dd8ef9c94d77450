use Rattle.std.proofs.Common.{◌∙◌, List, ℕ, refl, ap}
use Rattle.std.specs.FinMap.{entries}
use Rattle.tree_model.specs.Models.{held_of}
use Rattle.tree_model.specs.inside.Entering.{ids_within}
use Rattle.tree_model.proofs.OneMore.{dropped_within, left_nodes, left_metas, left_chunks}
use Rattle.tree_model.proofs.changes.Changes.drop_within.Goals as goal

pub returns-clause-ok : goal.returns-clause-ok
returns-clause-ok c =
    dropped_within (held_of c.args.self.now) c.args.own.now c.args.under.now c.remove_within.new.self c.args.path.now c.in_ok-ids.ids c.drop_id.new.self.dropped
    c.args.self.now.metas.items c.remove_metas.new.metas.items c.remove_chunks.new.chunks.items
    (c.in_ok-ids.ensures ∙ ap (λ (p : List ℕ). ids_within p (entries c.args.under.now)) c.as_str.ensures.value)
    c.in_ok-drop_id.ensures.ok
    (c.remove_within.ensures ∙ (λ i. left_nodes (c.drop_id.ensures.rest.0 i) (c.as_str-2.ensures.value i)))
    refl
    (c.remove_metas.ensures ∙ (λ i. left_metas (c.drop_id.ensures.rest.1 i).items c.in_ok-ids.ids))
    (c.remove_chunks.ensures ∙ (λ i. left_chunks (c.drop_id.ensures.rest.2 i).items c.in_ok-ids.ids))
