use Rattle.std.proofs.Common.{◌≡◌, ◌∙◌, ◌++◌, List, map, ap, sym, subst, append-nil}
use Rattle.std.specs.Map.{keys_of}
use Rattle.std.specs.Map.Iter.{deref_pair}
use Rattle.std.proofs.lemmas.Map.Iter.{rest_all}
use Rattle.ice_ids.specs.declared.Id8.{Id8}
use Rattle.zarr_meta.specs.declared.metas.Meta.{Meta}
use Rattle.zarr_tree.specs.Touched.{IdsAscend}
use Rattle.zarr_changes.proofs.IdLaws.{keys-texts}
use Rattle.zarr_changes.proofs.texts.Texts.ids.Goals as goal

pub loop-id-init : goal.loop-id-init
loop-id-init c =
    (λ i. c.new-ids.ensures i ++ keys_of ((c.into_iter-id-iterator.ensures.into_iter_gives ∙ c.iter-id-items.ensures.rest) i))
    ∙ sym (keys-texts c.self.inside.metas.entries) ∙ ap (map (λ row. row.0)) c.self.view_is

pub returns-clause-order : goal.returns-clause-order
returns-clause-order c =
    let over = rest_all deref_pair c.loop-id.id-iterator c.next.new.self c.next.result c.in-None.is c.next.ensures.steps in
    let ids : c.loop-id.ids ≡ map (λ row. row.0) c.args.self.now = sym (append-nil c.loop-id.ids) ∙ ap (λ (es : List (Id8 × Meta)). c.loop-id.ids ++ keys_of es) (sym over) ∙ c.loop-id.invariant in
    subst IdsAscend (sym (keys-texts c.self.inside.metas.entries) ∙ ap (map (λ row. row.0)) c.self.view_is ∙ sym ids) c.self.invariant
