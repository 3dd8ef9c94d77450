use Rattle.std.proofs.Common.{ℕ, ◌<◌, List, Some, length, ap, sym, subst, ◌∙◌}
use Rattle.std.specs.Prelude.{slice_get}
use Rattle.ice_ids.specs.declared.Id8.{Id8}
use Rattle.held_log.proofs.Parts.{id_here}
use Rattle.held_log.proofs.ids.IdVector.at.Goals as goal

pub item-requires : goal.item-requires
item-requires c =
    let here = id_here c.self.inside.slot c.self.inside.vector c.args.i c.self.invariant.0 (subst (λ (xs : List Id8). c.args.i < length xs) (sym c.self.view_is) c.requires) in
    here.below

pub id8-requires : goal.id8-requires
id8-requires c = c.item.ensures.len ∙ c.self.invariant.1

pub returns : goal.returns
returns c =
    let here = id_here c.self.inside.slot c.self.inside.vector c.args.i c.self.invariant.0 (subst (λ (xs : List Id8). c.args.i < length xs) (sym c.self.view_is) c.requires) in
    ap (λ (xs : List Id8). slice_get xs c.args.i) (sym c.self.view_is) ∙ here.at ∙ ap (λ (bytes : List ℕ). Some (record { 0 = bytes })) (sym (c.id8.ensures ∙ c.item.ensures.item))
