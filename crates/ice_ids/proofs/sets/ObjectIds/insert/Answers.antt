use Rattle.std.proofs.Common.{◌≡◌, not, List, ◌∷◌, ap, subst, ◌∙◌}
use Rattle.ice_ids.specs.declared.Id12.{Id12 as TheId}
use Rattle.ice_ids.specs.Sets.{has_object}
use Rattle.ice_ids.proofs.SetLaws.{contains_has, one_more}
use Rattle.ice_ids.proofs.sets.ObjectIds.insert.Goals as goal

pub returns-clause-added : goal.returns-clause-added
returns-clause-added c =
    c.in_ok-added.ensures.added
    ∙ ap not (contains_has c.self.inside.ids.keys c.args.id)
    ∙ ap (λ (ids : List TheId). not (has_object ids c.args.id)) c.self.view_is

pub returns-clause-members : goal.returns-clause-members
returns-clause-members c = λ other.
    subst (λ (ids : List TheId). has_object c.insert.new.self.keys other ≡ has_object (c.args.id ∷ ids) other) c.self.view_is
    (one_more c.self.inside.ids.keys c.insert.new.self.keys c.args.id other (c.in_ok-added.ensures.updates.0 other))
