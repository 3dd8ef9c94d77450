use Rattle.std.proofs.Common.{ap, ◌∙◌}
use Rattle.ice_ids.specs.Sets.{has_object}
use Rattle.ice_ids.proofs.SetLaws.{contains_has}
use Rattle.ice_ids.proofs.sets.ObjectIds.contains.Goals as goal

pub returns : goal.returns
returns c = c.contains.ensures ∙ contains_has c.self.inside.ids.keys c.args.id.now ∙ ap (λ ids. has_object ids c.args.id.now) c.self.view_is
