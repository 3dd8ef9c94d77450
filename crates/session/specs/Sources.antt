-- Sources of ids, and what they may still draw (own).
use Rattle.std.specs.Prelude.{◌≡◌, ◌≤◌, Some}
use Rattle.ice_ids.specs.declared.Id8.{Id8}
use Rattle.ice_ids.specs.declared.Id12.{Id12}
use Rattle.ice_ids.specs.declared.drawing.AnyIds.{AnyIds}
use Rattle.ice_ids.specs.Drawing.{draw_of, client_of, left_of, drawn12, drawn8}

-- a source after draws: it draws in the same way for the same client, and has no more ids left
pub record IsLater (ids later : AnyIds) : Type 0 where
  pub way : draw_of later ≡ draw_of ids
  pub client : client_of later ≡ client_of ids
  pub left : left_of later ≤ left_of ids

-- an object id that a source may draw from where it stands
pub record MayDrawObject (ids : AnyIds) (id : Id12) : Type 0 where
  pub later : AnyIds
  pub is_later : IsLater ids later
  pub drawn : drawn12 later ≡ Some id

-- and a node id
pub record MayDrawNode (ids : AnyIds) (id : Id8) : Type 0 where
  pub later : AnyIds
  pub is_later : IsLater ids later
  pub drawn : drawn8 later ≡ Some id
