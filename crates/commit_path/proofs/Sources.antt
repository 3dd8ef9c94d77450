-- What sources of ids may still draw.
use Rattle.std.proofs.Common.{◌≡◌, refl, ◌∙◌, arith}
use Rattle.std.specs.Prelude.{Some}
use Rattle.ice_ids.specs.declared.Id12.{Id12}
use Rattle.ice_ids.specs.declared.drawing.AnyIds.{AnyIds}
use Rattle.ice_ids.specs.Drawing.{drawn12, after12, after8}
use Rattle.ice_ids.specs.Sources.{any_source12, any_source8}
use Rattle.ice_ids.proofs.Drawn.{after12-draw, after8-draw}
use Rattle.session.specs.Sources.{IsLater, MayDrawObject}

pub later-same : (ids : AnyIds) → IsLater ids ids
later-same ids = record { way = refl; client = refl; left = omega arith }

pub later-later : (a b c : AnyIds) → IsLater a b → IsLater b c → IsLater a c
later-later a b c p q = let l = p.left in let r = q.left in record { way = q.way ∙ p.way; client = q.client ∙ p.client; left = omega (arith, l, r) }

pub later-drawn12 : (ids : AnyIds) → IsLater ids (after12 ids)
later-drawn12 ids = let moves = any_source12.moves ids in record { way = after12-draw ids; client = any_source12.keeps ids; left = omega (arith, moves) }

pub later-drawn8 : (ids : AnyIds) → IsLater ids (after8 ids)
later-drawn8 ids = let moves = any_source8.moves ids in record { way = after8-draw ids; client = any_source8.keeps ids; left = omega (arith, moves) }

-- what a source draws, and what a later one may draw
pub object-drawn : (ids later : AnyIds) (id : Id12) → IsLater ids later → drawn12 later ≡ Some id → MayDrawObject ids id
object-drawn ids later id l d = record { later = later; is_later = l; drawn = d }

pub object-later : (ids later : AnyIds) (id : Id12) → IsLater ids later → MayDrawObject later id → MayDrawObject ids id
object-later ids later id l m = record { later = m.later; is_later = later-later ids later m.later l m.is_later; drawn = m.drawn }
