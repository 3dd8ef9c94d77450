-- The dimensions of a box over a chunk, one after another.
use Rattle.std.specs.Prelude.{◌≡◌, ◌∷◌}
use Rattle.region_cells.specs.declared.sides.Side.{Side}
use Rattle.region_cells.specs.declared.sides.Sides.{Sides}
use Rattle.region_cells.specs.Boxes.{IsBoxOver}

-- there is a number for each dimension
abbrev pub AreOver : Sides → Type 0
AreOver s = IsBoxOver s.from.now s.to.now s.chunks.now s.index.now

-- the first dimension, and those behind it
pub record Splits (s : Sides) (side : Side) (rest : Sides) : Type 0 where
  pub from : s.from.now ≡ side.from ∷ rest.from.now
  pub to : s.to.now ≡ side.to ∷ rest.to.now
  pub chunk : s.chunks.now ≡ side.chunk ∷ rest.chunks.now
  pub number : s.index.now ≡ side.number ∷ rest.index.now
