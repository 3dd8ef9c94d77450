-- What clauses say of a cell and of its passes. All of it is this project's own.
use Rattle.std.specs.Prelude.{◌≡◌}
use Rattle.atomic_table.specs.Seated.{TableId}
use Rattle.turn_cell.specs.declared.cell.TurnCell.{TurnCell}
use Rattle.turn_cell.specs.declared.known.Known.{Known}
use Rattle.turn_cell.specs.declared.pass.Token.{Token}

-- which cell it is
abbrev pub CellId : Type 0
CellId = TableId

module _ {T E : Type 0} where
  abbrev pub id_of : TurnCell T E → CellId
  id_of cell = cell.table.shared.table_id

  -- the cell that the pass belongs to
  abbrev pub cell_of : Token T E → CellId
  cell_of pass = pass.seat.table_id

  abbrev pub IsPassOf : TurnCell T E → Token T E → Type 0
  IsPassOf cell pass = cell_of pass ≡ id_of cell

  -- what the pass knows
  abbrev pub known : Token T E → Known E
  known pass = pass.seat.me.0.known
