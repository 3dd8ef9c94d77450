use Rattle.std.proofs.Common.{rules}
use Rattle.turn_cell.proofs.Steps.{splits}
use Rattle.turn_cell.proofs.cell.TurnCell.split_at.Goals as goal

pub split_seat-seat-requires : goal.split_seat-seat-requires
split_seat-seat-requires g c = (
  c.requires.cell,
  search rules,
  rw (← c.requires.here) (splits g.T.Journaled.journal g.T.Journaled.owner g.T.Journaled.count c.args.pass.now.seat.id c.args.pass.now.seat.me.0 c.args.at c.requires.idle c.requires.own c.requires.above),
)
