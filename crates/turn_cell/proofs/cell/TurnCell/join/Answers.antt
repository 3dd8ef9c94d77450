use Rattle.std.proofs.Common.{rules, ap, ◌∙◌}
use Rattle.turn_cell.specs.Hands.{hands}
use Rattle.turn_cell.proofs.Steps.{joins, looks}
use Rattle.turn_cell.proofs.cell.TurnCell.join.Goals as goal

pub join_seat-requires : goal.join_seat-requires
join_seat-requires g c = (
  c.requires.cell.0,
  c.requires.cell.1,
  c.args.other.held ∙ ap (λ b. hands b) c.requires.idle.1,
  search rules,
  joins g.T.Journaled.journal g.T.Journaled.owner g.T.Journaled.count c.args.pass.now.seat.id c.args.pass.now.seat.me.0 c.args.other.seat.id c.args.other.seat.me.0 c.requires.idle.0 c.requires.idle.1 c.requires.side_by_side,
)

pub load-requires : goal.load-requires
load-requires g c = (
  search rules,
  search rules,
  looks g.T.Journaled.journal g.T.Journaled.owner g.T.Journaled.count _ c.join_seat.new.seat.id c.join_seat.new.seat.me _ _ c.join_seat.ensures.2 (c.args.pass.now.held ∙ ap (λ b. hands b) c.requires.idle.0),
)
