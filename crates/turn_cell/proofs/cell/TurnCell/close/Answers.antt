use Rattle.std.proofs.Common.{rules, ap, ◌∙◌}
use mathlib.Core.Option.{some}
use Rattle.turn_cell.proofs.Growth.{whole}
use Rattle.turn_cell.proofs.Steps.{closes, closed_agrees}
use Rattle.turn_cell.proofs.cell.TurnCell.close.Goals as goal

pub unwrap-requires : goal.unwrap-requires
unwrap-requires g c =
    let home = closes g.T.Journaled.journal g.T.Journaled.owner g.T.Journaled.count _ _ _ _ _ c.close_with-closed.ensures.values.2 (c.word.ensures ∙ ap some c.wait_unless_free.ensures) c.take-value.ensures.value in
    rw home.is (search rules)

pub returns : goal.returns
returns g c =
    let home = closes g.T.Journaled.journal g.T.Journaled.owner g.T.Journaled.count _ _ _ _ _ c.close_with-closed.ensures.values.2 (c.word.ensures ∙ ap some c.wait_unless_free.ensures) c.take-value.ensures.value in
    let agrees = closed_agrees g.T.Journaled.journal g.T.Journaled.owner g.T.Journaled.count _ _ _ home c.unwrap.ensures in
    record {
      journal = agrees.follows;
      count = agrees.counted;
      whole = λ all. whole g.T.Journaled.owner _ _ _ all agrees.follows;
    }
