use Rattle.std.proofs.Common.{◌≡◌, take, drop}
use Rattle.intact.specs.Rows.{first_unwell, unwell_behind}
use Rattle.intact.proofs.Looking.{HasIds}
use Rattle.intact.proofs.rows.first_unwell.Given as goal

abbrev pub invariant-loop-at : goal.invariant-loop-at
invariant-loop-at l = record {
  left : first_unwell l.rows ≡ unwell_behind l.rows (take l.at l.rows) (drop l.at l.rows);
  known : HasIds l.ids.keys (take l.at l.rows);
}
