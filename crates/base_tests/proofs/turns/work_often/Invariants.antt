use Rattle.std.proofs.Common.{◌≡◌, false}
use Rattle.turn_cell.specs.Passes.{known, IsPassOf}
use Rattle.base_tests.proofs.turns.work_often.Given as goal

abbrev pub invariant-loop : goal.invariant-loop
invariant-loop g l = IsPassOf l.cell l.pass × ((known l.pass).has_turn ≡ false) × ((known l.pass).owners ≡ (known l.initial.pass).owners)
