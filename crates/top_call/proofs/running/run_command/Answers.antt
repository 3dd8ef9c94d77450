use Rattle.std.proofs.Common.{refl}
use Rattle.top_call.proofs.running.run_command.Goals as goal

pub returns-in-Cells-clause-ends : goal.returns-in-Cells-clause-ends
returns-in-Cells-clause-ends g c = rw c.in-Cells.is (refl, c.run_cells.ensures (g.I.Source.at c.args.input.now))

pub returns-in-Check-clause-ends : goal.returns-in-Check-clause-ends
returns-in-Check-clause-ends g c = rw c.in-Check.is (refl, (c.run_check.ensures.checks, c.run_check.ensures.sound c.args.draw))

pub returns-in-Grow-clause-ends : goal.returns-in-Grow-clause-ends
returns-in-Grow-clause-ends g c = rw c.in-Grow.is (refl, c.run_grown.ensures (g.I.Source.at c.args.input.now))
