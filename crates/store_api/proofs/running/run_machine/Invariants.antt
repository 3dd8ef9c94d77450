use Rattle.store_api.proofs.RunLaws.{Stands}
use Rattle.store_api.proofs.running.run_machine.Given as goal

abbrev pub invariant-loop-answer : goal.invariant-loop-answer
invariant-loop-answer g l = Stands (g.S.Viewed.view l.fn.store) (g.M.Machine.rest l.fn.machine) (g.S.Viewed.view l.store) (g.M.Machine.rest l.machine)

abbrev pub decreases-loop-answer : goal.decreases-loop-answer
decreases-loop-answer g l = g.M.Machine.left l.machine
