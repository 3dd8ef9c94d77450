use Rattle.std.proofs.Common.{take}
use Rattle.std.specs.List.{flat_map}
use Rattle.play_report.specs.Report.{fault_line}
use Rattle.drafts.specs.Drafts.{Took}
use Rattle.play_report.proofs.checks.add_faults.Given as goal

-- what has been added so far
abbrev pub invariant-loop-fault : goal.invariant-loop-fault
invariant-loop-fault g l = Took l.fn.out (g.K.Sink.at l.fn.to) (flat_map (fault_line l.task) (take l.fault-index l.faults)) l.out (g.K.Sink.at l.to)
