use Rattle.std.proofs.Common.{take}
use Rattle.std.specs.List.{flat_map}
use Rattle.play_report.specs.Report.{case_lines}
use Rattle.drafts.specs.Drafts.{Took}
use Rattle.play_report.proofs.cases.add_cases.Given as goal

-- what has been added so far
abbrev pub invariant-loop-case : goal.invariant-loop-case
invariant-loop-case g l = Took l.fn.out (g.K.Sink.at l.fn.to) (flat_map (case_lines l.task l.line) (take l.case-index l.cases)) l.out (g.K.Sink.at l.to)
