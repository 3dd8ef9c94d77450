use Rattle.std.proofs.Common.{take}
use Rattle.std.specs.List.{flat_map}
use Rattle.play_report.specs.Report.{left_lines}
use Rattle.drafts.specs.Drafts.{Took}
use Rattle.play_report.proofs.reporting.add_all_left.Given as goal

-- what has been added so far
abbrev pub invariant-loop-shown : goal.invariant-loop-shown
invariant-loop-shown g l = Took l.fn.out (g.K.Sink.at l.fn.to) (flat_map (left_lines l.name) (take l.shown-index l.all)) l.out (g.K.Sink.at l.to)
