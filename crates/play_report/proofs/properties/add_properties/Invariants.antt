use Rattle.std.proofs.Common.{take}
use Rattle.std.specs.List.{flat_map}
use Rattle.play_report.specs.Report.{property_line}
use Rattle.drafts.specs.Drafts.{Took}
use Rattle.play_report.proofs.properties.add_properties.Given as goal

-- what has been added so far
abbrev pub invariant-loop-at : goal.invariant-loop-at
invariant-loop-at g l = Took l.fn.out (g.K.Sink.at l.fn.to) (flat_map (property_line l.name l.line) (take l.at l.props)) l.out (g.K.Sink.at l.to)
