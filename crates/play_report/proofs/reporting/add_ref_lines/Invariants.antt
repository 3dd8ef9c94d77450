use Rattle.std.proofs.Common.{take}
use Rattle.std.specs.List.{flat_map}
use Rattle.play_report.specs.Report.{ref_line}
use Rattle.drafts.specs.Drafts.{Took}
use Rattle.play_report.proofs.reporting.add_ref_lines.Given as goal

-- what has been added so far
abbrev pub invariant-loop-line : goal.invariant-loop-line
invariant-loop-line g l = Took l.fn.out (g.K.Sink.at l.fn.to) (flat_map ref_line (take l.line-index l.refs)) l.out (g.K.Sink.at l.to)
