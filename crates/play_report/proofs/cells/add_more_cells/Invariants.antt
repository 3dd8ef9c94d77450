use Rattle.std.proofs.Common.{take}
use Rattle.std.specs.List.{flat_map}
use Rattle.play_report.specs.Report.{next_cell}
use Rattle.drafts.specs.Drafts.{Took}
use Rattle.play_report.proofs.cells.add_more_cells.Given as goal

-- what has been added so far
abbrev pub invariant-loop-number : goal.invariant-loop-number
invariant-loop-number g l = Took l.fn.out (g.K.Sink.at l.fn.to) (flat_map next_cell (take l.number-index l.numbers)) l.out (g.K.Sink.at l.to)
