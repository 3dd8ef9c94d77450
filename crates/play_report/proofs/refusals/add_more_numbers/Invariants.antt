use Rattle.std.proofs.Common.{take}
use Rattle.std.specs.List.{flat_map}
use Rattle.play_report.proofs.Lines.{next_number}
use Rattle.drafts.specs.Drafts.{Took}
use Rattle.play_report.proofs.refusals.add_more_numbers.Given as goal

-- what has been added so far
abbrev pub invariant-loop-number : goal.invariant-loop-number
invariant-loop-number g l = Took l.fn.out (g.K.Sink.at l.fn.to) (flat_map next_number (take l.number-index l.numbers)) l.out (g.K.Sink.at l.to)
