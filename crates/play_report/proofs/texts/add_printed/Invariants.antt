use Rattle.std.proofs.Common.{take, map}
use Rattle.play_report.specs.Report.{printed}
use Rattle.drafts.specs.Drafts.{Took}
use Rattle.play_report.proofs.texts.add_printed.Given as goal

-- what has been added so far
abbrev pub invariant-loop-byte : goal.invariant-loop-byte
invariant-loop-byte g l = Took l.fn.out (g.K.Sink.at l.fn.to) (map printed (take l.byte-index l.text)) l.out (g.K.Sink.at l.to)
