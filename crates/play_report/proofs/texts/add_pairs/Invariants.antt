use Rattle.std.proofs.Common.{take}
use Rattle.std.specs.List.{flat_map}
use Rattle.play_report.specs.Report.{byte_text}
use Rattle.drafts.specs.Drafts.{Took}
use Rattle.play_report.proofs.texts.add_pairs.Given as goal

-- what has been added so far
abbrev pub invariant-loop-byte : goal.invariant-loop-byte
invariant-loop-byte g l = Took l.fn.out (g.K.Sink.at l.fn.to) (flat_map byte_text (take l.byte-index l.bytes)) l.out (g.K.Sink.at l.to)
