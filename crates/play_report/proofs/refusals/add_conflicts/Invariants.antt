use Rattle.std.proofs.Common.{take}
use Rattle.std.specs.List.{flat_map}
use Rattle.play_report.proofs.Lines.{next_conflict}
use Rattle.drafts.specs.Drafts.{Took}
use Rattle.play_report.proofs.refusals.add_conflicts.Given as goal

-- what has been added so far
abbrev pub invariant-loop-conflict : goal.invariant-loop-conflict
invariant-loop-conflict g l = Took l.fn.out (g.K.Sink.at l.fn.to) (flat_map next_conflict (take l.conflict-index l.conflicts)) l.out (g.K.Sink.at l.to)
