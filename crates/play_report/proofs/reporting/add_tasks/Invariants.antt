use Rattle.std.proofs.Common.{take, map}
use Rattle.play_report.specs.Report.{tasks_text}
use Rattle.drafts.specs.Drafts.{Took}
use Rattle.play_report.proofs.reporting.add_tasks.Given as goal

-- what has been added so far
abbrev pub invariant-loop-place : goal.invariant-loop-place
invariant-loop-place g l = Took l.fn.out (g.K.Sink.at l.fn.to) (tasks_text (map (λ n. n.now) (take l.place l.names)) (take l.place l.outcomes)) l.out (g.K.Sink.at l.to)
