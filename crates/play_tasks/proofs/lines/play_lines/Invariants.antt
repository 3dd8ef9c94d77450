use Rattle.std.proofs.Common.{◌≤◌}
use Rattle.store_api.specs.Plays.{Play, Comes}
use Rattle.play_outcome.specs.declared.outcome.Outcome.{Outcome}
use Rattle.play_tasks.specs.inside.Working.{lines_from}
use Rattle.play_tasks.proofs.lines.play_lines.Given as goal

-- what the lines that are left come to, all of them do
abbrev pub invariant-loop-at : goal.invariant-loop-at
invariant-loop-at l = (l.from ≤ l.at) × ((q : Play Outcome) → Comes (lines_from l.task l.at l.session l.shown.items) q → Comes (lines_from l.task l.from l.fn.session l.fn.shown.items) q)
