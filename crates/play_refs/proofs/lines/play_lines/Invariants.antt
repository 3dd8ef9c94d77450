use Rattle.std.proofs.Common.{◌≤◌}
use Rattle.store_api.specs.Plays.{Play, Comes}
use Rattle.play_outcome.specs.declared.outcome.Outcome.{Outcome}
use Rattle.play_refs.specs.inside.Working.{lines_from}
use Rattle.play_refs.proofs.lines.play_lines.Given as goal

-- what the lines that are left come to, all of them do
abbrev pub invariant-loop-at : goal.invariant-loop-at
invariant-loop-at l = (l.from ≤ l.at) × ((q : Play Outcome) → Comes (lines_from l.body l.at l.shown.items) q → Comes (lines_from l.body l.from l.fn.shown.items) q)
