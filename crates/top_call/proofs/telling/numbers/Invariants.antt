use Rattle.std.proofs.Common.{◌≡◌, ◌≤◌, ◌+◌, drop}
use Rattle.std.specs.List.{count_by}
use Rattle.top_call.specs.Telling.{is_committed, is_refused}
use Rattle.top_call.proofs.telling.numbers.Given as goal

abbrev pub invariant-loop-outcome : goal.invariant-loop-outcome
invariant-loop-outcome l =
    (l.committed + count_by is_committed (drop l.outcome-index l.outcomes) ≡ count_by is_committed l.outcomes)
    × (l.refused + count_by is_refused (drop l.outcome-index l.outcomes) ≡ count_by is_refused l.outcomes)
    × (l.committed ≤ l.outcome-index) × (l.refused ≤ l.outcome-index)
