use Rattle.std.proofs.Common.{◌≡◌, ◌≤◌, drop, take}
use Rattle.play_tasks.specs.Playing.{release_from}
use Rattle.play_tasks.proofs.releasing.release_on.Given as goal

-- what is shown before is passed over
abbrev pub invariant-loop-at : goal.invariant-loop-at
invariant-loop-at l = (l.from ≤ l.at) × (release_from (take l.at l.shown.items) (drop l.at l.shown.items) l.end ≡ release_from (take l.from l.shown.items) (drop l.from l.shown.items) l.end)
