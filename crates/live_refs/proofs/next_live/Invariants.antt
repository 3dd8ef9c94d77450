use Rattle.std.proofs.Common.{◌≡◌, drop}
use Rattle.live_refs.specs.Live.{live}
use Rattle.live_refs.proofs.next_live.Given as goal

abbrev pub invariant-loop-place : goal.invariant-loop-place
invariant-loop-place l = live (drop l.from l.entries) ≡ live (drop l.place l.entries)
