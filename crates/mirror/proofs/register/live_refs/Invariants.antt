use Rattle.std.proofs.Common.{◌≡◌, ◌++◌, drop}
use Rattle.live_refs.specs.Live.{live}
use Rattle.mirror.specs.Programs.{ref_ids}
use Rattle.mirror.proofs.register.live_refs.Given as goal

abbrev pub invariant-loop-place : goal.invariant-loop-place
invariant-loop-place l = l.names.items ++ ref_ids (live (drop l.place l.entries)) ≡ ref_ids (live l.entries)
