use Rattle.std.proofs.Common.{◌≡◌, ◌++◌, drop}
use Rattle.live_refs.specs.Live.{live}
use Rattle.repo_check.proofs.course.live_keys.Given as goal

abbrev pub invariant-loop-place : goal.invariant-loop-place
invariant-loop-place l = l.keys ++ live (drop l.place l.entries) ≡ live l.entries
