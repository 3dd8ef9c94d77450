use Rattle.std.proofs.Common.{◌-◌}
use Rattle.manifest_file.specs.Manifests.{ref_key}
use Rattle.held_manifest.proofs.Halves.{Narrowed}
use Rattle.held_manifest.proofs.chunks.Refs.seek.Given as goal

abbrev pub invariant-loop-low : goal.invariant-loop-low
invariant-loop-low l = Narrowed ref_key l.self l.index l.low l.high

abbrev pub decreases-loop-low : goal.decreases-loop-low
decreases-loop-low l = l.high - l.low
