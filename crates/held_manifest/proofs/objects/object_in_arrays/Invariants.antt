use Rattle.std.proofs.Common.{◌≡◌}
use Rattle.held_manifest.specs.Objects.{objects_from}
use Rattle.held_manifest.proofs.objects.object_in_arrays.Given as goal

abbrev pub invariant-loop-i : goal.invariant-loop-i
invariant-loop-i l = objects_from l.arrays l.array l.chunk ≡ objects_from l.arrays l.i l.from
