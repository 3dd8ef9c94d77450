use Rattle.std.proofs.Common.{◌≡◌, drop}
use Rattle.held_manifest.specs.Objects.{objects_of_refs}
use Rattle.held_manifest.proofs.objects.object_in_refs.Given as goal

abbrev pub invariant-loop-i : goal.invariant-loop-i
invariant-loop-i l = objects_of_refs (drop l.from l.refs) ≡ objects_of_refs (drop l.i l.refs)
