use Rattle.std.proofs.Common.{◌≡◌}
use Rattle.held_manifest.specs.Objects.{objects_of}
use Rattle.chunk_gc.specs.Lines.{with_ids}
use Rattle.chunk_gc.proofs.mark.enter_objects.Given as goal

abbrev pub invariant-loop-id : goal.invariant-loop-id
invariant-loop-id l = with_ids l.chunks l.id-iterator ≡ with_ids l.initial.chunks (objects_of l.held)
