use Rattle.std.proofs.Common.{◌≡◌, ◌+◌, ◌*◌, ◌++◌, drop}
use Rattle.flat_tables.specs.Frames.{offsets_to}
use Rattle.flat_tables.proofs.framing.put_offsets_to.Given as goal

abbrev pub invariant-loop-place : goal.invariant-loop-place
invariant-loop-place l = record {
  bytes : l.out.items ++ offsets_to (drop l.place-index l.places) l.at ≡ l.fn.out.items ++ offsets_to l.places l.first;
  at : l.at ≡ l.first + 4 * l.place-index;
}
