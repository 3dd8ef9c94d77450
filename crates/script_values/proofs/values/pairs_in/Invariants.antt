use Rattle.std.proofs.Common.{◌≡◌}
use Rattle.script_values.specs.Parts.{each}
use Rattle.script_values.specs.Values.{byte_of, pairs}
use Rattle.script_values.specs.SoFar.{parts_seen}
use Rattle.script_values.proofs.Earliest.{joined}
use Rattle.script_values.proofs.values.pairs_in.Given as goal

abbrev pub invariant-loop-pair : goal.invariant-loop-pair
invariant-loop-pair l = record {
  size : l.pair-iterator.size ≡ 2;
  left : joined (parts_seen l.bytes) (each byte_of (pairs l.pair-iterator.rest.now)) ≡ each byte_of (pairs l.fn.digits);
}
