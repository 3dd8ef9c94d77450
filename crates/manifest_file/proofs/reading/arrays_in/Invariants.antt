use Rattle.std.proofs.Common.{◌≡◌, ◌≤◌}
use Rattle.flat_tables.specs.Rows.{in_order}
use Rattle.flat_tables.proofs.Loop.{SoFar}
use Rattle.manifest_file.specs.Manifests.{refs_of, array_key, array_behind}
use Rattle.manifest_file.proofs.reading.arrays_in.Given as goal

abbrev pub invariant-loop-at : goal.invariant-loop-at
invariant-loop-at l = record {
  so_far : SoFar (in_order array_key 1 (array_behind l.vector)) l.vector.count l.arrays.items l.at;
  count : l.before ≡ refs_of l.arrays.items;
  few : l.before ≤ 4194304;
}
