use Rattle.std.proofs.Common.{◌≡◌, ◌≤◌}
use Rattle.std.specs.Prelude.{option_map}
use Rattle.file_fields.specs.Fields.{id_key}
use Rattle.manifest_file.specs.Manifests.{refs_of, array_key, array_behind}
use Rattle.held_manifest.proofs.Checked.{Checked}
use Rattle.held_manifest.proofs.arrays.arrays_in.Given as goal

abbrev pub invariant-loop-at : goal.invariant-loop-at
invariant-loop-at l = record {
  checked : Checked array_key 1 (array_behind l.vector) l.vector.count (option_map id_key l.last) l.at;
  count : l.before ≡ refs_of checked.front;
  few : l.before ≤ 4194304;
}
