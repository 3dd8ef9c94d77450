use Rattle.std.specs.Prelude.{option_map}
use Rattle.flat_tables.specs.Rows.{each}
use Rattle.manifest_file.specs.Manifests.{ref_key, ref_at}
use Rattle.held_manifest.proofs.Checked.{Checked}
use Rattle.held_manifest.proofs.chunks.refs_in.Given as goal

abbrev pub invariant-loop-at : goal.invariant-loop-at
invariant-loop-at l = Checked ref_key 1 (each (ref_at l.vector)) l.vector.count (option_map ref_key l.last) l.at
