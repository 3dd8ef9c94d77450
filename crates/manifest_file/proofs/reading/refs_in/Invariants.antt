use Rattle.flat_tables.specs.Rows.{each, in_order}
use Rattle.flat_tables.proofs.Loop.{SoFar}
use Rattle.manifest_file.specs.Manifests.{ref_key, ref_at}
use Rattle.manifest_file.proofs.reading.refs_in.Given as goal

abbrev pub invariant-loop-at : goal.invariant-loop-at
invariant-loop-at l = SoFar (in_order ref_key 1 (each (ref_at l.vector))) l.vector.count l.refs.items l.at
