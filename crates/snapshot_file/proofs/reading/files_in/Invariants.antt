use Rattle.flat_tables.specs.Rows.{each, in_order}
use Rattle.flat_tables.proofs.Loop.{SoFar}
use Rattle.snapshot_file.specs.Snapshots.{file_key, info_at}
use Rattle.snapshot_file.proofs.reading.files_in.Given as goal

abbrev pub invariant-loop-at : goal.invariant-loop-at
invariant-loop-at l = SoFar (in_order file_key 6 (each (info_at l.vector))) l.vector.count l.files.items l.at
