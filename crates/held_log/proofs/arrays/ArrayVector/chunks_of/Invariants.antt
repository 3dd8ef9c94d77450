use Rattle.std.proofs.Common.{◌-◌}
use Rattle.file_fields.specs.Fields.{id_key}
use Rattle.txn_file.specs.Logs.{array_key}
use Rattle.held_manifest.proofs.Halves.{Narrowed}
use Rattle.held_log.proofs.arrays.ArrayVector.chunks_of.Given as goal

abbrev pub invariant-loop-low : goal.invariant-loop-low
invariant-loop-low l = Narrowed array_key l.self (id_key l.id) l.low l.high

abbrev pub decreases-loop-low : goal.decreases-loop-low
decreases-loop-low l = l.high - l.low
