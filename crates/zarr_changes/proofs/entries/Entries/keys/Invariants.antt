use Rattle.std.proofs.Common.{◌≡◌, ◌++◌}
use Rattle.zarr_changes.proofs.EntryKept.{keys_in, all_of}
use Rattle.zarr_changes.proofs.entries.Entries.keys.Given as goal

abbrev pub invariant-loop-id : goal.invariant-loop-id
invariant-loop-id l = l.keys ++ keys_in (all_of l.id-iterator) ≡ keys_in l.fn.self
