use Rattle.std.proofs.Common.{◌≡◌, drop, not}
use Rattle.std.specs.List.{filter}
use Rattle.zarr_changes.specs.Edits.{lists_key}
use Rattle.zarr_changes.proofs.entries.Entries.remove_each.Given as goal

abbrev pub invariant-loop-key : goal.invariant-loop-key
invariant-loop-key l = filter (λ row. not (lists_key (drop l.key-index l.out) row.0 row.1)) l.self ≡ filter (λ row. not (lists_key l.out row.0 row.1)) l.fn.self
