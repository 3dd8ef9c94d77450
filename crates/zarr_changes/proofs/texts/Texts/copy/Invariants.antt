use Rattle.std.proofs.Common.{◌≡◌, ◌++◌}
use Rattle.zarr_changes.specs.inside.Kept.{text_rows}
use Rattle.zarr_changes.proofs.texts.Texts.copy.Given as goal

abbrev pub invariant-loop-id : goal.invariant-loop-id
invariant-loop-id l = l.copy ++ text_rows l.id-iterator ≡ l.fn.self
