use Rattle.std.proofs.Common.{◌≡◌, drop}
use Rattle.std.specs.List.{list_any}
use Rattle.zarr_path.specs.Paths.{is_beneath}
use Rattle.conflicts.proofs.looking.any_beneath.Given as goal

abbrev pub invariant-loop-text : goal.invariant-loop-text
invariant-loop-text l = list_any (λ text. is_beneath l.of text.now) (drop l.text-index l.texts) ≡ list_any (λ text. is_beneath l.of text.now) l.texts
