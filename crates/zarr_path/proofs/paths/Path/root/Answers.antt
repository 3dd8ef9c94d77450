use Rattle.std.proofs.Common.{ap, ◌∙◌}
use Rattle.zarr_path.specs.Paths.{is_path}
use Rattle.zarr_path.proofs.SpellLaws.{root-path}
use Rattle.zarr_path.proofs.paths.Path.root.Goals as goal

pub invariant_of-result : goal.invariant_of-result
invariant_of-result c = ap is_path c.in_ok-from_str.ensures.ok ∙ root-path
