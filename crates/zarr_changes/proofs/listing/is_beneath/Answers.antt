use Rattle.std.proofs.Common.{◌∙◌, ap, sym, not, ◌&&◌}
use Rattle.zarr_path.specs.Paths.{same_path}
use Rattle.zarr_path.proofs.OrderLaws.{pointwise-same}
use Rattle.zarr_changes.proofs.listing.is_beneath.Goals as goal

pub returns-then-is_within : goal.returns-then-is_within
returns-then-is_within c =
    c.ne.ensures ∙ ap not (pointwise-same c.args.path.now c.args.of.now)
    ∙ ap (λ b. b && not (same_path c.args.path.now c.args.of.now)) (sym (sym c.is_within.ensures ∙ c.if-is_within.true))
