use Rattle.std.proofs.Common.{sym, ◌∙◌, ap, ◌||◌}
use Rattle.std.specs.List.{starts_with}
use Rattle.std.specs.Prelude.{nat_eq}
use Rattle.zarr_path.specs.Paths.{is_within, folder}
use Rattle.zarr_path.proofs.OrderLaws.{pointwise-same}
use Rattle.zarr_path.proofs.paths.stands_within.Goals as goal

pub returns-then-eq : goal.returns-then-eq
unfolding is_within
returns-then-eq c = c.if-eq.true ∙ ap (λ b. b || starts_with nat_eq c.args.path.now (folder c.args.of.now)) (sym (sym (pointwise-same c.args.path.now c.args.of.now) ∙ sym c.eq.ensures ∙ c.if-eq.true))

pub returns-else-eq : goal.returns-else-eq
unfolding is_within
returns-else-eq c = c.begins_with_folder.ensures ∙ ap (λ b. b || starts_with nat_eq c.args.path.now (folder c.args.of.now)) (sym (sym (pointwise-same c.args.path.now c.args.of.now) ∙ sym c.eq.ensures ∙ c.if-eq.false))
