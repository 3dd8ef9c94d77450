use Rattle.std.proofs.Common.{◌≢◌, None, Some, cond, ap, sym, ◌∙◌}
use Rattle.std.proofs.lemmas.Bool.{iff_false}
use Rattle.zarr_path.specs.Paths.{is_path, parent_of, root}
use Rattle.zarr_path.proofs.PathLaws.{parent-path}
use Rattle.zarr_path.proofs.OrderLaws.{same_path-false}
use Rattle.zarr_path.proofs.paths.Path.parent.Goals as goal

pub invariant_of-result : goal.invariant_of-result
invariant_of-result c = ap is_path (c.in_ok-text.ensures.ok ∙ c.parent_text.ensures ∙ ap parent_of c.as_str.ensures.value) ∙ parent-path c.args.self.now c.as_str.ensures.path

pub returns : goal.returns
returns c =
    let inner : c.args.self.now ≢ root = iff_false c.is_root.ensures c.if-is_root.false in
    ap Some (c.in_ok-text.ensures.ok ∙ c.parent_text.ensures ∙ ap parent_of c.as_str.ensures.value)
    ∙ sym (ap (λ t. cond t None (Some (parent_of c.args.self.now))) (same_path-false c.args.self.now root inner))
