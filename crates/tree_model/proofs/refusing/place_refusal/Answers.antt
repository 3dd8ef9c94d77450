use Rattle.std.proofs.Common.{◌≡◌, false, sym, ap, ◌∙◌}
use Rattle.std.specs.Prelude.{nat_le}
use Rattle.std.specs.FinMap.{get, len}
use Rattle.zarr_path.specs.Paths.{parent_of}
use Rattle.zarr_tree.specs.Edits.{is_group_at, most_nodes}
use Rattle.tree_model.proofs.Refusals.{no_parent}
use Rattle.tree_model.proofs.refusing.place_refusal.Goals as goal

pub returns-then-not-has_group : goal.returns-then-not-has_group
returns-then-not-has_group c =
    let alone : is_group_at (get c.args.nodes.now (parent_of c.args.path.now)) ≡ false =
    ap (λ p. is_group_at (get c.args.nodes.now p)) (ap parent_of (sym c.as_str.ensures.value) ∙ sym c.parent_text.ensures) ∙ sym c.has_group.ensures ∙ c.if-not-has_group.true in
    sym (no_parent c.args.path.now (is_group_at (get c.args.nodes.now (parent_of c.args.path.now))) (nat_le most_nodes (len c.args.nodes.now))
    (λ is. let k = c.is_root.ensures.1 is in let l = c.if-not-is_root.true in cc) alone)
