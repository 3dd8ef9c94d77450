use Rattle.std.proofs.Common.{◌≡◌, false, sym, ap, ◌∙◌}
use Rattle.std.specs.FinMap.{FinMap, get}
use Rattle.zarr_path.specs.Paths.{path_cmp, parent_of}
use Rattle.zarr_tree.specs.Nodes.{Node}
use Rattle.zarr_tree.specs.Edits.{is_group_at}
use Rattle.zarr_tree.specs.Held.{nodes_over}
use Rattle.zarr_changes.proofs.AddLaws.{no_parent}
use Rattle.zarr_changes.proofs.set.ChangeSet.place_fault.Goals as goal

pub returns-then-not-has_group : goal.returns-then-not-has_group
returns-then-not-has_group g c =
    let nodes : FinMap path_cmp Node = nodes_over c.args.self.now (g.B.TreeLike.nodes c.args.base.now) in
    let alone : is_group_at (get nodes (parent_of c.args.path.now)) ≡ false =
    ap (λ p. is_group_at (get nodes p)) (ap parent_of (sym c.as_str.ensures.value) ∙ sym c.parent_text.ensures) ∙ sym c.has_group.ensures ∙ c.if-not-has_group.true in
    sym (no_parent nodes c.args.path.now (λ is. let k = c.is_root.ensures.1 is in let l = c.if-not-is_root.true in cc) alone)
