use Rattle.std.proofs.Common.{◌≡◌, ap, sym, subst, ◌∙◌}
use Rattle.std.specs.String.{string_bytes}
use Rattle.std.specs.FinMap.{insert, from_entries}
use Rattle.zarr_path.specs.Paths.{path_cmp}
use Rattle.zarr_tree.specs.Rows.{IsInOrder, ArePaths, node_rows}
use Rattle.zarr_tree.proofs.RowLaws.{T-true}
use Rattle.zarr_tree.proofs.KeptLaws.{Kept, inserted, inserted_in_order, inserted_paths}
use Rattle.tree_model.proofs.nodes.Nodes.enter.Goals as goal

pub invariant_of-self-2 : goal.invariant_of-self-2
invariant_of-self-2 c =
    let rows : c.insert.new.self.entries ≡ _ = c.in_ok-insert.ensures.entries in (
      subst (λ (es : Kept). IsInOrder (node_rows es)) (sym rows) (inserted_in_order c.self.inside.nodes.entries c.args.text c.args.node c.self.invariant.0),
      subst (λ (es : Kept). ArePaths (node_rows es)) (sym rows) (inserted_paths c.self.inside.nodes.entries c.args.text c.args.node (T-true _ c.requires) c.self.invariant.1),
    )

pub returns-clause-ok : goal.returns-clause-ok
returns-clause-ok c =
    ap (λ (es : Kept). from_entries {R = path_cmp} (node_rows es)) c.in_ok-insert.ensures.entries
    ∙ inserted c.self.inside.nodes.entries c.args.text c.args.node c.self.invariant.0
    ∙ ap (λ nodes. insert nodes (string_bytes c.args.text) c.args.node) c.self.view_is
