-- The nodes of the rows under what is held are the base's nodes under it.
use Rattle.std.proofs.Common.{◌≡◌, ◌∙◌, List, [], ◌∷◌, map, refl, sym, ap}
use Rattle.std.specs.FinMap.{FinMap, entries, get-entries, from_entries}
use Rattle.zarr_path.specs.Paths.{path_cmp}
use Rattle.zarr_tree.specs.Nodes.{Node}
use Rattle.zarr_tree.specs.Held.{Held, nodes_over}
use Rattle.zarr_tree.proofs.Maps.{same, get-made}
use Rattle.snapshot_file.specs.declared.nodes.NodeRow.{NodeRow}
use Rattle.repo_objects.specs.Trees.{node_of, nodes_in}
use Rattle.changed_snapshot.specs.declared.new_snapshot.NewList.{NewList}
use Rattle.changed_snapshot.specs.Rows.{rows_over}
use Rattle.changed_snapshot.specs.Laws.{NodesLaw}
use Rattle.changed_snapshot.proofs.Found.{Entries, made, made-path, made-node}

-- a map is that of its entries
made_again : (m : FinMap path_cmp Node) → from_entries {R = path_cmp} (entries m) ≡ m
made_again m = same (from_entries (entries m)) m (λ q. get-made (entries m) q ∙ sym (get-entries m q))

entries_again : (news : List NewList) (rows : List NodeRow) (es : Entries) → map (λ (row : NodeRow). (row.path, node_of row)) (map (made news rows) es) ≡ es
entries_again news rows [] = refl
entries_again news rows (e ∷ es) = λ i. (made-path news rows e i, made-node news rows e i) ∷ entries_again news rows es i

module _ {P : Type 0} where
  pub nodes_hold : (h : Held P) (news : List NewList) (rows : List NodeRow) → nodes_in (rows_over h news rows) ≡ nodes_over h (nodes_in rows)
  unfolding rows_over
  nodes_hold h news rows = ap (from_entries {R = path_cmp}) (entries_again news rows (entries (nodes_over h (nodes_in rows)))) ∙ made_again (nodes_over h (nodes_in rows))

pub nodes-law : NodesLaw
nodes-law h news rows = nodes_hold h news rows
