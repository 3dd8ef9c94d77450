use Rattle.std.proofs.Common.{◌≡◌, ◌++◌, map, length}
use Rattle.std.specs.FinMap.{entries}
use Rattle.zarr_tree.specs.Held.{nodes_over}
use Rattle.zarr_tree.specs.Rows.{row_found, ArePaths}
use Rattle.repo_objects.specs.Trees.{nodes_in}
use Rattle.changed_snapshot.proofs.rows.rows_over.Given as goal

-- the nodes so far, and those that are left
abbrev pub invariant-loop-row : goal.invariant-loop-row
invariant-loop-row l = record {
  nodes : map row_found l.nodes.items ++ l.left ≡ entries (nodes_over l.fn.changes (nodes_in l.fn.base.nodes));
  paths : ArePaths (map row_found l.nodes.items);
  placed : length l.places.items ≡ length l.nodes.items;
}

abbrev pub decreases-loop-row : goal.decreases-loop-row
decreases-loop-row l = length l.left
