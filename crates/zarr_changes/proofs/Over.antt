-- The nodes of a tree under what is held: what stands at a path, and the rows.
use Rattle.std.proofs.Common.{◌≡◌, Option, None, ap, ◌∙◌}
use Rattle.std.specs.Option.{option_or}
use Rattle.std.specs.FinMap.{FinMap, get}
use Rattle.zarr_path.specs.Paths.{path_cmp}
use Rattle.zarr_tree.specs.Nodes.{Node}
use Rattle.zarr_tree.specs.Trees.{Tree}
use Rattle.zarr_tree.specs.Changes.{Changes}
use Rattle.zarr_tree.specs.Held.{Held, changes_of, nodes_over}
use Rattle.zarr_tree.proofs.Maps.{Path}
use Rattle.zarr_tree.proofs.Apply.{node-apply}
use Rattle.zarr_changes.specs.inside.Own.{own_node}

module _ {P : Type 0} (h : Held P) (nodes : FinMap path_cmp Node) where
  -- the changes and the tree, where nothing is said of chunks
  abbrev pub changes : Changes
  changes = changes_of (λ (p : P). None) h

  abbrev pub tree : Tree
  tree = record { nodes = nodes; chunk = λ p i. None }

  -- the added node, else the tree's own that isn't gone, with its other text
  pub node-over : (p : Path) → get (nodes_over h nodes) p ≡ option_or (get h.added p) (own_node h nodes p)
  node-over p = node-apply changes tree p

  pub over-added : (p : Path) (o : Option Node) → get h.added p ≡ o → get (nodes_over h nodes) p ≡ option_or o (own_node h nodes p)
  over-added p o e = node-over p ∙ ap (λ x. option_or x (own_node h nodes p)) e
