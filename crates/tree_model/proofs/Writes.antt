-- One write more.
use Rattle.std.proofs.Common.{◌≡◌, ℕ, List, [], ◌∷◌, ◌++◌, Option, None, refl, ap, ◌∙◌}
use Rattle.std.specs.FinMap.{FinMap}
use Rattle.zarr_path.specs.Paths.{path_cmp}
use Rattle.zarr_tree.specs.Nodes.{Node}
use Rattle.tree_model.specs.declared.trees.Tree.{Tree as Lists}
use Rattle.tree_model.specs.declared.trees.Write.{Write}
use Rattle.tree_model.specs.Models.{written, held_after, tree_of}

-- it is done behind the others
pub held_more : (q j : List ℕ) (held : Option (List ℕ)) (writes : List Write) (w : Write) → held_after q j held (writes ++ w ∷ []) ≡ written q j (held_after q j held writes) w
held_more q j held [] w = refl
held_more q j held (x ∷ writes) w = held_more q j (written q j held x) writes w

-- and so is what is held at each place
pub tree_after : (u t : Lists) (nodes : FinMap path_cmp Node) (w : Write) → u.nodes ≡ nodes → u.writes ≡ t.writes ++ w ∷ []
    → tree_of u ≡ record { nodes = nodes; chunk = λ q j. written q j (held_after q j None t.writes) w }
tree_after u t nodes w is more = λ i. record { nodes = is i; chunk = λ q j. (ap (held_after q j None) more ∙ held_more q j None t.writes w) i }

-- no write
pub tree_nodes : (u t : Lists) (nodes : FinMap path_cmp Node) → u.nodes ≡ nodes → u.writes ≡ t.writes → tree_of u ≡ record (tree_of t) { nodes = nodes }
tree_nodes u t nodes is same = λ i. record { nodes = is i; chunk = λ q j. held_after q j None (same i) }

pub tree_same : (u t : Lists) → u.nodes ≡ t.nodes → u.writes ≡ t.writes → tree_of u ≡ tree_of t
tree_same u t is same = tree_nodes u t t.nodes is same
