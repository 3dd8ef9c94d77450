-- When changes of a tree are the same. (Own.)
use Rattle.std.specs.Prelude.{◌≡◌, ℕ, true, false, List, Some}
use Rattle.std.specs.FinMap.{get}
use Rattle.ice_ids.specs.declared.Id8.{Id8}
use Rattle.zarr_path.specs.Paths.{is_beneath}
use Rattle.zarr_tree.specs.Nodes.{Node}
use Rattle.zarr_tree.specs.Trees.{Tree}
use Rattle.zarr_tree.specs.Changes.{Changes, is_gone}

-- They take away the same nodes of the tree: those that they drop, and all beneath.
abbrev pub TakeTheSame : Tree → (c d : Changes) → Type 0
TakeTheSame t c d = (p : List ℕ) → is_gone c.dropped t.nodes p ≡ is_gone d.dropped t.nodes p

-- They add the same nodes, have the same other texts by ids of nodes, and the same entries of
-- chunks by ids of arrays and indices, and take away the same nodes. Which ids they drop beneath a
-- node that is gone, or that no node of the tree has, makes no difference.
pub record AreSame (t : Tree) (c d : Changes) : Type 0 where
  pub added : c.added ≡ d.added
  pub metas : (id : Id8) → c.metas id ≡ d.metas id
  pub chunks : (id : Id8) (i : List ℕ) → c.chunks id i ≡ d.chunks id i
  pub gone : TakeTheSame t c d

-- no node that the changes add is one that they drop
abbrev pub DropsNoneAdded : Changes → Type 0
DropsNoneAdded c = (p : List ℕ) (n : Node) → get c.added p ≡ Some n → c.dropped n.id ≡ false

-- no node above the path is gone
abbrev pub NoneGoneAbove : Tree → Changes → List ℕ → Type 0
NoneGoneAbove t c p = (q : List ℕ) → is_beneath q p ≡ true → is_gone c.dropped t.nodes q ≡ false
