-- The laws that changes are determined by what they do. (Own.)
use Rattle.std.specs.Prelude.{◌≡◌, ℕ, List, Some}
use Rattle.zarr_tree.specs.Nodes.{Node}
use Rattle.zarr_tree.specs.Trees.{Tree, node_at}
use Rattle.zarr_tree.specs.Changes.{Changes, apply, IsNormal}
use Rattle.zarr_tree.specs.declared.lists.Touched.{Touched}
use Rattle.zarr_tree.specs.Touched.{Touches}
use Rattle.determined_changes.specs.Same.{TakeTheSame, AreSame, DropsNoneAdded, NoneGoneAbove}

-- By the tree before and the tree after alone: which nodes are added, and which are gone.
abbrev pub NodesLaw : Type 0
NodesLaw =
    (t : Tree) (c d : Changes) → IsNormal c t → IsNormal d t → apply c t ≡ apply d t
    → (c.added ≡ d.added) × TakeTheSame t c d

-- By these and what is listed: all. (The lists tell of a text or a chunk
-- that was set to what stood there.)
abbrev pub SameLaw : Type 0
SameLaw =
    (t : Tree) (c d : Changes) (lists : Touched) → IsNormal c t → IsNormal d t
    → apply c t ≡ apply d t → Touches c t lists → Touches d t lists → AreSame t c d

-- And no more can be told by them: where changes are the same as normal ones, and drop
-- none that they add, they are normal too, make the same tree, and what is listed of
-- the ones is listed of the others.
abbrev pub AlikeLaw : Type 0
AlikeLaw =
    (t : Tree) (c d : Changes) → IsNormal c t → AreSame t c d → DropsNoneAdded d
    → IsNormal d t × (apply c t ≡ apply d t)
    × ((lists : Touched) → Touches c t lists → Touches d t lists)

-- Changes that are the same drop the same of the tree's nodes above which none is gone.
abbrev pub TopmostLaw : Type 0
TopmostLaw =
    (t : Tree) (c d : Changes) → AreSame t c d → (p : List ℕ) (n : Node) → node_at t p ≡ Some n
    → NoneGoneAbove t c p → c.dropped n.id ≡ d.dropped n.id
