-- The laws of trees and changes.
use Rattle.std.specs.Prelude.{◌≡◌, ℕ, Bool, List, Option, None, true, Some}
use Rattle.std.specs.FinMap.{FinMap}
use Rattle.ice_ids.specs.declared.Id8.{Id8}
use Rattle.zarr_path.specs.Paths.{path_cmp}
use Rattle.zarr_meta.specs.declared.views.ArrayView.{ArrayView}
use Rattle.zarr_meta.specs.Grids.{has_grid}
use Rattle.zarr_meta.specs.Kinds.{size_of}
use Rattle.zarr_tree.specs.Nodes.{Node, array_in}
use Rattle.zarr_tree.specs.Trees.{Tree, no_tree, IsWellFormed}
use Rattle.zarr_tree.specs.Edits.{Edit, refusal, change}
use Rattle.zarr_tree.specs.Changes.{Changes, none, apply, extended, extend, IsOver}
use Rattle.zarr_tree.specs.Changes.{IsNormal, CanExtend, NamesPath, HasMetadata, result_map}
use Rattle.zarr_tree.specs.Touched.{Touched, Touches, IsOrdered, DiffersIn}
use Rattle.zarr_tree.specs.Conflicts.{IsApart, AddsUnlike, NoConflict, NoHardConflict, without}
use Rattle.zarr_tree.specs.Held.{Held, changes_of, touched}

-- the chunks of an array that a text describes are those of a grid
abbrev pub GridLaw : Type 0
GridLaw =
    (text : List ℕ) (a : ArrayView) → array_in text ≡ Some a
    → has_grid (size_of a.kind) a.shape a.chunks ≡ true

-- an edit on the tree under changes is one more edit in the changes, with the same refusal
abbrev pub ChangeLaw : Type 0
ChangeLaw = (c : Changes) (t : Tree) (e : Edit) → IsWellFormed t → IsNormal c t → CanExtend c t e
    → change (apply c t) e ≡ result_map (λ d. apply d t) (extend c t e)

-- one more edit keeps changes normal
abbrev pub NormalLaw : Type 0
NormalLaw =
    (c : Changes) (t : Tree) (e : Edit) → IsWellFormed t → IsNormal c t → CanExtend c t e
    → NamesPath e → HasMetadata e
    → refusal (apply c t) e ≡ None → IsNormal (extended c t e) t

-- no changes are normal, and leave a tree as it is
abbrev pub NoneLaw : Type 0
NoneLaw = (t : Tree) → IsWellFormed t → (apply none t ≡ t) × IsNormal none t

-- the tree without a node is well formed
abbrev pub EmptyLaw : Type 0
EmptyLaw = IsWellFormed no_tree

-- changes lie over a tree whatever ids are added: none do, one more edit keeps it, normal ones do,
-- and they lie over a later tree where all conflicts can be solved
pub record OverLaw : Type 0 where
  pub none_over : (t : Tree) → IsOver none t
  pub kept : (c : Changes) (t : Tree) (e : Edit) → IsOver c t → HasMetadata e
      → refusal (apply c t) e ≡ None → IsOver (extended c t e) t
  pub normal : (c : Changes) (t : Tree) → IsNormal c t → IsOver c t
  pub rebased : (c : Changes) (s : Touched) (t u : Tree) (out : Id8 → List ℕ → Bool) → IsOver c t
      → NoHardConflict c s t u → IsOver (without c out) u

-- what changes touch tells all in which the tree under them differs, whatever ids are added
abbrev pub DiffersLaw : Type 0
DiffersLaw =
    (c : Changes) (t : Tree) (s : Touched) → IsWellFormed t → IsOver c t → Touches c t s
    → DiffersIn s t (apply c t)

-- the lists read off what is held are what its changes touch
abbrev pub TouchedLaw : Type 0 → Type 0
TouchedLaw P =
    (bytes_at : P → Option (List ℕ)) (h : Held P) (t : Tree)
    → Touches (changes_of bytes_at h) t (touched h t.nodes)

-- and they stand in strict order
abbrev pub OrderedLaw : Type 0 → Type 0
OrderedLaw P = (h : Held P) (nodes : FinMap path_cmp Node) → IsOrdered (touched h nodes)

-- changes that don't conflict give one tree in either order, and it is well formed
abbrev pub CommuteLaw : Type 0
CommuteLaw =
    (c d : Changes) (t : Tree) (s : Touched) → IsWellFormed t → IsNormal c t → IsNormal d t
    → IsApart c d → IsApart d c
    → Touches d t s → NoConflict c s t (apply d t)
    → (apply c (apply d t) ≡ apply d (apply c t)) × IsWellFormed (apply c (apply d t))

-- Where all conflicts can be solved, changes are normal for the later tree, whatever entries are
-- given up. They may drop ids that the later commit adds.
abbrev pub RebaseLaw : Type 0
RebaseLaw =
    (c d : Changes) (t : Tree) (s : Touched) (out : Id8 → List ℕ → Bool) → IsWellFormed t
    → IsNormal c t → IsNormal d t → AddsUnlike c d
    → Touches d t s → NoHardConflict c s t (apply d t) → IsNormal (without c out) (apply d t)
