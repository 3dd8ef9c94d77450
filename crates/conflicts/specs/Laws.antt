-- The laws of conflicts.
use Rattle.std.specs.Prelude.{◌≡◌, ◌↔◌, ℕ, true, List, [], Option, Some, Contains}
use Rattle.ice_ids.specs.declared.Id8.{Id8}
use Rattle.manifest_file.specs.declared.manifest.Place.{Place}
use Rattle.zarr_tree.specs.declared.cases.Case.TheVariants.{ChunkDoubleUpdate}
use Rattle.zarr_tree.specs.declared.cases.Conflict.{Conflict}
use Rattle.zarr_tree.specs.Nodes.{Node}
use Rattle.zarr_tree.specs.Trees.{Tree, node_at, IsWellFormed}
use Rattle.zarr_tree.specs.Changes.{Changes, apply, IsNormal}
use Rattle.zarr_tree.specs.declared.lists.Touched.{Touched}
use Rattle.zarr_tree.specs.Touched.{Touches, IsOrdered}
use Rattle.zarr_tree.specs.Held.{Held, changes_of}
use Rattle.zarr_tree.specs.Conflicts.{IsConflict, IsApart, AddsUnlike}
use Rattle.zarr_changes.specs.Edits.{lists_key, without_chunks}
use Rattle.conflicts.specs.declared.solving.Pick.TheVariants.{Theirs}
use Rattle.conflicts.specs.declared.solving.Policy.{Policy}
use Rattle.conflicts.specs.Found.{Sides, found}
use Rattle.conflicts.specs.Order.{Ascend}
use Rattle.conflicts.specs.Solving.{left_of, given_up, keys_in}

-- our changes, the lists of a later commit, and the nodes of the trees before it and after it
abbrev pub sides : Held Place → Touched → (t u : Tree) → Sides
sides h s t u = record { held = h; theirs = s; before = t.nodes; after = u.nodes }

-- what is found is exactly what conflicts, whatever the bytes of chunks are
abbrev pub ExactLaw : Type 0
ExactLaw =
    (bytes_at : Place → Option (List ℕ)) (h : Held Place) (s : Touched) (t u : Tree) (x : Conflict)
    → Contains (found (sides h s t u)) x
    ↔ IsConflict (changes_of bytes_at h) s t u x.case x.path x.index

-- and stands in order, where the lists do: so each conflict stands there once
abbrev pub AscendLaw : Type 0
AscendLaw = (s : Sides) → IsOrdered s.theirs → Ascend (found s)

-- another commit's changes d of a tree, which touch these lists, beside ours; neither side
-- adds an id that the other one adds
pub record IsBeside (c d : Changes) (t : Tree) (s : Touched) : Type 0 where
  pub well_formed : IsWellFormed t
  pub ours : IsNormal c t
  pub others : IsNormal d t
  pub unlike : AddsUnlike c d
  pub touched : Touches d t s

-- a policy gives up our entry for a chunk: under `Theirs`, where both sides wrote the chunk of a
-- node that has this id in the tree before the commit
pub record IsGivenUp (policy : Policy) (c : Changes) (s : Touched) (t u : Tree) (id : Id8)
    (i : List ℕ) : Type 0 where
  pub theirs : policy.chunks ≡ Theirs
  pub path : List ℕ
  pub node : Node
  pub found : node_at t path ≡ Some node
  pub same : node.id ≡ id
  pub both : IsConflict c s t u ChunkDoubleUpdate path (Some i)

-- exactly such entries are given up
abbrev pub GivenLaw : Type 0
GivenLaw =
    (bytes_at : Place → Option (List ℕ)) (h : Held Place) (s : Touched) (t u : Tree)
    (policy : Policy) (id : Id8) (i : List ℕ)
    → (lists_key (keys_in t.nodes (given_up policy (found (sides h s t u)))) id i ≡ true)
    ↔ IsGivenUp policy (changes_of bytes_at h) s t u id i

-- where nothing is found, and neither side drops an id that the other one adds, our changes and
-- theirs give one tree in either order, and it is well formed
abbrev pub CommutingLaw : Type 0
CommutingLaw =
    (bytes_at : Place → Option (List ℕ)) (h : Held Place) (d : Changes) (t : Tree) (s : Touched)
    → IsBeside (changes_of bytes_at h) d t s → IsApart (changes_of bytes_at h) d
    → IsApart d (changes_of bytes_at h)
    → found (sides h s t (apply d t)) ≡ []
    → (apply (changes_of bytes_at h) (apply d t) ≡ apply d (apply (changes_of bytes_at h) t))
    × IsWellFormed (apply (changes_of bytes_at h) (apply d t))

-- Where no conflict stays, our changes without any entries that are taken out are normal for the
-- later tree. They may drop ids that the other commit adds.
abbrev pub SolvedLaw : Type 0
SolvedLaw =
    (bytes_at : Place → Option (List ℕ)) (h : Held Place) (d : Changes)
    (t : Tree) (s : Touched) (policy : Policy) (out : List (Id8 × List ℕ))
    → IsBeside (changes_of bytes_at h) d t s
    → left_of policy (found (sides h s t (apply d t))) ≡ []
    → IsNormal (changes_of bytes_at (without_chunks h out)) (apply d t)
