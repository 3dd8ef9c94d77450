-- What the code keeps of both sides to look up in; no public contract cites this.
use Rattle.std.specs.Prelude.{◌≡◌, ℕ, ◌<◌, ◌≤◌, List, [], ◌∷◌, length, map}
use Rattle.std.specs.Prelude.{if◌then◌else◌, Some, is_some, slice_index_or}
use Rattle.std.specs.declared.cmp.Ordering.TheVariants.{Less}
use Rattle.std.specs.Borrow.{Bor}
use Rattle.std.specs.FinMap.{FinMap, keys}
use Rattle.ice_ids.specs.declared.Id8.{Id8}
use Rattle.zarr_path.specs.Paths.{path_cmp}
use Rattle.manifest_file.specs.declared.manifest.Place.{Place}
use Rattle.zarr_tree.specs.declared.cases.Case.TheVariants.{ChunkDoubleUpdate}
use Rattle.zarr_tree.specs.declared.cases.Conflict.{Conflict}
use Rattle.zarr_tree.specs.Nodes.{Node}
use Rattle.zarr_tree.specs.declared.lists.Touched.{Touched}
use Rattle.zarr_tree.specs.Touched.{lists, IsOrdered}
use Rattle.zarr_tree.specs.Held.{Held, meta_in, entry_in}
use Rattle.zarr_changes.specs.Sets.{has_chunks}
use Rattle.conflicts.specs.Found.{Sides, new_rows}

-- the ids of nodes that were dropped, of those with other metadata, and of those with entries; the
-- added paths; the paths of new nodes of the later tree
pub record Keeps (gone patched written : List Id8) (paths : List (List ℕ))
    (texts : List (Bor (List ℕ))) (h : Held Place) (theirs : Touched)
    (after : FinMap path_cmp Node) : Type 0 where
  pub dropped : (id : Id8) → lists gone id ≡ lists h.dropped id
  pub metas : (id : Id8) → lists patched id ≡ is_some (meta_in h.metas id)
  pub arrays : (id : Id8) → lists written id ≡ has_chunks h.chunks id
  pub added : paths ≡ keys h.added
  pub news : map (λ text. text.now) texts ≡ map (λ row. row.0) (new_rows theirs after)
  pub ordered : IsOrdered theirs

-- a place among texts: all before it stand before another text, and none from there on does
pub record IsPlace (texts : List (Bor (List ℕ))) (text : List ℕ) (at : ℕ) : Type 0 where
  pub before : (k : ℕ) (d : Bor (List ℕ)) → k < at
      → path_cmp (slice_index_or texts k d).now text ≡ Less
  pub behind : (k : ℕ) (d : Bor (List ℕ)) → at ≤ k → k < length texts
      → path_cmp (slice_index_or texts k d).now text ≡ Less → ⊥

-- the conflict at a chunk of a node that the other side wrote
abbrev pub twice_at : Sides → (path : List ℕ) → Id8 → (index : List ℕ) → List Conflict
twice_at s p id i =
    if is_some (entry_in s.held.chunks id i)
    then record { case = ChunkDoubleUpdate; path = p; index = Some i } ∷ []
    else []
