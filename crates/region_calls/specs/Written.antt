-- What the answer of a write of a box says of the journal, in words that name no machine and no
-- program. (Zarr v3 core specification, "Chunks", "fill_value".)
use Rattle.std.specs.Prelude.{◌≡◌, ◌≢◌, ◌⊎◌, ℕ, ℤ, true, false, List, [], ◌∷◌}
use Rattle.std.specs.Prelude.{length, map, Option, Some, None, Result, Ok, Err}
use Rattle.std.specs.List.{Contains}
use Rattle.ice_ids.specs.declared.Id8.{Id8}
use Rattle.zarr_meta.specs.declared.views.ArrayView.{ArrayView}
use Rattle.zarr_meta.specs.Grids.{product}
use Rattle.zarr_tree.specs.declared.edit.EditFault.{EditFault}
use Rattle.zarr_tree.specs.Trees.{Tree, IsWellFormed}
use Rattle.zarr_changes.specs.Sets.{set_refusal}
use Rattle.repo_objects.specs.Trees.{Puts, Extends}
use Rattle.changed_snapshot.specs.Laws.{KeepsFrozen}
use Rattle.object_store.specs.declared.events.Event.{Event}
use Rattle.store_api.specs.declared.machines.Refusal.{Refusal}
use Rattle.store_api.specs.declared.machines.Refusal.TheVariants.{ReadOnly, Edit, Region}
use Rattle.store_api.specs.declared.machines.RegionFault.{RegionFault}
use Rattle.store_api.specs.Journal.{puts_of, IsOnce}
use Rattle.store_api.specs.Telling.{ChangedNothing}
use Rattle.session.specs.Sessions.{SessionState, writes, nodes_seen, overlay}
use Rattle.session.specs.Arrays.{array_at}
use Rattle.region_cells.specs.Boxes.{IsInBox}
use Rattle.region_cells.specs.Walks.{chunks_met, filled, with_written}
use Rattle.array_region.specs.Cells.{cell_number, cells_of}
use Rattle.array_region.specs.Planning.{box_count}
use Rattle.array_region.specs.Writing.{cells_refused}
use Rattle.region_calls.specs.ChunkTold.{WasSet}

-- the bytes of a chunk; one that isn't held has the fill value in each element
abbrev pub bytes_held : ArrayView → Option (List ℕ) → List ℕ
bytes_held array None = filled array.kind array.big array.fill (product array.chunks)
bytes_held array (Some bytes) = bytes

-- One tree is another with these numbers in a box of an array: its box has them, and each
-- other cell of the array the number that it had. In each chunk that the box meets the
-- elements of its cells in the box have these numbers' bytes, and each other element, also
-- behind the array's edge, keeps its bytes, or has those of the fill value where the chunk
-- wasn't held; all else is the same.
pub record IsTreeWith (path : List ℕ) (array : ArrayView) (from to : List ℕ) (numbers : List ℤ)
    (t u : Tree) : Type 0 where
  pub nodes : u.nodes ≡ t.nodes
  pub box : cells_of u path from to ≡ Some numbers
  pub rest : (cell : List ℕ) → length cell ≡ length array.shape → (IsInBox from to cell → ⊥)
      → cell_number u path array cell ≡ cell_number t path array cell
  pub touched : (index : List ℕ) → Contains (chunks_met array.chunks from to) index
      → u.chunk path index
      ≡ Some (with_written array.kind array.big from to array.chunks index numbers
      (bytes_held array (t.chunk path index)))
  pub others : (index : List ℕ) → (Contains (chunks_met array.chunks from to) index → ⊥)
      → u.chunk path index ≡ t.chunk path index
  pub elsewhere : (q index : List ℕ) → q ≢ path → u.chunk q index ≡ t.chunk q index

-- Whatever more is put, and whatever others do: the tree of the second session is that of the first
-- with these numbers in a box of the array. (Where nodes that stay keep the parts of their metadata
-- that stay, and the first tree is well formed.)
abbrev pub IsWritten : SessionState → (path : List ℕ) → ArrayView → (from to : List ℕ) → List ℤ
    → SessionState → List Event → Type 0
IsWritten s path array from to numbers t journal =
    IsOnce journal → (puts : Puts) → Extends (puts_of journal) puts
    → KeepsFrozen s.held s.rows → IsWellFormed (overlay puts s)
    → IsTreeWith path array from to numbers (overlay puts s) (overlay puts t)

-- chunks of the array at a path were set one after another, each with these bytes
abbrev pub AreSet : ℕ → SessionState → (path : List ℕ) → List (List ℕ × List ℕ) → SessionState
    → (start journal : List Event) → Type 0
AreSet client s path [] t start journal = t ≡ s
AreSet client s path (first ∷ more) t start journal =
    (u : SessionState) × WasSet client s path first.0 first.1 u start journal
    × AreSet client u path more t start journal

-- The session writes, its tree has the array, and the box may have these numbers. Each chunk that
-- the box meets was set, and so the tree has them.
pub record WasWritten (client : ℕ) (s : SessionState) (path from to : List ℕ) (numbers : List ℤ)
    (t : SessionState) (start journal : List Event) : Type 0 where
  pub writes : writes s ≡ true
  pub node : Id8
  pub array : ArrayView
  pub found : array_at s path ≡ Ok (node, array)
  pub count : ℕ
  pub counted : box_count array from to ≡ Ok count
  pub fit : cells_refused array.kind count numbers ≡ None
  pub chunks : List (List ℕ × List ℕ)
  pub indices : map (λ chunk. chunk.0) chunks ≡ chunks_met array.chunks from to
  pub set : AreSet client s path chunks t start journal
  pub tree : IsWritten s path array from to numbers t journal

-- the session's tree has the array, and the box isn't one that may be written, or these can't
-- be its numbers, for this cause
pub record IsNoWrite (s : SessionState) (path from to : List ℕ) (numbers : List ℤ)
    (fault : RegionFault) : Type 0 where
  pub node : Id8
  pub array : ArrayView
  pub found : array_at s path ≡ Ok (node, array)
  pub cause : (box_count array from to ≡ Err (Region fault))
      ⊎ ((count : ℕ) × (box_count array from to ≡ Ok count)
      × (cells_refused array.kind count numbers ≡ Some (Region fault)))

-- a chunk that the box meets has bytes that the session's tree doesn't take, since
-- they aren't those of a whole chunk
pub record IsNoChunk (s : SessionState) (path from to : List ℕ) (fault : EditFault) : Type 0 where
  pub node : Id8
  pub array : ArrayView
  pub found : array_at s path ≡ Ok (node, array)
  pub index : List ℕ
  pub met : Contains (chunks_met array.chunks from to) index
  pub bytes : List ℕ
  pub refused : set_refusal (nodes_seen s) path index (length bytes) ≡ Some fault

-- What the answer of a write of a box says of the journal, where the client had changed no
-- branch between `start` and the call.
abbrev pub RegionSetTells : ℕ → SessionState → (path from to : List ℕ) → List ℤ → List Event
    → Result SessionState Refusal → List Event → Type 0
RegionSetTells client s path from to numbers start (Ok t) journal =
    WasWritten client s path from to numbers t start journal × ChangedNothing client start journal
RegionSetTells client s path from to numbers start (Err ReadOnly) journal = writes s ≡ false
RegionSetTells client s path from to numbers start (Err (Edit fault)) journal =
    (array_at s path ≡ Err (Edit fault)) ⊎ IsNoChunk s path from to fault
RegionSetTells client s path from to numbers start (Err (Region fault)) journal =
    IsNoWrite s path from to numbers fault
RegionSetTells client s path from to numbers start (Err why) journal = Unit {0}
