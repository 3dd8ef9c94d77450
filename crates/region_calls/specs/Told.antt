-- What the answer of a read of a box says of the journal, in words that
-- name no machine and no program.
use Rattle.std.specs.Prelude.{◌≡◌, ℕ, ℤ, List, Some, Result, Ok, Err}
use Rattle.ice_ids.specs.declared.Id8.{Id8}
use Rattle.zarr_meta.specs.declared.views.ArrayView.{ArrayView}
use Rattle.zarr_tree.specs.Trees.{IsWellFormed}
use Rattle.repo_objects.specs.Trees.{Puts, Extends}
use Rattle.changed_snapshot.specs.Laws.{KeepsFrozen}
use Rattle.object_store.specs.declared.events.Event.{Event}
use Rattle.store_api.specs.declared.machines.Refusal.{Refusal}
use Rattle.store_api.specs.declared.machines.Refusal.TheVariants.{Edit, Region}
use Rattle.store_api.specs.declared.machines.RegionFault.{RegionFault}
use Rattle.store_api.specs.Journal.{puts_of, IsOnce}
use Rattle.session.specs.Sessions.{SessionState, overlay}
use Rattle.session.specs.Arrays.{array_at}
use Rattle.array_region.specs.Planning.{box_count}
use Rattle.array_region.specs.Cells.{cells_of}

-- Whatever more is put, and whatever others do: these are the numbers of the box in the session's
-- base under its own changes, in C order. (Where nodes that stay keep the parts of their metadata
-- that stay, and the chunks that are held are whole.)
abbrev pub AreCells : SessionState → (path from to : List ℕ) → List ℤ → List Event → Type 0
AreCells s path from to numbers journal =
    IsOnce journal → (puts : Puts) → Extends (puts_of journal) puts → KeepsFrozen s.held s.rows
    → IsWellFormed (overlay puts s) → cells_of (overlay puts s) path from to ≡ Some numbers

-- the session's tree has the array, and the box isn't one that may be read, for this cause
pub record IsNoBox (s : SessionState) (path from to : List ℕ) (fault : RegionFault) : Type 0 where
  pub node : Id8
  pub array : ArrayView
  pub found : array_at s path ≡ Ok (node, array)
  pub counted : box_count array from to ≡ Err (Region fault)

abbrev pub RegionTells : SessionState → (path from to : List ℕ)
    → Result (List ℤ) Refusal → List Event → Type 0
RegionTells s path from to (Ok numbers) journal = AreCells s path from to numbers journal
RegionTells s path from to (Err (Edit fault)) journal = array_at s path ≡ Err (Edit fault)
RegionTells s path from to (Err (Region fault)) journal = IsNoBox s path from to fault
RegionTells s path from to (Err why) journal = Unit {0}
