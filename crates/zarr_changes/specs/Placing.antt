-- Chunks that are entered at once. (Own.)
use Rattle.std.specs.Prelude.{List, [], ◌∷◌, Some}
use Rattle.ice_ids.specs.declared.Id8.{Id8}
use Rattle.zarr_tree.specs.Held.{HeldEntry}
use Rattle.manifest_file.specs.declared.manifest.Place.{Place}
use Rattle.zarr_changes.specs.declared.placing.Placed.{Placed}
use Rattle.zarr_changes.specs.Edits.{with_entry}

-- the entries with those of an array's chunks at these places, one after another
abbrev pub with_placed : List (HeldEntry Place) → Id8 → List Placed → List (HeldEntry Place)
with_placed rows id [] = rows
with_placed rows id (first ∷ more) =
    with_placed (with_entry rows id first.index (Some first.place)) id more
