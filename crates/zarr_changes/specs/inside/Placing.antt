-- Entries of one array that are put at once, and put back.
use Rattle.std.specs.Prelude.{ℕ, List, [], ◌∷◌, Option, Some, None}
use Rattle.std.specs.Map.{remove_entry, set_value}
use Rattle.std.specs.BTreeMap.{is_at, insert_entry}
use Rattle.zarr_path.specs.Indices.{index_cmp}
use Rattle.manifest_file.specs.declared.manifest.Place.{Place}
use Rattle.zarr_changes.specs.declared.placing.Placed.{Placed}
use Rattle.zarr_changes.specs.declared.placing.Before.{Before}
use Rattle.zarr_changes.specs.inside.Kept.{ChunkRows}

-- the entries with those of chunks at these places, one after another
abbrev pub rows_placed : ChunkRows → List Placed → ChunkRows
rows_placed rows [] = rows
rows_placed rows (first ∷ more) =
    rows_placed (insert_entry index_cmp rows first.index (Some first.place)) more

-- what there was for a chunk, if there was an entry
abbrev pub put_back : (index : List ℕ) → Option (Option Place) → ChunkRows → ChunkRows
put_back index None rows = remove_entry (is_at (index_cmp index)) rows
put_back index (Some entry) rows = set_value (is_at (index_cmp index)) rows entry

-- the same of some chunks, the last one first
abbrev pub all_back : List Before → ChunkRows → ChunkRows
all_back [] rows = rows
all_back (first ∷ more) rows = put_back first.index first.entry (all_back more rows)
