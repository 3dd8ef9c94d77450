-- The rows of the maps that the code keeps; no public contract cites this.
use Rattle.std.specs.Prelude.{ℕ, List, [], ◌∷◌, ◌++◌, map, Option}
use Rattle.std.specs.BTreeMap.{BTreeMap}
use Rattle.ice_ids.specs.declared.Id8.{Id8}
use Rattle.zarr_meta.specs.declared.metas.Meta.{Meta}
use Rattle.zarr_tree.specs.Held.{HeldEntry}
use Rattle.manifest_file.specs.declared.manifest.Place.{Place}

-- the ids and texts of metadata
abbrev pub text_rows : List (Id8 × Meta) → List (Id8 × List ℕ)
text_rows metas = map (λ e. (e.0, e.1.text)) metas

-- the entries of one array: indices, and where the chunks are, if they are held
abbrev pub ChunkRows : Type 0
ChunkRows = List (List ℕ × Option Place)

abbrev pub array_rows : List (Id8 × BTreeMap (List ℕ) (Option Place)) → List (Id8 × ChunkRows)
array_rows arrays = map (λ e. (e.0, e.1.entries)) arrays

-- the entries of all arrays, one array's behind another's
abbrev pub tagged : Id8 → ChunkRows → List (HeldEntry Place)
tagged id rows = map (λ row. (id, row.0, row.1)) rows

abbrev pub entry_rows : List (Id8 × ChunkRows) → List (HeldEntry Place)
entry_rows [] = []
entry_rows (e ∷ es) = tagged e.0 e.1 ++ entry_rows es
