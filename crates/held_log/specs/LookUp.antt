-- The chunks that a log lists of an array.
use Rattle.std.specs.Prelude.{ℕ, if◌then◌else◌, List, []}
use Rattle.std.specs.List.{flat_map}
use Rattle.ice_ids.specs.declared.Id8.{Id8}
use Rattle.ice_ids.specs.Text.{same_id8}
use Rattle.zarr_tree.specs.declared.lists.ArrayChunks.{ArrayChunks}

-- those of each row with the array's id
abbrev pub chunks_listed : List ArrayChunks → Id8 → List (List ℕ)
chunks_listed arrays id =
    flat_map (λ array. if same_id8 array.node id then array.chunks else []) arrays
