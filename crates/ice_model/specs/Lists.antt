-- When lists have the same, in whatever order (own).
use Rattle.std.specs.Prelude.{◌&&◌, Bool, ℕ, List, IsTrue}
use Rattle.std.specs.List.{list_all}
use Rattle.ice_ids.specs.declared.Id8.{Id8}
use Rattle.zarr_tree.specs.declared.lists.ArrayChunks.{ArrayChunks}
use Rattle.zarr_tree.specs.declared.lists.Touched.{Touched}
use Rattle.zarr_tree.specs.Touched.{Touches, lists, lists_chunk}
use Rattle.zarr_tree.specs.Changes.{Changes}
use Rattle.zarr_tree.specs.Trees.{Tree}

abbrev pub has_ids : List Id8 → List Id8 → Bool
has_ids ids others = list_all (λ id. lists ids id) others

abbrev pub same_ids : List Id8 → List Id8 → Bool
same_ids ids others = has_ids ids others && has_ids others ids

abbrev pub has_chunks_of : List ArrayChunks → ArrayChunks → Bool
has_chunks_of arrays other = list_all (λ i. lists_chunk arrays other.node i) other.chunks

abbrev pub has_chunks : List ArrayChunks → List ArrayChunks → Bool
has_chunks arrays others = list_all (λ other. has_chunks_of arrays other) others

abbrev pub same_chunks : List ArrayChunks → List ArrayChunks → Bool
same_chunks arrays others = has_chunks arrays others && has_chunks others arrays

abbrev pub SameLists : Touched → Touched → Type 0
SameLists s t =
    IsTrue (same_ids s.new_groups t.new_groups)
    × IsTrue (same_ids s.new_arrays t.new_arrays)
    × IsTrue (same_ids s.deleted_groups t.deleted_groups)
    × IsTrue (same_ids s.deleted_arrays t.deleted_arrays)
    × IsTrue (same_ids s.updated_groups t.updated_groups)
    × IsTrue (same_ids s.updated_arrays t.updated_arrays)
    × IsTrue (same_chunks s.updated_chunks t.updated_chunks)

-- these are the lists of what the changes touch of a tree
abbrev pub TouchesAlike : Touched → Changes → Tree → Type 0
TouchesAlike s c t = (model : Touched) × Touches c t model × SameLists s model
