-- Nodes, and what their metadata says. (Zarr v3 core specification,
-- "Metadata"; which parts stay is own.)
use Rattle.std.specs.Prelude.{◌≡◌, ℕ, ◌==◌, not, ◌||◌, nat_lt, if◌then◌else◌, Bool, true, false}
use Rattle.std.specs.Prelude.{List, length, Option, Some, None, is_some, IsTrue}
use Rattle.std.specs.List.{list_all}
use Rattle.std.specs.Ordering.{eq_by_cmp}
use Rattle.std.specs.Result.{result_ok}
use Rattle.std.specs.Str.{bytes_eq}
use Rattle.ice_ids.specs.declared.Id8.{Id8}
use Rattle.zarr_path.specs.Indices.{index_cmp}
use Rattle.zarr_meta.specs.declared.views.ArrayView.{ArrayView}
use Rattle.zarr_meta.specs.declared.views.MetaView.{MetaView}
use Rattle.zarr_meta.specs.declared.views.MetaView.TheVariants as view
use Rattle.zarr_meta.specs.Grids.{is_in_grid, chunk_bytes, most_chunks}
use Rattle.zarr_meta.specs.Kinds.{name_of, size_of}
use Rattle.zarr_meta.specs.Meta.{meta_of, view_in}
use Rattle.zarr_tree.specs.declared.edit.Frozen.{Frozen}
use Rattle.zarr_tree.specs.declared.edit.Frozen.TheVariants as frozen

-- a node: an id of its own, and the text of its `zarr.json`
pub record Node : Type 0 where
  pub id : Id8
  pub text : List ℕ

-- whether a text is metadata at all
abbrev pub is_metadata : List ℕ → Bool
is_metadata text = is_some (view_in text)

-- "Group metadata": whether it is that of a group
abbrev pub is_group_view : Option MetaView → Bool
is_group_view (Some view.Group) = true
is_group_view (Some (view.Array array)) = false
is_group_view None = false

abbrev pub is_group : List ℕ → Bool
is_group text = is_group_view (result_ok (meta_of text))

-- "Array metadata": what it says of an array, if it is an array's
abbrev pub array_of_view : Option MetaView → Option ArrayView
array_of_view (Some (view.Array array)) = Some array
array_of_view (Some view.Group) = None
array_of_view None = None

abbrev pub array_in : List ℕ → Option ArrayView
array_in text = array_of_view (result_ok (meta_of text))

abbrev pub is_array : List ℕ → Bool
is_array text = is_some (array_of_view (result_ok (meta_of text)))

-- whether two lists of numbers, one for each dimension, are the same
abbrev pub same_numbers : List ℕ → List ℕ → Bool
same_numbers x y = eq_by_cmp index_cmp x y

-- ---- the parts that stay as they are while the node is there

abbrev pub same_kind : ArrayView → ArrayView → Bool
same_kind a b = bytes_eq (name_of a.kind) (name_of b.kind)

-- elements of one byte are the same in either order of bytes
abbrev pub same_codecs : ArrayView → ArrayView → Bool
same_codecs a b = size_of a.kind == 1 || (if a.big then b.big else not b.big)

-- the first part in which two arrays differ; lengths, fill value, names and attributes may
abbrev pub array_change : ArrayView → ArrayView → Option Frozen
array_change a b =
    if not (length a.shape == length b.shape) then Some frozen.Rank else
    (if not (same_kind a b) then Some frozen.DataType else
    (if not (same_numbers a.chunks b.chunks) then Some frozen.ChunkGrid else
    (if not (same_codecs a b) then Some frozen.Codecs else
    None)))

abbrev pub view_change : Option MetaView → Option MetaView → Option Frozen
view_change (Some (view.Array a)) (Some (view.Array b)) = array_change a b
view_change (Some view.Group) (Some view.Group) = None
view_change None None = None
view_change m n = Some frozen.NodeType

-- the first part that stays in which a later text differs
abbrev pub frozen_change : List ℕ → List ℕ → Option Frozen
frozen_change text later = view_change (view_in text) (view_in later)

abbrev pub SameFrozen : List ℕ → List ℕ → Type 0
SameFrozen text later = frozen_change text later ≡ None

-- ---- chunks

-- "Regular grids": whether an array has a chunk of this index
abbrev pub in_grid : ArrayView → List ℕ → Bool
in_grid array index = is_in_grid array.shape array.chunks index

-- the bytes of a chunk
abbrev pub chunk_length : ArrayView → ℕ
chunk_length array = chunk_bytes (size_of array.kind) array.chunks

-- own: the numbers of an index of a chunk that is held are below the most chunks along a dimension
abbrev pub are_low : List ℕ → Bool
are_low index = list_all (λ n. nat_lt n most_chunks) index

-- what may be held at an index of the array of this text, these bytes or none: the index has a
-- number for each dimension, and the bytes are those of a whole chunk. The index may lie outside
-- the grid: a chunk stays where a dimension becomes shorter
pub record Fits (text index : List ℕ) (bytes : Option (List ℕ)) : Type 0 where
  pub array : ArrayView
  pub found : array_in text ≡ Some array
  pub rank : length index ≡ length array.shape
  pub low : IsTrue (are_low index)
  pub whole : (b : List ℕ) → bytes ≡ Some b → length b ≡ chunk_length array
