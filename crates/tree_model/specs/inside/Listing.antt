-- Lists of what is touched, before they are put in order; no public contract cites this.
use Rattle.std.specs.Prelude.{ℕ, Bool, ◌&&◌, if◌then◌else◌, List, map}
use Rattle.std.specs.List.{filter, list_any}
use Rattle.ice_ids.specs.declared.Id8.{Id8}
use Rattle.ice_ids.specs.Text.{same_id8}
use Rattle.zarr_tree.specs.declared.lists.ArrayChunks.{ArrayChunks}
use Rattle.zarr_tree.specs.Nodes.{Node, is_group, is_array}
use Rattle.zarr_tree.specs.Held.{HeldEntry, Rows, indices_of}

abbrev pub kind_of : (arrays : Bool) → List ℕ → Bool
kind_of arrays text = if arrays then is_array text else is_group text

-- the ids of rows that pass a test
abbrev pub ids_where : (List ℕ × Node → Bool) → Rows → List Id8
ids_where test rows = map (λ row. row.1.id) (filter test rows)

-- the arrays of rows that have entries, with the indices of those
abbrev pub has_chunks : List (HeldEntry (List ℕ)) → Id8 → Bool
has_chunks chunks id = list_any (λ entry. same_id8 entry.0 id) chunks

abbrev pub chunks_where : List (HeldEntry (List ℕ)) → Rows → List ArrayChunks
chunks_where chunks rows =
    map (λ row. record { node = row.1.id; chunks = indices_of chunks row.1.id })
    (filter (λ row. has_chunks chunks row.1.id && is_array row.1.text) rows)
