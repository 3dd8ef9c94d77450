-- One more edit in changes, by the tree's own nodes and those under the changes;
-- no public contract cites this.
use Rattle.std.specs.Prelude.{ℕ, not, ◌&&◌, ◌||◌, if◌then◌else◌, List, map, Some, None, is_some}
use Rattle.std.specs.List.{filter}
use Rattle.std.specs.FinMap.{FinMap, get, insert, retain_keys}
use Rattle.ice_ids.specs.declared.Id8.{Id8}
use Rattle.zarr_path.specs.Paths.{path_cmp, is_within}
use Rattle.zarr_tree.specs.Nodes.{Node}
use Rattle.zarr_tree.specs.Edits.{Edit, Add, SetMeta, Drop, Set, Unset}
use Rattle.zarr_tree.specs.Changes.{Changes, has_id, has_id_within, with_meta, with_entry}
use Rattle.zarr_tree.specs.Held.{Rows}

abbrev pub entered : Changes → (own under : FinMap path_cmp Node) → Edit → Changes
entered c own under (Add p id text) =
    record c { added = insert c.added p (record { id = id; text = text }) }
entered c own under (SetMeta p text) = with_meta c p text (get c.added p) (get under p)
entered c own under (Drop p) = record {
  dropped = λ id. c.dropped id || (has_id id (get under p) && has_id id (get own p));
  added = retain_keys c.added (λ q. not (is_within p q));
  metas = λ id. if has_id_within under p id then None else c.metas id;
  chunks = λ id j. if has_id_within under p id then None else c.chunks id j;
}
entered c own under (Set p i bytes) = with_entry c i (Some (Some bytes)) (get under p)
entered c own under (Unset p i) =
    with_entry c i (if is_some (get c.added p) then None else Some None) (get under p)

-- the ids of rows at a path and beneath it
abbrev pub ids_within : (path : List ℕ) → Rows → List Id8
ids_within p rows = map (λ row. row.1.id) (filter (λ row. is_within p row.0) rows)
