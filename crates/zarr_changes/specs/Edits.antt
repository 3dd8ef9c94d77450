-- Single edits of what a session holds of its changes. (Own.)
use Rattle.std.specs.Prelude.{ℕ, Bool, not, ◌&&◌, if◌then◌else◌}
use Rattle.std.specs.Prelude.{List, [], ◌∷◌, ◌++◌, map, Option, Some, None}
use Rattle.std.specs.declared.cmp.Ordering.{Ordering}
use Rattle.std.specs.Ordering.{is_lt, ordering_then}
use Rattle.std.specs.FinMap.{FinMap, empty, get, insert, retain_keys, entries, keys, from_entries}
use Rattle.std.specs.List.{filter, list_any}
use Rattle.ice_ids.specs.declared.Id8.{Id8}
use Rattle.ice_ids.specs.Text.{same_id8, id8_cmp}
use Rattle.zarr_path.specs.Indices.{index_cmp}
use Rattle.zarr_path.specs.Paths.{path_cmp, is_within}
use Rattle.zarr_tree.specs.Nodes.{Node, same_numbers}
use Rattle.zarr_tree.specs.Edits.{with_text}
use Rattle.zarr_tree.specs.Changes.{has_id, has_id_within}
use Rattle.zarr_tree.specs.Held.{Held, HeldEntry, nodes_over}

-- nothing is changed
abbrev pub nothing : {P : Type 0} → Held P
nothing = record { dropped = []; added = empty; metas = []; chunks = [] }

-- a node more
abbrev pub with_added : {P : Type 0} → Held P → (path : List ℕ) → Node → Held P
with_added h p n = record h { added = insert h.added p n }

-- ids with one more, and texts with this one, in the order of the ids
abbrev pub with_id : List Id8 → Id8 → List Id8
with_id ids id =
    keys (insert (from_entries {R = id8_cmp} (map (λ other. (other, tt {0})) ids)) id (tt {0}))

abbrev pub with_row : List (Id8 × List ℕ) → Id8 → List ℕ → List (Id8 × List ℕ)
with_row rows id text = entries (insert (from_entries {R = id8_cmp} rows) id text)

-- another text for an added node, else for the tree's own
abbrev pub with_meta : {P : Type 0} → Held P → (path text : List ℕ)
    → (added there : Option Node) → Held P
with_meta h p text (Some n) there = record h { added = insert h.added p (with_text text n) }
with_meta h p text None (Some n) = record h { metas = with_row h.metas n.id text }
with_meta h p text None None = h

-- another text for the node at a path, where the tree has these nodes
abbrev pub with_text_at : {P : Type 0} → Held P → FinMap path_cmp Node
    → (path text : List ℕ) → Held P
with_text_at h nodes p text = with_meta h p text (get h.added p) (get (nodes_over h nodes) p)

-- the node at a path is entered as dropped where the tree has it there
abbrev pub with_dropped : List Id8 → (there own : Option Node) → List Id8
with_dropped ids None own = ids
with_dropped ids (Some n) own = if has_id n.id own then with_id ids n.id else ids

-- the node at a path, and all beneath it, taken away
abbrev pub without_node : {P : Type 0} → Held P → FinMap path_cmp Node → (path : List ℕ) → Held P
without_node h nodes p = record {
  dropped = with_dropped h.dropped (get (nodes_over h nodes) p) (get nodes p);
  added = retain_keys h.added (λ q. not (is_within p q));
  metas = filter (λ row. not (has_id_within (nodes_over h nodes) p row.0)) h.metas;
  chunks = filter (λ entry. not (has_id_within (nodes_over h nodes) p entry.0)) h.chunks;
}

-- the order of entries: by the bytes of the ids, and then by the indices
abbrev pub entry_cmp : {P : Type 0} → HeldEntry P → HeldEntry P → Ordering
entry_cmp a b = ordering_then (id8_cmp a.0 b.0) (index_cmp a.1 b.1)

-- the entries before this one, it, and those behind it: so it takes the place
-- of what there is for the chunk
abbrev pub with_entry : {P : Type 0} → List (HeldEntry P) → Id8 → (index : List ℕ) → Option P
    → List (HeldEntry P)
with_entry rows id i entry =
    filter (λ row. is_lt (entry_cmp row (id, i, entry))) rows
    ++ (id, i, entry) ∷ filter (λ row. is_lt (entry_cmp (id, i, entry) row)) rows

-- the entries but that of a chunk
abbrev pub without_entry : {P : Type 0} → List (HeldEntry P) → Id8 → (index : List ℕ)
    → List (HeldEntry P)
without_entry rows id i = filter (λ row. not (same_id8 row.0 id && same_numbers row.1 i)) rows

-- a chunk of the array that is there has its bytes at a place
abbrev pub placed_chunk : {P : Type 0} → Held P → (index : List ℕ) → P
    → (there : Option Node) → Held P
placed_chunk h i place None = h
placed_chunk h i place (Some n) = record h { chunks = with_entry h.chunks n.id i (Some place) }

abbrev pub with_chunk_at : {P : Type 0} → Held P → FinMap path_cmp Node
    → (path index : List ℕ) → P → Held P
with_chunk_at h nodes p i place = placed_chunk h i place (get (nodes_over h nodes) p)

-- a chunk isn't held any more: of an added array its entry goes, else an entry says so
abbrev pub unplaced_chunk : {P : Type 0} → Held P → (index : List ℕ)
    → (added there : Option Node) → Held P
unplaced_chunk h i added None = h
unplaced_chunk h i (Some m) (Some n) = record h { chunks = without_entry h.chunks n.id i }
unplaced_chunk h i None (Some n) = record h { chunks = with_entry h.chunks n.id i None }

abbrev pub without_chunk_at : {P : Type 0} → Held P → FinMap path_cmp Node
    → (path index : List ℕ) → Held P
without_chunk_at h nodes p i = unplaced_chunk h i (get h.added p) (get (nodes_over h nodes) p)

-- whether a list has a chunk, and what is held but the entries of the chunks of a list
abbrev pub lists_key : List (Id8 × List ℕ) → Id8 → (index : List ℕ) → Bool
lists_key out id i = list_any (λ key. same_id8 key.0 id && same_numbers key.1 i) out

abbrev pub without_chunks : {P : Type 0} → Held P → (out : List (Id8 × List ℕ)) → Held P
without_chunks h out =
    record h { chunks = filter (λ row. not (lists_key out row.0 row.1)) h.chunks }
