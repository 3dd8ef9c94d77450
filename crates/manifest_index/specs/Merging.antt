-- Which manifests of a list may have a chunk, and what an array's chunks are after a change.
use Rattle.std.specs.Prelude.{◌≡◌, ◌<◌, ◌==◌, ℕ, if◌then◌else◌, true, List, [], ◌∷◌, ◌++◌}
use Rattle.std.specs.Prelude.{length, map, Option, None, Some, option_map, find, bytes_eq, ◌⊎◌}
use Rattle.std.specs.Option.{unwrap_or}
use Rattle.std.specs.List.{filter, filter_map, flat_map, Contains}
use Rattle.std.specs.FinMap.{FinMap, from_entries, entries}
use Rattle.zarr_path.specs.Indices.{index_cmp}
use Rattle.ice_ids.specs.declared.Id8.{Id8}
use Rattle.ice_ids.specs.declared.Id12.{Id12}
use Rattle.flat_tables.specs.Rows.{Ascends}
use Rattle.manifest_file.specs.declared.manifest.Place.{Place}
use Rattle.manifest_file.specs.declared.manifest.ChunkRef.{ChunkRef}
use Rattle.manifest_file.specs.declared.manifest.ArrayRefs.{ArrayRefs}
use Rattle.manifest_file.specs.declared.manifest.ManifestFile.{ManifestFile}
use Rattle.manifest_file.specs.Manifests.{ref_key}
use Rattle.held_manifest.specs.LookUp.{Listed, within, place_of, refs_of_node, look_up}
use Rattle.snapshot_file.specs.declared.nodes.ManifestRef.{ManifestRef}

-- the manifests whose extents contain an index, in the order of the list
abbrev pub ids_within : List ℕ → List ManifestRef → List Id12
ids_within index refs = map (λ m. m.id) (filter (λ m. within m.extents index) refs)

-- an index, and where its chunk is from now on, if it has one
abbrev pub ChunkChange : Type 0
ChunkChange = List ℕ × Option Place

-- what a change says of an index, if it says anything
abbrev pub changed_at : List ℕ → List ChunkChange → Option (Option Place)
changed_at index change = option_map (λ c. c.1) (find (λ c. bytes_eq c.0 index) change)

-- the chunk at an index is where the change says, else where the old list has it; an index of
-- another rank than the array's has none
abbrev pub merged : ℕ → Id8 → List Listed → List ChunkChange → List ℕ → Option Place
merged rank node old change index =
    if length index == rank then unwrap_or (changed_at index change) (look_up node index old)
    else None

-- ---- the chunks after a change

-- the indices of a node's chunks in a manifest
abbrev pub indices_in : Id8 → ManifestFile → List (List ℕ)
indices_in node manifest = map (λ r. r.index) (unwrap_or (refs_of_node node manifest.arrays) [])

-- the indices of which the change or the old manifests speak
abbrev pub indices_named : Id8 → List Listed → List ChunkChange → List (List ℕ)
indices_named node old change = map (λ c. c.0) change ++ flat_map (λ m. indices_in node m.1) old

-- an index with its chunk's place after the change, if it has one
abbrev pub entry_after : ℕ → Id8 → List Listed → List ChunkChange → List ℕ → Option (List ℕ × Place)
entry_after rank node old change index =
    option_map (λ place. (index, place)) (merged rank node old change index)

-- the places after the change, by the indices in their order
abbrev pub places_after : ℕ → Id8 → List Listed → List ChunkChange → FinMap index_cmp Place
places_after rank node old change =
    from_entries (filter_map (entry_after rank node old change) (indices_named node old change))

-- the chunk of an entry
abbrev pub entry_chunk : List ℕ × Place → ChunkRef
entry_chunk entry = record { index = entry.0; place = entry.1 }

-- the array with these chunks, if there are any
abbrev pub array_with : Id8 → List ChunkRef → Option ArrayRefs
array_with node [] = None
array_with node (chunk ∷ chunks) = Some (record { node = node; refs = chunk ∷ chunks })

-- the array after the change, if a chunk is left
unfoldable pub merged_array : (rank : ℕ) → Id8 → List Listed → List ChunkChange → Option ArrayRefs
merged_array rank node old change =
    array_with node (map entry_chunk (entries (places_after rank node old change)))

-- the node's chunks after a change: at least one, in strict order, and at each index what
-- is merged there; or none at all
abbrev pub IsMerged : ℕ → Id8 → List Listed → List ChunkChange → Option ArrayRefs → Type 0
IsMerged rank node old change None = (index : List ℕ) → merged rank node old change index ≡ None
IsMerged rank node old change (Some array) =
    (array.node ≡ node) × (0 < length array.refs) × Ascends ref_key None array.refs
    × ((index : List ℕ) → place_of index array.refs ≡ merged rank node old change index)

-- ---- where chunks come from

-- a listed manifest has this chunk of the node, within its extents
pub record ListsChunk (node : Id8) (chunk : ChunkRef) (m : Listed) : Type 0 where
  pub inside : within m.0 chunk.index ≡ true
  pub array : ArrayRefs
  pub among : Contains m.1.arrays array
  pub own : array.node ≡ node
  pub has : Contains array.refs chunk

-- the change has the chunk, or an old manifest has it
abbrev pub IsFrom : Id8 → List Listed → List ChunkChange → ChunkRef → Type 0
IsFrom node old change chunk =
    Contains change (chunk.index, Some chunk.place)
    ⊎ ((m : Listed) × Contains old m × ListsChunk node chunk m)
