-- What a list of chunks has at an index, a list of arrays for a node, and a node's
-- list of manifests for a chunk.
use Rattle.std.specs.Prelude.{ℕ, Bool, true, false, ◌&&◌, ◌==◌, nat_le, nat_lt}
use Rattle.std.specs.Prelude.{if◌then◌else◌, List, [], ◌∷◌, length, Option, None}
use Rattle.std.specs.Prelude.{option_map, option_and_then, find, bytes_eq}
use Rattle.std.specs.Option.{option_or}
use Rattle.ice_ids.specs.declared.Id8.{Id8}
use Rattle.ice_ids.specs.Text.{same_id8}
use Rattle.manifest_file.specs.declared.manifest.Place.{Place}
use Rattle.manifest_file.specs.declared.manifest.ChunkRef.{ChunkRef}
use Rattle.manifest_file.specs.declared.manifest.ArrayRefs.{ArrayRefs}
use Rattle.manifest_file.specs.declared.manifest.ManifestFile.{ManifestFile}

-- where the chunk at an index is
abbrev pub place_of : List ℕ → List ChunkRef → Option Place
place_of index refs = option_map (λ r. r.place) (find (λ r. bytes_eq r.index index) refs)

-- the chunks of a node's array
abbrev pub refs_of_node : Id8 → List ArrayRefs → Option (List ChunkRef)
refs_of_node node arrays = option_map (λ a. a.refs) (find (λ a. same_id8 a.node node) arrays)

-- an index lies within extents: a number for each, from the first on and below the second
abbrev pub within : List (ℕ × ℕ) → List ℕ → Bool
within [] [] = true
within [] (k ∷ ks) = false
within (e ∷ es) [] = false
within (e ∷ es) (k ∷ ks) = (nat_le e.0 k && nat_lt k e.1) && within es ks

-- where a manifest has the chunk of a node at an index
abbrev pub entry_of : Id8 → List ℕ → ManifestFile → Option Place
entry_of node index manifest = option_and_then (place_of index) (refs_of_node node manifest.arrays)

-- a manifest in the list of a node's manifests, with its extents there
abbrev pub Listed : Type 0
Listed = List (ℕ × ℕ) × ManifestFile

abbrev pub entry_seen : Id8 → List ℕ → Listed → Option Place
entry_seen node index m = if within m.0 index then entry_of node index m.1 else None

-- the chunk is where the first manifest has it whose extents contain the index and which
-- has an entry for node and index
abbrev pub look_up : Id8 → List ℕ → List Listed → Option Place
look_up node index [] = None
look_up node index (m ∷ ms) = option_or (entry_seen node index m) (look_up node index ms)

-- an index of another rank than the array's stands for nothing
abbrev pub chunk_place : ℕ → Id8 → List ℕ → List Listed → Option Place
chunk_place rank node index manifests =
    if length index == rank then look_up node index manifests else None
