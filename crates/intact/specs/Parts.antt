-- The chunks that a manifest has for a node: those that are in the
-- manifest, and the parts of objects.
use Rattle.std.specs.Prelude.{ℕ, List, [], ◌∷◌, Option, Some, None}
use Rattle.std.specs.Prelude.{Result, Ok, Err, filter_map, unwrap_or}
use Rattle.std.specs.Option.{option_or}
use Rattle.ice_ids.specs.declared.Id8.{Id8}
use Rattle.manifest_file.specs.declared.manifest.Place.{Place}
use Rattle.manifest_file.specs.declared.manifest.Place.TheVariants.{Inline, Object}
use Rattle.manifest_file.specs.declared.manifest.ChunkRef.{ChunkRef}
use Rattle.manifest_file.specs.declared.manifest.ManifestFile.{ManifestFile}
use Rattle.held_manifest.specs.LookUp.{refs_of_node}
use Rattle.repo_objects.specs.declared.bad_objects.Bad.{Bad}
use Rattle.repo_objects.specs.Readings.{read_inline}
use Rattle.intact.specs.declared.visits.FileVisit.{FileVisit}
use Rattle.intact.specs.declared.visits.PartVisit.{PartVisit}

-- the entries under a node's id
abbrev pub entries_of : Id8 → ManifestFile → List ChunkRef
entries_of node m = unwrap_or (refs_of_node node m.arrays) []

-- ---- in the manifest
abbrev pub fault_in : Result (List ℕ) Bad → Option Bad
fault_in (Ok bytes) = None
fault_in (Err bad) = Some bad

abbrev pub inline_fault : (want : ℕ) → Place → Option Bad
inline_fault want (Inline bytes) = fault_in (read_inline want bytes)
inline_fault want (Object id offset size) = None

-- the first of these chunks that is in the manifest and isn't as long as a chunk
unfoldable pub first_short : (want : ℕ) → List ChunkRef → Option Bad
first_short want [] = None
first_short want (chunk ∷ chunks) =
    option_or (inline_fault want chunk.place) (first_short want chunks)

-- ---- in objects
abbrev pub part_at : (want : ℕ) → Place → Option PartVisit
part_at want (Inline bytes) = None
part_at want (Object id offset size) =
    Some (record { object = id; offset = offset; size = size; want = want })

-- the parts of objects that chunks name, in their order
abbrev pub parts_in : (want : ℕ) → List ChunkRef → List PartVisit
parts_in want chunks = filter_map (λ chunk. part_at want chunk.place) chunks

abbrev pub parts_of : FileVisit → ManifestFile → List PartVisit
parts_of f m = parts_in f.want (entries_of f.node m)
