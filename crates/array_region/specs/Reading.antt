-- What reading a box of numbers does: its chunks are read in order of their indices, and
-- the manifest that was got last is kept. (Icechunk specification version 1,
-- "Manifests"; what is kept is own.)
use Rattle.std.specs.Prelude.{◌≡◌, ℕ, ℤ, ◌==◌, ◌&&◌, if◌then◌else◌, Bool, List, [], ◌∷◌}
use Rattle.std.specs.Prelude.{length, replicate, Option, Some, None, Result, Ok, Err}
use Rattle.ice_ids.specs.declared.Id8.{Id8}
use Rattle.ice_ids.specs.declared.Id12.{Id12}
use Rattle.ice_ids.specs.Text.{same_id12}
use Rattle.zarr_meta.specs.declared.views.ArrayView.{ArrayView}
use Rattle.zarr_tree.specs.Held.{entry_in}
use Rattle.zarr_tree.specs.Nodes.{chunk_length}
use Rattle.manifest_file.specs.declared.manifest.Place.{Place}
use Rattle.manifest_file.specs.declared.manifest.ManifestFile.{ManifestFile}
use Rattle.held_manifest.specs.LookUp.{entry_of}
use Rattle.manifest_index.specs.Merging.{ids_within}
use Rattle.changed_snapshot.specs.Rows.{own_manifests}
use Rattle.store_api.specs.declared.machines.Refusal.{Refusal}
use Rattle.store_api.specs.Program.{Done}
use Rattle.store_api.specs.Running.{Program, ◌>>=◌}
use Rattle.repo_read.specs.Programs.{manifest_program}
use Rattle.session.specs.declared.chunks.Value.{Value}
use Rattle.session.specs.declared.chunks.Value.TheVariants.{Bytes, Fill}
use Rattle.session.specs.Sessions.{SessionState}
use Rattle.session.specs.Chunks.{read_object, read_own, read_place}
use Rattle.session.specs.Arrays.{array_at}
use Rattle.region_cells.specs.Boxes.{count_of}
use Rattle.region_cells.specs.Walks.{chunks_met, with_part}
use Rattle.array_region.specs.Planning.{box_count}

-- ---- a chunk
-- the manifest that was got last, if one was
abbrev pub Kept : Type 0
Kept = Option (Id12 × ManifestFile)

-- what was read of a chunk, and the manifest that is kept then
abbrev pub Chunk : Type 0
Chunk = Value × Kept

abbrev pub keeping : Kept → Value → Program Chunk
keeping kept value = Done (Ok (value, kept))

-- the chunk at a place of the session's own, and at one that a manifest tells
abbrev pub own_kept : (want : ℕ) → Kept → Place → Program Chunk
own_kept want kept place = read_own want place >>= keeping kept

abbrev pub place_kept : (want : ℕ) → (manifest : Id12) → Kept → Place → Program Chunk
place_kept want manifest kept place = read_place want manifest place >>= keeping kept

-- the bytes of an object, of which a chunk is a part
abbrev pub object_kept : (want : ℕ) → Kept → Id12 → (offset size : ℕ) → Program Chunk
object_kept want kept id offset size = read_object want id offset size >>= keeping kept

-- what a manifest has, or else what follows
abbrev pub entry_kept : (want : ℕ) → (manifest : Id12) → Kept → Program Chunk
    → Option Place → Program Chunk
entry_kept want manifest kept rest None = rest
entry_kept want manifest kept rest (Some place) = place_kept want manifest kept place

-- this manifest was got, or is the one that is kept: from now on it is the one that is
-- kept, also by what comes behind it
abbrev pub in_file : (want : ℕ) → Id8 → (index : List ℕ) → Id12 → (Kept → Program Chunk)
    → ManifestFile → Program Chunk
in_file want node index manifest more file =
    entry_kept want manifest (Some (manifest, file)) (more (Some (manifest, file)))
    (entry_of node index file)

-- the manifest is got
abbrev pub got_kept : (want : ℕ) → Id8 → (index : List ℕ) → Id12 → (Kept → Program Chunk)
    → Program Chunk
got_kept want node index manifest more =
    manifest_program manifest >>= in_file want node index manifest more

-- only one that isn't kept is got
abbrev pub in_manifest : (want : ℕ) → Id8 → (index : List ℕ) → Id12 → (Kept → Program Chunk)
    → Option ManifestFile → Program Chunk
in_manifest want node index manifest more None = got_kept want node index manifest more
in_manifest want node index manifest more (Some file) = in_file want node index manifest more file

-- this manifest, where it is the one that is kept
abbrev pub file_kept : Kept → Id12 → Option ManifestFile
file_kept None id = None
file_kept (Some kept) id = if same_id12 kept.0 id then Some kept.1 else None

-- the first manifest of these that has the chunk; none has it where none is left
unfoldable pub listed_kept : (want : ℕ) → Id8 → (index : List ℕ) → List Id12 → Kept → Program Chunk
listed_kept want node index [] kept = keeping kept Fill
listed_kept want node index (manifest ∷ more) kept =
    in_manifest want node index manifest (listed_kept want node index more)
    (file_kept kept manifest)

-- by the session's own entry, else by the base's manifests whose extents contain the index
abbrev pub entered_kept : SessionState → (path : List ℕ) → (want : ℕ) → Id8 → (index : List ℕ)
    → Kept → Option (Option Place) → Program Chunk
entered_kept s path want node index kept (Some (Some place)) = own_kept want kept place
entered_kept s path want node index kept (Some None) = keeping kept Fill
entered_kept s path want node index kept None =
    listed_kept want node index (ids_within index (own_manifests s.rows path node)) kept

abbrev pub chunk_kept : SessionState → (path : List ℕ) → (want : ℕ) → Id8
    → (index : List ℕ) → Kept → Program Chunk
chunk_kept s path want node index kept =
    entered_kept s path want node index kept (entry_in s.held.chunks node index)

-- ---- a box
-- an array, and the box of it that is read
pub record Reads : Type 0 where
  pub node : Id8
  pub array : ArrayView
  pub path : List ℕ
  pub from : List ℕ
  pub to : List ℕ

-- the bytes are those of a chunk of the array, with a number of its index for each dimension, and
-- these are the numbers of the box
abbrev pub fits : Reads → (index bytes : List ℕ) → List ℤ → Bool
fits r index bytes numbers =
    length index == length r.array.chunks && length bytes == chunk_length r.array
    && length numbers == count_of r.from r.to

-- the numbers with those of a chunk that was read
abbrev pub with_value : Reads → (index : List ℕ) → Value → List ℤ → List ℤ
with_value r index Fill numbers = numbers
with_value r index (Bytes bytes) numbers =
    if fits r index bytes numbers
    then with_part r.array.kind r.array.big r.from r.to r.array.chunks index bytes numbers
    else numbers

-- ---- a box that isn't one
abbrev pub why_of : {A : Type 0} → Result A Refusal → Option Refusal
why_of (Ok x) = None
why_of (Err why) = Some why

abbrev pub no_box : (from to : List ℕ) → Result (Id8 × ArrayView) Refusal → Option Refusal
no_box from to (Err why) = Some why
no_box from to (Ok found) = why_of (box_count found.1 from to)

-- why a box isn't one of the session's array at a path, if it isn't: NoNode, NotArray, OutOfShape,
-- Large. Nothing takes memory for it.
abbrev pub box_refused : SessionState → (path from to : List ℕ) → Option Refusal
box_refused s path from to = no_box from to (array_at s path)

-- such a refusal is told
abbrev pub ToldOutright : {A : Type 0} → Option Refusal → Result A Refusal → Type 0
ToldOutright None result = Unit {0}
ToldOutright (Some why) result = result ≡ Err why

-- ... and the session comes back as it was
abbrev pub ToldBeside : {A : Type 0} → Option Refusal → SessionState
    → Result A (SessionState × Refusal) → Type 0
ToldBeside None s result = Unit {0}
ToldBeside (Some why) s result = result ≡ Err (s, why)

-- ---- the chunks of a box
unfoldable pub read_chunks : SessionState → Reads → Kept → List ℤ → (met : List (List ℕ))
    → Program (List ℤ)
read_chunks s r kept numbers [] = Done (Ok numbers)
read_chunks s r kept numbers (index ∷ met) =
    chunk_kept s r.path (chunk_length r.array) r.node index kept
    >>= λ chunk. read_chunks s r chunk.1 (with_value r index chunk.0 numbers) met

abbrev pub read_box : SessionState → Reads → Result ℕ Refusal → Program (List ℤ)
read_box s r (Err why) = Done (Err why)
read_box s r (Ok count) =
    read_chunks s r None (replicate count r.array.fill) (chunks_met r.array.chunks r.from r.to)

abbrev pub read_array : SessionState → (path from to : List ℕ) → Result (Id8 × ArrayView) Refusal
    → Program (List ℤ)
read_array s path from to (Err why) = Done (Err why)
read_array s path from to (Ok found) =
    read_box s (record { node = found.0; array = found.1; path = path; from = from; to = to })
    (box_count found.1 from to)

-- The numbers of a box in C order, or the first refusal: NoNode, NotArray, OutOfShape, Large,
-- and then refusals of what is got.
unfoldable pub region_program : SessionState → (path from to : List ℕ) → Program (List ℤ)
region_program s path from to = read_array s path from to (array_at s path)
