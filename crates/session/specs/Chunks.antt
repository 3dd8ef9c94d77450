-- Chunks of a session's arrays: what is set, and what a read answers. (Zarr v3 core specification,
-- "Chunks"; Icechunk specification version 1, "Manifests": a chunk stands in its manifest or in an
-- object of its own; the bound is own.)
use Rattle.std.specs.Prelude.{◌≡◌, ◌⊎◌, ℕ, nat_le, if◌then◌else◌, List, [], ◌∷◌}
use Rattle.std.specs.Prelude.{length, replicate, Option, Some, None, Result, Ok, Err}
use Rattle.std.specs.FinMap.{get}
use Rattle.ice_ids.specs.declared.Id8.{Id8}
use Rattle.ice_ids.specs.declared.Id12.{Id12}
use Rattle.ice_ids.specs.Drawing.{drawn12, after12}
use Rattle.zarr_meta.specs.declared.views.ArrayView.{ArrayView}
use Rattle.zarr_tree.specs.declared.edit.EditFault.{EditFault}
use Rattle.zarr_tree.specs.Nodes.{Node, array_in, chunk_length}
use Rattle.zarr_tree.specs.Held.{entry_in}
use Rattle.zarr_changes.specs.declared.chunks.ChunkAt.{ChunkAt}
use Rattle.zarr_changes.specs.Edits.{with_chunk_at, with_entry, without_chunk_at}
use Rattle.zarr_changes.specs.Sets.{set_refusal, unset_refusal, chunk_found}
use Rattle.manifest_file.specs.declared.manifest.Place.{Place}
use Rattle.manifest_file.specs.declared.manifest.Place.TheVariants.{Inline, Object}
use Rattle.held_manifest.specs.LookUp.{entry_of}
use Rattle.manifest_index.specs.Merging.{ids_within}
use Rattle.repo_objects.specs.Readings.{read_inline}
use Rattle.changed_snapshot.specs.Rows.{own_manifests}
use Rattle.object_store.specs.declared.keys.Key.TheVariants.{Manifest as Manifest_key}
use Rattle.object_store.specs.declared.keys.Key.TheVariants.{Chunk as Chunk_key}
use Rattle.object_store.specs.declared.keys.Why.TheVariants.{Set}
use Rattle.object_store.specs.declared.events.Op.TheVariants.{PutNew}
use Rattle.object_store.specs.declared.events.New.TheVariants.{Done as New_done, Present}
use Rattle.object_store.specs.declared.events.Reply.{Reply}
use Rattle.object_store.specs.declared.events.Reply.TheVariants.{New as Is_new}
use Rattle.store_api.specs.declared.machines.Refusal.{Refusal}
use Rattle.store_api.specs.declared.machines.Refusal.TheVariants.{ReadOnly, IdsSpent}
use Rattle.store_api.specs.declared.machines.Refusal.TheVariants.{IdTaken, StoreFault}
use Rattle.store_api.specs.Program.{Done, Ask}
use Rattle.store_api.specs.Running.{Program, ◌>>=◌}
use Rattle.repo_read.specs.Answers.{at_key}
use Rattle.repo_read.specs.Programs.{manifest_program, object_program}
use Rattle.session.specs.declared.chunks.Value.{Value}
use Rattle.session.specs.declared.chunks.Value.TheVariants.{Bytes, Fill}
use Rattle.session.specs.Sessions.{SessionState, base_nodes, nodes_seen, writes}
use Rattle.session.specs.Editing.{refusal_of_edit, if_writes, unless_refused}

-- ---- a chunk that is set
-- the longest chunk that stands in a manifest
abbrev pub most_inline : ℕ
most_inline = 512

-- the session in which the chunk is at this place
abbrev pub with_chunk : SessionState → (path index : List ℕ) → Place → SessionState
with_chunk s path index place =
    record s { held = with_chunk_at s.held (base_nodes s) path index place }

-- the session in which the chunk of the node with this id is at this place
abbrev pub with_chunk_of : SessionState → Id8 → (index : List ℕ) → Place → SessionState
with_chunk_of s node index place = record s {
  held = record (s.held) { chunks = with_entry s.held.chunks node index (Some place) };
}

-- the session after an object's id was drawn
abbrev pub after_draw : SessionState → SessionState
after_draw s = record s { ids = after12 s.ids }

-- the object of a chunk was put, or its key was taken
abbrev pub after_object : SessionState → Id12 → Reply → Program SessionState
after_object t id (Is_new (New_done version now)) = Done (Ok t)
after_object t id (Is_new (Present version now)) = Done (Err (IdTaken (Chunk_key id)))
after_object t id _ = Done (Err StoreFault)

-- a long chunk is put as an object under the next id drawn
abbrev pub put_object : SessionState → (path index bytes : List ℕ) → Option Id12
    → Program SessionState
put_object s path index bytes None = Done (Err IdsSpent)
put_object s path index bytes (Some id) =
    Ask (PutNew (Chunk_key id) bytes Set)
    (after_object (with_chunk (after_draw s) path index (Object id 0 (length bytes))) id)

-- a short one stands in the session
abbrev pub put_chunk : SessionState → (path index bytes : List ℕ) → Program SessionState
put_chunk s path index bytes =
    if nat_le (length bytes) most_inline then Done (Ok (with_chunk s path index (Inline bytes)))
    else put_object s path index bytes (drawn12 s.ids)

-- this, unless the tree refuses the edit
abbrev pub unless_fault : {A : Type 0} → Option EditFault → Program A → Program A
unless_fault None p = p
unless_fault (Some fault) p = Done (Err (refusal_of_edit fault))

-- the session in which a chunk has these bytes, or the first refusal: ReadOnly, those of the edit
-- on its tree, IdsSpent, and then those of the object's put
unfoldable pub set_program : SessionState → (path index bytes : List ℕ) → Program SessionState
set_program s path index bytes =
    if writes s
    then unless_fault (set_refusal (nodes_seen s) path index (length bytes))
    (put_chunk s path index bytes)
    else Done (Err ReadOnly)

-- as many of one byte as a chunk of the array at a path has; none where no array is
abbrev pub length_in : Option ArrayView → ℕ
length_in None = 0
length_in (Some array) = chunk_length array

abbrev pub length_at : Option Node → ℕ
length_at None = 0
length_at (Some n) = length_in (array_in n.text)

abbrev pub filled : SessionState → (path : List ℕ) → (byte : ℕ) → List ℕ
filled s path byte = replicate (length_at (get (nodes_seen s) path)) byte

-- ---- a chunk that isn't held any more
abbrev pub without_chunk : SessionState → (path index : List ℕ) → SessionState
without_chunk s path index = record s { held = without_chunk_at s.held (base_nodes s) path index }

-- the session in which no chunk is held there, or the first refusal:
-- ReadOnly, those of the edit on its tree
unfoldable pub chunk_unset : SessionState → (path index : List ℕ) → Result SessionState Refusal
chunk_unset s path index =
    if_writes (writes s)
    (unless_refused (unset_refusal (nodes_seen s) path index) (Ok (without_chunk s path index)))

-- ---- a chunk that is read
-- a read found these bytes
abbrev pub found_bytes : Result (List ℕ) Refusal → Program Value
found_bytes (Ok bytes) = Done (Ok (Bytes bytes))
found_bytes (Err why) = Done (Err why)

-- the bytes of an object, of which a chunk is a part
abbrev pub read_object : (want : ℕ) → Id12 → (offset size : ℕ) → Program Value
read_object want id offset size =
    object_program want id offset size >>= λ bytes. Done (Ok (Bytes bytes))

-- the chunk at a place that a manifest tells
abbrev pub read_place : (want : ℕ) → (manifest : Id12) → Place → Program Value
read_place want manifest (Inline bytes) =
    found_bytes (at_key (Manifest_key manifest) (read_inline want bytes))
read_place want manifest (Object id offset size) = read_object want id offset size

-- what a manifest has, or else what follows
abbrev pub read_entry : (want : ℕ) → (manifest : Id12) → Program Value
    → Option Place → Program Value
read_entry want manifest rest None = rest
read_entry want manifest rest (Some place) = read_place want manifest place

-- the first manifest of these that has the chunk; none has it where none is left
unfoldable pub read_listed : (want : ℕ) → Id8 → (index : List ℕ) → List Id12 → Program Value
read_listed want node index [] = Done (Ok Fill)
read_listed want node index (manifest ∷ more) =
    manifest_program manifest
    >>= λ file. read_entry want manifest (read_listed want node index more)
    (entry_of node index file)

-- the chunk at a place of the session's own
abbrev pub read_own : (want : ℕ) → Place → Program Value
read_own want (Inline bytes) = Done (Ok (Bytes bytes))
read_own want (Object id offset size) = read_object want id offset size

-- by the session's own entry, else by the base's manifests whose extents contain the index
abbrev pub read_at : SessionState → (path index : List ℕ) → ChunkAt → Option (Option Place)
    → Program Value
read_at s path index at (Some (Some place)) = read_own at.bytes place
read_at s path index at (Some None) = Done (Ok Fill)
read_at s path index at None =
    read_listed at.bytes at.node index (ids_within index (own_manifests s.rows path at.node))

abbrev pub read_found : SessionState → (path index : List ℕ) → Result ChunkAt EditFault
    → Program Value
read_found s path index (Err fault) = Done (Err (refusal_of_edit fault))
read_found s path index (Ok at) = read_at s path index at (entry_in s.held.chunks at.node index)

-- the chunk of an array, or that it reads as the fill value; NoNode, NotArray, OutOfGrid,
-- and then refusals of what is got
unfoldable pub get_program : SessionState → (path index : List ℕ) → Program Value
get_program s path index = read_found s path index (chunk_found (nodes_seen s) path index)

-- ---- what the calls come to
-- nothing changed but that one object's id may have been drawn
abbrev pub SameOrDrawn12 : SessionState → SessionState → Type 0
SameOrDrawn12 old new = (new ≡ old) ⊎ (new ≡ after_draw old)
