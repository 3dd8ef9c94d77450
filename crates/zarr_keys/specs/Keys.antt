-- A Zarr store's view of a session: what its keys have, and what it is to set and to erase
-- them. (Zarr v3 core specification, "Stores", "Chunk key encoding". That erasing a node's
-- metadata drops the node is own.)
use Rattle.std.specs.Prelude.{ℕ, List, Option, Some, None, Result, Ok, Err}
use Rattle.std.specs.FinMap.{get}
use Rattle.ice_ids.specs.declared.Id8.{Id8}
use Rattle.zarr_path.specs.declared.keys.ZarrKey.{ZarrKey}
use Rattle.zarr_path.specs.declared.keys.ZarrKey.TheVariants.{Meta, Chunk}
use Rattle.zarr_path.specs.Keys.{key_of}
use Rattle.zarr_tree.specs.Nodes.{Node}
use Rattle.store_api.specs.declared.machines.Refusal.{Refusal}
use Rattle.store_api.specs.declared.machines.Refusal.TheVariants.{BadKey}
use Rattle.store_api.specs.Program.{Done}
use Rattle.store_api.specs.Running.{Program, ◌>>=◌}
use Rattle.session.specs.declared.chunks.Value.{Value}
use Rattle.session.specs.declared.chunks.Value.TheVariants.{Bytes as Is_bytes, Fill}
use Rattle.session.specs.Sessions.{SessionState, nodes_seen}
use Rattle.session.specs.Editing.{node_added, meta_set, node_dropped}
use Rattle.session.specs.Chunks.{get_program, set_program, chunk_unset}
use Rattle.zarr_keys.specs.declared.values.KeyValue.{KeyValue}
use Rattle.zarr_keys.specs.declared.values.KeyValue.TheVariants.{Bytes, Absent}

-- ---- what a key has
-- the key of metadata has the node's text, or nothing where no node is there
abbrev pub node_value : Option Node → KeyValue
node_value None = Absent
node_value (Some node) = Bytes node.text

abbrev pub meta_value : SessionState → (path : List ℕ) → KeyValue
meta_value s path = node_value (get (nodes_seen s) path)

-- the key of a chunk has its bytes, or nothing where it reads as the fill value
abbrev pub chunk_value : Value → KeyValue
chunk_value (Is_bytes bytes) = Bytes bytes
chunk_value Fill = Absent

abbrev pub answered : Value → Program KeyValue
answered value = Done (Ok (chunk_value value))

abbrev pub chunk_program : SessionState → (path index : List ℕ) → Program KeyValue
chunk_program s path index = get_program s path index >>= answered

abbrev pub get_at : SessionState → Option ZarrKey → Program KeyValue
get_at s None = Done (Err BadKey)
get_at s (Some (Meta path)) = Done (Ok (meta_value s path))
get_at s (Some (Chunk path index)) = chunk_program s path index

-- what a key has, or the first refusal: BadKey, those of the chunk's read
unfoldable pub key_get_program : SessionState → (key : List ℕ) → Program KeyValue
key_get_program s key = get_at s (key_of key)

-- ---- keys that are set
-- the session without the id of the node that was added
abbrev pub session_of : Result (Id8 × SessionState) Refusal → Result SessionState Refusal
session_of (Ok added) = Ok added.1
session_of (Err why) = Err why

-- another text where a node is there, else one more node, a group or an array, as the text says
abbrev pub put_over : Option Node → SessionState → (path text : List ℕ)
    → Result SessionState Refusal
put_over (Some node) s path text = meta_set s path text
put_over None s path text = session_of (node_added s path text)

abbrev pub meta_put : SessionState → (path text : List ℕ) → Result SessionState Refusal
meta_put s path text = put_over (get (nodes_seen s) path) s path text

abbrev pub set_at : SessionState → (bytes : List ℕ) → Option ZarrKey → Program SessionState
set_at s bytes None = Done (Err BadKey)
set_at s bytes (Some (Meta path)) = Done (meta_put s path bytes)
set_at s bytes (Some (Chunk path index)) = set_program s path index bytes

-- the session in which a key has these bytes, or the first refusal: BadKey, those of the edit that
-- sets the metadata or the chunk
unfoldable pub key_set_program : SessionState → (key bytes : List ℕ) → Program SessionState
key_set_program s key bytes = set_at s bytes (key_of key)

-- ---- keys that are erased
abbrev pub erased_at : SessionState → Option ZarrKey → Result SessionState Refusal
erased_at s None = Err BadKey
erased_at s (Some (Meta path)) = node_dropped s path
erased_at s (Some (Chunk path index)) = chunk_unset s path index

-- the session without the node, and all beneath it, or without the chunk; or the first
-- refusal: BadKey, those of that edit
unfoldable pub key_erased : SessionState → (key : List ℕ) → Result SessionState Refusal
key_erased s key = erased_at s (key_of key)
