-- What a line of a task does to its session. Its play, what it shows, what refuses it and which
-- session it leads to are all read from here.
use Rattle.std.specs.Prelude.{ℕ, ℤ, List, [], ◌∷◌, map, Option, Some, None, Result, Ok, Err}
use Rattle.ice_ids.specs.declared.Id12.{Id12}
use Rattle.zarr_path.specs.declared.keys.ZarrKey.{ZarrKey}
use Rattle.zarr_path.specs.declared.keys.ZarrKey.TheVariants.{Meta as Meta_key, Chunk as Chunk_key}
use Rattle.zarr_path.specs.Keys.{key_of}
use Rattle.zarr_meta.specs.Plain.{group_text}
use Rattle.store_api.specs.declared.machines.Refusal.{Refusal}
use Rattle.store_api.specs.declared.machines.Refusal.TheVariants.{BadKey}
use Rattle.session.specs.declared.session.Listing.{Listing}
use Rattle.session.specs.declared.chunks.Value.{Value}
use Rattle.session.specs.declared.chunks.Value.TheVariants.{Bytes as Is_bytes, Fill}
use Rattle.session.specs.Sessions.{SessionState}
use Rattle.session.specs.Chunks.{chunk_unset, filled}
use Rattle.session.specs.Editing.{group_added, array_added, node_added, meta_set}
use Rattle.session.specs.Editing.{node_dropped, prop_added, text_at, listed}
use Rattle.zarr_keys.specs.declared.values.KeyValue.{KeyValue}
use Rattle.zarr_keys.specs.declared.values.KeyValue.TheVariants.{Bytes, Absent}
use Rattle.zarr_keys.specs.Keys.{meta_value, chunk_value, session_of, meta_put, key_erased}
use Rattle.script_calls.specs.declared.calls.Call.{Call}
use Rattle.script_calls.specs.declared.calls.Call.TheVariants.{Edit, Read, Commit, Ref, Prop, Lease}
use Rattle.script_calls.specs.declared.calls.EditCall.{EditCall}
use Rattle.script_calls.specs.declared.calls.EditCall.TheVariants.{Group, Array, Make, Meta}
use Rattle.script_calls.specs.declared.calls.EditCall.TheVariants.{Drop, Set, Fill as Fill_call}
use Rattle.script_calls.specs.declared.calls.EditCall.TheVariants.{Unset, Put, KeySet, KeyErase}
use Rattle.script_calls.specs.declared.calls.ReadCall.{ReadCall}
use Rattle.script_calls.specs.declared.calls.ReadCall.TheVariants.{List as List_call, Get}
use Rattle.script_calls.specs.declared.calls.ReadCall.TheVariants.{Chunk, Cells, KeyGet}
use Rattle.play_outcome.specs.declared.outcome.Shown.{Shown}
use Rattle.play_outcome.specs.declared.outcome.Shown.TheVariants.{Node as Shown_node}
use Rattle.play_outcome.specs.declared.outcome.Shown.TheVariants.{Meta as Shown_meta}
use Rattle.play_outcome.specs.declared.outcome.Shown.TheVariants.{Chunk as Shown_chunk}
use Rattle.play_outcome.specs.declared.outcome.Shown.TheVariants.{Fill as Shown_fill}
use Rattle.play_outcome.specs.declared.outcome.Shown.TheVariants.{Cells as Shown_cells}
use Rattle.play_outcome.specs.declared.outcome.Shown.TheVariants.{Key as Shown_key}
use Rattle.play_outcome.specs.declared.outcome.Shown.TheVariants.{Lease as Shown_lease}

-- ---- edits
-- the session behind an edit that needs no operation, or why it is refused; a text that is made a
-- node is a group's or an array's, as it says; what sets chunks leaves it as it is
abbrev pub edits_to : EditCall → SessionState → Result SessionState Refusal
edits_to (Group path) s = session_of (group_added s path group_text)
edits_to (Array path text) s = session_of (array_added s path text)
edits_to (Make path text) s = session_of (node_added s path text)
edits_to (Meta path text) s = meta_set s path text
edits_to (Drop path) s = node_dropped s path
edits_to (Unset path index) s = chunk_unset s path index
edits_to (KeyErase key) s = key_erased s key
edits_to _ s = Ok s

-- ---- reads
-- a node of a listing that this line of the script asked for
abbrev pub node_shown : ℕ → Listing → Shown
node_shown line node = Shown_node line node.array node.path

abbrev pub nodes_shown : ℕ → Result (List Listing) Refusal → Result (List Shown) Refusal
nodes_shown line (Ok nodes) = Ok (map (node_shown line) nodes)
nodes_shown line (Err why) = Err why

-- the metadata of a node that this line of the script asked for
abbrev pub meta_shown : ℕ → Result (List ℕ) Refusal → Result (List Shown) Refusal
meta_shown line (Ok text) = Ok (Shown_meta line text ∷ [])
meta_shown line (Err why) = Err why

-- what a read in this line of the script shows, or why it is refused
abbrev pub read_by : ℕ → ReadCall → SessionState → Result (List Shown) Refusal
read_by line (List_call path) s = nodes_shown line (listed s path)
read_by line (Get path) s = meta_shown line (text_at s path)
read_by line _ s = Ok []

-- the chunk that this line of the script asked for
abbrev pub value_shown : ℕ → Value → Shown
value_shown line (Is_bytes bytes) = Shown_chunk line bytes
value_shown line Fill = Shown_fill line

-- the numbers of a box of cells that this line of the script asked for
abbrev pub cells_shown : ℕ → List ℤ → Shown
cells_shown line numbers = Shown_cells line numbers

-- what the key has that this line of the script asked for
abbrev pub key_shown : ℕ → KeyValue → Shown
key_shown line (Bytes bytes) = Shown_key line (Some bytes)
key_shown line Absent = Shown_key line None

-- what a chunk's key has
abbrev pub chunk_key_shown : ℕ → Value → Shown
chunk_key_shown line value = key_shown line (chunk_value value)

-- ---- leases
-- a lease that this line of the script put, or may have put
abbrev pub lease_shown : ℕ → Id12 → Shown
lease_shown line id = Shown_lease line id None

-- ---- lines
-- what a line does: it shows something and leads to a session, or is refused; it sets the
-- bytes of a chunk; it reads a chunk and shows it so; it puts numbers into a box of cells; it
-- gathers those of a box and shows them so; it leases the session's base, and shows that so;
-- or it commits, with this message
pub data LineDeed : Type 0 where
  Goes : Result (List Shown × SessionState) Refusal → LineDeed
  Sets : (path index bytes : List ℕ) → LineDeed
  Reads : (path index : List ℕ) → (Value → Shown) → LineDeed
  Puts : (path from to : List ℕ) → List ℤ → LineDeed
  Gathers : (path from to : List ℕ) → (List ℤ → Shown) → LineDeed
  Leases : (Id12 → Shown) → LineDeed
  Commits : List ℕ → LineDeed

-- an edit shows nothing
abbrev pub silent : Result SessionState Refusal → Result (List Shown × SessionState) Refusal
silent (Ok s) = Ok ([], s)
silent (Err why) = Err why

-- a read leaves the session as it was
abbrev pub still : SessionState → Result (List Shown) Refusal
    → Result (List Shown × SessionState) Refusal
still s (Ok shown) = Ok (shown, s)
still s (Err why) = Err why

-- what is done to a session where a key is set: the text of a node is put,
-- or the bytes of a chunk are set
abbrev pub key_set_deed : (bytes : List ℕ) → Option ZarrKey → SessionState → LineDeed
key_set_deed bytes None s = Goes (Err BadKey)
key_set_deed bytes (Some (Meta_key path)) s = Goes (silent (meta_put s path bytes))
key_set_deed bytes (Some (Chunk_key path index)) s = Sets path index bytes

-- what is done where a key is read: the text of a node is shown, or a chunk is read
abbrev pub key_get_deed : ℕ → Option ZarrKey → SessionState → LineDeed
key_get_deed line None s = Goes (Err BadKey)
key_get_deed line (Some (Meta_key path)) s = Goes (Ok (key_shown line (meta_value s path) ∷ [], s))
key_get_deed line (Some (Chunk_key path index)) s = Reads path index (chunk_key_shown line)

-- what an edit does to a session
abbrev pub edit_deed : EditCall → SessionState → LineDeed
edit_deed (Set path index bytes) s = Sets path index bytes
edit_deed (Fill_call path index byte) s = Sets path index (filled s path byte)
edit_deed (Put place numbers) s = Puts place.path place.from place.to numbers
edit_deed (KeySet key bytes) s = key_set_deed bytes (key_of key) s
edit_deed edit s = Goes (silent (edits_to edit s))

-- what a read in this line of the script does
abbrev pub read_deed : ℕ → ReadCall → SessionState → LineDeed
read_deed line (Chunk path index) s = Reads path index (value_shown line)
read_deed line (Cells place) s = Gathers place.path place.from place.to (cells_shown line)
read_deed line (KeyGet key) s = key_get_deed line (key_of key) s
read_deed line read s = Goes (still s (read_by line read s))

-- what a call in this line of the script does to a session; one on refs, which the grammar
-- keeps out of sessions, does nothing
abbrev pub deed : ℕ → Call → SessionState → LineDeed
deed line (Edit edit) s = edit_deed edit s
deed line (Read read) s = read_deed line read s
deed line (Commit message) s = Commits message
deed line (Ref call) s = Goes (Ok ([], s))
deed line (Prop name value) s = Goes (silent (prop_added s name value))
deed line Lease s = Leases (lease_shown line)
