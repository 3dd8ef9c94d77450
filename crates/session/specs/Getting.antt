-- The machine that reads a chunk: it gets the manifests that may have it, one
-- after another, and then its object.
use Rattle.std.specs.Prelude.{◌≡◌, ℕ, ◌+◌, ◌-◌, ◌≤◌, ◌^◌, List, ◌∷◌, length, drop, Result, Ok, Err}
use Rattle.ice_ids.specs.declared.Id8.{Id8}
use Rattle.zarr_tree.specs.declared.edit.EditFault.{EditFault}
use Rattle.zarr_changes.specs.declared.chunks.ChunkAt.{ChunkAt}
use Rattle.store_api.specs.declared.machines.Refusal.{Refusal}
use Rattle.store_api.specs.declared.machines.Refusal.TheVariants.{NoMemory}
use Rattle.store_api.specs.Program.{Done, IsAsk}
use Rattle.store_api.specs.Running.{Program}
use Rattle.session.specs.declared.chunks.Value.{Value}
use Rattle.session.specs.declared.getting.Getting.{Getting}
use Rattle.session.specs.declared.getting.Getting.TheVariants.{Ready, Again}
use Rattle.session.specs.declared.getting.GetChunk.{GetChunk}
use Rattle.session.specs.declared.reading.Reading.{Reading}
use Rattle.session.specs.declared.reading.Reading.TheVariants.{Manifest, Object, Ended}
use Rattle.session.specs.Sessions.{SessionState}
use Rattle.session.specs.Editing.{refusal_of_edit}
use Rattle.session.specs.Chunks.{read_listed, read_object}

-- this manifest, and then those from a number on; or the object
abbrev pub reading_rest : (want : ℕ) → Id8 → (index : List ℕ) → Reading → Program Value
reading_rest want node index (Manifest id ids at) = read_listed want node index (id ∷ drop at ids)
reading_rest want node index (Object id offset size) = read_object want id offset size
reading_rest want node index Ended = Done (Err NoMemory)

-- what is still to be done
abbrev pub get_rest : GetChunk → Program Value
get_rest m = reading_rest m.want m.node m.index m.state

-- the session in the machine
abbrev pub get_session : GetChunk → SessionState
get_session m = m.session

abbrev pub reading_left : Reading → ℕ
reading_left (Manifest id ids at) = length ids - at + 2
reading_left (Object id offset size) = 1
reading_left Ended = 0

-- how many steps are left
abbrev pub get_left : GetChunk → ℕ
get_left m = reading_left m.state

-- a read was refused, and the session came back as it was
abbrev pub GetRefused : Program Value → (old back : SessionState) → Refusal → Type 0
GetRefused p old back NoMemory = back ≡ old
GetRefused p old back why = (p ≡ Done (Err why)) × (back ≡ old)

-- the chunk was read without any operation; or a machine has the program to run, and
-- the session; or this was refused
abbrev pub GetBegun : (program : Program Value) → SessionState
    → Result Getting (SessionState × Refusal) → Type 0
GetBegun p s (Ok (Ready t value)) = (p ≡ Done (Ok value)) × (t ≡ s)
GetBegun p s (Ok (Again m)) = (get_rest m ≡ p) × IsAsk p × (get_session m ≡ s)
GetBegun p s (Err refused) = GetRefused p s refused.0 refused.1

-- what refuses a read takes no memory, so it is told
abbrev pub GetsOutright : Result ChunkAt EditFault → SessionState
    → Result Getting (SessionState × Refusal) → Type 0
GetsOutright (Ok found) s result = Unit {0}
GetsOutright (Err fault) s result = result ≡ Err (s, refusal_of_edit fault)

-- a machine has so few steps left
abbrev pub IsShort : Getting → Type 0
IsShort (Ready t value) = Unit {0}
IsShort (Again m) = get_left m ≤ 2 ^ 64
