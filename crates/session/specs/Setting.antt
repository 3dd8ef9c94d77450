-- The machine that sets a chunk: it puts the object, and enters the chunk with the reply.
use Rattle.std.specs.Prelude.{◌≡◌, ℕ, List, length, Option, Some, None, Result, Ok, Err}
use Rattle.ice_ids.specs.declared.Id8.{Id8}
use Rattle.ice_ids.specs.declared.Id12.{Id12}
use Rattle.manifest_file.specs.declared.manifest.Place.TheVariants.{Object}
use Rattle.object_store.specs.declared.keys.Key.TheVariants.{Chunk}
use Rattle.object_store.specs.declared.keys.Why.TheVariants.{Set}
use Rattle.object_store.specs.declared.events.Op.TheVariants.{PutNew}
use Rattle.store_api.specs.declared.machines.Refusal.{Refusal}
use Rattle.store_api.specs.declared.machines.Refusal.TheVariants.{IdTaken, StoreFault, NoMemory}
use Rattle.store_api.specs.Program.{Done, Ask, IsAsk}
use Rattle.store_api.specs.Running.{Program}
use Rattle.session.specs.declared.setting.Setting.{Setting}
use Rattle.session.specs.declared.setting.Setting.TheVariants.{Ready, Again}
use Rattle.session.specs.declared.setting.SetChunk.{SetChunk}
use Rattle.session.specs.declared.putting.Putting.{Putting}
use Rattle.session.specs.declared.putting.Putting.TheVariants as state
use Rattle.session.specs.Sessions.{SessionState}
use Rattle.session.specs.Chunks.{with_chunk_of, after_draw, after_object, SameOrDrawn12}

-- the put of the object, and what follows
abbrev pub putting_rest : Id8 → (index bytes : List ℕ) → Id12 → Putting → Program SessionState
putting_rest node index bytes id (state.Object s) =
    Ask (PutNew (Chunk id) bytes Set)
    (after_object (with_chunk_of s node index (Object id 0 (length bytes))) id)
putting_rest node index bytes id (state.Refused s) = Done (Err NoMemory)
putting_rest node index bytes id state.Ended = Done (Err NoMemory)

-- what is still to be done
abbrev pub set_rest : SetChunk → Program SessionState
set_rest m = putting_rest m.node m.index m.bytes m.id m.state

abbrev pub putting_session : Putting → Option SessionState
putting_session (state.Object s) = Some s
putting_session (state.Refused s) = Some s
putting_session state.Ended = None

-- the session in the machine, until it is given out
abbrev pub set_session : SetChunk → Option SessionState
set_session m = putting_session m.state

abbrev pub putting_left : Putting → ℕ
putting_left (state.Object s) = 1
putting_left (state.Refused s) = 0
putting_left state.Ended = 0

-- how many steps are left
abbrev pub set_left : SetChunk → ℕ
set_left m = putting_left m.state

-- a call was refused, and the session came back: as it was, but that one object's id may have
-- been drawn where memory ran out
abbrev pub SetRefused : Program SessionState → (old back : SessionState) → Refusal → Type 0
SetRefused p old back NoMemory = SameOrDrawn12 old back
SetRefused p old back why = (p ≡ Done (Err why)) × (back ≡ old)

-- the chunk is set; or a machine has the program to run, and the session with
-- the id drawn; or this was refused
abbrev pub SetBegun : (program : Program SessionState) → SessionState
    → Result Setting (SessionState × Refusal) → Type 0
SetBegun p s (Ok (Ready t)) = p ≡ Done (Ok t)
SetBegun p s (Ok (Again m)) = (set_rest m ≡ p) × IsAsk p × (set_session m ≡ Some (after_draw s))
SetBegun p s (Err refused) = SetRefused p s refused.0 refused.1

-- what refuses a set before it draws an id takes no memory, so it is told
abbrev pub SetsOutright : Result (Unit {0}) Refusal → SessionState
    → Result Setting (SessionState × Refusal) → Type 0
SetsOutright (Ok allowed) s result = Unit {0}
SetsOutright (Err why) s result = result ≡ Err (s, why)

-- the refusals of the machine
abbrev pub MayRefuseSet : Refusal → Type 0
MayRefuseSet (IdTaken key) = Unit {0}
MayRefuseSet StoreFault = Unit {0}
MayRefuseSet NoMemory = Unit {0}
MayRefuseSet _ = ⊥
