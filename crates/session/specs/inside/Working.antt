-- What the parts of calls on chunks come to.
use Rattle.std.specs.Prelude.{◌≡◌, ◌≤◌, ◌^◌, ℕ, nat_le, if◌then◌else◌, List}
use Rattle.std.specs.Prelude.{length, false, Option, Some, None, Result, Ok, Err}
use Rattle.ice_ids.specs.declared.Id8.{Id8}
use Rattle.ice_ids.specs.declared.Id12.{Id12}
use Rattle.ice_ids.specs.Drawing.{drawn12}
use Rattle.manifest_file.specs.declared.manifest.Place.TheVariants.{Inline, Object}
use Rattle.object_store.specs.declared.keys.Key.TheVariants.{Chunk}
use Rattle.object_store.specs.declared.keys.Why.TheVariants.{Set}
use Rattle.object_store.specs.declared.events.Op.TheVariants.{PutNew}
use Rattle.store_api.specs.declared.machines.Next.{Next}
use Rattle.store_api.specs.declared.machines.Refusal.{Refusal}
use Rattle.store_api.specs.declared.machines.Refusal.TheVariants.{IdsSpent}
use Rattle.store_api.specs.Program.{Done, Ask, IsAsk, Lands, is_fault}
use Rattle.store_api.specs.Running.{Program}
use Rattle.session.specs.declared.chunks.Value.{Value}
use Rattle.session.specs.declared.reading.First.{First}
use Rattle.session.specs.declared.reading.First.TheVariants.{Told, Reads}
use Rattle.session.specs.Sessions.{SessionState}
use Rattle.session.specs.Chunks.{with_chunk_of, most_inline, after_draw, after_object}
use Rattle.session.specs.Getting.{reading_rest, reading_left}

-- a long chunk of the node with this id is put as an object under the next id drawn
abbrev pub put_object_of : SessionState → Id8 → (index bytes : List ℕ) → Option Id12
    → Program SessionState
put_object_of s node index bytes None = Done (Err IdsSpent)
put_object_of s node index bytes (Some id) =
    Ask (PutNew (Chunk id) bytes Set)
    (after_object (with_chunk_of (after_draw s) node index (Object id 0 (length bytes))) id)

-- and a short one stands in the session
abbrev pub put_chunk_of : SessionState → Id8 → (index bytes : List ℕ) → Program SessionState
put_chunk_of s node index bytes =
    if nat_le (length bytes) most_inline then Done (Ok (with_chunk_of s node index (Inline bytes)))
    else put_object_of s node index bytes (drawn12 s.ids)

-- where a reply took the machine to which the store had answered: memory may be wanting,
-- and no fault of the store is told
abbrev pub IsCalm : {T : Type 0} → Result (Next T) Refusal → Type 0
IsCalm (Ok next) = Unit {0}
IsCalm (Err why) = is_fault why ≡ false

abbrev pub LandsCalmly : {T : Type 0} → Program T → (rest : Program T)
    → Result (Next T) Refusal → Type 0
LandsCalmly next rest result = Lands next rest result × IsCalm result

-- a reading begins with this: the program's end, or where the machine stands
abbrev pub Begins : Program Value → (want : ℕ) → Id8 → (index : List ℕ) → First → Type 0
Begins p want node index (Told value) = p ≡ Done (Ok value)
Begins p want node index (Reads reading) =
    (reading_rest want node index reading ≡ p) × IsAsk p × (reading_left reading ≤ 2 ^ 64)
