-- What a read at a key answers.
use Rattle.std.specs.Prelude.{◌≡◌, ◌≤◌, ◌^◌, Result, Ok, Err}
use Rattle.store_api.specs.declared.machines.Refusal.{Refusal}
use Rattle.store_api.specs.declared.machines.Refusal.TheVariants.{NoMemory}
use Rattle.store_api.specs.Program.{Done, IsAsk}
use Rattle.store_api.specs.Running.{Program, ◌>>=◌}
use Rattle.session.specs.Sessions.{SessionState}
use Rattle.session.specs.Getting.{get_rest, get_left, get_session}
use Rattle.zarr_keys.specs.declared.values.KeyValue.{KeyValue}
use Rattle.zarr_keys.specs.declared.getting.KeyGetting.{KeyGetting}
use Rattle.zarr_keys.specs.declared.getting.KeyGetting.TheVariants.{Ready, Again}
use Rattle.zarr_keys.specs.Keys.{answered}

-- a read was refused, and the session came back as it was
abbrev pub GetRefused : Program KeyValue → (old back : SessionState) → Refusal → Type 0
GetRefused p old back NoMemory = back ≡ old
GetRefused p old back why = (p ≡ Done (Err why)) × (back ≡ old)

-- the key was read without any operation; or a machine has the program to run, but for what its
-- value is at the key, and the session; or this was refused
abbrev pub Gets : (program : Program KeyValue) → SessionState
    → Result KeyGetting (SessionState × Refusal) → Type 0
Gets p s (Ok (Ready t value)) = (p ≡ Done (Ok value)) × (t ≡ s)
Gets p s (Ok (Again m)) = (p ≡ (get_rest m >>= answered)) × IsAsk (get_rest m) × (get_session m ≡ s)
Gets p s (Err refused) = GetRefused p s refused.0 refused.1

-- a machine has so few steps left
abbrev pub IsShort : KeyGetting → Type 0
IsShort (Ready t value) = Unit {0}
IsShort (Again m) = get_left m ≤ 2 ^ 64
