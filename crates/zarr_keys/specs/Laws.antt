-- The law of keys.
use Rattle.std.specs.Prelude.{◌≡◌, ℕ, List, Ok}
use Rattle.store_api.specs.Program.{Done}
use Rattle.session.specs.Sessions.{SessionState}
use Rattle.zarr_keys.specs.declared.values.KeyValue.TheVariants.{Bytes}
use Rattle.zarr_keys.specs.Keys.{key_get_program, key_set_program}

-- what was set at a key without any operation is read there
abbrev pub ReadBackLaw : Type 0
ReadBackLaw =
    (s t : SessionState) (key bytes : List ℕ) → key_set_program s key bytes ≡ Done (Ok t)
    → key_get_program t key ≡ Done (Ok (Bytes bytes))
