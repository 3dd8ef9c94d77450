-- What the parts of calls at keys come to.
use Rattle.std.specs.Prelude.{◌≡◌, Option, Some, None, Result, Ok, Err}
use Rattle.zarr_path.specs.declared.keys.ZarrKey.{ZarrKey}
use Rattle.store_api.specs.declared.machines.Refusal.{Refusal}
use Rattle.store_api.specs.declared.machines.Refusal.TheVariants.{BadKey, NoMemory}
use Rattle.session.specs.Sessions.{SessionState}
use Rattle.session.specs.Chunks.{SameOrDrawn12}

-- what a key names, or that it is none
abbrev pub Names : Option ZarrKey → Result ZarrKey Refusal → Type 0
Names o (Ok found) = o ≡ Some found
Names o (Err BadKey) = o ≡ None
Names o (Err NoMemory) = Unit {0}
Names o (Err _) = ⊥

-- the metadata was put; or this was refused, and the session is as before, but for one id that may
-- have been drawn where there was no memory
abbrev pub Puts : (expected : Result SessionState Refusal) → SessionState
    → Result (Unit {0}) Refusal → SessionState → Type 0
Puts expected old (Ok done) new = expected ≡ Ok new
Puts expected old (Err NoMemory) new = SameOrDrawn12 old new
Puts expected old (Err refusal) new = (expected ≡ Err refusal) × (new ≡ old)
