-- What the answers of calls on refs say of the journal, in words that name no machine and no
-- program: whether what was named is there. `start` is the journal at the call. (Icechunk
-- specification version 1, "Reference Files", "Tags".)
use Rattle.std.specs.Prelude.{◌≡◌, ◌⊎◌, ℕ, List}
use Rattle.ice_ids.specs.declared.Id12.{Id12}
use Rattle.object_store.specs.declared.keys.Key.TheVariants.{Snapshot}
use Rattle.object_store.specs.declared.events.Op.{Op}
use Rattle.object_store.specs.declared.events.Op.TheVariants.{Get}
use Rattle.object_store.specs.declared.events.Event.{Event}
use Rattle.store_api.specs.declared.machines.Refusal.{Refusal}
use Rattle.store_api.specs.declared.machines.Refusal.TheVariants as R
use Rattle.store_api.specs.Telling.{WasSnapshot, GetsOf}
use Rattle.repo_read.specs.declared.resolving.At.{At}
use Rattle.repo_read.specs.declared.resolving.Named.{Named}
use Rattle.repo_read.specs.Naming.{WasResolved, WasNothing, WasUnnamed}
use Rattle.repo_read.specs.Naming.{TargetWasAbsent, TargetWasBad, IsNaming}

-- What was named is there and readable, as the client's own gets were answered.
pub record WasAimed (client : ℕ) (at : At) (start journal : List Event) : Type 0 where
  pub named : Named
  pub resolved : WasResolved client at named start journal
  pub target : WasSnapshot client named.id start journal

-- a get of the snapshot that was named
abbrev pub GetsTarget : ℕ → At → List Event → List Event → Op → Type 0
GetsTarget client at start journal op =
    (named : Named) × WasResolved client at named start journal × (op ≡ Get (Snapshot named.id))

-- An operation of a call that makes a ref by this put: a get of what names the snapshot, of the
-- snapshot that was named, or the put, with a reference to it where it was there and readable.
abbrev pub IsOfMaking : ℕ → At → (Id12 → Op) → List Event → List Event → Op → Type 0
IsOfMaking client at put start journal op =
    GetsOf (IsNaming at) op
    ⊎ (GetsTarget client at start journal op
    ⊎ ((aim : WasAimed client at start journal) × (op ≡ put aim.named.id)))

-- why no ref was made
abbrev pub MakingRefused : ℕ → At → List Event → Refusal → List Event → Type 0
MakingRefused client at start R.NoRef journal = WasNothing client at start journal
MakingRefused client at start R.NoSnapshot journal = TargetWasAbsent client at start journal
MakingRefused client at start (R.BadFile key bad) journal =
    WasUnnamed client at key bad start journal ⊎ TargetWasBad client at key bad start journal
MakingRefused client at start _ journal = ⊥
