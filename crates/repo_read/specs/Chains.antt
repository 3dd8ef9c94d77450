-- The walk along parents. (Icechunk specification version 1, "Snapshots": each names its parent.)
use Rattle.std.specs.Prelude.{◌≡◌, ℕ, zero, suc, Option, List, [], ◌∷◌, ◌++◌, Some, None, Ok, Err}
use Rattle.ice_ids.specs.declared.Id12.{Id12}
use Rattle.snapshot_file.specs.declared.snapshot.SnapshotFile.{SnapshotFile}
use Rattle.store_api.specs.declared.machines.Refusal.{Refusal}
use Rattle.store_api.specs.declared.machines.Refusal.TheVariants.{Missing, BadFile, TooDeep}
use Rattle.store_api.specs.declared.machines.Refusal.TheVariants.{StoreFault, NoMemory}
use Rattle.store_api.specs.Program.{Done}
use Rattle.store_api.specs.Running.{Program, ◌>>=◌}
use Rattle.store_api.specs.Telling.{WasReadAs}
use Rattle.object_store.specs.declared.events.Event.{Event}
use Rattle.repo_read.specs.Programs.{snapshot_program}

-- own: the most snapshots that a walk reads
abbrev pub most_snapshots : ℕ
most_snapshots = 65536

-- The snapshots from this one along the parents, behind those that were read; no
-- more than so many more are read.
unfoldable pub walk : (left : ℕ) → (seen : List SnapshotFile) → Id12 → Program (List SnapshotFile)
walk zero seen id = Done (Err TooDeep)
walk (suc left) seen id = snapshot_program id >>= λ s. elim s.parent [
  | Some parent ↦ walk left (seen ++ s ∷ []) parent
  | None ↦ Done (Ok (seen ++ s ∷ []))
]

-- the snapshots from this one along the parents, down to the one without a parent
abbrev pub chain_program : Id12 → Program (List SnapshotFile)
chain_program id = walk most_snapshots [] id

-- These snapshots were read, each the parent of the one before; it began with this one, and leads
-- to the parent of the last one.
abbrev pub Leading : ℕ → (from : Option Id12) → List SnapshotFile → (to : Option Id12)
    → List Event → List Event → Type 0
Leading client from [] to start journal = from ≡ to
Leading client None (s ∷ ss) to start journal = ⊥
Leading client (Some id) (s ∷ ss) to start journal =
    WasReadAs client id s start journal × Leading client s.parent ss to start journal

-- the refusals of a walk
abbrev pub MayRefuseChain : Refusal → Type 0
MayRefuseChain (Missing key) = Unit {0}
MayRefuseChain (BadFile key bad) = Unit {0}
MayRefuseChain TooDeep = Unit {0}
MayRefuseChain StoreFault = Unit {0}
MayRefuseChain NoMemory = Unit {0}
MayRefuseChain _ = ⊥
