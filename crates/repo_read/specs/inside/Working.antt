-- What the machines have still to do.
use Rattle.std.specs.Prelude.{ℕ, Bool, true, false, List, Option, Some, None, Ok, Err}
use Rattle.ice_ids.specs.declared.Id12.{Id12}
use Rattle.snapshot_file.specs.declared.snapshot.SnapshotFile.{SnapshotFile}
use Rattle.store_api.specs.declared.machines.Refusal.TheVariants.{NoMemory}
use Rattle.store_api.specs.Program.{Done}
use Rattle.store_api.specs.Running.{Program}
use Rattle.repo_read.specs.declared.snapshot.ReadSnapshot.{ReadSnapshot}
use Rattle.repo_read.specs.declared.chain.Chain.{Chain}
use Rattle.repo_read.specs.Programs.{snapshot_program}
use Rattle.repo_read.specs.Chains.{walk}

-- the program, unless the machine has ended
abbrev pub unless_ended : {A : Type 0} → Bool → Program A → Program A
unless_ended true p = Done (Err NoMemory)
unless_ended false p = p

abbrev pub steps_unless : Bool → ℕ
steps_unless true = 0
steps_unless false = 1

abbrev pub reading_rest : ReadSnapshot → Program SnapshotFile
reading_rest m = unless_ended m.ended (snapshot_program m.id)

abbrev pub reading_left : ReadSnapshot → ℕ
reading_left m = steps_unless m.ended

-- ---- a walk
-- the walk from the next snapshot on, unless the machine has ended
abbrev pub walk_rest : (left : ℕ) → (seen : List SnapshotFile) → (next : Option Id12)
    → Program (List SnapshotFile)
walk_rest left seen None = Done (Err NoMemory)
walk_rest left seen (Some id) = walk left seen id

abbrev pub chain_rest : Chain → Program (List SnapshotFile)
chain_rest m = walk_rest m.left m.seen m.next

abbrev pub walk_left : (left : ℕ) → (next : Option Id12) → ℕ
walk_left left None = 0
walk_left left (Some id) = left

abbrev pub chain_left : Chain → ℕ
chain_left m = walk_left m.left m.next

-- the walk behind a snapshot with this parent
abbrev pub walk_behind : (left : ℕ) → (seen : List SnapshotFile) → (parent : Option Id12)
    → Program (List SnapshotFile)
walk_behind left seen None = Done (Ok seen)
walk_behind left seen (Some parent) = walk left seen parent
