-- What the parts of the machine answer.
use Rattle.std.specs.Prelude.{◌≡◌, ◌-◌, true, false, Bool, List, [], ◌∷◌}
use Rattle.std.specs.Prelude.{ℕ, length, Option, Result, Ok, Err}
use Rattle.ice_ids.specs.declared.Id12.{Id12}
use Rattle.flat_tables.specs.declared.header.Kind.{Kind}
use Rattle.flat_tables.specs.declared.header.Kind.TheVariants as kinds
use Rattle.flat_tables.specs.declared.fault.WriteFault.{WriteFault}
use Rattle.flat_tables.specs.declared.fault.WriteFault.TheVariants as faults
use Rattle.manifest_file.specs.declared.manifest.ArrayRefs.{ArrayRefs}
use Rattle.manifest_file.specs.Layout.{file_bytes}
use Rattle.held_manifest.specs.LookUp.{Listed}
use Rattle.manifest_index.specs.Merging.{merged_array}
use Rattle.zarr_changes.specs.declared.chunks.ChangedArray.{ChangedArray}
use Rattle.zarr_changes.specs.Sets.{chunks_of}
use Rattle.changed_snapshot.specs.declared.new_snapshot.NewManifest.{NewManifest}
use Rattle.store_api.specs.declared.machines.Next.{Next}
use Rattle.store_api.specs.declared.machines.Refusal.{Refusal}
use Rattle.store_api.specs.declared.machines.Refusal.TheVariants.{IdsSpent, TooLarge, NoMemory}
use Rattle.store_api.specs.Program.{Done, Lands, IsSure, IsAsk, IsDone, is_fault, is_no_memory}
use Rattle.store_api.specs.Running.{◌>>=◌}
use Rattle.session.specs.Sessions.{SessionState}
use Rattle.commit_path.specs.declared.commit.Tried.{Tried}
use Rattle.commit_path.specs.declared.commit.Commit.{Commit}
use Rattle.commit_path.specs.declared.committing.Committing.TheVariants.{Ended}
use Rattle.commit_path.specs.Committing.{Answer, Written, is_long, manifest_for, new_manifest}
use Rattle.commit_path.specs.Committing.{write_array, arrays_program, after_arrays}

-- why a file isn't written
abbrev pub IsUnwritten : Kind → WriteFault → Refusal → Type 0
IsUnwritten kind (faults.TooLarge len) why = why ≡ TooLarge kind
IsUnwritten kind faults.NoMemory why = why ≡ NoMemory

-- a file of this kind is made, unless it is too long; want of memory may come instead
abbrev pub WritesFile : Kind → (file : List ℕ) → Result (List ℕ) Refusal → Type 0
WritesFile kind file (Ok bytes) = (bytes ≡ file) × (is_long file ≡ false)
WritesFile kind file (Err NoMemory) = Unit {0}
WritesFile kind file (Err why) = (why ≡ TooLarge kind) × (is_long file ≡ true)

-- ---- manifests
-- a manifest's file is made, with what a list says of it
abbrev pub MakesManifest : Id12 → (rank : ℕ) → ArrayRefs
    → Result (NewManifest × List ℕ) Refusal → Type 0
MakesManifest id rank array (Ok made) =
    (made.0 ≡ new_manifest id rank array) × (made.1 ≡ file_bytes (manifest_for id array))
    × (is_long (file_bytes (manifest_for id array)) ≡ false)
MakesManifest id rank array (Err NoMemory) = Unit {0}
MakesManifest id rank array (Err why) =
    (why ≡ TooLarge kinds.Manifest) × (is_long (file_bytes (manifest_for id array)) ≡ true)

-- ---- arrays
-- what follows where the first array has these chunks, and where these
-- manifests of it were got, which are all
abbrev pub merged_behind : SessionState → (message : List ℕ) → Written → List ChangedArray
    → Option ArrayRefs → Answer
merged_behind s message w [] refs = Done (Err NoMemory)
merged_behind s message w (a ∷ more) refs =
    (write_array w a refs >>= arrays_program s.rows s.held.chunks more) >>= after_arrays s message

abbrev pub got_behind : SessionState → (message : List ℕ) → Written → List ChangedArray
    → (got : List Listed) → Answer
got_behind s message w [] got = after_arrays s message w
got_behind s message w (a ∷ more) got =
    merged_behind s message w (a ∷ more)
    (merged_array a.rank a.node got (chunks_of s.held.chunks a.node))

-- ---- where the machine comes to
-- the refusals of what comes before an operation
abbrev pub MayRefuseOwn : Refusal → Type 0
MayRefuseOwn IdsSpent = Unit {0}
MayRefuseOwn (TooLarge kind) = Unit {0}
MayRefuseOwn NoMemory = Unit {0}
MayRefuseOwn _ = ⊥

-- what was answered is no fault of the store
abbrev pub IsCalm : Result (Next Tried) Refusal → Type 0
IsCalm (Ok next) = Unit {0}
IsCalm (Err why) = is_fault why ≡ false

-- where a reply took the machine to which the store had answered: memory may
-- be wanting, or nothing is free
abbrev pub LandsCalmly : Answer → (rest : Answer) → Result (Next Tried) Refusal → Type 0
LandsCalmly next rest result = Lands next rest result × IsCalm result

abbrev pub LandsSurely : Answer → (rest : Answer) → Result (Next Tried) Refusal → Type 0
LandsSurely next rest result = Lands next rest result × IsCalm result × IsSure next result

-- the refusal ends the program; want of memory is free
abbrev pub EndsWith : Answer → (rest : Answer) → Refusal → Type 0
EndsWith next rest why =
    IsDone rest × (is_no_memory why ≡ false → next ≡ Done (Err why)) × (is_fault why ≡ false)

-- the machine comes to the next operation
abbrev pub ComesToNext : Answer → (rest : Answer) → Result (Unit {0}) Refusal → Type 0
ComesToNext next rest (Ok done) = (next ≡ rest) × IsAsk rest
ComesToNext next rest (Err why) = EndsWith next rest why

-- the machine comes to the next operation, or it goes on without one
abbrev pub Turns : Answer → (behind rest : Answer) → Result Bool Refusal → Type 0
Turns next behind rest (Ok true) = (next ≡ rest) × IsAsk rest
Turns next behind rest (Ok false) = next ≡ behind
Turns next behind rest (Err why) = EndsWith next rest why

-- the first array was written without an operation
pub record Passes (old new : Commit) : Type 0 where
  pub ended : new.state ≡ Ended
  pub session : new.session ≡ old.session
  pub message : new.message ≡ old.message
  pub falls : length new.arrays.left ≡ length old.arrays.left - 1

abbrev pub PassesUnless : Result Bool Refusal → (old new : Commit) → Type 0
PassesUnless (Ok false) old new = Passes old new
PassesUnless _ old new = Unit {0}
