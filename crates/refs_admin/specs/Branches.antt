-- The programs that make, move and drop branches. (Icechunk specification version 1, "Reference
-- Files"; which refusals come, and that `main` is kept, is own.)
use Rattle.std.specs.Prelude.{ℕ, List, if◌then◌else◌, Result, Ok, Err}
use Rattle.ice_base.specs.Names.{main_name, same_name}
use Rattle.ice_ids.specs.declared.Id12.{Id12}
use Rattle.ref_file.specs.Refs.{ref_bytes}
use Rattle.object_store.specs.declared.keys.Key.TheVariants.{Branch}
use Rattle.object_store.specs.declared.keys.Why.TheVariants.{Create, Reset, Drop}
use Rattle.object_store.specs.declared.events.Version.{Version}
use Rattle.object_store.specs.declared.events.Op.TheVariants.{PutNew, PutOver, RemoveAt}
use Rattle.object_store.specs.declared.events.New.TheVariants.{Done as New_done, Present}
use Rattle.object_store.specs.declared.events.Over.TheVariants.{Done as Over_done}
use Rattle.object_store.specs.declared.events.Over.TheVariants.{Moved as Over_moved}
use Rattle.object_store.specs.declared.events.GoneAt.TheVariants.{Done as Gone_done}
use Rattle.object_store.specs.declared.events.GoneAt.TheVariants.{Moved as Gone_moved}
use Rattle.object_store.specs.declared.events.Reply.{Reply}
use Rattle.object_store.specs.declared.events.Reply.TheVariants.{New, Over, GoneAt}
use Rattle.store_api.specs.declared.machines.Refusal.{Refusal}
use Rattle.store_api.specs.declared.machines.Refusal.TheVariants.{NoRef, BadFile, NoSnapshot}
use Rattle.store_api.specs.declared.machines.Refusal.TheVariants.{RefExists, MainKept, Moved}
use Rattle.store_api.specs.declared.machines.Refusal.TheVariants.{StoreFault, NoMemory}
use Rattle.store_api.specs.Program.{Done, Ask}
use Rattle.store_api.specs.Running.{Program, ◌>>=◌}
use Rattle.repo_read.specs.Programs.{resolve_program}
use Rattle.repo_read.specs.declared.resolving.At.{At}
use Rattle.repo_read.specs.Resolving.{resolve_at_program}
use Rattle.refs_admin.specs.Targets.{target_program}

-- ---- a new branch
-- what the put of a branch answers where it may be there
abbrev pub created : Reply → Result (Unit {0}) Refusal
created (New (New_done version now)) = Ok tt
created (New (Present version now)) = Err (RefExists version)
created _ = Err StoreFault

-- puts the branch where it is absent
abbrev pub put_branch : (name : List ℕ) → Id12 → Program (Unit {0})
put_branch name id =
    Ask (PutNew (Branch name) (ref_bytes id) Create) (λ reply. Done (created reply))

-- gets the snapshot first
abbrev pub create_program : (name : List ℕ) → Id12 → Program (Unit {0})
create_program name id = do
  target ← target_program id
  put_branch name id

abbrev pub branch_new_program : (name : List ℕ) → At → Program (Unit {0})
branch_new_program name at = do
  named ← resolve_at_program at
  create_program name named.id

-- ---- a branch that is set to another snapshot
abbrev pub moved : Reply → Result (Unit {0}) Refusal
moved (Over (Over_done version now)) = Ok tt
moved (Over (Over_moved found now)) = Err (Moved found)
moved _ = Err StoreFault

-- puts the branch over the version that was read
abbrev pub put_over : (name : List ℕ) → Id12 → Version → Program (Unit {0})
put_over name id version =
    Ask (PutOver (Branch name) (ref_bytes id) version Reset) (λ reply. Done (moved reply))

-- gets the snapshot first
abbrev pub move_program : (name : List ℕ) → Id12 → Version → Program (Unit {0})
move_program name id version = do
  target ← target_program id
  put_over name id version

abbrev pub reset_program : (name : List ℕ) → Id12 → Program (Unit {0})
reset_program name id = do
  read ← resolve_program name
  move_program name id read.version

abbrev pub branch_reset_program : (name : List ℕ) → At → Program (Unit {0})
branch_reset_program name at = do
  named ← resolve_at_program at
  reset_program name named.id

-- ---- a branch that is dropped
abbrev pub dropped : Reply → Result (Unit {0}) Refusal
dropped (GoneAt (Gone_done now)) = Ok tt
dropped (GoneAt (Gone_moved found now)) = Err (Moved found)
dropped _ = Err StoreFault

-- removes the branch at the version that was read
abbrev pub removal : (name : List ℕ) → Version → Program (Unit {0})
removal name version = Ask (RemoveAt (Branch name) version Drop) (λ reply. Done (dropped reply))

-- `main` is kept
abbrev pub branch_drop_program : (name : List ℕ) → Program (Unit {0})
branch_drop_program name = do
  read ← resolve_program name
  if same_name name main_name then Done (Err MainKept) else removal name read.version

-- ---- the refusals
abbrev pub MayRefuseNew : Refusal → Type 0
MayRefuseNew NoRef = Unit {0}
MayRefuseNew NoSnapshot = Unit {0}
MayRefuseNew (RefExists version) = Unit {0}
MayRefuseNew (BadFile key bad) = Unit {0}
MayRefuseNew StoreFault = Unit {0}
MayRefuseNew NoMemory = Unit {0}
MayRefuseNew _ = ⊥

abbrev pub MayRefuseReset : Refusal → Type 0
MayRefuseReset NoRef = Unit {0}
MayRefuseReset NoSnapshot = Unit {0}
MayRefuseReset (Moved found) = Unit {0}
MayRefuseReset (BadFile key bad) = Unit {0}
MayRefuseReset StoreFault = Unit {0}
MayRefuseReset NoMemory = Unit {0}
MayRefuseReset _ = ⊥

abbrev pub MayRefuseDrop : Refusal → Type 0
MayRefuseDrop NoRef = Unit {0}
MayRefuseDrop MainKept = Unit {0}
MayRefuseDrop (Moved found) = Unit {0}
MayRefuseDrop (BadFile key bad) = Unit {0}
MayRefuseDrop StoreFault = Unit {0}
MayRefuseDrop NoMemory = Unit {0}
MayRefuseDrop _ = ⊥
