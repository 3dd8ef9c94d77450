-- What the answers to new, set and dropped branches say of the journal. (Icechunk specification
-- version 1, "Reference Files".)
use Rattle.std.specs.Prelude.{◌≡◌, ◌≢◌, ◌⊎◌, ℕ, List, length, Option, None, Result, Ok, Err}
use Rattle.ice_base.specs.Names.{main_name}
use Rattle.ice_ids.specs.declared.Id12.{Id12}
use Rattle.ref_file.specs.Refs.{ref_bytes}
use Rattle.object_store.specs.declared.keys.Key.TheVariants.{Branch}
use Rattle.object_store.specs.declared.keys.Why.TheVariants as why
use Rattle.object_store.specs.declared.events.Version.{Version}
use Rattle.object_store.specs.declared.events.Op.{Op}
use Rattle.object_store.specs.declared.events.Op.TheVariants.{Get, PutNew, PutOver, RemoveAt}
use Rattle.object_store.specs.declared.events.New.TheVariants.{Done as New_done, Present}
use Rattle.object_store.specs.declared.events.Over.TheVariants.{Done as Over_done}
use Rattle.object_store.specs.declared.events.Over.TheVariants.{Moved as Over_moved}
use Rattle.object_store.specs.declared.events.GoneAt.TheVariants.{Done as Gone_done}
use Rattle.object_store.specs.declared.events.GoneAt.TheVariants.{Moved as Gone_moved}
use Rattle.object_store.specs.declared.events.Reply.TheVariants.{New as Is_new, Over as Is_over}
use Rattle.object_store.specs.declared.events.Reply.TheVariants.{GoneAt as Is_gone_at}
use Rattle.object_store.specs.declared.events.Event.{Event}
use Rattle.store_api.specs.declared.machines.Refusal.{Refusal}
use Rattle.store_api.specs.declared.machines.Refusal.TheVariants as R
use Rattle.object_store.specs.Machine.{found, version_at}
use Rattle.store_api.specs.Telling.{GetsOf, HasMovedOn, MadeGets, MadeOne, RefWasBad}
use Rattle.store_api.specs.Telling.{StandsAt, WasAbsent, WasFailure, WasRef}
use Rattle.repo_read.specs.declared.resolving.At.{At}
use Rattle.repo_read.specs.Naming.{WasNothing, WasUnnamed, IsNaming, TargetWasAbsent, TargetWasBad}
use Rattle.refs_admin.specs.Telling.{GetsTarget, WasAimed, IsOfMaking, MakingRefused}

-- ---- a new branch
-- a put of a new branch with a reference to a snapshot
abbrev pub creates : (name : List ℕ) → Id12 → Op
creates name id = PutNew (Branch name) (ref_bytes id) why.Create

-- The branch was absent, and the client's own put made it, at its position: it names the snapshot
-- that was named, which was there and readable.
pub record WasCreated (client : ℕ) (name : List ℕ) (at : At)
    (start journal : List Event) : Type 0 where
  pub aim : WasAimed client at start journal
  pub version : Version
  pub now : ℕ
  pub made : MadeOne client (creates name aim.named.id)
      (Is_new (New_done version now)) start journal
  pub position : version ≡ version_at (length made.own.before)
  pub free : found made.own.before (Branch name) ≡ None

-- The client's own put found the branch there, at this version.
pub record BranchWasThere (client : ℕ) (name : List ℕ) (at : At) (version : Version)
    (start journal : List Event) : Type 0 where
  pub aim : WasAimed client at start journal
  pub now : ℕ
  pub made : MadeOne client (creates name aim.named.id) (Is_new (Present version now)) start journal
  pub there : StandsAt made.own.before (Branch name) version.0

-- What the answer to a new branch says.
abbrev pub BranchNewTells : ℕ → (name : List ℕ) → At → List Event
    → Result (Unit {0}) Refusal → List Event → Type 0
BranchNewTells client name at start (Ok done) journal = WasCreated client name at start journal
BranchNewTells client name at start (Err (R.RefExists version)) journal =
    BranchWasThere client name at version start journal
BranchNewTells client name at start (Err R.StoreFault) journal =
    WasFailure client (IsOfMaking client at (creates name) start journal) start journal
BranchNewTells client name at start (Err why) journal =
    MakingRefused client at start why journal × MadeGets client start journal

-- ---- a branch that is set to another snapshot
-- a put of the branch over this version
abbrev pub resets : (name : List ℕ) → Version → Id12 → Op
resets name version id = PutOver (Branch name) (ref_bytes id) version why.Reset

-- the client's own get of the branch was answered with this version
pub record BranchWasAt (client : ℕ) (name : List ℕ) (version : Version)
    (start journal : List Event) : Type 0 where
  pub id : Id12
  pub read : WasRef client (Branch name) version id start journal

-- The branch stood at the version that the client had read, and the client's own put over set it,
-- at its position, to the snapshot that was named, which was there and readable.
pub record WasReset (client : ℕ) (name : List ℕ) (at : At)
    (start journal : List Event) : Type 0 where
  pub aim : WasAimed client at start journal
  pub old : Version
  pub read : BranchWasAt client name old start journal
  pub version : Version
  pub now : ℕ
  pub made : MadeOne client (resets name old aim.named.id)
      (Is_over (Over_done version now)) start journal
  pub position : version ≡ version_at (length made.own.before)
  pub stood : StandsAt made.own.before (Branch name) old.0

-- The client's own put over, over the version that it had read, found the branch at a later one,
-- or gone since, and did nothing.
pub record ResetWasMoved (client : ℕ) (name : List ℕ) (at : At) (there : Option Version)
    (start journal : List Event) : Type 0 where
  pub aim : WasAimed client at start journal
  pub old : Version
  pub read : BranchWasAt client name old start journal
  pub now : ℕ
  pub made : MadeOne client (resets name old aim.named.id)
      (Is_over (Over_moved there now)) start journal
  pub later : HasMovedOn made.own.before name old.0 there

-- an operation of such a call
abbrev pub IsOfReset : ℕ → (name : List ℕ) → At → List Event → List Event → Op → Type 0
IsOfReset client name at start journal op =
    GetsOf (IsNaming at) op
    ⊎ ((op ≡ Get (Branch name))
    ⊎ (GetsTarget client at start journal op
    ⊎ ((aim : WasAimed client at start journal) × (old : Version)
    × BranchWasAt client name old start journal × (op ≡ resets name old aim.named.id))))

-- why it was refused before its put over
abbrev pub ResetRefused : ℕ → (name : List ℕ) → At → List Event → Refusal → List Event → Type 0
ResetRefused client name at start R.NoRef journal =
    WasNothing client at start journal ⊎ WasAbsent client (Branch name) start journal
ResetRefused client name at start R.NoSnapshot journal = TargetWasAbsent client at start journal
ResetRefused client name at start (R.BadFile key bad) journal =
    WasUnnamed client at key bad start journal
    ⊎ (RefWasBad client (Branch name) key bad start journal
    ⊎ TargetWasBad client at key bad start journal)
ResetRefused client name at start _ journal = ⊥

abbrev pub BranchResetTells : ℕ → (name : List ℕ) → At → List Event
    → Result (Unit {0}) Refusal → List Event → Type 0
BranchResetTells client name at start (Ok done) journal = WasReset client name at start journal
BranchResetTells client name at start (Err (R.Moved there)) journal =
    ResetWasMoved client name at there start journal
BranchResetTells client name at start (Err R.StoreFault) journal =
    WasFailure client (IsOfReset client name at start journal) start journal
BranchResetTells client name at start (Err why) journal =
    ResetRefused client name at start why journal × MadeGets client start journal

-- ---- a branch that is dropped
abbrev pub removes : (name : List ℕ) → Version → Op
removes name version = RemoveAt (Branch name) version why.Drop

-- The branch, which isn't `main`, stood at the version that the client had read, and the
-- client's own removal removed it.
pub record WasDropped (client : ℕ) (name : List ℕ) (start journal : List Event) : Type 0 where
  pub not_main : name ≢ main_name
  pub old : Version
  pub read : BranchWasAt client name old start journal
  pub now : ℕ
  pub made : MadeOne client (removes name old) (Is_gone_at (Gone_done now)) start journal
  pub stood : StandsAt made.own.before (Branch name) old.0

-- The client's own removal found the branch at a later version, or gone since, and did nothing.
pub record DropWasMoved (client : ℕ) (name : List ℕ) (there : Option Version)
    (start journal : List Event) : Type 0 where
  pub not_main : name ≢ main_name
  pub old : Version
  pub read : BranchWasAt client name old start journal
  pub now : ℕ
  pub made : MadeOne client (removes name old) (Is_gone_at (Gone_moved there now)) start journal
  pub later : HasMovedOn made.own.before name old.0 there

-- `main` was there
pub record MainWasThere (client : ℕ) (name : List ℕ) (start journal : List Event) : Type 0 where
  pub main : name ≡ main_name
  pub version : Version
  pub read : BranchWasAt client name version start journal

-- an operation of such a call
abbrev pub IsOfDrop : ℕ → (name : List ℕ) → List Event → List Event → Op → Type 0
IsOfDrop client name start journal op =
    (op ≡ Get (Branch name))
    ⊎ ((old : Version) × BranchWasAt client name old start journal × (name ≢ main_name)
    × (op ≡ removes name old))

abbrev pub DropRefused : ℕ → (name : List ℕ) → List Event → Refusal → List Event → Type 0
DropRefused client name start R.NoRef journal = WasAbsent client (Branch name) start journal
DropRefused client name start R.MainKept journal = MainWasThere client name start journal
DropRefused client name start (R.BadFile key bad) journal =
    RefWasBad client (Branch name) key bad start journal
DropRefused client name start _ journal = ⊥

abbrev pub BranchDropTells : ℕ → (name : List ℕ) → List Event
    → Result (Unit {0}) Refusal → List Event → Type 0
BranchDropTells client name start (Ok done) journal = WasDropped client name start journal
BranchDropTells client name start (Err (R.Moved there)) journal =
    DropWasMoved client name there start journal
BranchDropTells client name start (Err R.StoreFault) journal =
    WasFailure client (IsOfDrop client name start journal) start journal
BranchDropTells client name start (Err why) journal =
    DropRefused client name start why journal × MadeGets client start journal
