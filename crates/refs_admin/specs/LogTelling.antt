-- What the answer to a log says of the journal. (Icechunk specification version 1,
-- "Snapshots": each names its parent.)
use Rattle.std.specs.Prelude.{◌≡◌, ◌⊎◌, ℕ, ◌<◌, List, length, map}
use Rattle.std.specs.Prelude.{Option, Some, None, Result, Ok, Err}
use Rattle.ice_ids.specs.declared.Id12.{Id12}
use Rattle.snapshot_file.specs.declared.snapshot.SnapshotFile.{SnapshotFile}
use Rattle.repo_objects.specs.declared.bad_objects.Bad.{Bad}
use Rattle.object_store.specs.declared.keys.Key.{Key}
use Rattle.object_store.specs.declared.keys.Key.TheVariants.{Snapshot}
use Rattle.object_store.specs.declared.events.Op.{Op}
use Rattle.object_store.specs.declared.events.Op.TheVariants.{Get}
use Rattle.object_store.specs.declared.events.Event.{Event}
use Rattle.store_api.specs.declared.machines.Refusal.{Refusal}
use Rattle.store_api.specs.declared.machines.Refusal.TheVariants as R
use Rattle.repo_read.specs.Chains.{most_snapshots, Leading}
use Rattle.store_api.specs.Telling.{GetsOf, MadeGets, SnapshotWasBad, WasAbsent, WasFailure}
use Rattle.repo_read.specs.declared.resolving.At.{At}
use Rattle.repo_read.specs.declared.resolving.Named.{Named}
use Rattle.refs_admin.specs.declared.log.LogLine.{LogLine}
use Rattle.refs_admin.specs.LogReading.{line_of}
use Rattle.repo_read.specs.Naming.{WasResolved, WasNothing, WasUnnamed, IsNaming}

-- ---- a log
-- what was named, and the snapshots from there along the parents that
-- were read, down to where they lead
pub record WasWalked (client : ℕ) (at : At) (to : Option Id12)
    (start journal : List Event) : Type 0 where
  pub named : Named
  pub resolved : WasResolved client at named start journal
  pub seen : List SnapshotFile
  pub chain : Leading client (Some named.id) seen to start journal

-- the whole chain was read, and these are its lines
pub record LogWasRead (client : ℕ) (at : At) (lines : List LogLine)
    (start journal : List Event) : Type 0 where
  pub walked : WasWalked client at None start journal
  pub lines_are : lines ≡ map line_of walked.seen

-- the walk had read as many snapshots as it may, and the last one names a parent
pub record WasTooDeep (client : ℕ) (at : At) (start journal : List Event) : Type 0 where
  pub next : Id12
  pub walked : WasWalked client at (Some next) start journal
  pub many : length walked.seen ≡ most_snapshots

-- the walk came to a snapshot that is absent
pub record ChainIsCut (client : ℕ) (at : At) (key : Key) (start journal : List Event) : Type 0 where
  pub next : Id12
  pub walked : WasWalked client at (Some next) start journal
  pub key_is : key ≡ Snapshot next
  pub absent : WasAbsent client (Snapshot next) start journal
  pub behind : (id : Id12) → at ≡ At.Snapshot id → 0 < length walked.seen

-- ... or can't be read
pub record ChainIsBad (client : ℕ) (at : At) (key : Key) (bad : Bad)
    (start journal : List Event) : Type 0 where
  pub next : Id12
  pub walked : WasWalked client at (Some next) start journal
  pub unread : SnapshotWasBad client next key bad start journal

-- a snapshot that its own id names is absent
pub record HeadWasAbsent (client : ℕ) (at : At) (start journal : List Event) : Type 0 where
  pub id : Id12
  pub by_id : at ≡ At.Snapshot id
  pub absent : WasAbsent client (Snapshot id) start journal

abbrev pub IsOfLog : At → Op → Type 0
IsOfLog at op = GetsOf (IsNaming at) op ⊎ ((id : Id12) × (op ≡ Get (Snapshot id)))

abbrev pub LogSays : ℕ → At → List Event → Result (List LogLine) Refusal → List Event → Type 0
LogSays client at start (Ok lines) journal = LogWasRead client at lines start journal
LogSays client at start (Err R.NoRef) journal =
    WasNothing client at start journal ⊎ HeadWasAbsent client at start journal
LogSays client at start (Err (R.Missing key)) journal = ChainIsCut client at key start journal
LogSays client at start (Err (R.BadFile key bad)) journal =
    WasUnnamed client at key bad start journal ⊎ ChainIsBad client at key bad start journal
LogSays client at start (Err R.TooDeep) journal = WasTooDeep client at start journal
LogSays client at start (Err R.StoreFault) journal = WasFailure client (IsOfLog at) start journal
LogSays client at start (Err _) journal = ⊥

-- What the answer to a log says; the client made gets alone.
abbrev pub LogTells : ℕ → At → List Event → Result (List LogLine) Refusal → List Event → Type 0
LogTells client at start result journal =
    LogSays client at start result journal × MadeGets client start journal
