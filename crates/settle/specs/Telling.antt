-- What the answer of a settling says of the journal, in words that name no machine and no program.
-- (Own; Icechunk specification version 1, "Reference Files", "Snapshots": each names its parent.)
use Rattle.std.specs.Prelude.{◌≡◌, ◌≢◌, ◌⊎◌, ℕ, List, length, Option, Some, None, Result, Ok, Err}
use Rattle.std.specs.List.{All}
use Rattle.ice_ids.specs.declared.Id12.{Id12}
use Rattle.snapshot_file.specs.declared.snapshot.SnapshotFile.{SnapshotFile}
use Rattle.repo_objects.specs.declared.bad_objects.Bad.{Bad}
use Rattle.object_store.specs.declared.keys.Key.{Key}
use Rattle.object_store.specs.declared.keys.Key.TheVariants.{Snapshot, Branch}
use Rattle.object_store.specs.declared.events.Version.{Version}
use Rattle.object_store.specs.declared.events.Event.{Event}
use Rattle.store_api.specs.declared.machines.Refusal.{Refusal}
use Rattle.store_api.specs.declared.machines.Refusal.TheVariants as R
use Rattle.store_api.specs.Telling.{GetsOf, MadeGets, WasRef, RefWasBad}
use Rattle.store_api.specs.Telling.{SnapshotWasBad, WasAbsent, WasFailure}
use Rattle.repo_read.specs.Chains.{most_snapshots, Leading}
use Rattle.settle.specs.declared.settle.Settled.{Settled}
use Rattle.settle.specs.declared.settle.Settled.TheVariants.{Committed, NotCommitted, NotAncestor}
use Rattle.settle.specs.declared.settle.Doubt.{Doubt}

-- ---- the way
-- this id is neither the commit's snapshot nor its base
pub record IsNeither (d : Doubt) (id : Id12) : Type 0 where
  pub snapshot : id ≢ d.snapshot
  pub base : id ≢ d.base

-- The client's own get of the branch was answered with a reference to this snapshot; and its own
-- gets read the snapshots from there along the parents, each the parent of the one before, down to
-- where they lead. None of those that were read is one of the two.
pub record WasFollowed (client : ℕ) (branch : List ℕ) (d : Doubt) (head : Id12) (to : Option Id12)
    (start journal : List Event) : Type 0 where
  pub version : Version
  pub read : WasRef client (Branch branch) version head start journal
  pub seen : List SnapshotFile
  pub chain : Leading client (Some head) seen to start journal
  pub neither : All (λ s. IsNeither d s.id) seen

-- ---- refusals
-- the way came to a snapshot that is neither of the two, and absent
pub record WayIsCut (client : ℕ) (branch : List ℕ) (d : Doubt) (key : Key)
    (start journal : List Event) : Type 0 where
  pub head : Id12
  pub next : Id12
  pub followed : WasFollowed client branch d head (Some next) start journal
  pub neither : IsNeither d next
  pub key_is : key ≡ Snapshot next
  pub absent : WasAbsent client (Snapshot next) start journal

-- ... or can't be read, for this cause
pub record WayIsBad (client : ℕ) (branch : List ℕ) (d : Doubt) (key : Key) (bad : Bad)
    (start journal : List Event) : Type 0 where
  pub head : Id12
  pub next : Id12
  pub followed : WasFollowed client branch d head (Some next) start journal
  pub neither : IsNeither d next
  pub unread : SnapshotWasBad client next key bad start journal

-- as many snapshots were read as may be, and the last one names one more as its
-- parent, that is neither of the two
pub record WayIsLong (client : ℕ) (branch : List ℕ) (d : Doubt)
    (start journal : List Event) : Type 0 where
  pub head : Id12
  pub next : Id12
  pub followed : WasFollowed client branch d head (Some next) start journal
  pub neither : IsNeither d next
  pub many : length followed.seen ≡ most_snapshots

-- a key that a settling gets: the branch's, or a snapshot's
abbrev pub IsOfSettle : (branch : List ℕ) → Key → Type 0
IsOfSettle branch key = (key ≡ Branch branch) ⊎ ((id : Id12) × (key ≡ Snapshot id))

-- ---- the answer
-- The commit's snapshot was met; or its base, and that is another one; or the chain was read to its
-- end, and neither was met. Or this refused it.
abbrev pub SettleSays : ℕ → (branch : List ℕ) → Doubt → List Event
    → Result Settled Refusal → List Event → Type 0
SettleSays client branch d start (Ok Committed) journal =
    (head : Id12) × WasFollowed client branch d head (Some d.snapshot) start journal
SettleSays client branch d start (Ok NotCommitted) journal =
    (d.base ≢ d.snapshot) × (head : Id12)
    × WasFollowed client branch d head (Some d.base) start journal
SettleSays client branch d start (Ok (NotAncestor head)) journal =
    WasFollowed client branch d head None start journal
SettleSays client branch d start (Err R.NoRef) journal =
    WasAbsent client (Branch branch) start journal
SettleSays client branch d start (Err (R.Missing key)) journal =
    WayIsCut client branch d key start journal
SettleSays client branch d start (Err (R.BadFile key bad)) journal =
    RefWasBad client (Branch branch) key bad start journal
    ⊎ WayIsBad client branch d key bad start journal
SettleSays client branch d start (Err R.TooDeep) journal = WayIsLong client branch d start journal
SettleSays client branch d start (Err R.StoreFault) journal =
    WasFailure client (GetsOf (IsOfSettle branch)) start journal
SettleSays client branch d start (Err R.NoMemory) journal = Unit {0}
SettleSays client branch d start (Err _) journal = ⊥

-- What the answer of a settling says, where `start` is the journal at its beginning. The client
-- made gets alone; want of memory says no more.
abbrev pub SettleTells : ℕ → (branch : List ℕ) → Doubt → List Event
    → Result Settled Refusal → List Event → Type 0
SettleTells client branch d start result journal =
    SettleSays client branch d start result journal × MadeGets client start journal
