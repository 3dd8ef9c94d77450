-- What the answer of an opening says of the journal, in words that name no machine and no program.
-- (Icechunk specification version 1, "Read from Repository".)
use Rattle.std.specs.Prelude.{◌≡◌, ◌⊎◌, ℕ, List, Option, Some, None, Result, Ok, Err}
use Rattle.ice_ids.specs.declared.Id8.{Id8}
use Rattle.ice_ids.specs.declared.Id12.{Id12}
use Rattle.zarr_tree.specs.Held.{HeldEntry, entry_in}
use Rattle.manifest_file.specs.declared.manifest.Place.{Place}
use Rattle.manifest_file.specs.declared.manifest.Place.TheVariants.{Object}
use Rattle.snapshot_file.specs.declared.snapshot.SnapshotFile.{SnapshotFile}
use Rattle.repo_objects.specs.Readings.{snapshot_by, ref_of}
use Rattle.object_store.specs.declared.keys.Key.{Key}
use Rattle.object_store.specs.declared.keys.Key.TheVariants.{Snapshot, Chunk, Branch}
use Rattle.object_store.specs.declared.events.Op.{Op}
use Rattle.object_store.specs.declared.events.Op.TheVariants.{Get}
use Rattle.object_store.specs.declared.events.Event.{Event}
use Rattle.store_api.specs.declared.machines.Refusal.{Refusal}
use Rattle.store_api.specs.declared.machines.Refusal.TheVariants.{NoRef, Missing, BadFile}
use Rattle.store_api.specs.declared.machines.Refusal.TheVariants.{StoreFault, NoMemory}
use Rattle.store_api.specs.Journal.{WasPut, StoodAt, HadRows, puts_of, rows_of, IsOnce}
use Rattle.store_api.specs.Telling.{ChangedNothing, WasAbsent, WasFailed, WasGot, GetsOf}
use Rattle.repo_read.specs.declared.resolving.At.{At}
use Rattle.repo_read.specs.declared.resolving.Named.{Named}
use Rattle.repo_read.specs.Naming.{WasResolved, WasNothing, WasUnnamed, IsNaming, TargetWasBad}
use Rattle.session.specs.declared.origin.Tip.{Tip}
use Rattle.session.specs.Sessions.{SessionState, tip_of}
use Rattle.session.specs.Opening.{Asked, begun}
use Rattle.commit_path.specs.Owed.{HasChunks}

-- ---- what a session knows
-- the objects of the chunks that were set were put
abbrev pub ObjectsPut : List Event → List (HeldEntry Place) → Type 0
ObjectsPut journal entries =
    (node : Id8) (i : List ℕ) (id : Id12) (offset size : ℕ)
    → entry_in entries node i ≡ Some (Some (Object id offset size)) → WasPut journal (Chunk id)

-- the branch stood at this version, with a reference to this snapshot
pub record BranchNamed (journal : List Event) (branch : List ℕ) (version : ℕ)
    (base : Id12) : Type 0 where
  pub bytes : List ℕ
  pub stood : StoodAt journal (Branch branch) version bytes
  pub names : ref_of bytes ≡ Some base

-- so it was of the branch that named a session's base, if one did
abbrev pub IsTip : List Event → (base : Id12) → Option Tip → Type 0
IsTip journal base None = Unit {0}
IsTip journal base (Some tip) = BranchNamed journal tip.branch tip.version.0 base

-- The branch that named a session's base, if one did, stood at its version, with a reference to its
-- base; a put of the base had the session's rows; and the objects of its long chunks were put.
-- Where nothing is put again, the rows are the base's, and the bytes of its chunks are there.
pub record IsOpened (s : SessionState) (journal : List Event) : Type 0 where
  pub named : IsTip journal s.base (tip_of s)
  pub put : WasPut journal (Snapshot s.base)
  pub had : HadRows journal s.base s.rows
  pub rows : IsOnce journal → rows_of journal s.base ≡ Some s.rows
  pub objects : ObjectsPut journal s.held.chunks
  pub chunks : IsOnce journal → HasChunks (puts_of journal) s.held.chunks

-- ---- the answers
-- The session begins at the snapshot that was named, by a branch, by a tag or by itself, as the
-- client's own gets were answered; with that snapshot's rows, as the client got it, and no changes.
pub record WasBegun (client : ℕ) (a : Asked) (s : SessionState)
    (start journal : List Event) : Type 0 where
  pub named : Named
  pub resolved : WasResolved client a.at named start journal
  pub base : s.base ≡ named.id
  pub bytes : List ℕ
  pub version : ℕ
  pub got : WasGot client (Snapshot s.base) bytes version start journal
  pub snap : SnapshotFile
  pub read : snapshot_by s.base bytes ≡ Some snap
  pub begins : s ≡ begun a named snap

-- a snapshot that was asked for by its id isn't there
abbrev pub BaseWasAbsent : ℕ → At → List Event → List Event → Type 0
BaseWasAbsent client (At.Snapshot id) start journal = WasAbsent client (Snapshot id) start journal
BaseWasAbsent client _ start journal = ⊥

-- it was asked for what a ref names
abbrev pub IsByRef : At → Type 0
IsByRef (At.Snapshot id) = ⊥
IsByRef _ = Unit {0}

-- the ref names a snapshot that isn't there
pub record WasMissing (client : ℕ) (at : At) (key : Key) (start journal : List Event) : Type 0 where
  pub by_ref : IsByRef at
  pub named : Named
  pub resolved : WasResolved client at named start journal
  pub key_is : key ≡ Snapshot named.id
  pub absent : WasAbsent client (Snapshot named.id) start journal

-- an operation of an opening: a get of what names the snapshot that was
-- asked for, or that of a snapshot
abbrev pub IsOfOpening : Asked → Op → Type 0
IsOfOpening a op = GetsOf (IsNaming a.at) op ⊎ ((id : Id12) × (op ≡ Get (Snapshot id)))

-- why an opening was refused
abbrev pub RefusalTells : ℕ → Asked → List Event → Refusal → List Event → Type 0
RefusalTells client a start NoRef journal =
    (WasNothing client a.at start journal ⊎ BaseWasAbsent client a.at start journal)
    × ChangedNothing client start journal
RefusalTells client a start (Missing key) journal =
    WasMissing client a.at key start journal × ChangedNothing client start journal
RefusalTells client a start (BadFile key bad) journal =
    (WasUnnamed client a.at key bad start journal ⊎ TargetWasBad client a.at key bad start journal)
    × ChangedNothing client start journal
RefusalTells client a start StoreFault journal = WasFailed client (IsOfOpening a) start journal
RefusalTells client a start NoMemory journal = ChangedNothing client start journal
RefusalTells client a start _ journal = ⊥

-- What the answer of an opening says of the journal, where the client had changed no branch between
-- `start` and the opening.
abbrev pub OpeningTells : ℕ → Asked → List Event → Result SessionState Refusal → List Event → Type 0
OpeningTells client a start (Ok s) journal =
    WasBegun client a s start journal × IsOpened s journal × ChangedNothing client start journal
OpeningTells client a start (Err why) journal = RefusalTells client a start why journal
