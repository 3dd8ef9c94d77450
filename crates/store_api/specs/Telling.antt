-- What a client's own operations say of the journal, in words that name no machine and no program.
-- (Icechunk specification version 1, "Read from Repository", "Reference Files".)
use Rattle.std.specs.Prelude.{◌≡◌, ℕ, ◌<◌, Bool, List, [], ◌∷◌, ◌++◌}
use Rattle.std.specs.Prelude.{length, Option, Some, None, Result, Err}
use Rattle.ice_ids.specs.declared.Id12.{Id12}
use Rattle.snapshot_file.specs.declared.snapshot.SnapshotFile.{SnapshotFile}
use Rattle.repo_objects.specs.declared.bad_objects.Bad.{Bad}
use Rattle.repo_objects.specs.Readings.{read_snapshot, read_ref, snapshot_by, ref_of}
use Rattle.object_store.specs.declared.keys.Key.{Key}
use Rattle.object_store.specs.declared.keys.Key.TheVariants.{Snapshot, Branch}
use Rattle.object_store.specs.declared.events.Version.{Version}
use Rattle.object_store.specs.declared.events.Op.{Op}
use Rattle.object_store.specs.declared.events.Op.TheVariants.{Get, PutNew, PutOver, Remove}
use Rattle.object_store.specs.declared.events.Op.TheVariants.{RemoveAt, List as ListPart}
use Rattle.object_store.specs.declared.events.Got.TheVariants.{Found, Absent}
use Rattle.object_store.specs.declared.events.Reply.{Reply}
use Rattle.object_store.specs.declared.events.Reply.TheVariants.{Got as Is_got, Failed}
use Rattle.object_store.specs.declared.events.Event.{Event}
use Rattle.store_api.specs.declared.machines.Refusal.{Refusal}
use Rattle.object_store.specs.Machine.{Stored, found, version_at}
use Rattle.store_api.specs.Journal.{Each, StoodAt}
use Rattle.store_api.specs.Callers.{Caller, IsOther}
use Rattle.store_api.specs.Program.{Leads}
use Rattle.store_api.specs.Running.{Program, StaysPolite}

-- ---- a client's own events
-- An event of this client, with this operation and this reply, stands
-- in the journal behind `start`.
pub record HasOwn (client : ℕ) (op : Op) (reply : Reply) (start journal : List Event) : Type 0 where
  pub before : List Event
  pub since : List Event
  pub before_is : before ≡ start ++ since
  pub event : Event
  pub after : List Event
  pub is : journal ≡ before ++ event ∷ after
  pub client_is : event.client ≡ client
  pub op_is : event.op ≡ op
  pub reply_is : event.reply ≡ reply

-- the key stands with this version, which is the position of the put that left it there
pub record StandsAt (journal : List Event) (key : Key) (version : ℕ) : Type 0 where
  pub stored : Stored
  pub stands : found journal key ≡ Some stored
  pub version_is : stored.version ≡ version
  pub put : StoodAt journal key version stored.bytes

-- ---- what a client changed
-- the event isn't the client's, or leaves what stands at each branch as it was
abbrev pub LeavesBranches : ℕ → List Event → Event → Type 0
LeavesBranches client before event =
    event.client ≡ client → (branch : List ℕ)
    → found (before ++ event ∷ []) (Branch branch) ≡ found before (Branch branch)

-- From `start` on, no event of the client changed a branch.
pub record ChangedNothing (client : ℕ) (start journal : List Event) : Type 0 where
  pub more : List Event
  pub is : journal ≡ start ++ more
  pub each : Each (LeavesBranches client) start more

-- From `start` on, no event of the client but this one changed a branch.
pub record ChangedOnce (client : ℕ) (start before : List Event) (event : Event)
    (journal : List Event) : Type 0 where
  pub earlier : ChangedNothing client start before
  pub later : ChangedNothing client (before ++ event ∷ []) journal

abbrev pub IsGet : Op → Type 0
IsGet (Get key) = Unit {0}
IsGet (PutNew key bytes why) = ⊥
IsGet (PutOver key bytes old why) = ⊥
IsGet (Remove key why) = ⊥
IsGet (RemoveAt key old why) = ⊥
IsGet (ListPart part) = ⊥

-- the event isn't the client's, or a get
abbrev pub GetsAlone : ℕ → List Event → Event → Type 0
GetsAlone client before event = event.client ≡ client → IsGet event.op

-- From `start` on, the client made gets alone.
pub record MadeGets (client : ℕ) (start journal : List Event) : Type 0 where
  pub more : List Event
  pub is : journal ≡ start ++ more
  pub each : Each (GetsAlone client) start more

-- The client's own operation was answered so, and it was the only one since `start` that is no get.
pub record MadeOne (client : ℕ) (op : Op) (reply : Reply)
    (start journal : List Event) : Type 0 where
  pub own : HasOwn client op reply start journal
  pub earlier : MadeGets client start own.before
  pub later : MadeGets client (own.before ++ own.event ∷ []) journal

-- ---- what was got
-- the client's own get of the key was answered with these bytes and this version
pub record WasGot (client : ℕ) (key : Key) (bytes : List ℕ) (version : ℕ)
    (start journal : List Event) : Type 0 where
  pub now : ℕ
  pub own : HasOwn client (Get key) (Is_got (Found bytes (version_at version) now)) start journal

-- the client's own get of the key was answered that nothing is there, and nothing was
pub record WasAbsent (client : ℕ) (key : Key) (start journal : List Event) : Type 0 where
  pub now : ℕ
  pub own : HasOwn client (Get key) (Is_got (Absent now)) start journal
  pub nothing : found own.before key ≡ None

-- the client's own get of the key was answered that something is there
pub record WasPresent (client : ℕ) (key : Key) (start journal : List Event) : Type 0 where
  pub bytes : List ℕ
  pub version : ℕ
  pub got : WasGot client key bytes version start journal

-- the client's own get of the ref was answered with a reference to this snapshot
pub record WasRef (client : ℕ) (key : Key) (version : Version) (id : Id12)
    (start journal : List Event) : Type 0 where
  pub bytes : List ℕ
  pub got : WasGot client key bytes version.0 start journal
  pub names : ref_of bytes ≡ Some id

-- the ref's bytes are no reference, for this cause
pub record RefWasBad (client : ℕ) (ref key : Key) (bad : Bad)
    (start journal : List Event) : Type 0 where
  pub key_is : key ≡ ref
  pub bytes : List ℕ
  pub version : ℕ
  pub got : WasGot client ref bytes version start journal
  pub unread : read_ref bytes ≡ Err bad

-- the client's own get of the snapshot was answered with bytes that read so
pub record WasReadAs (client : ℕ) (id : Id12) (snap : SnapshotFile)
    (start journal : List Event) : Type 0 where
  pub bytes : List ℕ
  pub version : ℕ
  pub got : WasGot client (Snapshot id) bytes version start journal
  pub read : snapshot_by id bytes ≡ Some snap

-- the client's own get of the snapshot was answered with one that can be read
pub record WasSnapshot (client : ℕ) (id : Id12) (start journal : List Event) : Type 0 where
  pub snap : SnapshotFile
  pub read : WasReadAs client id snap start journal

-- the client's own get of the snapshot was answered with bytes that are no
-- snapshot of this id, for this cause
pub record SnapshotWasBad (client : ℕ) (id : Id12) (key : Key) (bad : Bad)
    (start journal : List Event) : Type 0 where
  pub key_is : key ≡ Snapshot id
  pub bytes : List ℕ
  pub version : ℕ
  pub got : WasGot client (Snapshot id) bytes version start journal
  pub unread : read_snapshot id bytes ≡ Err bad

-- ---- branches that moved on
-- an event later than this version removed the branch
pub record WasRemoved (journal : List Event) (branch : List ℕ) (old : ℕ) : Type 0 where
  pub before : List Event
  pub event : Event
  pub after : List Event
  pub is : journal ≡ before ++ event ∷ after
  pub later : old < length before
  pub there : Stored
  pub stood : found before (Branch branch) ≡ Some there
  pub gone : found (before ++ event ∷ []) (Branch branch) ≡ None

-- the branch stood at a later version than this one, or was gone, removed by a later event
abbrev pub HasMovedOn : List Event → List ℕ → ℕ → Option Version → Type 0
HasMovedOn journal branch old None =
    (found journal (Branch branch) ≡ None) × WasRemoved journal branch old
HasMovedOn journal branch old (Some version) =
    (old < version.0) × StandsAt journal (Branch branch) version.0

-- ---- a store's failure
-- The store failed an operation of the client, of this kind, which may have been done. No other
-- event of the client changed a branch.
pub record WasFailed (client : ℕ) (kind : Op → Type 0) (start journal : List Event) : Type 0 where
  pub op : Op
  pub of_kind : kind op
  pub done : Bool
  pub own : HasOwn client op (Failed done) start journal
  pub once : ChangedOnce client start own.before own.event journal

-- an operation of the client, of this kind, failed, and may have been done;
-- all else that it made are gets
pub record WasFailure (client : ℕ) (kind : Op → Type 0) (start journal : List Event) : Type 0 where
  pub op : Op
  pub of_kind : kind op
  pub done : Bool
  pub made : MadeOne client op (Failed done) start journal

-- a get of a key of these
abbrev pub GetsOf : (Key → Type 0) → Op → Type 0
GetsOf keys op = (key : Key) × keys key × (op ≡ Get key)

-- ---- calls
-- Whatever others do, each operation to come is polite; the answer tells this of the journal, where
-- `tells` has the journal at the call first; and what it tells stays so.
pub record IsTold (by : Caller) {A : Type 0} (p : Program A)
    (tells : List Event → Result A Refusal → List Event → Type 0) : Type 0 where
  pub polite : (journal : List Event) → StaysPolite by p journal
  pub leads : (journal : List Event) → Leads (tells journal) by p journal
  pub kept : (result : Result A Refusal) (start journal more : List Event)
      → Each (IsOther by) journal more → tells start result journal
      → tells start result (journal ++ more)
