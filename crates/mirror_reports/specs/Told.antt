-- What replies to the operations of a mirror tell, of either store (own).
use Rattle.std.specs.Prelude.{ℕ, nat_lt, bytes_eq, if◌then◌else◌, Bool, true, false}
use Rattle.std.specs.Prelude.{List, length, Option, Some, None, Result, Ok, Err}
use Rattle.flat_tables.specs.declared.header.Kind.TheVariants as kinds
use Rattle.flat_tables.specs.File.{file_limit}
use Rattle.ice_ids.specs.declared.Id12.{Id12}
use Rattle.ice_ids.specs.Text.{same_id12}
use Rattle.snapshot_file.specs.declared.snapshot.SnapshotFile.{SnapshotFile}
use Rattle.snapshot_file.specs.Layout.{snapshot_bytes}
use Rattle.repo_objects.specs.declared.bad_objects.Unread.{Unread}
use Rattle.repo_objects.specs.declared.bad_objects.Unread.TheVariants as unread
use Rattle.repo_objects.specs.Readings.{read_ref, snapshot_by}
use Rattle.object_store.specs.declared.keys.Key.{Key}
use Rattle.object_store.specs.declared.keys.Key.TheVariants.{Branch, Tag}
use Rattle.object_store.specs.declared.events.Listed.{Listed}
use Rattle.object_store.specs.declared.events.Got.TheVariants.{Found, Absent}
use Rattle.object_store.specs.declared.events.New.TheVariants.{Done as New_done, Present}
use Rattle.object_store.specs.declared.events.Over.TheVariants.{Done as Over_done}
use Rattle.object_store.specs.declared.events.Over.TheVariants.{Moved as Over_moved}
use Rattle.object_store.specs.declared.events.Reply.{Reply}
use Rattle.object_store.specs.declared.events.Reply.TheVariants.{Got, New, Over}
use Rattle.object_store.specs.declared.events.Reply.TheVariants.{Listed as Is_listed}
use Rattle.store_api.specs.declared.machines.Refusal.{Refusal}
use Rattle.store_api.specs.declared.machines.Refusal.TheVariants as R
use Rattle.repo_read.specs.declared.answers.Resolved.{Resolved}
use Rattle.repo_read.specs.Answers.{at_key, resolved_at}
use Rattle.two_stores.specs.declared.side.Side.{Side}
use Rattle.two_stores.specs.declared.side.Side.TheVariants.{From, To}
use Rattle.mirror_reports.specs.declared.outcome.RefId.{RefId}

-- the key at which a branch or a tag stands
abbrev pub key_of : RefId → Key
key_of r = if r.tag then Tag r.name else Branch r.name

-- the failure of a side's store
abbrev pub fault_of : Side → Refusal
fault_of From = R.StoreFault
fault_of To = R.TargetFault

-- ---- what is got
-- a listing of the source
abbrev pub listed_told : Reply → Result Listed Refusal
listed_told (Is_listed l) = Ok l
listed_told _ = Err R.StoreFault

-- the bytes of an object
abbrev pub bytes_told : Side → Key → Reply → Result (List ℕ) Refusal
bytes_told side key (Got (Found bytes version now)) = Ok bytes
bytes_told side key (Got (Absent now)) = Err (R.Missing key)
bytes_told side key _ = Err (fault_of side)

abbrev pub if_there : Result Resolved Refusal → Result (Option Resolved) Refusal
if_there (Ok named) = Ok (Some named)
if_there (Err why) = Err why

-- the snapshot that a ref names and the version at which it does, if the ref is there
abbrev pub ref_told : Side → Key → Reply → Result (Option Resolved) Refusal
ref_told side key (Got (Found bytes version now)) =
    if_there (resolved_at version (at_key key (read_ref bytes)))
ref_told side key (Got (Absent now)) = Ok None
ref_told side key _ = Err (fault_of side)

-- whether a tag of the target has a tombstone
abbrev pub buried_told : Reply → Result Bool Refusal
buried_told (Got (Found bytes version now)) = Ok true
buried_told (Got (Absent now)) = Ok false
buried_told _ = Err R.TargetFault

-- ---- what is put
-- whether an object was put, or one was there
abbrev pub put_told : Reply → Result Bool Refusal
put_told (New (New_done version now)) = Ok true
put_told (New (Present version now)) = Ok false
put_told _ = Err R.TargetFault

-- a ref that was absent was put
abbrev pub made_told : Reply → Result (Unit {0}) Refusal
made_told (New (New_done version now)) = Ok tt
made_told (New (Present version now)) = Err (R.RefExists version)
made_told _ = Err R.TargetFault

-- a ref was put over
abbrev pub moved_told : Reply → Result (Unit {0}) Refusal
moved_told (Over (Over_done version now)) = Ok tt
moved_told (Over (Over_moved found now)) = Err (R.Moved found)
moved_told _ = Err R.TargetFault

-- ---- files of snapshots
-- the file of a snapshot, which may not be longer than a file may be
abbrev pub file_of : SnapshotFile → Result (List ℕ) Refusal
file_of s =
    if nat_lt file_limit (length (snapshot_bytes s)) then Err (R.TooLarge kinds.Snapshot)
    else Ok (snapshot_bytes s)

abbrev pub same_parent : Option Id12 → Option Id12 → Bool
same_parent None None = true
same_parent (Some a) (Some b) = same_id12 a b
same_parent None (Some b) = false
same_parent (Some a) None = false

-- The file of a snapshot with this parent: the bytes that were got, where they name it.
abbrev pub file_under : (parent : Option Id12) → (bytes : List ℕ) → SnapshotFile
    → Result (List ℕ) Refusal
file_under parent bytes s =
    if same_parent s.parent parent then Ok bytes else file_of (record s { parent = parent })

abbrev pub if_equal : Result (List ℕ) Refusal → Result (List ℕ) Refusal → Result Bool Refusal
if_equal (Ok a) (Ok b) = Ok (bytes_eq a b)
if_equal (Ok a) (Err why) = Err why
if_equal (Err why) b = Err why

-- the snapshot that was read, if there is one
abbrev pub if_read : Result SnapshotFile Unread → Result (Option SnapshotFile) Refusal
if_read (Ok s) = Ok (Some s)
if_read (Err (unread.Bad bad)) = Ok None
if_read (Err unread.NoMemory) = Err R.NoMemory

-- whether two snapshots differ in the parent alone
abbrev pub same_but_parent : Option SnapshotFile → Option SnapshotFile → Result Bool Refusal
same_but_parent (Some s) (Some t) =
    if_equal (file_of (record s { parent = None })) (file_of (record t { parent = None }))
same_but_parent (Some s) None = Ok false
same_but_parent None t = Ok false

-- whether the target's bytes are fine: they are the source's, or both are snapshots
-- that differ in the parent alone
abbrev pub is_fine : (id : Id12) → (bytes there : List ℕ) → Result Bool Refusal
is_fine id bytes there =
    if bytes_eq bytes there then Ok true
    else same_but_parent (snapshot_by id bytes) (snapshot_by id there)
