-- What the answer of a commit says of the journal, in words that name no machine and no
-- program. (Icechunk specification version 1, "Write New Snapshot": the branch is moved only
-- from the version that was read.)
use Rattle.zarr_changes.specs.declared.chunks.ChangedArray.{ChangedArray}
use Rattle.zarr_changes.specs.Sets.{changed_arrays, chunks_of}
use Rattle.manifest_index.specs.Merging.{merged_array}
use Rattle.changed_snapshot.specs.declared.new_snapshot.NewManifest.{NewManifest}
use Rattle.changed_snapshot.specs.declared.new_snapshot.NewList.{NewList}
use Rattle.changed_snapshot.specs.Rows.{own_manifests}
use Rattle.session.specs.Sources.{IsLater, MayDrawObject}
use Rattle.std.specs.Prelude.{◌≡◌, ◌⊎◌, ℕ, ◌<◌, Bool, true, false, List, [], ◌∷◌, ◌++◌}
use Rattle.std.specs.Prelude.{length, Option, Some, None, Result, Ok, Err}
use Rattle.std.specs.List.{AllZip, Contains}
use Rattle.ice_ids.specs.declared.Id12.{Id12}
use Rattle.ice_ids.specs.declared.drawing.AnyIds.{AnyIds}
use Rattle.ice_ids.specs.Drawing.{drawn12, after12}
use Rattle.flat_tables.specs.declared.header.Kind.{Kind}
use Rattle.flat_tables.specs.declared.header.Kind.TheVariants as kinds
use Rattle.zarr_tree.specs.Held.{touched}
use Rattle.zarr_tree.specs.Touched.{is_untouched}
use Rattle.manifest_file.specs.declared.manifest.ArrayRefs.{ArrayRefs}
use Rattle.manifest_file.specs.Manifests.{refs_limit}
use Rattle.manifest_file.specs.Layout.{file_bytes}
use Rattle.held_manifest.specs.LookUp.{Listed}
use Rattle.txn_file.specs.Layout.{log_file}
use Rattle.snapshot_file.specs.declared.nodes.ManifestRef.{ManifestRef}
use Rattle.snapshot_file.specs.declared.snapshot.SnapshotFile.{SnapshotFile}
use Rattle.snapshot_file.specs.Layout.{snapshot_bytes}
use Rattle.repo_objects.specs.declared.bad_objects.Bad.{Bad}
use Rattle.repo_objects.specs.Readings.{read_manifest, snapshot_by, manifest_by, ref_of}
use Rattle.repo_objects.specs.Trees.{NamesManifest}
use Rattle.object_store.specs.declared.keys.Key.{Key}
use Rattle.object_store.specs.declared.keys.Key.TheVariants.{Snapshot, Manifest, Txn, Branch}
use Rattle.object_store.specs.declared.keys.Why.TheVariants.{Set, Commit}
use Rattle.object_store.specs.declared.events.Version.{Version}
use Rattle.object_store.specs.declared.events.Op.{Op}
use Rattle.object_store.specs.declared.events.Op.TheVariants.{Get, PutNew, PutOver}
use Rattle.object_store.specs.declared.events.New.TheVariants.{Done as New_done, Present}
use Rattle.object_store.specs.declared.events.Over.TheVariants.{Done as Over_done, Moved}
use Rattle.object_store.specs.declared.events.Reply.TheVariants.{New as Is_new}
use Rattle.object_store.specs.declared.events.Reply.TheVariants.{Over as Is_over, Failed}
use Rattle.object_store.specs.declared.events.Event.{Event}
use Rattle.store_api.specs.declared.machines.Refusal.{Refusal}
use Rattle.store_api.specs.declared.machines.Refusal.TheVariants.{ReadOnly, NothingToCommit}
use Rattle.store_api.specs.declared.machines.Refusal.TheVariants.{IdsSpent, Missing}
use Rattle.store_api.specs.declared.machines.Refusal.TheVariants.{BadFile, IdTaken, TooLarge}
use Rattle.store_api.specs.declared.machines.Refusal.TheVariants.{StoreFault, InDoubt, NoMemory}
use Rattle.object_store.specs.Machine.{version_at}
use Rattle.store_api.specs.Journal.{IsOnce}
use Rattle.store_api.specs.Telling.{HasOwn, StandsAt, WasGot, WasAbsent, HasMovedOn}
use Rattle.store_api.specs.Telling.{ChangedNothing, ChangedOnce, WasFailed}
use Rattle.session.specs.Sessions.{SessionState, branch_of, version_of, writes, base_nodes}
use Rattle.commit_path.specs.declared.commit.Committed.{Committed}
use Rattle.commit_path.specs.declared.commit.Tried.{Tried}
use Rattle.commit_path.specs.declared.commit.Tried.TheVariants.{Done as Was_done, Lost}
use Rattle.commit_path.specs.Committing.{log_for, snap_for, manifest_for, new_manifest, is_long}
use Rattle.commit_path.specs.Owed.{IsMade}
use Rattle.reach.specs.Own.{PutsItself}

-- ---- the answers
-- a put of the session's branch for a commit, over the version that the session had read
abbrev pub commits_over : SessionState → List ℕ → Op
commits_over s bytes = PutOver (Branch (branch_of s)) bytes (version_at (version_of s)) Commit

-- the client's own put of the log under this id was done, and told this time
pub record WasLogged (client : ℕ) (id : Id12) (time : ℕ) (start journal : List Event) : Type 0 where
  pub bytes : List ℕ
  pub version : Version
  pub own : HasOwn client (PutNew (Txn id) bytes Set) (Is_new (New_done version time)) start journal

-- the client's own put of the snapshot under this id was done, and put a snapshot with
-- this message, flushed at this time
pub record WasSnapped (client : ℕ) (id : Id12) (message : List ℕ) (time : ℕ)
    (start journal : List Event) : Type 0 where
  pub bytes : List ℕ
  pub snap : SnapshotFile
  pub read : snapshot_by id bytes ≡ Some snap
  pub message_is : snap.message ≡ message
  pub flushed : snap.flushed_at ≡ time
  pub version : Version
  pub now : ℕ
  pub own : HasOwn client (PutNew (Snapshot id) bytes Set)
      (Is_new (New_done version now)) start journal

-- ---- what a commit writes of arrays
-- the client's own get of a manifest of a list was answered with bytes that read as this file,
-- which stands with the same extents
pub record WasRead (client : ℕ) (start journal : List Event) (m : ManifestRef)
    (l : Listed) : Type 0 where
  pub bytes : List ℕ
  pub version : ℕ
  pub got : WasGot client (Manifest m.id) bytes version start journal
  pub read : manifest_by m.id bytes ≡ Some l.1
  pub extents : l.0 ≡ m.extents

-- so the manifests of a list were read, one after another
abbrev pub WereRead : ℕ → List ManifestRef → List Listed → List Event → List Event → Type 0
WereRead client manifests old start journal = AllZip (WasRead client start journal) manifests old

-- what an array has after a session's changes of it, by these manifests of its base
abbrev pub refs_after : SessionState → ChangedArray → List Listed → Option ArrayRefs
refs_after s a old = merged_array a.rank a.node old (chunks_of s.held.chunks a.node)

-- an array without chunks has no manifest; one with chunks has the one that has them all,
-- and that the client put itself
abbrev pub IsManifestOf : ℕ → (rank : ℕ) → Option ArrayRefs → Option NewManifest
    → List Event → List Event → Type 0
IsManifestOf client rank None None start journal = Unit {0}
IsManifestOf client rank (Some array) (Some m) start journal =
    (m ≡ new_manifest m.id rank array)
    × PutsItself client (Manifest m.id) (file_bytes (manifest_for m.id array)) start journal
IsManifestOf client rank _ _ start journal = ⊥

-- the new list of a changed array, by the manifests of its base as the client read them
pub record IsListed (client : ℕ) (s : SessionState) (start journal : List Event) (a : ChangedArray)
    (n : NewList) : Type 0 where
  pub path : n.path ≡ a.path
  pub old : List Listed
  pub read : WereRead client (own_manifests s.rows a.path a.node) old start journal
  pub manifest : IsManifestOf client a.rank (refs_after s a old) n.manifest start journal

-- the ids behind a manifest, if there is one, and behind those of lists, one after another
abbrev pub ids_past : AnyIds → Option NewManifest → AnyIds
ids_past ids None = ids
ids_past ids (Some m) = after12 ids

unfoldable pub ids_behind : AnyIds → List NewList → AnyIds
ids_behind ids [] = ids
ids_behind ids (n ∷ ns) = ids_behind (ids_past ids n.manifest) ns

-- a manifest is under the next id; those of lists are under the next ones, one after another
abbrev pub IsNext : AnyIds → Option NewManifest → Type 0
IsNext ids None = Unit {0}
IsNext ids (Some m) = drawn12 ids ≡ Some m.id

unfoldable pub AreInTurn : AnyIds → List NewList → Type 0
AreInTurn ids [] = Unit {0}
AreInTurn ids (n ∷ ns) = IsNext ids n.manifest × AreInTurn (ids_past ids n.manifest) ns

-- These are the new lists of these arrays, each manifest under the next id that the session drew.
pub record WereListed (client : ℕ) (s : SessionState) (arrays : List ChangedArray)
    (news : List NewList) (start journal : List Event) : Type 0 where
  pub lists : AllZip (IsListed client s start journal) arrays news
  pub turn : AreInTurn s.ids news

-- A commit's manifests were put by the client itself, for all arrays whose chunks changed; the id
-- is the next one behind theirs.
pub record WereWritten (client : ℕ) (s : SessionState) (news : List NewList) (id : Id12)
    (start journal : List Event) : Type 0 where
  pub listed : WereListed client s (changed_arrays s.held (base_nodes s)) news start journal
  pub drawn : drawn12 (ids_behind s.ids news) ≡ Some id

-- ---- what a commit came to
-- A commit's manifests, log and snapshot were put by the client itself; the snapshot is that of the
-- session under these lists, flushed at the time that the put of its log told.
pub record WasWritten (client : ℕ) (s : SessionState) (id : Id12) (message : List ℕ)
    (start journal : List Event) : Type 0 where
  pub news : List NewList
  pub manifests : WereWritten client s news id start journal
  pub time : ℕ
  pub log : WasLogged client id time start journal
  pub snapshot : WasSnapped client id message time start journal
  pub is : snapshot.snap ≡ snap_for s message news id time

-- The commit took effect. The client's own put over of the session's branch, with a reference to
-- the snapshot, was done, at the position that is the answer's version; till then the branch stood
-- at the version that the session had read. It is the one event of the client that changed a
-- branch. The client itself had put the snapshot, with the message, its log and its new manifests;
-- the snapshot is the session's, under an id that it drew.
pub record TookEffect (client : ℕ) (s : SessionState) (message : List ℕ) (made : Committed)
    (start journal : List Event) : Type 0 where
  pub bytes : List ℕ
  pub names : ref_of bytes ≡ Some made.id
  pub now : ℕ
  pub own : HasOwn client (commits_over s bytes)
      (Is_over (Over_done made.version now)) start journal
  pub position : made.version ≡ version_at (length own.before)
  pub read : StandsAt own.before (Branch (branch_of s)) (version_of s)
  pub once : ChangedOnce client start own.before own.event journal
  pub drawn : MayDrawObject s.ids made.id
  pub written : WasWritten client s made.id message start journal
  pub is_made : IsOnce journal → IsMade s made.id journal

-- The branch had moved on. The client's own put over of the session's branch, with a reference to
-- this snapshot, found it at a later version than the one that the session had read, which is the
-- answer's old one, or found it gone. No event of the client changed a branch. The session drew one
-- id for each manifest that was put, and this one for the log and the snapshot; the ids that are
-- drawn next are those behind it.
pub record WasMoved (client : ℕ) (s : SessionState) (old : Version) (there : Option Version)
    (next : AnyIds) (start journal : List Event) : Type 0 where
  pub old_is : old ≡ version_at (version_of s)
  pub next_is : IsLater s.ids next
  pub id : Id12
  pub drawn : MayDrawObject s.ids id
  pub news : List NewList
  pub manifests : WereWritten client s news id start journal
  pub behind : next ≡ after12 (ids_behind s.ids news)
  pub bytes : List ℕ
  pub names : ref_of bytes ≡ Some id
  pub now : ℕ
  pub own : HasOwn client (commits_over s bytes) (Is_over (Moved there now)) start journal
  pub later : HasMovedOn own.before (branch_of s) (version_of s) there
  pub nothing : ChangedNothing client start journal

-- The commit is in doubt. The client's own put over of the session's branch, with a reference to
-- this snapshot, failed, and may have been done: it took effect where it was done, and the branch
-- stood then at the version that the session had read. No other event of the client changed a
-- branch. The client itself had put the snapshot, with the message, its log and its new manifests;
-- the snapshot is the session's, under an id that it drew.
pub record WasDoubted (client : ℕ) (s : SessionState) (message : List ℕ) (id : Id12)
    (start journal : List Event) : Type 0 where
  pub bytes : List ℕ
  pub names : ref_of bytes ≡ Some id
  pub done : Bool
  pub own : HasOwn client (commits_over s bytes) (Failed done) start journal
  pub once : ChangedOnce client start own.before own.event journal
  pub drawn : MayDrawObject s.ids id
  pub written : WasWritten client s id message start journal
  pub is_made : IsOnce journal → IsMade s id journal

-- The key of a manifest, of the log or of the snapshot was taken, under an id that was drawn: the
-- client's own put found an object there.
pub record WasTaken (client : ℕ) (s : SessionState) (key : Key)
    (start journal : List Event) : Type 0 where
  pub id : Id12
  pub drawn : MayDrawObject s.ids id
  pub which : (key ≡ Txn id) ⊎ ((key ≡ Snapshot id) ⊎ (key ≡ Manifest id))
  pub bytes : List ℕ
  pub version : Version
  pub now : ℕ
  pub own : HasOwn client (PutNew key bytes Set) (Is_new (Present version now)) start journal
  pub there : StandsAt own.before key version.0

-- an operation of a commit of this session before the put over of its branch: the get
-- of a manifest that its base names; or under an id that it drew, the put of a
-- manifest, of its log or of its snapshot
abbrev pub IsOfCommit : SessionState → Op → Type 0
IsOfCommit s op =
    ((manifest : Id12) × NamesManifest s.rows manifest × (op ≡ Get (Manifest manifest)))
    ⊎ ((id : Id12) × (bytes : List ℕ) × MayDrawObject s.ids id
    × ((op ≡ PutNew (Manifest id) bytes Set)
    ⊎ ((op ≡ PutNew (Txn id) bytes Set) ⊎ (op ≡ PutNew (Snapshot id) bytes Set))))

-- a manifest that the base names isn't there, or isn't readable, for this cause
pub record WasNoManifest (client : ℕ) (s : SessionState) (key : Key)
    (start journal : List Event) : Type 0 where
  pub manifest : Id12
  pub named : NamesManifest s.rows manifest
  pub key_is : key ≡ Manifest manifest
  pub absent : WasAbsent client (Manifest manifest) start journal

pub record WasBadManifest (client : ℕ) (s : SessionState) (key : Key) (bad : Bad)
    (start journal : List Event) : Type 0 where
  pub manifest : Id12
  pub named : NamesManifest s.rows manifest
  pub key_is : key ≡ Manifest manifest
  pub bytes : List ℕ
  pub version : ℕ
  pub got : WasGot client (Manifest manifest) bytes version start journal
  pub unread : read_manifest manifest bytes ≡ Err bad

-- A changed array has more chunks than a manifest may have, or the file of its
-- manifest is longer than a file may be.
pub record HasTooMany (client : ℕ) (s : SessionState) (start journal : List Event) : Type 0 where
  pub array : ChangedArray
  pub among : Contains (changed_arrays s.held (base_nodes s)) array
  pub old : List Listed
  pub read : WereRead client (own_manifests s.rows array.path array.node) old start journal
  pub refs : ArrayRefs
  pub merged : refs_after s array old ≡ Some refs
  pub id : Id12
  pub cause : (refs_limit < length refs.refs)
      ⊎ (MayDrawObject s.ids id × (is_long (file_bytes (manifest_for id refs)) ≡ true))

-- the file of its log would be too long
pub record HasLongLog (s : SessionState) : Type 0 where
  pub id : Id12
  pub drawn : MayDrawObject s.ids id
  pub long : is_long (log_file (log_for s id)) ≡ true

-- the file of its snapshot under the lists that were written would be too long, flushed at the
-- time that the put of its log told
pub record HasLongSnapshot (client : ℕ) (s : SessionState) (message : List ℕ)
    (start journal : List Event) : Type 0 where
  pub id : Id12
  pub news : List NewList
  pub manifests : WereWritten client s news id start journal
  pub time : ℕ
  pub log : WasLogged client id time start journal
  pub long : is_long (snapshot_bytes (snap_for s message news id time)) ≡ true

-- which file would be too long
abbrev pub IsLong : ℕ → SessionState → List ℕ → Kind → List Event → List Event → Type 0
IsLong client s message kinds.Manifest start journal = HasTooMany client s start journal
IsLong client s message kinds.Log start journal = HasLongLog s
IsLong client s message kinds.Snapshot start journal =
    HasLongSnapshot client s message start journal

-- an id is needed next: for the manifest of the first of these arrays, since it has chunks, or
-- where none is left, for the log
pub record HasChunksLeft (client : ℕ) (s : SessionState) (a : ChangedArray)
    (start journal : List Event) : Type 0 where
  pub old : List Listed
  pub read : WereRead client (own_manifests s.rows a.path a.node) old start journal
  pub refs : ArrayRefs
  pub merged : refs_after s a old ≡ Some refs

abbrev pub NeedsId : ℕ → SessionState → List ChangedArray → List Event → List Event → Type 0
NeedsId client s [] start journal = Unit {0}
NeedsId client s (a ∷ more) start journal = HasChunksLeft client s a start journal

-- The manifests of the first arrays were put, each under the next id; the one behind theirs
-- was needed, and there is none.
pub record HasNoId (client : ℕ) (s : SessionState) (start journal : List Event) : Type 0 where
  pub front : List ChangedArray
  pub left : List ChangedArray
  pub are : front ++ left ≡ changed_arrays s.held (base_nodes s)
  pub news : List NewList
  pub listed : WereListed client s front news start journal
  pub needs : NeedsId client s left start journal
  pub spent : drawn12 (ids_behind s.ids news) ≡ None

-- why a commit of this session, with this message, was refused before its branch was asked for; no
-- event of the client changed a branch
abbrev pub CommitRefused : ℕ → SessionState → List ℕ → List Event → Refusal → List Event → Type 0
CommitRefused client s message start ReadOnly journal = writes s ≡ false
CommitRefused client s message start NothingToCommit journal =
    is_untouched (touched s.held (base_nodes s)) ≡ true
CommitRefused client s message start IdsSpent journal = HasNoId client s start journal
CommitRefused client s message start (TooLarge kind) journal =
    IsLong client s message kind start journal
CommitRefused client s message start (Missing key) journal =
    WasNoManifest client s key start journal
CommitRefused client s message start (BadFile key bad) journal =
    WasBadManifest client s key bad start journal
CommitRefused client s message start (IdTaken key) journal = WasTaken client s key start journal
CommitRefused client s message start NoMemory journal = Unit {0}
CommitRefused client s message start _ journal = ⊥

-- What the answer of a commit of this session, with this message, says of the journal, where the
-- client had changed no branch between `start` and the commit.
abbrev pub CommitTells : ℕ → SessionState → List ℕ → List Event
    → Result Tried Refusal → List Event → Type 0
CommitTells client s message start (Ok (Was_done made)) journal =
    TookEffect client s message made start journal
CommitTells client s message start (Ok (Lost old there next)) journal =
    WasMoved client s old there next start journal
CommitTells client s message start (Err StoreFault) journal =
    WasFailed client (IsOfCommit s) start journal × ChangedNothing client start journal
CommitTells client s message start (Err (InDoubt id)) journal =
    WasDoubted client s message id start journal
CommitTells client s message start (Err why) journal =
    CommitRefused client s message start why journal × ChangedNothing client start journal
