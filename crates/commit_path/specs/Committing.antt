-- The program of a commit: it writes a manifest for each array whose chunks changed, then puts the
-- log, then the snapshot, then the branch over the version that the session had read. (Icechunk
-- specification version 1, "Write New Snapshot"; which manifests are written is own.)
use Rattle.std.specs.Prelude.{◌≡◌, ◌⊎◌, ℕ, ◌+◌, ◌*◌, ◌^◌, nat_lt, if◌then◌else◌, Bool, false, List}
use Rattle.std.specs.Prelude.{[], ◌∷◌, ◌++◌, length, drop, Option, Some, None, Result, Ok, Err}
use Rattle.ice_ids.specs.declared.Id12.{Id12}
use Rattle.ice_ids.specs.declared.drawing.AnyIds.{AnyIds}
use Rattle.ice_ids.specs.Drawing.{drawn12, after12}
use Rattle.zarr_tree.specs.Held.{HeldEntry, touched}
use Rattle.zarr_tree.specs.Touched.{is_untouched}
use Rattle.zarr_changes.specs.declared.chunks.ChangedArray.{ChangedArray}
use Rattle.zarr_changes.specs.Sets.{chunks_of, changed_arrays}
use Rattle.flat_tables.specs.declared.header.Kind.TheVariants as kinds
use Rattle.flat_tables.specs.File.{file_limit}
use Rattle.manifest_file.specs.declared.manifest.Place.{Place}
use Rattle.manifest_file.specs.declared.manifest.ArrayRefs.{ArrayRefs}
use Rattle.manifest_file.specs.declared.manifest.ManifestFile.{ManifestFile}
use Rattle.manifest_file.specs.Manifests.{refs_limit}
use Rattle.manifest_file.specs.Layout.{file_bytes}
use Rattle.held_manifest.specs.LookUp.{Listed}
use Rattle.manifest_index.specs.Merging.{merged_array}
use Rattle.manifest_index.specs.Extents.{extents_for}
use Rattle.snapshot_file.specs.declared.nodes.ManifestRef.{ManifestRef}
use Rattle.snapshot_file.specs.declared.nodes.NodeRow.{NodeRow}
use Rattle.snapshot_file.specs.declared.snapshot.SnapshotFile.{SnapshotFile}
use Rattle.snapshot_file.specs.Layout.{snapshot_bytes}
use Rattle.txn_file.specs.declared.log.TxnFile.{TxnFile}
use Rattle.txn_file.specs.Layout.{log_file}
use Rattle.ref_file.specs.Refs.{ref_bytes}
use Rattle.changed_snapshot.specs.declared.new_snapshot.NewManifest.{NewManifest}
use Rattle.changed_snapshot.specs.declared.new_snapshot.NewList.{NewList}
use Rattle.changed_snapshot.specs.Rows.{own_manifests, snapshot_over}
use Rattle.object_store.specs.declared.keys.Key.TheVariants.{Snapshot as Snapshot_key}
use Rattle.object_store.specs.declared.keys.Key.TheVariants.{Manifest as Manifest_key}
use Rattle.object_store.specs.declared.keys.Key.TheVariants.{Txn, Branch as Branch_key}
use Rattle.object_store.specs.declared.keys.Why.TheVariants.{Set, Commit as For_commit}
use Rattle.object_store.specs.declared.events.Op.TheVariants.{PutNew, PutOver}
use Rattle.object_store.specs.declared.events.New.TheVariants.{Done as New_done, Present}
use Rattle.object_store.specs.declared.events.Over.TheVariants.{Done as Over_done, Moved}
use Rattle.object_store.specs.declared.events.Reply.{Reply}
use Rattle.object_store.specs.declared.events.Reply.TheVariants.{New as Is_new}
use Rattle.object_store.specs.declared.events.Reply.TheVariants.{Over as Is_over, Failed}
use Rattle.store_api.specs.declared.machines.Next.{Next}
use Rattle.store_api.specs.declared.machines.Next.TheVariants.{Again, Ready}
use Rattle.store_api.specs.declared.machines.Refusal.{Refusal}
use Rattle.store_api.specs.declared.machines.Refusal.TheVariants.{ReadOnly, NothingToCommit}
use Rattle.store_api.specs.declared.machines.Refusal.TheVariants.{IdsSpent, TooLarge}
use Rattle.store_api.specs.declared.machines.Refusal.TheVariants.{Missing, BadFile, IdTaken}
use Rattle.store_api.specs.declared.machines.Refusal.TheVariants.{StoreFault, InDoubt, NoMemory}
use Rattle.object_store.specs.Machine.{version_at}
use Rattle.store_api.specs.Program.{Done, Ask, IsAsk, is_no_memory}
use Rattle.store_api.specs.Running.{Program, ◌>>=◌}
use Rattle.repo_read.specs.Programs.{manifest_program}
use Rattle.session.specs.Sessions.{SessionState, branch_of, version_of, writes, base_nodes}
use Rattle.session.specs.Sources.{IsLater}
use Rattle.commit_path.specs.declared.commit.Tried.{Tried}
use Rattle.commit_path.specs.declared.commit.Tried.TheVariants.{Done as Was_done, Lost}
use Rattle.commit_path.specs.declared.commit.Commit.{Commit}
use Rattle.commit_path.specs.declared.committing.Committing.{Committing}
use Rattle.commit_path.specs.declared.committing.Committing.TheVariants.{Old, New, Log}
use Rattle.commit_path.specs.declared.committing.Committing.TheVariants.{Snapshot, Branch, Ended}

abbrev pub Answer : Type 0
Answer = Program Tried

-- whether a file is longer than a file may be
abbrev pub is_long : List ℕ → Bool
is_long file = nat_lt file_limit (length file)

-- ---- manifests
-- what is written so far: the new lists of the arrays before, and the ids to draw from then on
pub record Written : Type 0 where
  pub news : List NewList
  pub ids : AnyIds

-- the manifest of one array
abbrev pub manifest_for : Id12 → ArrayRefs → ManifestFile
manifest_for id array = record { id = id; arrays = array ∷ [] }

-- the array has this new list
abbrev pub with_list : Written → ChangedArray → Option NewManifest → Written
with_list w a manifest =
    record w { news = w.news ++ record { path = a.path; manifest = manifest } ∷ [] }

-- what a list says of the manifest of one array
abbrev pub new_manifest : Id12 → (rank : ℕ) → ArrayRefs → NewManifest
new_manifest id rank array = record {
  id = id;
  extents = extents_for rank array.refs;
  size = length (file_bytes (manifest_for id array));
  refs = length array.refs;
}

-- a manifest that is written under an id that was drawn
abbrev pub with_manifest : Written → ChangedArray → ArrayRefs → Id12 → Written
with_manifest w a array id =
    with_list (record w { ids = after12 w.ids }) a (Some (new_manifest id a.rank array))

abbrev pub after_manifest : Written → Id12 → Reply → Program Written
after_manifest w id (Is_new (New_done version now)) = Done (Ok w)
after_manifest w id (Is_new (Present version now)) = Done (Err (IdTaken (Manifest_key id)))
after_manifest w id _ = Done (Err StoreFault)

-- a manifest is put under the next id drawn, unless its file is too long
abbrev pub put_manifest : Written → ChangedArray → ArrayRefs → Option Id12 → Program Written
put_manifest w a array None = Done (Err IdsSpent)
put_manifest w a array (Some id) =
    if is_long (file_bytes (manifest_for id array)) then Done (Err (TooLarge kinds.Manifest)) else
    Ask (PutNew (Manifest_key id) (file_bytes (manifest_for id array)) Set)
    (after_manifest (with_manifest w a array id) id)

-- an array's chunks are written, if there are any, unless they are too many
abbrev pub write_array : Written → ChangedArray → Option ArrayRefs → Program Written
write_array w a None = Done (Ok (with_list w a None))
write_array w a (Some array) =
    if nat_lt refs_limit (length array.refs) then Done (Err (TooLarge kinds.Manifest))
    else put_manifest w a array (drawn12 w.ids)

-- the manifests of a list are got one after another, each with its extents
unfoldable pub old_program : List ManifestRef → List Listed → Program (List Listed)
old_program [] seen = Done (Ok seen)
old_program (m ∷ more) seen =
    manifest_program m.id >>= λ file. old_program more (seen ++ (m.extents, file) ∷ [])

-- an array's chunks after its entries: those that its old manifests have, and those that were set
abbrev pub array_program : List NodeRow → List (HeldEntry Place) → Written → ChangedArray
    → Program Written
array_program rows entries w a =
    old_program (own_manifests rows a.path a.node) []
    >>= λ old. write_array w a (merged_array a.rank a.node old (chunks_of entries a.node))

-- the arrays in the order of their paths
unfoldable pub arrays_program : List NodeRow → List (HeldEntry Place) → List ChangedArray → Written
    → Program Written
arrays_program rows entries [] w = Done (Ok w)
arrays_program rows entries (a ∷ more) w =
    array_program rows entries w a >>= arrays_program rows entries more

-- ---- log, snapshot, branch
-- the log of a commit: what the session's changes touch of its base
abbrev pub log_for : SessionState → Id12 → TxnFile
log_for s id = record { id = id; lists = touched s.held (base_nodes s) }

-- the snapshot of a commit: the base is its parent, its rows are the base's under the session's
-- changes and the new lists, and it has the session's properties
abbrev pub snap_for : SessionState → (message : List ℕ) → List NewList → Id12
    → (flushed : ℕ) → SnapshotFile
snap_for s message news id flushed =
    snapshot_over s.held news s.rows s.files
    (record { id = id; parent = s.base; flushed_at = flushed }) message s.props

-- what was put over is the commit; or the branch had moved on, and these ids are the next to draw
abbrev pub after_branch : SessionState → Id12 → (next : AnyIds) → Reply → Answer
after_branch s id next (Is_over (Over_done version now)) =
    Done (Ok (Was_done (record { id = id; version = version })))
after_branch s id next (Is_over (Moved found now)) =
    Done (Ok (Lost (version_at (version_of s)) found next))
after_branch s id next (Failed done) = Done (Err (InDoubt id))
after_branch s id next _ = Done (Err StoreFault)

-- the put over of the branch at the version that was read
abbrev pub put_branch : SessionState → Id12 → (next : AnyIds) → Answer
put_branch s id next =
    Ask (PutOver (Branch_key (branch_of s)) (ref_bytes id) (version_at (version_of s)) For_commit)
    (after_branch s id next)

abbrev pub after_snapshot : SessionState → Id12 → (next : AnyIds) → Reply → Answer
after_snapshot s id next (Is_new (New_done version now)) = put_branch s id next
after_snapshot s id next (Is_new (Present version now)) = Done (Err (IdTaken (Snapshot_key id)))
after_snapshot s id next _ = Done (Err StoreFault)

-- a snapshot's file is put, unless it is too long
abbrev pub put_snapshot : SessionState → Id12 → (next : AnyIds) → (file : List ℕ) → Answer
put_snapshot s id next file =
    if is_long file then Done (Err (TooLarge kinds.Snapshot))
    else Ask (PutNew (Snapshot_key id) file Set) (after_snapshot s id next)

-- the snapshot is flushed at the time that the log's put told
abbrev pub after_log : SessionState → (message : List ℕ) → List NewList → Id12
    → (next : AnyIds) → Reply → Answer
after_log s message news id next (Is_new (New_done version now)) =
    put_snapshot s id next (snapshot_bytes (snap_for s message news id now))
after_log s message news id next (Is_new (Present version now)) = Done (Err (IdTaken (Txn id)))
after_log s message news id next _ = Done (Err StoreFault)

-- the log is put under the next id drawn, which is the snapshot's, unless its file is too long
abbrev pub put_log : SessionState → (message : List ℕ) → List NewList → Option Id12
    → (next : AnyIds) → Answer
put_log s message news None next = Done (Err IdsSpent)
put_log s message news (Some id) next =
    if is_long (log_file (log_for s id)) then Done (Err (TooLarge kinds.Log))
    else Ask (PutNew (Txn id) (log_file (log_for s id)) Set) (after_log s message news id next)

abbrev pub after_arrays : SessionState → (message : List ℕ) → Written → Answer
after_arrays s message w = put_log s message w.news (drawn12 w.ids) (after12 w.ids)

-- ---- the commit
-- nothing is written yet
abbrev pub unwritten : SessionState → Written
unwritten s = record { news = []; ids = s.ids }

abbrev pub write_all : SessionState → (message : List ℕ) → Answer
write_all s message =
    arrays_program s.rows s.held.chunks (changed_arrays s.held (base_nodes s)) (unwritten s)
    >>= after_arrays s message

-- ReadOnly and NothingToCommit come before
unfoldable pub commit_program : SessionState → (message : List ℕ) → Answer
commit_program s message =
    if writes s
    then (if is_untouched (touched s.held (base_nodes s)) then Done (Err NothingToCommit)
    else write_all s message)
    else Done (Err ReadOnly)

-- ---- the machine
-- what is left of an array, where these manifests were got and these
-- weren't; and the arrays behind it
abbrev pub array_behind : SessionState → (message : List ℕ) → Written → ChangedArray
    → List ChangedArray → (got : List Listed) → (left : List ManifestRef) → Answer
array_behind s message w a more got left =
    ((old_program left got
    >>= λ old. write_array w a (merged_array a.rank a.node old (chunks_of s.held.chunks a.node)))
    >>= arrays_program s.rows s.held.chunks more)
    >>= after_arrays s message

-- the manifests of an array behind so many
abbrev pub manifests_behind : List NodeRow → ChangedArray → ℕ → List ManifestRef
manifests_behind rows a count = drop count (own_manifests rows a.path a.node)

-- what is left of the arrays, where these manifests of the first one were got
abbrev pub arrays_behind : SessionState → (message : List ℕ) → Written → List ChangedArray
    → (got : List Listed) → Answer
arrays_behind s message w [] got = after_arrays s message w
arrays_behind s message w (a ∷ more) got =
    array_behind s message w a more got (manifests_behind s.rows a (length got))

-- this manifest of the first array is got
abbrev pub old_rest : SessionState → (message : List ℕ) → Written → List ChangedArray → ManifestRef
    → (got : List Listed) → Answer
old_rest s message w arrays m got =
    manifest_program m.id
    >>= λ file. arrays_behind s message w arrays (got ++ (m.extents, file) ∷ [])

-- the first array has this list
abbrev pub with_first : Written → List ChangedArray → Option NewManifest → Written
with_first w [] manifest = w
with_first w (a ∷ more) manifest = with_list w a manifest

-- what follows the put of the new manifest of the first array
abbrev pub new_behind : SessionState → (message : List ℕ) → Written → List ChangedArray
    → NewManifest → Reply → Answer
new_behind s message w arrays manifest reply =
    (after_manifest (with_first w arrays (Some manifest)) manifest.id reply
    >>= arrays_program s.rows s.held.chunks (drop 1 arrays))
    >>= after_arrays s message

abbrev pub committing_rest : SessionState → (message : List ℕ) → Written
    → List ChangedArray → Committing → Answer
committing_rest s message w arrays (Old m got) = old_rest s message w arrays m got.items
committing_rest s message w arrays (New manifest file) =
    Ask (PutNew (Manifest_key manifest.id) file Set) (new_behind s message w arrays manifest)
committing_rest s message w arrays (Log id file) =
    Ask (PutNew (Txn id) file Set) (after_log s message w.news id w.ids)
committing_rest s message w arrays (Snapshot id file) =
    Ask (PutNew (Snapshot_key id) file Set) (after_snapshot s id w.ids)
committing_rest s message w arrays (Branch id file) =
    Ask (PutOver (Branch_key (branch_of s)) file (version_at (version_of s)) For_commit)
    (after_branch s id w.ids)
committing_rest s message w arrays Ended = Done (Err NoMemory)

-- the session and the message in the machine
abbrev pub session_in : Commit → SessionState
session_in c = c.session

abbrev pub message_in : Commit → List ℕ
message_in c = c.message

-- what is written so far
abbrev pub written_in : Commit → Written
written_in c = record { news = c.arrays.news; ids = c.session.ids }

-- what is still to be done
abbrev pub commit_rest : Commit → Answer
commit_rest c = committing_rest c.session c.message (written_in c) c.arrays.left c.state

-- the session is as it was, but for ids that were drawn
pub record IsDrawn (old new : SessionState) : Type 0 where
  pub same : new ≡ record old { ids = new.ids }
  pub later : IsLater old.ids new.ids

-- Of an operation that comes next an id was drawn for the object that it puts: for a new manifest,
-- or for the log and the snapshot.
abbrev pub ids_for : Committing → AnyIds → AnyIds
ids_for (New manifest file) ids = after12 ids
ids_for (Log id file) ids = after12 ids
ids_for _ ids = ids

-- what was drawn on the way to the next operation: where nothing comes next, one id at most
abbrev pub DrewOwn : {A : Type 0} → Result A Refusal → Committing → (old new : AnyIds) → Type 0
DrewOwn (Ok answer) next old new = new ≡ ids_for next old
DrewOwn (Err why) next old new = (new ≡ old) ⊎ (new ≡ after12 old)

-- What a step drew: one id for the object that is put next, and none where the commit is done, was
-- lost, or is refused by what the store answered. Where there is no id, a file would be too long,
-- or memory is wanting, one was drawn at most, for an object that isn't put.
abbrev pub DrewFor : Result (Next Tried) Refusal → Committing → (old new : AnyIds) → Type 0
DrewFor (Ok Again) next old new = new ≡ ids_for next old
DrewFor (Ok (Ready answer)) next old new = new ≡ old
DrewFor (Err IdsSpent) next old new = (new ≡ old) ⊎ (new ≡ after12 old)
DrewFor (Err (TooLarge kind)) next old new = (new ≡ old) ⊎ (new ≡ after12 old)
DrewFor (Err NoMemory) next old new = (new ≡ old) ⊎ (new ≡ after12 old)
DrewFor (Err why) next old new = new ≡ old

-- where the branch had moved on, the ids to draw next are those of the session
abbrev pub IsLeft : Result (Next Tried) Refusal → SessionState → Type 0
IsLeft (Ok (Ready (Lost old found next))) s = s.ids ≡ next
IsLeft _ s = Unit {0}

-- the machine's own commit begins, or the session comes back
abbrev pub CommitStarts : SessionState → (message : List ℕ)
    → Result Commit (SessionState × Refusal) → Type 0
CommitStarts s message (Ok c) =
    (commit_rest c ≡ commit_program s message) × IsAsk (commit_rest c) × IsDrawn s (session_in c)
    × (c.session.ids ≡ ids_for c.state s.ids)
CommitStarts s message (Err refused) =
    IsDrawn s refused.0
    × (is_no_memory refused.1 ≡ false → commit_program s message ≡ Done (Err refused.1))

-- how many steps are left at most: an array has fewer than 2^64 manifests
abbrev pub manifests_left : List NodeRow → List ChangedArray → (got : ℕ) → ℕ
manifests_left rows [] got = 0
manifests_left rows (a ∷ more) got = length (manifests_behind rows a got)

abbrev pub committing_left : List NodeRow → List ChangedArray → Committing → ℕ
committing_left rows arrays (Old m got) = manifests_left rows arrays (length got.items + 1) + 5
committing_left rows arrays (New manifest file) = 4
committing_left rows arrays (Log id file) = 3
committing_left rows arrays (Snapshot id file) = 2
committing_left rows arrays (Branch id file) = 1
committing_left rows arrays Ended = 0

abbrev pub commit_left : Commit → ℕ
commit_left c = length c.arrays.left * 2 ^ 65 + committing_left c.session.rows c.arrays.left c.state

-- the refusals of a commit's start
abbrev pub MayRefuseStart : Refusal → Type 0
MayRefuseStart ReadOnly = Unit {0}
MayRefuseStart NothingToCommit = Unit {0}
MayRefuseStart IdsSpent = Unit {0}
MayRefuseStart (TooLarge kind) = Unit {0}
MayRefuseStart NoMemory = Unit {0}
MayRefuseStart _ = ⊥

-- the refusals of a commit
abbrev pub MayRefuseCommit : Refusal → Type 0
MayRefuseCommit IdsSpent = Unit {0}
MayRefuseCommit (Missing key) = Unit {0}
MayRefuseCommit (BadFile key bad) = Unit {0}
MayRefuseCommit (IdTaken key) = Unit {0}
MayRefuseCommit (TooLarge kind) = Unit {0}
MayRefuseCommit StoreFault = Unit {0}
MayRefuseCommit (InDoubt snapshot) = Unit {0}
MayRefuseCommit NoMemory = Unit {0}
MayRefuseCommit _ = ⊥
