-- What a run leaves of the branches' histories, in words of its tasks (own).
use Rattle.std.specs.Prelude.{◌≡◌, ◌≢◌, ℕ, ◌+◌, ◌<◌, ◌≤◌, ◌^◌, Bool, true}
use Rattle.std.specs.Prelude.{List, [], ◌++◌, length, Option, Some, slice_get, false}
use Rattle.ice_ids.specs.declared.Id12.{Id12}
use Rattle.ice_ids.specs.declared.drawing.AnyIds.{AnyIds}
use Rattle.ice_ids.specs.declared.drawing.Draw.{Draw}
use Rattle.ice_ids.specs.Drawing.{client_of, IsAmong, DrawsOnce}
use Rattle.zarr_tree.specs.Trees.{Tree}
use Rattle.zarr_tree.specs.Changes.{Changes, none, IsNormal}
use Rattle.repo_objects.specs.declared.bad_objects.Bad.{Bad}
use Rattle.repo_objects.specs.Readings.{ref_of}
use Rattle.object_store.specs.declared.keys.Key.{Key}
use Rattle.object_store.specs.declared.keys.Key.TheVariants.{Branch, Snapshot}
use Rattle.object_store.specs.declared.keys.Why.{Why}
use Rattle.object_store.specs.declared.keys.Why.TheVariants.{Commit}
use Rattle.object_store.specs.declared.events.Version.{Version}
use Rattle.object_store.specs.declared.events.Op.{Op}
use Rattle.object_store.specs.declared.events.Op.TheVariants.{PutOver}
use Rattle.object_store.specs.declared.events.Reply.{Reply}
use Rattle.object_store.specs.declared.events.Event.{Event}
use Rattle.object_store.specs.Machine.{Stored, found, was_done}
use Rattle.store_api.specs.Journal.{Each, puts_of, tree_of}
use Rattle.histories.specs.Repository.{Entry, last}
use Rattle.histories.specs.Calls.{history_of, IsHistory, BranchesStand}
use Rattle.histories.specs.Tags.{Stands, GoesOnAs}
use Rattle.histories.specs.TagCalls.{tag_of, TagAgrees, StandsByState}
use Rattle.histories.specs.Formats.{files_by, applied}
use Rattle.repo_objects.specs.Trees.{Puts}
use Rattle.changed_snapshot.specs.Laws.{KeepsFrozen}
use Rattle.store_api.specs.Telling.{HasOwn, WasRef}
use Rattle.repo_read.specs.declared.resolving.At.{At}
use Rattle.repo_read.specs.Naming.{WasTagged}
use Rattle.session.specs.Sessions.{SessionState, branch_of, version_of}
use Rattle.session.specs.Sessions.{base_tree, changes_in, overlay}
use Rattle.session.specs.declared.origin.Origin.TheVariants.{ReadsTag, ReadsId}
use Rattle.session.specs.Opening.{Asked, of_branch}
use Rattle.commit_path.specs.Owed.{HasChunks, IsMade}
use Rattle.reach.specs.Own.{IsOwn}
use Rattle.commit_path.specs.Opened.{IsOpened, WasBegun}
use Rattle.commit_path.specs.Single.{HasPutNone, HasPutAlike}
use Rattle.rebase.specs.Telling.{WasHidden}
use Rattle.repository.specs.Beginning.{begin_program}
use Rattle.repository.specs.Refs.{refs_program}
use Rattle.collecting.specs.Walks.{IsObject}
use Rattle.collecting.specs.Runs.{OwesCollecting}
use Rattle.history_laws.specs.Refs.{Removes}
use Rattle.expiry.specs.declared.terms.Terms.{Terms}
use Rattle.expiry.specs.Owing.{IsOwed}
use Rattle.play_expire.specs.Playing.{terms_of}
use Rattle.play_script.specs.Collections.{has_collection}
use Rattle.script_calls.specs.declared.calls.Access.{Access}
use Rattle.script_calls.specs.declared.calls.Head.TheVariants.{Session, Collect, Expire}
use Rattle.play_script.specs.declared.scripts.Line.{Line}
use Rattle.play_script.specs.declared.scripts.Task.{Task}
use Rattle.play_outcome.specs.declared.outcome.Shown.{Shown}
use Rattle.play_tasks.specs.Bases.{IsOpenAt}
use Rattle.play_tasks.specs.Playing.{asked_by, policy_of}
use Rattle.play_tasks.specs.Solving.{PlaysAll, WasLost, WasCarried, IsOfTask}
use Rattle.play_tasks.specs.Tasks.{ids_at}
use Rattle.run_histories.specs.Sources.{DrawsOthers, IsLeftUnput, IsNewSource, IsNewRun}
use Rattle.run_histories.specs.Sources.{IsOfAnother, IsUnputRun, ObjectsAreUnput, PutsUnput}
use Rattle.run_histories.specs.Runs.{IsSound, RanAlone, IsRun}

-- A commit of a session of its client's task, where the tasks began at `start`: the task's lines
-- lead to the session, carried over the commits of others as its client read them, and it may draw
-- the id; the branch is the session's, put over at the version that it had read, and the changes
-- are the session's, by what was put until then; and what was put under the id is the session's
-- snapshot, with its base as parent, the base's tree under its changes as tree, and a log of all
-- that they touch, while the chunks that it set are there.
pub record IsOfSession (draw : Draw) (tasks : List Task) (start : List Event) (changes : Changes)
    (journal : List Event) (client : ℕ) (branch : List ℕ) (old : ℕ) (id : Id12) : Type 0 where
  pub place : ℕ
  pub client_is : client ≡ place + 1
  pub task : Task
  pub at : slice_get tasks place ≡ Some task
  pub session : SessionState
  pub of_task : IsOfTask (ids_at draw place) task (place + 1) start journal session id
  pub branch_is : branch ≡ branch_of session
  pub version_is : old ≡ version_of session
  pub changes_are : changes ≡ changes_in (puts_of journal) session
  pub made : IsMade session id journal

-- where the client's operation commits a snapshot to a branch, the commit is of a session
-- of its task, with these changes
abbrev pub CommitsSession : Draw → List Task → List Event → Changes → List Event → ℕ → Op → Type 0
CommitsSession draw tasks start changes journal client op =
    (branch bytes : List ℕ) (old : Version) (id : Id12)
    → op ≡ PutOver (Branch branch) bytes old Commit → ref_of bytes ≡ Some id
    → IsOfSession draw tasks start changes journal client branch old.0 id

-- where the event is a commit, the changes at its position are those of its session
abbrev pub IsSolved : Draw → List Task → List Event → (ℕ → Changes) → List Event → Event → Type 0
IsSolved draw tasks start changes journal event =
    CommitsSession draw tasks start (changes (length journal)) journal event.client event.op

-- A commit that took effect, of a session of its client's task. It follows directly on the last
-- entry of its branch: the entry has the version that the session had read, its snapshot is the
-- session's base, and its tree is the one of the session's rows, by what was put; the commit's tree
-- is that one under exactly the session's changes, which are normal for it, so that no two nodes
-- have one id. And it is the client's own: whatever its snapshot holds, the base holds, or the
-- client put it itself since the tasks began.
pub record IsEntered (draw : Draw) (tasks : List Task) (start : List Event) (puts : Puts)
    (trees : Id12 → Option Tree) (changes : ℕ → Changes) (journal : List Event) (client : ℕ)
    (branch : List ℕ) (old : ℕ) (id : Id12) : Type 0 where
  pub of_session : IsOfSession draw tasks start (changes (length journal))
      journal client branch old id
  pub before : Entry
  pub is_last : last (history_of (files_by trees) (applied changes) journal branch) ≡ Some before
  pub version : before.version ≡ old
  pub base : before.id ≡ of_session.session.base
  pub base_is : trees before.id ≡ Some (base_tree puts of_session.session)
  pub tree : trees id ≡ Some (overlay puts of_session.session)
  pub normal : IsNormal (changes_in puts of_session.session) (base_tree puts of_session.session)
  pub own : IsOwn client of_session.session.base id start journal

-- where the event is a commit that took effect, also by a lost answer
abbrev pub CommitsEnter : Draw → List Task → List Event → Puts → (Id12 → Option Tree)
    → (ℕ → Changes) → List Event → Event → Type 0
CommitsEnter draw tasks start puts trees changes journal event =
    (branch bytes : List ℕ) (old : Version) (id : Id12) (s : Stored)
    → event.op ≡ PutOver (Branch branch) bytes old Commit → ref_of bytes ≡ Some id
    → was_done event.reply ≡ true → found journal (Branch branch) ≡ Some s → s.version ≡ old.0
    → IsEntered draw tasks start puts trees changes journal event.client branch old.0 id

-- A commit that the client made since `start` took effect, also by a lost answer: its branch stood
-- at the version that it put over.
pub record HasCommitted (client : ℕ) (start journal : List Event) : Type 0 where
  pub branch : List ℕ
  pub bytes : List ℕ
  pub old : Version
  pub reply : Reply
  pub own : HasOwn client (PutOver (Branch branch) bytes old Commit) reply start journal
  pub done : was_done reply ≡ true
  pub stored : Stored
  pub stood : found own.before (Branch branch) ≡ Some stored
  pub version_is : stored.version ≡ old.0

-- Of each client at most one commit took effect since `start`: two such ones are one event.
abbrev pub EachCommitsOnce : (start journal : List Event) → Type 0
EachCommitsOnce start journal =
    (client : ℕ) (a b : HasCommitted client start journal)
    → (a.own.before ≡ b.own.before) × (a.own.event ≡ b.own.event)

-- ---- where sessions begin
-- A branch was asked for: its history's last entry, as that was where the client got the branch,
-- has the version and the snapshot that the client read, and the session begins at that snapshot.
-- It keeps the branch and the version.
pub record BeganAtBranch (trees : Id12 → Option Tree) (changes : ℕ → Changes) (client : ℕ)
    (branch : List ℕ) (writes : Bool) (s : SessionState) (start journal : List Event) : Type 0 where
  pub version : Version
  pub read : WasRef client (Branch branch) version s.base start journal
  pub entry : Entry
  pub is_last : last (history_of (files_by trees) (applied changes) read.got.own.before branch)
      ≡ Some entry
  pub version_is : entry.version ≡ version.0
  pub base : entry.id ≡ s.base
  pub origin : s.origin ≡ of_branch writes (record { branch = branch; version = version })

-- A tag was asked for: it stood where the client got that it has no tombstone, as it was made, and
-- the session begins at its snapshot.
pub record BeganAtTag (trees : Id12 → Option Tree) (client : ℕ) (tag : List ℕ) (s : SessionState)
    (start journal : List Event) : Type 0 where
  pub read : WasTagged client tag s.base start journal
  pub entry : Entry
  pub stood : tag_of (files_by trees) read.stands.own.before tag ≡ Stands entry
  pub version_is : entry.version ≡ read.version.0
  pub base : entry.id ≡ s.base
  pub origin : s.origin ≡ ReadsTag tag

abbrev pub BeganAt : (Id12 → Option Tree) → (ℕ → Changes) → ℕ → At → (writes : Bool) → SessionState
    → (start journal : List Event) → Type 0
BeganAt trees changes client (At.Branch branch) writes s start journal =
    BeganAtBranch trees changes client branch writes s start journal
BeganAt trees changes client (At.Tag tag) writes s start journal =
    BeganAtTag trees client tag s start journal
BeganAt trees changes client (At.Snapshot id) writes s start journal =
    (s.base ≡ id) × (s.origin ≡ ReadsId)

-- The session began at what named its snapshot, as that was where the client got it,
-- and it has that snapshot's tree.
pub record BeganAtLast (puts : Puts) (trees : Id12 → Option Tree) (changes : ℕ → Changes)
    (client : ℕ) (a : Asked) (s : SessionState) (start journal : List Event) : Type 0 where
  pub began : BeganAt trees changes client a.at a.writes s start journal
  pub tree : trees s.base ≡ Some (base_tree puts s)

-- ---- where sessions are open
-- An event of the client of a task that opens a session is its first one since the tasks began, a
-- get of what the task asks for; or it comes where the client's session has a base, what the
-- client's own read of its branch named, and leases no other; or it releases a lease of its own.
abbrev pub ComesWhereOpen : Draw → List Task → (start journal : List Event) → Event → Type 0
ComesWhereOpen draw tasks start journal event =
    (place : ℕ) (task : Task) → slice_get tasks place ≡ Some task → event.client ≡ place + 1
    → IsOpenAt (ids_at draw place) task (place + 1) start journal event.op

-- ---- sessions that lines were played on
-- A session of a task of this client, which opens one: it was opened at a snapshot that the client
-- got before it put one itself, and lines of the task were played on it.
pub record WasPlayedOn (ids : AnyIds) (task : Task) (client : ℕ) (start : List Event)
    (s : SessionState) (journal : List Event) : Type 0 where
  pub access : Access
  pub head_is : task.head ≡ Session access
  pub opened : SessionState
  pub begun : WasBegun client (asked_by access ids) opened start journal
  pub early : HasPutNone client start begun.got.own.before
  pub read : IsOpened opened journal
  pub played : List Line
  pub left : List Line
  pub body : task.body ≡ played ++ left
  pub shown : List Shown
  pub plays : PlaysAll client played opened start shown s journal

-- In each such session of the tasks, which began behind the opening, the nodes that stay keep the
-- parts of their metadata that stay: so what its reads told of chunks holds.
abbrev pub AllKeepFrozen : Draw → List Task → (old new : List Event) → Type 0
AllKeepFrozen draw tasks old new =
    (start : List Event) (place : ℕ) (task : Task) (s : SessionState)
    → RanAlone begin_program old start → slice_get tasks place ≡ Some task
    → WasPlayedOn (ids_at draw place) task (place + 1) start s new → KeepsFrozen s.held s.rows

-- In each such session, and in each that such a one became when it was carried over the commits of
-- others, the changes are normal for the base's tree, by what was put, where the chunks that it set
-- are there: whether or not its commit took effect, and where it made none.
pub record AllNormal (draw : Draw) (tasks : List Task) (old new : List Event) : Type 0 where
  pub played : (start : List Event) (place : ℕ) (task : Task) (s : SessionState)
      → RanAlone begin_program old start → slice_get tasks place ≡ Some task
      → WasPlayedOn (ids_at draw place) task (place + 1) start s new
      → HasChunks (puts_of new) s.held.chunks
      → IsNormal (changes_in (puts_of new) s) (base_tree (puts_of new) s)
  pub carried : (start : List Event) (place : ℕ) (task : Task) (s t : SessionState) (count : ℕ)
      → RanAlone begin_program old start → slice_get tasks place ≡ Some task
      → (w : WasPlayedOn (ids_at draw place) task (place + 1) start s new)
      → WasCarried (place + 1) (policy_of w.access) count s t start new
      → HasPutAlike (place + 1) t start new → HasChunks (puts_of new) t.held.chunks
      → IsNormal (changes_in (puts_of new) t) (base_tree (puts_of new) t)

-- ---- sessions that are rebased
-- A session of a task of this client, on which lines of the task were played: it was carried over
-- the commits of others so often, and then its commit was lost. All snapshots that its client has
-- put are of sessions that added and dropped the same nodes.
pub record HasLost (ids : AnyIds) (task : Task) (client : ℕ) (start : List Event)
    (lost : SessionState) (since journal : List Event) : Type 0 where
  pub session : SessionState
  pub was_played : WasPlayedOn ids task client start session journal
  pub count : ℕ
  pub at_last : SessionState
  pub carried : WasCarried client (policy_of was_played.access) count session at_last start journal
  pub was_lost : WasLost client at_last lost start since
  pub alike : HasPutAlike client lost start journal

-- no rebase of such a session of the tasks, which began behind the opening, is
-- refused because a log hides a node
abbrev pub NoneHidden : Draw → List Task → (old new : List Event) → Type 0
NoneHidden draw tasks old new =
    (start since : List Event) (place : ℕ) (task : Task)
    (lost : SessionState) (key : Key) (bad : Bad)
    → RanAlone begin_program old start → slice_get tasks place ≡ Some task
    → (l : HasLost (ids_at draw place) task (place + 1) start lost since new)
    → ¬ WasHidden (place + 1) (policy_of l.was_played.access) lost key bad since new

-- ---- collections
-- Each event of the client of a task that collects is one that its collection may make, by what the
-- client's own events told it since the tasks began.
abbrev pub AllCollect : List Task → (start more : List Event) → Type 0
AllCollect tasks start more =
    (place : ℕ) (task : Task) (cutoff : ℕ) → slice_get tasks place ≡ Some task
    → task.head ≡ Collect cutoff → Each (OwesCollecting cutoff (place + 1) start) start more

-- the event is of the client of a task that collects
pub record IsOfCollection (tasks : List Task) (event : Event) : Type 0 where
  pub place : ℕ
  pub task : Task
  pub cutoff : ℕ
  pub at : slice_get tasks place ≡ Some task
  pub head_is : task.head ≡ Collect cutoff
  pub client_is : event.client ≡ place + 1

-- the event removes no object
abbrev pub KeepsObjects : List Event → Event → Type 0
KeepsObjects before event = (key : Key) → IsObject key → Removes before event key → ⊥

-- where it removes one, it is of such a client
abbrev pub RemovesCollecting : List Task → List Event → Event → Type 0
RemovesCollecting tasks before event =
    (key : Key) → IsObject key → Removes before event key → IsOfCollection tasks event

-- The opening removes no object; from the tasks' start on collections alone do, and they do
-- nothing but what collections may.
pub record HasCollections (tasks : List Task) (old start new : List Event) : Type 0 where
  pub opening : List Event
  pub start_is : start ≡ old ++ opening
  pub keeps : Each KeepsObjects old opening
  pub more : List Event
  pub is : new ≡ start ++ more
  pub collecting : AllCollect tasks start more
  pub removing : Each (RemovesCollecting tasks) start more

-- ---- expiries
-- where the event is of this client, it is one that its expiry owes, by what the
-- client's own gets read behind `start`
abbrev pub OwesExpiring : Terms → (client : ℕ) → (start before : List Event) → Event → Type 0
OwesExpiring terms client start before event =
    event.client ≡ client → IsOwed terms start before client event.op

-- Each event of the client of a task that expires is one that its expiry owes: a get, a listing, or
-- one that changes what is to be changed, by what the client's own gets read since the tasks began.
abbrev pub AllExpire : List Task → (start more : List Event) → Type 0
AllExpire tasks start more =
    (place : ℕ) (task : Task) (cutoff : ℕ) (drop_branches drop_tags : Bool)
    → slice_get tasks place ≡ Some task → task.head ≡ Expire cutoff drop_branches drop_tags
    → Each (OwesExpiring (terms_of cutoff drop_branches drop_tags) (place + 1) start) start more

-- the event is of the client of a task that expires
pub record IsOfExpiry (tasks : List Task) (event : Event) : Type 0 where
  pub place : ℕ
  pub task : Task
  pub cutoff : ℕ
  pub drop_branches : Bool
  pub drop_tags : Bool
  pub at : slice_get tasks place ≡ Some task
  pub head_is : task.head ≡ Expire cutoff drop_branches drop_tags
  pub client_is : event.client ≡ place + 1

-- the operation puts this snapshot over, done or not
pub record IsPutOver (id : Id12) (op : Op) : Type 0 where
  pub bytes : List ℕ
  pub old : Version
  pub why : Why
  pub is : op ≡ PutOver (Snapshot id) bytes old why

-- the event puts no snapshot over
abbrev pub KeepsSnapshots : List Event → Event → Type 0
KeepsSnapshots before event = (id : Id12) → IsPutOver id event.op → ⊥

-- where it puts one over, it is of such a client
abbrev pub CutsExpiring : List Task → List Event → Event → Type 0
CutsExpiring tasks before event = (id : Id12) → IsPutOver id event.op → IsOfExpiry tasks event

-- The opening puts no snapshot over; from the tasks' start on expiries alone do, so they alone cut
-- histories, and they do nothing but what expiries owe.
pub record HasExpiries (tasks : List Task) (old start new : List Event) : Type 0 where
  pub opening : List Event
  pub start_is : start ≡ old ++ opening
  pub keeps : Each KeepsSnapshots old opening
  pub more : List Event
  pub is : new ≡ start ++ more
  pub expiring : AllExpire tasks start more
  pub cutting : Each (CutsExpiring tasks) start more

-- ---- a run
-- After a run, whose tasks began at `start`: the changes for each position are those before it, and
-- for each commit that it added those of a session of its client's task; each commit that took
-- effect follows on the entry before it, and no client has two; from the tasks' start on these
-- events were played, each where its client's session is open, and then the refs were read; each
-- session that was opened began at the last entry of its branch, or at its tag as that stood, or at
-- the snapshot of its id, and keeps through its lines what stays of its nodes' metadata, and its
-- changes are normal; and no log hides a node from one that is rebased; collections alone remove
-- objects, and expiries alone put snapshots over. With these changes the journal is sound, and what
-- another source may draw is new to it where it was before, so that another run may go on (beside a
-- collection, where nothing was ever put under it); if nothing was ever put under the ids that the
-- clients may draw, each object is put under one under which nothing ever was, and so it stays of
-- what they and others may draw; the histories run over its calls, and so do the states of the
-- tags; the branches stand as their histories say, and the tags as their states do; and a tag that
-- was there before is as it was, or was dropped. Trees are by what was put in the whole journal.
pub record HasHistories (draw : Draw) (tasks : List Task) (before : ℕ → Changes)
    (old start new : List Event) : Type 0 where
  pub added : List Event
  pub is : new ≡ old ++ added
  pub began : RanAlone begin_program old start
  pub changes : ℕ → Changes
  pub same : (n : ℕ) → n < length old → changes n ≡ before n
  pub solved : Each (IsSolved draw tasks start changes) old added
  pub commits : Each (CommitsEnter draw tasks start (puts_of new) (tree_of new) changes) old added
  pub once : EachCommitsOnce old new
  pub played : List Event
  pub closed : RanAlone refs_program (start ++ played) new
  pub bases : Each (ComesWhereOpen draw tasks start) start played
  pub opened : (client : ℕ) (a : Asked) (s : SessionState) (start : List Event)
      → WasBegun client a s start new → IsOpened s new
      → BeganAtLast (puts_of new) (tree_of new) changes client a s start new
  pub frozen : AllKeepFrozen draw tasks old new
  pub normal : AllNormal draw tasks old new
  pub unhidden : NoneHidden draw tasks old new
  pub sound : IsSound new changes
  pub collections : HasCollections tasks old start new
  pub expiries : HasExpiries tasks old start new
  pub others : has_collection tasks ≡ false → (ids : AnyIds) → IsOfAnother draw tasks ids
      → IsNewSource ids old → IsNewSource ids new
  pub others_beside : (ids : AnyIds) → IsOfAnother draw tasks ids → DrawsOthers draw tasks ids
      → ObjectsAreUnput ids old → IsNewSource ids old → IsNewSource ids new
  pub unput : IsUnputRun draw tasks old → Each PutsUnput old added
  pub unput_left : IsUnputRun draw tasks old → IsLeftUnput draw tasks start new
  pub unput_others : (ids : AnyIds) → DrawsOthers draw tasks ids → ObjectsAreUnput ids old
      → ObjectsAreUnput ids new
  pub history : IsHistory (files_by (tree_of new)) (applied changes) new
  pub stand : BranchesStand (files_by (tree_of new)) (applied changes) new
  pub tags : Each (TagAgrees (files_by (tree_of new))) [] new
  pub tags_stand : (tag : List ℕ) → StandsByState (files_by (tree_of new)) new tag
  pub tags_last : (tag : List ℕ)
      → GoesOnAs (tag_of (files_by (tree_of old)) old tag) (tag_of (files_by (tree_of new)) new tag)

-- of a run that goes on a sound journal, to which its clients' ids are new
abbrev pub RunLaw : Type 0
RunLaw =
    (draw : Draw) (tasks : List Task) (before : ℕ → Changes) (old new : List Event)
    → IsSound old before → IsNewRun draw tasks old → (r : IsRun draw tasks old new)
    → HasHistories draw tasks before old r.begun new

-- of a run over an empty store, whose clients draw no id twice, as it always is where they count
abbrev pub BegunLaw : Type 0
BegunLaw =
    (draw : Draw) (tasks : List Task) (new : List Event) → DrawsOnce draw (length tasks)
    → (r : IsRun draw tasks [] new) → HasHistories draw tasks (λ n. none) [] r.begun new

-- Sources that count for other clients than a run's, which counts too, draw no node id and no
-- object id of these, nor the initial snapshot's.
abbrev pub OthersLaw : Type 0
OthersLaw =
    (tasks : List Task) (ids : AnyIds) (most : ℕ) → most < 2 ^ 32 → length tasks ≤ most
    → IsAmong Draw.Count most ids
    → ((place : ℕ) → place < length tasks → client_of ids ≢ place + 1)
    → IsOfAnother Draw.Count tasks ids × DrawsOthers Draw.Count tasks ids

-- the journal of an empty store is sound, each source is new to it, and nothing was
-- ever put under what it may draw
abbrev pub NothingLaw : Type 0
NothingLaw =
    ((changes : ℕ → Changes) → IsSound [] changes) × ((ids : AnyIds) → IsNewSource ids [])
    × ((ids : AnyIds) → ObjectsAreUnput ids [])
