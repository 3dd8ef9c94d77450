-- What is promised of a run: of the lists of its branches, of each commit, of each read, and of how
-- each task ended. In words of trees, and of the events on branches; how files are read is a
-- parameter. (Icechunk's manual, "Sessions", "Conflict resolution"; own.)
use Rattle.std.specs.Prelude.{◌≡◌, ◌⊎◌, ℕ, ◌+◌, true, List, [], ◌∷◌, ◌++◌}
use Rattle.std.specs.Prelude.{length, Option, Some, Result, Ok, slice_get}
use Rattle.ice_ids.specs.declared.Id12.{Id12}
use Rattle.zarr_tree.specs.Trees.{Tree}
use Rattle.zarr_tree.specs.Changes.{Changes, apply}
use Rattle.object_store.specs.declared.keys.Key.TheVariants.{Branch, Tombstone}
use Rattle.object_store.specs.declared.keys.Why.TheVariants.{Commit}
use Rattle.object_store.specs.declared.events.Op.TheVariants.{Get, PutOver}
use Rattle.object_store.specs.declared.events.Event.{Event}
use Rattle.object_store.specs.Machine.{Stored, found, was_done, version_at}
use Rattle.store_api.specs.declared.machines.Refusal.{Refusal}
use Rattle.store_api.specs.Journal.{Each}
use Rattle.repo_read.specs.declared.resolving.At.{At}
use Rattle.histories.specs.Repository.{Entry, last}
use Rattle.histories.specs.Files.{Files}
use Rattle.histories.specs.Formats.{applied}
use Rattle.histories.specs.Calls.{history_of, IsHistory, BranchesStand}
use Rattle.histories.specs.Tags.{Stands}
use Rattle.histories.specs.TagCalls.{tag_of, TagAgrees, StandsByState}
use Rattle.script_calls.specs.declared.calls.Access.{Access}
use Rattle.script_calls.specs.declared.calls.Access.TheVariants.{Write, Read}
use Rattle.script_calls.specs.declared.calls.Call.TheVariants.{Commit as Commit_line}
use Rattle.script_calls.specs.declared.calls.Call.TheVariants.{Lease as Lease_line}
use Rattle.script_calls.specs.declared.calls.Head.TheVariants.{Session}
use Rattle.play_script.specs.declared.scripts.Line.{Line}
use Rattle.play_script.specs.declared.scripts.Task.{Task}
use Rattle.play_outcome.specs.declared.outcome.Shown.{Shown}
use Rattle.play_outcome.specs.declared.outcome.Shown.TheVariants.{Lease as Shown_lease}
use Rattle.play_outcome.specs.declared.outcome.End.{End}
use Rattle.play_outcome.specs.declared.outcome.End.TheVariants.{Committed, Collected, Done, Refused}
use Rattle.play_outcome.specs.declared.outcome.End.TheVariants.{Stopped, InDoubt, Expired, Checked}
use Rattle.play_outcome.specs.declared.outcome.Outcome.{Outcome}
use Rattle.play_outcome.specs.declared.outcome.RefLine.{RefLine}
use Rattle.play_tasks.specs.Playing.{policy_of}
use Rattle.play_course.specs.Leaving.{TellsEnds}
use Rattle.play_course.specs.Lines.{DoesAll}
use Rattle.play_course.specs.Ways.{Carried}

-- ---- where a session begins
-- what a task's head asks for
abbrev pub at_of : Access → At
at_of (Write branch tries policy) = At.Branch branch
at_of (Read at) = at

-- The client's own get of a branch, since the tasks began: the list of the branch
-- ended then with this snapshot.
pub record FoundBranch (files : Files) (changes : ℕ → Changes) (client : ℕ) (branch : List ℕ)
    (base : Id12) (start journal : List Event) : Type 0 where
  pub before : List Event
  pub event : Event
  pub after : List Event
  pub is : journal ≡ before ++ event ∷ after
  pub since : List Event
  pub before_is : before ≡ start ++ since
  pub own : event.client ≡ client
  pub get : event.op ≡ Get (Branch branch)
  pub entry : Entry
  pub is_last : last (history_of files (applied changes) before branch) ≡ Some entry
  pub names : entry.id ≡ base

-- The client's own get of a tag's tombstone: the tag stood then, as it was made with this snapshot.
pub record FoundTag (files : Files) (client : ℕ) (tag : List ℕ) (base : Id12)
    (start journal : List Event) : Type 0 where
  pub before : List Event
  pub event : Event
  pub after : List Event
  pub is : journal ≡ before ++ event ∷ after
  pub since : List Event
  pub before_is : before ≡ start ++ since
  pub own : event.client ≡ client
  pub get : event.op ≡ Get (Tombstone tag)
  pub entry : Entry
  pub stood : tag_of files before tag ≡ Stands entry
  pub names : entry.id ≡ base

-- the snapshot at which a session begins is what the branch or the tag named when its client asked,
-- or the one that was asked for by its id
abbrev pub Began : Files → (ℕ → Changes) → ℕ → At → Id12 → (start journal : List Event) → Type 0
Began files changes client (At.Branch branch) base start journal =
    FoundBranch files changes client branch base start journal
Began files changes client (At.Tag tag) base start journal =
    FoundTag files client tag base start journal
Began files changes client (At.Snapshot id) base start journal = base ≡ id

-- ---- sessions
-- A session of a task of this client: it began at what the task's head asks for, and the first
-- lines of the task's body were played on it, one after another. They showed this, and left its
-- tree so: the base's under the session's own changes.
pub record IsSession (files : Files) (changes : ℕ → Changes) (task : Task) (access : Access)
    (client : ℕ) (start journal : List Event) (played : List Line) (shown : List Shown)
    (base : Id12) (own : Changes) : Type 0 where
  pub head_is : task.head ≡ Session access
  pub began : Began files changes client (at_of access) base start journal
  pub tree : Tree
  pub has : files.tree base ≡ Some tree
  pub plays : DoesAll played tree shown (apply own tree)

-- ---- reads
-- The line at which a session ended was a lease, which may stand, and is shown.
pub record LeasedAtLast (left : List Line) (last : List Shown) : Type 0 where
  pub line : Line
  pub behind : List Line
  pub left_is : left ≡ line ∷ behind
  pub leases : line.call ≡ Lease_line
  pub id : Id12
  pub why : Option Refusal
  pub shows : last ≡ Shown_lease line.number id why ∷ []

-- the line at which a session ended, the first that is left, shows nothing, but for a lease
abbrev pub EndsShowing : List Line → List Shown → Type 0
EndsShowing left last = (last ≡ []) ⊎ LeasedAtLast left last

-- The task ends by this line: it commits, and the task tells that; or the task was refused there.
abbrev pub EndsBy : Line → End → Type 0
EndsBy l (Committed id) = (message : List ℕ) × (l.call ≡ Commit_line message)
EndsBy l (InDoubt id how) = (message : List ℕ) × (l.call ≡ Commit_line message)
EndsBy l (Refused line why) = line ≡ l.number
EndsBy l Done = ⊥
EndsBy l (Collected removed) = ⊥
EndsBy l (Stopped line why removed) = ⊥
EndsBy l (Expired line cases result) = ⊥
EndsBy l (Checked line faults result) = ⊥

-- how a task ends of whose body these lines are left: it is done where there is none,
-- else it ends by the first of them
abbrev pub EndsWith : (left : List Line) → End → Type 0
EndsWith [] end = end ≡ Done
EndsWith (l ∷ ls) end = EndsBy l end

-- A session of the task showed what the first lines of the task's body show on it, and what the
-- line showed at which it ended. So it is done only where all lines were played.
pub record ShowsLines (files : Files) (changes : ℕ → Changes) (task : Task) (access : Access)
    (client : ℕ) (start journal : List Event) (outcome : Outcome) : Type 0 where
  pub played : List Line
  pub left : List Line
  pub body_is : task.body ≡ played ++ left
  pub first : List Shown
  pub last : List Shown
  pub shown_is : outcome.shown ≡ first ++ last
  pub base : Id12
  pub own : Changes
  pub session : IsSession files changes task access client start journal played first base own
  pub at_last : EndsShowing left last
  pub ends : EndsWith left outcome.end

-- The task's session wasn't opened: nothing was shown, and the task was refused at its own line.
pub record WasUnopened (task : Task) (outcome : Outcome) : Type 0 where
  pub shown_is : outcome.shown ≡ []
  pub why : Refusal
  pub end_is : outcome.end ≡ Refused task.line why

-- A task that opens a session was refused, as its session wasn't opened; or it showed what the
-- lines of its body show on its session, up to where it ended.
abbrev pub ShowsRight : Files → (ℕ → Changes) → Task → Access → ℕ → List Event
    → List Event → Outcome → Type 0
ShowsRight files changes task access client start journal outcome =
    WasUnopened task outcome ⊎ ShowsLines files changes task access client start journal outcome

-- ---- commits
-- The event, behind this journal, is a commit that took effect, also where its answer was lost: a
-- put of the branch over this version, with a reference to this snapshot.
pub record TakesEffect (files : Files) (journal : List Event) (event : Event) (branch : List ℕ)
    (old : ℕ) (id : Id12) : Type 0 where
  pub bytes : List ℕ
  pub op_is : event.op ≡ PutOver (Branch branch) bytes (version_at old) Commit
  pub names : files.ref bytes ≡ Some id
  pub done : was_done event.reply ≡ true
  pub stored : Stored
  pub stands : found journal (Branch branch) ≡ Some stored
  pub version : stored.version ≡ old

-- Such an event is of a session of its client's task, up to a line that commits it. Its changes
-- were carried over the commits of others, from its base to the last entry of the branch; the entry
-- that it makes has the tree of that one under what is left of them, and of nothing else.
pub record IsCommit (files : Files) (changes : ℕ → Changes) (tasks : List Task)
    (start whole journal : List Event) (event : Event) (branch : List ℕ) (old : ℕ)
    (id : Id12) : Type 0 where
  pub place : ℕ
  pub client_is : event.client ≡ place + 1
  pub task : Task
  pub at : slice_get tasks place ≡ Some task
  pub access : Access
  pub played : List Line
  pub line : Line
  pub left : List Line
  pub body_is : task.body ≡ played ++ line ∷ left
  pub message : List ℕ
  pub commits : line.call ≡ Commit_line message
  pub shown : List Shown
  pub base : Id12
  pub own : Changes
  pub session : IsSession files changes task access event.client start whole played shown base own
  pub before : Entry
  pub is_last : last (history_of files (applied changes) journal branch) ≡ Some before
  pub version_is : before.version ≡ old
  pub solved : Changes
  pub carried : Carried files.tree (policy_of access) base own before.id solved
  pub under : Tree
  pub has : files.tree before.id ≡ Some under
  pub tree : files.tree id ≡ Some (apply solved under)
  pub given : changes (length journal) ≡ solved

-- ---- ends
-- the client has such an event since the tasks began
pub record HasCommitOf (files : Files) (client : ℕ) (id : Id12)
    (start journal : List Event) : Type 0 where
  pub before : List Event
  pub event : Event
  pub after : List Event
  pub is : journal ≡ before ++ event ∷ after
  pub since : List Event
  pub before_is : before ≡ start ++ since
  pub own : event.client ≡ client
  pub branch : List ℕ
  pub old : ℕ
  pub takes_effect : TakesEffect files before event branch old id

-- A task that tells a commit made it, and one that is in doubt made the commit of that snapshot, or
-- none; any other made none. No task of a session tells a collection, an expiry or a check.
abbrev pub EndsRight : Files → ℕ → End → (start journal : List Event) → Type 0
EndsRight files client (Committed id) start journal = HasCommitOf files client id start journal
EndsRight files client (Collected removed) start journal = ⊥
EndsRight files client Done start journal =
    (id : Id12) → ¬ HasCommitOf files client id start journal
EndsRight files client (Refused line why) start journal =
    (id : Id12) → ¬ HasCommitOf files client id start journal
EndsRight files client (Stopped line why removed) start journal = ⊥
EndsRight files client (InDoubt id how) start journal =
    (other : Id12) → HasCommitOf files client other start journal → other ≡ id
EndsRight files client (Expired line cases result) start journal = ⊥
EndsRight files client (Checked line faults result) start journal = ⊥

-- ---- the promise
-- Of a run over a journal that was old, whose tasks began at start and ended with these outcomes,
-- nobody else acting; `changes` are those of the commit at each position.
pub record Fulfils (files : Files) (tasks : List Task) (outcomes : List Outcome)
    (refs : Result (List RefLine) Refusal) (changes : ℕ → Changes)
    (old start journal : List Event) : Type 0 where
  -- the tasks began in the run, behind the opening, by which no commit took effect
  pub opening : List Event
  pub start_is : start ≡ old ++ opening
  pub uncommitted : (client : ℕ) (id : Id12) → ¬ HasCommitOf files client id old start
  -- each branch's updates form one list: each call on it got the answer of the list, each entry has
  -- its snapshot's tree, and each commit the tree of the entry before it under the commit's
  -- changes; and at the end the branches stand so
  pub lists : IsHistory files (applied changes) journal
  pub stand : BranchesStand files (applied changes) journal
  -- each commit of the run that took effect is its session's solved changes on the entry before it
  pub commits : (since rest : List Event) (event : Event)
      (branch : List ℕ) (version : ℕ) (id : Id12)
      → journal ≡ (old ++ since) ++ event ∷ rest
      → TakesEffect files (old ++ since) event branch version id
      → IsCommit files changes tasks start journal (old ++ since) event branch version id
  -- each read sees its session's base under its own changes, and each task ends where its lines
  -- do, or at the one that is told
  pub reads : (place : ℕ) (task : Task) (outcome : Outcome) (access : Access)
      → slice_get tasks place ≡ Some task → slice_get outcomes place ≡ Some outcome
      → task.head ≡ Session access
      → ShowsRight files changes task access (place + 1) start journal outcome
  -- each client commits at most once: two commits of it that took effect are one event
  pub once : (client : ℕ) (id other : Id12) (a : HasCommitOf files client id old journal)
      (b : HasCommitOf files client other old journal)
      → (a.before ≡ b.before) × (a.event ≡ b.event)
  -- and each task ends as it tells
  pub ends : (place : ℕ) (task : Task) (outcome : Outcome) (access : Access)
      → slice_get tasks place ≡ Some task → slice_get outcomes place ≡ Some outcome
      → task.head ≡ Session access → EndsRight files (place + 1) outcome.end start journal
  -- each tag stands as it was made, or was dropped, and each call on it got the answer of its state
  pub tags : (tag : List ℕ) → StandsByState files journal tag
  pub tag_calls : Each (TagAgrees files) [] journal
  -- and the refs that are told are the ends of the branches' lists and the tags that stand
  pub told : (lines : List RefLine) → refs ≡ Ok lines → TellsEnds files changes journal lines
