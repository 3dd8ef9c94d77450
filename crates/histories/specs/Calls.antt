-- The ref calls of a journal, and what the histories of branches say of them.
use Rattle.std.specs.Prelude.{◌≡◌, ◌⊎◌, ℕ, ◌+◌, if◌then◌else◌, Bool, true, false, cond}
use Rattle.std.specs.Prelude.{List, [], ◌∷◌, length, Option, Some, None, option_map}
use Rattle.ice_ids.specs.declared.Id12.{Id12}
use Rattle.zarr_tree.specs.Trees.{Tree}
use Rattle.object_store.specs.declared.keys.Key.TheVariants.{Branch}
use Rattle.object_store.specs.declared.keys.Why.{Why}
use Rattle.object_store.specs.declared.keys.Why.TheVariants as For
use Rattle.object_store.specs.declared.keys.Why.TheVariants.{Commit as For_commit}
use Rattle.object_store.specs.declared.events.Version.{Version}
use Rattle.object_store.specs.declared.events.Op.{Op}
use Rattle.object_store.specs.declared.events.Op.TheVariants.{Get, PutNew, PutOver, Remove}
use Rattle.object_store.specs.declared.events.Op.TheVariants.{RemoveAt, List as ListPart}
use Rattle.object_store.specs.declared.events.Got.TheVariants.{Found, Absent}
use Rattle.object_store.specs.declared.events.New.TheVariants.{Done as New_done, Present}
use Rattle.object_store.specs.declared.events.Over.TheVariants.{Done as Over_done}
use Rattle.object_store.specs.declared.events.Over.TheVariants.{Moved as Over_moved}
use Rattle.object_store.specs.declared.events.GoneAt.TheVariants.{Done as Gone_at_done}
use Rattle.object_store.specs.declared.events.GoneAt.TheVariants.{Moved as Gone_at_moved}
use Rattle.object_store.specs.declared.events.Reply.{Reply}
use Rattle.object_store.specs.declared.events.Reply.TheVariants.{Got as Is_got, New as Is_new}
use Rattle.object_store.specs.declared.events.Reply.TheVariants.{Over as Is_over}
use Rattle.object_store.specs.declared.events.Reply.TheVariants.{GoneAt as Is_gone_at}
use Rattle.object_store.specs.declared.events.Event.{Event}
use Rattle.object_store.specs.Machine.{Stored, found, is_on, was_done, version_at, UnlessFailed}
use Rattle.store_api.specs.Journal.{Each}
use Rattle.histories.specs.Repository.{Change, Entry, RefHistory, last, Call, Open}
use Rattle.histories.specs.Repository.{Create, Commit, Reset, Drop, Answer, Opened, NoRef}
use Rattle.histories.specs.Repository.{RefExists, Appended, Moved, answer_of, called}
use Rattle.histories.specs.Files.{Files}

abbrev pub is_commit : Why → Bool
is_commit For.Commit = true
is_commit For.Init = false
is_commit For.Set = false
is_commit For.Create = false
is_commit For.Reset = false
is_commit For.Drop = false
is_commit For.Tag = false
is_commit For.Collect = false
is_commit For.Expire = false
is_commit For.Lease = false

-- the call that an operation on a branch decides, where c is what is given for it
abbrev pub call_of : Files → Change → Op → Option Call
call_of files c (Get key) = Some Open
call_of files c (PutNew key bytes why) = option_map (λ id. Create id) (files.ref bytes)
call_of files c (PutOver key bytes old why) =
    option_map (λ id. cond (is_commit why) (Commit old.0 id c) (Reset old.0 id)) (files.ref bytes)
call_of files c (Remove key why) = None
call_of files c (RemoveAt key old why) = Some (Drop old.0)
call_of files c (ListPart part) = None

abbrev pub called_if : (Id12 → Option Tree) → ℕ → Option Call → RefHistory → RefHistory
called_if trees n None h = h
called_if trees n (Some call) h = called trees n call h

-- a branch after one event at position n: the event counts where it took effect,
-- also where its answer was lost
unfoldable pub entered : Files → Change → List ℕ → ℕ → RefHistory → Event → RefHistory
entered files c branch n h event =
    if is_on (Branch branch) event.op
    then (if was_done event.reply then called_if files.tree n (call_of files c event.op) h else h)
    else h

unfoldable pub going : Files → (ℕ → Change) → List ℕ → ℕ → RefHistory → List Event → RefHistory
going files given branch n h [] = h
going files given branch n h (event ∷ events) =
    going files given branch (n + 1) (entered files (given n) branch n h event) events

-- the branch after a journal, where `given` has what the commit at each
-- position makes of the tree before it
unfoldable pub history_of : Files → (ℕ → Change) → List Event → List ℕ → RefHistory
history_of files given journal branch = going files given branch 0 [] journal

-- a get answered a reference to the entry's snapshot, at its version
pub record TellsEntry (files : Files) (e : Entry) (reply : Reply) : Type 0 where
  pub bytes : List ℕ
  pub now : ℕ
  pub is : reply ≡ Is_got (Found bytes (version_at e.version) now)
  pub names : files.ref bytes ≡ Some e.id

-- how a reply to an operation at position n spells this answer
abbrev pub Spells : Files → ℕ → Answer → Reply → Type 0
Spells files n (Opened e) reply = TellsEntry files e reply
Spells files n NoRef reply = (now : ℕ) × (reply ≡ Is_got (Absent now))
Spells files n (RefExists v) reply = (now : ℕ) × (reply ≡ Is_new (Present (version_at v) now))
Spells files n Appended reply =
    (now : ℕ)
    × ((reply ≡ Is_new (New_done (version_at n) now))
    ⊎ ((reply ≡ Is_over (Over_done (version_at n) now)) ⊎ (reply ≡ Is_gone_at (Gone_at_done now))))
Spells files n (Moved v) reply =
    (now : ℕ)
    × ((reply ≡ Is_over (Over_moved (option_map version_at v) now))
    ⊎ (reply ≡ Is_gone_at (Gone_at_moved (option_map version_at v) now)))

abbrev pub TellsCall : Files → ℕ → Option Call → Option Entry → Reply → Type 0
TellsCall files n None l reply = Unit {0}
TellsCall files n (Some call) l reply = UnlessFailed (Spells files n (answer_of call l)) reply

-- the call that the event decides got the answer that the histories give; a
-- failed one has no answer to compare
abbrev pub Agrees : Files → (ℕ → Change) → List Event → Event → Type 0
Agrees files given journal event = (branch : List ℕ) → is_on (Branch branch) event.op ≡ true
    → TellsCall files (length journal) (call_of files (given (length journal)) event.op)
    (last (history_of files given journal branch)) event.reply

-- the entry has its snapshot's tree
abbrev pub HasItsTree : (Id12 → Option Tree) → Option Entry → Type 0
HasItsTree trees None = Unit {0}
HasItsTree trees (Some e) = e.tree ≡ trees e.id

abbrev pub AllHaveTheirTrees : (Id12 → Option Tree) → RefHistory → Type 0
AllHaveTheirTrees trees [] = Unit {0}
AllHaveTheirTrees trees (e ∷ es) = HasItsTree trees e × AllHaveTheirTrees trees es

-- c leads from the tree of the parent that the snapshot named when it was first put to its own
abbrev pub LeadsFromParent : Files → Change → List Event → Id12 → Type 0
LeadsFromParent files c journal id =
    (base : Id12) → files.parent journal id ≡ Some base
    → files.tree id ≡ option_map c (files.tree base)

-- where the operation commits a snapshot to a branch, c leads there
abbrev pub LeadsThere : Files → Change → List Event → Op → Type 0
LeadsThere files c journal op =
    (branch bytes : List ℕ) (old : Version) (id : Id12)
    → op ≡ PutOver (Branch branch) bytes old For_commit → files.ref bytes ≡ Some id
    → LeadsFromParent files c journal id

-- what is given for each commit is right
abbrev pub IsGiven : Files → (ℕ → Change) → List Event → Event → Type 0
IsGiven files given journal event = LeadsThere files (given (length journal)) journal event.op

-- Where a commit took effect: the entry before it, whose version it had read, whose snapshot is the
-- parent that its own named, and from whose tree what is given for it makes its own.
pub record IsCommitted (files : Files) (given : ℕ → Change) (journal : List Event) (branch : List ℕ)
    (old : ℕ) (id : Id12) : Type 0 where
  pub before : Entry
  pub is_last : last (history_of files given journal branch) ≡ Some before
  pub version : before.version ≡ old
  pub child : files.parent journal id ≡ Some before.id
  pub tree : files.tree id ≡ option_map (given (length journal)) (files.tree before.id)

-- where the event is a commit that took effect, also by a lost answer
abbrev pub CommitsApply : Files → (ℕ → Change) → List Event → Event → Type 0
CommitsApply files given journal event =
    (branch bytes : List ℕ) (old : Version) (id : Id12) (s : Stored)
    → event.op ≡ PutOver (Branch branch) bytes old For_commit → files.ref bytes ≡ Some id
    → was_done event.reply ≡ true → found journal (Branch branch) ≡ Some s → s.version ≡ old.0
    → IsCommitted files given journal branch old.0 id

-- The histories run over the calls of the journal: each call got the answer that they give, each
-- entry has its snapshot's tree, and each commit that took effect has the tree that was made
-- from that of the entry before it.
pub record IsHistory (files : Files) (given : ℕ → Change) (journal : List Event) : Type 0 where
  pub answers : Each (Agrees files given) [] journal
  pub entries : (branch : List ℕ)
      → AllHaveTheirTrees files.tree (history_of files given journal branch)
  pub commits : Each (CommitsApply files given) [] journal

-- what stands at a branch is a reference to its last entry's snapshot, at its version
abbrev pub StandsAs : Files → Option Stored → Option Entry → Type 0
StandsAs files None None = Unit {0}
StandsAs files None (Some e) = ⊥
StandsAs files (Some s) None = ⊥
StandsAs files (Some s) (Some e) = (s.version ≡ e.version) × (files.ref s.bytes ≡ Some e.id)

-- at the end the branches stand as their histories say
abbrev pub BranchesStand : Files → (ℕ → Change) → List Event → Type 0
BranchesStand files given journal =
    (branch : List ℕ)
    → StandsAs files (found journal (Branch branch)) (last (history_of files given journal branch))
