-- What the answer of a rebase says of the journal, in words that name no machine and no program.
-- `start` is the journal at its beginning. (Icechunk's manual, "Conflict resolution"; specification
-- version 1, "Transaction logs".)
use Rattle.std.specs.Prelude.{◌≡◌, ◌≢◌, ◌⊎◌, ℕ, ◌<◌, ◌≤◌, false, List, [], ◌∷◌, ◌++◌}
use Rattle.std.specs.Prelude.{length, map, Some, None, Result, Ok, Err}
use Rattle.std.specs.List.{All}
use Rattle.std.specs.FinMap.{len}
use Rattle.ice_ids.specs.declared.Id8.{Id8}
use Rattle.ice_ids.specs.declared.Id12.{Id12}
use Rattle.manifest_file.specs.declared.manifest.Place.{Place}
use Rattle.snapshot_file.specs.declared.snapshot.SnapshotFile.{SnapshotFile}
use Rattle.txn_file.specs.declared.log.TxnFile.{TxnFile}
use Rattle.repo_objects.specs.declared.bad_objects.Bad.{Bad}
use Rattle.repo_objects.specs.declared.bad_objects.Bad.TheVariants.{Unlisted}
use Rattle.repo_objects.specs.Readings.{read_log, log_by}
use Rattle.repo_objects.specs.Trees.{nodes_in}
use Rattle.zarr_tree.specs.declared.cases.Conflict.{Conflict}
use Rattle.zarr_tree.specs.declared.lists.Touched.{Touched}
use Rattle.zarr_tree.specs.Edits.{most_nodes}
use Rattle.zarr_tree.specs.Held.{Held, nodes_over}
use Rattle.conflicts.specs.declared.solving.Policy.{Policy}
use Rattle.object_store.specs.declared.keys.Key.{Key}
use Rattle.object_store.specs.declared.keys.Key.TheVariants.{Snapshot, Txn, Branch}
use Rattle.object_store.specs.declared.events.Version.{Version}
use Rattle.object_store.specs.declared.events.Event.{Event}
use Rattle.store_api.specs.declared.machines.Refusal.{Refusal}
use Rattle.zarr_tree.specs.declared.edit.EditFault.TheVariants as E
use Rattle.store_api.specs.declared.machines.Refusal.TheVariants as R
use Rattle.store_api.specs.Telling.{MadeGets, WasGot, WasAbsent, WasRef, RefWasBad}
use Rattle.store_api.specs.Telling.{WasReadAs, SnapshotWasBad, WasFailure, GetsOf}
use Rattle.repo_read.specs.Chains.{most_snapshots}
use Rattle.session.specs.Sessions.{SessionState, branch_of, writes}
use Rattle.session.specs.Sessions.{origin_at, base_nodes, rebased_to}
use Rattle.rebase.specs.declared.machine.Rebased.{Rebased}
use Rattle.rebase.specs.declared.machine.Rebased.TheVariants.{OnHead, UpToDate}
use Rattle.rebase.specs.Along.{Link, Way, Solves, Stays, Hides, along}

-- ---- the chain
-- each of these snapshots is the parent of the next one, the first one's parent is the one
-- below, and the last one is the head
unfoldable pub Rises : (below : Id12) → List SnapshotFile → (head : Id12) → Type 0
Rises below [] head = below ≡ head
Rises below (f ∷ fs) head = (f.parent ≡ Some below) × Rises f.id fs head

-- The client's own gets read these snapshots, the oldest first, from the head down to one whose
-- parent is the one below. None of them is the base.
pub record WasWalked (client : ℕ) (base below head : Id12) (fs : List SnapshotFile)
    (start journal : List Event) : Type 0 where
  pub rises : Rises below fs head
  pub apart : All (λ f. f.id ≢ base) fs
  pub read : All (λ f. WasReadAs client f.id f start journal) fs

-- the client's own get of a log was answered with bytes that read as one with these lists
pub record LogWasReadAs (client : ℕ) (l : Link) (start journal : List Event) : Type 0 where
  pub bytes : List ℕ
  pub version : ℕ
  pub got : WasGot client (Txn l.file.id) bytes version start journal
  pub log : TxnFile
  pub read : log_by l.file.id bytes ≡ Some log
  pub lists_are : l.lists ≡ log.lists

-- The branch named this snapshot at this version. From there these are the commits down to the
-- base, the oldest first, of which the logs of the first ones were read.
pub record WereMet (client : ℕ) (s : SessionState) (head : Id12) (version : Version)
    (links : List Link) (later : List SnapshotFile) (start journal : List Event) : Type 0 where
  pub ref : WasRef client (Branch (branch_of s)) version head start journal
  pub walked : WasWalked client s.base s.base head
      (map (λ (l : Link). l.file) links ++ later) start journal
  pub logs : All (λ l. LogWasReadAs client l start journal) links

-- what becomes of the session's changes along commits
abbrev pub way_of : Policy → SessionState → List Link → Way
way_of policy s links = along policy s.held (base_nodes s) links

-- All conflicts with the commits from the base to the branch's snapshot were solved; this is still
-- held, and this is the snapshot, as read.
pub record WereSolved (client : ℕ) (policy : Policy) (s : SessionState) (head : Id12)
    (version : Version) (count : ℕ) (snap : SnapshotFile) (held : Held Place)
    (start journal : List Event) : Type 0 where
  pub links : List Link
  pub met : WereMet client s head version links [] start journal
  pub solved : way_of policy s links ≡ Solves held
  pub before : List Link
  pub lists : Touched
  pub last : links ≡ before ++ record { file = snap; lists = lists } ∷ []
  pub count_is : count ≡ length links

-- ---- the answers
-- The session moved on to the branch's snapshot over so many commits, with
-- what is still held of its changes.
pub record CameToHead (client : ℕ) (policy : Policy) (s t : SessionState) (count : ℕ)
    (start journal : List Event) : Type 0 where
  pub head : Id12
  pub version : Version
  pub snap : SnapshotFile
  pub held : Held Place
  pub solved : WereSolved client policy s head version count snap held start journal
  pub few : len (nodes_over held (nodes_in snap.nodes)) ≤ most_nodes
  pub becomes : t ≡ rebased_to s head version.0 snap held

-- the branch named the session's base, at this version
pub record WasUpToDate (client : ℕ) (s t : SessionState) (start journal : List Event) : Type 0 where
  pub version : Version
  pub ref : WasRef client (Branch (branch_of s)) version s.base start journal
  pub becomes : t ≡ record s { origin = origin_at version.0 s.origin }

-- all conflicts were solved, and with what is still held the branch's
-- tree would have too many nodes
pub record WasFull (client : ℕ) (policy : Policy) (s : SessionState)
    (start journal : List Event) : Type 0 where
  pub head : Id12
  pub version : Version
  pub count : ℕ
  pub snap : SnapshotFile
  pub held : Held Place
  pub solved : WereSolved client policy s head version count snap held start journal
  pub many : most_nodes < len (nodes_over held (nodes_in snap.nodes))

-- the logs of the commits up to this one were read, and exactly these conflicts with it stay
pub record WasLeft (client : ℕ) (policy : Policy) (s : SessionState) (at : Id12)
    (conflicts : List Conflict) (start journal : List Event) : Type 0 where
  pub head : Id12
  pub version : Version
  pub links : List Link
  pub later : List SnapshotFile
  pub met : WereMet client s head version links later start journal
  pub before : List Link
  pub one : Link
  pub last : links ≡ before ++ one ∷ []
  pub at_is : at ≡ one.file.id
  pub stays : way_of policy s links ≡ Stays at conflicts

-- ... and its log doesn't tell what it did to this node
pub record WasHidden (client : ℕ) (policy : Policy) (s : SessionState) (key : Key) (bad : Bad)
    (start journal : List Event) : Type 0 where
  pub head : Id12
  pub version : Version
  pub links : List Link
  pub later : List SnapshotFile
  pub met : WereMet client s head version links later start journal
  pub at : Id12
  pub before : List Link
  pub one : Link
  pub last : links ≡ before ++ one ∷ []
  pub at_is : at ≡ one.file.id
  pub node : Id8
  pub hides : way_of policy s links ≡ Hides at node
  pub key_is : key ≡ Txn at
  pub bad_is : bad ≡ Unlisted node

-- The walk from the branch's snapshot came to this one, and hadn't met the base.
pub record CameTo (client : ℕ) (s : SessionState) (head next : Id12) (seen : List SnapshotFile)
    (start journal : List Event) : Type 0 where
  pub version : Version
  pub ref : WasRef client (Branch (branch_of s)) version head start journal
  pub walked : WasWalked client s.base next head seen start journal
  pub apart : next ≢ s.base

-- it came to a snapshot that is absent
pub record SnapshotIsMissing (client : ℕ) (s : SessionState) (key : Key)
    (start journal : List Event) : Type 0 where
  pub head : Id12
  pub next : Id12
  pub seen : List SnapshotFile
  pub came : CameTo client s head next seen start journal
  pub key_is : key ≡ Snapshot next
  pub absent : WasAbsent client (Snapshot next) start journal

-- ... or that can't be read
pub record SnapshotIsBad (client : ℕ) (s : SessionState) (key : Key) (bad : Bad)
    (start journal : List Event) : Type 0 where
  pub head : Id12
  pub next : Id12
  pub seen : List SnapshotFile
  pub came : CameTo client s head next seen start journal
  pub cause : SnapshotWasBad client next key bad start journal

-- ... or to one without a parent
pub record HasEnded (client : ℕ) (s : SessionState) (head : Id12)
    (start journal : List Event) : Type 0 where
  pub lowest : SnapshotFile
  pub seen : List SnapshotFile
  pub came : CameTo client s head lowest.id seen start journal
  pub read : WasReadAs client lowest.id lowest start journal
  pub alone : lowest.parent ≡ None

-- ... or it had read as many snapshots as it may
pub record WasTooDeep (client : ℕ) (s : SessionState) (start journal : List Event) : Type 0 where
  pub head : Id12
  pub next : Id12
  pub seen : List SnapshotFile
  pub came : CameTo client s head next seen start journal
  pub many : length seen ≡ most_snapshots

-- Conflicts with the first commits were solved, and the log of the next one is absent.
pub record LogIsMissing (client : ℕ) (policy : Policy) (s : SessionState) (key : Key)
    (start journal : List Event) : Type 0 where
  pub head : Id12
  pub version : Version
  pub links : List Link
  pub next : SnapshotFile
  pub later : List SnapshotFile
  pub met : WereMet client s head version links (next ∷ later) start journal
  pub held : Held Place
  pub solved : way_of policy s links ≡ Solves held
  pub key_is : key ≡ Txn next.id
  pub absent : WasAbsent client (Txn next.id) start journal

-- ... or can't be read
pub record LogIsBad (client : ℕ) (policy : Policy) (s : SessionState) (key : Key) (bad : Bad)
    (start journal : List Event) : Type 0 where
  pub head : Id12
  pub version : Version
  pub links : List Link
  pub next : SnapshotFile
  pub later : List SnapshotFile
  pub met : WereMet client s head version links (next ∷ later) start journal
  pub held : Held Place
  pub solved : way_of policy s links ≡ Solves held
  pub key_is : key ≡ Txn next.id
  pub bytes : List ℕ
  pub put : ℕ
  pub got : WasGot client (Txn next.id) bytes put start journal
  pub unread : read_log next.id bytes ≡ Err bad

-- a key that a rebase gets
abbrev pub IsOfRebase : SessionState → Key → Type 0
IsOfRebase s key =
    (key ≡ Branch (branch_of s))
    ⊎ (((id : Id12) × (key ≡ Snapshot id)) ⊎ ((id : Id12) × (key ≡ Txn id)))

abbrev pub RebaseSays : ℕ → Policy → SessionState → List Event
    → Result Rebased Refusal → List Event → Type 0
RebaseSays client policy s start (Ok (OnHead t count)) journal =
    CameToHead client policy s t count start journal
RebaseSays client policy s start (Ok (UpToDate t)) journal = WasUpToDate client s t start journal
RebaseSays client policy s start (Err R.ReadOnly) journal = writes s ≡ false
RebaseSays client policy s start (Err R.NoRef) journal =
    WasAbsent client (Branch (branch_of s)) start journal
RebaseSays client policy s start (Err (R.Missing key)) journal =
    SnapshotIsMissing client s key start journal ⊎ LogIsMissing client policy s key start journal
RebaseSays client policy s start (Err (R.BadFile key bad)) journal =
    RefWasBad client (Branch (branch_of s)) key bad start journal
    ⊎ (SnapshotIsBad client s key bad start journal
    ⊎ (LogIsBad client policy s key bad start journal
    ⊎ WasHidden client policy s key bad start journal))
RebaseSays client policy s start (Err R.TooDeep) journal = WasTooDeep client s start journal
RebaseSays client policy s start (Err (R.Edit E.Full)) journal =
    WasFull client policy s start journal
RebaseSays client policy s start (Err (R.Left at conflicts)) journal =
    WasLeft client policy s at conflicts start journal
RebaseSays client policy s start (Err (R.NotAncestor head)) journal =
    HasEnded client s head start journal
RebaseSays client policy s start (Err R.StoreFault) journal =
    WasFailure client (GetsOf (IsOfRebase s)) start journal
RebaseSays client policy s start (Err R.NoMemory) journal = Unit {0}
RebaseSays client policy s start (Err _) journal = ⊥

-- What the answer says; the client made gets alone.
abbrev pub RebaseTells : ℕ → Policy → SessionState → List Event
    → Result Rebased Refusal → List Event → Type 0
RebaseTells client policy s start result journal =
    RebaseSays client policy s start result journal × MadeGets client start journal
