-- That a settling tells whether the commit was done. No machine and
-- no program is named here. (Own.)
use Rattle.std.specs.Prelude.{◌≡◌, ◌≢◌, ◌⊎◌, ℕ, true, Bool}
use Rattle.std.specs.Prelude.{List, [], ◌∷◌, ◌++◌, length, None, Some, Ok}
use Rattle.std.specs.List.{All}
use Rattle.ice_ids.specs.declared.Id12.{Id12}
use Rattle.snapshot_file.specs.declared.snapshot.SnapshotFile.{SnapshotFile}
use Rattle.repo_objects.specs.Readings.{ref_of}
use Rattle.object_store.specs.declared.keys.Key.{Key}
use Rattle.object_store.specs.declared.keys.Key.TheVariants.{Snapshot, Branch}
use Rattle.object_store.specs.declared.keys.Why.{Why}
use Rattle.object_store.specs.declared.keys.Why.TheVariants.{Commit}
use Rattle.object_store.specs.declared.events.Version.{Version}
use Rattle.object_store.specs.declared.events.Op.TheVariants.{PutOver}
use Rattle.object_store.specs.declared.events.Reply.TheVariants.{Failed}
use Rattle.object_store.specs.declared.events.Event.{Event}
use Rattle.object_store.specs.Machine.{found, first_put, version_at}
use Rattle.store_api.specs.Journal.{Each, IsGoodJournal, IsOnce}
use Rattle.store_api.specs.Telling.{HasOwn, StandsAt, ChangedNothing, ChangedOnce}
use Rattle.settle.specs.declared.settle.Doubt.{Doubt}
use Rattle.settle.specs.declared.settle.Settled.{Settled}
use Rattle.settle.specs.declared.settle.Settled.TheVariants.{Committed, NotCommitted, NotAncestor}
use Rattle.settle.specs.Telling.{SettleSays, SettleTells}

-- ---- what others do
-- the event leaves what stands at the key as it was
abbrev pub LeavesKey : Key → List Event → Event → Type 0
LeavesKey key before event = found (before ++ event ∷ []) key ≡ found before key

-- it is a put over of the branch for a commit, with a reference to this snapshot
abbrev pub CommitsTo : (branch : List ℕ) → Id12 → Event → Type 0
CommitsTo branch id event =
    (bytes : List ℕ) × (old : Version) × (event.op ≡ PutOver (Branch branch) bytes old Commit)
    × (ref_of bytes ≡ Some id)

-- It leaves the branch as it was, or commits to it: so it isn't reset nor removed. This snapshot is
-- committed at this position alone.
abbrev pub CommitsAlone : (branch : List ℕ) → Id12 → (at : ℕ) → List Event → Event → Type 0
CommitsAlone branch id at before event =
    LeavesKey (Branch branch) before event
    ⊎ ((new : Id12) × CommitsTo branch new event × (new ≡ id → length before ≡ at))

-- where it is a put over of the snapshot, it leaves that as it was: so it doesn't cut it
abbrev pub CutsNot : Id12 → List Event → Event → Type 0
CutsNot id before event =
    (bytes : List ℕ) (old : Version) (why : Why) → event.op ≡ PutOver (Snapshot id) bytes old why
    → LeavesKey (Snapshot id) before event

-- ---- the doubt
-- In the journal `known` the branch stood with a reference to the base, and the commit's snapshot
-- wasn't put yet. Since then the client's own put over of the branch for the commit, at the version
-- that it had then, failed; it may have been done.
pub record IsInDoubt (client : ℕ) (branch : List ℕ) (d : Doubt)
    (known start : List Event) : Type 0 where
  pub version : ℕ
  pub read : StandsAt known (Branch branch) version
  pub base : ref_of read.stored.bytes ≡ Some d.base
  pub unput : first_put known (Snapshot d.snapshot) ≡ None
  pub bytes : List ℕ
  pub names : ref_of bytes ≡ Some d.snapshot
  pub done : Bool
  pub own : HasOwn client (PutOver (Branch branch) bytes (version_at version) Commit)
      (Failed done) known start

-- it was done, and the branch stood at that version
pub record TookEffect (client : ℕ) (branch : List ℕ) (d : Doubt) (known start : List Event)
    (doubt : IsInDoubt client branch d known start) : Type 0 where
  pub done : doubt.done ≡ true
  pub stood : StandsAt doubt.own.before (Branch branch) doubt.version

-- ---- its settling
-- The doubt was settled so, in a good journal that puts nothing again. Since the branch was read it
-- was changed by commits alone, and by no other one with this snapshot.
pub record WasSettled (client : ℕ) (branch : List ℕ) (d : Doubt) (a : Settled)
    (known start journal : List Event) : Type 0 where
  pub good : IsGoodJournal journal
  pub once : IsOnce journal
  pub doubt : IsInDoubt client branch d known start
  pub tells : SettleTells client branch d start (Ok a) journal
  pub since : List Event
  pub is : journal ≡ known ++ since
  pub commits : Each (CommitsAlone branch d.snapshot (length doubt.own.before)) known since

-- the snapshots that the settling read
abbrev pub chain_of : (client : ℕ) (branch : List ℕ) (d : Doubt)
    (start : List Event) (a : Settled) (journal : List Event)
    → SettleSays client branch d start (Ok a) journal → List SnapshotFile
chain_of client branch d start Committed journal says = says.1.seen
chain_of client branch d start NotCommitted journal says = says.2.seen
chain_of client branch d start (NotAncestor head) journal says = says.seen

-- since the branch was read none of them was cut
abbrev pub NoneCut : (client : ℕ) (branch : List ℕ) (d : Doubt)
    (a : Settled) (known start journal : List Event)
    → WasSettled client branch d a known start journal → Type 0
NoneCut client branch d a known start journal s =
    All (λ (f : SnapshotFile). Each (CutsNot f.id) known s.since)
    (chain_of client branch d start a journal s.tells.0)

-- ---- the law
-- `Committed` is told only where the put over took effect, whatever was cut; where none of the
-- snapshots that were read was cut, also wherever it did. So where another answer is told,
-- that put over changed nothing.
pub record DoubtLaw : Type 0 where
  pub told : (client : ℕ) (branch : List ℕ) (d : Doubt) (a : Settled)
      (known start journal : List Event) (s : WasSettled client branch d a known start journal)
      → a ≡ Committed → TookEffect client branch d known start s.doubt
  pub done : (client : ℕ) (branch : List ℕ) (d : Doubt) (a : Settled)
      (known start journal : List Event) (s : WasSettled client branch d a known start journal)
      → NoneCut client branch d a known start journal s
      → TookEffect client branch d known start s.doubt → a ≡ Committed
  pub nothing : (client : ℕ) (branch : List ℕ) (d : Doubt) (a : Settled)
      (known start journal : List Event) (s : WasSettled client branch d a known start journal)
      → NoneCut client branch d a known start journal s → a ≢ Committed → (from : List Event)
      → ChangedOnce client from s.doubt.own.before s.doubt.own.event journal
      → ChangedNothing client from journal
