-- What a client's snapshots have in common.
use Rattle.std.specs.Prelude.{◌≡◌, ℕ, ◌++◌, List, Some}
use Rattle.std.specs.Str.{IsUtf8}
use Rattle.ice_ids.specs.declared.Id12.{Id12}
use Rattle.snapshot_file.specs.declared.snapshot.SnapshotFile.{SnapshotFile}
use Rattle.repo_objects.specs.Readings.{snapshot_by}
use Rattle.repo_objects.specs.Trees.{nodes_in}
use Rattle.object_store.specs.declared.keys.Key.{Key}
use Rattle.object_store.specs.declared.keys.Key.TheVariants.{Snapshot, Manifest, Txn, Chunk}
use Rattle.object_store.specs.declared.keys.Key.TheVariants.{Branch, Tag, Tombstone, Lease}
use Rattle.object_store.specs.declared.keys.Why.{Why}
use Rattle.object_store.specs.declared.events.Op.{Op}
use Rattle.object_store.specs.declared.events.Op.TheVariants.{Get, PutNew, PutOver, Remove}
use Rattle.object_store.specs.declared.events.Op.TheVariants.{RemoveAt, List as ListPart}
use Rattle.object_store.specs.declared.events.Event.{Event}
use Rattle.store_api.specs.Journal.{Each}
use Rattle.store_api.specs.Callers.{Caller}
use Rattle.store_api.specs.Program.{Keeps, Leads}
use Rattle.session.specs.Sessions.{SessionState, nodes_seen}
use Rattle.session.specs.Opening.{Asked, open_program}
use Rattle.commit_path.specs.Committing.{commit_program}
use Rattle.commit_path.specs.Opened.{IsOpened}
use Rattle.commit_path.specs.Spelled.{IsSpelled}

-- ---- no snapshot
-- the key is a snapshot's
abbrev pub IsOfSnapshot : Key → Type 0
IsOfSnapshot (Snapshot id) = Unit {0}
IsOfSnapshot (Manifest id) = ⊥
IsOfSnapshot (Txn id) = ⊥
IsOfSnapshot (Chunk id) = ⊥
IsOfSnapshot (Branch name) = ⊥
IsOfSnapshot (Tag name) = ⊥
IsOfSnapshot (Tombstone name) = ⊥
IsOfSnapshot (Lease id) = ⊥

-- a put of a new snapshot, done or not
abbrev pub PutsSnapshot : Op → Type 0
PutsSnapshot (Get key) = ⊥
PutsSnapshot (PutNew key bytes why) = IsOfSnapshot key
PutsSnapshot (PutOver key bytes old why) = ⊥
PutsSnapshot (Remove key why) = ⊥
PutsSnapshot (RemoveAt key old why) = ⊥
PutsSnapshot (ListPart part) = ⊥

-- the event isn't the client's, or puts no snapshot
abbrev pub PutsNone : ℕ → List Event → Event → Type 0
PutsNone client before event = event.client ≡ client → ¬ PutsSnapshot event.op

-- From `start` on, no event of the client put a snapshot.
pub record HasPutNone (client : ℕ) (start journal : List Event) : Type 0 where
  pub more : List Event
  pub is : journal ≡ start ++ more
  pub each : Each (PutsNone client) start more

-- ---- snapshots of one session
-- The bytes are those of a snapshot under this id, with the nodes of a session that added and
-- dropped the same nodes as this one.
pub record IsAlike (s : SessionState) (id : Id12) (bytes : List ℕ) : Type 0 where
  pub session : SessionState
  pub added : session.held.added ≡ s.held.added
  pub dropped : session.held.dropped ≡ s.held.dropped
  pub snap : SnapshotFile
  pub read : snapshot_by id bytes ≡ Some snap
  pub nodes : nodes_in snap.nodes ≡ nodes_seen session

-- the event isn't the client's, or a snapshot that it puts is of such a session
abbrev pub PutsAlike : ℕ → SessionState → List Event → Event → Type 0
PutsAlike client s before event =
    event.client ≡ client → (id : Id12) (bytes : List ℕ) (why : Why)
    → event.op ≡ PutNew (Snapshot id) bytes why → IsAlike s id bytes

-- From `start` on, the client put snapshots of sessions alone that added and
-- dropped the same nodes as this one.
pub record HasPutAlike (client : ℕ) (s : SessionState) (start journal : List Event) : Type 0 where
  pub more : List Event
  pub is : journal ≡ start ++ more
  pub each : Each (PutsAlike client s) start more

-- Whatever others do, an opening puts no snapshot; and where the client put snapshots like that of
-- a session alone, a commit of it puts no others.
pub record SingleLaw : Type 0 where
  pub opening : (by : Caller) (a : Asked) (start journal : List Event)
      → HasPutNone by.number start journal
      → Keeps (λ h client op. ¬ PutsSnapshot op) by (open_program a) journal
      × Leads (λ answer h. HasPutNone by.number start h) by (open_program a) journal
  pub commit : (by : Caller) (s : SessionState) (message : List ℕ) (start journal : List Event)
      → IsUtf8 message → IsSpelled s → IsOpened s journal → HasPutAlike by.number s start journal
      → Keeps (λ h client op. HasPutAlike client s start h) by (commit_program s message) journal
      × Leads (λ answer h. HasPutAlike by.number s start h) by (commit_program s message) journal
