-- What a check's answer says of the store.
use Rattle.std.specs.Prelude.{◌≡◌, ◌⊎◌, ℕ, false, List, Contains, Result, Ok, Err}
use Rattle.ice_ids.specs.declared.Id12.{Id12}
use Rattle.ice_ids.specs.Text.{initial_id}
use Rattle.manifest_file.specs.declared.manifest.Place.{Place}
use Rattle.manifest_file.specs.declared.manifest.Place.TheVariants.{Inline, Object}
use Rattle.manifest_file.specs.declared.manifest.ChunkRef.{ChunkRef}
use Rattle.snapshot_file.specs.declared.nodes.NodeRow.{NodeRow}
use Rattle.snapshot_file.specs.declared.snapshot.SnapshotFile.{SnapshotFile}
use Rattle.object_store.specs.declared.keys.Key.{Key}
use Rattle.object_store.specs.declared.keys.Key.TheVariants.{Snapshot, Manifest, Txn, Chunk}
use Rattle.object_store.specs.declared.keys.Key.TheVariants.{Branch, Tag, Tombstone, Lease}
use Rattle.object_store.specs.declared.events.Version.{Version}
use Rattle.object_store.specs.declared.events.Op.TheVariants.{Get}
use Rattle.object_store.specs.declared.events.Reply.{Reply}
use Rattle.object_store.specs.declared.events.Event.{Event}
use Rattle.store_api.specs.declared.machines.Refusal.{Refusal}
use Rattle.store_api.specs.declared.machines.Refusal.TheVariants.{Unsound}
use Rattle.store_api.specs.Callers.{has_failed}
use Rattle.store_api.specs.Journal.{puts_of}
use Rattle.store_api.specs.Telling.{HasOwn, WasRef, WasReadAs}
use Rattle.check_reports.specs.declared.faults.Checked.{Checked}
use Rattle.reach.specs.Holding.{Reaches}
use Rattle.history_laws.specs.Refs.{IsRef}
use Rattle.history_laws.specs.Laws.{Stands}
use Rattle.repo_check.specs.declared.standing.CheckReport.{CheckReport}
use Rattle.repo_check.specs.Findings.{Deed}
use Rattle.repo_check.specs.Exact.{deeds_behind}
use Rattle.check_calls.specs.Whole.{HasEntry, IsWhole, AllWhole}

-- ---- what a check needn't have found
-- the client made no get of the key
abbrev pub WasNotGot : (client : ℕ) → (key : Key) → (start journal : List Event) → Type 0
WasNotGot client key start journal =
    (reply : Reply) → HasOwn client (Get key) reply start journal → ⊥

-- a place in this object
abbrev pub IsIn : (object : Id12) → Place → Type 0
IsIn object (Inline bytes) = ⊥
IsIn object (Object id offset size) = id ≡ object

-- No row of a snapshot that the client read has a chunk in the object: where manifests name it,
-- they do so under other nodes alone than those whose rows name these manifests.
abbrev pub IsOfNoRow : (client : ℕ) → (object : Id12) → (start journal : List Event) → Type 0
IsOfNoRow client object start journal =
    (id : Id12) (snap : SnapshotFile) → WasReadAs client id snap start journal
    → (row : NodeRow) (chunk : ChunkRef) → Contains snap.nodes row
    → HasEntry (puts_of journal) row chunk → IsIn object chunk.place → ⊥

-- What is excepted: the initial snapshot, where no walk met it, and its log, since it has none;
-- and an object that no row names.
abbrev pub IsExcepted : (client : ℕ) → (start journal : List Event) → Key → Type 0
IsExcepted client start journal (Snapshot id) =
    (id ≡ initial_id) × WasNotGot client (Snapshot initial_id) start journal
IsExcepted client start journal (Txn id) = id ≡ initial_id
IsExcepted client start journal (Chunk id) = IsOfNoRow client id start journal
IsExcepted client start journal (Manifest id) = ⊥
IsExcepted client start journal (Branch name) = ⊥
IsExcepted client start journal (Tag name) = ⊥
IsExcepted client start journal (Tombstone name) = ⊥
IsExcepted client start journal (Lease id) = ⊥

-- ---- sound means whole
-- Each ref that the client read named a snapshot that is whole, so it has a tree; and all that this
-- reaches stands, but for what is excepted.
pub record AreWholeAsRead (client : ℕ) (start journal : List Event) : Type 0 where
  pub whole : (ref : Key) (version : Version) (id : Id12) → IsRef ref
      → WasRef client ref version id start journal → IsWhole journal id
  pub stands : (ref : Key) (version : Version) (id : Id12) → IsRef ref
      → WasRef client ref version id start journal → (key : Key) → Reaches journal id key
      → Stands journal key ⊎ IsExcepted client start journal key

-- ---- exact when still
-- `Checked` comes where all is whole, and never `Unsound`.
pub record IsExact (result : Result Checked Refusal) (journal : List Event) : Type 0 where
  pub sound : (checked : Checked) → result ≡ Ok checked → AllWhole journal
  pub whole : (faults : ℕ) → result ≡ Err (Unsound faults) → AllWhole journal → ⊥

-- no operation of the client failed
abbrev pub NoneFailed : (client : ℕ) → (start journal : List Event) → Type 0
NoneFailed client start journal =
    (deed : Deed) → Contains (deeds_behind client start journal) deed
    → has_failed deed.reply ≡ false

-- faults are told only where no operation failed
abbrev pub TellsNoFailure : (client : ℕ) → List Event → CheckReport → List Event → Type 0
TellsNoFailure client start report journal =
    (faults : ℕ) → report.result ≡ Err (Unsound faults) → NoneFailed client start journal
