-- What replies to the gets of refs, snapshots, logs, manifests and objects with chunks tell.
-- (Icechunk specification version 1, "Read from Repository".)
use Rattle.std.specs.Prelude.{◌≡◌, ℕ, Bool, true, false, List, Result, Ok, Err}
use Rattle.ice_ids.specs.declared.Id12.{Id12}
use Rattle.snapshot_file.specs.declared.snapshot.SnapshotFile.{SnapshotFile}
use Rattle.manifest_file.specs.declared.manifest.ManifestFile.{ManifestFile}
use Rattle.txn_file.specs.declared.log.TxnFile.{TxnFile}
use Rattle.repo_objects.specs.declared.bad_objects.Bad.{Bad}
use Rattle.repo_objects.specs.Readings.{read_snapshot, read_manifest}
use Rattle.repo_objects.specs.Readings.{read_log, read_chunk, read_ref}
use Rattle.object_store.specs.declared.keys.Key.{Key}
use Rattle.object_store.specs.declared.keys.Key.TheVariants.{Snapshot, Manifest, Txn, Chunk, Branch}
use Rattle.object_store.specs.declared.events.Version.{Version}
use Rattle.object_store.specs.declared.events.Got.TheVariants.{Found, Absent}
use Rattle.object_store.specs.declared.events.Reply.{Reply}
use Rattle.object_store.specs.declared.events.Reply.TheVariants.{Got, New, Over, Gone}
use Rattle.object_store.specs.declared.events.Reply.TheVariants.{GoneAt, Listed, Failed}
use Rattle.store_api.specs.declared.machines.Refusal.{Refusal}
use Rattle.store_api.specs.declared.machines.Refusal.TheVariants.{NoRef, Missing}
use Rattle.store_api.specs.declared.machines.Refusal.TheVariants.{BadFile, StoreFault}
use Rattle.store_api.specs.Program.{is_no_memory}
use Rattle.repo_read.specs.declared.answers.Resolved.{Resolved}

-- the value at a key, or why the bytes there stand for none
abbrev pub at_key : {A : Type 0} → Key → Result A Bad → Result A Refusal
at_key key (Ok x) = Ok x
at_key key (Err bad) = Err (BadFile key bad)

abbrev pub resolved_at : Version → Result Id12 Refusal → Result Resolved Refusal
resolved_at version (Ok id) = Ok (record { id = id; version = version })
resolved_at version (Err why) = Err why

-- the snapshot that a branch names, and the version at which it does
abbrev pub ref_told : (branch : List ℕ) → Reply → Result Resolved Refusal
ref_told branch (Got (Found bytes version now)) =
    resolved_at version (at_key (Branch branch) (read_ref bytes))
ref_told branch (Got (Absent now)) = Err NoRef
ref_told branch _ = Err StoreFault

-- a snapshot
abbrev pub snapshot_told : Id12 → Reply → Result SnapshotFile Refusal
snapshot_told id (Got (Found bytes version now)) = at_key (Snapshot id) (read_snapshot id bytes)
snapshot_told id (Got (Absent now)) = Err (Missing (Snapshot id))
snapshot_told id _ = Err StoreFault

-- a manifest
abbrev pub manifest_told : Id12 → Reply → Result ManifestFile Refusal
manifest_told id (Got (Found bytes version now)) = at_key (Manifest id) (read_manifest id bytes)
manifest_told id (Got (Absent now)) = Err (Missing (Manifest id))
manifest_told id _ = Err StoreFault

-- a transaction log
abbrev pub log_told : Id12 → Reply → Result TxnFile Refusal
log_told id (Got (Found bytes version now)) = at_key (Txn id) (read_log id bytes)
log_told id (Got (Absent now)) = Err (Missing (Txn id))
log_told id _ = Err StoreFault

-- a chunk of `want` bytes, in this part of an object
abbrev pub object_told : (want : ℕ) → Id12 → (offset size : ℕ) → Reply → Result (List ℕ) Refusal
object_told want id offset size (Got (Found bytes version now)) =
    at_key (Chunk id) (read_chunk want offset size bytes)
object_told want id offset size (Got (Absent now)) = Err (Missing (Chunk id))
object_told want id offset size _ = Err StoreFault

-- this is answered; want of memory may come instead
abbrev pub Answers : {A : Type 0} → Result A Refusal → Result A Refusal → Type 0
Answers expected (Ok x) = expected ≡ Ok x
Answers expected (Err refusal) = is_no_memory refusal ≡ false → expected ≡ Err refusal

-- a get found bytes
abbrev pub has_bytes : Reply → Bool
has_bytes (Got (Found bytes version now)) = true
has_bytes (Got (Absent now)) = false
has_bytes (New new) = false
has_bytes (Over over) = false
has_bytes (Gone gone) = false
has_bytes (GoneAt gone) = false
has_bytes (Listed listed) = false
has_bytes (Failed done) = false

-- where no bytes are to be read no memory is taken, and this very thing is answered
abbrev pub AnswersOutright : {A : Type 0} → Reply → Result A Refusal → Result A Refusal → Type 0
AnswersOutright reply expected result = has_bytes reply ≡ false → result ≡ expected
