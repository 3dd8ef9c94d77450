-- The programs that read a ref, a snapshot, a log, a manifest and a chunk. (Icechunk specification
-- version 1, "Read from Repository".)
use Rattle.std.specs.Prelude.{ℕ, List}
use Rattle.ice_ids.specs.declared.Id12.{Id12}
use Rattle.snapshot_file.specs.declared.snapshot.SnapshotFile.{SnapshotFile}
use Rattle.manifest_file.specs.declared.manifest.ManifestFile.{ManifestFile}
use Rattle.txn_file.specs.declared.log.TxnFile.{TxnFile}
use Rattle.object_store.specs.declared.keys.Key.TheVariants.{Snapshot, Manifest, Txn, Chunk, Branch}
use Rattle.object_store.specs.declared.events.Op.TheVariants.{Get}
use Rattle.store_api.specs.declared.machines.Refusal.{Refusal}
use Rattle.store_api.specs.declared.machines.Refusal.TheVariants.{NoRef, Missing, BadFile}
use Rattle.store_api.specs.declared.machines.Refusal.TheVariants.{StoreFault, NoMemory}
use Rattle.store_api.specs.Program.{Done, Ask}
use Rattle.store_api.specs.Running.{Program}
use Rattle.repo_read.specs.declared.answers.Resolved.{Resolved}
use Rattle.repo_read.specs.Answers.{ref_told, snapshot_told, manifest_told, log_told, object_told}

-- gets a branch
abbrev pub resolve_program : (branch : List ℕ) → Program Resolved
resolve_program branch = Ask (Get (Branch branch)) (λ reply. Done (ref_told branch reply))

-- gets a snapshot
abbrev pub snapshot_program : Id12 → Program SnapshotFile
snapshot_program id = Ask (Get (Snapshot id)) (λ reply. Done (snapshot_told id reply))

-- gets a manifest
abbrev pub manifest_program : Id12 → Program ManifestFile
manifest_program id = Ask (Get (Manifest id)) (λ reply. Done (manifest_told id reply))

-- gets a transaction log
abbrev pub log_program : Id12 → Program TxnFile
log_program id = Ask (Get (Txn id)) (λ reply. Done (log_told id reply))

-- gets an object, for the chunk of `want` bytes in this part of it
abbrev pub object_program : (want : ℕ) → Id12 → (offset size : ℕ) → Program (List ℕ)
object_program want id offset size =
    Ask (Get (Chunk id)) (λ reply. Done (object_told want id offset size reply))

-- the refusals of a reading
abbrev pub MayRefuseRef : Refusal → Type 0
MayRefuseRef NoRef = Unit {0}
MayRefuseRef (BadFile key bad) = Unit {0}
MayRefuseRef StoreFault = Unit {0}
MayRefuseRef NoMemory = Unit {0}
MayRefuseRef _ = ⊥

-- why a read of a snapshot, a manifest, a log or an object with a chunk may be refused
abbrev pub MayRefuseObject : Refusal → Type 0
MayRefuseObject (Missing key) = Unit {0}
MayRefuseObject (BadFile key bad) = Unit {0}
MayRefuseObject StoreFault = Unit {0}
MayRefuseObject NoMemory = Unit {0}
MayRefuseObject _ = ⊥
