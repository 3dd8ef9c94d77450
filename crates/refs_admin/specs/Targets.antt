-- The program that gets the snapshot that a ref is to name. (Icechunk specification
-- version 1, "Reference Files".)
use Rattle.std.specs.Prelude.{Result}
use Rattle.ice_ids.specs.declared.Id12.{Id12}
use Rattle.snapshot_file.specs.declared.snapshot.SnapshotFile.{SnapshotFile}
use Rattle.object_store.specs.declared.keys.Key.TheVariants.{Snapshot}
use Rattle.object_store.specs.declared.events.Op.TheVariants.{Get}
use Rattle.object_store.specs.declared.events.Reply.{Reply}
use Rattle.store_api.specs.declared.machines.Refusal.{Refusal}
use Rattle.store_api.specs.declared.machines.Refusal.TheVariants.{Missing, NoSnapshot}
use Rattle.store_api.specs.Program.{Done, Ask}
use Rattle.store_api.specs.Running.{Program}
use Rattle.repo_read.specs.Answers.{snapshot_told}
use Rattle.repo_read.specs.Resolving.{but_refused}

-- of that a ref is to name, absence is told so
abbrev pub no_snapshot : Refusal → Refusal
no_snapshot (Missing key) = NoSnapshot
no_snapshot why = why

-- the snapshot is there and readable
abbrev pub target_told : Id12 → Reply → Result SnapshotFile Refusal
target_told id reply = but_refused no_snapshot (snapshot_told id reply)

-- gets the snapshot that a ref is to name
abbrev pub target_program : Id12 → Program SnapshotFile
target_program id = Ask (Get (Snapshot id)) (λ reply. Done (target_told id reply))
