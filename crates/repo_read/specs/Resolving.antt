-- What a branch, a tag or an id names, and the program that reads it. (Icechunk specification
-- version 1, "Reference Files", "Tags".)
use Rattle.std.specs.Prelude.{ℕ, List, Some, None, Result, Ok, Err}
use Rattle.ice_ids.specs.declared.Id12.{Id12}
use Rattle.snapshot_file.specs.declared.snapshot.SnapshotFile.{SnapshotFile}
use Rattle.repo_objects.specs.Readings.{read_ref}
use Rattle.object_store.specs.declared.keys.Key.TheVariants.{Snapshot, Tag, Tombstone}
use Rattle.object_store.specs.declared.events.Op.TheVariants.{Get}
use Rattle.object_store.specs.declared.events.Got.TheVariants.{Found, Absent}
use Rattle.object_store.specs.declared.events.Reply.{Reply}
use Rattle.object_store.specs.declared.events.Reply.TheVariants.{Got}
use Rattle.store_api.specs.declared.machines.Refusal.{Refusal}
use Rattle.store_api.specs.declared.machines.Refusal.TheVariants.{NoRef, Missing, BadFile}
use Rattle.store_api.specs.declared.machines.Refusal.TheVariants.{StoreFault, NoMemory}
use Rattle.store_api.specs.Program.{Done, Ask}
use Rattle.store_api.specs.Running.{Program, ◌>>=◌}
use Rattle.repo_read.specs.Answers.{at_key, snapshot_told}
use Rattle.repo_read.specs.Programs.{resolve_program}
use Rattle.repo_read.specs.declared.resolving.At.{At}
use Rattle.repo_read.specs.declared.resolving.Named.{Named}

-- a snapshot that isn't named by a branch
abbrev pub alone : Id12 → Named
alone id = record { id = id; version = None }

-- the snapshot that a tag names
abbrev pub tag_told : (tag : List ℕ) → Reply → Result Id12 Refusal
tag_told tag (Got (Found bytes version now)) = at_key (Tag tag) (read_ref bytes)
tag_told tag (Got (Absent now)) = Err NoRef
tag_told tag _ = Err StoreFault

-- own: a tag with a tombstone counts as absent, whatever the tombstone holds
abbrev pub tombstone_told : Id12 → Reply → Result Id12 Refusal
tombstone_told id (Got (Found bytes version now)) = Err NoRef
tombstone_told id (Got (Absent now)) = Ok id
tombstone_told id _ = Err StoreFault

-- gets a tag, tombstone or not
abbrev pub tag_program : (tag : List ℕ) → Program Id12
tag_program tag = Ask (Get (Tag tag)) (λ reply. Done (tag_told tag reply))

-- gets the tombstone of a tag that names this snapshot
abbrev pub tombstone_program : (tag : List ℕ) → Id12 → Program Id12
tombstone_program tag id = Ask (Get (Tombstone tag)) (λ reply. Done (tombstone_told id reply))

-- gets what names a snapshot: a branch, or a tag and then its tombstone;
-- for an id there is nothing to get
abbrev pub resolve_at_program : At → Program Named
resolve_at_program (At.Branch name) = do
  read ← resolve_program name
  Done (Ok (record { id = read.id; version = Some read.version }))
resolve_at_program (At.Tag name) = do
  tagged ← tag_program name
  id ← tombstone_program name tagged
  Done (Ok (alone id))
resolve_at_program (At.Snapshot id) = Done (Ok (alone id))

-- ---- the snapshot that was named
-- own: of a snapshot that its own id names, absence is that of a ref; of one that a
-- branch or a tag names, it isn't
abbrev pub no_ref : Refusal → Refusal
no_ref (Missing key) = NoRef
no_ref why = why

abbrev pub but_refused : {A : Type 0} → (Refusal → Refusal) → Result A Refusal → Result A Refusal
but_refused f (Ok x) = Ok x
but_refused f (Err why) = Err (f why)

-- the snapshot that was named so
abbrev pub base_told : At → Id12 → Reply → Result SnapshotFile Refusal
base_told (At.Branch name) id reply = snapshot_told id reply
base_told (At.Tag name) id reply = snapshot_told id reply
base_told (At.Snapshot own) id reply = but_refused no_ref (snapshot_told id reply)

-- gets it
abbrev pub base_at_program : At → Id12 → Program SnapshotFile
base_at_program at id = Ask (Get (Snapshot id)) (λ reply. Done (base_told at id reply))

-- the refusals of its get
abbrev pub MayRefuseBase : Refusal → Type 0
MayRefuseBase NoRef = Unit {0}
MayRefuseBase (Missing key) = Unit {0}
MayRefuseBase (BadFile key bad) = Unit {0}
MayRefuseBase StoreFault = Unit {0}
MayRefuseBase NoMemory = Unit {0}
MayRefuseBase _ = ⊥
