-- The program that reads of one ref what an expiry has to know, and answers what is to be
-- done. It makes gets alone. (Own.)
use Rattle.std.specs.Prelude.{ℕ, zero, suc, nat_lt, ◌&&◌, if◌then◌else◌, List}
use Rattle.std.specs.Prelude.{length, Option, Some, None, Result, Ok, Err}
use Rattle.flat_tables.specs.declared.header.Kind.TheVariants as kinds
use Rattle.flat_tables.specs.File.{file_limit}
use Rattle.ice_ids.specs.Text.{initial_id, same_id12}
use Rattle.ice_ids.specs.declared.Id12.{Id12}
use Rattle.snapshot_file.specs.declared.snapshot.SnapshotFile.{SnapshotFile}
use Rattle.snapshot_file.specs.Layout.{snapshot_bytes}
use Rattle.repo_objects.specs.Readings.{read_ref, read_snapshot}
use Rattle.object_store.specs.declared.keys.Key.{Key}
use Rattle.object_store.specs.declared.keys.Key.TheVariants.{Snapshot}
use Rattle.object_store.specs.declared.events.Version.{Version}
use Rattle.object_store.specs.declared.events.Op.{Op}
use Rattle.object_store.specs.declared.events.Op.TheVariants.{Get}
use Rattle.object_store.specs.declared.events.Got.TheVariants.{Found, Absent}
use Rattle.object_store.specs.declared.events.Reply.{Reply}
use Rattle.object_store.specs.declared.events.Reply.TheVariants.{Got}
use Rattle.store_api.specs.declared.machines.Refusal.{Refusal}
use Rattle.store_api.specs.declared.machines.Refusal.TheVariants.{Missing, BadFile, TooDeep}
use Rattle.store_api.specs.declared.machines.Refusal.TheVariants.{TooLarge, StoreFault, NoMemory}
use Rattle.store_api.specs.Program.{Done, Ask}
use Rattle.store_api.specs.Running.{Program, on_answer}
use Rattle.repo_read.specs.declared.answers.Resolved.{Resolved}
use Rattle.repo_read.specs.Answers.{at_key, resolved_at}
use Rattle.expiry.specs.declared.terms.Terms.{Terms}
use Rattle.expiry.specs.declared.look.Decision.{Decision}
pub use Rattle.expiry.specs.declared.look.Seen.{Seen}
use Rattle.expiry.specs.declared.look.Decision.TheVariants.{Gone, Keeps, Drops, Cuts}
use Rattle.expiry.specs.Verdicts.{is_older, may_drop, cut_file}

-- one operation, and what follows with what its reply tells
abbrev pub asks : {A B : Type 0} → Op → (Reply → Result A Refusal) → (A → Program B) → Program B
asks op told next = Ask op (λ reply. on_answer next (told reply))

-- ---- what replies tell
abbrev pub if_there : Result Resolved Refusal → Result (Option Resolved) Refusal
if_there (Ok named) = Ok (Some named)
if_there (Err why) = Err why

-- the snapshot that a ref names and the version at which it does, if the ref is there
abbrev pub ref_seen : Key → Reply → Result (Option Resolved) Refusal
ref_seen key (Got (Found bytes version now)) =
    if_there (resolved_at version (at_key key (read_ref bytes)))
ref_seen key (Got (Absent now)) = Ok None
ref_seen key _ = Err StoreFault

abbrev pub seen_at : Version → Result SnapshotFile Refusal → Result Seen Refusal
seen_at version (Ok file) = Ok (record { file = file; version = version })
seen_at version (Err why) = Err why

abbrev pub snapshot_seen : Id12 → Reply → Result Seen Refusal
snapshot_seen id (Got (Found bytes version now)) =
    seen_at version (at_key (Snapshot id) (read_snapshot id bytes))
snapshot_seen id (Got (Absent now)) = Err (Missing (Snapshot id))
snapshot_seen id _ = Err StoreFault

-- ---- down the parents
abbrev pub but_initial : Option Id12 → Option Id12
but_initial None = None
but_initial (Some id) = if same_id12 id initial_id then None else Some id

-- The parent that is read next. The initial snapshot isn't read as one, and has none itself.
abbrev pub next_of : SnapshotFile → Option Id12
next_of s = if same_id12 s.id initial_id then None else but_initial s.parent

-- the file of a cut, which may not be longer than a file may be
abbrev pub cut_bytes : SnapshotFile → List ℕ
cut_bytes s = snapshot_bytes (cut_file s)

abbrev pub cuts : Seen → Result Decision Refusal
cuts seen =
    if nat_lt file_limit (length (cut_bytes seen.file)) then Err (TooLarge kinds.Snapshot)
    else Ok (Cuts seen.file.id seen.version (cut_bytes seen.file))

-- The walk from a snapshot that was read: to the first parent that is older, or to the end; no
-- more than so many more are read.
unfoldable pub look_below : (left cutoff : ℕ) → (last : Seen) → Option Id12 → Program Decision
look_below left cutoff last None = Done (Ok Keeps)
look_below zero cutoff last (Some id) = Done (Err TooDeep)
look_below (suc left) cutoff last (Some id) = asks (Get (Snapshot id)) (snapshot_seen id) (λ seen.
    if is_older cutoff seen.file then Done (cuts last)
    else look_below left cutoff seen (next_of seen.file))

-- ---- from the ref on
-- own: the snapshots below the first one that are read at most: one fewer than a walk reads
abbrev pub most_below : ℕ
most_below = 65535

abbrev pub look_head : Terms → (ref : Key) → Version → Seen → Program Decision
look_head t ref version head =
    if may_drop t ref && is_older t.cutoff head.file then Done (Ok (Drops version))
    else look_below most_below t.cutoff head (next_of head.file)

abbrev pub look_named : Terms → (ref : Key) → Option Resolved → Program Decision
look_named t ref None = Done (Ok Gone)
look_named t ref (Some named) =
    asks (Get (Snapshot named.id)) (snapshot_seen named.id) (look_head t ref named.version)

-- Gets the ref, and the snapshots down from the one that it names.
abbrev pub look_program : Terms → (ref : Key) → Program Decision
look_program t ref = asks (Get ref) (ref_seen ref) (look_named t ref)

-- the refusals of that
abbrev pub MayRefuseLook : Refusal → Type 0
MayRefuseLook (Missing key) = Unit {0}
MayRefuseLook (BadFile key bad) = Unit {0}
MayRefuseLook TooDeep = Unit {0}
MayRefuseLook (TooLarge kind) = Unit {0}
MayRefuseLook StoreFault = Unit {0}
MayRefuseLook NoMemory = Unit {0}
MayRefuseLook _ = ⊥
