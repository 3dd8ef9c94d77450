-- The program that marks, and answers the keys of what is doomed (own).
use Rattle.std.specs.Prelude.{ℕ, zero, suc, ◌||◌, ◌&&◌, not, nat_lt, Bool, true, false}
use Rattle.std.specs.Prelude.{List, [], ◌∷◌, ◌++◌, Option, Some, None, Result, Ok, Err}
use Rattle.ice_ids.specs.declared.Id12.{Id12}
use Rattle.ice_ids.specs.Text.{same_id12, initial_id}
use Rattle.ice_ids.specs.Sets.{has_object, with_object}
use Rattle.snapshot_file.specs.declared.snapshot.SnapshotFile.{SnapshotFile}
use Rattle.manifest_file.specs.declared.manifest.ManifestFile.{ManifestFile}
use Rattle.held_manifest.specs.Objects.{objects_of}
use Rattle.object_store.specs.declared.keys.Key.{Key}
use Rattle.object_store.specs.declared.keys.Key.TheVariants.{Snapshot, Manifest, Txn, Chunk}
use Rattle.object_store.specs.declared.keys.Key.TheVariants.{Branch, Tag, Tombstone, Lease}
use Rattle.object_store.specs.declared.keys.Part.{Part}
use Rattle.object_store.specs.declared.keys.Part.TheVariants.{Snapshots, Manifests, Txns}
use Rattle.object_store.specs.declared.keys.Part.TheVariants.{Chunks, Branches, Tags, Leases}
use Rattle.object_store.specs.declared.events.Entry.{Entry}
use Rattle.object_store.specs.declared.events.Op.{Op}
use Rattle.object_store.specs.declared.events.Op.TheVariants.{Get, List as ListPart}
use Rattle.object_store.specs.declared.events.Reply.{Reply}
use Rattle.store_api.specs.declared.machines.Refusal.{Refusal}
use Rattle.store_api.specs.declared.machines.Refusal.TheVariants.{Missing, BadFile, TooDeep}
use Rattle.store_api.specs.declared.machines.Refusal.TheVariants.{StoreFault, NoMemory, CutoffAhead}
use Rattle.store_api.specs.Program.{Done, Ask}
use Rattle.store_api.specs.Running.{Program, on_answer}
use Rattle.live_refs.specs.Live.{live}
use Rattle.chunk_gc.specs.Lines.{with_ids}
use Rattle.repo_objects.specs.Lines.{Line, no_ids, enter_some, enter_ids, enter_rows}
use Rattle.chunk_gc.specs.Told.{first_told, listed_told, ref_got, snapshot_got, manifest_got}

-- What a marking holds: the snapshots and the manifests that are found, the snapshots that were
-- read, the objects with chunks, the snapshots that leases named, whether all is got that refs
-- need, so that an absent object is passed over, and the keys of what is doomed.
pub record Work : Type 0 where
  pub cutoff : ℕ
  pub snapshots : Line
  pub files : Line
  pub logs : List Id12
  pub chunks : List Id12
  pub leased : List Id12
  pub passes : Bool
  pub doomed : List Key

abbrev pub no_work : ℕ → Work
no_work cutoff = record {
  cutoff = cutoff;
  snapshots = no_ids;
  files = no_ids;
  logs = [];
  chunks = [];
  leased = [];
  passes = false;
  doomed = [];
}

abbrev pub Answer : Type 0
Answer = Program (List Key)

-- one operation, and what follows with what its reply tells
abbrev pub asks : {A : Type 0} → Op → (Reply → Result A Refusal) → (A → Answer) → Answer
asks op told next = Ask op (λ reply. on_answer next (told reply))

-- ---- refs and leases
abbrev pub with_ref : Option Id12 → Work → Work
with_ref id w = record w { snapshots = enter_some id w.snapshots }

abbrev pub with_some : Option Id12 → List Id12 → List Id12
with_some None ids = ids
with_some (Some id) ids = ids ++ id ∷ []

abbrev pub with_lease : Option Id12 → Work → Work
with_lease id w = record w { leased = with_some id w.leased }

-- gets each of these, and adds what it names
unfoldable pub get_refs : (Option Id12 → Work → Work) → List Key → Work → (Work → Answer) → Answer
get_refs add [] w next = next w
get_refs add (key ∷ keys) w next =
    asks (Get key) (ref_got key) (λ id. get_refs add keys (add id w) next)

-- ---- manifests
abbrev pub with_objects : Option ManifestFile → List Id12 → List Id12
with_objects None ids = ids
with_objects (Some m) ids = with_ids ids (objects_of m)

abbrev pub with_file : Option ManifestFile → Work → Work
with_file m w = record w { chunks = with_objects m w.chunks }

abbrev pub leaving_files : List Id12 → Work → Work
leaving_files ids w = record w { files = record { all = w.files.all; todo = ids } }

-- gets each of these manifests
unfoldable pub get_files : List Id12 → Work → (Work → Answer) → Answer
get_files [] w next = next w
get_files (id ∷ ids) w next =
    asks (Get (Manifest id)) (manifest_got w.passes id)
    (λ m. get_files ids (with_file m (leaving_files ids w)) next)

-- ---- snapshots
abbrev pub with_snapshot : Id12 → SnapshotFile → Work → Work
with_snapshot id s w = record w {
  snapshots = enter_some s.parent w.snapshots;
  files = enter_rows s.nodes w.files;
  logs = with_object w.logs id;
}

abbrev pub leaving_snapshots : List Id12 → Work → Work
leaving_snapshots ids w = record w { snapshots = record { all = w.snapshots.all; todo = ids } }

-- the manifests of a snapshot that was got, those that weren't got before
abbrev pub mark_files : Work → (Work → Answer) → Answer
mark_files w next = get_files w.files.todo w next

-- behind the get of a snapshot: what it names, and `again`; or `past`, where it was passed over
abbrev pub mark_got : Id12 → (again : Work → Answer) → (past : Answer) → Work
    → Option SnapshotFile → Answer
mark_got id again past w None = past
mark_got id again past w (Some s) = mark_files (with_snapshot id s w) again

-- The marking: no more than so many snapshots are read. `end` follows it,
-- with how many may be read yet.
abbrev pub mark_last : (Work → Answer) → List Id12 → Work → Answer
mark_last end [] w = end w
mark_last end (id ∷ ids) w = Done (Err TooDeep)

unfoldable pub mark_next : (end again : Work → Answer) → List Id12 → Work → Answer
mark_next end again [] w = end w
mark_next end again (id ∷ ids) w =
    asks (Get (Snapshot id)) (snapshot_got w.passes id)
    (mark_got id again (mark_next end again ids (leaving_snapshots ids w))
    (leaving_snapshots ids w))

unfoldable pub mark : ℕ → (ℕ → Work → Answer) → Work → Answer
mark zero end w = mark_last (end zero) w.snapshots.todo w
mark (suc left) end w = mark_next (end (suc left)) (λ v. mark left end v) w.snapshots.todo w

-- ---- what is doomed
-- whether a key is marked, where these are found, and read; what is no object is never removed
abbrev pub is_kept : (snapshots files logs chunks : List Id12) → Key → Bool
is_kept snapshots files logs chunks (Snapshot id) =
    same_id12 id initial_id || has_object snapshots id
is_kept snapshots files logs chunks (Txn id) = same_id12 id initial_id || has_object logs id
is_kept snapshots files logs chunks (Manifest id) = has_object files id
is_kept snapshots files logs chunks (Chunk id) = has_object chunks id
is_kept snapshots files logs chunks (Branch name) = true
is_kept snapshots files logs chunks (Tag name) = true
is_kept snapshots files logs chunks (Tombstone name) = true
is_kept snapshots files logs chunks (Lease id) = true

abbrev pub keeps : Work → Key → Bool
keeps w key = is_kept w.snapshots.all w.files.all w.logs w.chunks key

abbrev pub dooms : Work → Entry → Bool
dooms w entry = nat_lt entry.created w.cutoff && not (keeps w entry.key)

abbrev pub with_key : Bool → Key → List Key → List Key
with_key true key keys = key ∷ keys
with_key false key keys = keys

-- the keys of the entries that pass the test, in their order
abbrev pub swept : (Entry → Bool) → List Entry → List Key
swept test [] = []
swept test (entry ∷ entries) = with_key (test entry) entry.key (swept test entries)

abbrev pub sweeping : List Entry → Work → Work
sweeping entries w = record w { doomed = w.doomed ++ swept (dooms w) entries }

-- ---- listings of objects
abbrev pub list_objects : Part → (Work → Answer) → Work → Answer
list_objects part next w = asks (ListPart part) listed_told (λ l. next (sweeping l.entries w))

abbrev pub told_doomed : Work → Answer
told_doomed w = Done (Ok w.doomed)

abbrev pub list_chunks : Work → Answer
list_chunks w = list_objects Chunks told_doomed w

abbrev pub list_manifests : Work → Answer
list_manifests w = list_objects Manifests list_chunks w

abbrev pub list_logs : Work → Answer
list_logs w = list_objects Txns list_manifests w

abbrev pub list_snapshots : Work → Answer
list_snapshots w = list_objects Snapshots list_logs w

-- ---- all of it
-- what leases named is found, and from here on an absent object is passed over
abbrev pub begin_leased : Work → Work
begin_leased w = record w { snapshots = enter_ids w.leased w.snapshots; passes = true }

abbrev pub mark_leased : ℕ → Work → Answer
mark_leased left w = mark left (λ n v. list_snapshots v) w

abbrev pub mark_needed : ℕ → Work → Answer
mark_needed left w = mark left (λ n v. mark_leased n (begin_leased v)) w

-- what refs need, or once that is got what leases need
abbrev pub marking : (passes : Bool) → ℕ → Work → Answer
marking false left w = mark_needed left w
marking true left w = mark_leased left w

abbrev pub list_leases : ℕ → Work → Answer
list_leases left w =
    asks (ListPart Leases) listed_told
    (λ l. get_refs with_lease (live l.entries) w (marking w.passes left))

abbrev pub list_tags : ℕ → Work → Answer
list_tags left w =
    asks (ListPart Tags) listed_told (λ l. get_refs with_ref (live l.entries) w (list_leases left))

abbrev pub list_branches : ℕ → Work → Answer
list_branches left w =
    asks (ListPart Branches) (first_told w.cutoff)
    (λ l. get_refs with_ref (live l.entries) w (list_tags left))

-- Lists the branches and gets each, then the tags without a tombstone, then the leases; marks
-- what refs need, and then what leases need, of which it reads so many snapshots at most; and
-- lists the objects. It answers the keys of those that are older than the cutoff and not
-- marked, in the order of the listings.
abbrev pub mark_program : (most cutoff : ℕ) → Answer
mark_program most cutoff = list_branches most (no_work cutoff)

-- the refusals of a marking
abbrev pub MayRefuseMark : Refusal → Type 0
MayRefuseMark (CutoffAhead now) = Unit {0}
MayRefuseMark (Missing key) = Unit {0}
MayRefuseMark (BadFile key bad) = Unit {0}
MayRefuseMark TooDeep = Unit {0}
MayRefuseMark StoreFault = Unit {0}
MayRefuseMark NoMemory = Unit {0}
MayRefuseMark _ = ⊥
