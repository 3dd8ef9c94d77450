-- The program that copies a repository into a second store (own; Icechunk specification version 1,
-- "Reference Files", "Snapshots").
use Rattle.std.specs.Prelude.{ℕ, zero, suc, ◌+◌, bytes_eq, if◌then◌else◌, Bool, true, false}
use Rattle.std.specs.Prelude.{List, [], ◌∷◌, ◌++◌, Option, Some, None, Result, Ok, Err}
use Rattle.ice_ids.specs.declared.Id12.{Id12}
use Rattle.ice_ids.specs.Text.{same_id12, initial_id}
use Rattle.ice_ids.specs.Sets.{has_object, with_object}
use Rattle.snapshot_file.specs.declared.snapshot.SnapshotFile.{SnapshotFile}
use Rattle.manifest_file.specs.declared.manifest.ManifestFile.{ManifestFile}
use Rattle.held_manifest.specs.Objects.{objects_of}
use Rattle.ref_file.specs.Refs.{ref_bytes}
use Rattle.repo_objects.specs.Readings.{read_snapshot, read_manifest, read_log}
use Rattle.object_store.specs.declared.keys.Key.{Key}
use Rattle.object_store.specs.declared.keys.Key.TheVariants.{Snapshot, Manifest, Txn, Chunk}
use Rattle.object_store.specs.declared.keys.Key.TheVariants.{Branch, Tag, Tombstone, Lease}
use Rattle.object_store.specs.declared.keys.Part.{Part}
use Rattle.object_store.specs.declared.keys.Part.TheVariants as part
use Rattle.object_store.specs.declared.keys.Why.{Why}
use Rattle.object_store.specs.declared.keys.Why.TheVariants as why
use Rattle.object_store.specs.declared.events.Version.{Version}
use Rattle.object_store.specs.declared.events.Op.{Op}
use Rattle.object_store.specs.declared.events.Op.TheVariants.{Get, PutNew, PutOver}
use Rattle.object_store.specs.declared.events.Op.TheVariants.{List as ListPart}
use Rattle.object_store.specs.declared.events.Reply.{Reply}
use Rattle.store_api.specs.declared.machines.Refusal.{Refusal}
use Rattle.store_api.specs.declared.machines.Refusal.TheVariants as R
use Rattle.repo_read.specs.declared.answers.Resolved.{Resolved}
use Rattle.repo_read.specs.Answers.{at_key, snapshot_told}
use Rattle.repo_read.specs.Chains.{most_snapshots}
use Rattle.live_refs.specs.Live.{live}
use Rattle.two_stores.specs.declared.side.Side.{Side}
use Rattle.two_stores.specs.declared.side.Side.TheVariants.{From, To}
use Rattle.two_stores.specs.Pairs.{PairProg, Done, Ask}
use Rattle.mirror_reports.specs.declared.outcome.RefId.{RefId}
use Rattle.mirror_reports.specs.declared.outcome.MirrorRef.{MirrorRef}
use Rattle.mirror_reports.specs.declared.outcome.Mirrored.{Mirrored}
use Rattle.mirror_reports.specs.declared.outcome.MirrorEnd.{MirrorEnd}
use Rattle.mirror.specs.declared.lines.Link.{Link}
use Rattle.repo_objects.specs.Lines.{Line, found, enter_ids, enter_rows}
use Rattle.mirror_reports.specs.Told.{key_of, listed_told, bytes_told, ref_told, buried_told}
use Rattle.mirror_reports.specs.Told.{put_told, made_told, moved_told, file_under, is_fine}

-- What a mirror holds: the snapshots that it has copied, the manifests and the objects with chunks
-- that it has come to, how many objects it has put, and what became of refs.
pub record Work : Type 0 where
  pub snapshots : List Id12
  pub manifests : List Id12
  pub chunks : List Id12
  pub counts : Mirrored
  pub refs : List MirrorRef

abbrev pub no_puts : Mirrored
no_puts = record { snapshots = 0; logs = 0; manifests = 0; chunks = 0 }

abbrev pub no_work : Work
no_work = record { snapshots = []; manifests = []; chunks = []; counts = no_puts; refs = [] }

abbrev pub Answer : Type 0
Answer = PairProg MirrorEnd

-- it ends so
abbrev pub ends : Work → Result Mirrored Refusal → MirrorEnd
ends w result = record { refs = w.refs; result = result }

abbrev pub refused : Work → Refusal → Answer
refused w reason = Done (ends w (Err reason))

-- what follows a value; a refusal ends it
abbrev pub on_told : {A : Type 0} → Work → (A → Answer) → Result A Refusal → Answer
on_told w next (Ok x) = next x
on_told w next (Err reason) = refused w reason

-- one operation on a side, and what follows with what its reply tells
abbrev pub asks : {A : Type 0} → Work → Side → Op → (Reply → Result A Refusal)
    → (A → Answer) → Answer
asks w side op told next =
    Ask side op (ends w (Err R.NoMemory)) (λ reply. on_told w next (told reply))

-- ---- objects
-- one more of such keys was put; what is no object isn't counted
abbrev pub counted : Key → Mirrored → Mirrored
counted (Snapshot id) m = record m { snapshots = m.snapshots + 1 }
counted (Txn id) m = record m { logs = m.logs + 1 }
counted (Manifest id) m = record m { manifests = m.manifests + 1 }
counted (Chunk id) m = record m { chunks = m.chunks + 1 }
counted (Branch name) m = m
counted (Tag name) m = m
counted (Tombstone name) m = m
counted (Lease id) m = m

abbrev pub with_put : Key → Work → Work
with_put key w = record w { counts = counted key w.counts }

-- the initial snapshot is put as the start of a repository, all else before its ref
abbrev pub cause_of : Key → Why
cause_of (Snapshot id) = if same_id12 id initial_id then why.Init else why.Set
cause_of (Txn id) = why.Set
cause_of (Manifest id) = why.Set
cause_of (Chunk id) = why.Set
cause_of (Branch name) = why.Create
cause_of (Tag name) = why.Tag
cause_of (Tombstone name) = why.Drop
cause_of (Lease id) = why.Lease

-- whether what stands in the target under a key is fine, where these bytes are the source's
abbrev pub fits_there : Key → (bytes there : List ℕ) → Result Bool Refusal
fits_there (Snapshot id) bytes there = is_fine id bytes there
fits_there (Txn id) bytes there = Ok (bytes_eq bytes there)
fits_there (Manifest id) bytes there = Ok (bytes_eq bytes there)
fits_there (Chunk id) bytes there = Ok (bytes_eq bytes there)
fits_there (Branch name) bytes there = Ok (bytes_eq bytes there)
fits_there (Tag name) bytes there = Ok (bytes_eq bytes there)
fits_there (Tombstone name) bytes there = Ok (bytes_eq bytes there)
fits_there (Lease id) bytes there = Ok (bytes_eq bytes there)

-- where it is fine it goes on
abbrev pub unless_differs : Key → Work → (Work → Answer) → Bool → Answer
unless_differs key w next true = next w
unless_differs key w next false = refused w (R.Differs key)

-- gets what stands in the target under a key, and goes on where it is fine
abbrev pub compare : Key → (bytes : List ℕ) → Work → (Work → Answer) → Answer
compare key bytes w next =
    asks w To (Get key) (bytes_told To key)
    (λ there. on_told w (unless_differs key w next) (fits_there key bytes there))

-- behind the put of an object: done, it is counted; where one was there, it is compared
abbrev pub put_behind : Key → (bytes : List ℕ) → Work → (Work → Answer) → Bool → Answer
put_behind key bytes w next true = next (with_put key w)
put_behind key bytes w next false = compare key bytes w next

-- puts an object in the target
abbrev pub put_object : Key → (bytes : List ℕ) → Work → (Work → Answer) → Answer
put_object key bytes w next =
    asks w To (PutNew key bytes (cause_of key)) put_told (put_behind key bytes w next)

-- gets an object of the source
abbrev pub take_object : Key → Work → (List ℕ → Answer) → Answer
take_object key w next = asks w From (Get key) (bytes_told From key) next

-- ---- from the chunks of a manifest up to a snapshot
-- copies these objects with chunks
unfoldable pub copy_chunks : List Id12 → Work → (Work → Answer) → Answer
copy_chunks [] w next = next w
copy_chunks (id ∷ ids) w next =
    take_object (Chunk id) w (λ bytes. put_object (Chunk id) bytes w (λ v. copy_chunks ids v next))

abbrev pub with_chunks : Line → Work → Work
with_chunks line w = record w { chunks = line.all }

-- puts a manifest, behind the objects in which it has chunks, those that it hasn't come to before
abbrev pub fill_manifest : Id12 → (bytes : List ℕ) → Work → (Work → Answer) → Line → Answer
fill_manifest id bytes w next line =
    copy_chunks line.todo (with_chunks line w) (λ v. put_object (Manifest id) bytes v next)

abbrev pub with_manifest : Id12 → (bytes : List ℕ) → Work → (Work → Answer) → ManifestFile → Answer
with_manifest id bytes w next m =
    fill_manifest id bytes w next (enter_ids (objects_of m) (found w.chunks))

abbrev pub copy_manifest : Id12 → Work → (Work → Answer) → Answer
copy_manifest id w next =
    take_object (Manifest id) w (λ bytes.
    on_told w (with_manifest id bytes w next) (at_key (Manifest id) (read_manifest id bytes)))

-- copies these manifests
unfoldable pub copy_manifests : List Id12 → Work → (Work → Answer) → Answer
copy_manifests [] w next = next w
copy_manifests (id ∷ ids) w next = copy_manifest id w (λ v. copy_manifests ids v next)

-- copies the log of a snapshot; the initial one has none
abbrev pub copy_log : Id12 → Work → (Work → Answer) → Answer
copy_log id w next =
    if same_id12 id initial_id then next w
    else take_object (Txn id) w (λ bytes.
    on_told w (λ log. put_object (Txn id) bytes w next) (at_key (Txn id) (read_log id bytes)))

abbrev pub with_copied : Id12 → Work → Work
with_copied id w = record w { snapshots = with_object w.snapshots id }

-- puts a snapshot, behind its manifests and its log
abbrev pub put_snapshot : Id12 → (bytes : List ℕ) → Work → (Work → Answer) → Answer
put_snapshot id bytes w next = put_object (Snapshot id) bytes w (λ v. next (with_copied id v))

abbrev pub with_manifests : Line → Work → Work
with_manifests line w = record w { manifests = line.all }

abbrev pub fill_snapshot : Id12 → (bytes : List ℕ) → Work → (Work → Answer) → Line → Answer
fill_snapshot id bytes w next line =
    copy_manifests line.todo (with_manifests line w)
    (λ v. copy_log id v (λ u. put_snapshot id bytes u next))

abbrev pub with_snapshot : Link → (bytes : List ℕ) → Work → (Work → Answer) → SnapshotFile → Answer
with_snapshot link bytes w next s =
    on_told w (λ file. fill_snapshot link.id file w next (enter_rows s.nodes (found w.manifests)))
    (file_under link.parent bytes s)

-- gets a snapshot again, and copies its manifests, its log, and it
abbrev pub copy_snapshot : Link → Work → (Work → Answer) → Answer
copy_snapshot link w next =
    take_object (Snapshot link.id) w (λ bytes. on_told w (with_snapshot link bytes w next)
    (at_key (Snapshot link.id) (read_snapshot link.id bytes)))

-- copies these snapshots, the oldest first
unfoldable pub copy_line : List Link → Work → (Work → Answer) → Answer
copy_line [] w next = next w
copy_line (link ∷ links) w next = copy_snapshot link w (λ v. copy_line links v next)

-- ---- down the parents
-- From a snapshot along the parents, down to one that this run has copied, or to the end; then
-- those are copied that were met. No more than so many more are read.
abbrev pub down_onto : (onto : List Link → Id12 → Answer) → List Link → Work → (Work → Answer)
    → Id12 → Option Id12 → Answer
down_onto onto links w next id None = copy_line (record { id = id; parent = None } ∷ links) w next
down_onto onto links w next id (Some parent) =
    onto (record { id = id; parent = Some parent } ∷ links) parent

abbrev pub down_behind : (onto : List Link → Id12 → Answer) → List Link → Work → (Work → Answer)
    → Id12 → SnapshotFile → Answer
down_behind onto links w next id s = down_onto onto links w next id s.parent

unfoldable pub down : (left : ℕ) → List Link → Work → (Work → Answer) → Id12 → Answer
down zero links w next id =
    if has_object w.snapshots id then copy_line links w next else refused w R.TooDeep
down (suc left) links w next id =
    if has_object w.snapshots id then copy_line links w next
    else asks w From (Get (Snapshot id)) (snapshot_told id)
    (down_behind (λ more parent. down left more w next parent) links w next id)

-- ---- refs
abbrev pub with_ref : RefId → Id12 → (put : Bool) → Work → Work
with_ref r id put w =
    record w { refs = w.refs ++ record { tag = r.tag; name = r.name; id = id; put = put } ∷ [] }

-- puts a ref that is absent
abbrev pub make_ref : RefId → Id12 → Work → (Work → Answer) → Answer
make_ref r id w next =
    asks w To (PutNew (key_of r) (ref_bytes id) (cause_of (key_of r))) made_told
    (λ done. next (with_ref r id true w))

-- puts a branch over that names another snapshot
abbrev pub move_ref : RefId → Id12 → Work → (Work → Answer) → Version → Answer
move_ref r id w next old =
    asks w To (PutOver (key_of r) (ref_bytes id) old why.Reset) moved_told
    (λ done. next (with_ref r id true w))

-- the target's ref can't follow
abbrev pub differs : RefId → Work → Answer
differs r w = refused w (R.Differs (key_of r))

-- of a tag that is there the tombstone is got: it is left where it has
-- none and names the same snapshot
abbrev pub unless_buried : RefId → Id12 → Work → (Work → Answer) → (there : Id12)
    → (buried : Bool) → Answer
unless_buried r id w next there true = differs r w
unless_buried r id w next there false =
    if same_id12 there id then next (with_ref r id false w) else differs r w

abbrev pub see_tag : RefId → Id12 → Work → (Work → Answer) → Id12 → Answer
see_tag r id w next there =
    asks w To (Get (Tombstone r.name)) buried_told (unless_buried r id w next there)

abbrev pub see_branch : RefId → Id12 → Work → (Work → Answer) → Resolved → Answer
see_branch r id w next there =
    if same_id12 there.id id then next (with_ref r id false w)
    else move_ref r id w next there.version

abbrev pub see_ref : RefId → Id12 → Work → (Work → Answer) → Option Resolved → Answer
see_ref r id w next None = make_ref r id w next
see_ref r id w next (Some there) =
    if r.tag then see_tag r id w next there.id else see_branch r id w next there

-- makes the target's ref name this snapshot
abbrev pub point : RefId → Id12 → Work → (Work → Answer) → Answer
point r id w next = asks w To (Get (key_of r)) (ref_told To (key_of r)) (see_ref r id w next)

-- behind the get of a ref of the source; one that is absent is passed over
abbrev pub behind_ref : RefId → Work → (Work → Answer) → Option Resolved → Answer
behind_ref r w next None = next w
behind_ref r w next (Some named) = down most_snapshots [] w (λ v. point r named.id v next) named.id

abbrev pub copy_ref : RefId → Work → (Work → Answer) → Answer
copy_ref r w next = asks w From (Get (key_of r)) (ref_told From (key_of r)) (behind_ref r w next)

-- copies each of these refs wholly
unfoldable pub copy_refs : List RefId → Work → (Work → Answer) → Answer
copy_refs [] w next = next w
copy_refs (r ∷ rs) w next = copy_ref r w (λ v. copy_refs rs v next)

-- ---- all of it
-- the branches and tags among keys
abbrev pub ref_ids : List Key → List RefId
ref_ids [] = []
ref_ids (Branch name ∷ keys) = record { tag = false; name = name } ∷ ref_ids keys
ref_ids (Tag name ∷ keys) = record { tag = true; name = name } ∷ ref_ids keys
ref_ids (Snapshot id ∷ keys) = ref_ids keys
ref_ids (Manifest id ∷ keys) = ref_ids keys
ref_ids (Txn id ∷ keys) = ref_ids keys
ref_ids (Chunk id ∷ keys) = ref_ids keys
ref_ids (Tombstone name ∷ keys) = ref_ids keys
ref_ids (Lease id ∷ keys) = ref_ids keys

-- lists a part of the source, and copies the refs of it that stand
abbrev pub copy_part : Part → Work → (Work → Answer) → Answer
copy_part p w next =
    asks w From (ListPart p) listed_told (λ l. copy_refs (ref_ids (live l.entries)) w next)

abbrev pub finish : Work → Answer
finish w = Done (ends w (Ok w.counts))

abbrev pub copy_tags : Work → Answer
copy_tags w = copy_part part.Tags w finish

-- The branches of the source are listed, and each is copied wholly;
-- then the tags without a tombstone.
abbrev pub mirror_program : Answer
mirror_program = copy_part part.Branches no_work copy_tags
