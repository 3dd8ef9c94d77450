-- What a mirror has still to do, by where it stands.
use Rattle.std.specs.Prelude.{◌≡◌, ◌⊎◌, ℕ, ◌+◌, ◌-◌, ◌*◌, Bool}
use Rattle.std.specs.Prelude.{List, [], ◌∷◌, length, Result, Ok, Err}
use Rattle.ice_ids.specs.declared.Id12.{Id12}
use Rattle.snapshot_file.specs.declared.snapshot.SnapshotFile.{SnapshotFile}
use Rattle.repo_objects.specs.declared.bad_objects.Bad.{Bad}
use Rattle.repo_objects.specs.Readings.{read_snapshot, read_manifest, read_log}
use Rattle.object_store.specs.declared.keys.Key.{Key}
use Rattle.object_store.specs.declared.keys.Key.TheVariants.{Snapshot, Manifest, Txn, Chunk}
use Rattle.object_store.specs.declared.events.Op.TheVariants.{Get}
use Rattle.store_api.specs.declared.machines.Refusal.{Refusal}
use Rattle.store_api.specs.declared.machines.Refusal.TheVariants.{NoMemory}
use Rattle.repo_read.specs.Answers.{at_key, snapshot_told}
use Rattle.two_stores.specs.declared.side.Side.TheVariants.{From}
use Rattle.two_stores.specs.Pairs.{Done}
use Rattle.mirror_reports.specs.declared.outcome.RefId.{RefId}
use Rattle.mirror_reports.specs.declared.outcome.MirrorRef.{MirrorRef}
use Rattle.mirror_reports.specs.declared.outcome.Mirrored.{Mirrored}
use Rattle.mirror.specs.declared.register.Phase.{Phase}
use Rattle.mirror.specs.declared.register.Phase.TheVariants.{Branches, Tags}
use Rattle.mirror.specs.declared.lines.Link.{Link}
use Rattle.mirror.specs.declared.mirror.Mirror.{Mirror}
use Rattle.mirror.specs.declared.mirror.Object.{Object}
use Rattle.mirror.specs.declared.mirror.Object.TheVariants as object
use Rattle.mirror.specs.declared.mirror.Stage.{Stage}
use Rattle.mirror.specs.declared.mirror.Stage.TheVariants as stage
use Rattle.mirror_reports.specs.Told.{file_under}
use Rattle.mirror.specs.Programs.{Work, Answer, ends, refused, on_told, asks, fits_there}
use Rattle.mirror.specs.Programs.{unless_differs, take_object, put_object, put_behind}
use Rattle.mirror.specs.Programs.{compare, copy_chunks, copy_manifests, copy_log, put_snapshot}
use Rattle.mirror.specs.Programs.{with_manifest, with_snapshot, with_copied, copy_line}
use Rattle.mirror.specs.Programs.{down, down_behind, point, copy_ref, make_ref, move_ref}
use Rattle.mirror.specs.Programs.{see_tag, copy_refs, copy_part, copy_tags, finish}
use Rattle.mirror.specs.inside.Registers.{part_of, many}

-- ---- what it holds
abbrev pub work_of : Mirror → Work
work_of m = record {
  snapshots = m.copied;
  manifests = m.files.all;
  chunks = m.chunks.all;
  counts = m.counts;
  refs = m.register.refs;
}

abbrev pub object_key : Object → Mirror → Key
object_key (object.Chunk id) m = Chunk id
object_key (object.Manifest id) m = Manifest id
object_key object.Log m = Txn m.link.id
object_key object.Snapshot m = Snapshot m.link.id

-- the bytes of an object, as they are put
abbrev pub object_bytes : Object → Mirror → List ℕ
object_bytes (object.Chunk id) m = m.object
object_bytes (object.Manifest id) m = m.manifest
object_bytes object.Log m = m.object
object_bytes object.Snapshot m = m.snapshot

-- how many objects of this kind were put
abbrev pub count_of : Object → Mirrored → ℕ
count_of (object.Chunk id) counts = counts.chunks
count_of (object.Manifest id) counts = counts.manifests
count_of object.Log counts = counts.logs
count_of object.Snapshot counts = counts.snapshots

-- ---- what follows
abbrev pub behind_refs : Phase → Work → Answer
behind_refs Branches w = copy_tags w
behind_refs Tags w = finish w

-- of the refs that are left the first is in work
abbrev pub on_first : List RefId → Work → (RefId → (Work → Answer) → Answer) → Phase → Answer
on_first [] w f phase = refused w NoMemory
on_first (r ∷ rs) w f phase = f r (λ v. copy_refs rs v (behind_refs phase))

abbrev pub behind_line : Mirror → Work → Answer
behind_line m w = on_first m.register.names w (λ r next. point r m.target w next) m.register.phase

abbrev pub behind_snapshot : Mirror → Work → Answer
behind_snapshot m w = copy_line m.line w (behind_line m)

abbrev pub behind_log : Mirror → Work → Answer
behind_log m w = put_snapshot m.link.id m.snapshot w (behind_snapshot m)

abbrev pub behind_files : Mirror → Work → Answer
behind_files m w = copy_log m.link.id w (behind_log m)

abbrev pub behind_manifest : Mirror → Work → Answer
behind_manifest m w = copy_manifests m.files.todo w (behind_files m)

abbrev pub behind_chunk : Mirror → Work → Answer
behind_chunk m w =
    copy_chunks m.chunks.todo w (λ v. put_object (Manifest m.file) m.manifest v (behind_manifest m))

-- behind an object that stands in the target
abbrev pub behind_object : Object → Mirror → Work → Answer
behind_object (object.Chunk id) m w = behind_chunk m w
behind_object (object.Manifest id) m w = behind_manifest m w
behind_object object.Log m w = behind_log m w
behind_object object.Snapshot m w = behind_snapshot m (with_copied m.link.id w)

-- behind its put: where another one was there, that is got
abbrev pub behind_put : Object → Mirror → Work → (done : Bool) → Answer
behind_put o m w = put_behind (object_key o m) (object_bytes o m) w (behind_object o m)

-- behind what stands in the target under its key
abbrev pub behind_same : Object → Mirror → Work → (there : List ℕ) → Answer
behind_same o m w there =
    on_told w (unless_differs (object_key o m) w (behind_object o m))
    (fits_there (object_key o m) (object_bytes o m) there)

-- behind the bytes of an object of the source
abbrev pub taken : Object → Mirror → Work → List ℕ → Answer
taken (object.Chunk id) m w bytes = put_object (Chunk id) bytes w (behind_chunk m)
taken (object.Manifest id) m w bytes =
    on_told w (with_manifest id bytes w (behind_manifest m))
    (at_key (Manifest id) (read_manifest id bytes))
taken object.Log m w bytes =
    on_told w (λ log. put_object (Txn m.link.id) bytes w (behind_log m))
    (at_key (Txn m.link.id) (read_log m.link.id bytes))
taken object.Snapshot m w bytes =
    on_told w (with_snapshot m.link bytes w (behind_snapshot m))
    (at_key (Snapshot m.link.id) (read_snapshot m.link.id bytes))

-- what is still to be done at a stage
abbrev pub stage_rest : Stage → Mirror → Work → Answer
stage_rest stage.List m w = copy_part (part_of m.register.phase) w (behind_refs m.register.phase)
stage_rest stage.Ref m w =
    on_first m.register.names w (λ r next. copy_ref r w next) m.register.phase
stage_rest (stage.Down id) m w =
    asks w From (Get (Snapshot id)) (snapshot_told id)
    (down_behind (λ more parent. down m.left more w (behind_line m) parent)
    m.line w (behind_line m) id)
stage_rest (stage.Take o) m w = take_object (object_key o m) w (taken o m w)
stage_rest (stage.Put o) m w = put_object (object_key o m) (object_bytes o m) w (behind_object o m)
stage_rest (stage.Same o) m w = compare (object_key o m) (object_bytes o m) w (behind_object o m)
stage_rest stage.Target m w = behind_line m w
stage_rest (stage.Tombstone there) m w =
    on_first m.register.names w (λ r next. see_tag r m.target w next there) m.register.phase
stage_rest stage.NewRef m w =
    on_first m.register.names w (λ r next. make_ref r m.target w next) m.register.phase
stage_rest (stage.OverRef old) m w =
    on_first m.register.names w (λ r next. move_ref r m.target w next old) m.register.phase
stage_rest stage.Ended m w = Done (ends w m.result)
stage_rest stage.Starved m w = refused w NoMemory

abbrev pub mirror_rest : Mirror → Answer
mirror_rest m = stage_rest m.stage m (work_of m)

-- a ref is in work
abbrev pub HasFirst : Mirror → Type 0
HasFirst m = (r : RefId) × (rs : List RefId) × (m.register.names ≡ r ∷ rs)

-- where memory may be wanting, this follows, or the end
abbrev pub Lands : List MirrorRef → (next rest : Answer) → Type 0
Lands refs next rest = (rest ≡ next) ⊎ (rest ≡ Done (record { refs = refs; result = Err NoMemory }))

-- where a reply tells why it is refused, it ends so: that takes no memory
abbrev pub EndsOutright : {A : Type 0} → Work → Result A Refusal → (rest : Answer) → Type 0
EndsOutright w (Ok x) rest = Unit {0}
EndsOutright w (Err reason) rest = rest ≡ refused w reason

-- P holds of what was read
abbrev pub Entered : {A : Type 0} → Result A Bad → (A → Type 0) → Type 0
Entered (Ok x) P = P x
Entered (Err bad) P = ⊥

-- why a snapshot that was got again is refused
abbrev pub Refuses : Link → List ℕ → Refusal → Type 0
Refuses link bytes reason =
    (at_key (Snapshot link.id) (read_snapshot link.id bytes) ≡ Err reason)
    ⊎ ((s : SnapshotFile) × (read_snapshot link.id bytes ≡ Ok s)
    × (file_under link.parent bytes s ≡ Err reason))

-- ---- how many steps are left at most
-- of one manifest, of one snapshot, and of one ref
abbrev pub each_manifest : ℕ
each_manifest = 3 * many + 3

abbrev pub each_snapshot : ℕ
each_snapshot = each_manifest * many + 6

abbrev pub each_ref : ℕ
each_ref = each_snapshot * many + 65542

abbrev pub tags_left : ℕ
tags_left = each_ref * many + 2

abbrev pub phase_left : Phase → ℕ
phase_left Branches = tags_left
phase_left Tags = 1

abbrev pub refs_left : Mirror → ℕ
refs_left m = each_ref * length m.register.names + phase_left m.register.phase

-- behind the ref in work
abbrev pub others_left : Mirror → ℕ
others_left m = each_ref * (length m.register.names - 1) + phase_left m.register.phase

abbrev pub line_left : Mirror → ℕ
line_left m = each_snapshot * length m.line + 3 + others_left m

abbrev pub files_left : Mirror → ℕ
files_left m = each_manifest * length m.files.todo + 5 + line_left m

abbrev pub chunks_left : Mirror → ℕ
chunks_left m = 3 * length m.chunks.todo + 2 + files_left m

-- behind an object, its put and its get in the target
abbrev pub object_left : Object → Mirror → ℕ
object_left (object.Chunk id) m = chunks_left m
object_left (object.Manifest id) m = files_left m
object_left object.Log m = 2 + line_left m
object_left object.Snapshot m = line_left m

-- behind the get of an object in the source
abbrev pub taken_left : Object → Mirror → ℕ
taken_left (object.Chunk id) m = 2 + chunks_left m
taken_left (object.Manifest id) m = 3 * many + 2 + files_left m
taken_left object.Log m = 4 + line_left m
taken_left object.Snapshot m = each_manifest * many + 5 + line_left m

abbrev pub stage_left : Stage → Mirror → ℕ
stage_left stage.List m = each_ref * many + 1 + phase_left m.register.phase
stage_left stage.Ref m = refs_left m
stage_left (stage.Down id) m = m.left + each_snapshot * many + 4 + others_left m
stage_left (stage.Take o) m = 1 + taken_left o m
stage_left (stage.Put o) m = 2 + object_left o m
stage_left (stage.Same o) m = 1 + object_left o m
stage_left stage.Target m = 3 + others_left m
stage_left (stage.Tombstone there) m = 2 + others_left m
stage_left stage.NewRef m = 1 + others_left m
stage_left (stage.OverRef old) m = 1 + others_left m
stage_left stage.Ended m = 0
stage_left stage.Starved m = 0

abbrev pub mirror_left : Mirror → ℕ
mirror_left m = stage_left m.stage m
