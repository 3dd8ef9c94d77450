-- What a check does, from its beginning to its end (own).
use Rattle.std.specs.Prelude.{ℕ, zero, suc, Bool, true, false, if◌then◌else◌}
use Rattle.std.specs.Prelude.{List, [], ◌∷◌, ◌++◌, Option, Some, None, Result, Ok, Err}
use Rattle.ice_ids.specs.declared.Id12.{Id12}
use Rattle.ice_ids.specs.Text.{same_id12, initial_id}
use Rattle.ice_ids.specs.Sets.{has_object}
use Rattle.snapshot_file.specs.declared.snapshot.SnapshotFile.{SnapshotFile}
use Rattle.manifest_file.specs.declared.manifest.ManifestFile.{ManifestFile}
use Rattle.object_store.specs.declared.keys.Key.{Key}
use Rattle.object_store.specs.declared.keys.Key.TheVariants.{Snapshot, Manifest, Txn, Chunk}
use Rattle.object_store.specs.declared.keys.Part.{Part}
use Rattle.object_store.specs.declared.keys.Part.TheVariants.{Branches, Tags}
use Rattle.object_store.specs.declared.events.Op.{Op}
use Rattle.object_store.specs.declared.events.Op.TheVariants.{Get, List as ListPart}
use Rattle.object_store.specs.declared.events.Got.{Got}
use Rattle.object_store.specs.declared.events.Reply.{Reply}
use Rattle.object_store.specs.declared.events.Reply.TheVariants.{Got as Is_got, Listed as Is_listed}
use Rattle.store_api.specs.declared.machines.Refusal.{Refusal}
use Rattle.store_api.specs.declared.machines.Refusal.TheVariants.{TooDeep, StoreFault, NoMemory}
use Rattle.store_api.specs.Program.{is_fault}
use Rattle.store_api.specs.Plays.{Play, Ended, Ask, Or, behind}
use Rattle.repo_read.specs.Chains.{most_snapshots}
use Rattle.live_refs.specs.Live.{live}
use Rattle.check_reports.specs.declared.faults.FaultKind.{FaultKind}
use Rattle.check_reports.specs.declared.faults.FaultKind.TheVariants.{Ring}
use Rattle.check_reports.specs.declared.faults.Checked.{Checked}
use Rattle.intact.specs.declared.visits.FileVisit.{FileVisit}
use Rattle.intact.specs.declared.visits.PartVisit.{PartVisit}
use Rattle.intact.specs.Rows.{files_of}
use Rattle.intact.specs.Parts.{parts_of}
use Rattle.intact.specs.Told.{found_ref, found_snapshot, found_log, found_manifest, found_part}
use Rattle.repo_check.specs.declared.standing.CheckReport.{CheckReport}
use Rattle.repo_check.specs.Works.{Work, no_work, new_walk, has_file, has_part}
use Rattle.repo_check.specs.Works.{meet_snapshot, meet_file, meet_part, tell, verdict}

-- ---- outcomes
abbrev pub Answer : Type 0
Answer = Play CheckReport

abbrev pub refused_by_fault : Result Checked Refusal → Bool
refused_by_fault (Ok checked) = false
refused_by_fault (Err why) = is_fault why

abbrev pub tells_failure : CheckReport → Bool
tells_failure report = refused_by_fault report.result

-- whatever the end, the faults so far are told
abbrev pub ends_with : Work → Result Checked Refusal → Answer
ends_with w result = Ended (record { faults = w.faults; result = result })

abbrev pub starved : Work → Answer
starved w = ends_with w (Err NoMemory)

-- one operation; memory may be wanting for it and for its reply, but not where it failed
abbrev pub asks : Op → Work → (Reply → Answer) → Answer
asks op w next = Ask op (starved w) (λ reply. behind op reply (next reply) (starved w))

abbrev pub on_got : Work → (Got → Answer) → Reply → Answer
on_got w next (Is_got got) = next got
on_got w next _ = ends_with w (Err StoreFault)

-- the keys of a listing whose refs stand
abbrev pub on_listed : Work → (List Key → Answer) → Reply → Answer
on_listed w next (Is_listed l) = next (live l.entries)
on_listed w next _ = ends_with w (Err StoreFault)

-- ---- refs
abbrev pub roots_with : List Id12 → Result (Option Id12) FaultKind → List Id12
roots_with roots (Ok None) = roots
roots_with roots (Ok (Some id)) = roots ++ id ∷ []
roots_with roots (Err kind) = roots

abbrev pub told_ref : Key → Result (Option Id12) FaultKind → Work → Work
told_ref key (Ok id) w = w
told_ref key (Err kind) w = tell key kind w

-- gets each of these refs
unfoldable pub get_refs : List Key → List Id12 → Work → (List Id12 → Work → Answer) → Answer
get_refs [] roots w next = next roots w
get_refs (key ∷ keys) roots w next =
    asks (Get key) w
    (on_got w
    (λ got. get_refs keys (roots_with roots (found_ref got)) (told_ref key (found_ref got) w) next))

-- ---- parts of objects
abbrev pub told_part : PartVisit → Result (Unit {0}) FaultKind → Work → Work
told_part p (Ok fine) w = meet_part p w
told_part p (Err kind) w = tell (Chunk p.object) kind (meet_part p w)

-- gets each of these that wasn't got before
unfoldable pub get_parts : List PartVisit → Work → (Work → Answer) → Answer
get_parts [] w next = next w
get_parts (p ∷ ps) w next = if has_part w.parts p then get_parts ps w next else
    asks (Get (Chunk p.object))
    w (on_got w (λ got. get_parts ps (told_part p (found_part p got) w) next))

-- ---- manifests
abbrev pub after_file : FileVisit → Work → (Work → Answer) → Result ManifestFile FaultKind → Answer
after_file f w next (Ok m) = get_parts (parts_of f m) (meet_file f w) next
after_file f w next (Err kind) = next (tell (Manifest f.manifest) kind (meet_file f w))

-- gets each of these that wasn't got before, and behind each the parts that it names
unfoldable pub get_files : List FileVisit → Work → (Work → Answer) → Answer
get_files [] w next = next w
get_files (f ∷ fs) w next = if has_file w.files f then get_files fs w next else
    asks (Get (Manifest f.manifest))
    w (on_got w (λ got. after_file f w (λ v. get_files fs v next) (found_manifest f got)))

-- ---- logs
abbrev pub told_log : Id12 → Result (Unit {0}) FaultKind → Work → Work
told_log id (Ok fine) w = w
told_log id (Err kind) w = tell (Txn id) kind w

-- gets the log of a snapshot; the initial one has none
abbrev pub get_log : Id12 → Work → (Work → Answer) → Answer
get_log id w next =
    if same_id12 id initial_id then next w
    else asks (Get (Txn id)) w (on_got w (λ got. next (told_log id (found_log id got) w)))

-- ---- snapshots
-- A snapshot that this walk met is a ring, and one that an earlier walk met ends this one.
abbrev pub meets : Id12 → Work → (next : Work → Answer) → (fresh : Answer) → Answer
meets id w next fresh =
    if has_object w.walk id then Or (next (tell (Snapshot id) Ring w)) (starved w) else
    (if has_object w.met id then next w else fresh)

-- on to the parent
abbrev pub onward : (Id12 → Work → Answer) → Option Id12 → Work → (Work → Answer) → Answer
onward go None w next = next w
onward go (Some parent) w next = go parent w

-- the log of a snapshot that was read, its manifests, and its parent
abbrev pub read_on : (Id12 → Work → Answer) → Id12 → SnapshotFile → Work → (Work → Answer) → Answer
read_on go id s w next =
    get_log id w (λ v. get_files (files_of s.nodes) v (λ u. onward go s.parent u next))

abbrev pub after_snapshot : (Id12 → Work → Answer) → Id12 → Work → (Work → Answer)
    → Result SnapshotFile FaultKind → Answer
after_snapshot go id w next (Ok s) = read_on go id s (meet_snapshot id w) next
after_snapshot go id w next (Err kind) = next (tell (Snapshot id) kind (meet_snapshot id w))

-- gets the snapshots from this one along the parents, no more than so many, each with its log and
-- manifests; `next` follows the walk
unfoldable pub walk : ℕ → (Work → Answer) → Id12 → Work → Answer
walk zero next id w = meets id w next (ends_with w (Err TooDeep))
walk (suc left) next id w =
    meets id w next
    (asks (Get (Snapshot id))
    w (on_got w (λ got. after_snapshot (walk left next) id w next (found_snapshot id got))))

-- walks from each of these snapshots
unfoldable pub walks : List Id12 → Work → Answer
walks [] w = ends_with w (verdict w)
walks (id ∷ ids) w = walk most_snapshots (walks ids) id (new_walk w)

-- ---- all of it
abbrev pub list_refs : Part → List Id12 → Work → (List Id12 → Work → Answer) → Answer
list_refs part roots w next =
    asks (ListPart part) w (on_listed w (λ keys. get_refs keys roots w next))

abbrev pub then_tags : List Id12 → Work → Answer
then_tags roots w = list_refs Tags roots w walks

-- Lists the branches and gets each, then the tags without a tombstone; and walks from
-- each snapshot that these name.
abbrev pub check_play : Answer
check_play = list_refs Branches [] no_work then_tags
