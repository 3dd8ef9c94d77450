-- What a check has still to do, where it stands.
use Rattle.std.specs.Prelude.{◌≡◌, ◌<◌, ◌≤◌, ℕ, ◌+◌, ◌*◌, ◌^◌, not}
use Rattle.std.specs.Prelude.{Bool, true, false, if◌then◌else◌, List, [], ◌∷◌}
use Rattle.std.specs.Prelude.{length, Option, Some, None, Result, Ok, Err}
use Rattle.ice_ids.specs.declared.Id12.{Id12}
use Rattle.ice_ids.specs.Sets.{has_object}
use Rattle.object_store.specs.declared.keys.Key.{Key}
use Rattle.object_store.specs.declared.keys.Key.TheVariants.{Snapshot, Manifest, Txn, Chunk}
use Rattle.object_store.specs.declared.keys.Part.TheVariants.{Branches, Tags}
use Rattle.object_store.specs.declared.events.Op.{Op}
use Rattle.object_store.specs.declared.events.Op.TheVariants.{Get, List as ListPart}
use Rattle.object_store.specs.declared.events.Reply.{Reply}
use Rattle.object_store.specs.declared.events.Reply.TheVariants.{Got as Is_got, Listed as Is_listed}
use Rattle.object_store.specs.declared.events.StoreFault.{StoreFault}
use Rattle.object_store.specs.declared.events.StoreFault.TheVariants.{Failed, NoMemory as No_room}
use Rattle.store_api.specs.declared.machines.Refusal.{Refusal}
use Rattle.store_api.specs.declared.machines.Refusal.TheVariants.{StoreFault as Refused_fault}
use Rattle.store_api.specs.Plays.{Or, dooms}
use Rattle.check_reports.specs.declared.faults.Checked.{Checked}
use Rattle.repo_read.specs.Chains.{most_snapshots}
use Rattle.intact.specs.declared.visits.FileVisit.{FileVisit}
use Rattle.intact.specs.declared.visits.PartVisit.{PartVisit}
use Rattle.intact.specs.Told.{found_ref, found_snapshot, found_log, found_manifest, found_part}
use Rattle.intact.specs.Places.{SnapshotLeft, many, most_steps}
use Rattle.repo_check.specs.declared.standing.Checking.{Checking}
use Rattle.repo_check.specs.declared.standing.Checking.TheVariants as state
use Rattle.repo_check.specs.declared.course.Course.{Course}
use Rattle.repo_check.specs.Works.{Work, has_file, has_part}
use Rattle.repo_check.specs.Plays.{Answer, ends_with, starved, asks, on_got, on_listed}
use Rattle.repo_check.specs.Plays.{roots_with, told_ref, told_part, told_log, get_refs}
use Rattle.repo_check.specs.Plays.{get_parts, get_files, after_file, after_snapshot, onward}
use Rattle.repo_check.specs.Plays.{walk, walks, then_tags, refused_by_fault, tells_failure}

-- ---- what is taken
-- the first of a list is taken
abbrev pub Takes : {A : Type 0} → List A → Option A → List A → Type 0
Takes old None new = (old ≡ []) × (new ≡ [])
Takes old (Some x) new = old ≡ x ∷ new

-- from the first on that wasn't met
unfoldable pub new_roots : (met : List Id12) → List Id12 → List Id12
new_roots met [] = []
new_roots met (id ∷ ids) = if has_object met id then new_roots met ids else id ∷ ids

unfoldable pub new_files : (met : List FileVisit) → List FileVisit → List FileVisit
new_files met [] = []
new_files met (f ∷ fs) = if has_file met f then new_files met fs else f ∷ fs

unfoldable pub new_parts : (met : List PartVisit) → List PartVisit → List PartVisit
new_parts met [] = []
new_parts met (p ∷ ps) = if has_part met p then new_parts met ps else p ∷ ps

-- that one is taken, with what stands before it
abbrev pub TakesRoot : (met : List Id12) → List Id12 → Option Id12 → List Id12 → Type 0
TakesRoot met old None new = (new_roots met old ≡ []) × (new ≡ [])
TakesRoot met old (Some id) new = (new_roots met old ≡ id ∷ new) × (length new < length old)

abbrev pub TakesNewFile : (met : List FileVisit) → SnapshotLeft → Option FileVisit
    → SnapshotLeft → Type 0
TakesNewFile met old None new = (new_files met old.files ≡ []) × (new.parent ≡ old.parent)
TakesNewFile met old (Some f) new =
    (new_files met old.files ≡ f ∷ new.files) × (new.parent ≡ old.parent) × (new.steps < old.steps)

abbrev pub TakesNewPart : (met : List PartVisit) → List PartVisit → Option PartVisit
    → List PartVisit → Type 0
TakesNewPart met old None new = new_parts met old ≡ []
TakesNewPart met old (Some p) new = (new_parts met old ≡ p ∷ new) × (length new < length old)

-- ---- what follows
abbrev pub parent_rest : (left : ℕ) → (roots : List Id12) → Option Id12 → Work → Answer
parent_rest left roots parent w = onward (walk left (walks roots)) parent w (walks roots)

abbrev pub files_rest : (left : ℕ) → (roots : List Id12) → SnapshotLeft → Work → Answer
files_rest left roots place w = get_files place.files w (parent_rest left roots place.parent)

abbrev pub parts_rest : (left : ℕ) → (roots : List Id12) → List PartVisit
    → SnapshotLeft → Work → Answer
parts_rest left roots parts place w = get_parts parts w (files_rest left roots place)

-- the operation that comes next
abbrev pub checking_op : Checking → Op
checking_op state.Branches = ListPart Branches
checking_op (state.Branch key) = Get key
checking_op state.Tags = ListPart Tags
checking_op (state.Tag key) = Get key
checking_op (state.Snapshot id) = Get (Snapshot id)
checking_op (state.Log id place) = Get (Txn id)
checking_op (state.File f place) = Get (Manifest f.manifest)
checking_op (state.Part p parts place) = Get (Chunk p.object)
checking_op (state.Ended result) = ListPart Branches

-- ... and what follows its reply
abbrev pub heard_in : Checking → Course → Reply → Answer
heard_in state.Branches c reply =
    on_listed c.work (λ keys. get_refs keys c.roots c.work then_tags) reply
heard_in (state.Branch key) c reply =
    on_got c.work (λ got. get_refs c.names (roots_with c.roots (found_ref got))
    (told_ref key (found_ref got) c.work) then_tags) reply
heard_in state.Tags c reply = on_listed c.work (λ keys. get_refs keys c.roots c.work walks) reply
heard_in (state.Tag key) c reply =
    on_got c.work (λ got. get_refs c.names (roots_with c.roots (found_ref got))
    (told_ref key (found_ref got) c.work) walks) reply
heard_in (state.Snapshot id) c reply =
    on_got c.work (λ got. after_snapshot (walk c.left (walks c.roots)) id c.work (walks c.roots)
    (found_snapshot id got)) reply
heard_in (state.Log id place) c reply =
    on_got c.work
    (λ got. files_rest c.left c.roots place (told_log id (found_log id got) c.work)) reply
heard_in (state.File f place) c reply =
    on_got c.work
    (λ got. after_file f c.work (files_rest c.left c.roots place) (found_manifest f got)) reply
heard_in (state.Part p parts place) c reply = on_got c.work
    (λ got. parts_rest c.left c.roots parts place (told_part p (found_part p got) c.work)) reply
heard_in (state.Ended result) c reply = ends_with c.work result

abbrev pub checking_rest : Checking → Course → Answer
checking_rest state.Branches c = asks (ListPart Branches) c.work (heard_in state.Branches c)
checking_rest (state.Branch key) c = asks (Get key) c.work (heard_in (state.Branch key) c)
checking_rest state.Tags c = asks (ListPart Tags) c.work (heard_in state.Tags c)
checking_rest (state.Tag key) c = asks (Get key) c.work (heard_in (state.Tag key) c)
checking_rest (state.Snapshot id) c =
    asks (Get (Snapshot id)) c.work (heard_in (state.Snapshot id) c)
checking_rest (state.Log id place) c = asks (Get (Txn id)) c.work (heard_in (state.Log id place) c)
checking_rest (state.File f place) c =
    asks (Get (Manifest f.manifest)) c.work (heard_in (state.File f place) c)
checking_rest (state.Part p parts place) c =
    asks (Get (Chunk p.object)) c.work (heard_in (state.Part p parts place) c)
checking_rest (state.Ended result) c = ends_with c.work result

abbrev pub is_live : Checking → Bool
is_live (state.Ended result) = false
is_live state.Branches = true
is_live (state.Branch key) = true
is_live state.Tags = true
is_live (state.Tag key) = true
is_live (state.Snapshot id) = true
is_live (state.Log id place) = true
is_live (state.File f place) = true
is_live (state.Part p parts place) = true

-- no fault of the store is told
abbrev pub is_calm : Checking → Bool
is_calm (state.Ended result) = not (refused_by_fault result)
is_calm state.Branches = true
is_calm (state.Branch key) = true
is_calm state.Tags = true
is_calm (state.Tag key) = true
is_calm (state.Snapshot id) = true
is_calm (state.Log id place) = true
is_calm (state.File f place) = true
is_calm (state.Part p parts place) = true

-- behind the answer to an operation
abbrev pub answered_rest : Checking → Course → Result Reply StoreFault → Answer
answered_rest state c (Ok reply) = Or (heard_in state c reply) (starved c.work)
answered_rest state c (Err Failed) = ends_with c.work (Err Refused_fault)
answered_rest state c (Err No_room) = starved c.work

-- it asks for an object
abbrev pub asks_get : Checking → Bool
asks_get state.Branches = false
asks_get (state.Branch key) = true
asks_get state.Tags = false
asks_get (state.Tag key) = true
asks_get (state.Snapshot id) = true
asks_get (state.Log id place) = true
asks_get (state.File f place) = true
asks_get (state.Part p parts place) = true
asks_get (state.Ended result) = false

-- it asks for a listing
abbrev pub asks_list : Checking → Bool
asks_list state.Branches = true
asks_list (state.Branch key) = false
asks_list state.Tags = true
asks_list (state.Tag key) = false
asks_list (state.Snapshot id) = false
asks_list (state.Log id place) = false
asks_list (state.File f place) = false
asks_list (state.Part p parts place) = false
asks_list (state.Ended result) = false

-- the reply is to what it asks for
abbrev pub is_answer : Checking → Reply → Bool
is_answer s (Is_got got) = asks_get s
is_answer s (Is_listed l) = asks_list s
is_answer s _ = false

-- ---- how many steps are left at most
-- a manifest with its parts; a snapshot with its log and manifests; a walk; a ref
abbrev pub file_cost : ℕ
file_cost = many + 2

abbrev pub snapshot_cost : ℕ
snapshot_cost = 2 + most_steps * file_cost

abbrev pub root_cost : ℕ
root_cost = most_snapshots * snapshot_cost

abbrev pub name_cost : ℕ
name_cost = 1 + root_cost

abbrev pub roots_left : Course → ℕ
roots_left c = length c.roots * root_cost

abbrev pub walk_left : Course → ℕ
walk_left c = c.left * snapshot_cost + roots_left c

abbrev pub files_left : SnapshotLeft → Course → ℕ
files_left place c = place.steps * file_cost + walk_left c

abbrev pub parts_left : List PartVisit → SnapshotLeft → Course → ℕ
parts_left parts place c = length parts + files_left place c

abbrev pub tags_left : Course → ℕ
tags_left c = length c.names * name_cost + roots_left c

abbrev pub all_tags_left : Course → ℕ
all_tags_left c = 1 + many * name_cost + roots_left c

abbrev pub branches_left : Course → ℕ
branches_left c = length c.names * name_cost + all_tags_left c

abbrev pub checking_left : Checking → Course → ℕ
checking_left state.Branches c = 1 + many * name_cost + all_tags_left c
checking_left (state.Branch key) c = 1 + root_cost + branches_left c
checking_left state.Tags c = all_tags_left c
checking_left (state.Tag key) c = 1 + root_cost + tags_left c
checking_left (state.Snapshot id) c = snapshot_cost + walk_left c
checking_left (state.Log id place) c = 1 + files_left place c
checking_left (state.File f place) c = many + 1 + files_left place c
checking_left (state.Part p parts place) c = 1 + parts_left parts place c
checking_left (state.Ended result) c = 0
