-- A collection, by what its operations were told so far: what it may do next, what is
-- marked, and what is doomed (own).
use Rattle.std.specs.Prelude.{◌≡◌, ◌⊎◌, ℕ, ◌+◌, ◌<◌, nat_lt, Bool, true, false, if◌then◌else◌}
use Rattle.std.specs.Prelude.{List, [], ◌∷◌, ◌++◌, Contains, Option, Some, None}
use Rattle.ice_ids.specs.Text.{initial_id}
use Rattle.ice_ids.specs.declared.Id12.{Id12}
use Rattle.snapshot_file.specs.declared.snapshot.SnapshotFile.{SnapshotFile}
use Rattle.manifest_file.specs.declared.manifest.ManifestFile.{ManifestFile}
use Rattle.repo_objects.specs.Readings.{snapshot_by, manifest_by, ref_of}
use Rattle.repo_objects.specs.Trees.{NamesManifest}
use Rattle.object_store.specs.declared.keys.Key.{Key}
use Rattle.object_store.specs.declared.keys.Key.TheVariants.{Snapshot, Manifest, Txn, Chunk}
use Rattle.object_store.specs.declared.keys.Key.TheVariants.{Branch, Tag, Tombstone, Lease}
use Rattle.object_store.specs.declared.keys.Part.{Part}
use Rattle.object_store.specs.declared.keys.Part.TheVariants.{Snapshots, Manifests, Txns}
use Rattle.object_store.specs.declared.keys.Part.TheVariants.{Chunks, Branches, Tags, Leases}
use Rattle.object_store.specs.declared.keys.Why.TheVariants.{Collect}
use Rattle.object_store.specs.declared.events.Op.{Op}
use Rattle.object_store.specs.declared.events.Op.TheVariants.{Get, PutNew, PutOver, Remove}
use Rattle.object_store.specs.declared.events.Op.TheVariants.{RemoveAt, List as ListPart}
use Rattle.object_store.specs.declared.events.Got.{Got}
use Rattle.object_store.specs.declared.events.Got.TheVariants.{Found, Absent}
use Rattle.object_store.specs.declared.events.Gone.{Gone}
use Rattle.object_store.specs.declared.events.Gone.TheVariants.{Done as Gone_done}
use Rattle.object_store.specs.declared.events.Gone.TheVariants.{Absent as Gone_absent}
use Rattle.object_store.specs.declared.events.Entry.{Entry}
use Rattle.object_store.specs.declared.events.Listed.{Listed}
use Rattle.object_store.specs.declared.events.Reply.{Reply}
use Rattle.object_store.specs.declared.events.Reply.TheVariants.{Got as Is_got, Gone as Is_gone}
use Rattle.object_store.specs.declared.events.Reply.TheVariants.{Listed as Is_listed}
use Rattle.live_refs.specs.Live.{live}
use Rattle.collecting.specs.Marks.{MarkedBy, FoundBy}

-- the keys of snapshots, logs, manifests and chunks
abbrev pub IsObject : Key → Type 0
IsObject (Snapshot id) = Unit {0}
IsObject (Manifest id) = Unit {0}
IsObject (Txn id) = Unit {0}
IsObject (Chunk id) = Unit {0}
IsObject (Branch name) = ⊥
IsObject (Tag name) = ⊥
IsObject (Tombstone name) = ⊥
IsObject (Lease id) = ⊥

-- What a collection was told so far.
pub record Walk : Type 0 where
  pub branches : Option (List Key)  -- those still to be got; none where they aren't listed yet
  pub tags : Option (List Key)
  pub leases : Option (List Key)
  pub roots : List Id12  -- the snapshots that refs named
  pub leased : List Id12  -- those that leases named
  pub reads : List SnapshotFile  -- the snapshots that were got
  pub files : List ManifestFile  -- the manifests that were got
  pub absent : List Key  -- the snapshots and manifests that a get found absent
  pub lists : ℕ  -- how many of the four listings of objects were made
  pub listed : List Entry  -- what these had, in their order
  pub answered : List Key  -- the keys of removals that were answered, in their order
  pub removed : List Key  -- those of them that were told as removed
  pub over : Bool  -- an answer ended it

abbrev pub fresh : Walk
fresh = record {
  branches = None;
  tags = None;
  leases = None;
  roots = [];
  leased = [];
  reads = [];
  files = [];
  absent = [];
  lists = 0;
  listed = [];
  answered = [];
  removed = [];
  over = false;
}

-- ---- what is marked, and what is doomed
-- by what refs and leases named
abbrev pub Marked : Walk → Key → Type 0
Marked w key = MarkedBy (w.roots ++ w.leased) w.reads w.files key

abbrev pub IsFound : Walk → Id12 → Type 0
IsFound w id = Marked w (Snapshot id)

-- a snapshot that refs need: one that a ref named, or down its parents
abbrev pub IsNeeded : Walk → Id12 → Type 0
IsNeeded w id = FoundBy w.roots w.reads id

-- a snapshot that was read, and is found so, names the manifest
pub record IsNamedBy (Among : Id12 → Type 0) (w : Walk) (id : Id12) : Type 0 where
  pub snap : SnapshotFile
  pub read : Contains w.reads snap
  pub found : Among snap.id
  pub names : NamesManifest snap.nodes id

abbrev pub IsNamed : Walk → Id12 → Type 0
IsNamed w id = IsNamedBy (IsFound w) w id

-- a snapshot was read under this id
pub record IsRead (w : Walk) (id : Id12) : Type 0 where
  pub snap : SnapshotFile
  pub read : Contains w.reads snap
  pub id_is : snap.id ≡ id

-- a manifest was read under this id
pub record IsFileRead (w : Walk) (id : Id12) : Type 0 where
  pub file : ManifestFile
  pub read : Contains w.files file
  pub id_is : file.id ≡ id

-- Each snapshot that is found so was got (the initial one needn't be), and each manifest that
-- these name, or it was passed over.
pub record IsClosedBy (Among : Id12 → Type 0) (Passed : Key → Type 0) (w : Walk) : Type 0 where
  pub snapshots : (id : Id12) → Among id → (id ≡ initial_id) ⊎ (IsRead w id ⊎ Passed (Snapshot id))
  pub manifests : (id : Id12) → IsNamedBy Among w id → IsFileRead w id ⊎ Passed (Manifest id)

abbrev pub Nothing : Key → Type 0
Nothing key = ⊥

abbrev pub IsAbsent : Walk → Key → Type 0
IsAbsent w key = Contains w.absent key

-- All that refs need was got, and nothing of it passed over; and of all that is found,
-- nothing but what a get found absent.
pub record IsClosed (w : Walk) : Type 0 where
  pub needed : IsClosedBy (IsNeeded w) Nothing w
  pub all : IsClosedBy (IsFound w) (IsAbsent w) w

-- all objects are listed; this is the key of an object that is listed, older
-- than the cutoff, and not marked
pub record Doomed (cutoff : ℕ) (w : Walk) (key : Key) : Type 0 where
  pub whole : w.lists ≡ 4
  pub entry : Entry
  pub listed : Contains w.listed entry
  pub key_is : entry.key ≡ key
  pub object : IsObject key
  pub old : entry.created < cutoff
  pub unmarked : Marked w key → ⊥

-- ---- what it may do next
-- all refs and all leases were got
abbrev pub RefsRead : Walk → Type 0
RefsRead w = (w.branches ≡ Some []) × (w.tags ≡ Some []) × (w.leases ≡ Some [])

-- the first of those that are still to be got
abbrev pub IsFirstOf : Option (List Key) → Key → Type 0
IsFirstOf left key = (behind : List Key) × (left ≡ Some (key ∷ behind))

-- the key of a snapshot that is found so, or of a manifest that such a one names
abbrev pub IsWantedBy : (Id12 → Type 0) → Walk → Key → Type 0
IsWantedBy Among w (Snapshot id) = Among id
IsWantedBy Among w (Manifest id) = IsNamedBy Among w id
IsWantedBy Among w (Txn id) = ⊥
IsWantedBy Among w (Chunk id) = ⊥
IsWantedBy Among w (Branch name) = ⊥
IsWantedBy Among w (Tag name) = ⊥
IsWantedBy Among w (Tombstone name) = ⊥
IsWantedBy Among w (Lease id) = ⊥

abbrev pub IsWanted : Walk → Key → Type 0
IsWanted w key = IsWantedBy (IsFound w) w key

-- the next branch; then the next tag; then the next lease; then what is to be marked, in any order
pub data MayGet (w : Walk) (key : Key) : Type 0 where
  branch : IsFirstOf w.branches key → MayGet w key
  tag : w.branches ≡ Some [] → IsFirstOf w.tags key → MayGet w key
  lease : w.branches ≡ Some [] → w.tags ≡ Some [] → IsFirstOf w.leases key → MayGet w key
  object : RefsRead w → w.lists ≡ 0 → IsWanted w key → MayGet w key

-- branches, then tags, then leases, and when all is marked the objects
abbrev pub MayList : Walk → Part → Type 0
MayList w Branches = w.branches ≡ None
MayList w Tags = (w.branches ≡ Some []) × (w.tags ≡ None)
MayList w Leases = (w.branches ≡ Some []) × (w.tags ≡ Some []) × (w.leases ≡ None)
MayList w Snapshots = RefsRead w × (w.lists ≡ 0) × IsClosed w
MayList w Txns = RefsRead w × (w.lists ≡ 1) × IsClosed w
MayList w Manifests = RefsRead w × (w.lists ≡ 2) × IsClosed w
MayList w Chunks = RefsRead w × (w.lists ≡ 3) × IsClosed w

abbrev pub MayDo : ℕ → Walk → Op → Type 0
MayDo cutoff w (Get key) = MayGet w key
MayDo cutoff w (ListPart part) = MayList w part
MayDo cutoff w (Remove key why) = (why ≡ Collect) × RefsRead w × Doomed cutoff w key
MayDo cutoff w (PutNew key bytes why) = ⊥
MayDo cutoff w (PutOver key bytes old why) = ⊥
MayDo cutoff w (RemoveAt key old why) = ⊥

-- it isn't over, and this may come next
abbrev pub May : ℕ → Walk → Op → Type 0
May cutoff w op = (w.over ≡ false) × MayDo cutoff w op

-- ---- what it is told
abbrev pub ended : Walk → Walk
ended w = record w { over = true }

-- the snapshot that a ref names; bytes that are no reference end it
abbrev pub with_root : Walk → Option Id12 → Walk
with_root w None = ended w
with_root w (Some id) = record w { roots = w.roots ++ id ∷ [] }

-- the snapshot that a lease names
abbrev pub with_leased : Walk → Option Id12 → Walk
with_leased w None = ended w
with_leased w (Some id) = record w { leased = w.leased ++ id ∷ [] }

abbrev pub with_read : Walk → Option SnapshotFile → Walk
with_read w None = ended w
with_read w (Some s) = record w { reads = w.reads ++ s ∷ [] }

abbrev pub with_file : Walk → Option ManifestFile → Walk
with_file w None = ended w
with_file w (Some m) = record w { files = w.files ++ m ∷ [] }

-- a ref that is absent by now is passed over
abbrev pub told_ref : Walk → Got → Walk
told_ref w (Found bytes version now) = with_root w (ref_of bytes)
told_ref w (Absent now) = w

-- and so is a lease
abbrev pub told_lease : Walk → Got → Walk
told_lease w (Found bytes version now) = with_leased w (ref_of bytes)
told_lease w (Absent now) = w

abbrev pub told_file : Walk → Key → List ℕ → Walk
told_file w (Snapshot id) bytes = with_read w (snapshot_by id bytes)
told_file w (Manifest id) bytes = with_file w (manifest_by id bytes)
told_file w (Txn id) bytes = ended w
told_file w (Chunk id) bytes = ended w
told_file w (Branch name) bytes = ended w
told_file w (Tag name) bytes = ended w
told_file w (Tombstone name) bytes = ended w
told_file w (Lease id) bytes = ended w

-- a snapshot or a manifest that is absent leads no further
abbrev pub told_object : Walk → Key → Got → Walk
told_object w key (Found bytes version now) = told_file w key bytes
told_object w key (Absent now) = record w { absent = w.absent ++ key ∷ [] }

-- by the branches, the tags and the leases that are still to be got
abbrev pub told_got : (branches tags leases : Option (List Key)) → Walk → Key → Got → Walk
told_got (Some (next ∷ behind)) tags leases w key got =
    told_ref (record w { branches = Some behind }) got
told_got (Some []) (Some (next ∷ behind)) leases w key got =
    told_ref (record w { tags = Some behind }) got
told_got (Some []) (Some []) (Some (next ∷ behind)) w key got =
    told_lease (record w { leases = Some behind }) got
told_got (Some []) (Some []) (Some []) w key got = told_object w key got
told_got (Some []) (Some []) None w key got = ended w
told_got (Some []) None leases w key got = ended w
told_got None tags leases w key got = ended w

-- the first listing tells the time: where that is before the cutoff, it is over
abbrev pub told_listed : ℕ → Walk → Part → Listed → Walk
told_listed cutoff w Branches l =
    if nat_lt l.now cutoff then ended w else record w { branches = Some (live l.entries) }
told_listed cutoff w Tags l = record w { tags = Some (live l.entries) }
told_listed cutoff w Leases l = record w { leases = Some (live l.entries) }
told_listed cutoff w Snapshots l = record w { lists = w.lists + 1; listed = w.listed ++ l.entries }
told_listed cutoff w Txns l = record w { lists = w.lists + 1; listed = w.listed ++ l.entries }
told_listed cutoff w Manifests l = record w { lists = w.lists + 1; listed = w.listed ++ l.entries }
told_listed cutoff w Chunks l = record w { lists = w.lists + 1; listed = w.listed ++ l.entries }

abbrev pub told_gone : Walk → Key → Gone → Walk
told_gone w key (Gone_done now) = record w {
  answered = w.answered ++ key ∷ [];
  removed = w.removed ++ key ∷ [];
}
told_gone w key (Gone_absent now) = record w { answered = w.answered ++ key ∷ [] }

-- what isn't an answer to the operation ends it, as a failure does
abbrev pub told_get : Walk → Key → Reply → Walk
told_get w key (Is_got got) = told_got w.branches w.tags w.leases w key got
told_get w key _ = ended w

abbrev pub told_list : ℕ → Walk → Part → Reply → Walk
told_list cutoff w part (Is_listed l) = told_listed cutoff w part l
told_list cutoff w part _ = ended w

abbrev pub told_remove : Walk → Key → Reply → Walk
told_remove w key (Is_gone gone) = told_gone w key gone
told_remove w key _ = ended w

-- the collection behind a reply
abbrev pub told : ℕ → Walk → Op → Reply → Walk
told cutoff w (Get key) reply = told_get w key reply
told cutoff w (ListPart part) reply = told_list cutoff w part reply
told cutoff w (Remove key why) reply = told_remove w key reply
told cutoff w (PutNew key bytes why) reply = ended w
told cutoff w (PutOver key bytes old why) reply = ended w
told cutoff w (RemoveAt key old why) reply = ended w
