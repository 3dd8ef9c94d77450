-- What a mirror tells at its end, by what it did and was told.
use Rattle.std.specs.Prelude.{◌≡◌, ◌≢◌, ◌⊎◌, ◌<◌, ◌≤◌, ◌+◌, ℕ, Bool, true, false, List, [], ◌∷◌}
use Rattle.std.specs.Prelude.{◌++◌, length, Contains, Option, Some, Result, Ok, Err, IsTrue}
use Rattle.flat_tables.specs.declared.header.Kind.{Kind}
use Rattle.flat_tables.specs.declared.header.Kind.TheVariants as kinds
use Rattle.flat_tables.specs.File.{file_limit}
use Rattle.ice_ids.specs.declared.Id12.{Id12}
use Rattle.snapshot_file.specs.declared.snapshot.SnapshotFile.{SnapshotFile}
use Rattle.snapshot_file.specs.Layout.{snapshot_bytes}
use Rattle.ref_file.specs.Refs.{ref_bytes}
use Rattle.repo_objects.specs.declared.bad_objects.Bad.{Bad}
use Rattle.repo_objects.specs.Readings.{read_snapshot, read_manifest}
use Rattle.repo_objects.specs.Readings.{read_log, read_ref, snapshot_by}
use Rattle.object_store.specs.declared.keys.Key.{Key}
use Rattle.object_store.specs.declared.keys.Key.TheVariants.{Snapshot, Manifest, Txn, Chunk}
use Rattle.object_store.specs.declared.keys.Key.TheVariants.{Branch, Tag, Tombstone, Lease}
use Rattle.object_store.specs.declared.keys.Part.{Part}
use Rattle.object_store.specs.declared.keys.Part.TheVariants.{Branches, Tags}
use Rattle.object_store.specs.declared.keys.Why.{Why}
use Rattle.object_store.specs.declared.keys.Why.TheVariants.{Reset}
use Rattle.object_store.specs.declared.events.Version.{Version}
use Rattle.object_store.specs.declared.events.Op.{Op}
use Rattle.object_store.specs.declared.events.Op.TheVariants.{Get, PutNew, PutOver}
use Rattle.object_store.specs.declared.events.Op.TheVariants.{List as ListPart}
use Rattle.object_store.specs.declared.events.New.TheVariants.{Done as New_done, Present}
use Rattle.object_store.specs.declared.events.Over.TheVariants.{Done as Over_done}
use Rattle.object_store.specs.declared.events.Over.TheVariants.{Moved as Over_moved}
use Rattle.object_store.specs.declared.events.Listed.{Listed}
use Rattle.object_store.specs.declared.events.Reply.{Reply}
use Rattle.object_store.specs.declared.events.Reply.TheVariants.{New, Over, Listed as Is_listed}
use Rattle.store_api.specs.declared.machines.Refusal.{Refusal}
use Rattle.store_api.specs.declared.machines.Refusal.TheVariants as R
use Rattle.repo_read.specs.Chains.{most_snapshots}
use Rattle.live_refs.specs.Live.{live}
use Rattle.two_stores.specs.declared.side.Side.{Side}
use Rattle.two_stores.specs.declared.side.Side.TheVariants.{From, To}
use Rattle.two_stores.specs.Pairs.{is_ref}
use Rattle.mirror_reports.specs.declared.outcome.RefId.{RefId}
use Rattle.mirror_reports.specs.declared.outcome.MirrorRef.{MirrorRef}
use Rattle.mirror_reports.specs.declared.outcome.Mirrored.{Mirrored}
use Rattle.mirror_reports.specs.declared.outcome.MirrorEnd.{MirrorEnd}
use Rattle.mirror_reports.specs.Told.{key_of}
use Rattle.mirror.specs.Programs.{no_puts, counted, ref_ids}
use Rattle.mirror_calls.specs.Deeds.{Deed, Did, HasGot, HasMissed, HasRef, HasPut, HasFailed}
use Rattle.mirror_calls.specs.Copies.{SaysBut, HasParent, IsChainCopied}

-- ---- refs
-- a put of the ref, as new or over another, was answered as done
abbrev pub WasPointed : List Deed → Key → Id12 → Type 0
WasPointed deeds key id =
    HasPut deeds key (ref_bytes id)
    ⊎ ((old version : Version) × (now : ℕ)
    × Did deeds To (PutOver key (ref_bytes id) old Reset) (Over (Over_done version now)))

-- a tag has no tombstone; a branch never has one
abbrev pub NotBuried : List Deed → RefId → (tag : Bool) → Type 0
NotBuried deeds r false = Unit {0}
NotBuried deeds r true = HasMissed deeds To (Tombstone r.name)

-- the target's ref names this snapshot: it was put, or left, since it did
abbrev pub IsPointed : List Deed → RefId → Id12 → (put : Bool) → Type 0
IsPointed deeds r id true = WasPointed deeds (key_of r) id
IsPointed deeds r id false =
    ((version : Version) × HasRef deeds To (key_of r) version id) × NotBuried deeds r r.tag

abbrev pub ref_id : MirrorRef → RefId
ref_id r = record { tag = r.tag; name = r.name }

-- The source's ref named the snapshot when it was got; that and all before it are copied;
-- and the target's ref names it.
pub record IsMirrored (deeds : List Deed) (r : MirrorRef) : Type 0 where
  pub version : Version
  pub source : HasRef deeds From (key_of (ref_id r)) version r.id
  pub copied : IsChainCopied deeds r.id
  pub target : IsPointed deeds (ref_id r) r.id r.put

-- ---- which refs were put
-- a put of a ref: its key, and what stands there then
pub record PutRef : Type 0 where
  pub key : Key
  pub bytes : List ℕ

abbrev pub put_if : Bool → PutRef → List PutRef
put_if true put = put ∷ []
put_if false put = []

abbrev pub put_new : Key → List ℕ → Reply → List PutRef
put_new key bytes (New (New_done version now)) =
    put_if (is_ref key) (record { key = key; bytes = bytes })
put_new key bytes _ = []

abbrev pub put_over : Key → List ℕ → Reply → List PutRef
put_over key bytes (Over (Over_done version now)) =
    put_if (is_ref key) (record { key = key; bytes = bytes })
put_over key bytes _ = []

abbrev pub put_by : Op → Reply → List PutRef
put_by (PutNew key bytes why) reply = put_new key bytes reply
put_by (PutOver key bytes old why) reply = put_over key bytes reply
put_by _ reply = []

-- the puts of refs that were answered as done, in their order
abbrev pub refs_put : List Deed → List PutRef
refs_put [] = []
refs_put (deed ∷ deeds) = put_by deed.op deed.reply ++ refs_put deeds

-- ... and those that are told
abbrev pub told_put : MirrorRef → List PutRef
told_put r = put_if r.put (record { key = key_of (ref_id r); bytes = ref_bytes r.id })

abbrev pub refs_told : List MirrorRef → List PutRef
refs_told [] = []
refs_told (r ∷ refs) = told_put r ++ refs_told refs

-- ---- where it ends well
-- it is told what became of the ref
pub record IsToldOf (refs : List MirrorRef) (r : RefId) : Type 0 where
  pub told : MirrorRef
  pub among : Contains refs told
  pub is : ref_id told ≡ r

-- The part of the source was listed, and of each ref of the listing that stands it is told, but for
-- those that were gone when they were got.
pub record IsPartDone (deeds : List Deed) (refs : List MirrorRef) (part : Part) : Type 0 where
  pub listed : Listed
  pub did : Did deeds From (ListPart part) (Is_listed listed)
  pub each : (r : RefId) → Contains (ref_ids (live listed.entries)) r
      → IsToldOf refs r ⊎ HasMissed deeds From (key_of r)

-- the objects whose put was answered as done, by kind
abbrev pub count_reply : Key → Reply → Mirrored → Mirrored
count_reply key (New (New_done version now)) counts = counted key counts
count_reply key _ counts = counts

abbrev pub count_deed : Op → Reply → Mirrored → Mirrored
count_deed (PutNew key bytes why) reply counts = count_reply key reply counts
count_deed _ reply counts = counts

abbrev pub counts_from : Mirrored → List Deed → Mirrored
counts_from counts [] = counts
counts_from counts (deed ∷ deeds) = counts_from (count_deed deed.op deed.reply counts) deeds

abbrev pub counts_of : List Deed → Mirrored
counts_of deeds = counts_from no_puts deeds

-- ---- where it is refused
abbrev pub IsRef : Key → Type 0
IsRef key = IsTrue (is_ref key)

-- the bytes aren't what the key asks for, for this cause; of chunks nothing is asked
abbrev pub ReadsBad : Key → List ℕ → Bad → Type 0
ReadsBad (Snapshot id) bytes bad = read_snapshot id bytes ≡ Err bad
ReadsBad (Manifest id) bytes bad = read_manifest id bytes ≡ Err bad
ReadsBad (Txn id) bytes bad = read_log id bytes ≡ Err bad
ReadsBad (Branch name) bytes bad = read_ref bytes ≡ Err bad
ReadsBad (Tag name) bytes bad = read_ref bytes ≡ Err bad
ReadsBad (Chunk id) bytes bad = ⊥
ReadsBad (Tombstone name) bytes bad = ⊥
ReadsBad (Lease id) bytes bad = ⊥

pub record HasBad (deeds : List Deed) (side : Side) (key : Key) (bad : Bad) : Type 0 where
  pub bytes : List ℕ
  pub got : HasGot deeds side key bytes
  pub unread : ReadsBad key bytes bad

-- the key of a snapshot, a log, a manifest or an object with chunks
abbrev pub IsObject : Key → Type 0
IsObject (Snapshot id) = Unit {0}
IsObject (Manifest id) = Unit {0}
IsObject (Txn id) = Unit {0}
IsObject (Chunk id) = Unit {0}
IsObject (Branch name) = ⊥
IsObject (Tag name) = ⊥
IsObject (Tombstone name) = ⊥
IsObject (Lease id) = ⊥

-- how many gets of snapshots of the source there were
abbrev pub snapshot_get : Side → Op → ℕ
snapshot_get From (Get (Snapshot id)) = 1
snapshot_get _ _ = 0

abbrev pub snapshot_gets : List Deed → ℕ
snapshot_gets [] = 0
snapshot_gets (deed ∷ deeds) = snapshot_get deed.side deed.op + snapshot_gets deeds

-- these snapshots were read in the source, the lowest first: it names `below` as its parent, and
-- each other one the one before it
abbrev pub IsLine : List Deed → (below : Id12) → List Id12 → Type 0
IsLine deeds below [] = Unit {0}
IsLine deeds below (id ∷ ids) = HasParent deeds id (Some below) × IsLine deeds id ids

-- on one way down as many snapshots were read as may be, and there is a further one
pub record WasDeep (deeds : List Deed) : Type 0 where
  pub next : Id12
  pub line : List Id12
  pub many : length line ≡ most_snapshots
  pub read : IsLine deeds next line

-- a snapshot was got in one of the stores whose file with another parent
-- would be longer than a file may be
pub record HasLong (deeds : List Deed) (kind : Kind) : Type 0 where
  pub kind_is : kind ≡ kinds.Snapshot
  pub side : Side
  pub id : Id12
  pub bytes : List ℕ
  pub got : HasGot deeds side (Snapshot id) bytes
  pub snap : SnapshotFile
  pub read : snapshot_by id bytes ≡ Some snap
  pub parent : Option Id12
  pub long : file_limit < length (snapshot_bytes (record snap { parent = parent }))

-- what stands in the target is fine where these bytes were to be put: the same, or of a snapshot
-- that differs in the parent alone
pub record DifferInParent (id : Id12) (bytes there : List ℕ) : Type 0 where
  pub snap : SnapshotFile
  pub read : snapshot_by id bytes ≡ Some snap
  pub says : SaysBut id snap there

abbrev pub IsFine : Key → (bytes there : List ℕ) → Type 0
IsFine (Snapshot id) bytes there = (bytes ≡ there) ⊎ DifferInParent id bytes there
IsFine (Manifest id) bytes there = bytes ≡ there
IsFine (Txn id) bytes there = bytes ≡ there
IsFine (Chunk id) bytes there = bytes ≡ there
IsFine (Branch name) bytes there = bytes ≡ there
IsFine (Tag name) bytes there = bytes ≡ there
IsFine (Tombstone name) bytes there = bytes ≡ there
IsFine (Lease id) bytes there = bytes ≡ there

-- An object was to be put where another one stands; or a tag of the target names another snapshot
-- than the source's, or has a tombstone.
pub data HasOther (deeds : List Deed) : Key → Type 0 where
  other_object : {key : Key} → (bytes there : List ℕ) (why : Why) (version : Version) (now : ℕ)
      → Did deeds To (PutNew key bytes why) (New (Present version now)) → HasGot deeds To key there
      → (IsFine key bytes there → ⊥) → HasOther deeds key
  other_snapshot : {name : List ℕ} → (version at : Version) (id other : Id12)
      → HasRef deeds From (Tag name) version id → HasRef deeds To (Tag name) at other → other ≢ id
      → HasOther deeds (Tag name)
  has_tombstone : {name : List ℕ} → (bytes : List ℕ) → HasGot deeds To (Tombstone name) bytes
      → HasOther deeds (Tag name)

-- a ref was to be put where one stood by then
abbrev pub HasFound : List Deed → Version → Type 0
HasFound deeds version =
    (key : Key) × IsRef key × (bytes : List ℕ) × (why : Why) × (now : ℕ)
    × Did deeds To (PutNew key bytes why) (New (Present version now))

-- a ref was to be put over that had moved on by then
abbrev pub HasMoved : List Deed → Option Version → Type 0
HasMoved deeds there =
    (key : Key) × IsRef key × (bytes : List ℕ) × (old : Version) × (now : ℕ)
    × Did deeds To (PutOver key bytes old Reset) (Over (Over_moved there now))

-- why it is refused
abbrev pub Cause : List Deed → Refusal → Type 0
Cause deeds (R.Missing key) = IsObject key × (HasMissed deeds From key ⊎ HasMissed deeds To key)
Cause deeds (R.BadFile key bad) = HasBad deeds From key bad ⊎ (IsRef key × HasBad deeds To key bad)
Cause deeds R.TooDeep = (most_snapshots ≤ snapshot_gets deeds) × WasDeep deeds
Cause deeds (R.TooLarge kind) = HasLong deeds kind
Cause deeds (R.Differs key) = HasOther deeds key
Cause deeds (R.RefExists version) = HasFound deeds version
Cause deeds (R.Moved there) = HasMoved deeds there
Cause deeds R.StoreFault = HasFailed deeds From
Cause deeds R.TargetFault = HasFailed deeds To
Cause deeds R.NoMemory = Unit {0}
Cause deeds _ = ⊥

-- An object was to be put where one stands: that was got, and is fine.
pub record IsCompared (deeds : List Deed) (key : Key) (bytes : List ℕ) : Type 0 where
  pub there : List ℕ
  pub got : HasGot deeds To key there
  pub fine : IsFine key bytes there

-- so is each object in whose place one stood
abbrev pub AreCompared : List Deed → Type 0
AreCompared deeds =
    (key : Key) (bytes : List ℕ) (why : Why) (version : Version) (now : ℕ) → IsObject key
    → Did deeds To (PutNew key bytes why) (New (Present version now)) → IsCompared deeds key bytes

-- ---- reports
-- Where it ends well: each listed ref was told of, what was put is counted, and no object differs
-- from what stands in its place.
pub record IsWhole (deeds : List Deed) (refs : List MirrorRef) (counts : Mirrored) : Type 0 where
  pub branches : IsPartDone deeds refs Branches
  pub tags : IsPartDone deeds refs Tags
  pub counts_are : counts ≡ counts_of deeds
  pub compared : AreCompared deeds

abbrev pub EndsSo : List Deed → List MirrorRef → Result Mirrored Refusal → Type 0
EndsSo deeds refs (Ok counts) = IsWhole deeds refs counts
EndsSo deeds refs (Err why) = Cause deeds why

-- Whatever the end: what is told of refs is so; those that are told as put are the ones whose put
-- was answered as done, in their order, so that none goes untold; and it ended so.
pub record Reports (deeds : List Deed) (end : MirrorEnd) : Type 0 where
  pub refs : (r : MirrorRef) → Contains end.refs r → IsMirrored deeds r
  pub puts : refs_told end.refs ≡ refs_put deeds
  pub ends : EndsSo deeds end.refs end.result
