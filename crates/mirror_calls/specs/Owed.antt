-- What a mirror may do next, by what it did and was told so far.
use Rattle.std.specs.Prelude.{◌≡◌, ◌≢◌, ℕ, List, IfSome, Some}
use Rattle.ice_ids.specs.declared.Id12.{Id12}
use Rattle.snapshot_file.specs.declared.snapshot.SnapshotFile.{SnapshotFile}
use Rattle.manifest_file.specs.declared.manifest.ManifestFile.{ManifestFile}
use Rattle.ref_file.specs.Refs.{ref_bytes}
use Rattle.repo_objects.specs.Readings.{snapshot_by, manifest_by}
use Rattle.object_store.specs.declared.keys.Key.{Key}
use Rattle.object_store.specs.declared.keys.Key.TheVariants.{Snapshot, Manifest, Txn, Chunk}
use Rattle.object_store.specs.declared.keys.Key.TheVariants.{Branch, Tag, Tombstone, Lease}
use Rattle.object_store.specs.declared.keys.Why.TheVariants.{Reset}
use Rattle.object_store.specs.declared.events.Version.{Version}
use Rattle.object_store.specs.declared.events.Op.{Op}
use Rattle.object_store.specs.declared.events.Op.TheVariants.{Get, PutNew, PutOver, Remove}
use Rattle.object_store.specs.declared.events.Op.TheVariants.{RemoveAt, List as ListPart}
use Rattle.two_stores.specs.declared.side.Side.{Side}
use Rattle.two_stores.specs.declared.side.Side.TheVariants.{From, To}
use Rattle.mirror.specs.Programs.{cause_of}
use Rattle.mirror_calls.specs.Deeds.{Deed, HasGot, HasMissed, HasRef}
use Rattle.mirror_calls.specs.Copies.{AreChunksCopied, IsNamedCopied}
use Rattle.mirror_calls.specs.Copies.{SaysBut, HasParent, IsChainCopied}

-- A manifest is put as it was got in the source, behind the objects in which it has chunks.
pub record MayPutManifest (deeds : List Deed) (id : Id12) (bytes : List ℕ) : Type 0 where
  pub got : HasGot deeds From (Manifest id) bytes
  pub manifest : ManifestFile
  pub read : manifest_by id bytes ≡ Some manifest
  pub chunks : AreChunksCopied deeds manifest

-- A snapshot is put as it was got in the source, but for its parent, behind what it names
-- and all before it. Its parent is one with which a get in the source read it: it may
-- have been cut there meanwhile.
pub record MayPutSnapshot (deeds : List Deed) (id : Id12) (bytes : List ℕ) : Type 0 where
  pub source : List ℕ
  pub got : HasGot deeds From (Snapshot id) source
  pub snap : SnapshotFile
  pub read : snapshot_by id source ≡ Some snap
  pub named : IsNamedCopied deeds id snap
  pub says : SaysBut id snap bytes
  pub parent : HasParent deeds id says.parent
  pub before : IfSome says.parent (IsChainCopied deeds)

-- A ref is made to name the snapshot that the source's named, behind that and all before it.
pub record MayPoint (deeds : List Deed) (key : Key) (bytes : List ℕ) : Type 0 where
  pub version : Version
  pub id : Id12
  pub named : HasRef deeds From key version id
  pub copied : IsChainCopied deeds id
  pub is : bytes ≡ ref_bytes id

-- ... and that where the target has none
pub record MayMake (deeds : List Deed) (key : Key) (bytes : List ℕ) : Type 0 where
  pub point : MayPoint deeds key bytes
  pub missed : HasMissed deeds To key

-- ... or a branch there, at this version, names another one
pub record MayMove (deeds : List Deed) (key : Key) (bytes : List ℕ) (old : Version) : Type 0 where
  pub point : MayPoint deeds key bytes
  pub other : Id12
  pub there : HasRef deeds To key old other
  pub differs : other ≢ point.id

abbrev pub MayPut : List Deed → List ℕ → Key → Type 0
MayPut deeds bytes (Snapshot id) = MayPutSnapshot deeds id bytes
MayPut deeds bytes (Manifest id) = MayPutManifest deeds id bytes
MayPut deeds bytes (Txn id) = HasGot deeds From (Txn id) bytes
MayPut deeds bytes (Chunk id) = HasGot deeds From (Chunk id) bytes
MayPut deeds bytes (Branch name) = MayMake deeds (Branch name) bytes
MayPut deeds bytes (Tag name) = MayMake deeds (Tag name) bytes
MayPut deeds bytes (Tombstone name) = ⊥
MayPut deeds bytes (Lease id) = ⊥

abbrev pub MayCopyOver : List Deed → List ℕ → Version → Key → Type 0
MayCopyOver deeds bytes old (Snapshot id) = ⊥
MayCopyOver deeds bytes old (Manifest id) = ⊥
MayCopyOver deeds bytes old (Txn id) = ⊥
MayCopyOver deeds bytes old (Chunk id) = ⊥
MayCopyOver deeds bytes old (Branch name) = MayMove deeds (Branch name) bytes old
MayCopyOver deeds bytes old (Tag name) = ⊥
MayCopyOver deeds bytes old (Tombstone name) = ⊥
MayCopyOver deeds bytes old (Lease id) = ⊥

-- The source is read alone; in the target nothing is removed, and
-- what is put was got in the source.
abbrev pub MayDo : List Deed → Side → Op → Type 0
MayDo deeds From (Get key) = Unit {0}
MayDo deeds From (ListPart part) = Unit {0}
MayDo deeds From (PutNew key bytes why) = ⊥
MayDo deeds From (PutOver key bytes old why) = ⊥
MayDo deeds From (Remove key why) = ⊥
MayDo deeds From (RemoveAt key old why) = ⊥
MayDo deeds To (Get key) = Unit {0}
MayDo deeds To (ListPart part) = ⊥
MayDo deeds To (PutNew key bytes why) = MayPut deeds bytes key × (why ≡ cause_of key)
MayDo deeds To (PutOver key bytes old why) = MayCopyOver deeds bytes old key × (why ≡ Reset)
MayDo deeds To (Remove key why) = ⊥
MayDo deeds To (RemoveAt key old why) = ⊥
