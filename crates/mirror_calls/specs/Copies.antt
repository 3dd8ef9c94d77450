-- What a mirror has copied. (Icechunk specification version 1, "Snapshot Files", "Manifest Files",
-- "Chunk Files", "Transaction Log Files".)
use Rattle.std.specs.Prelude.{◌≡◌, ◌⊎◌, ℕ, List, Option, Some, None}
use Rattle.ice_ids.specs.declared.Id12.{Id12}
use Rattle.ice_ids.specs.Text.{initial_id}
use Rattle.snapshot_file.specs.declared.snapshot.SnapshotFile.{SnapshotFile}
use Rattle.manifest_file.specs.declared.manifest.ManifestFile.{ManifestFile}
use Rattle.repo_objects.specs.Readings.{snapshot_by, manifest_by}
use Rattle.repo_objects.specs.Trees.{NamesManifest, NamesChunk}
use Rattle.object_store.specs.declared.keys.Key.{Key}
use Rattle.object_store.specs.declared.keys.Key.TheVariants.{Snapshot, Manifest, Txn, Chunk}
use Rattle.two_stores.specs.declared.side.Side.TheVariants.{From, To}
use Rattle.mirror_calls.specs.Deeds.{Deed, HasGot, HasPut}

-- the target has these bytes: they were put there, or got
abbrev pub IsThere : List Deed → Key → List ℕ → Type 0
IsThere deeds key bytes = HasPut deeds key bytes ⊎ HasGot deeds To key bytes

-- The object was got in the source, and the target has the same bytes.
pub record IsCopied (deeds : List Deed) (key : Key) : Type 0 where
  pub bytes : List ℕ
  pub got : HasGot deeds From key bytes
  pub there : IsThere deeds key bytes

-- the objects in which a manifest has chunks are copied
abbrev pub AreChunksCopied : List Deed → ManifestFile → Type 0
AreChunksCopied deeds manifest =
    (object : Id12) → NamesChunk manifest object → IsCopied deeds (Chunk object)

-- A manifest, and the objects in which it has chunks.
pub record IsManifestCopied (deeds : List Deed) (id : Id12) : Type 0 where
  pub bytes : List ℕ
  pub got : HasGot deeds From (Manifest id) bytes
  pub manifest : ManifestFile
  pub read : manifest_by id bytes ≡ Some manifest
  pub chunks : AreChunksCopied deeds manifest
  pub there : IsThere deeds (Manifest id) bytes

-- What a snapshot names, but for its parent: its log (the initial one has none),
-- and the manifests of its nodes.
pub record IsNamedCopied (deeds : List Deed) (id : Id12) (snap : SnapshotFile) : Type 0 where
  pub log : (id ≡ initial_id) ⊎ IsCopied deeds (Txn id)
  pub manifests : (manifest : Id12) → NamesManifest snap.nodes manifest
      → IsManifestCopied deeds manifest

-- these bytes are a snapshot that says what this one says, but for the parent
pub record SaysBut (id : Id12) (snap : SnapshotFile) (bytes : List ℕ) : Type 0 where
  pub parent : Option Id12
  pub read : snapshot_by id bytes ≡ Some (record snap { parent = parent })

-- A snapshot, and what it names.
pub record IsSnapshotCopied (deeds : List Deed) (id : Id12) : Type 0 where
  pub bytes : List ℕ
  pub got : HasGot deeds From (Snapshot id) bytes
  pub snap : SnapshotFile
  pub read : snapshot_by id bytes ≡ Some snap
  pub named : IsNamedCopied deeds id snap
  pub file : List ℕ
  pub says : SaysBut id snap file
  pub there : IsThere deeds (Snapshot id) file

-- a get in the source read the snapshot with this parent
pub record HasParent (deeds : List Deed) (id : Id12) (parent : Option Id12) : Type 0 where
  pub bytes : List ℕ
  pub got : HasGot deeds From (Snapshot id) bytes
  pub snap : SnapshotFile
  pub read : snapshot_by id bytes ≡ Some snap
  pub is : snap.parent ≡ parent

-- A snapshot and all before it, down to the end, along the parents that were read in the source.
pub data IsChainCopied (deeds : List Deed) : Id12 → Type 0 where
  first : {id : Id12} → HasParent deeds id None → IsSnapshotCopied deeds id → IsChainCopied deeds id
  further : {id parent : Id12} → HasParent deeds id (Some parent) → IsSnapshotCopied deeds id
      → IsChainCopied deeds parent → IsChainCopied deeds id
