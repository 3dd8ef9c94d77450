-- What a snapshot holds, and what it reaches. (Own.)
use Rattle.std.specs.Prelude.{◌≡◌, ◌⊎◌, List, Some}
use Rattle.ice_ids.specs.Text.{initial_id}
use Rattle.ice_ids.specs.declared.Id12.{Id12}
use Rattle.manifest_file.specs.declared.manifest.ManifestFile.{ManifestFile}
use Rattle.snapshot_file.specs.declared.nodes.NodeRow.{NodeRow}
use Rattle.repo_objects.specs.Trees.{NamesManifest, NamesChunk, manifest_put}
use Rattle.object_store.specs.declared.keys.Key.{Key}
use Rattle.object_store.specs.declared.keys.Key.TheVariants.{Snapshot, Manifest, Txn, Chunk}
use Rattle.object_store.specs.declared.keys.Key.TheVariants.{Branch, Tag, Tombstone, Lease}
use Rattle.object_store.specs.declared.events.Event.{Event}
use Rattle.store_api.specs.Journal.{puts_of, rows_of}
use Rattle.reach.specs.Chains.{Chain}

-- as it was last put, its rows name the manifest
pub record HoldsManifest (journal : List Event) (id manifest : Id12) : Type 0 where
  pub rows : List NodeRow
  pub are : rows_of journal id ≡ Some rows
  pub names : NamesManifest rows manifest

-- a manifest that it holds has, as it was last put, a chunk in the object
pub record HoldsChunk (journal : List Event) (id object : Id12) : Type 0 where
  pub manifest : Id12
  pub held : HoldsManifest journal id manifest
  pub file : ManifestFile
  pub is : manifest_put (puts_of journal) manifest ≡ Some file
  pub names : NamesChunk file object

-- A snapshot holds its log, the manifests that its rows name, and the objects in which these have
-- chunks. What can't be read names nothing.
abbrev pub Holds : List Event → Id12 → Key → Type 0
Holds journal id (Snapshot other) = ⊥
Holds journal id (Txn log) = log ≡ id
Holds journal id (Manifest manifest) = HoldsManifest journal id manifest
Holds journal id (Chunk object) = HoldsChunk journal id object
Holds journal id (Branch name) = ⊥
Holds journal id (Tag name) = ⊥
Holds journal id (Tombstone name) = ⊥
Holds journal id (Lease lease) = ⊥

-- a snapshot down the chain, and what it holds
pub record ReachesDown (journal : List Event) (id : Id12) (key : Key) : Type 0 where
  pub at : Id12
  pub chain : Chain journal id at
  pub has : (key ≡ Snapshot at) ⊎ Holds journal at key

-- A snapshot reaches the initial one's key, itself, what it holds, and all that its parent as it
-- stands reaches: by the files that were put last, removed since or not.
abbrev pub Reaches : List Event → Id12 → Key → Type 0
Reaches journal id key = (key ≡ Snapshot initial_id) ⊎ ReachesDown journal id key
