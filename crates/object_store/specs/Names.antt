-- The names of objects: Icechunk specification version 1, "File layout".
-- A tombstone of a tag stands beside it.
use Rattle.std.specs.Prelude.{ℕ, List, ◌++◌, codes}
use Rattle.ice_ids.specs.Text.{id12_text}
use Rattle.object_store.specs.declared.keys.Key.{Key}
use Rattle.object_store.specs.declared.keys.Key.TheVariants.{Snapshot, Manifest, Txn, Chunk}
use Rattle.object_store.specs.declared.keys.Key.TheVariants.{Branch, Tag, Tombstone, Lease}

abbrev pub key_name : Key → List ℕ
key_name (Snapshot id) = codes "snapshots/" ++ id12_text id
key_name (Manifest id) = codes "manifests/" ++ id12_text id
key_name (Txn id) = codes "transactions/" ++ id12_text id
key_name (Chunk id) = codes "chunks/" ++ id12_text id
key_name (Branch name) = codes "refs/branch." ++ name ++ codes "/ref.json"
key_name (Tag name) = codes "refs/tag." ++ name ++ codes "/ref.json"
key_name (Tombstone name) = codes "refs/tag." ++ name ++ codes "/ref.json.deleted"
key_name (Lease id) = codes "leases/" ++ id12_text id
