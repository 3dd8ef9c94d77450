-- Names of files in the directory: each object has the name that the standard gives it (Icechunk
-- specification version 1, "File layout").
use Rattle.std.specs.Prelude.{◌≡◌, ◌≢◌, ℕ, ◌<◌, ◌^◌, List, ◌++◌, codes, Option, MatchOption}
use Rattle.std.specs.Fmt.{decimal}
use Rattle.ice_ids.specs.Text.{IsId12}
use Rattle.ice_base.specs.Names.{IsRefName}
use Rattle.object_store.specs.declared.keys.Key.{Key}
use Rattle.object_store.specs.declared.keys.Key.TheVariants.{Snapshot, Manifest, Txn, Chunk}
use Rattle.object_store.specs.declared.keys.Key.TheVariants.{Branch, Tag, Tombstone, Lease}
use Rattle.object_store.specs.declared.keys.Part.{Part}
use Rattle.object_store.specs.declared.keys.Part.TheVariants.{Snapshots, Manifests, Txns}
use Rattle.object_store.specs.declared.keys.Part.TheVariants.{Chunks, Branches, Tags, Leases}
use Rattle.object_store.specs.Names.{key_name}

-- its id has 12 bytes, or its name is one of a ref
abbrev pub IsKey : Key → Type 0
IsKey (Snapshot id) = IsId12 id
IsKey (Manifest id) = IsId12 id
IsKey (Txn id) = IsId12 id
IsKey (Chunk id) = IsId12 id
IsKey (Branch name) = IsRefName name
IsKey (Tag name) = IsRefName name
IsKey (Tombstone name) = IsRefName name
IsKey (Lease id) = IsId12 id

-- the key with this name, or none where no key has it
abbrev pub NamesKey : List ℕ → Option Key → Type 0
NamesKey name found =
    MatchOption found ((key : Key) → IsKey key → name ≢ key_name key)
    (λ key. IsKey key × (name ≡ key_name key))

-- the path of an object in the directory
abbrev pub path_in : List ℕ → Key → List ℕ
path_in root key = root ++ codes "/" ++ key_name key

-- the folder of a part
abbrev pub folder_name : Part → List ℕ
folder_name Snapshots = codes "snapshots"
folder_name Manifests = codes "manifests"
folder_name Txns = codes "transactions"
folder_name Chunks = codes "chunks"
folder_name Branches = codes "refs"
folder_name Tags = codes "refs"
folder_name Leases = codes "leases"

-- and its path in the directory
abbrev pub folder_in : List ℕ → Part → List ℕ
folder_in root part = root ++ codes "/" ++ folder_name part

-- the folder in the directory in which files are written before they are moved to their places
abbrev pub aside_folder_in : List ℕ → List ℕ
aside_folder_in root = root ++ codes "/icerepo.new"

-- the path of a file in it
abbrev pub aside_in : List ℕ → ℕ → List ℕ
aside_in root number = aside_folder_in root ++ codes "/" ++ decimal number

-- its name there: a number of 32 bits, as `decimal` writes it
abbrev pub IsAsideName : List ℕ → Type 0
IsAsideName name = (number : ℕ) × (number < 2 ^ 32) × (decimal number ≡ name)

-- two keys have two names
abbrev pub NamesDiffer : Type 0
NamesDiffer = (a b : Key) → IsKey a → IsKey b → key_name a ≡ key_name b → a ≡ b

-- no object lies at the path of a file aside
abbrev pub AsidesAreNoKeys : Type 0
AsidesAreNoKeys =
    (root : List ℕ) (key : Key) (number : ℕ) → IsKey key → aside_in root number ≢ path_in root key
