-- Objects as they are found, by their keys; no public contract cites this.
use Rattle.std.specs.Prelude.{◌≡◌, ◌≢◌, ◌++◌, ℕ, List, [], length, Option, Some, None, codes}
use Rattle.std.specs.BTreeMap.{BTreeMap, get, IsOrdered}
use Rattle.object_store.specs.declared.keys.Key.{Key}
use Rattle.object_store.specs.declared.keys.Key.TheVariants.{Snapshot, Manifest, Txn, Chunk}
use Rattle.object_store.specs.declared.keys.Key.TheVariants.{Branch, Tag, Tombstone, Lease}
use Rattle.object_store.specs.declared.keys.Part.{Part}
use Rattle.object_store.specs.declared.events.Entry.{Entry}
use Rattle.object_store.specs.Machine.{part_of}
use Rattle.object_store.specs.Names.{key_name}
use Rattle.object_store.specs.Orders.{key_cmp}
use Rattle.folder.specs.Files.{StoredFile, HasName}
use Rattle.ice_ids.specs.Text.{id12_text}
use Rattle.object_files.specs.Paths.{IsKey, path_in}
use Rattle.object_files.specs.declared.listing.Measures.{Measures}

-- all keys are of the part
pub record IsOfPart (part : Part) (found : BTreeMap Key Measures) : Type 0 where
  pub ordered : IsOrdered key_cmp found
  pub parts : (key : Key) (m : Measures) → get key_cmp found key ≡ Some m → part_of key ≡ part

abbrev pub entry_of : Key × Measures → Entry
entry_of at = record { key = at.0; size = at.1.size; created = at.1.changed }

-- ---- what is found, of the files of a directory
-- a file of these measures
abbrev pub IsMeasuredBy : Measures → Option StoredFile → Type 0
IsMeasuredBy m None = ⊥
IsMeasuredBy m (Some file) = (m.size ≡ length file.bytes) × (m.changed ≡ file.changed)

-- what is found is a file of the directory, of these measures
abbrev pub AllRight : (List ℕ → Option StoredFile) → List ℕ → BTreeMap Key Measures → Type 0
AllRight files root found =
    (key : Key) (m : Measures) → get key_cmp found key ≡ Some m
    → IsMeasuredBy m (files (path_in root key))

-- it is found
abbrev pub Has : BTreeMap Key Measures → Key → Type 0
Has found key = (m : Measures) × (get key_cmp found key ≡ Some m)

-- an object of the part, whose file is there
pub record Lies (files : List ℕ → Option StoredFile) (root : List ℕ) (part : Part)
    (key : Key) : Type 0 where
  pub known : IsKey key
  pub of : part_of key ≡ part
  pub there : files (path_in root key) ≢ None

-- What was found stays, and this object is found if it lies there.
pub record AddsKey (files : List ℕ → Option StoredFile) (root : List ℕ) (part : Part) (key : Key)
    (old new : BTreeMap Key Measures) : Type 0 where
  pub stay : (q : Key) → Has old q → Has new q
  pub added : Lies files root part key → Has new key

-- What was found stays, and the object of this name is found if it lies there.
pub record AddsName (files : List ℕ → Option StoredFile) (root : List ℕ) (part : Part)
    (name : List ℕ) (old new : BTreeMap Key Measures) : Type 0 where
  pub stay : (key : Key) → Has old key → Has new key
  pub added : (key : Key) → Lies files root part key → name ≡ key_name key → Has new key

-- ... and those of these two names
pub record AddsTwo (files : List ℕ → Option StoredFile) (root : List ℕ) (part : Part)
    (first second : List ℕ) (old new : BTreeMap Key Measures) : Type 0 where
  pub stay : (key : Key) → Has old key → Has new key
  pub one : (key : Key) → Lies files root part key → first ≡ key_name key → Has new key
  pub two : (key : Key) → Lies files root part key → second ≡ key_name key → Has new key

-- the name in the part's folder at which or beneath which an object's file lies
abbrev pub entry_name : Key → List ℕ
entry_name (Snapshot id) = id12_text id
entry_name (Manifest id) = id12_text id
entry_name (Txn id) = id12_text id
entry_name (Chunk id) = id12_text id
entry_name (Branch name) = codes "branch." ++ name
entry_name (Tag name) = codes "tag." ++ name
entry_name (Tombstone name) = codes "tag." ++ name
entry_name (Lease id) = id12_text id

-- ... and what stands behind it
abbrev pub behind_entry : Key → List ℕ
behind_entry (Snapshot id) = []
behind_entry (Manifest id) = []
behind_entry (Txn id) = []
behind_entry (Chunk id) = []
behind_entry (Branch name) = codes "/ref.json"
behind_entry (Tag name) = codes "/ref.json"
behind_entry (Tombstone name) = codes "/ref.json.deleted"
behind_entry (Lease id) = []

-- What was found stays, and the objects at or beneath this name in the part's
-- folder are found if they lie there.
pub record AddsEntry (files : List ℕ → Option StoredFile) (root : List ℕ) (part : Part)
    (name : List ℕ) (old new : BTreeMap Key Measures) : Type 0 where
  pub stay : (key : Key) → Has old key → Has new key
  pub added : (key : Key) → Lies files root part key → name ≡ entry_name key → Has new key

-- the objects at or beneath these names are found if they lie there
abbrev pub AllFound : (List ℕ → Option StoredFile) → List ℕ → Part → List (List ℕ)
    → BTreeMap Key Measures → Type 0
AllFound files root part names found =
    (key : Key) → Lies files root part key → HasName names (entry_name key) → Has found key
