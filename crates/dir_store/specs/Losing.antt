-- Whether the branch `main` was lost.
use Rattle.std.specs.Prelude.{◌≡◌, ◌++◌, ℕ, not, Bool, true, List, Option, Some, None, codes}
use Rattle.std.specs.List.{list_any}
use Rattle.ice_ids.specs.Text.{same_id12, initial_id}
use Rattle.folder.specs.Files.{StoredFile}
use Rattle.object_store.specs.declared.keys.Key.{Key}
use Rattle.object_store.specs.declared.keys.Key.TheVariants.{Snapshot, Manifest, Txn, Chunk}
use Rattle.object_store.specs.declared.keys.Key.TheVariants.{Branch, Tag, Tombstone, Lease}
use Rattle.object_store.specs.declared.keys.Part.{Part}
use Rattle.object_store.specs.declared.events.Entry.{Entry}
use Rattle.object_store.specs.Machine.{Stored, part_of}
use Rattle.dir_store.specs.Contents.{object_at}

-- whether a new repository hasn't it: each object but the initial snapshot and its branch
abbrev pub is_more : Key → Bool
is_more (Snapshot id) = not (same_id12 id initial_id)
is_more (Manifest id) = true
is_more (Txn id) = true
is_more (Chunk id) = true
is_more (Branch name) = true
is_more (Tag name) = true
is_more (Tombstone name) = true
is_more (Lease id) = true

abbrev pub tell_more : List Entry → Bool
tell_more entries = list_any (λ (e : Entry). is_more e.key) entries

-- such an object stands in the part
pub record HoldsMore (at : Key → Option Stored) (part : Part) : Type 0 where
  pub key : Key
  pub stored : Stored
  pub stands : at key ≡ Some stored
  pub part_is : part_of key ≡ part
  pub more : is_more key ≡ true

-- ... in some part
abbrev pub HoldsAnyMore : (Key → Option Stored) → Type 0
HoldsAnyMore at = (part : Part) × HoldsMore at part

-- the path of the branch `main`
abbrev pub main_in : List ℕ → List ℕ
main_in root = root ++ codes "/refs/branch.main/ref.json"

-- no file is at the place of `main`, though such an object stands
pub record HasLostMain (files : List ℕ → Option StoredFile) (root : List ℕ) : Type 0 where
  pub none : files (main_in root) ≡ None
  pub more : HoldsAnyMore (object_at files root)
