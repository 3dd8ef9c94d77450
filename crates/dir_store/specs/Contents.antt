-- The directory as the machine of a store, where the version of an object is told by its key and
-- its content, and its time is that of its file's last change.
use Rattle.std.specs.Prelude.{◌≡◌, ◌≢◌, ◌⊎◌, ℕ, List, Option, option_map, Result, Ok, Err, IfOk}
use Rattle.folder.specs.Files.{StoredFile}
use Rattle.whole_files.specs.Whole.{OnlyAt, IsOutside}
use Rattle.object_store.specs.declared.keys.Key.{Key}
use Rattle.object_store.specs.declared.events.Op.{Op}
use Rattle.object_store.specs.declared.events.Op.TheVariants.{Get, PutNew, PutOver, Remove}
use Rattle.object_store.specs.declared.events.Op.TheVariants.{RemoveAt, List as ListPart}
use Rattle.object_store.specs.declared.events.Reply.{Reply}
use Rattle.object_store.specs.declared.events.StoreFault.{StoreFault}
use Rattle.object_store.specs.declared.events.StoreFault.TheVariants.{Failed, NoMemory}
use Rattle.object_store.specs.Machine.{Stored, fresh_slot, leaves, IsHonest}
use Rattle.object_files.specs.Versions.{version_for}
use Rattle.object_files.specs.Paths.{path_in, aside_folder_in}
pub use Rattle.object_files.specs.Contents.{object_of, object_at, ListsAll}

-- the version of what an operation puts
abbrev pub version_put : Op → ℕ
version_put (Get key) = 0
version_put (PutNew key bytes why) = version_for key bytes
version_put (PutOver key bytes old why) = version_for key bytes
version_put (Remove key why) = 0
version_put (RemoveAt key old why) = 0
version_put (ListPart part) = 0

-- what stands at its key after an operation that was done at this time
abbrev pub after : Op → ℕ → Option Stored → Option Stored
after op time at = (leaves (version_put op) time op (record fresh_slot { stands = at })).stands

abbrev pub IsDone : Op → Option Stored → Option Stored → Type 0
IsDone op old new = (time : ℕ) × (new ≡ after op time old)

-- an operation that answers was done, one that failed was or not, and where
-- memory was wanting nothing was done
abbrev pub Did : {A : Type 0} → Op → Option Stored → Option Stored → Result A StoreFault → Type 0
Did op old new (Ok a) = IsDone op old new
Did op old new (Err Failed) = (new ≡ old) ⊎ IsDone op old new
Did op old new (Err NoMemory) = new ≡ old

-- The operation is answered as the machine does, at what stands at the keys; it leaves at its key
-- what the machine does, and all other files but those aside as they were.
pub record Answers {A : Type 0} (reply : A → Reply) (time : A → ℕ) (root : List ℕ) (key : Key)
    (op : Op) (result : Result A StoreFault) (old new : List ℕ → Option StoredFile) : Type 0 where
  pub honest : IfOk result
      (λ a. IsHonest (object_at old root) (version_put op) (time a) op (reply a))
  pub did : Did op (object_at old root key) (object_at new root key) result
  pub others : OnlyAt (aside_folder_in root) (path_in root key) old new

-- What a loss of power may leave at a path, at each moment of an operation: at its key what was
-- there, or what the operation leaves there; at any other path but those aside what lay there.
pub record IsLeftBy (root : List ℕ) (key : Key) (op : Op) (files : List ℕ → Option StoredFile)
    (p : List ℕ) (f : Option StoredFile) : Type 0 where
  pub others : p ≢ path_in root key → IsOutside (aside_folder_in root) p → f ≡ files p
  pub here : p ≡ path_in root key
      → (f ≡ files (path_in root key))
      ⊎ IsDone op (object_at files root key) (option_map (object_of key) f)

-- Where no name was loose before, a loss of power now leaves what lies there, but for files aside.
abbrev pub Lasts : List ℕ → (List ℕ → Type 0) → (List ℕ → Option StoredFile → Type 0)
    → (List ℕ → Option StoredFile) → Type 0
Lasts asides loose left files =
    (p : List ℕ) (f : Option StoredFile) → (loose p → ⊥) → IsOutside asides p
    → left p f → f ≡ files p
