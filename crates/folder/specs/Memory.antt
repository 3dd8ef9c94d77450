-- A folder in memory: what the last change of a path left there.
use Rattle.std.specs.Prelude.{◌≡◌, ◌≤◌, ℕ, length, take, List, [], ◌∷◌, ◌++◌, Option, Some, None}
use Rattle.std.specs.Prelude.{if◌then◌else◌, bytes_eq, string_bytes, codes, slice_get}
use Rattle.folder.specs.Files.{StoredFile, IsFileName, IsBehind, HasName}
use Rattle.folder.specs.declared.memory.Change.{Change}
use Rattle.folder.specs.declared.memory.Content.{Content}
use Rattle.folder.specs.declared.memory.Content.TheVariants.{Nothing, Folder, File}

-- the plain file that a content is
abbrev pub file_of : Content → Option StoredFile
file_of Nothing = None
file_of Folder = None
file_of (File bytes changed) = Some (record { bytes = bytes; changed = changed })

-- where nothing was changed nothing lies
abbrev pub content_of : Option Content → Content
content_of None = Nothing
content_of (Some content) = content

-- what lies at a path after a change
abbrev pub content_after : List ℕ → Content → Change → Content
content_after path before change =
    if bytes_eq (string_bytes change.path) path then change.content else before

-- ... and after changes
unfoldable pub content_through : List ℕ → Content → List Change → Content
content_through path before [] = before
content_through path before (change ∷ changes) =
    content_through path (content_after path before change) changes

abbrev pub content_at : List Change → List ℕ → Content
content_at changes path = content_through path Nothing changes

abbrev pub file_at : List Change → List ℕ → Option StoredFile
file_at changes path = file_of (content_at changes path)

-- This lies at the path, and all else is as it was.
pub record ChangedTo (old new : List Change) (path : List ℕ) (content : Content) : Type 0 where
  pub at : content_at new path ≡ content
  pub others : (p : List ℕ) → (p ≡ path → ⊥) → content_at new p ≡ content_at old p

-- the names stay, and that in the folder to which the path leads is there too
pub record AddsName (path folder : List ℕ) (old new : List (List ℕ)) : Type 0 where
  pub stay : (name : List ℕ) → HasName old name → HasName new name
  pub added : (name rest : List ℕ) → IsFileName name → IsBehind rest
      → path ≡ folder ++ codes "/" ++ name ++ rest → HasName new name

-- of these changes, each one's name in the folder is there
abbrev pub TellsChanges : List Change → List ℕ → List (List ℕ) → Type 0
TellsChanges changes folder names = (k : ℕ) (change : Change) → slice_get changes k ≡ Some change
    → (name rest : List ℕ) → IsFileName name → IsBehind rest
    → string_bytes change.path ≡ folder ++ codes "/" ++ name ++ rest → HasName names name

-- this lay at the path at the nth moment or a later one: after so many changes,
-- each of which is on disk at once
pub record Lay (changes : List Change) (n : ℕ) (p : List ℕ) (f : Option StoredFile) : Type 0 where
  pub moment : ℕ
  pub from : n ≤ moment
  pub upto : moment ≤ length changes
  pub is : f ≡ file_at (take moment changes) p
