-- Files as wholes: what is read of them, and what changes leave.
use Rattle.std.specs.Prelude.{◌⊎◌, ◌≡◌, ◌≢◌, ◌++◌, ◌<◌, ℕ, List, []}
use Rattle.std.specs.Prelude.{take, Option, option_map, codes}
use Rattle.std.specs.Fmt.{decimal}
use Rattle.folder.specs.declared.faults.Cause.TheVariants.{TooLong}
use Rattle.folder.specs.declared.faults.Trouble.{Trouble}
use Rattle.folder.specs.declared.faults.FileFault.{FileFault}
use Rattle.folder.specs.declared.faults.FileFault.TheVariants.{Failed, NoMemory}
use Rattle.folder.specs.Files.{StoredFile}
use Rattle.whole_files.specs.declared.versions.Putting.{Putting}
use Rattle.whole_files.specs.Versions.{version_by}

-- the bytes of a file, if one is there
abbrev pub bytes_at : Option StoredFile → Option (List ℕ)
bytes_at file = option_map (λ (stored : StoredFile). stored.bytes) file

-- its version, where it is put so
abbrev pub its_version : Putting → Option StoredFile → Option ℕ
its_version putting file =
    option_map (λ (stored : StoredFile). version_by putting stored.bytes) file

-- Behind a piece of a file this is left; the empty piece is read at its end alone.
pub record Takes (count : ℕ) (piece old new : List ℕ) : Type 0 where
  pub read : old ≡ take count piece ++ new
  pub ends : count ≡ 0 → old ≡ []

-- a file is told as too long
abbrev pub IsLong : Trouble → Type 0
IsLong trouble = trouble.cause ≡ TooLong

abbrev pub IsToldLong : FileFault → Type 0
IsToldLong (Failed trouble) = IsLong trouble
IsToldLong NoMemory = ⊥

-- ... and so many bytes are more than a file may have
abbrev pub IsTooMany : ℕ → Type 0
IsTooMany count = 268435456 < count

-- all files stayed
abbrev pub SameFiles : (List ℕ → Option StoredFile) → (List ℕ → Option StoredFile) → Type 0
SameFiles old new = (p : List ℕ) → new p ≡ old p

-- ---- files aside, in their folder
abbrev pub aside_in : List ℕ → ℕ → List ℕ
aside_in asides number = asides ++ codes "/" ++ decimal number

abbrev pub IsAside : List ℕ → List ℕ → Type 0
IsAside asides path = (number : ℕ) × (path ≡ aside_in asides number)

abbrev pub IsOutside : List ℕ → List ℕ → Type 0
IsOutside asides path = (number : ℕ) → path ≢ aside_in asides number

-- all files but those aside stayed
pub record OnlyAside (asides : List ℕ) (old new : List ℕ → Option StoredFile) : Type 0 where
  pub others : (p : List ℕ) → IsOutside asides p → new p ≡ old p

-- all files but the one at the path and those aside stayed
pub record OnlyAt (asides path : List ℕ) (old new : List ℕ → Option StoredFile) : Type 0 where
  pub others : (p : List ℕ) → p ≢ path → IsOutside asides p → new p ≡ old p

-- ---- what a loss of power may take
-- no name is loose but those that were, and those aside
abbrev pub LooserAside : List ℕ → (List ℕ → Type 0) → (List ℕ → Type 0) → Type 0
LooserAside asides old new = (p : List ℕ) → new p → old p ⊎ IsAside asides p

-- ... and not this one
abbrev pub FirmAt : List ℕ → (List ℕ → Type 0) → (List ℕ → Type 0) → Type 0
FirmAt path old new = (p : List ℕ) → new p → old p × (p ≢ path)

-- ---- what a loss of power may leave, in the midst of a call too
-- outside the folder of files aside, what lies there
abbrev pub IsKeptAside : List ℕ → (List ℕ → Option StoredFile) → List ℕ → Option StoredFile → Type 0
IsKeptAside asides files p f = IsOutside asides p → f ≡ files p

-- Outside the folder of files aside what lies there, or, at the path of a change, what it makes.
pub record IsLeft (asides path : List ℕ) (Made : Option StoredFile → Type 0)
    (files : List ℕ → Option StoredFile) (p : List ℕ) (f : Option StoredFile) : Type 0 where
  pub others : p ≢ path → IsOutside asides p → f ≡ files p
  pub here : p ≡ path → (f ≡ files path) ⊎ Made f
