-- What changes of a file leave at its path, and what they answer. A call that fails was done or
-- not; want of memory leaves all as it was.
use Rattle.std.specs.Prelude.{◌≡◌, ◌≢◌, ◌⊎◌, ℕ, List, Option, Some, None, Result, Ok, Err}
use Rattle.folder.specs.Files.{StoredFile, HasBytes}
pub use Rattle.folder.specs.Files.{IsNew}
use Rattle.folder.specs.declared.faults.FileFault.{FileFault}
use Rattle.folder.specs.declared.faults.FileFault.TheVariants.{Failed, NoMemory}
use Rattle.whole_files.specs.declared.changing.VersionChange.{VersionChange}
use Rattle.whole_files.specs.declared.changing.VersionChange.TheVariants.{Made, Other}
use Rattle.whole_files.specs.declared.versions.Putting.{Putting}
use Rattle.whole_files.specs.Whole.{its_version}

-- of a draft that is moved where none may be
abbrev pub PlacesDraft : {E : Type 0} → Putting → List ℕ → Option StoredFile → Option StoredFile
    → Result (Option ℕ) E → Type 0
PlacesDraft putting bytes old new (Ok None) = IsNew bytes old new
PlacesDraft putting bytes old new (Ok (Some version)) =
    (its_version putting old ≡ Some version) × (new ≡ old)
PlacesDraft putting bytes old new (Err e) = (new ≡ old) ⊎ IsNew bytes old new

abbrev pub MakesFile : Putting → List ℕ → Option StoredFile → Option StoredFile
    → Result (Option ℕ) FileFault → Type 0
MakesFile putting bytes old new (Ok None) = IsNew bytes old new
MakesFile putting bytes old new (Ok (Some version)) =
    (its_version putting old ≡ Some version) × (new ≡ old)
MakesFile putting bytes old new (Err (Failed trouble)) = (new ≡ old) ⊎ IsNew bytes old new
MakesFile putting bytes old new (Err NoMemory) = new ≡ old

-- these bytes in the place of this version
abbrev pub IsOver : Putting → List ℕ → ℕ → Option StoredFile → Option StoredFile → Type 0
IsOver putting bytes version old new = (its_version putting old ≡ Some version) × HasBytes bytes new

abbrev pub Replaces : Putting → List ℕ → ℕ → Option StoredFile → Option StoredFile
    → Result VersionChange FileFault → Type 0
Replaces putting bytes version old new (Ok Made) = IsOver putting bytes version old new
Replaces putting bytes version old new (Ok (Other found)) =
    (found ≡ its_version putting old) × (found ≢ Some version) × (new ≡ old)
Replaces putting bytes version old new (Err (Failed trouble)) =
    (new ≡ old) ⊎ IsOver putting bytes version old new
Replaces putting bytes version old new (Err NoMemory) = new ≡ old

-- nothing in the place of this version
abbrev pub IsGone : Putting → ℕ → Option StoredFile → Option StoredFile → Type 0
IsGone putting version old new = (its_version putting old ≡ Some version) × (new ≡ None)

abbrev pub RemovesVersion : {E : Type 0} → Putting → ℕ → Option StoredFile → Option StoredFile
    → Result VersionChange E → Type 0
RemovesVersion putting version old new (Ok Made) = IsGone putting version old new
RemovesVersion putting version old new (Ok (Other found)) =
    (found ≡ its_version putting old) × (found ≢ Some version) × (new ≡ old)
RemovesVersion putting version old new (Err e) = (new ≡ old) ⊎ IsGone putting version old new

-- what moved isn't the version that was to be there
abbrev pub IsOtherVersion : ℕ → VersionChange → Type 0
IsOtherVersion version Made = Unit {0}
IsOtherVersion version (Other found) = found ≢ Some version

-- this is so unless a call failed
abbrev pub UnlessFailed : {A : Type 0} → Result A FileFault → Type 0 → Type 0
UnlessFailed (Ok a) P = P
UnlessFailed (Err (Failed trouble)) P = Unit {0}
UnlessFailed (Err NoMemory) P = P
