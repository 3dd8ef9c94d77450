-- What is told of a fault on files, and of what came of changes of files;
-- no public contract cites this.
use Rattle.std.specs.Prelude.{◌≡◌, ◌≢◌, ◌⊎◌, ℕ, List, Bool, true, false}
use Rattle.std.specs.Prelude.{Option, Some, None, option_map, Result, Ok, Err}
use Rattle.folder.specs.Files.{StoredFile}
use Rattle.folder.specs.declared.faults.FileFault.{FileFault}
use Rattle.folder.specs.declared.faults.FileFault.TheVariants as F
use Rattle.whole_files.specs.declared.versions.Putting.{Putting}
use Rattle.whole_files.specs.Whole.{its_version}
use Rattle.whole_files.specs.Changes.{IsGone}
use Rattle.whole_files.specs.declared.changing.VersionChange.{VersionChange}
use Rattle.whole_files.specs.declared.changing.VersionChange.TheVariants as C
use Rattle.object_store.specs.declared.events.StoreFault.{StoreFault}
use Rattle.object_store.specs.declared.events.StoreFault.TheVariants.{Failed, NoMemory}
use Rattle.object_store.specs.declared.events.Got.{Got}
use Rattle.object_store.specs.declared.events.Got.TheVariants as G
use Rattle.object_store.specs.declared.events.New.{New}
use Rattle.object_store.specs.declared.events.New.TheVariants as N
use Rattle.object_store.specs.declared.events.Over.{Over}
use Rattle.object_store.specs.declared.events.Over.TheVariants as O
use Rattle.object_store.specs.declared.events.Gone.{Gone}
use Rattle.object_store.specs.declared.events.Gone.TheVariants as R
use Rattle.object_store.specs.declared.events.GoneAt.{GoneAt}
use Rattle.object_store.specs.declared.events.GoneAt.TheVariants as A
use Rattle.object_store.specs.Machine.{version_at}
use Rattle.object_store.specs.declared.keys.Key.{Key}
use Rattle.object_files.specs.Versions.{version_for}

abbrev pub as_told : {A : Type 0} → Result A FileFault → Result A StoreFault
as_told (Ok a) = Ok a
as_told (Err (F.Failed trouble)) = Err Failed
as_told (Err F.NoMemory) = Err NoMemory

-- something came of which this holds, and it is told
pub record Through {A : Type 0} (P : Result A FileFault → Type 0)
    (told : Result A StoreFault) : Type 0 where
  pub came : Result A FileFault
  pub so : P came
  pub is : told ≡ as_told came

-- what came of a removal; where memory was wanting, all stays
abbrev pub Removed : Option StoredFile → Option StoredFile → Result Bool FileFault → Type 0
Removed old new (Ok true) = (old ≢ None) × (new ≡ None)
Removed old new (Ok false) = (old ≡ None) × (new ≡ None)
Removed old new (Err (F.Failed trouble)) = (new ≡ old) ⊎ (new ≡ None)
Removed old new (Err F.NoMemory) = new ≡ old

abbrev pub RemovedVersion : Putting → ℕ → Option StoredFile → Option StoredFile
    → Result VersionChange FileFault → Type 0
RemovedVersion putting version old new (Ok C.Made) = IsGone putting version old new
RemovedVersion putting version old new (Ok (C.Other found)) =
    (found ≡ its_version putting old) × (found ≢ Some version) × (new ≡ old)
RemovedVersion putting version old new (Err (F.Failed trouble)) =
    (new ≡ old) ⊎ IsGone putting version old new
RemovedVersion putting version old new (Err F.NoMemory) = new ≡ old

-- ---- answers
abbrev pub told_new : Option ℕ → ℕ → ℕ → New
told_new None version now = N.Done (version_at version) now
told_new (Some found) version now = N.Present (version_at found) now

abbrev pub told_over : VersionChange → ℕ → ℕ → Over
told_over C.Made version now = O.Done (version_at version) now
told_over (C.Other found) version now = O.Moved (option_map version_at found) now

abbrev pub told_gone : Bool → ℕ → Gone
told_gone true now = R.Done now
told_gone false now = R.Absent now

abbrev pub told_gone_at : VersionChange → ℕ → GoneAt
told_gone_at C.Made now = A.Done now
told_gone_at (C.Other found) now = A.Moved (option_map version_at found) now

abbrev pub told_got : Key → Option (List ℕ) → ℕ → Got
told_got key None now = G.Absent now
told_got key (Some bytes) now = G.Found bytes (version_at (version_for key bytes)) now

-- ---- what is kept of faults
-- behind a failure folders are to be flushed
abbrev pub settled_after : {A : Type 0} → Bool → Result A FileFault → Bool
settled_after before (Ok a) = before
settled_after before (Err (F.Failed trouble)) = false
settled_after before (Err F.NoMemory) = before
