-- Which fault is told where files fail.
use Rattle.std.specs.Prelude.{◌≡◌, ◌⊎◌, ℕ, ℤ, List, Option, Some, Result, Ok, Err, string_bytes}
use Rattle.std.specs.Option.{option_or}
use Rattle.std.specs.declared.io.ErrorKind.{ErrorKind}
use Rattle.std.specs.declared.io.ErrorKind.TheVariants as K
use Rattle.folder.specs.Told.{cause_by}
use Rattle.folder.specs.declared.faults.Call.TheVariants as C
use Rattle.folder.specs.declared.faults.FileFault.{FileFault}
use Rattle.folder.specs.declared.faults.FileFault.TheVariants as F
use Rattle.folder.specs.declared.faults.Trouble.{Trouble}
use Rattle.object_store.specs.declared.keys.Part.{Part}
use Rattle.object_store.specs.declared.events.StoreFault.{StoreFault}
use Rattle.object_store.specs.declared.events.StoreFault.TheVariants.{Failed, NoMemory}
use Rattle.object_files.specs.Listings.{IsObjectPath}
use Rattle.object_files.specs.Paths.{folder_in}
use Rattle.dir_store.specs.declared.directory.FirstFault.{FirstFault}
use Rattle.dir_store.specs.declared.faults.OpenFault.{OpenFault}
use Rattle.dir_store.specs.declared.faults.OpenFault.TheVariants as O

-- why a directory can't be used
abbrev pub open_fault : FileFault → OpenFault
open_fault (F.Failed trouble) = O.Failed trouble
open_fault F.NoMemory = O.NoMemory

-- ... where it can't be listed, for a cause of this kind, with the system's number
abbrev pub listing_fault : ErrorKind → Option ℤ → OpenFault
listing_fault K.NotFound number = O.Missing
listing_fault K.NotADirectory number = O.NotDirectory
listing_fault K.OutOfMemory number = O.NoMemory
listing_fault _ number = O.Failed (record { call = C.List; cause = cause_by number })

-- ... as a store says it
abbrev pub listing_failed : ErrorKind → StoreFault
listing_failed K.OutOfMemory = NoMemory
listing_failed _ = Failed

-- the call that failed, and why
abbrev pub trouble_of : FirstFault → Trouble
trouble_of fault = fault.trouble

-- a failure is told from then on, with this path, if it is the first
abbrev pub TellsFirst : {A : Type 0} → (path : List ℕ) → Result A StoreFault
    → (old new : Option FirstFault) → Type 0
TellsFirst path (Ok a) old new = new ≡ old
TellsFirst path (Err Failed) old new =
    (fault : FirstFault) × (string_bytes fault.path ≡ path) × (new ≡ option_or old (Some fault))
TellsFirst path (Err NoMemory) old new = new ≡ old

-- ... that of a part's folder, or of an object of the part
abbrev pub TellsFirstIn : {A : Type 0} → (root : List ℕ) → Part → Result A StoreFault
    → (old new : Option FirstFault) → Type 0
TellsFirstIn root part (Ok a) old new = new ≡ old
TellsFirstIn root part (Err Failed) old new =
    (fault : FirstFault)
    × ((string_bytes fault.path ≡ folder_in root part)
    ⊎ IsObjectPath root part (string_bytes fault.path))
    × (new ≡ option_or old (Some fault))
TellsFirstIn root part (Err NoMemory) old new = new ≡ old
