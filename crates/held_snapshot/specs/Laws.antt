-- Holding a file and reading it agree.
use Rattle.std.specs.Prelude.{◌≡◌, ◌⊎◌, ℕ, List, Result, Ok, Err}
use Rattle.flat_tables.specs.declared.fault.FileFault.{FileFault}
use Rattle.flat_tables.specs.declared.fault.FileFault.TheVariants.{NoMemory}
use Rattle.flat_tables.specs.Rows.{Reads}
use Rattle.snapshot_file.specs.declared.snapshot.SnapshotFile.{SnapshotFile}
use Rattle.snapshot_file.specs.Snapshots.{snapshot_of}
use Rattle.held_snapshot.specs.Files.{IsHeldAs}

-- the same snapshot, or the same fault, unless memory ran out in the reading
abbrev pub Agree : Result SnapshotFile FileFault
    → Result SnapshotFile (List ℕ × FileFault) → List ℕ → Type 0
Agree (Ok snapshot) held file = held ≡ Ok snapshot
Agree (Err fault) held file = (fault ≡ NoMemory) ⊎ (held ≡ Err (file, fault))

-- whatever reading a file and holding it answer, they agree
abbrev pub HeldLaw : Type 0
HeldLaw =
    (file : List ℕ) (read : Result SnapshotFile FileFault)
    (held : Result SnapshotFile (List ℕ × FileFault))
    → Reads (λ snapshot. snapshot) read (snapshot_of file) → IsHeldAs file held
    → Agree read held file
