-- Own: a file is a header and a payload.
use Rattle.std.specs.Prelude.{◌≡◌, ℕ, ◌-◌, ◌^◌, ◌<◌, ◌≤◌, min, List, length, drop}
use Rattle.std.specs.Prelude.{Result, Ok, Err, Vec, nat_lt, ◌==◌, if◌then◌else◌}
use Rattle.std.specs.Global.{Global}
use Rattle.flat_tables.specs.declared.header.Kind.{Kind}
use Rattle.flat_tables.specs.declared.header.HeaderFault.{HeaderFault}
use Rattle.flat_tables.specs.declared.fault.FileFault.{FileFault}
use Rattle.flat_tables.specs.declared.fault.FileFault.TheVariants as faults
use Rattle.flat_tables.specs.declared.fault.WriteFault.{WriteFault}
use Rattle.flat_tables.specs.declared.fault.WriteFault.TheVariants as refusals
use Rattle.flat_tables.specs.Header.{kind_of, type_of}

-- the greatest length of a file
abbrev pub file_limit : ℕ
file_limit = 268435456

-- what the payload says, where the header names the kind that is wanted
abbrev pub of_kind : {A : Type 0} → Kind → Result Kind HeaderFault → Result A FileFault
    → Result A FileFault
of_kind wanted (Err e) read = Err (faults.Header e)
of_kind wanted (Ok found) read =
    if type_of found == type_of wanted then read else Err (faults.Kind found)

-- what a file of a kind says, where read is what its payload says, or its first fault
unfoldable pub file_of : {A : Type 0} → Kind → (List ℕ → Result A FileFault) → List ℕ
    → Result A FileFault
file_of wanted read file =
    if nat_lt file_limit (length file) then Err faults.Limit
    else of_kind wanted (kind_of file) (read (drop 39 file))

-- why a file of so many bytes is not written: it passes the limit, and its length is told, or 2^64
-- - 1 where it is greater; or memory ran out
abbrev pub Refuses : WriteFault → ℕ → Type 0
Refuses (refusals.TooLarge told) len = (file_limit < len) × (told ≡ min len (2 ^ 64 - 1))
Refuses refusals.NoMemory len = Unit {0}

-- a call wrote these bytes, and the file of so many bytes that they make keeps
-- to the limit, or it was refused
abbrev pub Writes : Result (Vec ℕ Global) WriteFault → List ℕ → ℕ → Type 0
Writes (Ok written) bytes len = (written.items ≡ bytes) × (len ≤ file_limit)
Writes (Err fault) bytes len = Refuses fault len
