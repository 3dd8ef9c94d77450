-- What a test of a file finds, and the manifest of a file that stands for one.
use Rattle.std.specs.Prelude.{◌≡◌, ◌≢◌, ℕ, List, [], Result, Ok, Err, IsOk}
use Rattle.flat_tables.specs.declared.header.Kind.TheVariants as kinds
use Rattle.flat_tables.specs.declared.fault.FileFault.{FileFault}
use Rattle.flat_tables.specs.Places.{TableIn, root_of}
use Rattle.file_fields.specs.Fields.{payload_in}
use Rattle.flat_tables.specs.declared.fault.FileFault.TheVariants.{NoMemory}
use Rattle.manifest_file.specs.declared.manifest.ManifestFile.{ManifestFile}
use Rattle.manifest_file.specs.Manifests.{manifest_of}

-- a test found what reading finds: a value, or this fault
abbrev pub Checks : {X A : Type 0} → Result X FileFault → Result A FileFault → Type 0
Checks (Ok x) read = IsOk read
Checks (Err fault) read = read ≡ Err fault

-- the manifest that was read, and an empty one where there is a fault
abbrev pub manifest_or_empty : Result ManifestFile FileFault → ManifestFile
manifest_or_empty (Ok manifest) = manifest
manifest_or_empty (Err fault) = record { id = record { 0 = [] }; arrays = [] }

-- the root table of a file that stands for a manifest
abbrev pub RootOf : List ℕ → TableIn → Type 0
RootOf file table =
    (payload : List ℕ) × (payload_in kinds.Manifest file ≡ Ok payload)
    × (root_of payload ≡ Ok table)

-- a file was held as the manifest that it stands for, or came back with the fault that it
-- has, which is no want of memory
abbrev pub IsHeldAs : List ℕ → Result ManifestFile (List ℕ × FileFault) → Type 0
IsHeldAs file (Ok manifest) = manifest_of file ≡ Ok manifest
IsHeldAs file (Err back) = (back.0 ≡ file) × (manifest_of file ≡ Err back.1) × (back.1 ≢ NoMemory)
