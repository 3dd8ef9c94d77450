-- Holding a file and reading it agree; the objects that a manifest names are those of its entries.
use Rattle.std.specs.Prelude.{◌≡◌, ◌⊎◌, ◌↔◌, ℕ, List, Result, Ok, Err, Contains}
use Rattle.ice_ids.specs.declared.Id12.{Id12}
use Rattle.flat_tables.specs.declared.fault.FileFault.{FileFault}
use Rattle.flat_tables.specs.declared.fault.FileFault.TheVariants.{NoMemory}
use Rattle.flat_tables.specs.Rows.{Reads}
use Rattle.manifest_file.specs.declared.manifest.ManifestFile.{ManifestFile}
use Rattle.manifest_file.specs.Manifests.{manifest_of}
use Rattle.held_manifest.specs.Files.{IsHeldAs}
use Rattle.held_manifest.specs.Objects.{objects_of, NamesObject}

-- the same manifest, or the same fault, unless memory ran out in the reading
abbrev pub Agree : Result ManifestFile FileFault
    → Result ManifestFile (List ℕ × FileFault) → List ℕ → Type 0
Agree (Ok manifest) held file = held ≡ Ok manifest
Agree (Err fault) held file = (fault ≡ NoMemory) ⊎ (held ≡ Err (file, fault))

-- whatever reading a file and holding it answer, they agree
abbrev pub HeldLaw : Type 0
HeldLaw =
    (file : List ℕ) (read : Result ManifestFile FileFault)
    (held : Result ManifestFile (List ℕ × FileFault))
    → Reads (λ m. m) read (manifest_of file) → IsHeldAs file held → Agree read held file

-- an object is among those that a manifest names exactly where some entry of some
-- array of it has its bytes there
abbrev pub ObjectsLaw : Type 0
ObjectsLaw =
    (manifest : ManifestFile) (id : Id12)
    → Contains (objects_of manifest) id ↔ NamesObject manifest id
