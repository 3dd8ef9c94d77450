-- What is found from a place on.
use Rattle.std.specs.Prelude.{◌≡◌, ◌<◌, ℕ, List, [], ◌∷◌, drop}
use Rattle.std.specs.Prelude.{length, Option, Some, None, slice_get}
use Rattle.snapshot_file.specs.declared.nodes.NodeRow.{NodeRow}
use Rattle.snapshot_file.specs.Snapshots.{manifests_named}
use Rattle.manifest_file.specs.declared.manifest.ChunkRef.{ChunkRef}
use Rattle.intact.specs.declared.visits.PartVisit.{PartVisit}
use Rattle.intact.specs.declared.snapshots.FileFound.{FileFound}
use Rattle.intact.specs.Parts.{parts_in}
use Rattle.intact.specs.Places.{files_from, steps_from}

-- there is a row of this number, with a manifest of this number
abbrev pub IsFileAt : List NodeRow → (row at : ℕ) → Type 0
IsFileAt rows row at =
    (node : NodeRow) × (slice_get rows row ≡ Some node) × (at < length (manifests_named node.kind))

-- the first manifest from a place on, and the place behind it
abbrev pub FindsFile : List NodeRow → (row at : ℕ) → Option FileFound → Type 0
FindsFile rows row at None = files_from row at rows ≡ []
FindsFile rows row at (Some f) =
    (files_from row at rows ≡ f.file ∷ files_from f.row f.behind rows)
    × (steps_from f.row f.behind < steps_from row at)

-- the first part from an entry on, and the entry behind it
abbrev pub FindsPart : (want : ℕ) → List ChunkRef → ℕ → Option (PartVisit × ℕ) → Type 0
FindsPart want refs from None = parts_in want (drop from refs) ≡ []
FindsPart want refs from (Some f) =
    parts_in want (drop from refs) ≡ f.0 ∷ parts_in want (drop f.1 refs)
