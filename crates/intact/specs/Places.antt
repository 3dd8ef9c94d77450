-- A snapshot or a manifest that is held, and what is left of it from a place on.
use Rattle.std.specs.Prelude.{◌≡◌, ◌<◌, ℕ, ◌+◌, ◌-◌, ◌*◌, ◌^◌}
use Rattle.std.specs.Prelude.{List, [], ◌∷◌, ◌++◌, drop, Option, Some, None}
use Rattle.std.specs.declared.cmp.Ordering.{Ordering}
use Rattle.std.specs.Ordering.{nat_cmp, ordering_then}
use Rattle.ice_ids.specs.declared.Id12.{Id12}
use Rattle.ice_ids.specs.Text.{id12_cmp, id8_cmp}
use Rattle.snapshot_file.specs.declared.nodes.NodeRow.{NodeRow}
use Rattle.intact.specs.declared.visits.FileVisit.{FileVisit}
use Rattle.intact.specs.declared.visits.PartVisit.{PartVisit}
use Rattle.intact.specs.Rows.{files_of_row, files_of}

-- ---- orders
abbrev pub file_cmp : FileVisit → FileVisit → Ordering
file_cmp a b =
    ordering_then (id12_cmp a.manifest b.manifest)
    (ordering_then (id8_cmp a.node b.node) (nat_cmp a.want b.want))

abbrev pub part_cmp : PartVisit → PartVisit → Ordering
part_cmp a b =
    ordering_then (id12_cmp a.object b.object)
    (ordering_then (nat_cmp a.offset b.offset)
    (ordering_then (nat_cmp a.size b.size) (nat_cmp a.want b.want)))

-- ---- a snapshot
-- what is left: manifests to be got, each for a node, and the parent; and how
-- far the place may move at most
pub record SnapshotLeft : Type 0 where
  pub parent : Option Id12
  pub files : List FileVisit
  pub steps : ℕ

-- the first of these rows from manifest number `at` on, and the others whole
abbrev pub files_behind : (at : ℕ) → List NodeRow → List FileVisit
files_behind at [] = []
files_behind at (row ∷ rows) = drop at (files_of_row row) ++ files_of rows

abbrev pub files_from : (row at : ℕ) → List NodeRow → List FileVisit
files_from row at rows = files_behind at (drop row rows)

-- no list is as long
abbrev pub many : ℕ
many = 2 ^ 64

abbrev pub steps_from : (row at : ℕ) → ℕ
steps_from row at = (many - row) * many + (many - at)

-- how far a place may move in a snapshot at most
abbrev pub most_steps : ℕ
most_steps = many * many + many

-- the first manifest is taken
abbrev pub TakesFile : SnapshotLeft → Option FileVisit → SnapshotLeft → Type 0
TakesFile old None new = (old.files ≡ []) × (new ≡ old)
TakesFile old (Some f) new =
    (old.files ≡ f ∷ new.files) × (new.parent ≡ old.parent) × (new.steps < old.steps)

-- ---- a manifest
-- the first part is taken
abbrev pub TakesPart : List PartVisit → Option PartVisit → List PartVisit → Type 0
TakesPart old None new = (old ≡ []) × (new ≡ [])
TakesPart old (Some p) new = old ≡ p ∷ new
