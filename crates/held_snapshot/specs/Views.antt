-- What the parts of a snapshot that are read in place stand for. (Icechunk specification version 1,
-- "Snapshot"; the words are own.)
use Rattle.std.specs.Prelude.{ℕ, List, [], map, Option, None, Some, Result, Ok, Err}
use Rattle.flat_tables.specs.declared.fault.FileFault.{FileFault}
use Rattle.flat_tables.specs.Places.{TableIn, VectorIn, items_of}
use Rattle.snapshot_file.specs.declared.nodes.NodeKind.{NodeKind}
use Rattle.snapshot_file.specs.declared.nodes.NodeKind.TheVariants.{Group}
use Rattle.snapshot_file.specs.declared.nodes.NodeRow.{NodeRow}
use Rattle.snapshot_file.specs.Nodes.{dimension_of, extent_of, array_of, node_of}

-- the rows of a list, none where it is absent
abbrev pub rows_there : {A : Type 0} → Option (List A) → List A
rows_there None = []
rows_there (Some rows) = rows

-- the dimensions and the extents of a vector
abbrev pub dimensions_in : VectorIn → List (ℕ × ℕ)
dimensions_in v = map dimension_of (items_of v)

abbrev pub extents_in : VectorIn → List (ℕ × ℕ)
extents_in v = map extent_of (items_of v)

-- ---- kinds

-- the kind that was read, and a group where there is a fault
abbrev pub kind_or_group : Result NodeKind FileFault → NodeKind
kind_or_group (Ok kind) = kind
kind_or_group (Err fault) = Group

-- an array by its table, and a group where there is none
abbrev pub kind_seen : Option TableIn → NodeKind
kind_seen None = Group
kind_seen (Some t) = kind_or_group (array_of t)

-- ---- rows

-- the row that was read, and an empty one where there is a fault
abbrev pub row_or_empty : Result NodeRow FileFault → NodeRow
row_or_empty (Ok row) = row
row_or_empty (Err fault) = record {
  id = record { 0 = [] };
  path = [];
  user_data = [];
  kind = Group;
}

-- node number `at`, by its table
abbrev pub row_seen : ℕ → TableIn → NodeRow
row_seen at t = row_or_empty (node_of at t)
