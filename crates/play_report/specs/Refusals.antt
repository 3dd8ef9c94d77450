-- The texts of refusals (own).
use Rattle.std.specs.Prelude.{ℕ, List, [], ◌∷◌, ◌++◌, Option, Some, None, codes, decimal}
use Rattle.ice_ids.specs.Text.{id12_text}
use Rattle.flat_tables.specs.declared.header.Kind.{Kind}
use Rattle.flat_tables.specs.declared.header.Kind.TheVariants as kinds
use Rattle.snapshot_file.specs.declared.properties.PropFault.{PropFault}
use Rattle.snapshot_file.specs.declared.properties.PropFault.TheVariants as prop
use Rattle.zarr_meta.specs.Shown.{text_of}
use Rattle.zarr_tree.specs.declared.edit.EditFault.{EditFault}
use Rattle.zarr_tree.specs.declared.edit.EditFault.TheVariants as edit
use Rattle.zarr_tree.specs.declared.edit.Frozen.{Frozen}
use Rattle.zarr_tree.specs.declared.edit.Frozen.TheVariants as frozen
use Rattle.zarr_tree.specs.declared.cases.Conflict.{Conflict}
use Rattle.zarr_tree.specs.Cases.{number}
use Rattle.object_store.specs.declared.events.Version.{Version}
use Rattle.store_api.specs.declared.machines.RegionFault.{RegionFault}
use Rattle.store_api.specs.declared.machines.RegionFault.TheVariants as region
use Rattle.store_api.specs.declared.machines.Refusal.{Refusal}
use Rattle.store_api.specs.declared.machines.Refusal.TheVariants as R
use Rattle.object_store.specs.Names.{key_name}
use Rattle.play_report.specs.Words.{◌space◌}

-- the version that stood at a ref, and `-` where none did
abbrev pub version_text : Option Version → List ℕ
version_text (Some version) = decimal version.0
version_text None = codes "-"

-- the name of a part of metadata that stays as it is
abbrev pub frozen_text : Frozen → List ℕ
frozen_text frozen.NodeType = codes "node_type"
frozen_text frozen.Rank = codes "rank"
frozen_text frozen.DataType = codes "data_type"
frozen_text frozen.ChunkGrid = codes "chunk_grid"
frozen_text frozen.Codecs = codes "codecs"

-- the name of a kind of files
abbrev pub kind_text : Kind → List ℕ
kind_text kinds.Snapshot = codes "snapshot"
kind_text kinds.Manifest = codes "manifest"
kind_text kinds.Log = codes "log"

-- further numbers of an index, each behind a comma
abbrev pub more_numbers : List ℕ → List ℕ
more_numbers [] = []
more_numbers (n ∷ ns) = codes "," ++ decimal n ++ more_numbers ns

-- the numbers of an index, and `-` where there are none
abbrev pub index_text : List ℕ → List ℕ
index_text [] = codes "-"
index_text (n ∷ ns) = decimal n ++ more_numbers ns

-- the index of a chunk behind a colon, if there is one
abbrev pub place_text : Option (List ℕ) → List ℕ
place_text None = []
place_text (Some index) = codes ":" ++ index_text index

abbrev pub conflict_text : Conflict → List ℕ
conflict_text c = decimal (number c.case) ++ codes ":" ++ c.path ++ place_text c.index

-- conflicts, each behind a space
abbrev pub conflicts_text : List Conflict → List ℕ
conflicts_text [] = []
conflicts_text (c ∷ cs) = codes " " ++ conflict_text c ++ conflicts_text cs

-- why a tree doesn't take an edit
abbrev pub edit_text : EditFault → List ℕ
edit_text edit.NodeExists = codes "nodeexists"
edit_text edit.NoParent = codes "noparent"
edit_text edit.Full = codes "full"
edit_text edit.NoNode = codes "nonode"
edit_text (edit.FrozenField part) = codes "frozen" space frozen_text part
edit_text edit.NotArray = codes "notarray"
edit_text edit.OutOfGrid = codes "outofgrid"
edit_text (edit.ChunkLength want got) = codes "chunklength" space decimal want space decimal got
edit_text edit.NoMemory = codes "nomemory"

-- why a property doesn't go in
abbrev pub prop_text : PropFault → List ℕ
prop_text prop.Name = codes "name"
prop_text prop.Value = codes "value"
prop_text prop.Twice = codes "twice"
prop_text prop.Many = codes "many"
prop_text prop.NoMemory = codes "nomemory"

-- why a box of cells can't be read or written
abbrev pub region_text : RegionFault → List ℕ
region_text region.OutOfShape = codes "outofshape"
region_text region.Large = codes "regionlarge"
region_text (region.CellCount want got) = codes "cellcount" space decimal want space decimal got
region_text (region.CellRange at) = codes "cellrange" space decimal at

abbrev pub refusal_text : Refusal → List ℕ
refusal_text R.NoRef = codes "noref"
refusal_text (R.Edit fault) = edit_text fault
refusal_text (R.BadMeta fault) = codes "badmeta" space text_of fault
refusal_text R.ReadOnly = codes "readonly"
refusal_text (R.Missing key) = codes "missing" space key_name key
refusal_text (R.BadFile key bad) = codes "badfile" space key_name key
refusal_text R.TooDeep = codes "toodeep"
refusal_text R.StoreFault = codes "storefault"
refusal_text (R.IdTaken key) = codes "idtaken" space key_name key
refusal_text R.NoMemory = codes "nomemory"
refusal_text R.IdsSpent = codes "idsspent"
refusal_text R.BadKey = codes "badkey"
refusal_text (R.LostRace old found) = codes "conflict" space decimal old.0 space version_text found
refusal_text R.NothingToCommit = codes "nothing"
refusal_text (R.TooLarge kind) = codes "toolarge" space kind_text kind
refusal_text (R.InDoubt snapshot) = codes "indoubt" space id12_text snapshot
refusal_text (R.Left at conflicts) = codes "left" space id12_text at ++ conflicts_text conflicts
refusal_text (R.NotAncestor head) = codes "notancestor" space id12_text head
refusal_text (R.RefExists version) = codes "refexists" space decimal version.0
refusal_text R.NoSnapshot = codes "nosnapshot"
refusal_text R.TagDropped = codes "taggone"
refusal_text R.MainKept = codes "mainkept"
refusal_text (R.Moved found) = codes "moved" space version_text found
refusal_text (R.CutoffAhead now) = codes "cutoffahead" space decimal now
refusal_text R.Unnamed = codes "unnamed"
refusal_text (R.BadProp fault) = codes "badprop" space prop_text fault
refusal_text (R.Unsound faults) = codes "unsound" space decimal faults
refusal_text (R.Differs key) = codes "differs" space key_name key
refusal_text R.TargetFault = codes "targetfault"
refusal_text (R.Region fault) = region_text fault
