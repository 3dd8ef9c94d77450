-- The numbers of the cases of conflicts. (Own: the order in which Icechunk's
-- conflict detector names them.)
use Rattle.std.specs.Prelude.{ℕ}
use Rattle.zarr_tree.specs.declared.cases.Case.{Case}
use Rattle.zarr_tree.specs.declared.cases.Case.TheVariants as case

abbrev pub number : Case → ℕ
number case.NewNodeConflictsWithExistingNode = 1
number case.NewNodeInInvalidGroup = 2
number case.ZarrMetadataDoubleUpdate = 3
number case.ZarrMetadataUpdateOfDeletedArray = 4
number case.ZarrMetadataUpdateOfDeletedGroup = 5
number case.ChunkDoubleUpdate = 6
number case.ChunksUpdatedInDeletedArray = 7
number case.ChunksUpdatedInUpdatedArray = 8
number case.DeleteOfUpdatedArray = 9
number case.DeleteOfUpdatedGroup = 10
