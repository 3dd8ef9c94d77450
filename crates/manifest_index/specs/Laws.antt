-- Laws of an array's chunks after a change, and of their extents.
use Rattle.std.specs.Prelude.{◌≡◌, ◌<◌, ℕ, List, ◌∷◌, [], length}
use Rattle.std.specs.Prelude.{All, Option, Some, None, IfSome, IsTrue}
use Rattle.std.specs.List.{AllByRecursion}
use Rattle.ice_ids.specs.declared.Id8.{Id8}
use Rattle.ice_ids.specs.declared.Id12.{Id12}
use Rattle.manifest_file.specs.declared.manifest.ChunkRef.{ChunkRef}
use Rattle.manifest_file.specs.declared.manifest.ArrayRefs.{ArrayRefs}
use Rattle.held_manifest.specs.LookUp.{Listed, chunk_place}
use Rattle.snapshot_file.specs.Layout.{IsExtent}
use Rattle.manifest_index.specs.Merging.{ChunkChange, merged, merged_array, IsMerged, IsFrom}
use Rattle.manifest_index.specs.Extents.{are_low, extents_for, AreExtents}

-- the array after a change is the merged one; its chunks have its rank, and each is
-- the change's or an old manifest's
pub record MergedLaw : Type 0 where
  pub merged : (rank : ℕ) (node : Id8) (old : List Listed) (change : List ChunkChange)
      → IsMerged rank node old change (merged_array rank node old change)
  pub ranks : (rank : ℕ) (node : Id8) (old : List Listed) (change : List ChunkChange)
      → IfSome (merged_array rank node old change)
      (λ array. All (λ r. length r.index ≡ rank) array.refs)
  pub each_from : (rank : ℕ) (node : Id8) (old : List Listed) (change : List ChunkChange)
      → IfSome (merged_array rank node old change)
      (λ array. All (IsFrom node old change) array.refs)

-- the list of one manifest with one array, with the extents of its chunks
abbrev pub list_of : (rank : ℕ) → Id12 → ArrayRefs → List Listed
list_of rank id array = (extents_for rank array.refs, record { id = id; arrays = array ∷ [] }) ∷ []

-- such a list has the chunks after the change; where no array is left, no list has any
abbrev pub IsNewList : ℕ → Id8 → List Listed → List ChunkChange → Option ArrayRefs → Type 0
IsNewList rank node old change None = (index : List ℕ) → merged rank node old change index ≡ None
IsNewList rank node old change (Some array) =
    (id : Id12) (index : List ℕ)
    → chunk_place rank node index (list_of rank id array) ≡ merged rank node old change index

abbrev pub NewListLaw : Type 0
NewListLaw =
    (rank : ℕ) (node : Id8) (old : List Listed) (change : List ChunkChange)
    → IsNewList rank node old change (merged_array rank node old change)

-- the extents of chunks are the least ones
abbrev pub ExtentsLaw : Type 0
ExtentsLaw =
    (rank : ℕ) (refs : List ChunkRef) → 0 < length refs → All (λ r. length r.index ≡ rank) refs
    → AreExtents rank refs (extents_for rank refs)

-- the numbers of extents have 32 bits where no chunk has the greatest
-- number of 32 bits in its index
abbrev pub SizedExtentsLaw : Type 0
SizedExtentsLaw =
    (rank : ℕ) (refs : List ChunkRef) → 0 < length refs → All (λ r. length r.index ≡ rank) refs
    → All (λ r. IsTrue (are_low r.index)) refs → AllByRecursion IsExtent (extents_for rank refs)
