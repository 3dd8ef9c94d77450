-- What the call has merged is the array after the change.
use Rattle.std.proofs.Common.{◌≡◌, inl, inr, ℕ, List, length, slice_index_or, Option, Some, None, refl, sym, subst, All}
use Rattle.std.specs.Prelude.{IsTrue, IfSome}
use Rattle.std.proofs.lemmas.List.Elements.{All-contains}
use Rattle.ice_ids.specs.declared.Id8.{Id8}
use Rattle.manifest_file.specs.declared.manifest.ChunkRef.{ChunkRef}
use Rattle.manifest_file.specs.declared.manifest.ArrayRefs.{ArrayRefs}
use Rattle.held_manifest.specs.LookUp.{Listed}
use Rattle.manifest_index.specs.Merging.{ChunkChange, merged_array, IsMerged, IsFrom}
use Rattle.manifest_index.specs.Extents.{are_low}
use Rattle.manifest_index.specs.inside.Chunks.{IsSized}
use Rattle.manifest_index.proofs.MergedLaws.{merged_is_law}
use Rattle.manifest_index.proofs.Least.{within_low}

-- ---- numbers that are low

from_low : (node : Id8) (old : List Listed) (change : List ChunkChange) (chunk : ChunkRef) → All (λ m. All IsSized m.0) old → All (λ x. IsTrue (are_low x.0)) change → IsFrom node old change chunk → IsTrue (are_low chunk.index)
from_low node old change chunk sized low from = elim from [
  | inl changed ↦ All-contains (λ (x : ChunkChange). IsTrue (are_low x.0)) change (chunk.index, Some chunk.place) low changed
  | inr listed ↦ within_low listed.0.0 chunk.index (All-contains (λ (m : Listed). All IsSized m.0) old listed.0 sized listed.1) listed.2.inside
]

each_low : (node : Id8) (old : List Listed) (change : List ChunkChange) (m : Option ArrayRefs) → All (λ m. All IsSized m.0) old → All (λ x. IsTrue (are_low x.0)) change
    → IfSome m (λ array. All (IsFrom node old change) array.refs) → IfSome m (λ array. All (λ r. IsTrue (are_low r.index)) array.refs)
each_low node old change None sized low from = tt
each_low node old change (Some array) sized low from = λ j d below. from_low node old change (slice_index_or array.refs j d) sized low (from j d below)

-- ---- the clauses of the call

pub record IsAfter (rank : ℕ) (node : Id8) (old : List Listed) (change : List ChunkChange) (m : Option ArrayRefs) : Type 0 where
  pub «is» : m ≡ merged_array rank node old change
  pub «merged» : IsMerged rank node old change m
  pub ranks : IfSome m (λ array. All (λ r. length r.index ≡ rank) array.refs)
  pub low : IfSome m (λ array. All (λ r. IsTrue (are_low r.index)) array.refs)

pub is_after : (rank : ℕ) (node : Id8) (old : List Listed) (change : List ChunkChange) (m : Option ArrayRefs) → All (λ m. All IsSized m.0) old → All (λ x. IsTrue (are_low x.0)) change
    → m ≡ merged_array rank node old change → IsAfter rank node old change m
is_after rank node old change m sized low e =
    let law = merged_is_law in
    subst (IsAfter rank node old change) (sym e) (record {
      is = refl;
      merged = law.merged rank node old change;
      ranks = law.ranks rank node old change;
      low = each_low node old change (merged_array rank node old change) sized low (law.each_from rank node old change);
    })
