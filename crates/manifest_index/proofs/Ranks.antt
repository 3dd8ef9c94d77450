-- Chunks that stand where a change leaves one have the array's rank.
use Rattle.std.proofs.Common.{◌≡◌, ◌∙◌, ℕ, zero, suc, ◌<◌, Bool, true, false, cond, List, [], ◌∷◌, length, nat_eq, Option, Some, None, option_map, refl, ap, arith, All, slice_index_or}
use Rattle.std.specs.Prelude.{find, bytes_eq}
use Rattle.std.specs.Option.{unwrap_or}
use Rattle.std.proofs.lemmas.Slice.Eq.{bytes_eq-Decides}
use Rattle.ice_ids.specs.declared.Id8.{Id8}
use Rattle.zarr_path.proofs.PathLaws.{by_numbers}
use Rattle.manifest_file.specs.declared.manifest.ChunkRef.{ChunkRef}
use Rattle.held_manifest.specs.LookUp.{Listed, place_of, look_up}
use Rattle.manifest_index.specs.Merging.{ChunkChange, changed_at, merged}

first_found : (b : Bool) (x : ChunkRef) (found : Option ChunkRef) → b ≡ true → option_map (λ (r : ChunkRef). r.place) (cond b (Some x) found) ≡ None → true ≡ false
first_found true x found e none = cc
first_found false x found e none = cc

later_none : (b : Bool) (x : ChunkRef) (found : Option ChunkRef) → option_map (λ (r : ChunkRef). r.place) (cond b (Some x) found) ≡ None → option_map (λ (r : ChunkRef). r.place) found ≡ None
later_none true x found none = cc
later_none false x found none = none

-- a chunk of the list is found
is_found : (refs : List ChunkRef) (j : ℕ) (d : ChunkRef) → j < length refs → place_of (slice_index_or refs j d).index refs ≡ None → true ≡ false
is_found [] j d below none = absurd (omega arith)
is_found (x ∷ xs) zero d below none =
    first_found (bytes_eq x.index x.index) x (find (λ (r : ChunkRef). bytes_eq r.index x.index) xs) ((bytes_eq-Decides x.index x.index).1 refl) none
is_found (x ∷ xs) (suc j) d below none =
    let index : List ℕ = (slice_index_or xs j d).index in
    is_found xs j d (omega (arith, below)) (later_none (bytes_eq x.index index) x (find (λ (r : ChunkRef). bytes_eq r.index index) xs) none)

pub each_ranked : (rank : ℕ) (node : Id8) (old : List Listed) (change : List ChunkChange) (refs : List ChunkRef)
    → ((q : List ℕ) → place_of q refs ≡ merged rank node old change q) → All (λ r. length r.index ≡ rank) refs
each_ranked rank node old change refs are = λ j d below. by_rank j d below (nat_eq (length (slice_index_or refs j d).index) rank) refl
  where
    by_rank : (j : ℕ) (d : ChunkRef) → j < length refs → (b : Bool) → nat_eq (length (slice_index_or refs j d).index) rank ≡ b → length (slice_index_or refs j d).index ≡ rank
    by_rank j d below true e = (by_numbers (length (slice_index_or refs j d).index) rank).0 e
    by_rank j d below false e =
        let index : List ℕ = (slice_index_or refs j d).index in
        let none : place_of index refs ≡ None = are index ∙ ap (λ b. cond b (unwrap_or (changed_at index change) (look_up node index old)) None) e in
        let no : true ≡ false = is_found refs j d below none in
        absurd cc
