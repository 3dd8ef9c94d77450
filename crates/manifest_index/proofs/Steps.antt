-- What is found at an index after one more entry.
use Rattle.std.proofs.Common.{◌≡◌, inl, inr, ℕ, zero, suc, ◌<◌, slice_index_or, subst, arith, Bool, true, false, cond, List, [], ◌∷◌, length, drop, nat_eq, Option, Some, None, option_map, refl, sym, ap, ◌∙◌}
use Rattle.std.specs.Prelude.{◌&&◌, find, bytes_eq, slice_get}
use Rattle.std.specs.Option.{option_or, unwrap_or}
use Rattle.std.specs.List.{AllWithin}
use Rattle.std.proofs.lemmas.Bool.{cases_lt}
use Rattle.std.proofs.lemmas.List.Elements.{at_read}
use Rattle.ice_ids.specs.declared.Id8.{Id8}
use Rattle.manifest_file.specs.declared.manifest.Place.{Place}
use Rattle.manifest_file.specs.declared.manifest.ChunkRef.{ChunkRef}
use Rattle.held_manifest.specs.LookUp.{Listed, within, place_of, look_up}
use Rattle.manifest_index.specs.Merging.{ChunkChange, changed_at, merged}
use Rattle.manifest_index.specs.inside.Chunks.{ranked}

some_is : {A : Type 0} (x y : A) → (let o : Option A = Some x in o) ≡ Some y → x ≡ y
some_is x y e = cc

drop_at : {A : Type 0} (xs : List A) (k : ℕ) (x : A) → slice_get xs k ≡ Some x → drop k xs ≡ x ∷ drop (suc k) xs
drop_at [] k x at = absurd cc
drop_at {A = A} (y ∷ xs) zero x at = ap (λ (z : A). z ∷ xs) (some_is y x at)
drop_at (y ∷ xs) (suc k) x at = drop_at xs k x at

-- what is left from an element on
pub drop_next : {A : Type 0} (xs : List A) (k next : ℕ) (x : A) → next ≡ suc k → slice_get xs k ≡ Some x → drop k xs ≡ x ∷ drop next xs
drop_next xs k next x is at = rw is (drop_at xs k x at)

-- ---- one more chunk before others

ref_by : (rank inside same : Bool) (r : ChunkRef) (found : Option ChunkRef) (old : Option Place)
    → option_or (cond rank (cond (inside && same) (Some r.place) None) None) (option_or (cond rank (cond inside (option_map (λ (x : ChunkRef). x.place) found) None) None) old)
    ≡ option_or (cond rank (cond inside (option_map (λ (x : ChunkRef). x.place) (cond same (Some r) found)) None) None) old
ref_by true true true r found old = refl
ref_by true true false r found old = refl
ref_by true false same r found old = refl
ref_by false inside same r found old = refl

pub ref_next : (rank : ℕ) (extents : List (ℕ × ℕ)) (q : List ℕ) (r : ChunkRef) (rs all : List ChunkRef) (now mid old : Option Place) → all ≡ r ∷ rs
    → now ≡ option_or (ranked rank q (cond (within extents q && bytes_eq r.index q) (Some r.place) None)) mid
    → mid ≡ option_or (ranked rank q (cond (within extents q) (place_of q rs) None)) old
    → now ≡ option_or (ranked rank q (cond (within extents q) (place_of q all) None)) old
ref_next rank extents q r rs all now mid old is h g =
    h ∙ ap (option_or (ranked rank q (cond (within extents q && bytes_eq r.index q) (Some r.place) None))) g
    ∙ ref_by (nat_eq (length q) rank) (within extents q) (bytes_eq r.index q) r (find (λ (x : ChunkRef). bytes_eq x.index q) rs) old
    ∙ ap (λ (xs : List ChunkRef). option_or (ranked rank q (cond (within extents q) (place_of q xs) None)) old) (sym is)

-- ---- the whole

merged_by : (rank : Bool) (change : Option (Option Place)) (old : Option Place) → cond rank (unwrap_or change (cond rank old None)) (cond rank old None) ≡ cond rank (unwrap_or change old) None
merged_by true change old = refl
merged_by false change old = refl

pub merged_is : (rank : ℕ) (node : Id8) (old : List Listed) (change : List ChunkChange) (q : List ℕ) (now mid : Option Place)
    → now ≡ cond (nat_eq (length q) rank) (unwrap_or (changed_at q change) mid) mid
    → mid ≡ ranked rank q (look_up node q old)
    → now ≡ merged rank node old change q
merged_is rank node old change q now mid h g =
    h ∙ ap (λ (o : Option Place). cond (nat_eq (length q) rank) (unwrap_or (changed_at q change) o) o) g
    ∙ merged_by (nat_eq (length q) rank) (changed_at q change) (look_up node q old)

-- ---- one element more from the end

pub all_next : {A : Type 0} (P : A → Type 0) (xs : List A) (k next : ℕ) (x : A) → next ≡ suc k → k < length xs → x ≡ slice_index_or xs k x → P x → AllWithin P xs next (length xs) → AllWithin P xs k (length xs)
all_next P xs k next x is inside at holds all = λ j d from below. elim (cases_lt j next) [
  | inl under ↦ let here : k ≡ j = omega arith in subst (λ (m : ℕ). P (slice_index_or xs m d)) here (at_read xs P k x inside at holds d)
  | inr over ↦ all j d over below
]
