-- Arrays whose reading depends on how many chunks came before.
use Rattle.std.proofs.Common.{◌≡◌, ℕ, ◌+◌, List, [], ◌∷◌, ◌++◌, length, Result, Err, sym, ap, ◌∙◌, ◌⊎◌, inl, inr}
use Rattle.std.proofs.lemmas.List.Sums.{sum_by-cons, sum_by_push}
use Rattle.flat_tables.specs.declared.fault.FileFault.{FileFault}
use Rattle.flat_tables.specs.declared.fault.FileFault.TheVariants.{NoMemory}
use Rattle.flat_tables.specs.Places.{VectorIn}
use Rattle.manifest_file.specs.declared.manifest.ArrayRefs.{ArrayRefs}
use Rattle.manifest_file.specs.Manifests.{refs_of, array_at, array_behind}

-- what is read at a place and after so many chunks is what is read behind these arrays
pub behind_is : (v : VectorIn) (arrays : List ArrayRefs) (i before : ℕ) (r : Result ArrayRefs FileFault) → length arrays ≡ i → before ≡ refs_of arrays → array_at v i before ≡ r → array_behind v arrays ≡ r
behind_is v arrays i before r len count is = ap (λ (n : ℕ). array_at v n (refs_of arrays)) len ∙ ap (array_at v i) (sym count) ∙ is

pub behind_cases : (v : VectorIn) (arrays : List ArrayRefs) (i before : ℕ) (fault : FileFault) → length arrays ≡ i → before ≡ refs_of arrays → (fault ≡ NoMemory) ⊎ (array_at v i before ≡ Err fault) → (fault ≡ NoMemory) ⊎ (array_behind v arrays ≡ Err fault)
behind_cases v arrays i before fault len count (inl memory) = inl memory
behind_cases v arrays i before fault len count (inr is) = inr (behind_is v arrays i before (Err fault) len count is)

-- one more array has its own chunks more
pub refs_more : (arrays : List ArrayRefs) (array : ArrayRefs) → refs_of (arrays ++ array ∷ []) ≡ refs_of arrays + length array.refs
refs_more arrays array = sum_by_push (λ a. length a.refs) arrays array

-- the chunks of an array before others
pub refs_before : (array : ArrayRefs) (arrays : List ArrayRefs) → refs_of (array ∷ arrays) ≡ length array.refs + refs_of arrays
refs_before array arrays = sum_by-cons (λ a. length a.refs) array arrays
