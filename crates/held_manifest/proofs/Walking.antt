-- Steps of a walk over the objects that entries name.
use Rattle.std.proofs.Common.{◌≡◌, ℕ, ◌+◌, List, [], ◌∷◌, ◌++◌, drop, Option, None, Some, refl, sym, ap, ◌∙◌}
use Rattle.std.specs.Prelude.{slice_get}
use Rattle.std.specs.List.{cons_option}
use Rattle.std.proofs.lemmas.List.{drop_more}
use Rattle.std.proofs.lemmas.Option.{slice_get_within, get_or_from_slice_get}
use Rattle.ice_ids.specs.declared.Id12.{Id12}
use Rattle.manifest_file.specs.declared.manifest.ChunkRef.{ChunkRef}
use Rattle.manifest_file.specs.declared.manifest.ArrayRefs.{ArrayRefs}
use Rattle.held_manifest.specs.Objects.{object_of, objects_of_refs, objects_of_arrays, objects_behind, objects_from}

one_more : {A : Type 0} (xs : List A) (i : ℕ) (x : A) → slice_get xs i ≡ Some x → drop i xs ≡ x ∷ drop (i + 1) xs
one_more {A} xs i x at =
    drop_more xs i x (slice_get_within xs i x at) ∙ ap (λ (y : A). y ∷ drop (i + 1) xs) (get_or_from_slice_get xs i x x at)

-- ---- over chunks

by_chunk : (refs : List ChunkRef) (i : ℕ) (chunk : ChunkRef) (o : Option Id12) → slice_get refs i ≡ Some chunk → object_of chunk.place ≡ o → objects_of_refs (drop i refs) ≡ cons_option o (objects_of_refs (drop (i + 1) refs))
by_chunk refs i chunk o at is = ap objects_of_refs (one_more refs i chunk at) ∙ ap (λ (p : Option Id12). cons_option p (objects_of_refs (drop (i + 1) refs))) is

pub chunk_names : (refs : List ChunkRef) (i : ℕ) (chunk : ChunkRef) (id : Id12) → slice_get refs i ≡ Some chunk → object_of chunk.place ≡ Some id → objects_of_refs (drop i refs) ≡ id ∷ objects_of_refs (drop (i + 1) refs)
chunk_names refs i chunk id at is = by_chunk refs i chunk (Some id) at is

pub chunk_passed : (refs : List ChunkRef) (i : ℕ) (chunk : ChunkRef) → slice_get refs i ≡ Some chunk → object_of chunk.place ≡ None → objects_of_refs (drop i refs) ≡ objects_of_refs (drop (i + 1) refs)
chunk_passed refs i chunk at is = by_chunk refs i chunk None at is

-- ---- over arrays

from_start : (arrays : List ArrayRefs) → objects_behind 0 arrays ≡ objects_of_arrays arrays
from_start [] = refl
from_start (a ∷ arrays) = refl

by_array : (arrays : List ArrayRefs) (i from : ℕ) (a : ArrayRefs) (ids : List Id12) → slice_get arrays i ≡ Some a → objects_of_refs (drop from a.refs) ≡ ids → objects_from arrays i from ≡ ids ++ objects_of_arrays (drop (i + 1) arrays)
by_array arrays i from a ids at are = ap (objects_behind from) (one_more arrays i a at) ∙ ap (λ (xs : List Id12). xs ++ objects_of_arrays (drop (i + 1) arrays)) are

pub array_names : (arrays : List ArrayRefs) (i from behind : ℕ) (a : ArrayRefs) (id : Id12) → slice_get arrays i ≡ Some a → objects_of_refs (drop from a.refs) ≡ id ∷ objects_of_refs (drop behind a.refs) → objects_from arrays i from ≡ id ∷ objects_from arrays i behind
array_names arrays i from behind a id at are =
    by_array arrays i from a (id ∷ objects_of_refs (drop behind a.refs)) at are
    ∙ ap (λ (xs : List Id12). id ∷ xs) (sym (by_array arrays i behind a (objects_of_refs (drop behind a.refs)) at refl))

pub array_passed : (arrays : List ArrayRefs) (i from : ℕ) (a : ArrayRefs) → slice_get arrays i ≡ Some a → objects_of_refs (drop from a.refs) ≡ [] → objects_from arrays i from ≡ objects_from arrays (i + 1) 0
array_passed arrays i from a at none = by_array arrays i from a [] at none ∙ sym (from_start (drop (i + 1) arrays))
