-- The objects that the entries of a manifest name.
use Rattle.std.specs.Prelude.{◌≡◌, ℕ, List, [], ◌∷◌, ◌++◌, drop, Option, None, Some}
use Rattle.std.specs.Prelude.{MatchOption, Contains, flat_map, filter_map}
use Rattle.ice_ids.specs.declared.Id12.{Id12}
use Rattle.manifest_file.specs.declared.manifest.Place.{Place}
use Rattle.manifest_file.specs.declared.manifest.Place.TheVariants.{Inline, Object}
use Rattle.manifest_file.specs.declared.manifest.ChunkRef.{ChunkRef}
use Rattle.manifest_file.specs.declared.manifest.ArrayRefs.{ArrayRefs}
use Rattle.manifest_file.specs.declared.manifest.ManifestFile.{ManifestFile}
use Rattle.held_manifest.specs.declared.objects.Found.{Found}

-- the object that a place names, if its bytes are in one
abbrev pub object_of : Place → Option Id12
object_of (Inline bytes) = None
object_of (Object id offset size) = Some id

-- the objects that entries name, in the order of the entries: one for each
-- entry whose bytes are in an object
abbrev pub objects_of_refs : List ChunkRef → List Id12
objects_of_refs refs = filter_map (λ r. object_of r.place) refs

abbrev pub objects_of_arrays : List ArrayRefs → List Id12
objects_of_arrays arrays = flat_map (λ a. objects_of_refs a.refs) arrays

abbrev pub objects_of : ManifestFile → List Id12
objects_of manifest = objects_of_arrays manifest.arrays

-- some entry of some array of a manifest has its bytes in this object
pub record NamesObject (manifest : ManifestFile) (id : Id12) : Type 0 where
  pub array : ArrayRefs
  pub among : Contains manifest.arrays array
  pub chunk : ChunkRef
  pub has : Contains array.refs chunk
  pub offset : ℕ
  pub size : ℕ
  pub is : chunk.place ≡ Object id offset size

-- ---- those that are left of a walk

-- from chunk number `chunk` of the first of these arrays on
abbrev pub objects_behind : ℕ → List ArrayRefs → List Id12
objects_behind chunk [] = []
objects_behind chunk (a ∷ arrays) = objects_of_refs (drop chunk a.refs) ++ objects_of_arrays arrays

-- from chunk number `chunk` of array number `array` on
abbrev pub objects_from : List ArrayRefs → (array chunk : ℕ) → List Id12
objects_from arrays array chunk = objects_behind chunk (drop array arrays)

-- the first of them, and where those behind it begin
abbrev pub FindsRef : List ChunkRef → ℕ → Option (Id12 × ℕ) → Type 0
FindsRef refs from found =
    MatchOption found (objects_of_refs (drop from refs) ≡ [])
    (λ f. objects_of_refs (drop from refs) ≡ f.0 ∷ objects_of_refs (drop f.1 refs))

abbrev pub Finds : List ArrayRefs → (array chunk : ℕ) → Option Found → Type 0
Finds arrays array chunk found =
    MatchOption found (objects_from arrays array chunk ≡ [])
    (λ f. objects_from arrays array chunk ≡ f.id ∷ objects_from arrays f.array f.chunk)
