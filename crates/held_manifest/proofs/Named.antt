-- The objects that a manifest names are those of its entries.
use Rattle.std.proofs.Common.{◌≡◌, ◌⊎◌, ℕ, zero, suc, List, [], ◌∷◌, Option, None, Some, refl, sym, ap, subst, ◌∙◌, arith, inl, inr}
use Rattle.std.specs.Prelude.{Contains}
use Rattle.std.specs.List.{cons_option}
use Rattle.std.proofs.lemmas.List.Elements.{Contains-append_left, Contains-append_right, Contains-append_cases}
use Rattle.ice_ids.specs.declared.Id12.{Id12}
use Rattle.manifest_file.specs.declared.manifest.Place.{Place}
use Rattle.manifest_file.specs.declared.manifest.Place.TheVariants.{Inline, Object}
use Rattle.manifest_file.specs.declared.manifest.ChunkRef.{ChunkRef}
use Rattle.manifest_file.specs.declared.manifest.ArrayRefs.{ArrayRefs}
use Rattle.manifest_file.specs.declared.manifest.ManifestFile.{ManifestFile}
use Rattle.held_manifest.specs.Objects.{object_of, objects_of, objects_of_refs, objects_of_arrays, NamesObject}
use Rattle.held_manifest.specs.Laws.{ObjectsLaw}
use Rattle.held_manifest.proofs.Checked.{some_same}

-- ---- elements

nothing : {A : Type 0} (x : A) → Contains [] x → ⊥
nothing x has = omega (arith, has.1)

here : {A : Type 0} (x y : A) (xs : List A) → x ≡ y → Contains (x ∷ xs) y
here x y xs same = (0, omega arith, same)

there : {A : Type 0} (x y : A) (xs : List A) → Contains xs y → Contains (x ∷ xs) y
there x y xs has = (suc has.0, omega (arith, has.1), has.2)

cases : {A : Type 0} (x y : A) (xs : List A) → Contains (x ∷ xs) y → (x ≡ y) ⊎ Contains xs y
cases x y xs (zero, lt, at) = inl at
cases x y xs (suc k, lt, at) = inr (k, omega (arith, lt), at)

-- ---- one place

placed : (p : Place) (id : Id12) → object_of p ≡ Some id → (offset : ℕ) × (size : ℕ) × (p ≡ Object id offset size)
placed (Inline bytes) id is = absurd cc
placed (Object x offset size) id is = (offset, size, ap (λ (y : Id12). Object y offset size) (some_same x id is))

-- ---- entries

record Named (refs : List ChunkRef) (id : Id12) : Type 0 where
  chunk : ChunkRef
  has : Contains refs chunk
  is : object_of chunk.place ≡ Some id

later : (r : ChunkRef) (refs : List ChunkRef) (id : Id12) → Named refs id → Named (r ∷ refs) id
later r refs id n = record { chunk = n.chunk; has = there r n.chunk refs n.has; is = n.is }

first_or_later : (r : ChunkRef) (refs : List ChunkRef) (id : Id12) (o : Option Id12) → object_of r.place ≡ o → (Contains (objects_of_refs refs) id → Named refs id) → Contains (cons_option o (objects_of_refs refs)) id → Named (r ∷ refs) id
first_or_later r refs id None is rest has = later r refs id (rest has)
first_or_later r refs id (Some x) is rest has = elim (cases x id (objects_of_refs refs) has) [
  | inl same ↦ record { chunk = r; has = here r r refs refl; is = is ∙ ap Some same }
  | inr behind ↦ later r refs id (rest behind)
]

named : (refs : List ChunkRef) (id : Id12) → Contains (objects_of_refs refs) id → Named refs id
named [] id has = absurd (nothing id has)
named (r ∷ refs) id has = first_or_later r refs id (object_of r.place) refl (named refs id) has

kept : (o : Option Id12) (ids : List Id12) (id : Id12) → Contains ids id → Contains (cons_option o ids) id
kept None ids id has = has
kept (Some x) ids id has = there x id ids has

has_object : (refs : List ChunkRef) (chunk : ChunkRef) (id : Id12) → Contains refs chunk → object_of chunk.place ≡ Some id → Contains (objects_of_refs refs) id
has_object [] chunk id has is = absurd (nothing chunk has)
has_object (r ∷ refs) chunk id has is = elim (cases r chunk refs has) [
  | inl same ↦
      let first : object_of r.place ≡ Some id = ap (λ (c : ChunkRef). object_of c.place) same ∙ is in
      subst (λ (o : Option Id12). Contains (cons_option o (objects_of_refs refs)) id) (sym first) (here id id (objects_of_refs refs) refl)
  | inr behind ↦ kept (object_of r.place) (objects_of_refs refs) id (has_object refs chunk id behind is)
]

-- ---- arrays

record InArray (arrays : List ArrayRefs) (id : Id12) : Type 0 where
  array : ArrayRefs
  among : Contains arrays array
  has : Contains (objects_of_refs array.refs) id

in_array : (arrays : List ArrayRefs) (id : Id12) → Contains (objects_of_arrays arrays) id → InArray arrays id
in_array [] id has = absurd (nothing id has)
in_array (a ∷ arrays) id has = elim (Contains-append_cases (objects_of_refs a.refs) (objects_of_arrays arrays) id has) [
  | inl first ↦ record { array = a; among = here a a arrays refl; has = first }
  | inr behind ↦
      let n = in_array arrays id behind in
      record { array = n.array; among = there a n.array arrays n.among; has = n.has }
]

has_array : (arrays : List ArrayRefs) (array : ArrayRefs) (id : Id12) → Contains arrays array → Contains (objects_of_refs array.refs) id → Contains (objects_of_arrays arrays) id
has_array [] array id among has = absurd (nothing array among)
has_array (a ∷ arrays) array id among has = elim (cases a array arrays among) [
  | inl same ↦
      let first : Contains (objects_of_refs a.refs) id = subst (λ (x : ArrayRefs). Contains (objects_of_refs x.refs) id) (sym same) has in
      Contains-append_left (objects_of_refs a.refs) (objects_of_arrays arrays) id first
  | inr behind ↦ Contains-append_right (objects_of_refs a.refs) (objects_of_arrays arrays) id (has_array arrays array id behind has)
]

-- ---- the manifest

names : (manifest : ManifestFile) (id : Id12) → Contains (objects_of manifest) id → NamesObject manifest id
names manifest id has =
    let a = in_array manifest.arrays id has in
    let n = named a.array.refs id a.has in
    let p = placed n.chunk.place id n.is in
    record { array = a.array; among = a.among; chunk = n.chunk; has = n.has; offset = p.0; size = p.1; is = p.2 }

is_met : (manifest : ManifestFile) (id : Id12) → NamesObject manifest id → Contains (objects_of manifest) id
is_met manifest id n = has_array manifest.arrays n.array id n.among (has_object n.array.refs n.chunk id n.has (ap object_of n.is))

pub objects_are : ObjectsLaw
objects_are manifest id = (names manifest id, is_met manifest id)
