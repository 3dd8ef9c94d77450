-- What entering ids in a set changes.
use Rattle.std.proofs.Common.{◌⊎◌, inl, inr, List, [], ◌∷◌, subst}
use Rattle.std.specs.Prelude.{Contains}
use Rattle.ice_ids.specs.declared.Id12.{Id12}
use Rattle.ice_ids.specs.Sets.{with_object}
use Rattle.ice_ids.proofs.Elements.{first-is, later-is, first-or-later, none-in}
use Rattle.ice_ids.proofs.OneMore.{Has, kept-with, has-with, only-with}
use Rattle.chunk_gc.specs.Lines.{with_ids}

pub kept-ids : (set ids : List Id12) (q : Id12) → Has set q → Has (with_ids set ids) q
kept-ids set [] q h = h
kept-ids set (id ∷ ids) q h = kept-ids (with_object set id) ids q (kept-with set id q h)

pub has-ids : (set ids : List Id12) (q : Id12) → Contains ids q → Has (with_ids set ids) q
has-ids set [] q c = absurd (none-in q c)
has-ids set (id ∷ ids) q c = elim (first-or-later id q ids c) [
  | inl same ↦ kept-ids (with_object set id) ids q (subst (λ (x : Id12). Has (with_object set id) x) same (has-with set id))
  | inr later ↦ has-ids (with_object set id) ids q later
]

pub only-ids : (set ids : List Id12) (q : Id12) → Has (with_ids set ids) q → Has set q ⊎ Contains ids q
only-ids set [] q h = inl h
only-ids set (id ∷ ids) q h = elim (only-ids (with_object set id) ids q h) [
  | inl old ↦ elim (only-with set id q old) [
    | inl was ↦ inl was
    | inr same ↦ inr (subst (λ (x : Id12). Contains (id ∷ ids) x) same (first-is id ids))
  ]
  | inr later ↦ inr (later-is id q ids later)
]
