-- Sets with more ids, and keys of which one after another is taken (own).
use Rattle.std.specs.Prelude.{◌≡◌, List, [], ◌∷◌, Option, Some, None}
use Rattle.ice_ids.specs.declared.Id12.{Id12}
use Rattle.ice_ids.specs.Sets.{with_object}

-- a set with these ids as well
abbrev pub with_ids : List Id12 → List Id12 → List Id12
with_ids set [] = set
with_ids set (id ∷ ids) = with_ids (with_object set id) ids

-- the first of a list is taken
abbrev pub Takes : {A : Type 0} → List A → Option A → List A → Type 0
Takes old None new = (old ≡ []) × (new ≡ [])
Takes old (Some x) new = old ≡ x ∷ new
