-- Sets of ids of objects, as lists in the strict order of their bytes (own).
use Rattle.std.specs.Prelude.{Bool, List}
use Rattle.std.specs.List.{list_any}
use Rattle.std.specs.List.Sorted.{IsStrictlySortedBy}
use Rattle.std.specs.BTreeSet.{insert_key}
use Rattle.ice_ids.specs.declared.Id12.{Id12}
use Rattle.ice_ids.specs.Text.{same_id12, id12_cmp}

-- each id stands before the greater ones, and once
abbrev pub ObjectsAscend : List Id12 → Type 0
ObjectsAscend ids = IsStrictlySortedBy id12_cmp ids

-- whether an id is among these
abbrev pub has_object : List Id12 → Id12 → Bool
has_object ids id = list_any (λ other. same_id12 other id) ids

-- these with one more, at its place in the order, unless it is among them
abbrev pub with_object : List Id12 → Id12 → List Id12
with_object ids id = insert_key id12_cmp ids id
