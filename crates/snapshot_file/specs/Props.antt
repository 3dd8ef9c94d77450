-- Properties, the named texts of a snapshot: which names and values they
-- have, and how one is added. (Own.)
use Rattle.std.specs.Prelude.{◌≡◌, ◌⊎◌, ◌≤◌, ◌==◌, ◌||◌, ◌&&◌, not, nat_lt, nat_le, ℕ, Bool, true}
use Rattle.std.specs.Prelude.{if◌then◌else◌, List, length, bytes_eq, Option, None, Some}
use Rattle.std.specs.declared.cmp.Ordering.{Ordering}
use Rattle.std.specs.List.{list_any, AllByRecursion}
use Rattle.std.specs.Ordering.{nat_cmp}
use Rattle.std.specs.Cmp.Lexicographic.{slice_cmp}
use Rattle.std.specs.Str.{IsUtf8}
use Rattle.flat_tables.specs.Rows.{Ascends}
use Rattle.snapshot_file.specs.declared.properties.PropFault.{PropFault}
use Rattle.snapshot_file.specs.declared.properties.PropFault.TheVariants as refusals

-- the most properties of a snapshot
abbrev pub prop_limit : ℕ
prop_limit = 64

-- a byte that no name has: a space or less, or delete
abbrev pub is_blank : ℕ → Bool
is_blank byte = nat_lt byte 33 || byte == 127

-- a name has 1 to 200 bytes, none of them blank, and a value at most 65,536
unfoldable pub is_prop_name : List ℕ → Bool
is_prop_name name =
    nat_le 1 (length name) && nat_le (length name) 200 && not (list_any is_blank name)

unfoldable pub is_prop_value : List ℕ → Bool
is_prop_value value = nat_le (length value) 65536

abbrev pub is_prop : List ℕ × List ℕ → Bool
is_prop prop = is_prop_name prop.0 && is_prop_value prop.1

-- properties stand in the order of their names' bytes
abbrev pub prop_key : List ℕ × List ℕ → List ℕ
prop_key prop = prop.0

abbrev pub name_cmp : List ℕ → List ℕ → Ordering
name_cmp a b = slice_cmp nat_cmp a b

pub record IsProperty (prop : List ℕ × List ℕ) : Type 0 where
  pub proper : is_prop prop ≡ true
  pub name : IsUtf8 prop.0
  pub value : IsUtf8 prop.1

-- the rule of properties: they are few, no two have one name, and each is one
pub record AreProps (props : List (List ℕ × List ℕ)) : Type 0 where
  pub few : length props ≤ prop_limit
  pub ascend : Ascends prop_key None props
  pub each : AllByRecursion IsProperty props

-- ---- adding

abbrev pub has_name : List (List ℕ × List ℕ) → List ℕ → Bool
has_name props name = list_any (λ prop. bytes_eq prop.0 name) props

-- why a property isn't added to these, the first in this order
unfoldable pub prop_fault : List (List ℕ × List ℕ) → (name value : List ℕ) → Option PropFault
prop_fault props name value =
    if not (is_prop_name name) then Some refusals.Name else
    (if not (is_prop_value value) then Some refusals.Value else
    (if has_name props name then Some refusals.Twice else
    (if length props == prop_limit then Some refusals.Many else None)))

-- it is refused with that, and memory may run out for one that is not
abbrev pub RefusesProp : List (List ℕ × List ℕ) → (name value : List ℕ) → PropFault → Type 0
RefusesProp props name value fault =
    (prop_fault props name value ≡ Some fault)
    ⊎ ((fault ≡ refusals.NoMemory) × (prop_fault props name value ≡ None))
