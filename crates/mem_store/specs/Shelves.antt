-- The maps in which the code keeps which put stands at each key: one for each part.
use Rattle.std.specs.Prelude.{◌≡◌, ◌≢◌, ℕ, List, Option, None, slice_get}
use Rattle.std.specs.Option.{option_and_then}
use Rattle.std.specs.BTreeMap.{BTreeMap, get}
use Rattle.object_store.specs.declared.keys.Key.{Key}
use Rattle.object_store.specs.declared.keys.Part.{Part}
use Rattle.object_store.specs.Machine.{part_of}
use Rattle.object_store.specs.Orders.{place_of, key_cmp}

-- the map of a part
abbrev pub shelf_at : List (BTreeMap Key ℕ) → Part → Option (BTreeMap Key ℕ)
shelf_at shelves part = slice_get shelves (place_of part)

abbrev pub place_on : Option (BTreeMap Key ℕ) → Key → Option ℕ
place_on shelf key = option_and_then (λ (places : BTreeMap Key ℕ). get key_cmp places key) shelf

-- the position of the put that stands at a key
abbrev pub place_at : List (BTreeMap Key ℕ) → Key → Option ℕ
place_at shelves key = place_on (shelf_at shelves (part_of key)) key

-- a map has no key of another part
abbrev pub IsSorted : List (BTreeMap Key ℕ) → Type 0
IsSorted shelves =
    (part : Part) (key : Key) → place_of (part_of key) ≢ place_of part
    → place_on (shelf_at shelves part) key ≡ None
