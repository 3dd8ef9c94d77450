-- Which put stands at each key, as the code keeps it.
use Rattle.std.specs.Prelude.{ℕ, ◌==◌, Bool, if◌then◌else◌, Option, Some, None}
use Rattle.std.specs.BTreeMap.{BTreeMap}
use Rattle.object_store.specs.declared.keys.Key.{Key}
use Rattle.object_store.specs.declared.keys.Part.{Part}
use Rattle.object_store.specs.declared.events.Op.{Op}
use Rattle.object_store.specs.declared.events.Op.TheVariants.{Get, PutNew, PutOver, Remove}
use Rattle.object_store.specs.declared.events.Op.TheVariants.{RemoveAt, List as ListPart}
use Rattle.object_store.specs.Machine.{is_on}
use Rattle.mem_store.specs.declared.index.Index.{Index}
use Rattle.mem_store.specs.Shelves.{shelf_at, place_at}

-- the map of a part
abbrev pub shelf_of : Index → Part → Option (BTreeMap Key ℕ)
shelf_of index part = shelf_at index.shelves part

-- the position of the put that stands at a key
abbrev pub place_in : Index → Key → Option ℕ
place_in index key = place_at index.shelves key

abbrev pub where_none : Option ℕ → ℕ → Option ℕ
where_none None place = Some place
where_none (Some v) place = Some v

abbrev pub where_at : ℕ → Option ℕ → Option ℕ → Option ℕ
where_at old None new = None
where_at old (Some v) new = if v == old then new else Some v

-- the put that stands at its key after an operation at this position that was done
abbrev pub place_left : ℕ → Op → Option ℕ → Option ℕ
place_left place (Get key) at = at
place_left place (PutNew key bytes why) at = where_none at place
place_left place (PutOver key bytes old why) at = where_at old.0 at (Some place)
place_left place (Remove key why) at = None
place_left place (RemoveAt key old why) at = where_at old.0 at None
place_left place (ListPart part) at = at

-- the put that stands at a key after an operation
abbrev pub place_after : ℕ → Op → Bool → Key → Option ℕ → Option ℕ
place_after place op done key at =
    if is_on key op then (if done then place_left place op at else at) else at
