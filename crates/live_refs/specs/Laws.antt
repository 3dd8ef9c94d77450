-- What a listing tells of the refs that stand (own).
use Rattle.std.specs.Prelude.{◌≡◌, ◌↔◌, ℕ, List, Option, Some, None, slice_get}
use Rattle.object_store.specs.declared.keys.Key.{Key}
use Rattle.object_store.specs.declared.keys.Key.TheVariants.{Snapshot, Manifest, Txn, Chunk}
use Rattle.object_store.specs.declared.keys.Key.TheVariants.{Branch, Tag, Tombstone, Lease}
use Rattle.object_store.specs.declared.keys.Part.{Part}
use Rattle.object_store.specs.declared.events.Entry.{Entry}
use Rattle.object_store.specs.Machine.{Stored, part_of, IsListing}
use Rattle.live_refs.specs.Live.{live}

-- a place in the list where this key is
pub record HasKey (keys : List Key) (key : Key) : Type 0 where
  pub place : ℕ
  pub here : slice_get keys place ≡ Some key

-- a tag without a tombstone, or what is neither tag nor tombstone
abbrev pub IsNotGone : (Key → Option Stored) → Key → Type 0
IsNotGone at (Tombstone name) = ⊥
IsNotGone at (Tag name) = at (Tombstone name) ≡ None
IsNotGone at (Snapshot id) = Unit {0}
IsNotGone at (Manifest id) = Unit {0}
IsNotGone at (Txn id) = Unit {0}
IsNotGone at (Chunk id) = Unit {0}
IsNotGone at (Branch name) = Unit {0}
IsNotGone at (Lease id) = Unit {0}

-- a key of the part at which something stands, and of tags one without a tombstone
pub record IsRefIn (at : Key → Option Stored) (part : Part) (key : Key) : Type 0 where
  pub stored : Stored
  pub stands : at key ≡ Some stored
  pub part_is : part_of key ≡ part
  pub not_gone : IsNotGone at key

-- Of an honest listing, the keys whose refs are got are those that stand, and of
-- tags those that have no tombstone.
abbrev pub LiveLaw : Type 0
LiveLaw =
    (at : Key → Option Stored) (part : Part) (entries : List Entry) → IsListing at part entries
    → (key : Key) → (HasKey (live entries) key ↔ IsRefIn at part key)
