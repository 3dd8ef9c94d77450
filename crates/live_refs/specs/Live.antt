-- Which refs of a listing stand (own; tombstones of tags are objects of their own).
use Rattle.std.specs.Prelude.{Bool, true, false, if◌then◌else◌, List, [], ◌∷◌}
use Rattle.object_store.specs.declared.keys.Key.{Key}
use Rattle.object_store.specs.declared.keys.Key.TheVariants.{Snapshot, Manifest, Txn, Chunk}
use Rattle.object_store.specs.declared.keys.Key.TheVariants.{Branch, Tag, Tombstone, Lease}
use Rattle.object_store.specs.declared.events.Entry.{Entry}
use Rattle.object_store.specs.Machine.{same_key}

-- a tombstone, or the tag of the tombstone that is listed right behind it
abbrev pub is_gone : Key → List Entry → Bool
is_gone (Tombstone name) behind = true
is_gone (Tag name) (next ∷ behind) = same_key next.key (Tombstone name)
is_gone (Tag name) [] = false
is_gone (Snapshot id) behind = false
is_gone (Manifest id) behind = false
is_gone (Txn id) behind = false
is_gone (Chunk id) behind = false
is_gone (Branch name) behind = false
is_gone (Lease id) behind = false

-- the keys of a listing whose refs stand
abbrev pub live : List Entry → List Key
live [] = []
live (entry ∷ behind) = if is_gone entry.key behind then live behind else entry.key ∷ live behind

-- the first key, and of those behind it the ones whose refs stand
abbrev pub first_and_live : List Entry → List Key
first_and_live [] = []
first_and_live (entry ∷ behind) = entry.key ∷ live behind
