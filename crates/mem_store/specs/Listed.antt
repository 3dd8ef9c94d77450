-- Listings of what the index has.
use Rattle.std.specs.Prelude.{ℕ, List, length, map}
use Rattle.object_store.specs.declared.keys.Key.{Key}
use Rattle.object_store.specs.declared.events.Event.{Event}
use Rattle.object_store.specs.declared.events.Entry.{Entry}
use Rattle.mem_store.specs.KeptEvents.{put_in}

-- the entry of a key and of the put that stands there
abbrev pub entry_in : List Event → Key × ℕ → Entry
entry_in journal at = record {
  key = at.0;
  size = length (put_in journal at.1).bytes;
  created = (put_in journal at.1).created;
}

abbrev pub entries_in : List Event → List (Key × ℕ) → List Entry
entries_in journal places = map (entry_in journal) places
