-- The journal and its index, as the code keeps them.
use Rattle.std.specs.Prelude.{◌≡◌, List}
use Rattle.object_store.specs.declared.keys.Key.{Key}
use Rattle.object_store.specs.declared.events.Event.{Event}
use Rattle.object_store.specs.Machine.{found}
use Rattle.mem_store.specs.declared.journal.Journal.TheInside.{Inside}
use Rattle.mem_store.specs.Places.{place_in}
use Rattle.mem_store.specs.KeptEvents.{puts_in, told}

abbrev pub journal_kept : Inside → List Event
journal_kept s = told s.logs.items

-- at each key the index has the put that stands there
abbrev pub IsIndexed : Inside → Type 0
IsIndexed s =
    (key : Key) → puts_in (journal_kept s) (place_in s.index key) ≡ found (journal_kept s) key
