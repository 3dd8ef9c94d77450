-- What a put put, as the code holds it.
use Rattle.std.specs.Prelude.{ℕ, Option, None, Some}
use Rattle.object_store.specs.declared.events.Got.{Got}
use Rattle.object_store.specs.declared.events.Got.TheVariants.{Found, Absent}
use Rattle.object_store.specs.Machine.{Stored, Slot, version_at}
use Rattle.mem_store.specs.declared.answers.Standing.{Standing}
use Rattle.mem_store.specs.declared.answers.Content.{Content}

abbrev pub stored_of : Standing → Stored
stored_of s = record { bytes = s.bytes.now; version = s.version; created = s.created }

-- a key at which this stands
abbrev pub slot_with : Option Stored → Slot
slot_with at = record { first = None; born = None; last = None; stands = at }

abbrev pub copy_of : Stored → Content
copy_of s = record { bytes = s.bytes; version = version_at s.version }

abbrev pub got_from : ℕ → Option Content → Got
got_from now None = Absent now
got_from now (Some c) = Found c.bytes c.version now
