-- The journal as the code keeps it: a reply that a put's bytes answered
-- holds the put's position alone.
use Rattle.std.specs.Prelude.{ℕ, Bool, true, List, [], ◌∷◌, ◌++◌, length}
use Rattle.std.specs.Prelude.{Option, Some, None, option_map, slice_get}
use Rattle.object_store.specs.declared.keys.Key.{Key}
use Rattle.object_store.specs.declared.events.Op.{Op}
use Rattle.object_store.specs.declared.events.Op.TheVariants.{Get, PutNew, PutOver, Remove}
use Rattle.object_store.specs.declared.events.Op.TheVariants.{RemoveAt, List as ListPart}
use Rattle.object_store.specs.declared.events.Reply.{Reply}
use Rattle.object_store.specs.declared.events.Reply.TheVariants.{Got as Is_got, New as Is_new}
use Rattle.object_store.specs.declared.events.Reply.TheVariants.{Over as Is_over, Gone as Is_gone}
use Rattle.object_store.specs.declared.events.Reply.TheVariants.{GoneAt as Is_gone_at}
use Rattle.object_store.specs.declared.events.Reply.TheVariants.{Listed as Is_listed}
use Rattle.object_store.specs.declared.events.Reply.TheVariants.{Failed as Is_failed}
use Rattle.object_store.specs.declared.events.Event.{Event}
use Rattle.object_store.specs.Machine.{Stored, got_of, new_of, over_of, gone_of, gone_at_of}
use Rattle.mem_store.specs.declared.kept_events.Answer.{Answer}
use Rattle.mem_store.specs.declared.kept_events.Answer.TheVariants.{Stood, Listed, Failed}
use Rattle.mem_store.specs.declared.kept_events.KeptEvent.{KeptEvent}

-- the key at which an operation may change what stands
abbrev pub key_changed : Op → Option Key
key_changed (Get k) = None
key_changed (PutNew k bytes why) = Some k
key_changed (PutOver k bytes old why) = Some k
key_changed (Remove k why) = Some k
key_changed (RemoveAt k old why) = Some k
key_changed (ListPart part) = None

-- the bytes that an operation puts
abbrev pub bytes_put : Op → List ℕ
bytes_put (Get key) = []
bytes_put (PutNew key bytes why) = bytes
bytes_put (PutOver key bytes old why) = bytes
bytes_put (Remove key why) = []
bytes_put (RemoveAt key old why) = []
bytes_put (ListPart part) = []

-- what the put of an event at this position put
abbrev pub put_by : ℕ → Option Event → Stored
put_by place None = record { bytes = []; version = place; created = 0 }
put_by place (Some event) = record {
  bytes = bytes_put event.op;
  version = place;
  created = event.time;
}

-- what the put at a position of a journal put
abbrev pub put_in : List Event → ℕ → Stored
put_in journal place = put_by place (slice_get journal place)

abbrev pub puts_in : List Event → Option ℕ → Option Stored
puts_in journal at = option_map (put_in journal) at

-- what an operation at position n and this time answers, where this stands at its key
abbrev pub answered_by : ℕ → ℕ → Op → Option Stored → Reply
answered_by n now (Get key) at = Is_got (got_of now at)
answered_by n now (PutNew key bytes why) at = Is_new (new_of n now at)
answered_by n now (PutOver key bytes old why) at = Is_over (over_of n now old.0 at)
answered_by n now (Remove key why) at = Is_gone (gone_of now at)
answered_by n now (RemoveAt key old why) at = Is_gone_at (gone_at_of now old.0 at)
answered_by n now (ListPart part) at = Is_listed (record { entries = []; now = now })

-- the reply that is kept as this answer, after a journal
abbrev pub reply_in : List Event → ℕ → Op → Answer → Reply
reply_in journal now op (Stood at) = answered_by (length journal) now op (puts_in journal at)
reply_in journal now op (Listed entries) = Is_listed (record { entries = entries; now = now })
reply_in journal now op (Failed done) = Is_failed done

-- whether the operation took effect
abbrev pub is_done : Answer → Bool
is_done (Stood at) = true
is_done (Listed entries) = true
is_done (Failed done) = done

abbrev pub event_in : List Event → KeptEvent → Event
event_in journal log = record {
  client = log.client;
  op = log.op;
  reply = reply_in journal log.time log.op log.answer;
  time = log.time;
}

-- a journal and the events that are kept after it
unfoldable pub told_after : List Event → List KeptEvent → List Event
told_after journal [] = journal
told_after journal (log ∷ logs) = told_after (journal ++ event_in journal log ∷ []) logs

-- the journal that is kept
abbrev pub told : List KeptEvent → List Event
told logs = told_after [] logs
