-- Events and operations that are lent, as the events and operations that they are.
use Rattle.object_store.specs.declared.events.Got.TheVariants.{Found as Got_found}
use Rattle.object_store.specs.declared.events.Got.TheVariants.{Absent as Got_absent}
use Rattle.object_store.specs.declared.events.Reply.{Reply}
use Rattle.object_store.specs.declared.events.Reply.TheVariants.{Got as Is_got, New as Is_new}
use Rattle.object_store.specs.declared.events.Reply.TheVariants.{Over as Is_over, Gone as Is_gone}
use Rattle.object_store.specs.declared.events.Reply.TheVariants.{GoneAt as Is_gone_at}
use Rattle.object_store.specs.declared.events.Reply.TheVariants.{Listed as Is_listed}
use Rattle.object_store.specs.declared.events.Reply.TheVariants.{Failed as Is_failed}
use Rattle.object_store.specs.declared.events.Event.{Event}
use Rattle.mem_store.specs.declared.events.ReplyRef.{ReplyRef}
use Rattle.mem_store.specs.declared.events.ReplyRef.TheVariants.{Found, Absent, New, Over}
use Rattle.mem_store.specs.declared.events.ReplyRef.TheVariants.{Gone, GoneAt, Listed, Failed}
use Rattle.mem_store.specs.declared.events.EventRef.{EventRef}
use Rattle.object_store.specs.declared.events.Op.{Op}
use Rattle.object_store.specs.declared.events.Op.TheVariants as Made
use Rattle.mem_store.specs.declared.requests.OpRef.{OpRef}
use Rattle.mem_store.specs.declared.requests.OpRef.TheVariants as Asked

abbrev pub reply_lent : ReplyRef → Reply
reply_lent (Found bytes version now) = Is_got (Got_found bytes.now version now)
reply_lent (Absent now) = Is_got (Got_absent now)
reply_lent (New new) = Is_new new
reply_lent (Over over) = Is_over over
reply_lent (Gone gone) = Is_gone gone
reply_lent (GoneAt gone) = Is_gone_at gone
reply_lent (Listed entries now) = Is_listed (record { entries = entries.now; now = now })
reply_lent (Failed done) = Is_failed done

abbrev pub event_lent : EventRef → Event
event_lent event = record {
  client = event.client;
  op = event.op.now;
  reply = reply_lent event.reply;
  time = event.time;
}

-- an operation that is asked for
abbrev pub op_lent : OpRef → Op
op_lent (Asked.Get key) = Made.Get key.now
op_lent (Asked.PutNew key bytes why) = Made.PutNew key.now bytes.now why
op_lent (Asked.PutOver key bytes old why) = Made.PutOver key.now bytes.now old why
op_lent (Asked.Remove key why) = Made.Remove key.now why
op_lent (Asked.RemoveAt key old why) = Made.RemoveAt key.now old why
op_lent (Asked.List part) = Made.List part
