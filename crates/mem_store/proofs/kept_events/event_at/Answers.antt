use Rattle.std.proofs.Common.{◌≡◌, ◌∙◌, length, Some, refl, sym, ap, rules}
use Rattle.std.specs.Prelude.{slice_get}
use Rattle.std.proofs.lemmas.Option.{slice_get_read}
use Rattle.object_store.specs.declared.events.Reply.{Reply}
use Rattle.mem_store.specs.declared.kept_events.KeptEvent.{KeptEvent}
use Rattle.mem_store.proofs.Told.{told-at, told-past}
use Rattle.mem_store.proofs.kept_events.event_at.Goals as goal

pub returns-in_default : goal.returns-in_default
returns-in_default c = sym (told-past c.args.logs.now c.args.place (search rules))

pub returns : goal.returns
returns c =
    let log : KeptEvent = c.in-Some.log.now in
    let read : slice_get c.args.logs.now c.args.place ≡ Some log = slice_get_read c.args.logs.now (length c.args.logs.now) c.args.place log refl (search rules) (search rules) in
    ap (λ (r : Reply). Some (record { client = log.client; op = log.op; reply = r; time = log.time })) c.reply_in.ensures ∙ sym (told-at c.args.logs.now c.args.place log read)
