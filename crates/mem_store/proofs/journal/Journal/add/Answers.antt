use Rattle.std.proofs.Common.{◌≡◌, ◌∙◌, ℕ, Bool, List, [], ◌∷◌, ◌++◌, length, Option, sym, ap, rules}
use Rattle.object_store.specs.declared.events.Event.{Event}
use Rattle.object_store.specs.Machine.{found, was_done}
use Rattle.mem_store.specs.declared.kept_events.KeptEvent.{KeptEvent}
use Rattle.mem_store.specs.Places.{place_in, place_after}
use Rattle.mem_store.specs.KeptEvents.{puts_in, told, event_in}
use Rattle.mem_store.proofs.Told.{told-append, length-told}
use Rattle.mem_store.proofs.Indexed.{indexed-more, done-reply}
use Rattle.mem_store.proofs.journal.Journal.add.Goals as goal

pub invariant_of-self-2 : goal.invariant_of-self-2
invariant_of-self-2 g c = λ key.
    let logs : List KeptEvent = c.self.inside.logs.items in
    let log : KeptEvent = record { client = c.args.client; op = c.args.op; answer = c.args.answer; time = c.max-time.result } in
    let j : List Event = told logs in
    let event : Event = event_in j log in
    let items : c.push.new.self.items ≡ logs ++ log ∷ [] = search rules in
    let more : told c.push.new.self.items ≡ j ++ event ∷ [] = ap (λ (xs : List KeptEvent). told xs) items ∙ told-append [] logs log in
    let at : Option ℕ = place_in c.self.inside.index key in
    let done : c.is_done-done.result ≡ was_done event.reply = c.is_done-done.ensures ∙ sym (done-reply j log.time log.op log.answer) in
    let left : place_in c.make_room.new.index key ≡ place_after (length j) event.op (was_done event.reply) key at =
    c.in_default.ensures.ok key ∙ (ap (λ (n : ℕ). place_after n c.args.op c.is_done-done.result key at) (sym (length-told logs)) ∙ ap (λ (b : Bool). place_after (length j) c.args.op b key at) done) in
    ap (λ (xs : List Event). puts_in xs (place_in c.make_room.new.index key)) more
    ∙ (ap (λ (o : Option ℕ). puts_in (j ++ event ∷ []) o) left
    ∙ (indexed-more j event key at (c.self.invariant key)
    ∙ ap (λ (xs : List Event). found xs key) (sym more)))

pub returns-clause-added : goal.returns-clause-added
returns-clause-added g c =
    let logs : List KeptEvent = c.self.inside.logs.items in
    let log : KeptEvent = record { client = c.args.client; op = c.args.op; answer = c.args.answer; time = c.max-time.result } in
    let view : told logs ≡ c.args.self.now = search rules in
    let items : c.push.new.self.items ≡ logs ++ log ∷ [] = search rules in
    ap (λ (xs : List KeptEvent). told xs) items
    ∙ (told-append [] logs log
    ∙ ap (λ (xs : List Event). xs ++ event_in xs log ∷ []) view)
