use Rattle.std.proofs.Common.{◌≡◌, ◌∙◌, ℕ, List, length, Option, Some, None, refl, sym, ap, rules}
use Rattle.std.specs.Prelude.{slice_get}
use Rattle.std.proofs.lemmas.Option.{slice_get_past, slice_get_read}
use Rattle.mem_store.specs.declared.kept_events.KeptEvent.{KeptEvent}
use Rattle.mem_store.proofs.Told.{kept_by, put-told}
use Rattle.mem_store.proofs.kept_events.put_in.Goals as goal

pub returns-in-None : goal.returns-in-None
returns-in-None c =
    let read : slice_get c.args.logs.now c.args.place ≡ None = slice_get_past c.args.logs.now c.args.place (search rules) in
    sym (put-told c.args.logs.now c.args.place ∙ ap (λ (o : Option KeptEvent). kept_by c.args.place o) read)

pub returns-in-Some : goal.returns-in-Some
returns-in-Some c =
    let log : KeptEvent = c.in-Some.log.now in
    let read : slice_get c.args.logs.now c.args.place ≡ Some log = slice_get_read c.args.logs.now (length c.args.logs.now) c.args.place log refl (search rules) (search rules) in
    ap (λ (bytes : List ℕ). record { bytes = bytes; version = c.args.place; created = log.time }) c.bytes_put.ensures
    ∙ sym (put-told c.args.logs.now c.args.place ∙ ap (λ (o : Option KeptEvent). kept_by c.args.place o) read)
