use Rattle.std.proofs.Common.{◌≡◌, ◌∙◌, List, length, sym, ap, rules}
use Rattle.object_store.specs.declared.events.Event.{Event}
use Rattle.mem_store.specs.KeptEvents.{told}
use Rattle.mem_store.proofs.Told.{length-told}
use Rattle.mem_store.proofs.journal.Journal.len.Goals as goal

pub returns : goal.returns
returns c =
    let view : told c.self.inside.logs.items ≡ c.args.self.now = search rules in
    let len : c.len.result ≡ length c.self.inside.logs.items = search rules in
    len ∙ (sym (length-told c.self.inside.logs.items) ∙ ap (λ (xs : List Event). length xs) view)
