use Rattle.std.proofs.Common.{◌≡◌, ◌∙◌, List, [], sym, ap}
use Rattle.object_store.specs.declared.events.Event.{Event}
use Rattle.object_store.specs.Machine.{found}
use Rattle.mem_store.specs.declared.kept_events.KeptEvent.{KeptEvent}
use Rattle.mem_store.specs.KeptEvents.{puts_in, told}
use Rattle.mem_store.proofs.StandingLemmas.{found-none}
use Rattle.mem_store.proofs.Told.{told-empty}
use Rattle.mem_store.proofs.journal.Journal.new.Goals as goal

pub invariant_of-result : goal.invariant_of-result
invariant_of-result c = λ key.
    let empty : told c.new.result.items ≡ [] = ap (λ (logs : List KeptEvent). told logs) c.new.ensures.items ∙ told-empty in
    ap (puts_in (told c.new.result.items)) (c.new-2.ensures key) ∙ sym (ap (λ (xs : List Event). found xs key) empty ∙ found-none key)

pub returns : goal.returns
returns c = ap (λ (logs : List KeptEvent). told logs) c.new.ensures.items ∙ told-empty
