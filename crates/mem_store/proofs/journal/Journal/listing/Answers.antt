use Rattle.std.proofs.Common.{◌≡◌, ◌∙◌, List, subst, sym, ap, rules}
use Rattle.object_store.specs.declared.events.Event.{Event}
use Rattle.object_store.specs.declared.events.Entry.{Entry}
use Rattle.object_store.specs.Machine.{found, IsListing}
use Rattle.mem_store.specs.KeptEvents.{told}
use Rattle.mem_store.specs.Listed.{entries_in}
use Rattle.mem_store.proofs.Shelved.{IsShelf, listing-shelf, IfOk-then}
use Rattle.mem_store.proofs.journal.Journal.listing.Goals as goal

pub returns : goal.returns
returns c =
    let j : List Event = told c.self.inside.logs.items in
    let view : j ≡ c.args.self.now = search rules in
    let shelf : IsShelf j c.self.inside.index.shelves c.args.part c.shelf.result.now =
    record { sorted = c.self.inside.index.sorted; indexed = c.self.invariant; here = c.shelf.ensures; ordered = c.iter.ensures.ordered } in
    let listing : IsListing (found c.args.self.now) c.args.part (entries_in c.args.self.now c.shelf.result.now.entries) =
    subst (λ (xs : List Event). IsListing (found xs) c.args.part (entries_in xs c.shelf.result.now.entries)) view (listing-shelf j c.self.inside.index.shelves c.args.part c.shelf.result.now shelf) in
    IfOk-then c.entries.result c.entries.ensures (λ entries e. subst (λ (es : List Entry). IsListing (found c.args.self.now) c.args.part es) (sym (e ∙ ap (entries_in c.args.self.now) c.iter.ensures.rest)) listing)
