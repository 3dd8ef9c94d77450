use Rattle.std.proofs.Common.{◌≡◌, ℕ, List, Ok, Err, refl, sym, ap, rules}
use Rattle.object_store.specs.declared.events.Op.{Op}
use Rattle.object_store.specs.declared.events.Op.TheVariants.{List as Asked}
use Rattle.object_store.specs.declared.events.Listed.{Listed as Answer}
use Rattle.object_store.specs.declared.events.Reply.TheVariants.{Listed as Told}
use Rattle.object_store.specs.declared.events.StoreFault.TheVariants.{NoMemory}
use Rattle.object_store.specs.declared.events.Entry.{Entry}
use Rattle.object_store.specs.declared.events.Event.{Event}
use Rattle.object_store.specs.Machine.{found, IsListing}
use Rattle.mem_store.specs.declared.kept_events.Answer.TheVariants.{Listed as Kept}
use Rattle.mem_store.specs.Memory.{journal_of, IsLogged}
use Rattle.mem_store.proofs.Calls.{Called-exactly, Answers-logged, at-ok}
use Rattle.mem_store.proofs.memory_store.MemStoreObjectStore.list.Goals as goal

pub returns-clause-exact : goal.returns-clause-exact
returns-clause-exact g c =
    let asked : Op = Asked c.args.part in
    let j : List Event = journal_of c.args.self.now in
    let now : ℕ = c.in_ok-now.now in
    let entries : List Entry = c.in-Ok.entries in
    let kept : List Entry = c.in-Ok.kept in
    let log : IsLogged g.C.Clock.gives asked (Kept kept) now c.args.self.now c.log.new.self = c.in_ok-now.ensures.logged in
    let listing : IsListing (found j) c.args.part entries = at-ok (λ (p : List Entry × List Entry). IsListing (found j) c.args.part p.0) c.listed_twice.result (entries, kept) c.in-Ok.is c.listed_twice.ensures.listing in
    let same : kept ≡ entries = at-ok (λ (p : List Entry × List Entry). p.1 ≡ p.0) c.listed_twice.result (entries, kept) c.in-Ok.is c.listed_twice.ensures.same in
    Answers-logged g.C.Clock.gives asked (Kept kept) (Told (record { entries = entries; now = now })) now c.args.self.now c.log.new.self log
    (ap (λ (x : List Entry). Told (record { entries = x; now = now })) (sym same))
    (entries, refl, listing)

pub returns-clause-call : goal.returns-clause-call
returns-clause-call g c =
    let answer : Answer = record { entries = c.in-Ok.entries; now = c.in_ok-now.now } in
    Called-exactly g.R.Rule.may g.C.Clock.gives (λ (x : Answer). Told x) (Asked c.args.part) (Ok answer) c.args.self.now c.log.new.self (returns-clause-exact g c)

pub returns-in_default-clause-call : goal.returns-in_default-clause-call
returns-in_default-clause-call g c = Called-exactly g.R.Rule.may g.C.Clock.gives (λ (x : Answer). Told x) (Asked c.args.part) (Err NoMemory) c.args.self.now c.args.self.now (record { clock = refl; client = refl; journal = refl })

pub returns-in_err-now-clause-call : goal.returns-in_err-now-clause-call
returns-in_err-now-clause-call g c = Called-exactly g.R.Rule.may g.C.Clock.gives (λ (x : Answer). Told x) (Asked c.args.part) c.from_residual.result c.args.self.now c.log.new.self (search rules)
