use Rattle.std.proofs.Common.{◌≡◌, ◌∙◌, ℕ, List, Option, Ok, Err, refl, ap, rules}
use Rattle.std.specs.Prelude.{option_map}
use Rattle.object_store.specs.declared.events.Op.{Op}
use Rattle.object_store.specs.declared.events.Op.TheVariants.{Get as Asked}
use Rattle.object_store.specs.declared.events.Got.{Got as Answer}
use Rattle.object_store.specs.declared.events.Reply.TheVariants.{Got as Told}
use Rattle.object_store.specs.declared.events.StoreFault.TheVariants.{NoMemory}
use Rattle.object_store.specs.declared.events.Event.{Event}
use Rattle.object_store.specs.Machine.{Stored, got_of}
use Rattle.mem_store.specs.declared.answers.Content.{Content}
use Rattle.mem_store.specs.declared.kept_events.Answer.TheVariants.{Stood}
use Rattle.mem_store.specs.Standing.{copy_of, got_from}
use Rattle.mem_store.specs.KeptEvents.{puts_in}
use Rattle.mem_store.specs.Memory.{journal_of, IsLogged}
use Rattle.mem_store.proofs.Calls.{Called-exactly, Answers-logged, logged-op, at-ok}
use Rattle.mem_store.proofs.StandingLemmas.{got_from-copy}
use Rattle.mem_store.proofs.memory_store.MemStoreObjectStore.get.Goals as goal

pub returns-clause-exact : goal.returns-clause-exact
returns-clause-exact g c =
    let asked : Op = Asked c.args.key.now in
    let j : List Event = journal_of c.args.self.now in
    let now : ℕ = c.in_ok-now.now in
    let log : IsLogged g.C.Clock.gives asked (Stood c.place-at.result) now c.args.self.now c.log.new.self = logged-op g.C.Clock.gives asked (Stood c.place-at.result) now c.args.self.now c.log.new.self c.get-op.result c.in_ok-now.ensures.logged c.in_ok-now.ensures.made c.get-op.ensures in
    let content : c.in-Ok.content ≡ option_map copy_of (puts_in j c.place-at.result) = at-ok (λ (x : Option Content). x ≡ option_map copy_of (puts_in j c.place-at.result)) c.copied.result c.in-Ok.content c.in-Ok.is c.copied.ensures in
    let told : c.got.result ≡ got_of now (puts_in j c.place-at.result) = c.got.ensures ∙ (ap (λ (x : Option Content). got_from now x) content ∙ got_from-copy now (puts_in j c.place-at.result)) in
    Answers-logged g.C.Clock.gives asked (Stood c.place-at.result) (Told c.got.result) now c.args.self.now c.log.new.self log
    (ap (λ (x : Answer). Told x) told)
    (ap (λ (x : Answer). Told x) (told ∙ ap (λ (at : Option Stored). got_of now at) c.place-at.ensures))

pub returns-clause-call : goal.returns-clause-call
returns-clause-call g c = Called-exactly g.R.Rule.may g.C.Clock.gives (λ (x : Answer). Told x) (Asked c.args.key.now) (Ok c.got.result) c.args.self.now c.log.new.self (returns-clause-exact g c)

pub returns-in_default-clause-call : goal.returns-in_default-clause-call
returns-in_default-clause-call g c = Called-exactly g.R.Rule.may g.C.Clock.gives (λ (x : Answer). Told x) (Asked c.args.key.now) (Err NoMemory) c.args.self.now c.args.self.now (record { clock = refl; client = refl; journal = refl })

pub returns-in_err-now-clause-call : goal.returns-in_err-now-clause-call
returns-in_err-now-clause-call g c = Called-exactly g.R.Rule.may g.C.Clock.gives (λ (x : Answer). Told x) (Asked c.args.key.now) c.from_residual.result c.args.self.now c.log.new.self (search rules)
