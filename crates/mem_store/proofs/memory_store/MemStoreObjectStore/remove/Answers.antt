use Rattle.std.proofs.Common.{◌≡◌, ◌∙◌, ℕ, List, Ok, Option, ap, rules}
use Rattle.object_store.specs.declared.events.Op.{Op}
use Rattle.object_store.specs.declared.events.Op.TheVariants.{Remove as Asked}
use Rattle.object_store.specs.declared.events.Gone.{Gone as Answer}
use Rattle.object_store.specs.declared.events.Reply.TheVariants.{Gone as Told}
use Rattle.object_store.specs.declared.events.Event.{Event}
use Rattle.object_store.specs.Machine.{Stored, gone_of}
use Rattle.mem_store.specs.declared.kept_events.Answer.TheVariants.{Stood}
use Rattle.mem_store.specs.KeptEvents.{puts_in}
use Rattle.mem_store.specs.Memory.{journal_of, IsLogged}
use Rattle.mem_store.proofs.Calls.{Called-exactly, Answers-logged, logged-op}
use Rattle.mem_store.proofs.memory_store.MemStoreObjectStore.remove.Goals as goal

pub returns-clause-exact : goal.returns-clause-exact
returns-clause-exact g c =
    let asked : Op = Asked c.args.key.now c.args.why in
    let j : List Event = journal_of c.args.self.now in
    let now : ℕ = c.in_ok-now.now in
    let log : IsLogged g.C.Clock.gives asked (Stood c.place-at.result) now c.args.self.now c.log.new.self = logged-op g.C.Clock.gives asked (Stood c.place-at.result) now c.args.self.now c.log.new.self c.remove-op.result c.in_ok-now.ensures.logged c.in_ok-now.ensures.made c.remove-op.ensures in
    let told : c.gone_answer.result ≡ gone_of now (puts_in j c.place-at.result) = c.gone_answer.ensures j in
    Answers-logged g.C.Clock.gives asked (Stood c.place-at.result) (Told c.gone_answer.result) now c.args.self.now c.log.new.self log
    (ap (λ (x : Answer). Told x) told)
    (ap (λ (x : Answer). Told x) (told ∙ ap (λ (at : Option Stored). gone_of now at) c.place-at.ensures))

pub returns-clause-call : goal.returns-clause-call
returns-clause-call g c = Called-exactly g.R.Rule.may g.C.Clock.gives (λ (x : Answer). Told x) (Asked c.args.key.now c.args.why) (Ok c.gone_answer.result) c.args.self.now c.log.new.self (returns-clause-exact g c)

pub returns-in_err-now-clause-call : goal.returns-in_err-now-clause-call
returns-in_err-now-clause-call g c = Called-exactly g.R.Rule.may g.C.Clock.gives (λ (x : Answer). Told x) (Asked c.args.key.now c.args.why) c.from_residual.result c.args.self.now c.log.new.self (search rules)
