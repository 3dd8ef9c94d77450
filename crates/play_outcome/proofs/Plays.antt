-- Laws of programs and plays.
use Rattle.std.proofs.Common.{ℕ, List}
use Rattle.object_store.specs.declared.events.Op.{Op}
use Rattle.object_store.specs.declared.events.Event.{Event}
use Rattle.store_api.specs.Callers.{Caller}
use Rattle.store_api.specs.Program.{Prog, Done, Ask as Ask_next, Keeps}
use Rattle.store_api.specs.Plays.{Play, Ended, Ask, Or, PlayLeads}

-- two facts of each operation
pub Keeps-both : {A : Type 0} (P Q : List Event → ℕ → Op → Type 0) (by : Caller) (p : Prog A) (journal : List Event) → Keeps P by p journal → Keeps Q by p journal → Keeps (λ h client op. P h client op × Q h client op) by p journal
unfolding Keeps
Keeps-both P Q by (Done a) journal k o = tt
Keeps-both P Q by (Ask_next op next) journal k o = ((k.0, o.0), λ reply new m. Keeps-both P Q by (next reply) new (k.1 reply new m) (o.1 reply new m))

-- where R follows from Q
pub PlayLeads-weaker : {A : Type 0} (Q R : A → List Event → Type 0) → ((a : A) (h : List Event) → Q a h → R a h) → (by : Caller) (p : Play A) (journal : List Event) → PlayLeads Q by p journal → PlayLeads R by p journal
unfolding PlayLeads
PlayLeads-weaker Q R f by (Ended a) journal l = f a journal l
PlayLeads-weaker Q R f by (Ask op s g) journal l = (PlayLeads-weaker Q R f by s journal l.0, λ reply new m. PlayLeads-weaker Q R f by (g reply) new (l.1 reply new m))
PlayLeads-weaker Q R f by (Or p q) journal l = (PlayLeads-weaker Q R f by p journal l.0, PlayLeads-weaker Q R f by q journal l.1)
