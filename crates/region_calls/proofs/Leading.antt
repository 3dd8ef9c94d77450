-- What holds of programs along the way.
use Rattle.std.proofs.Common.{List}
use Rattle.std.specs.Prelude.{Result, Ok, Err}
use Rattle.object_store.specs.declared.keys.Key.{Key}
use Rattle.object_store.specs.declared.events.Op.TheVariants.{Get}
use Rattle.object_store.specs.declared.events.Reply.{Reply}
use Rattle.object_store.specs.declared.events.Event.{Event}
use Rattle.store_api.specs.declared.machines.Refusal.{Refusal}
use Rattle.store_api.specs.Callers.{Caller, Makes}
use Rattle.store_api.specs.Program.{Prog, Done, Ask, Leads, bind}
use Rattle.store_api.specs.Plays.{Stays}
use Rattle.region_calls.proofs.ChunkGets.{OnlyGets}

-- this of an answer, that of a refusal
abbrev pub By : {A : Type 0} → (A → List Event → Type 0) → (Refusal → List Event → Type 0) → Result A Refusal → List Event → Type 0
By F E (Ok a) h = F a h
By F E (Err why) h = E why h

pub both_lead : {A : Type 0} (Q R : A → List Event → Type 0) (by : Caller) (p : Prog A) (h : List Event) → Leads Q by p h → Leads R by p h → Leads (λ a x. Q a x × R a x) by p h
unfolding Leads
both_lead Q R by (Done a) h l m = (l, m)
both_lead Q R by (Ask op k) h l m = λ reply new n. both_lead Q R by (k reply) new (l reply new n) (m reply new n)

-- what gets keep
pub gets_lead : {A : Type 0} (N : List Event → Type 0) (by : Caller) → ((key : Key) (reply : Reply) (old new : List Event) → Makes by (Get key) reply old new → N old → N new) → (p : Prog A) → OnlyGets p → (h : List Event) → N h → Leads (λ a x. N x) by p h
unfolding Leads
gets_lead N by still (Done a) g h n = n
gets_lead N by still (Ask (Get key) k) g h n = λ reply new m. gets_lead N by still (k reply) (g reply) new (still key reply h new m n)
gets_lead N by still (Ask _ k) g h n = absurd g

pub stays_bind : {A B : Type 0} (N : List Event → Type 0) (Q : A → List Event → Type 0) (by : Caller) (p : Prog A) (f : A → Prog B) (h : List Event) → Stays N by p h → Leads Q by p h → ((a : A) (x : List Event) → Q a x → Stays N by (f a) x) → Stays N by (bind p f) h
unfolding Stays Leads
stays_bind N Q by (Done a) f h s l g = g a h l
stays_bind N Q by (Ask op k) f h s l g = (s.0, λ reply new m. let t = s.1 reply new m in (t.0, stays_bind N Q by (k reply) f new t.1 (l reply new m) g))
