-- What holds of a program's operations, of where it waits, and of its answers, all at once.
use Rattle.std.proofs.Common.{◌≡◌, ℕ, false, List}
use Rattle.std.specs.Prelude.{Result, Ok, Err}
use Rattle.object_store.specs.declared.events.Op.{Op}
use Rattle.object_store.specs.declared.events.Reply.{Reply}
use Rattle.object_store.specs.declared.events.Event.{Event}
use Rattle.store_api.specs.declared.machines.Refusal.{Refusal}
use Rattle.store_api.specs.Callers.{Caller, Makes}
use Rattle.store_api.specs.Program.{Prog, Done, Ask, bind, Keeps, Leads, moves_branch}
use Rattle.store_api.specs.Plays.{Stays}
use Rattle.store_api.specs.Running.{Program, on_answer, ◌>>=◌}
use Rattle.store_api.proofs.Programs.{Keeps-bind, Leads-bind}

-- P of each operation, N wherever memory may be wanting, Q of the answer, whatever others do
pub record Walks {A : Type 0} (P : List Event → ℕ → Op → Type 0) (N : List Event → Type 0) (Q : A → List Event → Type 0) (by : Caller) (p : Prog A) (journal : List Event) : Type 0 where
  pub keeps : Keeps P by p journal
  pub stays : Stays N by p journal
  pub leads : Leads Q by p journal

Stays-bind : {A B : Type 0} (N : List Event → Type 0) (Q : A → List Event → Type 0) (by : Caller) (p : Prog A) (f : A → Prog B) (journal : List Event) → Stays N by p journal → Leads Q by p journal → ((a : A) (h : List Event) → Q a h → Stays N by (f a) h) → Stays N by (bind p f) journal
unfolding Stays Leads
Stays-bind N Q by (Done a) f journal s l g = g a journal l
Stays-bind N Q by (Ask op next) f journal s l g = (s.0, λ reply new m. ((s.1 reply new m).0, Stays-bind N Q by (next reply) f new (s.1 reply new m).1 (l reply new m) g))

module _ {A : Type 0} (P : List Event → ℕ → Op → Type 0) (N : List Event → Type 0) (Q : A → List Event → Type 0) (by : Caller) where
  pub walks-done : (a : A) (journal : List Event) → Q a journal → Walks P N Q by (Done a) journal
  unfolding Keeps Stays Leads
  walks-done a journal q = record { keeps = tt; stays = tt; leads = q }

  pub walks-ask : (op : Op) (next : Reply → Prog A) (journal : List Event) → P journal by.number op → N journal → ((reply : Reply) (new : List Event) → Makes by op reply journal new → (moves_branch op ≡ false → N new) × Walks P N Q by (next reply) new) → Walks P N Q by (Ask op next) journal
  unfolding Keeps Stays Leads
  walks-ask op next journal p n w = record {
    keeps = (p, λ reply new m. (w reply new m).1.keeps);
    stays = (n, λ reply new m. ((w reply new m).0, (w reply new m).1.stays));
    leads = λ reply new m. (w reply new m).1.leads;
  }

-- it ends with what has Q, or is refused with what has E
abbrev pub Ends : {A : Type 0} → (A → List Event → Type 0) → (Refusal → List Event → Type 0) → Result A Refusal → List Event → Type 0
Ends Q E (Ok a) journal = Q a journal
Ends Q E (Err why) journal = E why journal

module _ {A B : Type 0} (P : List Event → ℕ → Op → Type 0) (N : List Event → Type 0) (Q : A → List Event → Type 0) (E : Refusal → List Event → Type 0) (R : Result B Refusal → List Event → Type 0) (by : Caller) where
  -- first p, and then what follows its answer; a refusal ends both
  pub walks-then : (p : Program A) (f : A → Program B) (journal : List Event) → Walks P N (Ends Q E) by p journal → ((a : A) (h : List Event) → Q a h → Walks P N R by (f a) h) → ((why : Refusal) (h : List Event) → E why h → R (Err why) h) → Walks P N R by (p >>= f) journal
  walks-then p f journal w g e = record {
    keeps = Keeps-bind P (Ends Q E) by p (on_answer f) journal w.keeps w.leads (λ r h q. (after r h q).keeps);
    stays = Stays-bind N (Ends Q E) by p (on_answer f) journal w.stays w.leads (λ r h q. (after r h q).stays);
    leads = Leads-bind (Ends Q E) R by p (on_answer f) journal w.leads (λ r h q. (after r h q).leads);
  }
    where
      after : (r : Result A Refusal) (h : List Event) → Ends Q E r h → Walks P N R by (on_answer f r) h
      after (Ok a) h q = g a h q
      after (Err why) h q = walks-done P N R by (Err why) h (e why h q)
