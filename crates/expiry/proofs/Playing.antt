-- Plays whose operations are each as they should be and whose outcomes tell what they should; and calls of programs that make gets alone.
use Rattle.std.proofs.Common.{◌≡◌, ℕ, Bool, true, false, cond, List, refl}
use Rattle.std.specs.Prelude.{Result, Ok, Err}
use Rattle.object_store.specs.declared.keys.Key.{Key}
use Rattle.object_store.specs.declared.events.Op.{Op}
use Rattle.object_store.specs.declared.events.Op.TheVariants.{Get, PutNew, PutOver, Remove, RemoveAt, List as ListPart}
use Rattle.object_store.specs.declared.events.Reply.{Reply}
use Rattle.object_store.specs.declared.events.Event.{Event}
use Rattle.store_api.specs.declared.machines.Refusal.{Refusal}
use Rattle.store_api.specs.declared.machines.Refusal.TheVariants.{NoMemory}
use Rattle.store_api.specs.Callers.{Caller, Makes}
use Rattle.store_api.specs.Program.{Prog, Done, Ask as Ask_next, Leads, is_told_surely}
use Rattle.store_api.specs.Running.{Program, on_answer}
use Rattle.store_api.specs.Plays.{Play, Ended, Ask, Or, behind, call, PlayKeeps, PlayLeads}
use Rattle.expiry.proofs.Lasting.{Lasts, lasts-makes}

-- ---- programs that make gets alone
abbrev pub IsRead : Op → Type 0
IsRead (Get key) = Unit {0}
IsRead (PutNew key bytes why) = ⊥
IsRead (PutOver key bytes old why) = ⊥
IsRead (Remove key why) = ⊥
IsRead (RemoveAt key old why) = ⊥
IsRead (ListPart part) = ⊥

unfoldable pub Reads : {A : Type 0} → Prog A → Type 0
Reads (Done a) = Unit {0}
Reads (Ask_next op k) = IsRead op × ((reply : Reply) → Reads (k reply))

pub done-reads : {A : Type 0} (a : A) → Reads (Done a)
unfolding Reads
done-reads a = tt

pub choice-reads : {A : Type 0} (b : Bool) (p q : Prog A) → Reads p → Reads q → Reads (cond b p q)
choice-reads true p q r s = r
choice-reads false p q r s = s

pub answer-reads : {A B : Type 0} (f : A → Program B) → ((a : A) → Reads (f a)) → (r : Result A Refusal) → Reads (on_answer f r)
answer-reads f g (Ok a) = g a
answer-reads f g (Err why) = done-reads (Err why)

-- ---- plays
module _ {A : Type 0} (P : List Event → ℕ → Op → Type 0) (Q : A → List Event → Type 0) (by : Caller) where
  -- P holds of each operation that the play comes to, and Q of whatever it ends with, whatever others do
  unfoldable pub Goes : Play A → List Event → Type 0
  Goes (Ended a) journal = Q a journal
  Goes (Ask op starved next) journal = P journal by.number op × Goes starved journal × ((reply : Reply) (new : List Event) → Makes by op reply journal new → Goes (next reply) new)
  Goes (Or p q) journal = Goes p journal × Goes q journal

  pub goes-keeps : (p : Play A) (journal : List Event) → Goes p journal → PlayKeeps P by p journal
  unfolding Goes PlayKeeps
  goes-keeps (Ended a) journal g = tt
  goes-keeps (Ask op starved next) journal g = (g.0, goes-keeps starved journal g.1, λ reply new m. goes-keeps (next reply) new (g.2 reply new m))
  goes-keeps (Or p q) journal g = (goes-keeps p journal g.0, goes-keeps q journal g.1)

  pub goes-leads : (p : Play A) (journal : List Event) → Goes p journal → PlayLeads Q by p journal
  unfolding Goes PlayLeads
  goes-leads (Ended a) journal g = g
  goes-leads (Ask op starved next) journal g = (goes-leads starved journal g.1, λ reply new m. goes-leads (next reply) new (g.2 reply new m))
  goes-leads (Or p q) journal g = (goes-leads p journal g.0, goes-leads q journal g.1)

  behind-goes : (op : Op) (reply : Reply) (p s : Play A) (journal : List Event) (surely : Bool) → is_told_surely op reply ≡ surely → Goes p journal → Goes s journal → Goes (behind op reply p s) journal
  unfolding Goes
  behind-goes op reply p s journal true e g h = rw e g
  behind-goes op reply p s journal false e g h = rw e (g, h)

  -- a call of a program that makes gets alone, and then what follows its answer; N holds all along
  pub goes-call : {B : Type 0} (R : Result B Refusal → List Event → Type 0) (N : List Event → Type 0) → Lasts N → ((h : List Event) (key : Key) → P h by.number (Get key))
      → (f : Result B Refusal → Play A) → ((a : Result B Refusal) (h : List Event) → N h → R a h → Goes (f a) h) → ((h : List Event) → N h → Goes (f (Err NoMemory)) h)
      → (p : Prog (Result B Refusal)) (journal : List Event) → Reads p → N journal → Leads R by p journal → Goes (call p f) journal
  unfolding Goes Reads Leads
  goes-call R N lasts gets f g s (Done a) journal r n l = g a journal n l
  goes-call R N lasts gets f g s (Ask_next (Get key) k) journal r n l = (
    gets journal key,
    s journal n,
    λ reply new m.
        let still = lasts-makes N lasts by (Get key) reply journal new m n in
        behind-goes (Get key) reply (call (k reply) f) (f (Err NoMemory)) new (is_told_surely (Get key) reply) refl (goes-call R N lasts gets f g s (k reply) new (r.1 reply) still (l reply new m)) (s new still),
  )
  goes-call R N lasts gets f g s (Ask_next (PutNew key bytes why) k) journal r n l = absurd r.0
  goes-call R N lasts gets f g s (Ask_next (PutOver key bytes old why) k) journal r n l = absurd r.0
  goes-call R N lasts gets f g s (Ask_next (Remove key why) k) journal r n l = absurd r.0
  goes-call R N lasts gets f g s (Ask_next (RemoveAt key old why) k) journal r n l = absurd r.0
  goes-call R N lasts gets f g s (Ask_next (ListPart part) k) journal r n l = absurd r.0
