-- The store in memory, and what an operation of it does (own).
use Rattle.std.specs.Prelude.{◌≡◌, ℕ, ◌<◌, ◌^◌, List, [], ◌∷◌, ◌++◌}
use Rattle.std.specs.Prelude.{length, Bool, true, None, Result, Ok, Err}
use Rattle.object_store.specs.declared.events.Op.{Op}
use Rattle.object_store.specs.declared.events.Reply.{Reply}
use Rattle.object_store.specs.declared.events.Reply.TheVariants.{Failed as Reply_failed}
use Rattle.object_store.specs.declared.events.Event.{Event}
use Rattle.object_store.specs.declared.events.StoreFault.{StoreFault}
use Rattle.object_store.specs.declared.events.StoreFault.TheVariants.{Failed, NoMemory}
use Rattle.object_store.specs.Machine.{found, last_time, IsHonest}
use Rattle.object_store.specs.Callers.{Caller, View, own_event, as_client}
use Rattle.mem_store.specs.declared.memory_store.MemStore.{MemStore}
use Rattle.mem_store.specs.declared.kept_events.Answer.{Answer}
use Rattle.mem_store.specs.Times.{IsTime}
use Rattle.mem_store.specs.KeptEvents.{event_in}

-- a client that is told the journal and beside which there is no other
abbrev pub sole : ℕ → Caller
sole client = record { tells = true; number = client; low = 0; end = None; home = [] }

abbrev pub journal_of : {C : Type 0} → MemStore C → List Event
journal_of s = s.journal

abbrev pub client_of : {C : Type 0} → MemStore C → ℕ
client_of s = s.client

abbrev pub clock_of : {C : Type 0} → MemStore C → C
clock_of s = s.clock

-- It never fails, so its count of faults stays 0.
abbrev pub view_of : {C : Type 0} → MemStore C → View
view_of s = record { caller = sole (client_of s); seen = journal_of s; faults = 0 }

-- Exactly one event has come: the client's own, with this operation and this reply.
pub record Adds {C : Type 0} (gives : C → ℕ → C → Type 0) (op : Op) (reply : Reply)
    (old new : MemStore C) : Type 0 where
  pub time : ℕ
  pub timely : IsTime gives (clock_of old) (clock_of new) (last_time (journal_of old)) time
  pub fits : time < 2 ^ 64
  pub same : client_of new ≡ client_of old
  pub is : journal_of new ≡ journal_of old ++ own_event (sole (client_of old)) op reply time ∷ []

-- ... and the reply is the machine's
pub record Answers {C : Type 0} (gives : C → ℕ → C → Type 0) (op : Op) (reply : Reply)
    (old new : MemStore C) : Type 0 where
  pub adds : Adds gives op reply old new
  pub honest : IsHonest (found (journal_of old)) (length (journal_of old)) adds.time op reply

-- nothing has changed that can be seen
pub record IsUnchanged {C : Type 0} (old new : MemStore C) : Type 0 where
  pub clock : clock_of new ≡ clock_of old
  pub client : client_of new ≡ client_of old
  pub journal : journal_of new ≡ journal_of old

-- An operation answers as the machine does and never fails. Without memory nothing has changed.
abbrev pub Exactly : {C A : Type 0} → (C → ℕ → C → Type 0) → (A → Reply) → Op → Result A StoreFault
    → MemStore C → MemStore C → Type 0
Exactly gives reply op (Ok a) old new = Answers gives op (reply a) old new
Exactly gives reply op (Err Failed) old new = ⊥
Exactly gives reply op (Err NoMemory) old new = IsUnchanged old new

-- An operation that is made to fail is one event that failed, done or not.
-- Without memory nothing has changed.
abbrev pub Fails : {C : Type 0} → (C → ℕ → C → Type 0) → Bool → Op → StoreFault
    → MemStore C → MemStore C → Type 0
Fails gives done op Failed old new = Adds gives op (Reply_failed done) old new
Fails gives done op NoMemory old new = IsUnchanged old new

-- The next operations are this client's. The clock and the journal stay.
pub record Serves {C : Type 0} (client : ℕ) (old new : MemStore C) : Type 0 where
  pub view : view_of new ≡ as_client client (view_of old)
  pub clock : clock_of new ≡ clock_of old

-- Exactly one event has come, the client's own, and it is kept with this answer.
pub record IsLogged {C : Type 0} (gives : C → ℕ → C → Type 0) (op : Op) (answer : Answer) (time : ℕ)
    (old new : MemStore C) : Type 0 where
  pub timely : IsTime gives (clock_of old) (clock_of new) (last_time (journal_of old)) time
  pub fits : time < 2 ^ 64
  pub same : client_of new ≡ client_of old
  pub is : journal_of new ≡ journal_of old ++ event_in (journal_of old) (record {
    client = client_of old;
    op = op;
    answer = answer;
    time = time;
  }) ∷ []
