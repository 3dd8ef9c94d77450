-- What an operation of a store in memory does is what the trait of a store asks.
use Rattle.std.proofs.Common.{List, ◌≡◌, ℕ, ◌≤◌, [], ◌∷◌, ◌++◌, length, Bool, sym, ◌∙◌, ap, subst, arith}
use Rattle.std.specs.Prelude.{Result, Ok, Err, IfOk, IsOk}
use Rattle.object_store.specs.declared.events.Op.{Op}
use Rattle.object_store.specs.declared.events.Reply.{Reply}
use Rattle.object_store.specs.declared.events.Reply.TheVariants.{Got, New, Over, Gone, GoneAt, Listed, Failed as Reply_failed}
use Rattle.object_store.specs.declared.events.StoreFault.{StoreFault}
use Rattle.object_store.specs.declared.events.StoreFault.TheVariants.{Failed, NoMemory}
use Rattle.object_store.specs.Machine.{found, last_time, IsHonest, UnlessFailed}
use Rattle.object_store.specs.declared.events.Event.{Event}
use Rattle.object_store.specs.Callers.{Makes, Called, own_event}
use Rattle.object_store.proofs.Waits.{Waits-same, Makes-alone}
use Rattle.mem_store.specs.declared.memory_store.MemStore.{MemStore}
use Rattle.mem_store.specs.Memory.{sole, journal_of, client_of, view_of, Adds, Answers, IsLogged, Exactly, Fails}
use Rattle.mem_store.specs.Failing.{MadeFail}
use Rattle.mem_store.specs.declared.kept_events.Answer.{Answer}
use Rattle.mem_store.specs.KeptEvents.{reply_in}

pub unless-holds : (P : Reply → Type 0) (reply : Reply) → P reply → UnlessFailed P reply
unless-holds P (Reply_failed done) p = tt
unless-holds P (Got g) p = p
unless-holds P (New g) p = p
unless-holds P (Over g) p = p
unless-holds P (Gone g) p = p
unless-holds P (GoneAt g) p = p
unless-holds P (Listed l) p = p

pub Makes-adds : {C : Type 0} (may : List Event → Op → Type 0) (gives : C → ℕ → C → Type 0) (op : Op) (reply : Reply) (old new : MemStore C) (a : Adds gives op reply old new) → UnlessFailed (IsHonest (found (journal_of old)) (length (journal_of old)) a.time op) reply → Makes may (sole (client_of old)) op reply (journal_of old) (journal_of new)
Makes-adds may gives op reply old new a honest =
    let later : last_time (journal_of old) ≤ a.time = omega (arith, a.timely.is) in
    Makes-alone may (sole (client_of old)) op reply a.time (journal_of old) (journal_of new) (record { later = later; fits = a.fits; answered = honest }) a.is

pub same_caller : (a b : ℕ) → a ≡ b → sole a ≡ sole b
same_caller a b e = ap (λ (n : ℕ). sole n) e

pub Called-exactly : {C A : Type 0} (may : List Event → Op → Type 0) (gives : C → ℕ → C → Type 0) (reply : A → Reply) (op : Op) (result : Result A StoreFault) (old new : MemStore C) → Exactly gives reply op result old new → Called may reply op result (view_of old) (view_of new)
Called-exactly may gives reply op (Ok a) old new x = record {
  same = same_caller (client_of new) (client_of old) x.adds.same;
  did = λ t. Makes-adds may gives op (reply a) old new x.adds (unless-holds (IsHonest (found (journal_of old)) (length (journal_of old)) x.adds.time op) (reply a) x.honest);
  counted = omega arith;
}
Called-exactly may gives reply op (Err Failed) old new x = absurd x
Called-exactly may gives reply op (Err NoMemory) old new x = record {
  same = same_caller (client_of new) (client_of old) x.client;
  did = λ t. Waits-same may (sole (client_of old)) (journal_of old) (journal_of new) x.journal;
  counted = omega arith;
}

pub MadeFail-fails : {C : Type 0} (may : List Event → Op → Type 0) (gives : C → ℕ → C → Type 0) (done : Bool) (op : Op) (fault : StoreFault) (old new : MemStore C) → Fails gives done op fault old new → MadeFail may done op fault (view_of old) (view_of new)
MadeFail-fails may gives done op Failed old new x = record {
  same = same_caller (client_of new) (client_of old) x.same;
  did = Makes-adds may gives op (Reply_failed done) old new x tt;
  counted = omega arith;
}
MadeFail-fails may gives done op NoMemory old new x = record {
  same = same_caller (client_of new) (client_of old) x.client;
  did = Waits-same may (sole (client_of old)) (journal_of old) (journal_of new) x.journal;
  counted = omega arith;
}

-- the event of an operation that was kept
pub Adds-logged : {C : Type 0} (gives : C → ℕ → C → Type 0) (op : Op) (answer : Answer) (reply : Reply) (time : ℕ) (old new : MemStore C) → IsLogged gives op answer time old new → reply ≡ reply_in (journal_of old) time op answer → Adds gives op reply old new
Adds-logged gives op answer reply time old new l e = record {
  time = time;
  timely = l.timely;
  fits = l.fits;
  same = l.same;
  is = l.is ∙ ap (λ (r : Reply). journal_of old ++ own_event (sole (client_of old)) op r time ∷ []) (sym e);
}

pub Answers-logged : {C : Type 0} (gives : C → ℕ → C → Type 0) (op : Op) (answer : Answer) (reply : Reply) (time : ℕ) (old new : MemStore C) → IsLogged gives op answer time old new → reply ≡ reply_in (journal_of old) time op answer → IsHonest (found (journal_of old)) (length (journal_of old)) time op reply → Answers gives op reply old new
unfolding Adds-logged
Answers-logged gives op answer reply time old new l e honest = record { adds = Adds-logged gives op answer reply time old new l e; honest = honest }

-- the operation that was made is the one that was asked for
pub logged-op : {C E : Type 0} (gives : C → ℕ → C → Type 0) (asked : Op) (answer : Answer) (time : ℕ) (old new : MemStore C) (r : Result Op E) → IfOk r (λ op. IsLogged gives op answer time old new) → IsOk r → IfOk r (λ op. op ≡ asked) → IsLogged gives asked answer time old new
logged-op gives asked answer time old new (Ok op) l made e = subst (λ (x : Op). IsLogged gives x answer time old new) e l
logged-op gives asked answer time old new (Err x) l made e = cc

-- what a fact of an `Ok` says where its value is known
pub at-ok : {A E : Type 0} (P : A → Type 0) (r : Result A E) (a : A) → r ≡ Ok a → IfOk r P → P a
at-ok {A} {E} P r a e h = subst (λ (x : Result A E). IfOk x P) e h
