-- Programs that make gets, and perhaps one operation behind them.
use Rattle.std.proofs.Common.{◌≡◌, ◌⊎◌, inl, inr, ℕ, true, List, refl, sym, subst}
use Rattle.std.specs.Prelude.{Result, Ok, Err}
use Rattle.object_store.specs.declared.keys.Key.{Key}
use Rattle.object_store.specs.declared.events.Op.{Op}
use Rattle.object_store.specs.declared.events.Op.TheVariants.{Get}
use Rattle.object_store.specs.declared.events.Reply.{Reply}
use Rattle.object_store.specs.declared.events.Event.{Event}
use Rattle.store_api.specs.declared.machines.Refusal.{Refusal}
use Rattle.store_api.specs.Callers.{Caller, Makes}
use Rattle.store_api.specs.Program.{Prog, Done, Ask, IsDone, bind, moves_branch, Keeps, Leads}
use Rattle.store_api.specs.Running.{Program, on_answer, ◌>>=◌}
use Rattle.store_api.specs.Plays.{Stays}
use Rattle.store_api.specs.Telling.{IsGet, MadeGets}
use Rattle.repo_read.proofs.Own.{MadeGets-get}
use Rattle.play_refs.specs.Telling.{OwesRefs}

-- ---- gets alone
unfoldable pub Gets : {A : Type 0} → Prog A → Type 0
Gets (Done a) = Unit {0}
Gets (Ask op k) = IsGet op × ((reply : Reply) → Gets (k reply))

pub ask-gets : {A : Type 0} (key : Key) (k : Reply → Prog A) → ((reply : Reply) → Gets (k reply)) → Gets (Ask (Get key) k)
unfolding Gets
ask-gets key k r = (tt, r)

pub done-gets : {A : Type 0} (a : A) → Gets (Done a)
unfolding Gets
done-gets a = tt

pub bind-gets : {A B : Type 0} (p : Prog A) (f : A → Prog B) → Gets p → ((a : A) → Gets (f a)) → Gets (bind p f)
unfolding Gets
bind-gets (Done a) f r g = g a
bind-gets (Ask op k) f r g = (r.0, λ reply. bind-gets (k reply) f (r.1 reply) g)

answer-gets : {A B : Type 0} (f : A → Program B) → ((a : A) → Gets (f a)) → (r : Result A Refusal) → Gets (on_answer f r)
answer-gets f g (Ok a) = g a
answer-gets f g (Err why) = done-gets (Err why)

pub then-gets : {A B : Type 0} (p : Program A) (f : A → Program B) → Gets p → ((a : A) → Gets (f a)) → Gets (p >>= f)
then-gets p f r g = bind-gets p (on_answer f) r (answer-gets f g)

-- ---- and then an operation of this kind, behind which the program is done
unfoldable pub Ends : {A : Type 0} → (Op → Type 0) → Prog A → Type 0
Ends last (Done a) = Unit {0}
Ends last (Ask op k) = (IsGet op × ((reply : Reply) → Ends last (k reply))) ⊎ (last op × ((reply : Reply) → IsDone (k reply)))

pub done-ends : {A : Type 0} (last : Op → Type 0) (a : A) → Ends last (Done a)
unfolding Ends
done-ends last a = tt

pub last-ends : {A : Type 0} (last : Op → Type 0) (op : Op) (k : Reply → Prog A) → last op → ((reply : Reply) → IsDone (k reply)) → Ends last (Ask op k)
unfolding Ends
last-ends last op k l d = inr (l, d)

bind-ends : {A B : Type 0} (last : Op → Type 0) (p : Prog A) (f : A → Prog B) → Gets p → ((a : A) → Ends last (f a)) → Ends last (bind p f)
unfolding Gets Ends
bind-ends last (Done a) f r g = g a
bind-ends last (Ask op k) f r g = inl (r.0, λ reply. bind-ends last (k reply) f (r.1 reply) g)

answer-ends : {A B : Type 0} (last : Op → Type 0) (f : A → Program B) → ((a : A) → Ends last (f a)) → (r : Result A Refusal) → Ends last (on_answer f r)
answer-ends last f g (Ok a) = g a
answer-ends last f g (Err why) = done-ends last (Err why)

pub then-ends : {A B : Type 0} (last : Op → Type 0) (p : Program A) (f : A → Program B) → Gets p → ((a : A) → Ends last (f a)) → Ends last (p >>= f)
then-ends last p f r g = bind-ends last p (on_answer f) r (answer-ends last f g)

-- ---- what it owes
get-owes : (op : Op) → IsGet op → OwesRefs op
get-owes (Get key) g = tt
get-owes _ g = absurd g

abbrev pub Owes : List Event → ℕ → Op → Type 0
Owes journal client op = OwesRefs op

done-owes : {A : Type 0} (by : Caller) (p : Prog A) (h : List Event) → IsDone p → Keeps Owes by p h
unfolding Keeps
done-owes by (Done a) h d = tt
done-owes by (Ask op k) h d = absurd d

pub gets-owes : {A : Type 0} (by : Caller) (p : Prog A) (h : List Event) → Gets p → Keeps Owes by p h
unfolding Gets Keeps
gets-owes by (Done a) h r = tt
gets-owes by (Ask op k) h r = (get-owes op r.0, λ reply new m. gets-owes by (k reply) new (r.1 reply))

pub ends-owes : {A : Type 0} (last : Op → Type 0) → ((op : Op) → last op → OwesRefs op) → (by : Caller) (p : Prog A) (h : List Event) → Ends last p → Keeps Owes by p h
unfolding Ends Keeps
ends-owes last owes by (Done a) h r = tt
ends-owes last owes by (Ask op k) h (inl r) = (get-owes op r.0, λ reply new m. ends-owes last owes by (k reply) new (r.1 reply))
ends-owes last owes by (Ask op k) h (inr r) = (owes op r.0, λ reply new m. done-owes by (k reply) new (r.1 reply))

-- ---- what is there where memory is wanting
pub is-get : (op : Op) → IsGet op → (key : Key) × (Get key ≡ op)
is-get (Get key) g = (key, refl)
is-get _ g = absurd g

get-made : (by : Caller) (start : List Event) (op : Op) (reply : Reply) (old new : List Event) → IsGet op → Makes by op reply old new → MadeGets by.number start old → MadeGets by.number start new
get-made by start op reply old new g m c =
    let is = is-get op g in
    MadeGets-get by start is.0 reply old new (subst (λ (o : Op). Makes by o reply old new) (sym is.1) m) c

done-stays : {A : Type 0} (N : List Event → Type 0) (by : Caller) (p : Prog A) (h : List Event) → IsDone p → Stays N by p h
unfolding Stays
done-stays N by (Done a) h d = tt
done-stays N by (Ask op k) h d = absurd d

pub gets-stay : {A : Type 0} (by : Caller) (start : List Event) (p : Prog A) (h : List Event) → Gets p → MadeGets by.number start h → Stays (MadeGets by.number start) by p h
unfolding Gets Stays
gets-stay by start (Done a) h r c = tt
gets-stay by start (Ask op k) h r c = (c, λ reply new m. let next = get-made by start op reply h new r.0 m c in (λ e. next, gets-stay by start (k reply) new (r.1 reply) next))

-- behind a put over nothing is lost
pub over-stay : {A : Type 0} (last : Op → Type 0) → ((op : Op) → last op → moves_branch op ≡ true) → (by : Caller) (start : List Event) (p : Prog A) (h : List Event) → Ends last p → MadeGets by.number start h → Stays (MadeGets by.number start) by p h
unfolding Ends Stays
over-stay last over by start (Done a) h r c = tt
over-stay last over by start (Ask op k) h (inl r) c = (c, λ reply new m. let next = get-made by start op reply h new r.0 m c in (λ e. next, over-stay last over by start (k reply) new (r.1 reply) next))
over-stay last over by start (Ask op k) h (inr r) c = (c, λ reply new m. (λ e. let is = over op r.0 in absurd cc, done-stays (MadeGets by.number start) by (k reply) new (r.1 reply)))

done-tells : {A : Type 0} (T : A → List Event → Type 0) (by : Caller) (p : Prog A) (h : List Event) → IsDone p → Leads T by p h → (a : A) × T a h
unfolding Leads
done-tells T by (Done a) h d l = (a, l)
done-tells T by (Ask op k) h d l = absurd d

-- the client made gets alone, or the program has come to an answer
abbrev pub CameTo : {A : Type 0} → (A → List Event → Type 0) → ℕ → List Event → List Event → Type 0
CameTo {A} T client start journal = MadeGets client start journal ⊎ ((lost : A) × T lost journal)

pub ends-stay : {A : Type 0} (last : Op → Type 0) (T : A → List Event → Type 0) (by : Caller) (start : List Event) (p : Prog A) (h : List Event) → Ends last p → MadeGets by.number start h → Leads T by p h → Stays (CameTo T by.number start) by p h
unfolding Ends Leads Stays
ends-stay last T by start (Done a) h r c l = tt
ends-stay last T by start (Ask op k) h (inl r) c l =
    (inl c, λ reply new m. let next = get-made by start op reply h new r.0 m c in (λ e. inl next, ends-stay last T by start (k reply) new (r.1 reply) next (l reply new m)))
ends-stay last T by start (Ask op k) h (inr r) c l =
    (inl c, λ reply new m. (λ e. inr (done-tells T by (k reply) new (r.1 reply) (l reply new m)), done-stays (CameTo T by.number start) by (k reply) new (r.1 reply)))
