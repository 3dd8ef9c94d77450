-- Programs that make gets alone.
use Rattle.std.proofs.Common.{◌≡◌, ℕ, List, ◌++◌, refl, subst}
use Rattle.object_store.specs.declared.keys.Key.{Key}
use Rattle.object_store.specs.declared.events.Op.{Op}
use Rattle.object_store.specs.declared.events.Op.TheVariants.{Get}
use Rattle.object_store.specs.declared.events.Reply.{Reply}
use Rattle.object_store.specs.declared.events.Event.{Event}
use Rattle.store_api.specs.Journal.{Each, IsGood, IsPolite}
use Rattle.store_api.specs.Callers.{Caller, Makes}
use Rattle.store_api.specs.Program.{Prog, Done, Ask, bind, Keeps, Leads}
use Rattle.store_api.specs.Plays.{Stays}
use Rattle.store_api.specs.Telling.{IsGet}
use Rattle.store_api.proofs.Telling.{makes-keeps}

unfoldable pub Gets : {A : Type 0} → Prog A → Type 0
Gets (Done a) = Unit {0}
Gets (Ask op k) = IsGet op × ((reply : Reply) → Gets (k reply))

pub done-gets : {A : Type 0} (a : A) → Gets (Done a)
unfolding Gets
done-gets a = tt

pub ask-gets : {A : Type 0} (key : Key) (k : Reply → Prog A) → ((reply : Reply) → Gets (k reply)) → Gets (Ask (Get key) k)
unfolding Gets
ask-gets key k r = (tt, r)

pub bind-gets : {A B : Type 0} (p : Prog A) (f : A → Prog B) → Gets p → ((a : A) → Gets (f a)) → Gets (bind p f)
unfolding Gets
bind-gets (Done a) f r g = g a
bind-gets (Ask op k) f r g = (r.0, λ reply. bind-gets (k reply) f (r.1 reply) g)

-- ---- a get
pub is-get : (op : Op) → IsGet op → (key : Key) × (Get key ≡ op)
is-get (Get key) g = (key, refl)
is-get _ g = absurd g

-- what own gets leave
abbrev pub GetsLeave : (by : Caller) (N : List Event → Type 0) → Type 0
GetsLeave by N = (key : Key) (reply : Reply) (old new : List Event) → Makes by (Get key) reply old new → N old → N new

got-leaves : (by : Caller) (N : List Event → Type 0) → GetsLeave by N → (op : Op) (reply : Reply) (old new : List Event) → IsGet op → Makes by op reply old new → N old → N new
got-leaves by N leave (Get key) reply old new g m n = leave key reply old new m n
got-leaves by N leave _ reply old new g m n = absurd g

-- ---- what holds of gets holds of each operation to come
pub gets-keep_each : {A : Type 0} (P : List Event → ℕ → Op → Type 0) (by : Caller) → ((h : List Event) (key : Key) → P h by.number (Get key)) → (p : Prog A) (h : List Event) → Gets p → Keeps P by p h
unfolding Gets Keeps
gets-keep_each P by gets (Done a) h r = tt
gets-keep_each P by gets (Ask op k) h r = (
  let g = is-get op r.0 in
      subst (λ (o : Op). P h by.number o) g.1 (gets h g.0),
  λ reply new m. gets-keep_each P by gets (k reply) new (r.1 reply),
)

-- ---- what stays so until the answer
-- what good events leave
pub gets-leave : {A : Type 0} (P : List Event → Type 0) → ((journal more : List Event) → Each IsGood journal more → P journal → P (journal ++ more)) → (Q : A → List Event → Type 0) (by : Caller) (p : Prog A) (h : List Event) → Gets p → P h → Leads Q by p h
    → Leads (λ a j. Q a j × P j) by p h
unfolding Gets Leads
gets-leave P stable Q by (Done a) h r c l = (l, c)
gets-leave P stable Q by (Ask op k) h r c l = λ reply new m.
    let g = is-get op r.0 in
    gets-leave P stable Q by (k reply) new (r.1 reply) (makes-keeps P stable by op reply h new (subst (λ (o : Op). IsPolite h o) g.1 tt) m c) (l reply new m)

-- what own gets leave
pub gets-hold : {A : Type 0} (N : List Event → Type 0) (by : Caller) → GetsLeave by N → (p : Prog A) (h : List Event) → Gets p → N h → Leads (λ a j. N j) by p h
unfolding Gets Leads
gets-hold N by leave (Done a) h r n = n
gets-hold N by leave (Ask op k) h r n = λ reply new m. gets-hold N by leave (k reply) new (r.1 reply) (got-leaves by N leave op reply h new r.0 m n)

-- it holds wherever there may be no memory, too
pub gets-stay : {A : Type 0} (N : List Event → Type 0) (by : Caller) → GetsLeave by N → (p : Prog A) (h : List Event) → Gets p → N h → Stays N by p h
unfolding Gets Stays
gets-stay N by leave (Done a) h r n = tt
gets-stay N by leave (Ask op k) h r n = (n, λ reply new m. let next = got-leaves by N leave op reply h new r.0 m n in (λ e. next, gets-stay N by leave (k reply) new (r.1 reply) next))
