-- Programs that make gets alone.
use Rattle.std.proofs.Common.{List}
use Rattle.object_store.specs.declared.events.Op.{Op}
use Rattle.object_store.specs.declared.events.Op.TheVariants.{Get, PutNew, PutOver, Remove, RemoveAt, List as ListPart}
use Rattle.object_store.specs.declared.events.Reply.{Reply}
use Rattle.object_store.specs.declared.events.Event.{Event}
use Rattle.store_api.specs.Journal.{IsPolite}
use Rattle.store_api.specs.Callers.{Caller}
use Rattle.store_api.specs.Program.{Prog, Done, Ask, Leads, Keeps}
use Rattle.store_api.specs.Plays.{Stays}
use Rattle.store_api.specs.Running.{StaysPolite}
use Rattle.store_api.specs.Telling.{IsGet, MadeGets}
use Rattle.repo_read.proofs.Own.{MadeGets-get}

unfoldable pub Reads : {A : Type 0} → Prog A → Type 0
Reads (Done a) = Unit {0}
Reads (Ask op k) = IsGet op × ((reply : Reply) → Reads (k reply))

read-polite : (op : Op) (h : List Event) → IsGet op → IsPolite h op
read-polite (Get key) h r = tt
read-polite (PutNew key bytes why) h r = absurd r
read-polite (PutOver key bytes old why) h r = absurd r
read-polite (Remove key why) h r = absurd r
read-polite (RemoveAt key old why) h r = absurd r
read-polite (ListPart part) h r = absurd r

pub reads-polite : {A : Type 0} (by : Caller) (p : Prog A) (h : List Event) → Reads p → StaysPolite by p h
unfolding Reads Keeps
reads-polite by (Done a) h r = tt
reads-polite by (Ask op k) h r = (read-polite op h r.0, λ reply new m. reads-polite by (k reply) new (r.1 reply))

-- what they tell, and that they are gets
pub reads-gets : {A : Type 0} (Q : A → List Event → Type 0) (by : Caller) (start : List Event) (p : Prog A) (h : List Event) → Reads p → MadeGets by.number start h → Leads Q by p h → Leads (λ a j. Q a j × MadeGets by.number start j) by p h
unfolding Reads Leads
reads-gets Q by start (Done a) h r c l = (l, c)
reads-gets Q by start (Ask (Get key) k) h r c l = λ reply new m. reads-gets Q by start (k reply) new (r.1 reply) (MadeGets-get by start key reply h new m c) (l reply new m)
reads-gets Q by start (Ask (PutNew key bytes why) k) h r c l = absurd r.0
reads-gets Q by start (Ask (PutOver key bytes old why) k) h r c l = absurd r.0
reads-gets Q by start (Ask (Remove key why) k) h r c l = absurd r.0
reads-gets Q by start (Ask (RemoveAt key old why) k) h r c l = absurd r.0
reads-gets Q by start (Ask (ListPart part) k) h r c l = absurd r.0

-- wherever memory may be wanting, the client made gets alone
pub reads-stay : {A : Type 0} (by : Caller) (start : List Event) (p : Prog A) (h : List Event) → Reads p → MadeGets by.number start h → Stays (MadeGets by.number start) by p h
unfolding Reads Stays
reads-stay by start (Done a) h r c = tt
reads-stay by start (Ask (Get key) k) h r c = (c, λ reply new m. (λ e. MadeGets-get by start key reply h new m c, reads-stay by start (k reply) new (r.1 reply) (MadeGets-get by start key reply h new m c)))
reads-stay by start (Ask (PutNew key bytes why) k) h r c = absurd r.0
reads-stay by start (Ask (PutOver key bytes old why) k) h r c = absurd r.0
reads-stay by start (Ask (Remove key why) k) h r c = absurd r.0
reads-stay by start (Ask (RemoveAt key old why) k) h r c = absurd r.0
reads-stay by start (Ask (ListPart part) k) h r c = absurd r.0

pub done-reads : {A : Type 0} (a : A) → Reads (Done a)
unfolding Reads
done-reads a = tt
