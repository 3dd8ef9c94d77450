-- What a client minds at each of its operations, and what that carries to the end of its play.
use Rattle.std.proofs.Common.{List, ◌++◌, ℕ}
use Rattle.ice_ids.specs.declared.Id12.{Id12}
use Rattle.ice_ids.specs.declared.drawing.AnyIds.{AnyIds}
use Rattle.object_store.specs.declared.keys.Key.{Key}
use Rattle.object_store.specs.declared.keys.Key.TheVariants.{Snapshot, Manifest, Txn, Chunk, Branch, Tag, Tombstone, Lease}
use Rattle.object_store.specs.declared.keys.Why.{Why}
use Rattle.object_store.specs.declared.events.Op.{Op}
use Rattle.object_store.specs.declared.events.Op.TheVariants.{Get, PutNew, PutOver, Remove, RemoveAt, List as ListPart}
use Rattle.object_store.specs.declared.events.Event.{Event}
use Rattle.store_api.specs.Journal.{Each, IsGood}
use Rattle.store_api.specs.Callers.{Caller}
use Rattle.store_api.specs.Program.{Prog, Done, Ask as Ask_next, Keeps, Leads}
use Rattle.store_api.specs.Plays.{Play, Ended, Ask, Or, PlayKeeps, PlayLeads, Stays}
use Rattle.session.specs.Sessions.{SessionState}
use Rattle.commit_path.specs.Owed.{Sessions, OwesOver, OwesSnap, OwesNew, OwesPutOver, Owes, IsCareful}
use Rattle.commit_path.specs.Own.{OwesOwn}
use Rattle.store_api.specs.Telling.{ChangedNothing}
use Rattle.commit_path.specs.Single.{PutsSnapshot, HasPutNone}
use Rattle.commit_path.proofs.Singling.{HasPutNone-makes}
use Rattle.store_api.proofs.Telling.{makes-keeps}
use Rattle.rebase.proofs.Kept.{stays-makes}
use Rattle.play_tasks.specs.Owing.{IsPut}

-- an operation is polite and owed, comes before its client changed a branch if it puts something, and is owed of the client's own puts
abbrev pub Minds : AnyIds → Sessions → List Event → List Event → ℕ → Op → Type 0
Minds ids mine start journal client op = IsCareful ids mine journal client op × ((IsPut op → ChangedNothing client start journal) × OwesOwn ids client start op journal)

pub Keeps-minds : {A : Type 0} (ids : AnyIds) (mine : Sessions) (start : List Event) (by : Caller) (p : Prog A) (journal : List Event) → Keeps (IsCareful ids mine) by p journal → Stays (ChangedNothing by.number start) by p journal → Keeps (λ h client op. OwesOwn ids client start op h) by p journal → Keeps (Minds ids mine start) by p journal
unfolding Keeps Stays
Keeps-minds ids mine start by (Done a) journal k s o = tt
Keeps-minds ids mine start by (Ask_next op next) journal k s o = ((k.0, (λ puts. s.0, o.0)), λ reply new m. Keeps-minds ids mine start by (next reply) new (k.1 reply new m) (s.1 reply new m).1 (o.1 reply new m))

-- where Q follows from P at the client's own operations
pub Keeps-own : {A : Type 0} (P Q : List Event → ℕ → Op → Type 0) (by : Caller) → ((journal : List Event) (op : Op) → P journal by.number op → Q journal by.number op) → (p : Prog A) (journal : List Event) → Keeps P by p journal → Keeps Q by p journal
unfolding Keeps
Keeps-own P Q by f (Done a) journal k = tt
Keeps-own P Q by f (Ask_next op g) journal k = (f journal op k.0, λ reply new m. Keeps-own P Q by f (g reply) new (k.1 reply new m))

pub PlayKeeps-own : {A : Type 0} (P Q : List Event → ℕ → Op → Type 0) (by : Caller) → ((journal : List Event) (op : Op) → P journal by.number op → Q journal by.number op) → (p : Play A) (journal : List Event) → PlayKeeps P by p journal → PlayKeeps Q by p journal
unfolding PlayKeeps
PlayKeeps-own P Q by f (Ended a) journal k = tt
PlayKeeps-own P Q by f (Ask op s next) journal k = (f journal op k.0, PlayKeeps-own P Q by f s journal k.1, λ reply new m. PlayKeeps-own P Q by f (next reply) new (k.2 reply new m))
PlayKeeps-own P Q by f (Or p q) journal k = (PlayKeeps-own P Q by f p journal k.0, PlayKeeps-own P Q by f q journal k.1)

pub PlayKeeps-both : {A : Type 0} (P Q : List Event → ℕ → Op → Type 0) (by : Caller) (p : Play A) (journal : List Event) → PlayKeeps P by p journal → PlayKeeps Q by p journal → PlayKeeps (λ h client op. P h client op × Q h client op) by p journal
unfolding PlayKeeps
PlayKeeps-both P Q by (Ended a) journal k l = tt
PlayKeeps-both P Q by (Ask op s next) journal k l = ((k.0, l.0), PlayKeeps-both P Q by s journal k.1 l.1, λ reply new m. PlayKeeps-both P Q by (next reply) new (k.2 reply new m) (l.2 reply new m))
PlayKeeps-both P Q by (Or p q) journal k l = (PlayKeeps-both P Q by p journal k.0 l.0, PlayKeeps-both P Q by q journal k.1 l.1)

-- two facts of each answer
pub Leads-both : {A : Type 0} (Q R : A → List Event → Type 0) (by : Caller) (p : Prog A) (journal : List Event) → Leads Q by p journal → Leads R by p journal → Leads (λ a h. Q a h × R a h) by p journal
unfolding Leads
Leads-both Q R by (Done a) journal q r = (q, r)
Leads-both Q R by (Ask_next op next) journal q r = λ reply new m. Leads-both Q R by (next reply) new (q reply new m) (r reply new m)

-- what holds of the journal, and is kept by good events, holds at the end of a minded play
pub PlayLeads-carry : {A : Type 0} (P : List Event → Type 0) → ((journal more : List Event) → Each IsGood journal more → P journal → P (journal ++ more)) → (ids : AnyIds) (mine : Sessions) (start : List Event) (by : Caller) (p : Play A) (journal : List Event) → (Q : A → List Event → Type 0)
    → PlayKeeps (Minds ids mine start) by p journal → P journal → PlayLeads Q by p journal → PlayLeads (λ a h. P h × Q a h) by p journal
unfolding PlayKeeps PlayLeads
PlayLeads-carry P stable ids mine start by (Ended a) journal Q k p l = (p, l)
PlayLeads-carry P stable ids mine start by (Ask op s g) journal Q k p l = (
  PlayLeads-carry P stable ids mine start by s journal Q k.1 p l.0,
  λ reply new m. PlayLeads-carry P stable ids mine start by (g reply) new Q (k.2 reply new m) (makes-keeps P stable by op reply journal new k.0.0.polite m p) (l.1 reply new m),
)
PlayLeads-carry P stable ids mine start by (Or p q) journal Q k held l = (PlayLeads-carry P stable ids mine start by p journal Q k.0 held l.0, PlayLeads-carry P stable ids mine start by q journal Q k.1 held l.1)

-- ... and at each of its operations
pub PlayKeeps-good : {A : Type 0} (P : List Event → Type 0) → ((journal more : List Event) → Each IsGood journal more → P journal → P (journal ++ more)) → (ids : AnyIds) (mine : Sessions) (start : List Event) (by : Caller) (p : Play A) (journal : List Event)
    → PlayKeeps (Minds ids mine start) by p journal → P journal → PlayKeeps (λ h client op. P h × Minds ids mine start h client op) by p journal
unfolding PlayKeeps
PlayKeeps-good P stable ids mine start by (Ended a) journal k held = tt
PlayKeeps-good P stable ids mine start by (Ask op s g) journal k held = (
  (held, k.0),
  PlayKeeps-good P stable ids mine start by s journal k.1 held,
  λ reply new m. PlayKeeps-good P stable ids mine start by (g reply) new (k.2 reply new m) (makes-keeps P stable by op reply journal new k.0.0.polite m held),
)
PlayKeeps-good P stable ids mine start by (Or p q) journal k held = (PlayKeeps-good P stable ids mine start by p journal k.0 held, PlayKeeps-good P stable ids mine start by q journal k.1 held)

-- ---- what stays so, whatever comes
module _ (P : List Event → Type 0) (stays : (journal more : List Event) → P journal → P (journal ++ more)) (by : Caller) where
  -- ... holds at each operation
  pub Keeps-with : {A : Type 0} (Q : List Event → ℕ → Op → Type 0) (p : Prog A) (journal : List Event) → P journal → Keeps Q by p journal → Keeps (λ h client op. P h × Q h client op) by p journal
  unfolding Keeps
  Keeps-with Q (Done a) journal held k = tt
  Keeps-with Q (Ask_next op next) journal held k = ((held, k.0), λ reply new m. Keeps-with Q (next reply) new (stays-makes P stays by op reply journal new m held) (k.1 reply new m))

  -- ... and at each answer
  pub Leads-with : {A : Type 0} (Q : A → List Event → Type 0) (p : Prog A) (journal : List Event) → P journal → Leads Q by p journal → Leads (λ a h. P h × Q a h) by p journal
  unfolding Leads
  Leads-with Q (Done a) journal held l = (held, l)
  Leads-with Q (Ask_next op next) journal held l = λ reply new m. Leads-with Q (next reply) new (stays-makes P stays by op reply journal new m held) (l reply new m)

-- what good events keep holds at each answer of a careful program
pub Leads-good : {A : Type 0} (P : List Event → Type 0) → ((journal more : List Event) → Each IsGood journal more → P journal → P (journal ++ more)) → (ids : AnyIds) (mine : Sessions) (by : Caller) (Q : A → List Event → Type 0) (p : Prog A) (journal : List Event)
    → Keeps (IsCareful ids mine) by p journal → P journal → Leads Q by p journal → Leads (λ a h. P h × Q a h) by p journal
unfolding Keeps Leads
Leads-good P stable ids mine by Q (Done a) journal k held l = (held, l)
Leads-good P stable ids mine by Q (Ask_next op next) journal k held l = λ reply new m. Leads-good P stable ids mine by Q (next reply) new (k.1 reply new m) (makes-keeps P stable by op reply journal new k.0.polite m held) (l reply new m)

-- ... and at each of its operations
pub Keeps-good : {A : Type 0} (P : List Event → Type 0) → ((journal more : List Event) → Each IsGood journal more → P journal → P (journal ++ more)) → (ids : AnyIds) (mine : Sessions) (by : Caller) (p : Prog A) (journal : List Event)
    → Keeps (IsCareful ids mine) by p journal → P journal → Keeps (λ h client op. P h × IsCareful ids mine h client op) by p journal
unfolding Keeps
Keeps-good P stable ids mine by (Done a) journal k held = tt
Keeps-good P stable ids mine by (Ask_next op next) journal k held = ((held, k.0), λ reply new m. Keeps-good P stable ids mine by (next reply) new (k.1 reply new m) (makes-keeps P stable by op reply journal new k.0.polite m held))

-- ---- what is owed for fewer sessions is owed for more
module _ (ids : AnyIds) (mine more : Sessions) (journal : List Event) (f : (s : SessionState) (id : Id12) → mine journal s id → more journal s id) where
  owes-snap : (id : Id12) (bytes : List ℕ) → OwesSnap mine journal id bytes → OwesSnap more journal id bytes
  owes-snap id bytes o = record {
    session = o.session;
    is_mine = f o.session id o.is_mine;
    snap = o.snap;
    read = o.read;
    parent = o.parent;
    tree = o.tree;
    readable = o.readable;
    own = o.own;
    base_put = o.base_put;
    base_rows = o.base_rows;
    logged = o.logged;
    chunks = o.chunks;
  }

  owes-new : (bytes : List ℕ) (key : Key) → OwesNew ids mine journal bytes key → OwesNew ids more journal bytes key
  owes-new bytes (Snapshot id) o = owes-snap id bytes o
  owes-new bytes (Txn id) o = o
  owes-new bytes (Manifest id) o = o
  owes-new bytes (Chunk id) o = o
  owes-new bytes (Branch name) o = o
  owes-new bytes (Tag name) o = o
  owes-new bytes (Tombstone name) o = o
  owes-new bytes (Lease id) o = o

  owes-over : (name bytes : List ℕ) (old : ℕ) (why : Why) → OwesOver mine journal name bytes old why → OwesOver more journal name bytes old why
  owes-over name bytes old why o = record {
    session = o.session;
    id = o.id;
    is_mine = f o.session o.id o.is_mine;
    branch_is = o.branch_is;
    version_is = o.version_is;
    names = o.names;
    why_is = o.why_is;
    made = o.made;
  }

  owes-put-over : (bytes : List ℕ) (old : ℕ) (why : Why) (key : Key) → OwesPutOver mine journal bytes old why key → OwesPutOver more journal bytes old why key
  owes-put-over bytes old why (Snapshot id) o = o
  owes-put-over bytes old why (Txn id) o = o
  owes-put-over bytes old why (Manifest id) o = o
  owes-put-over bytes old why (Chunk id) o = o
  owes-put-over bytes old why (Branch name) o = owes-over name bytes old why o
  owes-put-over bytes old why (Tag name) o = o
  owes-put-over bytes old why (Tombstone name) o = o
  owes-put-over bytes old why (Lease id) o = o

  owes : (op : Op) → Owes ids mine journal op → Owes ids more journal op
  owes (Get key) o = o
  owes (ListPart part) o = o
  owes (PutNew key bytes why) o = owes-new bytes key o
  owes (PutOver key bytes old why) o = owes-put-over bytes old.0 why key o
  owes (Remove key why) o = o
  owes (RemoveAt key old why) o = o

  pub careful-more : (client : ℕ) (op : Op) → IsCareful ids mine journal client op → IsCareful ids more journal client op
  careful-more client op c = record { polite = c.polite; owes = owes op c.owes }

-- ---- a program that puts no snapshot
pub puts-none : {A : Type 0} (by : Caller) (start : List Event) (p : Prog A) (journal : List Event) → Keeps (λ h client op. ¬ PutsSnapshot op) by p journal → HasPutNone by.number start journal → Leads (λ a h. HasPutNone by.number start h) by p journal
unfolding Keeps Leads
puts-none by start (Done a) journal k c = c
puts-none by start (Ask_next op next) journal k c = λ reply new m. puts-none by start (next reply) new (k.1 reply new m) (HasPutNone-makes by start op reply journal new m k.0 c)
