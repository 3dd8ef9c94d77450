-- Laws of plays.
use Rattle.std.proofs.Common.{◌≡◌, ℕ, inl, inr, Bool, true, false, true≢false, List, refl, sym, ap, ◌∙◌, subst}
use Rattle.std.specs.Prelude.{IsTrue, Result, Err}
use Rattle.object_store.specs.declared.events.Op.{Op}
use Rattle.object_store.specs.declared.events.Reply.{Reply}
use Rattle.object_store.specs.declared.events.Event.{Event}
use Rattle.store_api.specs.declared.machines.Refusal.{Refusal}
use Rattle.store_api.specs.declared.machines.Refusal.TheVariants.{NoMemory}
use Rattle.store_api.specs.Callers.{Caller, View, Waits}
use Rattle.store_api.specs.Program.{Prog, Done, Ask as Ask_next, is_ask, Keeps, Leads, moves_branch, is_told_surely}
use Rattle.store_api.specs.Plays.{Play, Ended, Ask, Or, call, behind, Comes, HasEnded, PlayKeeps, PlayLeads, Stays, dooms, Acts}
use Rattle.store_api.proofs.Programs.{IsStable, Makes-waits}

-- ---- what holds of each operation to come
pub PlayKeeps-comes : {A : Type 0} (P : List Event → ℕ → Op → Type 0) (by : Caller) (p q : Play A) (journal : List Event) → Comes p q → PlayKeeps P by p journal → PlayKeeps P by q journal
unfolding PlayKeeps
PlayKeeps-comes P by (Ended a) q journal c k = subst (λ (x : Play _). PlayKeeps P by x journal) (sym c) tt
PlayKeeps-comes P by (Ask op s f) q journal c k = subst (λ (x : Play _). PlayKeeps P by x journal) (sym c) k
PlayKeeps-comes P by (Or p r) q journal (inl c) k = PlayKeeps-comes P by p q journal c k.0
PlayKeeps-comes P by (Or p r) q journal (inr c) k = PlayKeeps-comes P by r q journal c k.1

pub PlayKeeps-waits : {A : Type 0} (P : List Event → ℕ → Op → Type 0) → IsStable P → (by : Caller) (p : Play A) (old new : List Event) → Waits by old new → PlayKeeps P by p old → PlayKeeps P by p new
unfolding PlayKeeps
PlayKeeps-waits P stable by (Ended a) old new w k = tt
PlayKeeps-waits P stable by (Ask op s f) old new w k = (
  subst (λ (h : List Event). P h by.number op) (sym w.is) (stable by old w.between op w.others k.0),
  PlayKeeps-waits P stable by s old new w k.1,
  λ reply next m. k.2 reply next (Makes-waits by op reply old new next w m),
)
PlayKeeps-waits P stable by (Or p q) old new w k = (PlayKeeps-waits P stable by p old new w k.0, PlayKeeps-waits P stable by q old new w k.1)

-- a step keeps it
pub PlayKeeps-acts : {A : Type 0} (P : List Event → ℕ → Op → Type 0) → IsStable P → (failed : A → Bool) (old new : View) (p q : Play A) → IsTrue old.caller.tells → Acts failed old new p q → PlayKeeps P old.caller p old.seen → PlayKeeps P old.caller q new.seen
unfolding PlayKeeps
PlayKeeps-acts P stable failed old new p q t s k = elim s.went [
  | inl a ↦
      let here = subst (λ (x : Play _). PlayKeeps P old.caller x old.seen) a.asks k in
      PlayKeeps-comes P old.caller (a.next a.reply) q new.seen a.comes (here.2 a.reply new.seen (a.made t))
  | inr n ↦
      let here = subst (λ (x : Play _). PlayKeeps P old.caller x old.seen) n.asks k in
      PlayKeeps-comes P old.caller n.starved q new.seen n.comes (PlayKeeps-waits P stable old.caller n.starved old.seen new.seen (n.waits t) here.1)
]

-- where Q follows from P
pub PlayKeeps-weaker : {A : Type 0} (P Q : List Event → ℕ → Op → Type 0) → ((journal : List Event) (client : ℕ) (op : Op) → P journal client op → Q journal client op) → (by : Caller) (p : Play A) (journal : List Event) → PlayKeeps P by p journal → PlayKeeps Q by p journal
unfolding PlayKeeps
PlayKeeps-weaker P Q f by (Ended a) journal k = tt
PlayKeeps-weaker P Q f by (Ask op s g) journal k = (f journal by.number op k.0, PlayKeeps-weaker P Q f by s journal k.1, λ reply new m. PlayKeeps-weaker P Q f by (g reply) new (k.2 reply new m))
PlayKeeps-weaker P Q f by (Or p q) journal k = (PlayKeeps-weaker P Q f by p journal k.0, PlayKeeps-weaker P Q f by q journal k.1)

-- where memory may be wanting behind a reply, no branch was put over
free-moves : (op : Op) (reply : Reply) → is_told_surely op reply ≡ false → moves_branch op ≡ false
free-moves op reply e = by_op (moves_branch op) refl
  where
    by_op : (over : Bool) → moves_branch op ≡ over → moves_branch op ≡ false
    by_op true m = let surely : is_told_surely op reply ≡ true = rw m refl in absurd (true≢false (sym surely ∙ e))
    by_op false m = m

behind-keeps : {A : Type 0} (P : List Event → ℕ → Op → Type 0) (by : Caller) (op : Op) (reply : Reply) (p s : Play A) (journal : List Event) (surely : Bool) → is_told_surely op reply ≡ surely → PlayKeeps P by p journal → (surely ≡ false → PlayKeeps P by s journal) → PlayKeeps P by (behind op reply p s) journal
unfolding PlayKeeps
behind-keeps P by op reply p s journal true e k free = rw e k
behind-keeps P by op reply p s journal false e k free = rw e (k, free refl)

-- a call, and then what follows its answer
pub PlayKeeps-call : {A B : Type 0} (P : List Event → ℕ → Op → Type 0) (Q : Result A Refusal → List Event → Type 0) (N : List Event → Type 0) (by : Caller) (p : Prog (Result A Refusal)) (f : Result A Refusal → Play B) (journal : List Event)
    → Keeps P by p journal → Leads Q by p journal → Stays N by p journal
    → ((answer : Result A Refusal) (h : List Event) → Q answer h → PlayKeeps P by (f answer) h) → ((h : List Event) → N h → PlayKeeps P by (f (Err NoMemory)) h)
    → PlayKeeps P by (call p f) journal
unfolding PlayKeeps Keeps Leads Stays
PlayKeeps-call P Q N by (Done a) f journal k l n g h = g a journal l
PlayKeeps-call P Q N by (Ask_next op next) f journal k l n g h = (
  k.0,
  h journal n.0,
  λ reply new m. behind-keeps P by op reply (call (next reply) f) (f (Err NoMemory)) new (is_told_surely op reply) refl (PlayKeeps-call P Q N by (next reply) f new (k.1 reply new m) (l reply new m) (n.1 reply new m).1 g h) (λ e. h new ((n.1 reply new m).0 (free-moves op reply e))),
)

-- ---- what holds of an outcome
pub PlayLeads-comes : {A : Type 0} (Q : A → List Event → Type 0) (by : Caller) (p q : Play A) (journal : List Event) → Comes p q → PlayLeads Q by p journal → PlayLeads Q by q journal
unfolding PlayLeads
PlayLeads-comes Q by (Ended a) q journal c l = subst (λ (x : Play _). PlayLeads Q by x journal) (sym c) l
PlayLeads-comes Q by (Ask op s f) q journal c l = subst (λ (x : Play _). PlayLeads Q by x journal) (sym c) l
PlayLeads-comes Q by (Or p r) q journal (inl c) l = PlayLeads-comes Q by p q journal c l.0
PlayLeads-comes Q by (Or p r) q journal (inr c) l = PlayLeads-comes Q by r q journal c l.1

-- it is kept by good events of others
abbrev pub IsKeptByOthers : {A : Type 0} → (A → List Event → Type 0) → Caller → Type 0
IsKeptByOthers {A} Q by = (a : A) (old new : List Event) → Waits by old new → Q a old → Q a new

pub PlayLeads-waits : {A : Type 0} (Q : A → List Event → Type 0) (by : Caller) → IsKeptByOthers Q by → (p : Play A) (old new : List Event) → Waits by old new → PlayLeads Q by p old → PlayLeads Q by p new
unfolding PlayLeads
PlayLeads-waits Q by kept (Ended a) old new w l = kept a old new w l
PlayLeads-waits Q by kept (Ask op s f) old new w l = (PlayLeads-waits Q by kept s old new w l.0, λ reply next m. l.1 reply next (Makes-waits by op reply old new next w m))
PlayLeads-waits Q by kept (Or p q) old new w l = (PlayLeads-waits Q by kept p old new w l.0, PlayLeads-waits Q by kept q old new w l.1)

-- a step keeps it
pub PlayLeads-acts : {A : Type 0} (Q : A → List Event → Type 0) (failed : A → Bool) (old new : View) (p q : Play A) → IsKeptByOthers Q old.caller → IsTrue old.caller.tells → Acts failed old new p q → PlayLeads Q old.caller p old.seen → PlayLeads Q old.caller q new.seen
unfolding PlayLeads
PlayLeads-acts Q failed old new p q kept t s l = elim s.went [
  | inl a ↦
      let here = subst (λ (x : Play _). PlayLeads Q old.caller x old.seen) a.asks l in
      PlayLeads-comes Q old.caller (a.next a.reply) q new.seen a.comes (here.1 a.reply new.seen (a.made t))
  | inr n ↦
      let here = subst (λ (x : Play _). PlayLeads Q old.caller x old.seen) n.asks l in
      PlayLeads-comes Q old.caller n.starved q new.seen n.comes (PlayLeads-waits Q old.caller kept n.starved old.seen new.seen (n.waits t) here.0)
]

behind-leads : {A : Type 0} (Q : A → List Event → Type 0) (by : Caller) (op : Op) (reply : Reply) (p s : Play A) (journal : List Event) (surely : Bool) → is_told_surely op reply ≡ surely → PlayLeads Q by p journal → (surely ≡ false → PlayLeads Q by s journal) → PlayLeads Q by (behind op reply p s) journal
unfolding PlayLeads
behind-leads Q by op reply p s journal true e l free = rw e l
behind-leads Q by op reply p s journal false e l free = rw e (l, free refl)

-- a call, and then what follows its answer
pub PlayLeads-call : {A B : Type 0} (R : B → List Event → Type 0) (Q : Result A Refusal → List Event → Type 0) (N : List Event → Type 0) (by : Caller) (p : Prog (Result A Refusal)) (f : Result A Refusal → Play B) (journal : List Event)
    → Leads Q by p journal → Stays N by p journal
    → ((answer : Result A Refusal) (h : List Event) → Q answer h → PlayLeads R by (f answer) h) → ((h : List Event) → N h → PlayLeads R by (f (Err NoMemory)) h)
    → PlayLeads R by (call p f) journal
unfolding PlayLeads Leads Stays
PlayLeads-call R Q N by (Done a) f journal l n g h = g a journal l
PlayLeads-call R Q N by (Ask_next op next) f journal l n g h = (
  h journal n.0,
  λ reply new m. behind-leads R by op reply (call (next reply) f) (f (Err NoMemory)) new (is_told_surely op reply) refl (PlayLeads-call R Q N by (next reply) f new (l reply new m) (n.1 reply new m).1 g h) (λ e. h new ((n.1 reply new m).0 (free-moves op reply e))),
)

-- ---- ends
pub HasEnded-comes : {A : Type 0} (p q : Play A) → HasEnded p → Comes p q → q ≡ p
HasEnded-comes (Ended a) q e c = c
HasEnded-comes (Ask op s f) q e c = absurd e
HasEnded-comes (Or p r) q e c = absurd e

-- ---- what it tells where memory is wanting
-- a call that has an operation to come tells what follows its want of memory
pub dooms-call : {A B : Type 0} (failed : B → Bool) (p : Prog (Result A Refusal)) (f : Result A Refusal → Play B) → is_ask p ≡ true → dooms failed (call p f) ≡ dooms failed (f (Err NoMemory))
dooms-call failed (Done a) f live = absurd (true≢false (sym live))
dooms-call failed (Ask_next op next) f live = refl

-- ... and so does what it has come to
pub dooms-came : {A B : Type 0} (failed : B → Bool) (p : Prog (Result A Refusal)) (f : Result A Refusal → Play B) (q : Play B) → is_ask p ≡ true → Comes (call p f) q → dooms failed q ≡ dooms failed (f (Err NoMemory))
dooms-came failed (Done a) f q live c = absurd (true≢false (sym live))
dooms-came failed (Ask_next op next) f q live c = ap (dooms failed) c
