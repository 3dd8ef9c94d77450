-- Laws of programs.
use Rattle.std.proofs.Common.{◌≡◌, ℕ, inl, inr, Bool, true, false, List, [], ◌∷◌, ◌++◌, refl, sym, ◌∙◌, ap, subst, append_assoc, ne_eqb, eq-eqb, arith}
use Rattle.std.specs.Prelude.{◌==◌, nat_le, IsTrue, Result, Ok, Err}
use Rattle.std.proofs.lemmas.List.Elements.{filter-append}
use Rattle.std.proofs.lemmas.Bool.Decides.{nat_tests}
use Rattle.object_store.specs.declared.events.Op.{Op}
use Rattle.object_store.specs.declared.events.Reply.{Reply}
use Rattle.object_store.specs.declared.events.Reply.TheVariants.{Failed}
use Rattle.object_store.specs.declared.events.StoreFault.TheVariants.{Failed as Store_failed}
use Rattle.object_store.specs.declared.events.Event.{Event}
use Rattle.store_api.specs.declared.machines.Next.{Next}
use Rattle.store_api.specs.declared.machines.Next.TheVariants.{Again, Ready}
use Rattle.store_api.specs.declared.machines.Refusal.{Refusal}
use Rattle.store_api.specs.declared.machines.Refusal.TheVariants.{NoMemory}
use Rattle.object_store.specs.Machine.{IsAnswered}
use Rattle.store_api.specs.Journal.{Each, IsPolite, IsGood}
use Rattle.store_api.specs.Callers.{Caller, View, IsOther, Waits, Makes, Did, Called, own_event, owns, HasAll, Fits, has_failed}
use Rattle.store_api.specs.Program.{Prog, Done, IsDone, Path, events_of, Keeps, Leads, Ask, bind, Blames, Lands, Steps, Grows, moves_branch, is_told_surely, IsSure, is_fault}
use Rattle.object_store.proofs.Journals.{Each-append, Each-weaker, Each-one}
use Rattle.object_store.proofs.Waits.{Waits-none as none-by, Waits-same as same-by, Waits-trans as trans-by, Makes-waits as waits-by, Makes-alone as alone-by}
use Rattle.store_api.proofs.Standing.{IsPolite-append}

-- ---- waits and calls
pub Waits-none : (by : Caller) (old : List Event) → Waits by old old
Waits-none = none-by IsPolite

pub Waits-same : (by : Caller) (old new : List Event) → new ≡ old → Waits by old new
Waits-same = same-by IsPolite

pub Waits-trans : (by : Caller) (a b c : List Event) → Waits by a b → Waits by b c → Waits by a c
Waits-trans = trans-by IsPolite

-- a wait before a call is part of the call
pub Makes-waits : (by : Caller) (op : Op) (reply : Reply) (a b c : List Event) → Waits by a b → Makes by op reply b c → Makes by op reply a c
Makes-waits = waits-by IsPolite

-- this call alone
pub Makes-alone : (by : Caller) (op : Op) (reply : Reply) (time : ℕ) (old new : List Event) → IsAnswered old (own_event by op reply time) → new ≡ old ++ own_event by op reply time ∷ [] → Makes by op reply old new
Makes-alone = alone-by IsPolite

-- the events of others are good
pub good-waits : (by : Caller) (old xs : List Event) → Each (IsOther by) old xs → Each IsGood old xs
good-waits by old xs o = Each-weaker (IsOther by) IsGood (λ h e x. x.good) old xs o

-- ---- what holds of each operation to come
-- P is kept by good events of others
abbrev pub IsStable : (List Event → ℕ → Op → Type 0) → Type 0
IsStable P = (by : Caller) (journal more : List Event) (op : Op) → Each (IsOther by) journal more → P journal by.number op → P (journal ++ more) by.number op

pub Keeps-waits : {A : Type 0} (P : List Event → ℕ → Op → Type 0) → IsStable P → (by : Caller) (p : Prog A) (old new : List Event) → Waits by old new → Keeps P by p old → Keeps P by p new
unfolding Keeps
Keeps-waits P s by (Done a) old new w k = tt
Keeps-waits P s by (Ask op f) old new w k = (
  subst (λ (h : List Event). P h by.number op) (sym w.is) (s by old w.between op w.others k.0),
  λ reply next m. k.1 reply next (Makes-waits by op reply old new next w m),
)

pub Keeps-asks : {A : Type 0} (P : List Event → ℕ → Op → Type 0) (by : Caller) (old new : List Event) (op : Op) (next : Reply → Prog A) (reply : Reply) → Makes by op reply old new → Keeps P by (Ask op next) old → Keeps P by (next reply) new
unfolding Keeps
Keeps-asks P by old new op next reply m k = k.1 reply new m

pub Keeps-done : {A : Type 0} (P : List Event → ℕ → Op → Type 0) (by : Caller) (q : Prog A) (new : List Event) → IsDone q → Keeps P by q new
unfolding Keeps
Keeps-done P by (Done a) new d = tt
Keeps-done P by (Ask op k) new d = absurd d

-- what the next operation has
pub Keeps-now : {A : Type 0} (P : List Event → ℕ → Op → Type 0) (by : Caller) (op : Op) (next : Reply → Prog A) (journal : List Event) → Keeps P by (Ask op next) journal → P journal by.number op
unfolding Keeps
Keeps-now P by op next journal k = k.0

-- where Q follows from P
pub Keeps-weaker : {A : Type 0} (P Q : List Event → ℕ → Op → Type 0) → ((journal : List Event) (client : ℕ) (op : Op) → P journal client op → Q journal client op) → (by : Caller) (p : Prog A) (journal : List Event) → Keeps P by p journal → Keeps Q by p journal
unfolding Keeps
Keeps-weaker P Q f by (Done a) journal k = tt
Keeps-weaker P Q f by (Ask op g) journal k = (f journal by.number op k.0, λ reply new m. Keeps-weaker P Q f by (g reply) new (k.1 reply new m))

-- first p, and then what follows
pub Keeps-bind : {A B : Type 0} (P : List Event → ℕ → Op → Type 0) (Q : A → List Event → Type 0) (by : Caller) (p : Prog A) (f : A → Prog B) (journal : List Event) → Keeps P by p journal → Leads Q by p journal → ((a : A) (h : List Event) → Q a h → Keeps P by (f a) h) → Keeps P by (bind p f) journal
unfolding Keeps Leads
Keeps-bind P Q by (Done a) f journal k l g = g a journal l
Keeps-bind P Q by (Ask op next) f journal k l g = (k.0, λ reply new m. Keeps-bind P Q by (next reply) f new (k.1 reply new m) (l reply new m) g)

pub Leads-bind : {A B : Type 0} (Q : A → List Event → Type 0) (R : B → List Event → Type 0) (by : Caller) (p : Prog A) (f : A → Prog B) (journal : List Event) → Leads Q by p journal → ((a : A) (h : List Event) → Q a h → Leads R by (f a) h) → Leads R by (bind p f) journal
unfolding Leads
Leads-bind Q R by (Done a) f journal l g = g a journal l
Leads-bind Q R by (Ask op next) f journal l g = λ reply new m. Leads-bind Q R by (next reply) f new (l reply new m) g

-- ---- what holds of an answer
-- it is kept by more good events
abbrev pub IsKept : {A : Type 0} → (A → List Event → Type 0) → Type 0
IsKept {A} Q = (a : A) (journal more : List Event) → Each IsGood journal more → Q a journal → Q a (journal ++ more)

pub Leads-waits : {A : Type 0} (Q : A → List Event → Type 0) → IsKept Q → (by : Caller) (p : Prog A) (old new : List Event) → Waits by old new → Leads Q by p old → Leads Q by p new
unfolding Leads
Leads-waits Q s by (Done a) old new w k = subst (λ (h : List Event). Q a h) (sym w.is) (s a old w.between (good-waits by old w.between w.others) k)
Leads-waits Q s by (Ask op f) old new w k = λ reply next m. k reply next (Makes-waits by op reply old new next w m)

pub Leads-asks : {A : Type 0} (Q : A → List Event → Type 0) (by : Caller) (old new : List Event) (op : Op) (next : Reply → Prog A) (reply : Reply) → Makes by op reply old new → Leads Q by (Ask op next) old → Leads Q by (next reply) new
unfolding Leads
Leads-asks Q by old new op next reply m k = k reply new m

pub Leads-done : {A : Type 0} (Q : A → List Event → Type 0) (by : Caller) (a : A) (journal : List Event) → Leads Q by (Done a) journal → Q a journal
unfolding Leads
Leads-done Q by a journal l = l

pub Leads-weaker : {A : Type 0} (Q R : A → List Event → Type 0) → ((a : A) (journal : List Event) → Q a journal → R a journal) → (by : Caller) (p : Prog A) (journal : List Event) → Leads Q by p journal → Leads R by p journal
unfolding Leads
Leads-weaker Q R f by (Done a) journal l = f a journal l
Leads-weaker Q R f by (Ask op g) journal l = λ reply new m. Leads-weaker Q R f by (g reply) new (l reply new m)

-- ---- a step
Keeps-lands : {T : Type 0} (P : List Event → ℕ → Op → Type 0) (by : Caller) (next q : Prog (Result T Refusal)) (new : List Event) (result : Result (Next T) Refusal) → Lands next q result → Keeps P by next new → Keeps P by q new
Keeps-lands P by next q new (Ok Again) l k = subst (λ (x : Prog _). Keeps P by x new) l.0 k
Keeps-lands P by next q new (Ok (Ready t)) l k = Keeps-done P by q new l.1
Keeps-lands P by next q new (Err refusal) l k = Keeps-done P by q new l.0

-- a step keeps what holds of each operation to come
pub Keeps-steps : {T : Type 0} (P : List Event → ℕ → Op → Type 0) (old new : View) (p q : Prog (Result T Refusal)) (result : Result (Next T) Refusal) → IsTrue old.caller.tells → Steps old new p q result → Keeps P old.caller p old.seen → Keeps P old.caller q new.seen
Keeps-steps P old new p q result t s k = elim s.went [
  | inl m ↦ Keeps-lands P old.caller (m.next m.reply) q new.seen result m.lands (Keeps-asks P old.caller old.seen new.seen m.op m.next m.reply (m.made t) (subst (λ (x : Prog _). Keeps P old.caller x old.seen) m.asks k))
  | inr n ↦ Keeps-done P old.caller q new.seen n.ended
]

-- an operation that moves no branch is told surely where it failed
pub told-failed : (op : Op) (reply : Reply) → moves_branch op ≡ false → is_told_surely op reply ≡ has_failed reply
told-failed op reply e = rw e refl

-- a step after an answer of the store
pub Steps-answer : {T A : Type 0} (wrap : A → Reply) (op : Op) (answer : A) (old new : View) (next : Reply → Prog (Result T Refusal)) (q : Prog (Result T Refusal)) (result : Result (Next T) Refusal) → Fits op (wrap answer) → Called wrap op (Ok answer) old new → ((r : Refusal) → result ≡ Err r → is_fault r ≡ false) → Lands (next (wrap answer)) q result → (is_told_surely op (wrap answer) ≡ true → IsSure (next (wrap answer)) result) → Steps old new (Ask op next) q result
Steps-answer {T} wrap op answer old new next q result fits c f l s = record {
  same = c.same;
  blames = blamed result f;
  went = inl (record { op = op; next = next; reply = wrap answer; asks = refl; fits = fits; made = c.did; lands = l; sure = s });
}
  where
    blamed : (r : Result (Next T) Refusal) → ((x : Refusal) → r ≡ Err x → is_fault x ≡ false) → Blames r old.faults new.faults
    blamed (Ok t) g = c.counted
    blamed (Err x) g = (c.counted, λ y. let n = g x refl in cc)

pub made-done : {A : Type 0} (wrap : A → Reply) (by : Caller) (op : Op) (old new : List Event) (tells : Bool) → (IsTrue tells → Did wrap by op (Err Store_failed) old new) → (done : Bool) × (IsTrue tells → Makes by op (Failed done) old new)
made-done wrap by op old new true c = let m = c refl in (m.0, λ t. m.1)
made-done wrap by op old new false c = (false, λ t. cc)

-- a step for which there was no memory before its operation
pub Steps-none : {T : Type 0} (old : View) (p q : Prog (Result T Refusal)) → IsDone q → Steps old old p q (Err NoMemory)
Steps-none old p q d = record { same = refl; blames = (omega arith, λ y. cc); went = inr (record { result_is = refl; waits = λ t. Waits-none old.caller old.seen; ended = d }) }

-- ---- paths
pub Path-append : {A : Type 0} (p q r : Prog A) (xs ys : List Event) → Path p xs q → Path q ys r → Path p (xs ++ ys) r
unfolding Path
Path-append p q r [] ys a b = rw a b
Path-append (Done c) q r (x ∷ xs) ys a b = absurd a
Path-append (Ask op k) q r (x ∷ xs) ys a b = (a.0, Path-append (k x.reply) q r xs ys a.1 b)

pub Path-one : {A : Type 0} (op : Op) (next : Reply → Prog A) (event : Event) → event.op ≡ op → Path (Ask op next) (event ∷ []) (next event.reply)
unfolding Path
Path-one op next event e = (e, refl)

pub Path-none : {A : Type 0} (p : Prog A) → Path p [] p
unfolding Path
Path-none p = refl

-- ---- who made the events
-- others' events are none of the caller's
pub events_of-others : (by : Caller) (old xs : List Event) → Each (IsOther by) old xs → events_of by.number xs ≡ []
unfolding Each
events_of-others by old [] e = refl
events_of-others by old (x ∷ xs) e = rw (ne_eqb x.client by.number e.0.other) (events_of-others by (old ++ x ∷ []) xs e.1)

pub own-one : (client : ℕ) (event : Event) → event.client ≡ client → events_of client (event ∷ []) ≡ event ∷ []
own-one client event e = rw (eq-eqb event.client client e)

-- what a call adds, where its operation was polite on what was known before it
pub Grows-makes : (by : Caller) (op : Op) (reply : Reply) (old new : List Event) → IsPolite old op → (m : Makes by op reply old new) → Grows by.number (own_event by op reply m.time ∷ []) old new
Grows-makes by op reply old new p m =
    let event : Event = own_event by op reply m.time in
    let between = m.waits.between in
    let polite : IsPolite m.middle op = subst (λ (h : List Event). IsPolite h op) (sym m.waits.is) (IsPolite-append old between op (good-waits by old between m.waits.others) p) in
    let last : Each IsGood (old ++ between) (event ∷ []) = subst (λ (h : List Event). Each IsGood h (event ∷ [])) m.waits.is (Each-one IsGood m.middle event (record { legal = m.answered; polite = polite })) in
    record {
      more = between ++ event ∷ [];
      is = m.is ∙ (ap (λ (h : List Event). h ++ event ∷ []) m.waits.is ∙ append_assoc old between (event ∷ []));
      good = Each-append IsGood old between (event ∷ []) (good-waits by old between m.waits.others) last;
      owned = filter-append (λ e. e.client == by.number) between (event ∷ []) ∙ rw (events_of-others by old between m.waits.others) (own-one by.number event refl);
    }

-- ---- callers
zero-le : (n : ℕ) → nat_le 0 n ≡ true
zero-le n = grind (arith, nat_tests)

-- a caller that has every number is alone
pub has-all : (by : Caller) → HasAll by → (n : ℕ) → owns by n ≡ true
has-all by all n = rw (all.low, all.end) (rw (zero-le n) refl)

pub alone : (by : Caller) (old xs : List Event) → HasAll by → Each (IsOther by) old xs → xs ≡ []
unfolding Each
alone by old [] all e = refl
alone by old (x ∷ xs) all e = let no_other = e.0.not_owned in let all_own = has-all by all x.client in cc

-- the same caller, who has fewer numbers
abbrev pub Fewer : Caller → Caller → Type 0
Fewer by to = (to.number ≡ by.number) × ((n : ℕ) → owns by n ≡ false → owns to n ≡ false)

pub Waits-fewer : (by to : Caller) → Fewer by to → (old new : List Event) → Waits by old new → Waits to old new
Waits-fewer by to f old new w = record {
  between = w.between;
  others = Each-weaker (IsOther by) (IsOther to) (λ h e o. record { good = o.good; other = λ k. o.other (k ∙ f.0); not_owned = f.1 e.client o.not_owned }) old w.between w.others;
  is = w.is;
}

pub Makes-fewer : (by to : Caller) → Fewer by to → (op : Op) (reply : Reply) (old new : List Event) → Makes by op reply old new → Makes to op reply old new
Makes-fewer by to f op reply old new m =
    let same : (t : ℕ) → own_event by op reply t ≡ own_event to op reply t = λ t. ap (λ (k : ℕ). record { client = k; op = op; reply = reply; time = t }) (sym f.0) in
    record {
      middle = m.middle;
      time = m.time;
      waits = Waits-fewer by to f old m.middle m.waits;
      answered = subst (λ (e : Event). IsAnswered m.middle e) (same m.time) m.answered;
      is = m.is ∙ ap (λ (e : Event). m.middle ++ e ∷ []) (same m.time);
    }
