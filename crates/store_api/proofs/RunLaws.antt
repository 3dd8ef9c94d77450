-- Laws of what was run.
use Rattle.std.proofs.Common.{◌≡◌, ℕ, ◌≤◌, ◌⊎◌, inl, inr, Bool, true, false, List, [], ◌∷◌, ◌++◌, refl, sym, ◌∙◌, ap, subst, append_assoc, append-nil, arith}
use Rattle.std.specs.Prelude.{◌==◌, IsTrue, Result, Ok, Err}
use Rattle.std.proofs.lemmas.List.Elements.{filter-append, All-nil, All-cons}
use Rattle.ice_base.specs.Ends.{Rose}
use Rattle.object_store.specs.declared.events.Op.{Op}
use Rattle.object_store.specs.declared.events.Reply.{Reply}
use Rattle.object_store.specs.declared.events.Event.{Event}
use Rattle.store_api.specs.declared.machines.Next.{Next}
use Rattle.store_api.specs.declared.machines.Next.TheVariants.{Again, Ready}
use Rattle.store_api.specs.declared.machines.Refusal.{Refusal}
use Rattle.store_api.specs.declared.machines.Refusal.TheVariants.{NoMemory}
use Rattle.object_store.specs.Machine.{IsAnswered}
use Rattle.store_api.specs.Journal.{Each, IsPolite, IsGood}
use Rattle.store_api.specs.Callers.{Caller, View, Waits, Makes, HasAll, Fits, own_event}
use Rattle.store_api.specs.Program.{Prog, Done, Ask, IsAsk, Path, Grows, Steps, Lands, IsSure, NextIsPolite, Keeps, is_told_surely, is_no_memory, is_fault}
use Rattle.store_api.specs.Running.{Program, IsCutOff, Adds, Runs, StaysPolite, ends_surely}
use Rattle.object_store.proofs.Journals.{Each-append, Each-none, Each-one}
use Rattle.store_api.proofs.Programs.{alone, Grows-makes, good-waits, events_of-others, Path-one, Path-none, Keeps-steps}

-- ---- journals that grow
Grows-waits : (by : Caller) (old new : List Event) → Waits by old new → Grows by.number [] old new
Grows-waits by old new w = record { more = w.between; is = w.is; good = good-waits by old w.between w.others; owned = events_of-others by old w.between w.others }

Grows-append : (client : ℕ) (xs ys : List Event) (a b c : List Event) → Grows client xs a b → Grows client ys b c → Grows client (xs ++ ys) a c
Grows-append client xs ys a b c g h = record {
  more = g.more ++ h.more;
  is = h.is ∙ (ap (λ (j : List Event). j ++ h.more) g.is ∙ append_assoc a g.more h.more);
  good = Each-append IsGood a g.more h.more g.good (subst (λ (j : List Event). Each IsGood j h.more) g.is h.good);
  owned = filter-append (λ e. e.client == client) g.more h.more ∙ rw (g.owned, h.owned) refl;
}

-- ---- nobody else
Adds-none : (journal : List Event) → Adds [] journal journal
Adds-none journal = record { is = sym (append-nil journal); good = Each-none IsGood journal }

Waits-alone : (by : Caller) (old new : List Event) → HasAll by → Waits by old new → new ≡ old
Waits-alone by old new all w = w.is ∙ rw (alone by old w.between all w.others) (append-nil old)

Adds-waits : (by : Caller) (old new : List Event) → Waits by old new → HasAll by → Adds [] old new
Adds-waits by old new w all = subst (λ (j : List Event). Adds [] old j) (sym (Waits-alone by old new all w)) (Adds-none old)

Adds-makes : (by : Caller) (op : Op) (reply : Reply) (old new : List Event) → IsPolite old op → (m : Makes by op reply old new) → HasAll by → Adds (own_event by op reply m.time ∷ []) old new
Adds-makes by op reply old new p m all =
    let event : Event = own_event by op reply m.time in
    let same = Waits-alone by old m.middle all m.waits in
    record {
      is = m.is ∙ ap (λ (h : List Event). h ++ event ∷ []) same;
      good = Each-one IsGood old event (record { legal = subst (λ (h : List Event). IsAnswered h event) same m.answered; polite = p });
    }

Adds-append : (xs ys : List Event) (a b c : List Event) → Adds xs a b → Adds ys b c → Adds (xs ++ ys) a c
Adds-append xs ys a b c g h = record {
  is = h.is ∙ (ap (λ (j : List Event). j ++ ys) g.is ∙ append_assoc a xs ys);
  good = Each-append IsGood a xs ys g.good (subst (λ (j : List Event). Each IsGood j ys) g.is h.good);
}

-- ---- paths
-- one event, and then a path
Path-cons : {A : Type 0} (op : Op) (next : Reply → Prog A) (event : Event) (q r : Prog A) (xs : List Event) → event.op ≡ op → next event.reply ≡ q → Path q xs r → Path (Ask op next) (event ∷ xs) r
unfolding Path
Path-cons op next event q r xs e n path = (e, subst (λ (x : Prog _). Path x xs r) (sym n) path)

-- where a path without events leads
Path-end : {A : Type 0} (p q : Prog A) → Path p [] q → p ≡ q
unfolding Path
Path-end p q path = path

-- ---- small facts
err-same : {A : Type 0} (p q : Refusal) → ◌≡◌ {A = Result A Refusal} (Err p) (Err q) → p ≡ q
err-same p q e = cc

memory-cases : (r : Refusal) → (r ≡ NoMemory) ⊎ (is_no_memory r ≡ false)
memory-cases NoMemory = inl refl
memory-cases _ = inr refl

Rose-later : (a b c : ℕ) → a ≤ b → Rose b c → Rose a c
Rose-later a b c l r = (omega (arith, l, r.0), elim r.1 [ inl s ↦ inl (omega (arith, l, s)) | inr e ↦ inr e ])

next-polite : {A : Type 0} (by : Caller) (p : Prog A) (journal : List Event) → StaysPolite by p journal → NextIsPolite p journal
unfolding Keeps
next-polite by (Done a) journal k = tt
next-polite by (Ask op next) journal k = k.0

-- what comes next is polite, where it is told
pub polite-now : {A : Type 0} (view : View) (p : Prog A) → (IsTrue view.caller.tells → StaysPolite view.caller p view.seen) → IsTrue view.caller.tells → NextIsPolite p view.seen
polite-now view p k t = next-polite view.caller p view.seen (k t)

-- a step keeps it
pub polite-steps : {T : Type 0} (old new : View) (p q : Program T) (result : Result (Next T) Refusal) → Steps old new p q result → (IsTrue old.caller.tells → StaysPolite old.caller p old.seen) → IsTrue new.caller.tells → StaysPolite new.caller q new.seen
polite-steps old new p q result s k t =
    let told : IsTrue old.caller.tells = subst (λ (c : Caller). IsTrue c.tells) s.same t in
    subst (λ (c : Caller). StaysPolite c q new.seen) (sym s.same) (Keeps-steps (λ known client op. IsPolite known op) old new p q result told s (k told))

-- ---- the event of a step
-- the caller's own event, whatever the store tells
record Made (by : Caller) (tells : Bool) (op : Op) (reply : Reply) (old new : List Event) : Type 0 where
  pub event : Event
  pub op_is : event.op ≡ op
  pub reply_is : event.reply ≡ reply
  pub grows : IsTrue tells → Grows by.number (event ∷ []) old new
  pub adds : IsTrue tells → HasAll by → Adds (event ∷ []) old new

made : (by : Caller) (tells : Bool) (op : Op) (reply : Reply) (old new : List Event) → (IsTrue tells → IsPolite old op) → (IsTrue tells → Makes by op reply old new) → Made by tells op reply old new
made by true op reply old new p m =
    let makes = m refl in
    record { event = own_event by op reply makes.time; op_is = refl; reply_is = refl; grows = λ t. Grows-makes by op reply old new (p refl) makes; adds = λ t. Adds-makes by op reply old new (p refl) makes }
made by false op reply old new p m = record { event = own_event by op reply 0; op_is = refl; reply_is = refl; grows = λ t. cc; adds = λ t. cc }

made-fits : (by : Caller) (tells : Bool) (op : Op) (reply : Reply) (old new : List Event) (m : Made by tells op reply old new) → Fits op reply → Fits m.event.op m.event.reply
made-fits by tells op reply old new m f = subst (λ (o : Op). Fits o m.event.reply) (sym m.op_is) (subst (λ (r : Reply). Fits op r) (sym m.reply_is) f)

-- ---- a step, and then a run
-- what was cut off later
cut-later : {T : Type 0} (op : Op) (next : Reply → Program T) (event : Event) (q : Program T) (own : List Event) (result : Result T Refusal) → event.op ≡ op → next event.reply ≡ q → IsAsk q → IsCutOff q own result → IsCutOff (Ask op next) (event ∷ own) result
cut-later {T} op next event q own result o n live cut = record { result_is = cut.result_is; left = cut.left; path = Path-cons op next event q cut.left own o n cut.path; sure = sure own cut.path cut.sure }
  where
    sure : (events : List Event) → Path q events cut.left → (IsTrue (ends_surely events) → IsAsk cut.left) → IsTrue (ends_surely (event ∷ events)) → IsAsk cut.left
    sure [] path s surely = subst (λ (x : Prog (Result T Refusal)). IsAsk x) (Path-end q cut.left path) live
    sure (x ∷ xs) path s surely = s surely

module _ {T : Type 0} (u v : View) (op : Op) (next : Reply → Program T) (reply : Reply) (fits : Fits op reply) (m : Made u.caller u.caller.tells op reply u.seen v.seen) (same : v.caller ≡ u.caller) (faults : u.faults ≤ v.faults) where
  later : (w : View) (q : Program T) (result : Result T Refusal) → next reply ≡ q → IsAsk q → Runs v w q result → Runs u w (Ask op next) result
  later w q result e live r =
      let n : next m.event.reply ≡ q = ap next m.reply_is ∙ e in
      let told : IsTrue u.caller.tells → IsTrue v.caller.tells = λ t. subst (λ (c : Caller). IsTrue c.tells) (sym same) t in
      record {
        same = r.same ∙ same;
        faults = omega (arith, faults, r.faults);
        blames = λ why x f. Rose-later u.faults v.faults w.faults faults (r.blames why x f);
        own = m.event ∷ r.own;
        fits = All-cons (λ event. Fits event.op event.reply) m.event r.own (made-fits u.caller u.caller.tells op reply u.seen v.seen m fits) r.fits;
        ends = elim r.ends [
          | inl path ↦ inl (Path-cons op next m.event q (Done result) r.own m.op_is n path)
          | inr cut ↦ inr (cut-later op next m.event q r.own result m.op_is n live cut)
        ];
        grows = λ t. Grows-append u.caller.number (m.event ∷ []) r.own u.seen v.seen w.seen (m.grows t) (subst (λ (c : Caller). Grows c.number r.own v.seen w.seen) same (r.grows (told t)));
        alone = λ t all. Adds-append (m.event ∷ []) r.own u.seen v.seen w.seen (m.adds t all) (r.alone (told t) (subst HasAll (sym same) all));
      }

  -- one event was the whole run
  once : (result : Result T Refusal) → ((why : Refusal) → result ≡ Err why → is_fault why ≡ true → Rose u.faults v.faults) → (Path (Ask op next) (m.event ∷ []) (Done result) ⊎ IsCutOff (Ask op next) (m.event ∷ []) result) → Runs u v (Ask op next) result
  once result blames ends = record {
    same = same;
    faults = faults;
    blames = blames;
    own = m.event ∷ [];
    fits = All-cons (λ event. Fits event.op event.reply) m.event [] (made-fits u.caller u.caller.tells op reply u.seen v.seen m fits) (All-nil (λ event. Fits event.op event.reply));
    ends = ends;
    grows = m.grows;
    alone = m.adds;
  }

  done : (result : Result T Refusal) → next reply ≡ Done result → Path (Ask op next) (m.event ∷ []) (Done result)
  done result e = Path-cons op next m.event (Done result) (Done result) [] m.op_is (ap next m.reply_is ∙ e) (Path-none (Done result))

  -- where memory ran out behind the operation
  starved : (surely : Bool) → is_told_surely op reply ≡ surely → (surely ≡ true → IsSure {T = T} (next reply) (Err NoMemory)) → Path (Ask op next) (m.event ∷ []) (Done (Err NoMemory)) ⊎ IsCutOff (Ask op next) (m.event ∷ []) (Err NoMemory)
  starved true e sure = inl (done (Err NoMemory) (sure refl))
  starved false e sure = inr (record { result_is = refl; left = next m.event.reply; path = Path-one op next m.event m.op_is; sure = λ surely. let same : is_told_surely m.event.op m.event.reply ≡ is_told_surely op reply = λ i. is_told_surely (m.op_is i) (m.reply_is i) in let no = same ∙ e in cc })

  refused : (q : Program T) (refusal : Refusal) → (is_fault refusal ≡ true → Rose u.faults v.faults) → Lands {T = T} (next reply) q (Err refusal) → (is_told_surely op reply ≡ true → IsSure {T = T} (next reply) (Err refusal)) → Runs u v (Ask op next) (Err refusal)
  refused q refusal blames lands sure = once (Err refusal) (λ why e f. blames (ap is_fault (err-same refusal why e) ∙ f)) (elim (memory-cases refusal) [
    | inl none ↦
        subst (λ (r : Refusal). Path (Ask op next) (m.event ∷ []) (Done (Err r)) ⊎ IsCutOff (Ask op next) (m.event ∷ []) (Err r)) (sym none)
        (starved (is_told_surely op reply) refl (λ o. subst (λ (r : Refusal). IsSure {T = T} (next reply) (Err r)) none (sure o)))
    | inr other ↦ inl (done (Err refusal) (lands.1 other))
  ])

-- no operation was made
Runs-stops : {T : Type 0} (u v : View) (p : Program T) (refusal : Refusal) → refusal ≡ NoMemory → v.caller ≡ u.caller → u.faults ≤ v.faults → (IsTrue u.caller.tells → Waits u.caller u.seen v.seen) → Runs u v p (Err refusal)
Runs-stops u v p refusal none same faults waits = record {
  same = same;
  faults = faults;
  blames = λ why e f. let no : is_fault NoMemory ≡ true = ap is_fault (sym none ∙ err-same refusal why e) ∙ f in cc;
  own = [];
  fits = All-nil (λ event. Fits event.op event.reply);
  ends = inr (record { result_is = ap (λ (r : Refusal). Err r) none; left = p; path = Path-none p; sure = λ surely. cc });
  grows = λ t. Grows-waits u.caller u.seen v.seen (waits t);
  alone = λ t. Adds-waits u.caller u.seen v.seen (waits t);
}

-- ---- a step of a machine
module _ {T : Type 0} (u v : View) (p q : Program T) (polite : IsTrue u.caller.tells → NextIsPolite p u.seen) where
  made-by : (result : Result (Next T) Refusal) (op : Op) (next : Reply → Program T) (reply : Reply) → p ≡ Ask op next → (IsTrue u.caller.tells → Makes u.caller op reply u.seen v.seen) → Made u.caller u.caller.tells op reply u.seen v.seen
  made-by result op next reply e m = made u.caller u.caller.tells op reply u.seen v.seen (λ t. subst (λ (x : Prog _). NextIsPolite x u.seen) e (polite t)) m

  -- it goes on, and the rest is run
  pub Runs-again : (w : View) (result : Result T Refusal) → Steps u v p q (Ok Again) → Runs v w q result → Runs u w p result
  Runs-again w result s r = elim s.went [
    | inl m ↦
        subst (λ (x : Program T). Runs u w x result) (sym m.asks)
        (later u v m.op m.next m.reply m.fits (made-by (Ok Again) m.op m.next m.reply m.asks m.made) s.same s.blames w q result m.lands.0 m.lands.1 r)
    | inr n ↦ let no = n.result_is in absurd cc
  ]

  -- it answers
  pub Runs-ready : (answer : T) → Steps u v p q (Ok (Ready answer)) → Runs u v p (Ok answer)
  Runs-ready answer s = elim s.went [
    | inl m ↦
        let event = made-by (Ok (Ready answer)) m.op m.next m.reply m.asks m.made in
        subst (λ (x : Program T). Runs u v x (Ok answer)) (sym m.asks)
        (once u v m.op m.next m.reply m.fits event s.same s.blames (Ok answer) (λ why e f. cc) (inl (done u v m.op m.next m.reply m.fits event s.same s.blames (Ok answer) m.lands.0)))
    | inr n ↦ let no = n.result_is in absurd cc
  ]

  -- it is refused
  pub Runs-refused : (refusal : Refusal) → Steps u v p q (Err refusal) → Runs u v p (Err refusal)
  Runs-refused refusal s = elim s.went [
    | inl m ↦
        subst (λ (x : Program T). Runs u v x (Err refusal)) (sym m.asks)
        (refused u v m.op m.next m.reply m.fits (made-by (Err refusal) m.op m.next m.reply m.asks m.made) s.same s.blames.0 q refusal s.blames.1 m.lands m.sure)
    | inr n ↦ Runs-stops u v p refusal (err-same refusal NoMemory n.result_is) s.same s.blames.0 n.waits
  ]

-- whatever a run of what is left comes to, the whole comes to
abbrev pub ComesTo : {T : Type 0} → View → Program T → View → Program T → Type 0
ComesTo {T} u p v q = (w : View) (result : Result T Refusal) → Runs v w q result → Runs u w p result

-- where a machine stands that is run
pub record Stands {T : Type 0} (u : View) (p : Program T) (v : View) (q : Program T) : Type 0 where
  pub live : IsAsk q
  pub polite : IsTrue v.caller.tells → StaysPolite v.caller q v.seen
  pub comes : ComesTo u p v q

live-after : {T : Type 0} (u v : View) (p q : Program T) → Steps u v p q (Ok Again) → IsAsk q
live-after u v p q s = elim s.went [ inl m ↦ m.lands.1 | inr n ↦ let no = n.result_is in absurd cc ]

module _ {T : Type 0} (u : View) (p : Program T) (v : View) (q : Program T) (s : Stands u p v q) (w : View) (r : Program T) where
  pub stands-again : (next : Next T) → next ≡ Again → Steps v w q r (Ok next) → Stands u p w r
  stands-again next e steps =
      let step : Steps v w q r (Ok Again) = subst (λ (n : Next T). Steps v w q r (Ok n)) e steps in
      record {
        live = live-after v w q r step;
        polite = polite-steps v w q r (Ok Again) step s.polite;
        comes = λ x result runs. s.comes x result (Runs-again v w q r (polite-now v q s.polite) x result step runs);
      }

  pub stands-ready : (answer : T) (next : Next T) → next ≡ Ready answer → Steps v w q r (Ok next) → Runs u w p (Ok answer)
  stands-ready answer next e steps =
      s.comes w (Ok answer) (Runs-ready v w q r (polite-now v q s.polite) answer (subst (λ (n : Next T). Steps v w q r (Ok n)) e steps))

  pub stands-refused : (refusal : Refusal) → Steps v w q r (Err refusal) → Runs u w p (Err refusal)
  stands-refused refusal step = s.comes w (Err refusal) (Runs-refused v w q r (polite-now v q s.polite) refusal step)

-- ---- a run over a store that tells its journal
-- the client's own events among those that came
pub record Ran {A : Type 0} (by : Caller) (p : Program A) (result : Result A Refusal) (old new : List Event) : Type 0 where
  pub own : List Event
  pub grows : Grows by.number own old new
  pub alone : HasAll by → Adds own old new
  pub ends : Path p own (Done result) ⊎ IsCutOff p own result

pub ran-told : {A : Type 0} (old new : View) (p : Program A) (result : Result A Refusal) → Runs old new p result → IsTrue old.caller.tells → Ran old.caller p result old.seen new.seen
ran-told old new p result r t = record { own = r.own; grows = r.grows t; alone = r.alone t; ends = r.ends }
