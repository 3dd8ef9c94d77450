-- Steps of one worker among others.
use Rattle.std.proofs.Common.{◌≡◌, inl, inr, ℕ, ◌+◌, ◌≤◌, Bool, true, false, List, [], ◌∷◌, ◌++◌, refl, sym, ◌∙◌, ap, subst, append-nil, append_assoc, arith}
use Rattle.std.specs.Prelude.{IsTrue, ◌==◌}
use Rattle.std.proofs.lemmas.List.Elements.{All-nil, All-cons, All-append, filter-append}
use Rattle.ice_ids.specs.declared.drawing.Draw.{Draw}
use Rattle.object_store.specs.declared.events.Op.{Op}
use Rattle.object_store.specs.declared.events.Reply.{Reply}
use Rattle.object_store.specs.declared.events.Event.{Event}
use Rattle.object_store.specs.Machine.{IsAnswered}
use Rattle.store_api.specs.Journal.{Each, IsGood}
use Rattle.store_api.specs.Callers.{Caller, View, Waits, Makes, IsOther, own_event, owns, only}
use Rattle.store_api.specs.Program.{events_of}
use Rattle.store_api.specs.Plays.{Play, Ask, PlayIsPolite, Acts, Acted, Starved}
use Rattle.object_store.proofs.Journals.{Each-one, Each-none, Each-append, Each-weaker}
use Rattle.store_api.proofs.Programs.{Waits-fewer, Fewer, events_of-others, own-one}
use Rattle.store_api.proofs.PlayLaws.{PlayKeeps-acts, PlayKeeps-waits, PlayLeads-acts}
use Rattle.play_script.specs.declared.scripts.Task.{Task}
use Rattle.play_outcome.specs.declared.outcome.Outcome.{Outcome}
use Rattle.play_outcome.specs.Ending.{is_failed}
use Rattle.play_tasks.specs.Owing.{IsDue, BeforeChange}
use Rattle.play_tasks.specs.Tasks.{ids_at, TellsAt, Stands}
use Rattle.play_tasks.specs.Played.{PlaysTo}
use Rattle.play_tasks.specs.Laws.{OutcomeLaw}
use Rattle.play_tasks.proofs.Paths.{PlaysTo-comes, PlaysTo-asked, PlaysTo-starved}
use Rattle.play_tasks.proofs.Others.{TellsOutcome-waits}
use Rattle.play_run.proofs.Turning.{time_of, seen_by, Acts-fewer, only-other, PlayKeeps-now, Keeps-polite, careful-waits, careful-acts, Before, stable-before, doomed_by}
use Rattle.play_at_once.specs.inside.Stepping.{IsClientAt, CanStep, Blames, IsKnown, IsAt, Tells, Went}

-- ---- a client with one number among those that its caller owns
fewer : (tells : Bool) (place : ℕ) (by : Caller) → IsClientAt place by → Fewer by (only tells (place + 1))
fewer tells place by c = (sym c.number, λ n out. only-other tells place n (λ same. differ n out same))
  where
    differ : (n : ℕ) → owns by n ≡ false → n ≡ place + 1 → ⊥
    differ n out same = let own = c.own in let here : owns by (place + 1) ≡ false = subst (λ (k : ℕ). owns by k ≡ false) same out in cc

-- the worker stands as before, whatever others did in between
pub Stands-acts : OutcomeLaw → (draw : Draw) (tasks : List Task) (start : List Event) (place : ℕ) (old new : View) (p q : Play Outcome) → IsClientAt place old.caller → IsTrue old.caller.tells → Acts is_failed old new p q
    → Stands draw tasks start old.caller.tells place p old.seen → Stands draw tasks start old.caller.tells place q new.seen
Stands-acts law draw tasks start place old new p q c told acts s =
    let to : Caller = only old.caller.tells (place + 1) in
    let less = Acts-fewer old.caller to (fewer old.caller.tells place old.caller c) refl old new p q refl acts in
    record {
      task = s.task;
      at = s.at;
      careful = careful-acts (ids_at draw place) s.task start old.caller.tells place (seen_by to old) (seen_by to new) p q refl told less s.careful;
      before = PlayKeeps-acts (Before s.task start) (stable-before s.task start) is_failed (seen_by to old) (seen_by to new) p q told less s.before;
      leads = PlayLeads-acts (TellsAt draw place s.task start) is_failed (seen_by to old) (seen_by to new) p q (TellsOutcome-waits law to (ids_at draw place) s.task start) told less s.leads;
    }

-- ---- what a step made
record MakesAt (by : Caller) (op : Op) (reply : Reply) (time : ℕ) (old new : List Event) : Type 0 where
  pub middle : List Event
  pub waits : Waits by old middle
  pub answered : IsAnswered middle (own_event by op reply time)
  pub is : new ≡ middle ++ own_event by op reply time ∷ []

MakesAt-made : (tells : Bool) (by : Caller) (op : Op) (reply : Reply) (old new : List Event) (made : IsTrue tells → Makes by op reply old new) → IsTrue tells → MakesAt by op reply (time_of tells by op reply old new made) old new
MakesAt-made true by op reply old new made told = let m = made refl in record { middle = m.middle; waits = m.waits; answered = m.answered; is = m.is }
MakesAt-made false by op reply old new made told = absurd (cc)

module _ (draw : Draw) (tasks : List Task) (start : List Event) (by : Caller) where
  abbrev Mine : ℕ → Type 0
  Mine n = owns by n ≡ true

  abbrev Known : List Event → Event → Type 0
  Known = IsKnown draw tasks start Mine

  -- others' events
  known-others : (old between : List Event) → Each (IsOther by) old between → Each Known old between
  known-others old between others = Each-weaker (IsOther by) Known (λ h e o. record { good = o.good; mine = λ own. absurd (both (owns by e.client) own o.not_owned) }) old between others
    where
      both : (b : Bool) → b ≡ true → b ≡ false → ⊥
      both b t f = cc

  -- while it waits
  Tells-waits : (place : ℕ) (old new : List Event) → by.number ≡ place + 1 → Waits by old new → Tells draw tasks start Mine place [] old new
  Tells-waits place old new number w = record {
    more = w.between;
    is = w.is;
    known = known-others old w.between w.others;
    alike = subst (λ (n : ℕ). events_of n w.between ≡ []) number (events_of-others by old w.between w.others);
  }

  -- by its own event
  Tells-makes : (place : ℕ) (op : Op) (starved : Play Outcome) (next : Reply → Play Outcome) (reply : Reply) (time : ℕ) (p : Play Outcome) (old new : List Event) → IsClientAt place by → p ≡ Ask op starved next → Stands draw tasks start by.tells place p old → MakesAt by op reply time old new
      → Tells draw tasks start Mine place (own_event by op reply time ∷ []) old new
  Tells-makes place op starved next reply time p old new c asks s m =
      let event : Event = own_event by op reply time in
      let to : Caller = only by.tells (place + 1) in
      let careful = careful-waits (ids_at draw place) s.task start by.tells place p old m.middle (Waits-fewer by to (fewer by.tells place by c) old m.middle m.waits) s.careful in
      let owed : IsDue (ids_at draw place) s.task (place + 1) start m.middle (place + 1) op = PlayKeeps-now (IsDue (ids_at draw place) s.task (place + 1) start) to op starved next p m.middle asks careful in
      let before = PlayKeeps-waits (Before s.task start) (stable-before s.task start) to p old m.middle (Waits-fewer by to (fewer by.tells place by c) old m.middle m.waits) s.before in
      let early : BeforeChange s.task (place + 1) start m.middle op = PlayKeeps-now (Before s.task start) to op starved next p m.middle asks before in
      let good : IsGood m.middle event = record { legal = m.answered; polite = owed.polite } in
      let own : Known m.middle event = record { good = good; mine = λ is. record { place = place; task = s.task; client = c.number; at = s.at; careful = record { good = good; owes = owed.owes; own = owed.own; open_at = owed.open_at }; before = early } } in
      let none : events_of (place + 1) m.waits.between ≡ [] = subst (λ (n : ℕ). events_of n m.waits.between ≡ []) c.number (events_of-others by old m.waits.between m.waits.others) in
      record {
        more = m.waits.between ++ event ∷ [];
        is = m.is ∙ (ap (λ (h : List Event). h ++ event ∷ []) m.waits.is ∙ append_assoc old m.waits.between (event ∷ []));
        known = Each-append Known old m.waits.between (event ∷ []) (known-others old m.waits.between m.waits.others) (Each-one Known (old ++ m.waits.between) event (subst (λ (h : List Event). Known h event) m.waits.is own));
        alike = filter-append (λ e. e.client == place + 1) m.waits.between (event ∷ []) ∙ ap (λ (xs : List Event). xs ++ events_of (place + 1) (event ∷ [])) none ∙ own-one (place + 1) event c.number;
      }

  -- one journal after another
  Tells-trans : (place : ℕ) (xs ys a b c : List Event) → Tells draw tasks start Mine place xs a b → Tells draw tasks start Mine place ys b c → Tells draw tasks start Mine place (xs ++ ys) a c
  Tells-trans place xs ys a b c v w = record {
    more = v.more ++ w.more;
    is = w.is ∙ (ap (λ (h : List Event). h ++ w.more) v.is ∙ append_assoc a v.more w.more);
    known = Each-append Known a v.more w.more v.known (subst (λ (h : List Event). Each Known h w.more) v.is w.known);
    alike = filter-append (λ e. e.client == place + 1) v.more w.more ∙ (ap (λ (zs : List Event). zs ++ events_of (place + 1) w.more) v.alike ∙ ap (λ (zs : List Event). xs ++ zs) w.alike);
  }

  Tells-none : (place : ℕ) (old : List Event) → Tells draw tasks start Mine place [] old old
  Tells-none place old = record { more = []; is = sym (append-nil old); known = Each-none Known old; alike = refl }

-- ---- steps one after another
pub Went-none : (place : ℕ) (view : View) (p : Play Outcome) → Went place view view p p
Went-none place view p = record {
  same = refl;
  counted = omega arith;
  blames = λ m below all. all;
  events = [];
  mine = All-nil (IsAt place);
  plays = λ more outcome plays. plays;
  kept = λ draw tasks start told s. (s, Tells-none draw tasks start view.caller place view.seen);
}

Went-trans : (place : ℕ) (a b c : View) (p mid q : Play Outcome) → Went place a b p mid → Went place b c mid q → Went place a c p q
Went-trans place a b c p mid q v w = record {
  same = w.same ∙ v.same;
  counted = omega (arith, v.counted, w.counted);
  blames = λ m below all. w.blames m (further m below) (v.blames m below all);
  events = v.events ++ w.events;
  mine = All-append (IsAt place) v.events w.events v.mine w.mine;
  plays = λ more outcome plays. subst (λ (xs : List Event). PlaysTo p xs outcome) (sym (append_assoc v.events w.events more)) (v.plays (w.events ++ more) outcome (w.plays more outcome plays));
  kept = λ draw tasks start told s.
      let first = v.kept draw tasks start told s in
      let second = rest v.same draw tasks start told first.0 in
      (second.0, Tells-trans draw tasks start a.caller place v.events w.events a.seen b.seen c.seen first.1 second.1);
}
  where
    further : (m : ℕ) → m ≤ a.faults → m ≤ b.faults
    further m below = let counted = v.counted in omega (arith, below, counted)

    rest : b.caller ≡ a.caller → (draw : Draw) (tasks : List Task) (start : List Event) → IsTrue a.caller.tells → Stands draw tasks start a.caller.tells place mid b.seen
        → Stands draw tasks start a.caller.tells place q c.seen × Tells draw tasks start (λ n. owns a.caller n ≡ true) place w.events b.seen c.seen
    rest e = subst (λ (by : Caller). (draw : Draw) (tasks : List Task) (start : List Event) → IsTrue by.tells → Stands draw tasks start by.tells place mid b.seen → Stands draw tasks start by.tells place q c.seen × Tells draw tasks start (λ n. owns by n ≡ true) place w.events b.seen c.seen) e w.kept

-- ---- one step
module _ (law : OutcomeLaw) (place : ℕ) (old new : View) (p q : Play Outcome) (c : IsClientAt place old.caller) (acts : Acts is_failed old new p q) where
  blame : (m : ℕ) → m ≤ old.faults → Blames p m old.faults → Blames q m new.faults
  blame m below all = doomed_by p q m old.faults new.faults below acts.blames all

  acted : Acted old new p q → Went place old new p q
  acted a =
      let event : Event = own_event old.caller a.op a.reply (time_of old.caller.tells old.caller a.op a.reply old.seen new.seen a.made) in
      record {
        same = acts.same;
        counted = acts.blames.0;
        blames = blame;
        events = event ∷ [];
        mine = All-cons (IsAt place) event [] c.number (All-nil (IsAt place));
        plays = λ more outcome plays. subst (λ (x : Play Outcome). PlaysTo x (event ∷ more) outcome) (sym a.asks) (PlaysTo-asked a.starved a.next event more outcome a.fits (PlaysTo-comes (a.next a.reply) q more outcome a.comes plays));
        kept = λ draw tasks start told s. (
          Stands-acts law draw tasks start place old new p q c told acts s,
          Tells-makes draw tasks start old.caller place a.op a.starved a.next a.reply (time_of old.caller.tells old.caller a.op a.reply old.seen new.seen a.made) p old.seen new.seen c a.asks s (MakesAt-made old.caller.tells old.caller a.op a.reply old.seen new.seen a.made told),
        );
      }

  starves : Starved old new p q → Went place old new p q
  starves n = record {
    same = acts.same;
    counted = acts.blames.0;
    blames = blame;
    events = [];
    mine = All-nil (IsAt place);
    plays = λ more outcome plays. subst (λ (x : Play Outcome). PlaysTo x more outcome) (sym n.asks) (PlaysTo-starved n.op n.starved n.next more outcome (PlaysTo-comes n.starved q more outcome n.comes plays));
    kept = λ draw tasks start told s. (Stands-acts law draw tasks start place old new p q c told acts s, Tells-waits draw tasks start old.caller place old.seen new.seen c.number (n.waits told));
  }

  pub Went-step : Went place old new p q
  Went-step = elim acts.went [
    | inl a ↦ acted a
    | inr n ↦ starves n
  ]

-- a step more
pub Went-more : OutcomeLaw → (place : ℕ) (a b c : View) (p mid q : Play Outcome) → IsClientAt place a.caller → Went place a b p mid → Acts is_failed b c mid q → Went place a c p q
Went-more law place a b c p mid q by w acts =
    Went-trans place a b c p mid q w (Went-step law place b c mid q (subst (λ (x : Caller). IsClientAt place x) (sym w.same) by) acts)

-- what the step of a worker needs
pub polite-went : (place : ℕ) (a b : View) (p q : Play Outcome) → CanStep place a p → Went place a b p q → IsTrue b.caller.tells → PlayIsPolite q b.seen
polite-went place a b p q can w told =
    let told' : IsTrue a.caller.tells = subst (λ (x : Caller). IsTrue x.tells) w.same told in
    let r = can told' in
    let s = (w.kept r.draw r.tasks r.start told' r.stand).0 in
    Keeps-polite (ids_at r.draw place) s.task (place + 1) r.start (only a.caller.tells (place + 1)) q b.seen s.careful
