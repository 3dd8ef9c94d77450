-- How far a mirror comes by its steps.
use Rattle.std.proofs.Common.{◌≡◌, ◌⊎◌, ◌≤◌, ◌<◌, ◌-◌, ◌^◌, ℕ, inl, inr, Bool, true, false, List, [], ◌∷◌, ◌++◌, refl, sym, ◌∙◌, ap, subst, arith, ltb}
use Rattle.std.specs.Prelude.{IsTrue}
use Rattle.std.proofs.lemmas.Bool.{ltb-true, ltb-false}
use Rattle.std.proofs.lemmas.List.{append-nil, append_assoc}
use Rattle.ice_base.specs.Ends.{Rose}
use Rattle.object_store.specs.declared.events.Op.{Op}
use Rattle.object_store.specs.declared.events.Reply.{Reply}
use Rattle.object_store.specs.declared.events.Event.{Event}
use Rattle.object_store.proofs.Journals.{Each-one, Each-none, Each-append}
use Rattle.store_api.specs.Journal.{Each, IsPolite}
use Rattle.store_api.specs.Callers.{Caller, View, HasAll, Waits, Makes, own_event}
use Rattle.store_api.proofs.Programs.{alone}
use Rattle.two_stores.specs.declared.side.Side.{Side}
use Rattle.two_stores.specs.declared.side.Side.TheVariants.{From, To}
use Rattle.two_stores.specs.Sides.{Both, pair_of, at_side, other, callers_of, seen_of}
use Rattle.two_stores.specs.Pairs.{PairProg, Done, Ask, MayAsk, PairSteps, Acted, Starved, KeepsPair, LeadsPair, IsFair, dooms}
use Rattle.two_stores.proofs.PairLaws.{IsKept, KeepsPair-now, KeepsPair-steps, LeadsPair-steps, LeadsPair-ended, IsFair-steps, IsFair-blames}
use Rattle.mirror_reports.specs.declared.outcome.MirrorEnd.{MirrorEnd}
use Rattle.mirror.specs.Programs.{Answer, mirror_program}
use Rattle.mirror.specs.Laws.{tells_fault}
use Rattle.mirror_calls.specs.Laws.{PoliteOn, MirrorTells, MirrorLaw, BothTell, RefsSame, MirroredTreesLaw}
use Rattle.run_mirror.specs.Running.{IsOf, GoesAlone, WasMirrored}
use Rattle.run_mirror.specs.inside.Coming.{Came}

-- ---- faults
rose-later : (a b c : ℕ) → a ≤ b → Rose b c → Rose a c
rose-later a b c l r = (omega (arith, l, r.0), elim r.1 [ inl s ↦ inl (omega (arith, l, s)) | inr e ↦ inr e ])

rose-on : (a b c : ℕ) → Rose a b → b ≤ c → Rose a c
rose-on a b c r l = (omega (arith, r.0, l), elim r.1 [ inl s ↦ inl (omega (arith, s, l)) | inr e ↦ decide (ltb b c) refl e ])
  where
    decide : (less : Bool) → ltb b c ≡ less → b ≡ 2 ^ 64 - 1 → (a < c) ⊎ (c ≡ 2 ^ 64 - 1)
    decide true h e = let s = ltb-true b c h in inl (omega (arith, r.0, s))
    decide false h e = let s = ltb-false b c h in inr (omega (arith, l, s, e))

-- ---- a caller that is alone
waits-alone : (by : Caller) (old new : List Event) → HasAll by → Waits by old new → new ≡ old
waits-alone by old new all w = w.is ∙ rw (alone by old w.between all w.others) (append-nil old)

alone-none : (client : ℕ) (seen : List Event) → GoesAlone client seen seen
alone-none client seen = record { more = []; is = sym (append-nil seen); each = Each-none (IsOf client) seen }

alone-same : (client : ℕ) (old now new : List Event) → new ≡ now → GoesAlone client old now → GoesAlone client old new
alone-same client old now new same g = record { more = g.more; is = same ∙ g.is; each = g.each }

alone-makes : (by : Caller) (op : Op) (reply : Reply) (old now new : List Event) → HasAll by → Makes by op reply now new → GoesAlone by.number old now → GoesAlone by.number old new
alone-makes by op reply old now new all m g =
    let event : Event = own_event by op reply m.time in
    let same : m.middle ≡ now = waits-alone by now m.middle all m.waits in
    record {
      more = g.more ++ event ∷ [];
      is = m.is ∙ (ap (λ (h : List Event). h ++ event ∷ []) (same ∙ g.is) ∙ append_assoc old g.more (event ∷ []));
      each = Each-append (IsOf by.number) old g.more (event ∷ []) g.each (Each-one (IsOf by.number) (old ++ g.more) event refl);
    }

-- what holds of the journals is kept where both callers are alone
kept-alone : (by : Both Caller) (Q : MirrorEnd → Both (List Event) → Type 0) → HasAll by.from → HasAll by.to → BothTell by → IsKept by Q
kept-alone by Q a b tell end old new came held =
    let same_from : new.from ≡ old.from = waits-alone by.from old.from new.from a (came From tell.from) in
    let same_to : new.to ≡ old.to = waits-alone by.to old.to new.to b (came To tell.to) in
    let same : old ≡ new = λ i. pair_of (sym same_from i) (sym same_to i) in
    subst (λ (seen : Both (List Event)). Q end seen) same held

-- ---- what may be asked
may-ask : (p : Answer) (views : Both View) → KeepsPair (PoliteOn (callers_of views)) (callers_of views) p (seen_of views) → MayAsk p views
may-ask (Done end) views k = tt
may-ask (Ask From op starved next) views k = KeepsPair-now (PoliteOn (callers_of views)) (callers_of views) From op starved next (seen_of views) k
may-ask (Ask To op starved next) views k = KeepsPair-now (PoliteOn (callers_of views)) (callers_of views) To op starved next (seen_of views) k

pub came-may : (old now : Both View) (p : Answer) → Came old now p → MayAsk p now
came-may old now p c = may-ask p now (subst (λ (by : Both Caller). KeepsPair (PoliteOn by) by p (seen_of now)) (sym c.callers) c.keeps)

-- ---- the beginning
pub come-first : MirrorLaw → MirroredTreesLaw → IsFair tells_fault mirror_program → (views : Both View) (rest : Answer) → rest ≡ mirror_program → Came views views rest
come-first law same_trees fair views rest is =
    let told = law (callers_of views) (seen_of views) in
    subst (λ (p : Answer). Came views views p) (sym is) (record {
      callers = refl;
      keeps = told.polite;
      leads = told.leads;
      trees = λ t. (same_trees (callers_of views) (seen_of views) t).refs;
      alone = λ side t. alone-none (at_side side views).caller.number (at_side side views).seen;
      fair = fair;
      blames = λ side d. absurd (none side d);
      counted = λ side. omega arith;
    })
  where
    none : (side : Side) → dooms tells_fault side mirror_program ≡ true → ⊥
    none From d = absurd (cc)
    none To d = absurd (cc)

-- ---- a step
module _ (law : MirrorLaw) (old now new : Both View) (p q : Answer) (all : (side : Side) → HasAll (at_side side now).caller) (c : Came old now p) (s : PairSteps now new p q) where
  same-callers : callers_of new ≡ callers_of now
  same-callers = λ i. pair_of (s.same From i) (s.same To i)

  keeps-on : KeepsPair (PoliteOn (callers_of old)) (callers_of old) q (seen_of new)
  keeps-on = subst (λ (by : Both Caller). KeepsPair (PoliteOn by) by q (seen_of new)) c.callers
      (KeepsPair-steps (PoliteOn (callers_of now)) now new p q s (subst (λ (by : Both Caller). KeepsPair (PoliteOn by) by p (seen_of now)) (sym c.callers) c.keeps))

  leads-on : LeadsPair (MirrorTells (callers_of old) (seen_of old)) (callers_of old) q (seen_of new)
  leads-on = subst (λ (by : Both Caller). LeadsPair (MirrorTells by (seen_of old)) by q (seen_of new)) c.callers
      (LeadsPair-steps (MirrorTells (callers_of now) (seen_of old)) now new (law (callers_of now) (seen_of old)).kept p q s (subst (λ (by : Both Caller). LeadsPair (MirrorTells by (seen_of old)) by p (seen_of now)) (sym c.callers) c.leads))

  trees-on : BothTell (callers_of old) → LeadsPair (RefsSame (callers_of old) (seen_of old)) (callers_of old) q (seen_of new)
  trees-on t =
      let kept = kept-alone (callers_of now) (RefsSame (callers_of now) (seen_of old)) (all From) (all To) (subst BothTell (sym c.callers) t) in
      subst (λ (by : Both Caller). LeadsPair (RefsSame by (seen_of old)) by q (seen_of new)) c.callers
      (LeadsPair-steps (RefsSame (callers_of now) (seen_of old)) now new kept p q s (subst (λ (by : Both Caller). LeadsPair (RefsSame by (seen_of old)) by p (seen_of now)) (sym c.callers) (c.trees t)))

  blamed : (side : Side) → dooms tells_fault side q ≡ true → Rose (at_side side old).faults (at_side side new).faults
  blamed side d = elim (IsFair-blames tells_fault now new p q s c.fair side d) [
    | inl e ↦ rose-on (at_side side old).faults (at_side side now).faults (at_side side new).faults (c.blames side e) (s.faults side)
    | inr r ↦ rose-later (at_side side old).faults (at_side side now).faults (at_side side new).faults (c.counted side) r
  ]

  counted-on : (side : Side) → (at_side side old).faults ≤ (at_side side new).faults
  counted-on side = let rise = s.faults side in let so_far = c.counted side in omega (arith, so_far, rise)

  -- the caller of a side is that of the beginning
  caller-is : (side : Side) → (at_side side now).caller ≡ (at_side side old).caller
  caller-is From = ap (λ (b : Both Caller). b.from) c.callers
  caller-is To = ap (λ (b : Both Caller). b.to) c.callers

  made-on : (side : Side) (op : Op) (reply : Reply) → (IsTrue (at_side side now).caller.tells → Makes (at_side side now).caller op reply (at_side side now).seen (at_side side new).seen) → IsTrue (at_side side old).caller.tells → GoesAlone (at_side side old).caller.number (at_side side old).seen (at_side side new).seen
  made-on side op reply made t =
      let told : IsTrue (at_side side now).caller.tells = subst (λ (by : Caller). IsTrue by.tells) (sym (caller-is side)) t in
      subst (λ (by : Caller). GoesAlone by.number (at_side side old).seen (at_side side new).seen) (caller-is side)
      (alone-makes (at_side side now).caller op reply (at_side side old).seen (at_side side now).seen (at_side side new).seen (all side) (made told) (subst (λ (by : Caller). GoesAlone by.number (at_side side old).seen (at_side side now).seen) (sym (caller-is side)) (c.alone side t)))

  waited-on : (side : Side) → (IsTrue (at_side side now).caller.tells → Waits (at_side side now).caller (at_side side now).seen (at_side side new).seen) → IsTrue (at_side side old).caller.tells → GoesAlone (at_side side old).caller.number (at_side side old).seen (at_side side new).seen
  waited-on side waits t =
      let told : IsTrue (at_side side now).caller.tells = subst (λ (by : Caller). IsTrue by.tells) (sym (caller-is side)) t in
      alone-same (at_side side old).caller.number (at_side side old).seen (at_side side now).seen (at_side side new).seen (waits-alone (at_side side now).caller (at_side side now).seen (at_side side new).seen (all side) (waits told)) (c.alone side t)

  -- what a step of one side leaves of either
  on-step : (side : Side) (op : Op) (reply : Reply) → (IsTrue (at_side side now).caller.tells → Makes (at_side side now).caller op reply (at_side side now).seen (at_side side new).seen) → at_side (other side) new ≡ at_side (other side) now → (x : Side) → IsTrue (at_side x old).caller.tells → GoesAlone (at_side x old).caller.number (at_side x old).seen (at_side x new).seen
  on-step From op reply made still From t = made-on From op reply made t
  on-step From op reply made still To t = alone-same (at_side To old).caller.number (at_side To old).seen (at_side To now).seen (at_side To new).seen (ap (λ (v : View). v.seen) still) (c.alone To t)
  on-step To op reply made still From t = alone-same (at_side From old).caller.number (at_side From old).seen (at_side From now).seen (at_side From new).seen (ap (λ (v : View). v.seen) still) (c.alone From t)
  on-step To op reply made still To t = made-on To op reply made t

  on-wait : (side : Side) → (IsTrue (at_side side now).caller.tells → Waits (at_side side now).caller (at_side side now).seen (at_side side new).seen) → at_side (other side) new ≡ at_side (other side) now → (x : Side) → IsTrue (at_side x old).caller.tells → GoesAlone (at_side x old).caller.number (at_side x old).seen (at_side x new).seen
  on-wait From waits still From t = waited-on From waits t
  on-wait From waits still To t = alone-same (at_side To old).caller.number (at_side To old).seen (at_side To now).seen (at_side To new).seen (ap (λ (v : View). v.seen) still) (c.alone To t)
  on-wait To waits still From t = alone-same (at_side From old).caller.number (at_side From old).seen (at_side From now).seen (at_side From new).seen (ap (λ (v : View). v.seen) still) (c.alone From t)
  on-wait To waits still To t = waited-on To waits t

  alone-on : (side : Side) → IsTrue (at_side side old).caller.tells → GoesAlone (at_side side old).caller.number (at_side side old).seen (at_side side new).seen
  alone-on = elim s.went [
    | inl m ↦ on-step m.side m.op m.reply m.made m.stays
    | inr w ↦ on-wait w.side w.waits w.stays
  ]

  pub come-on : Came old new q
  come-on = record {
    callers = same-callers ∙ c.callers;
    keeps = keeps-on;
    leads = leads-on;
    trees = trees-on;
    alone = alone-on;
    fair = IsFair-steps tells_fault now new p q s c.fair;
    blames = blamed;
    counted = counted-on;
  }

-- ---- the end
pub come-last : (old new : Both View) (end : MirrorEnd) (rest : Answer) → rest ≡ Done end → Came old new rest → WasMirrored old new end
come-last old new end rest is c = record {
  callers = c.callers;
  tells = LeadsPair-ended (MirrorTells (callers_of old) (seen_of old)) (callers_of old) end rest (seen_of new) is c.leads;
  trees = λ t. LeadsPair-ended (RefsSame (callers_of old) (seen_of old)) (callers_of old) end rest (seen_of new) is (c.trees t);
  alone = c.alone;
  blames = λ side d. c.blames side (ap (dooms tells_fault side) is ∙ d);
  counted = c.counted;
}

-- both callers are alone
pub both-alone : (views : Both View) → HasAll views.from.caller → HasAll views.to.caller → (side : Side) → HasAll (at_side side views).caller
both-alone views a b From = a
both-alone views a b To = b
