-- How far a check comes by its steps.
use Rattle.std.proofs.Common.{◌≡◌, ◌⊎◌, ◌≤◌, ◌<◌, ◌-◌, ◌^◌, ℕ, inl, inr, Bool, true, false, List, [], ◌∷◌, ◌++◌, refl, sym, ◌∙◌, ap, subst, arith, ltb}
use Rattle.std.specs.Prelude.{IsTrue}
use Rattle.std.proofs.lemmas.Bool.{ltb-true, ltb-false}
use Rattle.std.proofs.lemmas.List.{append-nil, append_assoc}
use Rattle.ice_base.specs.Ends.{Rose}
use Rattle.object_store.specs.declared.events.Op.{Op}
use Rattle.object_store.specs.declared.events.Reply.{Reply}
use Rattle.object_store.specs.declared.events.Event.{Event}
use Rattle.object_store.specs.Machine.{IsAnswered}
use Rattle.object_store.proofs.Journals.{Each-one, Each-none, Each-append}
use Rattle.store_api.specs.Journal.{IsPolite}
use Rattle.store_api.specs.Callers.{Caller, View, HasAll, Waits, Makes, own_event, as_client}
use Rattle.store_api.specs.Plays.{Play, Ended, Ask, PlayKeeps, PlayLeads, Acted, Starved, Acts, dooms}
use Rattle.store_api.proofs.Programs.{alone}
use Rattle.store_api.proofs.PlayLaws.{PlayKeeps-comes, PlayLeads-comes}
use Rattle.play_outcome.specs.declared.outcome.Outcome.{Outcome}
use Rattle.play_outcome.specs.Ending.{is_failed}
use Rattle.play_check.specs.Playing.{check_task}
use Rattle.play_check.specs.Telling.{CheckedTells}
use Rattle.play_check.specs.Laws.{CheckTaskLaw}
use Rattle.play_check.proofs.Stepping.{check-calm}
use Rattle.play_tasks.specs.Played.{PlaysTo}
use Rattle.play_tasks.proofs.Paths.{PlaysTo-ended, PlaysTo-comes, PlaysTo-asked, PlaysTo-starved}
use Rattle.lone_check.specs.Checking.{IsOfCheck, WasChecked}
use Rattle.lone_check.specs.inside.Going.{Reads, Came}

-- ---- a caller that is alone
waits-alone : (by : Caller) (old new : List Event) → HasAll by → Waits by old new → new ≡ old
waits-alone by old new all w = w.is ∙ rw (alone by old w.between all w.others) (append-nil old)

-- the time of an event that was made; over a store that tells nothing it is any number
time-of : (tells : Bool) (by : Caller) (op : Op) (reply : Reply) (old new : List Event) → (IsTrue tells → Makes by op reply old new) → ℕ
time-of true by op reply old new made = (made refl).time
time-of false by op reply old new made = 0

record Adds (by : Caller) (op : Op) (reply : Reply) (time : ℕ) (old new : List Event) : Type 0 where
  is : new ≡ old ++ own_event by op reply time ∷ []
  answered : IsAnswered old (own_event by op reply time)

adds-makes : (tells : Bool) (by : Caller) (op : Op) (reply : Reply) (old new : List Event) (made : IsTrue tells → Makes by op reply old new) → HasAll by → IsTrue tells → Adds by op reply (time-of tells by op reply old new made) old new
unfolding time-of
adds-makes true by op reply old new made all told =
    let m = made refl in
    let same = waits-alone by old m.middle all m.waits in
    record {
      is = m.is ∙ ap (λ (h : List Event). h ++ own_event by op reply m.time ∷ []) same;
      answered = subst (λ (h : List Event). IsAnswered h (own_event by op reply m.time)) same m.answered;
    }
adds-makes false by op reply old new made all told = absurd (cc)

-- ---- faults
rose-later : (a b c : ℕ) → a ≤ b → Rose b c → Rose a c
rose-later a b c l r = (omega (arith, l, r.0), elim r.1 [ inl s ↦ inl (omega (arith, l, s)) | inr e ↦ inr e ])

rose-on : (a b c : ℕ) → Rose a b → b ≤ c → Rose a c
rose-on a b c r l = (omega (arith, r.0, l), elim r.1 [ inl s ↦ inl (omega (arith, s, l)) | inr e ↦ decide (ltb b c) refl e ])
  where
    decide : (less : Bool) → ltb b c ≡ less → b ≡ 2 ^ 64 - 1 → (a < c) ⊎ (c ≡ 2 ^ 64 - 1)
    decide true h e = let s = ltb-true b c h in inl (omega (arith, r.0, s))
    decide false h e = let s = ltb-false b c h in inr (omega (arith, l, s, e))

blamed : (old now new : View) (p q : Play Outcome) → (dooms is_failed p ≡ true → Rose old.faults now.faults) → old.faults ≤ now.faults → Acts is_failed now new p q → dooms is_failed q ≡ true → Rose old.faults new.faults
blamed old now new p q blames counted acts d = elim (acts.blames.1 d) [
  | inl e ↦ rose-on old.faults now.faults new.faults (blames e) acts.blames.0
  | inr r ↦ rose-later old.faults now.faults new.faults counted r
]

-- ---- the beginning
pub come-first : CheckTaskLaw → (view : View) (rest : Play Outcome) → view.caller.number ≡ 1 → rest ≡ check_task 0 → Came view view rest
come-first law view rest one is =
    let told = law view.caller 0 view.seen in
    subst (λ (p : Play Outcome). Came view view p) (sym is) (record {
      own = [];
      plays = λ more outcome plays. plays;
      caller = refl;
      client = one;
      is = λ tells. sym (append-nil view.seen);
      each = λ tells. Each-none IsOfCheck view.seen;
      keeps = λ tells. told.0;
      leads = λ tells. subst (λ (n : ℕ). PlayLeads (CheckedTells 0 n view.seen) view.caller (check_task 0) view.seen) one told.1;
      blames = λ d. let calm = check-calm 0 (check_task 0) refl in cc;
      counted = omega arith;
    })

-- ---- a step
reads-now : (by : Caller) (op : Op) (starved : Play Outcome) (next : Reply → Play Outcome) (p : Play Outcome) (journal : List Event) → p ≡ Ask op starved next → PlayKeeps Reads by p journal → PlayKeeps Reads by (Ask op starved next) journal
reads-now by op starved next p journal e k = subst (λ (x : Play Outcome). PlayKeeps Reads by x journal) e k

module _ (old now new : View) (p q : Play Outcome) (all : HasAll now.caller) (c : Came old now p) (acts : Acts is_failed now new p q) where
  told-now : IsTrue old.caller.tells → IsTrue now.caller.tells
  told-now t = subst (λ (by : Caller). IsTrue by.tells) (sym c.caller) t

  -- with an operation
  module _ (a : Acted now new p q) where
    event : Event
    event = own_event now.caller a.op a.reply (time-of now.caller.tells now.caller a.op a.reply now.seen new.seen a.made)

    added : IsTrue old.caller.tells → Adds now.caller a.op a.reply event.time now.seen new.seen
    unfolding event
    added t = adds-makes now.caller.tells now.caller a.op a.reply now.seen new.seen a.made all (told-now t)

    kept : (t : IsTrue old.caller.tells) → PlayKeeps Reads old.caller (Ask a.op a.starved a.next) now.seen
    kept t = reads-now old.caller a.op a.starved a.next p now.seen a.asks (c.keeps t)

    leads : (t : IsTrue old.caller.tells) → PlayLeads (CheckedTells 0 1 old.seen) old.caller (Ask a.op a.starved a.next) now.seen
    leads t = subst (λ (x : Play Outcome). PlayLeads (CheckedTells 0 1 old.seen) old.caller x now.seen) a.asks (c.leads t)

    made : IsTrue old.caller.tells → Makes old.caller a.op a.reply now.seen new.seen
    made t = subst (λ (by : Caller). Makes by a.op a.reply now.seen new.seen) c.caller (a.made (told-now t))

    own-event : (t : IsTrue old.caller.tells) → IsOfCheck (old.seen ++ c.own) event
    unfolding event PlayKeeps
    own-event t = record {
      good = record { legal = subst (λ (h : List Event). IsAnswered h event) (c.is t) (added t).answered; polite = subst (λ (h : List Event). IsPolite h a.op) (c.is t) (kept t).0.0 };
      client = ap (λ (by : Caller). by.number) c.caller ∙ c.client;
      reads = (kept t).0.1;
    }

    go-acted : Came old new q
    unfolding event PlayKeeps PlayLeads
    go-acted = record {
      own = c.own ++ event ∷ [];
      plays = λ more outcome plays.
          let path = PlaysTo-asked a.starved a.next event more outcome a.fits (PlaysTo-comes (a.next a.reply) q more outcome a.comes plays) in
          subst (λ (xs : List Event). PlaysTo (check_task 0) xs outcome) (sym (append_assoc c.own (event ∷ []) more)) (c.plays (event ∷ more) outcome (subst (λ (x : Play Outcome). PlaysTo x (event ∷ more) outcome) (sym a.asks) path));
      caller = acts.same ∙ c.caller;
      client = c.client;
      is = λ t. (added t).is ∙ (ap (λ (h : List Event). h ++ event ∷ []) (c.is t) ∙ append_assoc old.seen c.own (event ∷ []));
      each = λ t. Each-append IsOfCheck old.seen c.own (event ∷ []) (c.each t) (Each-one IsOfCheck (old.seen ++ c.own) event (own-event t));
      keeps = λ t. PlayKeeps-comes Reads old.caller (a.next a.reply) q new.seen a.comes ((kept t).2 a.reply new.seen (made t));
      leads = λ t. PlayLeads-comes (CheckedTells 0 1 old.seen) old.caller (a.next a.reply) q new.seen a.comes ((leads t).1 a.reply new.seen (made t));
      blames = blamed old now new p q c.blames c.counted acts;
      counted = let rise = acts.blames.0 in let so_far = c.counted in omega (arith, so_far, rise);
    }

  -- without memory for it
  module _ (s : Starved now new p q) where
    same-seen : IsTrue old.caller.tells → new.seen ≡ now.seen
    same-seen t = waits-alone now.caller now.seen new.seen all (s.waits (told-now t))

    go-starved : Came old new q
    unfolding PlayKeeps PlayLeads
    go-starved = record {
      own = c.own;
      plays = λ more outcome plays.
          let path = PlaysTo-starved s.op s.starved s.next more outcome (PlaysTo-comes s.starved q more outcome s.comes plays) in
          c.plays more outcome (subst (λ (x : Play Outcome). PlaysTo x more outcome) (sym s.asks) path);
      caller = acts.same ∙ c.caller;
      client = c.client;
      is = λ t. same-seen t ∙ c.is t;
      each = c.each;
      keeps = λ t.
          subst (λ (h : List Event). PlayKeeps Reads old.caller q h) (sym (same-seen t))
          (PlayKeeps-comes Reads old.caller s.starved q now.seen s.comes (reads-now old.caller s.op s.starved s.next p now.seen s.asks (c.keeps t)).1);
      leads = λ t.
          subst (λ (h : List Event). PlayLeads (CheckedTells 0 1 old.seen) old.caller q h) (sym (same-seen t))
          (PlayLeads-comes (CheckedTells 0 1 old.seen) old.caller s.starved q now.seen s.comes (subst (λ (x : Play Outcome). PlayLeads (CheckedTells 0 1 old.seen) old.caller x now.seen) s.asks (c.leads t)).0);
      blames = blamed old now new p q c.blames c.counted acts;
      counted = let rise = acts.blames.0 in let so_far = c.counted in omega (arith, so_far, rise);
    }

  pub come-on : Came old new q
  come-on = elim acts.went [ inl a ↦ go-acted a | inr s ↦ go-starved s ]

-- ---- the end
pub come-last : (view old new : View) (outcome : Outcome) → old ≡ as_client 1 view → Came old new (Ended outcome) → WasChecked view new outcome
unfolding PlayLeads
come-last view old new outcome is c =
    let begun : Came (as_client 1 view) new (Ended outcome) = subst (λ (v : View). Came v new (Ended outcome)) is c in
    record {
      own = begun.own;
      plays = subst (λ (xs : List Event). PlaysTo (check_task 0) xs outcome) (append-nil begun.own) (begun.plays [] outcome (PlaysTo-ended outcome));
      is = begun.is;
      each = begun.each;
      told = begun.leads;
      blames = begun.blames;
      counted = begun.counted;
      tells = ap (λ (by : Caller). by.tells) begun.caller;
    }
