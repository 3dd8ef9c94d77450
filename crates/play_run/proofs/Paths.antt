-- What each worker played by turns.
use Rattle.std.proofs.Common.{◌≡◌, ◌≢◌, ℕ, zero, suc, ◌+◌, inl, inr, Bool, true, false, List, [], ◌∷◌, ◌++◌, refl, sym, ◌∙◌, ap, subst, length, arith, add-zero, zero-add, ne_eqb, eq-eqb, eqb-true, length-set}
use Rattle.std.specs.Prelude.{◌==◌, All, Some, slice_get}
use Rattle.std.specs.List.{AllZip}
use Rattle.std.proofs.lemmas.Option.{slice_get_within}
use Rattle.std.proofs.lemmas.List.Elements.{All-nil, All-cons, All-append, filter-append}
use Rattle.ice_ids.specs.declared.drawing.Draw.{Draw}
use Rattle.object_store.specs.declared.events.Event.{Event}
use Rattle.store_api.specs.Program.{events_of}
use Rattle.store_api.specs.Plays.{Play, Ended, Comes}
use Rattle.store_api.proofs.Programs.{own-one}
use Rattle.play_script.specs.declared.scripts.Task.{Task}
use Rattle.play_outcome.specs.declared.outcome.Outcome.{Outcome}
use Rattle.play_tasks.specs.Playing.{task_play}
use Rattle.play_tasks.specs.Tasks.{ids_at, plays_from}
use Rattle.play_tasks.proofs.Once.{task-once}
use Rattle.play_tasks.specs.Played.{PlaysTo, IsByTask, AllPlayed}
use Rattle.play_tasks.proofs.Paths.{PlaysTo-ended, PlaysTo-comes, PlaysTo-asked, PlaysTo-starved}
use Rattle.play_run.specs.Order.{Turned, InTurns, Begin}
use Rattle.play_run.proofs.Places.{slice_get-set_same, slice_get-set_other}

some_same : {X : Type 0} (x y : X) → Some x ≡ Some y → x ≡ y
some_same x y e = cc

-- ---- one turn
-- another client's event
other-one : (client : ℕ) (event : Event) → event.client ≢ client → events_of client (event ∷ []) ≡ []
other-one client event differs = rw (ne_eqb event.client client differs) refl

-- The worker at place k had p to do and has q now: what plays q to an end plays p to it, behind the events of its client.
record GoesOn (k : ℕ) (events : List Event) (p : Play Outcome) (qs : List (Play Outcome)) : Type 0 where
  pub q : Play Outcome
  pub at : slice_get qs k ≡ Some q
  pub plays : (more : List Event) (outcome : Outcome) → PlaysTo q more outcome → PlaysTo p (events_of (k + 1) events ++ more) outcome

-- it had no event, and has the same to do
stays : (k : ℕ) (events : List Event) (p : Play Outcome) (ps qs : List (Play Outcome)) → slice_get ps k ≡ Some p → slice_get qs k ≡ slice_get ps k → events_of (k + 1) events ≡ [] → GoesOn k events p qs
stays k events p ps qs at same nothing = record {
  q = p;
  at = same ∙ at;
  plays = λ more outcome plays. subst (λ (xs : List Event). PlaysTo p (xs ++ more) outcome) (sym nothing) plays;
}

-- the turn of another worker
goes_other : (t k : ℕ) (ps : List (Play Outcome)) (events : List Event) (qs : List (Play Outcome)) (p : Play Outcome) → k ≢ t → slice_get ps k ≡ Some p → Turned t ps events qs → GoesOn k events p qs
goes_other t k ps events qs p differs at (inl r) = stays k events p ps qs at (ap (λ xs. slice_get xs k) r.same) (ap (events_of (k + 1)) r.nothing)
goes_other t k ps events qs p differs at (inr (inl w)) =
    stays k events p ps qs at (ap (λ xs. slice_get xs k) w.rest ∙ slice_get-set_other ps t k w.q differs) (ap (events_of (k + 1)) w.one ∙ other-one (k + 1) w.event (λ e. differs (place_same (sym w.client ∙ e))))
  where
    place_same : t + 1 ≡ k + 1 → k ≡ t
    place_same e = omega (arith, e)
goes_other t k ps events qs p differs at (inr (inr f)) = stays k events p ps qs at (ap (λ xs. slice_get xs k) f.rest ∙ slice_get-set_other ps t k f.q differs) (ap (events_of (k + 1)) f.nothing)

-- its own turn
goes_own : (t : ℕ) (ps : List (Play Outcome)) (events : List Event) (qs : List (Play Outcome)) (p : Play Outcome) → slice_get ps t ≡ Some p → Turned t ps events qs → GoesOn t events p qs
goes_own t ps events qs p at (inl r) = stays t events p ps qs at (ap (λ xs. slice_get xs t) r.same) (ap (events_of (t + 1)) r.nothing)
goes_own t ps events qs p at (inr (inl w)) =
    let own : events_of (t + 1) events ≡ w.event ∷ [] = ap (events_of (t + 1)) w.one ∙ own-one (t + 1) w.event w.client in
    record {
      q = w.q;
      at = ap (λ xs. slice_get xs t) w.rest ∙ slice_get-set_same ps t _ w.q at;
      plays = λ more outcome plays.
          let path = PlaysTo-asked w.starved w.next w.event more outcome w.fits (PlaysTo-comes (w.next w.event.reply) w.q more outcome w.comes plays) in
          subst (λ (xs : List Event). PlaysTo p (xs ++ more) outcome) (sym own) (subst (λ (x : Play Outcome). PlaysTo x (w.event ∷ more) outcome) (some_same _ p (sym w.at ∙ at)) path);
    }
goes_own t ps events qs p at (inr (inr f)) = record {
  q = f.q;
  at = ap (λ xs. slice_get xs t) f.rest ∙ slice_get-set_same ps t _ f.q at;
  plays = λ more outcome plays.
      let path = PlaysTo-starved f.op f.starved f.next more outcome (PlaysTo-comes f.starved f.q more outcome f.comes plays) in
      subst (λ (xs : List Event). PlaysTo p (xs ++ more) outcome) (sym (ap (events_of (t + 1)) f.nothing)) (subst (λ (x : Play Outcome). PlaysTo x more outcome) (some_same _ p (sym f.at ∙ at)) path);
}

goes_on : (t k : ℕ) (ps : List (Play Outcome)) (events : List Event) (qs : List (Play Outcome)) (p : Play Outcome) → slice_get ps k ≡ Some p → Turned t ps events qs → GoesOn k events p qs
goes_on t k ps events qs p at turned = decide (k == t) refl
  where
    decide : (b : Bool) → (k == t) ≡ b → GoesOn k events p qs
    decide true h =
        let same : k ≡ t = eqb-true k t h in
        subst (λ (n : ℕ). GoesOn n events p qs) (sym same) (goes_own t ps events qs p (subst (λ (n : ℕ). slice_get ps n ≡ Some p) same at) turned)
    decide false h = goes_other t k ps events qs p (λ s. let w = eq-eqb k t s in cc) at turned

-- ---- turns one after another
plays_turns : (ts : List ℕ) (k : ℕ) (ps : List (Play Outcome)) (events : List Event) (qs : List (Play Outcome)) (p : Play Outcome) (outcome : Outcome) → InTurns ts ps events qs → slice_get ps k ≡ Some p → slice_get qs k ≡ Some (Ended outcome) → PlaysTo p (events_of (k + 1) events) outcome
unfolding InTurns
plays_turns [] k ps events qs p outcome r at end =
    let is : Ended outcome ≡ p = some_same (Ended outcome) p (sym end ∙ ap (λ xs. slice_get xs k) r.1 ∙ at) in
    subst (λ (xs : List Event). PlaysTo p (events_of (k + 1) xs) outcome) (sym r.0) (subst (λ (x : Play Outcome). PlaysTo x [] outcome) is (PlaysTo-ended outcome))
plays_turns (t ∷ ts) k ps events qs p outcome r at end =
    let g = goes_on t k ps r.0 r.2 p at r.4 in
    let own : events_of (k + 1) events ≡ events_of (k + 1) r.0 ++ events_of (k + 1) r.1 = ap (events_of (k + 1)) r.3 ∙ filter-append (λ event. event.client == k + 1) r.0 r.1 in
    subst (λ (xs : List Event). PlaysTo p xs outcome) (sym own) (g.plays (events_of (k + 1) r.1) outcome (plays_turns ts k r.2 r.1 qs g.q outcome r.5 g.at end))

-- ---- whose events they are
turned_size : (t : ℕ) (ps : List (Play Outcome)) (events : List Event) (qs : List (Play Outcome)) → Turned t ps events qs → length qs ≡ length ps
turned_size t ps events qs (inl r) = ap length r.same
turned_size t ps events qs (inr (inl w)) = ap length w.rest ∙ length-set ps t w.q
turned_size t ps events qs (inr (inr f)) = ap length f.rest ∙ length-set ps t f.q

none_owned : (tasks : List Task) (events : List Event) → events ≡ [] → All (IsByTask tasks) events
none_owned tasks events e = subst (All (IsByTask tasks)) (sym e) (All-nil (IsByTask tasks))

turned_owned : (tasks : List Task) (t : ℕ) (ps : List (Play Outcome)) (events : List Event) (qs : List (Play Outcome)) → length ps ≡ length tasks → Turned t ps events qs → All (IsByTask tasks) events
turned_owned tasks t ps events qs size (inl r) = none_owned tasks events r.nothing
turned_owned tasks t ps events qs size (inr (inl w)) =
    let within = slice_get_within ps t _ w.at in
    subst (All (IsByTask tasks)) (sym w.one) (All-cons (IsByTask tasks) w.event [] (record { place = t; within = omega (arith, within, size); client = w.client }) (All-nil (IsByTask tasks)))
turned_owned tasks t ps events qs size (inr (inr f)) = none_owned tasks events f.nothing

owned_turns : (tasks : List Task) (ts : List ℕ) (ps : List (Play Outcome)) (events : List Event) (qs : List (Play Outcome)) → length ps ≡ length tasks → InTurns ts ps events qs → All (IsByTask tasks) events
unfolding InTurns
owned_turns tasks [] ps events qs size r = none_owned tasks events r.0
owned_turns tasks (t ∷ ts) ps events qs size r =
    subst (All (IsByTask tasks)) (sym r.3) (All-append (IsByTask tasks) r.0 r.1 (turned_owned tasks t ps r.0 r.2 size r.4) (owned_turns tasks ts r.2 r.1 qs (turned_size t ps r.0 r.2 r.4 ∙ size) r.5))

-- ---- the tasks
-- the worker of the task at a place begins with what its play has come to
pub record Begun (draw : Draw) (place : ℕ) (task : Task) (k : ℕ) (ps : List (Play Outcome)) : Type 0 where
  pub q : Play Outcome
  pub at : slice_get ps k ≡ Some q
  pub comes : Comes (task_play (ids_at draw (place + k)) task) q

pub begun_at : (draw : Draw) (place : ℕ) (tasks : List Task) (ps : List (Play Outcome)) (k : ℕ) (task : Task) → AllZip (λ (p q : Play Outcome). Comes p q) (plays_from draw place tasks) ps → slice_get tasks k ≡ Some task → Begun draw place task k ps
begun_at draw place [] ps k task z e = absurd (cc)
begun_at draw place (t ∷ ts) [] k task z e = absurd z
begun_at draw place (t ∷ ts) (p ∷ ps) zero task z e =
    record { q = p; at = refl; comes = subst (λ (x : Task). Comes (task_play (ids_at draw (place + 0)) x) p) (some_same t task e) (subst (λ (n : ℕ). Comes (task_play (ids_at draw n) t) p) (sym (add-zero place)) z.0) }
begun_at draw place (t ∷ ts) (p ∷ ps) (suc k) task z e =
    let r = begun_at draw (place + 1) ts ps k task z.1 e in
    let next : (place + 1) + k ≡ place + suc k = omega arith in
    record { q = r.q; at = r.at; comes = subst (λ (n : ℕ). Comes (task_play (ids_at draw n) task) r.q) next r.comes }

-- tasks whose workers came by turns to these outcomes were played, whatever the turns
pub played_turns : (draw : Draw) (tasks : List Task) (ts : List ℕ) (ps : List (Play Outcome)) (events : List Event) (outcomes : List Outcome) (qs : List (Play Outcome)) → length ps ≡ length tasks → ((k : ℕ) (outcome : Outcome) → slice_get outcomes k ≡ Some outcome → slice_get qs k ≡ Some (Ended outcome))
    → Begin draw tasks ps → InTurns ts ps events qs → AllPlayed draw tasks outcomes events
played_turns draw tasks ts ps events outcomes qs size ends begins order = record {
  owned = owned_turns tasks ts ps events qs size order;
  plays = plays;
  once = λ place task outcome at_task at. task-once (ids_at draw place) task (events_of (place + 1) events) outcome (plays place task outcome at_task at);
}
  where
    plays : (place : ℕ) (task : Task) (outcome : Outcome) → slice_get tasks place ≡ Some task → slice_get outcomes place ≡ Some outcome → PlaysTo (task_play (ids_at draw place) task) (events_of (place + 1) events) outcome
    plays place task outcome at_task at =
        let r = begun_at draw 0 tasks ps place task begins at_task in
        let comes = subst (λ (n : ℕ). Comes (task_play (ids_at draw n) task) r.q) (zero-add place) r.comes in
        PlaysTo-comes (task_play (ids_at draw place) task) r.q (events_of (place + 1) events) outcome comes (plays_turns ts place ps events qs r.q outcome order r.at (ends place outcome at))
