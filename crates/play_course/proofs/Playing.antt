-- The tasks of a script, as they were run.
use Rattle.std.proofs.Common.{◌≡◌, ◌≢◌, ℕ, ◌+◌, ◌≤◌, Bool, true, false, cond, List, [], ◌∷◌, ◌++◌, length, refl, sym, ◌∙◌, ap, subst, arith}
use Rattle.std.specs.Prelude.{◌==◌, Option, Some, None, Result, Ok, Err, IsTrue, IfOk}
use Rattle.std.proofs.Common.{eqb-true}
use Rattle.std.specs.declared.alloc.AllocError.{AllocError}
use Rattle.ice_ids.specs.declared.drawing.Draw.{Draw}
use Rattle.object_store.specs.declared.events.Event.{Event}
use Rattle.store_api.specs.declared.machines.Refusal.{Refusal}
use Rattle.store_api.specs.Journal.{Each, IsGood, IsGoodJournal}
use Rattle.store_api.specs.Callers.{Caller, View, HasAll, IsOther, only, as_client}
use Rattle.store_api.specs.Program.{events_of}
use Rattle.store_api.specs.Running.{Program, Runs}
use Rattle.object_store.proofs.Journals.{Each-append, Each-both}
use Rattle.repository.specs.Beginning.{begin_program}
use Rattle.repository.specs.Refs.{refs_program}
use Rattle.play_script.specs.declared.scripts.Script.{Script}
use Rattle.play_script.specs.declared.scripts.Task.{Task}
use Rattle.play_script.specs.declared.scripts.Turn.{Turn}
use Rattle.play_outcome.specs.declared.outcome.Outcome.{Outcome}
use Rattle.play_outcome.specs.declared.outcome.RefLine.{RefLine}
use Rattle.play_tasks.specs.Laws.{OutcomeLaw}
use Rattle.play_tasks.specs.Tasks.{ids_at, TellsAt, AllTold, AllBlame}
use Rattle.play_run.proofs.Turning.{only-other}
use Rattle.play_at_once.specs.Running.{RanAtOnce}
use Rattle.play_course.specs.Course.{RanBy, PlaysTasks, Plays, Course}

-- in whatever way the tasks ran, this is so
pub at-once : (turns : Option (List Turn)) (draw : Draw) (tasks : List Task) (tells : Bool) (outcomes : List Outcome) (old new : List Event) → RanBy turns draw tasks tells outcomes old new → RanAtOnce draw tasks tells outcomes old new
at-once None draw tasks tells outcomes old new r = r
at-once (Some turns) draw tasks tells outcomes old new r = record { own = r.ran.own; is = r.ran.is; careful = r.ran.careful; played = r.played }

-- the run of a script's tasks
pub plays-tasks : {V : Type 0} (draw : Draw) (script : Script) (tasks : List Task) (turns : Option (List Turn)) (old new : View) (result : Result V AllocError) (items : V → List Outcome) → tasks ≡ script.tasks → script.turns ≡ turns
    → IfOk result (λ v. RanBy turns draw tasks old.caller.tells (items v) old.seen new.seen)
    → IfOk result (λ v. length (items v) ≡ length tasks)
    → IfOk result (λ v. AllBlame (items v) old.faults new.faults)
    → old.faults ≤ new.faults → new.caller.tells ≡ old.caller.tells
    → IfOk result (λ v. PlaysTasks draw script old new (items v))
plays-tasks draw script tasks turns old new (Err error) items t e ran size blames counted tells = tt
plays-tasks draw script tasks turns old new (Ok v) items t e ran size blames counted tells = record {
  size = size ∙ ap length t;
  ran = subst (λ (o : Option (List Turn)). RanBy o draw script.tasks old.caller.tells (items v) old.seen new.seen) (sym e)
      (subst (λ (ts : List Task). RanBy turns draw ts old.caller.tells (items v) old.seen new.seen) t ran);
  blames = blames;
  counted = counted;
  tells = tells;
}

-- what is so of an answer
pub of-ok : {A E : Type 0} (P : A → Type 0) (r : Result A E) (a : A) → r ≡ Ok a → IfOk r P → P a
of-ok {A = A} {E = E} P r a is p = subst (λ (x : Result A E). IfOk x P) is p

-- ---- the journal is good
-- behind a machine that ran alone
pub good-behind : (tells : Bool) (old first new : View) {A : Type 0} (p : Program A) (result : Result A Refusal) → old.caller.tells ≡ tells → HasAll old.caller → first ≡ as_client 0 old → Runs first new p result → (tells ≡ true → IsGoodJournal old.seen) → tells ≡ true → IsGoodJournal new.seen
good-behind tells old first new p result law all is_first runs good telling =
    let r : Runs (as_client 0 old) new p result = subst (λ (v : View). Runs v new p result) is_first runs in
    let told : IsTrue old.caller.tells = law ∙ telling in
    let adds = r.alone told (record { low = all.low; end = all.end }) in
    subst IsGoodJournal (sym adds.is) (Each-append IsGood [] old.seen r.own (good telling) adds.good)

-- ---- what outcomes tell stays so through the events of client 0
-- the client's own events are its
own-client : (client : ℕ) (old events : List Event) → Each (λ h e. e.client ≡ client) old (events_of client events)
unfolding Each
own-client client old [] = tt
own-client client old (x ∷ xs) = by_client (x.client == client) refl (own-client client (old ++ x ∷ []) xs) (own-client client old xs)
  where
    by_client : (b : Bool) → (x.client == client) ≡ b → Each (λ h e. e.client ≡ client) (old ++ x ∷ []) (events_of client xs) → Each (λ h e. e.client ≡ client) old (events_of client xs) → Each (λ h e. e.client ≡ client) old (cond b (x ∷ events_of client xs) (events_of client xs))
    by_client true e on over = (eqb-true x.client client e, on)
    by_client false e on over = over

-- client 0's are others' for each task
zero-other : (tells : Bool) (place : ℕ) (journal : List Event) (event : Event) → IsGood journal event → event.client ≡ 0 → IsOther (only tells (place + 1)) journal event
zero-other tells place journal event good is =
    let differs : event.client ≢ place + 1 = λ e. not_next place (sym is ∙ e) in
    record { good = good; other = differs; not_owned = only-other tells place event.client differs }
  where
    not_next : (k : ℕ) → 0 ≢ k + 1
    not_next k e = omega (arith, e)

-- the events of a machine that client 0 ran alone are its
pub own-zero : (played new : View) {A : Type 0} (p : Program A) (result : Result A Refusal) (r : Runs (as_client 0 played) new p result) → IsTrue played.caller.tells → Each (λ h e. e.client ≡ 0) played.seen r.own
own-zero played new p result r told = let grows = r.grows told in subst (λ (xs : List Event). Each (λ h e. e.client ≡ 0) played.seen xs) grows.owned (own-client 0 played.seen grows.more)

-- a machine that client 0 ran alone leaves what the outcomes tell
pub told-on : OutcomeLaw → (draw : Draw) (tasks : List Task) (outcomes : List Outcome) (start : List Event) (played new : View) {A : Type 0} (p : Program A) (result : Result A Refusal) → Runs (as_client 0 played) new p result → HasAll played.caller → IsTrue played.caller.tells
    → AllTold draw tasks outcomes start played.seen → AllTold draw tasks outcomes start new.seen
told-on law draw tasks outcomes start played new p result r all told before place task outcome at_task at =
    let adds = r.alone told (record { low = all.low; end = all.end }) in
    let others : Each (IsOther (only true (place + 1))) played.seen r.own = Each-both IsGood (λ h e. e.client ≡ 0) (IsOther (only true (place + 1))) (zero-other true place) played.seen r.own adds.good (own-zero played new p result r told) in
    subst (λ (h : List Event). TellsAt draw place task start outcome h) (sym adds.is) (law (only true (place + 1)) (ids_at draw place) task outcome start played.seen r.own others (before place task outcome at_task at))

-- ---- the course
pub tells-on : (draw : Draw) (script : Script) (old new : View) (opening : Result (Unit {0}) Refusal) (outcomes : List Outcome) → Plays draw script old new opening outcomes → IsTrue old.caller.tells → IsTrue new.caller.tells
tells-on draw script old new (Ok done) outcomes p t = subst IsTrue (sym p.tells) t
tells-on draw script old new (Err why) outcomes p t = subst (λ (v : View). IsTrue v.caller.tells) (sym p.0) t

pub courses : OutcomeLaw → (draw : Draw) (script : Script) (old first begun played second new : View) (opening : Result (Unit {0}) Refusal) (outcomes : List Outcome) (refs : Result (List RefLine) Refusal) → first ≡ as_client 0 old → second ≡ as_client 0 played → HasAll old.caller → HasAll played.caller
    → Runs first begun begin_program opening → Plays draw script begun played opening outcomes → (IsTrue begun.caller.tells → AllTold draw script.tasks outcomes begun.seen played.seen) → Runs second new refs_program refs
    → Course draw script old new opening outcomes refs
courses law draw script old first begun played second new opening outcomes refs is_first is_second alone still begins plays told reads =
    let begins' : Runs (as_client 0 old) begun begin_program opening = subst (λ (v : View). Runs v begun begin_program opening) is_first begins in
    let reads' : Runs (as_client 0 played) new refs_program refs = subst (λ (v : View). Runs v new refs_program refs) is_second reads in
    record {
      begun = begun;
      played = played;
      alone = alone;
      still_alone = still;
      begins = begins';
      plays = plays;
      reads = reads';
      told = λ t.
          let begun_tells : IsTrue begun.caller.tells = subst (λ (b : Caller). IsTrue b.tells) (sym begins'.same) t in
          told-on law draw script.tasks outcomes begun.seen played new refs_program refs reads' still (tells-on draw script begun played opening outcomes plays begun_tells) (told begun_tells);
    }
