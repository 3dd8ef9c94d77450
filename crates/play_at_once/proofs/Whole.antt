-- The whole run at once.
use Rattle.std.proofs.Common.{◌≡◌, ℕ, ◌+◌, ◌≤◌, Bool, true, false, List, [], ◌∷◌, ◌++◌, length, refl, sym, ◌∙◌, subst, zero-add, arith}
use Rattle.std.specs.Prelude.{IsTrue, All, Some, slice_get}
use Rattle.std.proofs.lemmas.List.Elements.{All-nil, All-cons, All-weaker}
use Rattle.ice_base.proofs.Counts.{Rose-after}
use Rattle.ice_ids.specs.declared.drawing.Draw.{Draw}
use Rattle.turn_cell.specs.declared.known.Known.{Known}
use Rattle.turn_cell.specs.Owners.{IsOwner, all_owners}
use Rattle.turn_cell.specs.SeenJournals.{starting}
use Rattle.shared_store.specs.Told.{told}
use Rattle.object_store.specs.declared.events.Event.{Event}
use Rattle.store_api.specs.Journal.{Each}
use Rattle.store_api.specs.Program.{events_of}
use Rattle.store_api.specs.Plays.{Play, Comes}
use Rattle.object_store.proofs.Journals.{Each-weaker}
use Rattle.play_script.specs.declared.scripts.Task.{Task}
use Rattle.play_script.specs.Well.{IsWellTask}
use Rattle.play_outcome.specs.declared.outcome.Outcome.{Outcome}
use Rattle.play_tasks.specs.Playing.{task_play}
use Rattle.play_tasks.specs.Tasks.{ids_at, AllBlame, AllTold, IsOfClient}
use Rattle.play_tasks.proofs.Once.{task-once}
use Rattle.play_tasks.specs.Played.{PlaysTo, IsByTask, AllPlayed}
use Rattle.play_tasks.specs.Laws.{TaskLaw}
use Rattle.play_tasks.proofs.Paths.{PlaysTo-comes}
use Rattle.std.proofs.lemmas.Option.{slice_get_within}
use Rattle.play_run.specs.Order.{Begin}
use Rattle.play_run.proofs.Paths.{begun_at}
use Rattle.play_run.proofs.Rounds.{AllStand-begin, begun_size, none_blamed}
use Rattle.play_at_once.specs.Running.{RanAtOnce}
use Rattle.play_at_once.specs.inside.Stepping.{IsKnown}
use Rattle.play_at_once.specs.inside.Forking.{CanGo, HasPlaces, IsAmong, AllTell, RanAll}

-- what holds of each event holds of all
all-each : (P : Event → Type 0) (Q : List Event → Event → Type 0) → ((h : List Event) (e : Event) → Q h e → P e) → (old xs : List Event) → Each Q old xs → All P xs
unfolding Each
all-each P Q f old [] each = All-nil P
all-each P Q f old (x ∷ xs) each = All-cons P x xs (f old x each.0) (all-each P Q f (old ++ x ∷ []) xs each.1)

module _ (draw : Draw) (tasks : List Task) (ps : List (Play Outcome)) (begins : Begin draw tasks ps) where
  -- paths of the plays that the workers began with are paths of the tasks' plays
  played-by : (outcomes : List Outcome) (events : List Event) → All (IsByTask tasks) events
      → ((place : ℕ) (p : Play Outcome) (outcome : Outcome) → slice_get ps place ≡ Some p → slice_get outcomes place ≡ Some outcome → PlaysTo p (events_of (place + 1) events) outcome)
      → AllPlayed draw tasks outcomes events
  played-by outcomes events owned plays = record {
    owned = owned;
    plays = whole;
    once = λ place task outcome at_task at. task-once (ids_at draw place) task (events_of (place + 1) events) outcome (whole place task outcome at_task at);
  }
    where
      whole : (place : ℕ) (task : Task) (outcome : Outcome) → slice_get tasks place ≡ Some task → slice_get outcomes place ≡ Some outcome → PlaysTo (task_play (ids_at draw place) task) (events_of (place + 1) events) outcome
      whole place task outcome at_task at =
          let r = begun_at draw 0 tasks ps place task begins at_task in
          let comes = subst (λ (n : ℕ). Comes (task_play (ids_at draw n) task) r.q) (zero-add place) r.comes in
          PlaysTo-comes (task_play (ids_at draw place) task) r.q (events_of (place + 1) events) outcome comes (plays place r.q outcome r.at at)

  module _ (law : TaskLaw) (wells : All IsWellTask tasks) (faults : ℕ) (outcomes : List Outcome) (end : Known Event) (old new : List Event) where
    -- the store tells the journal, which is then that of the cell
    tell : (run : RanAll true (starting old faults) end ps outcomes) → AllTell draw tasks old (IsOwner all_owners) outcomes run.events old end.journal
    tell run = run.kept draw tasks old refl (AllStand-begin law draw tasks true old ps wells begins)

    of-client : (more : List Event) → Each (IsKnown draw tasks old (IsOwner all_owners)) old more → Each (IsOfClient draw tasks old) old more
    of-client more known = Each-weaker (IsKnown draw tasks old (IsOwner all_owners)) (IsOfClient draw tasks old) (λ h e k. k.mine (omega arith, tt)) old more known

    ran-for : (tells : Bool) → RanAll tells (starting (told tells old) faults) end ps outcomes → told tells new ≡ end.journal → RanAtOnce draw tasks tells outcomes old new
    ran-for true run journal =
        let t = tell run in
        let careful = of-client t.more t.known in
        let owned = all-each (IsByTask tasks) (IsOfClient draw tasks old) (λ h e o. record { place = o.place; within = slice_get_within tasks o.place o.task o.at; client = o.client }) old t.more careful in
        record {
          own = t.more;
          is = λ told. journal ∙ t.is;
          careful = λ told. careful;
          played = played-by outcomes t.more owned (λ place p outcome at_p at. subst (λ (xs : List Event). PlaysTo p xs outcome) (sym (t.alike place (slice_get_within outcomes place outcome at))) (run.plays place p outcome at_p at));
        }
    ran-for false run journal = record {
      own = run.events;
      is = λ told. absurd (cc);
      careful = λ told. absurd (cc);
      played = played-by outcomes run.events
          (All-weaker (IsAmong (length ps)) (IsByTask tasks) (λ e m. record { place = m.place; within = let within = m.within in let size = begun_size draw tasks ps begins in omega (arith, within, size); client = m.client }) run.events run.owned)
          run.plays;
    }

    told-for : (tells : Bool) → RanAll tells (starting (told tells old) faults) end ps outcomes → told tells new ≡ end.journal → IsTrue tells → AllTold draw tasks outcomes old new
    told-for true run journal is_told = subst (λ (h : List Event). AllTold draw tasks outcomes old h) (sym journal) (tell run).told
    told-for false run journal is_told = absurd (cc)

    module _ (tells by_view : Bool) (law_is : by_view ≡ tells) (start : Known Event) (start_is : start ≡ starting (told tells old) faults) (run : RanAll tells start end ps outcomes)
        (whole : end.owners ≡ all_owners → told tells new ≡ end.journal) where
      run' : RanAll tells (starting (told tells old) faults) end ps outcomes
      run' = subst (λ (k : Known Event). RanAll tells k end ps outcomes) start_is run

      journal : told tells new ≡ end.journal
      journal = whole run'.back.owners

      pub ran-whole : RanAtOnce draw tasks by_view outcomes old new
      ran-whole = subst (λ (b : Bool). RanAtOnce draw tasks b outcomes old new) (sym law_is) (ran-for tells run' journal)

      pub told-whole : IsTrue by_view → AllTold draw tasks outcomes old new
      told-whole is_told = told-for tells run' journal (subst (λ (b : Bool). IsTrue b) law_is is_told)

      pub size-whole : length outcomes ≡ length tasks
      size-whole = run.size ∙ begun_size draw tasks ps begins

      pub blamed-whole : (count : ℕ) → end.count ≤ count → AllBlame outcomes faults count
      blamed-whole count up place outcome at failed =
          Rose-after faults end.count count (run'.blames faults (omega arith) (none_blamed draw tasks ps faults faults begins) place outcome at failed) up

  pub CanGo-begin : TaskLaw → All IsWellTask tasks → (tells : Bool) (journal : List Event) → CanGo tells ps journal
  CanGo-begin law wells tells journal is_told = record { draw = draw; tasks = tasks; start = journal; stand = AllStand-begin law draw tasks tells journal ps wells begins }

pub HasPlaces-all : (count : ℕ) → HasPlaces all_owners count
HasPlaces-all count = record { low = refl; end = tt }
