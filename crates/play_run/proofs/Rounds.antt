-- Rounds of turns.
use Rattle.std.proofs.Common.{◌≡◌, ℕ, ◌+◌, ◌-◌, ◌<◌, Bool, List, [], ◌∷◌, ◌++◌, refl, sym, ap, subst, ◌∙◌, length, arith, append-nil, append_assoc, add-zero, zero-add, length-append, map, replicate, take, zero, suc}
use Rattle.std.proofs.Common.{◌≢◌, ◌≤◌, ◌⊎◌, inl, inr, true, false, true≢false, eq-eqb, eqb-true, get_or, drop, Some, None}
use Rattle.std.specs.Prelude.{◌==◌, slice_get, All, IsTrue}
use Rattle.std.proofs.Math.Seq.{take-length, drop-length}
use Rattle.std.proofs.lemmas.Option.{slice_get_cases, slice_get_within, get_or_from_slice_get}
use Rattle.std.specs.List.{AllZip}
use Rattle.std.proofs.lemmas.List.Elements.{AllZip-push, length_all_zip}
use Rattle.std.proofs.lemmas.List.{replicate_more, take_more, length-take-le, map-append}
use Rattle.object_store.specs.declared.events.Event.{Event}
use Rattle.store_api.specs.Callers.{View, only}
use Rattle.store_api.specs.Plays.{Play, Ended, HasEnded, Comes, PlayLeads}
use Rattle.store_api.proofs.PlayLaws.{PlayKeeps-comes, PlayLeads-comes}
use Rattle.ice_ids.specs.declared.drawing.Draw.{Draw}
use Rattle.play_script.specs.declared.scripts.Task.{Task}
use Rattle.play_script.specs.declared.scripts.Turn.{Turn}
use Rattle.play_script.specs.Well.{IsWellTask}
use Rattle.play_outcome.specs.declared.outcome.Outcome.{Outcome}
use Rattle.play_tasks.specs.declared.worker.Worker.{Worker}
use Rattle.play_tasks.specs.Workers.{worker_rest}
use Rattle.play_tasks.specs.Playing.{task_play}
use Rattle.play_tasks.specs.Owing.{IsDue, BeforeChange}
use Rattle.play_tasks.specs.Laws.{TaskLaw}
use Rattle.play_tasks.specs.Tasks.{ids_at, TellsAt, plays_from, AllStand, HasEndedAt, AllBlame, AllTold}
use Rattle.play_tasks.proofs.Begun.{begun-undoomed}
use Rattle.play_run.specs.Order.{places_of, turns_of, Begin, RanTasks}
use Rattle.play_run.specs.inside.Taking.{TookTurn}
use Rattle.play_run.specs.inside.Going.{CanGo, Blame, Went}
use Rattle.play_run.proofs.Turning.{Went-trans, Went-took}
use Rattle.play_run.proofs.Paths.{played_turns}

-- one more turn of the worker at this place
pub Went-again : (n t : ℕ) (a b c : View) (ps mid qs : List (Play Outcome)) (result : Bool) → Went (replicate n t) a b ps mid → TookTurn t b c mid qs result → Went (replicate (n + 1) t) a c ps qs
Went-again n t a b c ps mid qs result w k = subst (λ (ts : List ℕ). Went ts a c ps qs) (replicate_more n t) (Went-trans (replicate n t) (t ∷ []) a b c ps mid qs w (Went-took t b c mid qs result k))

places_of-append : (xs ys : List Turn) → places_of (xs ++ ys) ≡ places_of xs ++ places_of ys
places_of-append [] ys = refl
places_of-append (x ∷ xs) ys = ap (λ (l : List ℕ). replicate x.count (x.client - 1) ++ l) (places_of-append xs ys) ∙ sym (append_assoc (replicate x.count (x.client - 1)) (places_of xs) (places_of ys))

-- the turns of one more word of the script
pub Went-places : (turns : List Turn) (x : Turn) (a b c : View) (ps mid qs : List (Play Outcome)) → Went (places_of turns) a b ps mid → Went (replicate x.count (x.client - 1)) b c mid qs → Went (places_of (turns ++ x ∷ [])) a c ps qs
Went-places turns x a b c ps mid qs v w =
    let more : places_of (turns ++ x ∷ []) ≡ places_of turns ++ replicate x.count (x.client - 1) = places_of-append turns (x ∷ []) ∙ ap (λ (l : List ℕ). places_of turns ++ l) (append-nil (replicate x.count (x.client - 1))) in
    subst (λ (ts : List ℕ). Went ts a c ps qs) (sym more) (Went-trans (places_of turns) (replicate x.count (x.client - 1)) a b c ps mid qs v w)

turns_of-more : (k : ℕ) (ns : List ℕ) (n : ℕ) → turns_of k (ns ++ n ∷ []) ≡ turns_of k ns ++ replicate n (k + length ns)
turns_of-more k [] n = rw (append-nil, add-zero) refl
turns_of-more k (m ∷ ns) n =
    let e : (k + 1) + length ns ≡ k + length (m ∷ ns) = omega arith in
    ap (λ (xs : List ℕ). replicate m k ++ xs) (turns_of-more (k + 1) ns n ∙ ap (λ (j : ℕ). turns_of (k + 1) ns ++ replicate n j) e) ∙ sym (append_assoc (replicate m k) (turns_of (k + 1) ns) (replicate n (k + length (m ∷ ns))))

-- one more worker to its end
pub Went-worker : (t : ℕ) (a b c : View) (ps mid qs : List (Play Outcome)) → ((counts : List ℕ) × (length counts ≡ t) × Went (turns_of 0 counts) a b ps mid) → ((n : ℕ) × Went (replicate n t) b c mid qs) → (counts : List ℕ) × (length counts ≡ t + 1) × Went (turns_of 0 counts) a c ps qs
Went-worker t a b c ps mid qs v w =
    let more : turns_of 0 (v.0 ++ w.0 ∷ []) ≡ turns_of 0 v.0 ++ replicate w.0 t = turns_of-more 0 v.0 w.0 ∙ ap (λ (j : ℕ). turns_of 0 v.0 ++ replicate w.0 j) (zero-add (length v.0) ∙ v.1) in
    (v.0 ++ w.0 ∷ [], length-append v.0 (w.0 ∷ []) ∙ ap (λ (j : ℕ). j + 1) v.1, subst (λ (ts : List ℕ). Went ts a c ps qs) (sym more) (Went-trans (turns_of 0 v.0) (replicate w.0 t) a b c ps mid qs v.2 w.1))

-- one more task
pub plays-more : (draw : Draw) (place : ℕ) (tasks : List Task) (task : Task) → plays_from draw place (tasks ++ task ∷ []) ≡ plays_from draw place tasks ++ task_play (ids_at draw (place + length tasks)) task ∷ []
plays-more draw place [] task = ap (λ (n : ℕ). task_play (ids_at draw n) task ∷ []) (sym (add-zero place))
plays-more draw place (t ∷ ts) task =
    let e : (place + 1) + length ts ≡ place + length (t ∷ ts) = omega arith in
    ap (λ (l : List (Play Outcome)). task_play (ids_at draw place) t ∷ l) (plays-more draw (place + 1) ts task ∙ ap (λ (n : ℕ). plays_from draw (place + 1) ts ++ task_play (ids_at draw n) task ∷ []) e)

-- all below the next place have ended
pub Below-more : (t : ℕ) (ps qs : List (Play Outcome)) → ((k : ℕ) → HasEndedAt k ps → HasEndedAt k qs) → ((k : ℕ) → k < t → HasEndedAt k ps) → HasEndedAt t qs → (k : ℕ) → k < t + 1 → HasEndedAt k qs
Below-more t ps qs others below last k less = decide (k == t) refl
  where
    decide : (b : Bool) → (k == t) ≡ b → HasEndedAt k qs
    decide true h = let same : k ≡ t = eqb-true k t h in subst (λ (n : ℕ). HasEndedAt n qs) (sym same) last
    decide false h =
        let differs : k ≢ t = λ s. let y = eq-eqb k t s in cc in
        others k (below k (omega (arith, differs, less)))

-- ---- the workers of tasks
abbrev came : Play Outcome → Play Outcome → Type 0
came p q = Comes p q

pub worker_more : (draw : Draw) (tasks : List Task) (place : ℕ) (task : Task) (ws : List Worker) (x : Worker) → place < length tasks → task ≡ get_or tasks place task → Begin draw (take place tasks) (map worker_rest ws)
    → Comes (task_play (ids_at draw place) task) (worker_rest x) → Begin draw (take (place + 1) tasks) (map worker_rest (ws ++ x ∷ []))
worker_more draw tasks place task ws x within is before own =
    let size : length (take place tasks) ≡ place = length-take-le place tasks (omega (arith, within)) in
    let last : plays_from draw 0 (take place tasks ++ task ∷ []) ≡ plays_from draw 0 (take place tasks) ++ task_play (ids_at draw place) task ∷ [] = plays-more draw 0 (take place tasks) task ∙ ap (λ (n : ℕ). plays_from draw 0 (take place tasks) ++ task_play (ids_at draw n) task ∷ []) (zero-add (length (take place tasks)) ∙ size) in
    let plays : plays_from draw 0 (take place tasks) ++ task_play (ids_at draw place) task ∷ [] ≡ plays_from draw 0 (take (place + 1) tasks) =
    sym last ∙ ap (λ (y : Task). plays_from draw 0 (take place tasks ++ y ∷ [])) is ∙ ap (plays_from draw 0) (sym (take_more tasks place task within)) in
    let both = AllZip-push came (plays_from draw 0 (take place tasks)) (map worker_rest ws) (task_play (ids_at draw place) task) (worker_rest x) before own in
    subst (λ (ps : List (Play Outcome)). AllZip came ps (map worker_rest (ws ++ x ∷ []))) plays
    (subst (λ (qs : List (Play Outcome)). AllZip came (plays_from draw 0 (take place tasks) ++ task_play (ids_at draw place) task ∷ []) qs) (sym (map-append worker_rest ws (x ∷ []))) both)

pub all_workers : (draw : Draw) (tasks : List Task) (place : ℕ) (ps : List (Play Outcome)) → length tasks ≤ place → place ≤ length tasks → Begin draw (take place tasks) ps → Begin draw tasks ps
all_workers draw tasks place ps over under b =
    let same : place ≡ length tasks = omega (arith, over, under) in
    subst (λ (ts : List Task). Begin draw ts ps) (ap (λ (n : ℕ). take n tasks) same ∙ take-length tasks) b

-- what the worker at a place begins with is what its task's play has come to
pub record IsPlay (draw : Draw) (place : ℕ) (tasks : List Task) (k : ℕ) (q : Play Outcome) : Type 0 where
  pub task : Task
  pub at : slice_get tasks k ≡ Some task
  pub comes : Comes (task_play (ids_at draw (place + k)) task) q

pub play_at : (draw : Draw) (place : ℕ) (tasks : List Task) (ps : List (Play Outcome)) (k : ℕ) (q : Play Outcome) → AllZip came (plays_from draw place tasks) ps → slice_get ps k ≡ Some q → IsPlay draw place tasks k q
play_at draw place [] [] k q z e = absurd (cc)
play_at draw place [] (p ∷ ps) k q z e = absurd z
play_at draw place (t ∷ ts) [] k q z e = absurd z
play_at draw place (t ∷ ts) (p ∷ ps) zero q z e =
    let same : p ≡ q = cc in
    record { task = t; at = refl; comes = subst (λ (x : Play Outcome). Comes (task_play (ids_at draw (place + 0)) t) x) same (subst (λ (n : ℕ). Comes (task_play (ids_at draw n) t) p) (sym (add-zero place)) z.0) }
play_at draw place (t ∷ ts) (p ∷ ps) (suc k) q z e =
    let r = play_at draw (place + 1) ts ps k q z.1 e in
    let next : (place + 1) + k ≡ place + suc k = omega arith in
    record { task = r.task; at = r.at; comes = subst (λ (n : ℕ). Comes (task_play (ids_at draw n) r.task) q) next r.comes }

well_at : (tasks : List Task) (k : ℕ) (task : Task) → All IsWellTask tasks → slice_get tasks k ≡ Some task → IsWellTask task
well_at tasks k task wells e = by_cases (slice_get_cases tasks k).1
  where
    by_cases : ((x : Task) × (k < length tasks) × (slice_get tasks k ≡ Some x) × (get_or tasks k x ≡ x)) ⊎ ((length tasks ≤ k) × (slice_get tasks k ≡ None)) → IsWellTask task
    by_cases (inl c) = subst IsWellTask (get_or_from_slice_get tasks k task task e) (wells k task c.1)
    by_cases (inr c) = absurd (cc)

-- tasks that are well begin so that each operation of theirs is polite and owed
pub AllStand-begin : TaskLaw → (draw : Draw) (tasks : List Task) (tells : Bool) (journal : List Event) (ps : List (Play Outcome)) → All IsWellTask tasks → Begin draw tasks ps → AllStand draw tasks journal tells ps journal
AllStand-begin law draw tasks tells journal ps wells b k q e =
    let r = play_at draw 0 tasks ps k q b e in
    let by = only tells (k + 1) in
    let comes : Comes (task_play (ids_at draw k) r.task) q = subst (λ (n : ℕ). Comes (task_play (ids_at draw n) r.task) q) (zero-add k) r.comes in
    let p = task_play (ids_at draw k) r.task in
    let well = law by (ids_at draw k) r.task journal (well_at tasks k r.task wells r.at) in
    record {
      task = r.task;
      at = r.at;
      careful = PlayKeeps-comes (IsDue (ids_at draw k) r.task (k + 1) journal) by p q journal comes well.0;
      before = PlayKeeps-comes (λ h client op. BeforeChange r.task client journal h op) by p q journal comes well.1;
      leads = PlayLeads-comes (TellsAt draw k r.task journal) by p q journal comes well.2;
    }

pub plays_size : (draw : Draw) (place : ℕ) (tasks : List Task) → length (plays_from draw place tasks) ≡ length tasks
plays_size draw place [] = refl
plays_size draw place (t ∷ ts) = ap suc (plays_size draw (place + 1) ts)

pub size_map : (ws : List Worker) → length (map worker_rest ws) ≡ length ws
size_map [] = refl
size_map (x ∷ xs) = ap suc (size_map xs)

pub begun_size : (draw : Draw) (tasks : List Task) (ps : List (Play Outcome)) → Begin draw tasks ps → length ps ≡ length tasks
begun_size draw tasks ps b = sym (length_all_zip came (plays_from draw 0 tasks) ps b) ∙ plays_size draw 0 tasks

pub workers_size : (draw : Draw) (tasks : List Task) (ws : List Worker) → Begin draw tasks (map worker_rest ws) → length ws ≡ length tasks
workers_size draw tasks ws b = sym (size_map ws) ∙ begun_size draw tasks (map worker_rest ws) b

pub went_size : (ts : List ℕ) (a b : View) (old new : List Worker) → Went ts a b (map worker_rest old) (map worker_rest new) → length new ≡ length old
went_size ts a b old new w = sym (size_map new) ∙ w.size ∙ size_map old

-- no play is bound to tell a fault of the store as it begins
pub none_blamed : (draw : Draw) (tasks : List Task) (ps : List (Play Outcome)) (m n : ℕ) → Begin draw tasks ps → Blame ps m n
none_blamed draw tasks ps m n b k p at doomed =
    let r = play_at draw 0 tasks ps k p b at in
    absurd (true≢false (sym doomed ∙ begun-undoomed (ids_at draw (0 + k)) r.task p r.comes))

-- ---- workers that have ended
middle_at : {X : Type 0} (xs ys : List X) (x : X) → slice_get (xs ++ x ∷ ys) (length xs) ≡ Some x
middle_at [] ys x = refl
middle_at (y ∷ xs) ys x = middle_at xs ys x

-- so the next of them has
pub ended_next : (ws before after : List Worker) (w : Worker) → before ++ w ∷ after ≡ ws → ((place : ℕ) → HasEndedAt place (map worker_rest ws)) → HasEnded (worker_rest w)
ended_next ws before after w e ended =
    let split : map worker_rest ws ≡ map worker_rest before ++ worker_rest w ∷ map worker_rest after = ap (map worker_rest) (sym e) ∙ map-append worker_rest before (w ∷ after) in
    ended (length (map worker_rest before)) (worker_rest w) (ap (λ (ps : List (Play Outcome)). slice_get ps (length (map worker_rest before))) split ∙ middle_at (map worker_rest before) (map worker_rest after) (worker_rest w))

-- nobody is at a place behind the last
pub ended_all : (ws : List Worker) → ((place : ℕ) → place < length ws → HasEndedAt place (map worker_rest ws)) → (place : ℕ) → HasEndedAt place (map worker_rest ws)
ended_all ws ended place p at = ended place (omega (arith, slice_get_within (map worker_rest ws) place p at, size_map ws)) p at

-- ---- the whole run
pub begins : TaskLaw → (draw : Draw) (tasks : List Task) (view : View) (ps : List (Play Outcome)) → All IsWellTask tasks → Begin draw tasks ps → CanGo view ps
begins law draw tasks view ps wells b told = record { draw = draw; tasks = tasks; start = view.seen; stand = AllStand-begin law draw tasks view.caller.tells view.seen ps wells b }

abbrev pub ends_of : List Outcome → List (Play Outcome)
ends_of outcomes = map (λ (o : Outcome). Ended o) outcomes

ends_size : (outcomes : List Outcome) → length (ends_of outcomes) ≡ length outcomes
ends_size [] = refl
ends_size (o ∷ os) = ap suc (ends_size os)

pub ends_at : (outcomes : List Outcome) (k : ℕ) (outcome : Outcome) → slice_get outcomes k ≡ Some outcome → slice_get (ends_of outcomes) k ≡ Some (Ended outcome)
ends_at [] k outcome e = absurd (cc)
ends_at (o ∷ os) zero outcome e = let same : o ≡ outcome = cc in ap (λ (x : Outcome). Some (Ended x)) same
ends_at (o ∷ os) (suc k) outcome e = ends_at os k outcome e

pub ended_told : (Q : Outcome → List Event → Type 0) (tells : Bool) (k : ℕ) (outcome : Outcome) (journal : List Event) → PlayLeads Q (only tells k) (Ended outcome) journal → Q outcome journal
unfolding PlayLeads
ended_told Q tells k outcome journal l = l

-- where the workers of these tasks went to these ends
module _ (law : TaskLaw) (draw : Draw) (tasks : List Task) (turns : List ℕ) (a c : View) (ps : List (Play Outcome)) (outcomes : List Outcome) (wells : All IsWellTask tasks) (first : Begin draw tasks ps) where
  abbrev pub Whole : Type 0
  Whole = (counts : List ℕ) × Went (turns ++ turns_of 0 counts) a c ps (ends_of outcomes)

  stand : AllStand draw tasks a.seen a.caller.tells ps a.seen
  stand = AllStand-begin law draw tasks a.caller.tells a.seen ps wells first

  pub ran_all : Whole → RanTasks draw tasks a.caller.tells turns outcomes a.seen c.seen
  ran_all w =
      record {
        begun = ps;
        begins = first;
        counts = w.0;
        ran = record {
          own = w.1.own;
          order = w.1.order;
          is = λ told. (w.1.kept draw tasks a.seen told stand).is;
          careful = λ told. (w.1.kept draw tasks a.seen told stand).careful;
        };
        played = played_turns draw tasks (turns ++ turns_of 0 w.0) ps w.1.own outcomes (ends_of outcomes) (begun_size draw tasks ps first) (ends_at outcomes) first w.1.order;
      }

  pub told_all : Whole → IsTrue a.caller.tells → AllTold draw tasks outcomes a.seen c.seen
  told_all w told place task outcome at_task at =
      let s = (w.1.kept draw tasks a.seen told stand).stand place (Ended outcome) (ends_at outcomes place outcome at) in
      let same : s.task ≡ task = some_same s.task (sym s.at ∙ at_task) in
      subst (λ (x : Task). TellsAt draw place x a.seen outcome c.seen) same (ended_told (TellsAt draw place s.task a.seen) c.caller.tells (place + 1) outcome c.seen s.leads)
    where
      some_same : (x : Task) → Some x ≡ Some task → x ≡ task
      some_same x h = cc

  pub blamed_all : Whole → AllBlame outcomes a.faults c.faults
  blamed_all w place outcome at failed =
      w.1.blames a.faults (omega arith) (none_blamed draw tasks ps a.faults a.faults first) place (Ended outcome) (ends_at outcomes place outcome at) failed

  pub size_all : Whole → length outcomes ≡ length tasks
  size_all w = sym (ends_size outcomes) ∙ w.1.size ∙ begun_size draw tasks ps first

-- a vector whose items were written in place
pub written_back : (len : ℕ) (new old : List Worker) → length new ≡ length old → len ≡ length old → take len (new ++ drop (length new) old) ≡ new
written_back len new old same whole =
    let nothing : drop (length new) old ≡ [] = ap (λ (n : ℕ). drop n old) same ∙ drop-length old in
    let size : len ≡ length new = whole ∙ sym same in
    ap (λ (l : List Worker). take len (new ++ l)) nothing ∙ ap (take len) (append-nil new) ∙ ap (λ (n : ℕ). take n new) size ∙ take-length new
