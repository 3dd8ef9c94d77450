-- A run over an empty store gives no strange refusal.
use Rattle.std.proofs.Common.{◌≡◌, ◌≢◌, ℕ, ◌+◌, ◌<◌, ◌⊎◌, inl, inr, Bool, true, false, List, [], ◌∷◌, ◌++◌, length, refl, sym, ◌∙◌, ap, subst, append-nil, arith}
use Rattle.std.specs.Prelude.{◌≤◌, Some, None, Result, Ok, Err, All, IfOk, IsTrue, slice_get, get_or}
use Rattle.std.specs.declared.alloc.AllocError.{AllocError}
use Rattle.std.proofs.lemmas.List.Folds.{list_any_at}
use Rattle.std.proofs.lemmas.Option.{slice_get_cases, slice_get_within, get_or_from_slice_get}
use Rattle.ice_ids.specs.declared.Id12.{Id12}
use Rattle.ice_ids.specs.declared.drawing.AnyIds.{AnyIds}
use Rattle.ice_ids.specs.declared.drawing.Draw.{Draw}
use Rattle.ice_ids.specs.Drawing.{DrawsOnce}
use Rattle.zarr_tree.specs.Changes.{none}
use Rattle.object_store.specs.declared.keys.Key.{Key}
use Rattle.object_store.specs.declared.keys.Key.TheVariants.{Snapshot, Manifest, Txn, Chunk, Branch, Tag, Tombstone, Lease}
use Rattle.object_store.specs.declared.events.Op.{Op}
use Rattle.object_store.specs.declared.events.Op.TheVariants.{Get, PutNew, PutOver, Remove, RemoveAt, List as ListPart}
use Rattle.object_store.specs.declared.events.Event.{Event}
use Rattle.store_api.specs.declared.machines.Refusal.{Refusal}
use Rattle.store_api.specs.declared.machines.Refusal.TheVariants as R
use Rattle.store_api.specs.Journal.{Each, IsGood, IsGoodJournal}
use Rattle.store_api.specs.Callers.{Caller, View, HasAll, as_client}
use Rattle.store_api.specs.Program.{Done, Path, events_of}
use Rattle.store_api.proofs.Programs.{Path-none}
use Rattle.object_store.proofs.Journals.{Each-append, Each-back, Each-both, Each-none, Each-weaker}
use Rattle.session.specs.Sessions.{SessionState}
use Rattle.session.specs.Sources.{MayDrawObject}
use Rattle.commit_path.specs.Owed.{Sessions, OwesNew, Owes}
use Rattle.commit_path.specs.Single.{PutsNone}
use Rattle.collecting.specs.Runs.{walk_of}
use Rattle.collecting.specs.Walks.{MayDo, Walk}
use Rattle.expiry.specs.declared.terms.Terms.{Terms}
use Rattle.store_api.specs.Running.{Program, Runs}
use Rattle.repo_objects.specs.Laws.{InitialLaw, SnapshotLaw}
use Rattle.repository.specs.Beginning.{begin_program}
use Rattle.repository.specs.Refs.{refs_program}
use Rattle.play_script.specs.Collections.{has_collection, is_collection}
use Rattle.script_calls.specs.declared.calls.Head.{Head}
use Rattle.script_calls.specs.declared.calls.Head.TheVariants.{Session, Refs, Collect, Expire, Check}
use Rattle.play_script.specs.declared.scripts.Script.{Script}
use Rattle.play_script.specs.declared.scripts.Task.{Task}
use Rattle.play_script.specs.Well.{IsWell, IsWellTask}
use Rattle.play_outcome.specs.declared.outcome.End.{End}
use Rattle.play_outcome.specs.declared.outcome.Outcome.{Outcome}
use Rattle.play_outcome.specs.declared.outcome.RefLine.{RefLine}
use Rattle.play_expire.specs.Playing.{terms_of}
use Rattle.play_tasks.specs.Owing.{OwesBy}
use Rattle.play_tasks.specs.Playing.{headed_play, release_all, session_play, task_play}
use Rattle.play_tasks.specs.Telling.{TellsBy}
use Rattle.play_tasks.specs.Solving.{IsOfTask}
use Rattle.play_tasks.specs.Tasks.{ids_at, IsOfClient}
use Rattle.play_tasks.specs.Played.{PlaysTo}
use Rattle.run_histories.specs.Sources.{NodesAreNew, IsNewRun}
use Rattle.run_histories.specs.Runs.{IsBy, IsRun, IsSound, RanAlone}
use Rattle.run_histories.specs.Told.{NoneHidden, RunLaw}
use Rattle.run_histories.proofs.Expiring.{expiry-keeps, expiry-plain}
use Rattle.run_histories.proofs.Checking.{read-plain}
use Rattle.run_histories.proofs.Removals.{IsRemoval, gone-keeps}
use Rattle.run_histories.proofs.Programs.{IsCleanup, IsPlain, IsPlainOrCleanup, AllPlain, path-plain, begin-plain, refs-plain}
use Rattle.run_histories.proofs.Drawing.{IsDrawnBy, object-draws, drawn-apart, ids_at-of}
use Rattle.run_histories.proofs.Carrying.{task-draws}
use Rattle.run_histories.proofs.Along.{owes-plain, well-at}
use Rattle.run_histories.proofs.Passing.{IsKnown, known-holds, known-nodes}
use Rattle.run_histories.proofs.Running.{opening-nodes, run-known}
use Rattle.run_histories.proofs.Joined.{nothing-law}
use Rattle.play_course.specs.declared.course.Played.{Played}
use Rattle.play_course.specs.Course.{Course, Plays}
use Rattle.play_course.specs.Refusing.{strange_answer, strange_end, NothingStrange}
use Rattle.play_course.proofs.Tidy.{Client, Draws, IsTidy, IsAny, IsOthers, AllStand, Keeps, Puts, PutsNew, along, any-of, free-others, nothing-stands, puts-weaker, spared-chunk, spared-lease, spared-log, spared-manifest, spared-snapshot, stand-none, stand-one}
use Rattle.play_course.proofs.Meeting.{Watch, drawing, Meets, PlayMeets, IsWatched, followed-meets, plays-meets, meets-path}
use Rattle.play_course.proofs.Calling.{calls-meet}
use Rattle.play_course.proofs.Collecting.{collection-meets}
use Rattle.play_course.proofs.Expiring.{expiry-meets}
use Rattle.play_course.proofs.Checking.{check-plain, meets-any}
use Rattle.play_course.proofs.Tasks.{EndsFine, session-meets}
use Rattle.play_course.proofs.Leasing.{releases-meet}
use Rattle.play_course.proofs.Released.{released-made}
use Rattle.play_course.proofs.Hiding.{NeverHides, earlier-hides, told-plain}
use Rattle.play_course.proofs.Knowing.{IsSoFar, IsFreeId, OfOthers, OfOwn, Before, beside}
use Rattle.play_course.proofs.Playing.{at-once, tells-on}
use Rattle.play_course.proofs.Leaving.{ran-alone, course-run}
use Rattle.play_course.proofs.Edges.{plain-puts, plain-tidy, begin-meets, refs-meets}

-- ---- the ends of tasks
-- A task on refs ends by no strange refusal, nor does one that collects or expires; one that opens a session by none but one that says that a log hides a
-- node. Of one that checks, what it tells says so.
abbrev EndsBy : (collects : Bool) → Head → End → Type 0
EndsBy collects (Session access) end = EndsFine collects end
EndsBy collects Refs end = strange_end collects end ≡ false
EndsBy collects (Collect cutoff) end = strange_end collects end ≡ false
EndsBy collects (Expire cutoff drop_branches drop_tags) end = strange_end collects end ≡ false
EndsBy collects Check end = Unit {0}

-- what is told of a task says that it isn't by that either
told-by_head : (collects : Bool) (ids : AnyIds) (task : Task) (client : ℕ) (start journal : List Event) → IsGoodJournal journal → NeverHides ids task client start journal → (outcome : Outcome) → (head : Head) → task.head ≡ head → TellsBy head ids task client start outcome journal → EndsBy collects head outcome.end → strange_end collects outcome.end ≡ false
told-by_head collects ids task client start journal good never outcome (Session access) is told ends =
    let made = released-made client told.session.shown told.ended outcome.shown journal told.released in
    let hides = earlier-hides ids task client start told.ended journal good made never in
    ap (strange_end collects) told.end_is ∙ told-plain ids task client start told.ended hides access is collects told.session told.tells (subst (EndsFine collects) told.end_is ends)
told-by_head collects ids task client start journal good never outcome Refs is told ends = ends
told-by_head collects ids task client start journal good never outcome (Collect cutoff) is told ends = ends
told-by_head collects ids task client start journal good never outcome (Expire cutoff drop_branches drop_tags) is told ends = ends
told-by_head collects ids task client start journal good never outcome Check is told ends = check-plain collects task.line client start outcome journal told

-- where a task collects, some one does
collects-at : (tasks : List Task) (place : ℕ) (task : Task) (cutoff : ℕ) → slice_get tasks place ≡ Some task → task.head ≡ Collect cutoff → has_collection tasks ≡ true
collects-at tasks place task cutoff at head_is =
    list_any_at (λ (t : Task). is_collection t.head) tasks place task (slice_get_within tasks place task at)
    (ap (λ (t : Task). is_collection t.head) (get_or_from_slice_get tasks place task task at) ∙ ap is_collection head_is)

-- ---- the events of tasks
-- an id of a client's is one that it drew
new-puts : (ids : AnyIds) (mine : Sessions) (who : Id12 → Type 0) → ((h : List Event) (s : SessionState) (id : Id12) → mine h s id → who id) → ((id : Id12) → MayDrawObject ids id → who id) → (journal : List Event) (bytes : List ℕ) (key : Key) → OwesNew ids mine journal bytes key → PutsNew who bytes key
new-puts ids mine who f g journal bytes (Snapshot id) o = ((o.snap, o.read), inr (f journal o.session id o.is_mine, record { snap = o.snap; read = o.read; parent = o.session.base; parent_is = o.parent }))
new-puts ids mine who f g journal bytes (Txn id) o = g id o
new-puts ids mine who f g journal bytes (Manifest id) o = g id o
new-puts ids mine who f g journal bytes (Chunk id) o = g id o
new-puts ids mine who f g journal bytes (Branch name) o = absurd o
new-puts ids mine who f g journal bytes (Tag name) o = absurd o
new-puts ids mine who f g journal bytes (Tombstone name) o = absurd o
new-puts ids mine who f g journal bytes (Lease id) o = g id o

owes-puts : (ids : AnyIds) (mine : Sessions) (who : Id12 → Type 0) → ((h : List Event) (s : SessionState) (id : Id12) → mine h s id → who id) → ((id : Id12) → MayDrawObject ids id → who id) → (journal : List Event) (op : Op) → Owes ids mine journal op → Puts who op
owes-puts ids mine who f g journal (Get key) o = tt
owes-puts ids mine who f g journal (ListPart part) o = tt
owes-puts ids mine who f g journal (PutNew key bytes why) o = new-puts ids mine who f g journal bytes key o
owes-puts ids mine who f g journal (PutOver key bytes old why) o = tt
owes-puts ids mine who f g journal (Remove key why) o = tt
owes-puts ids mine who f g journal (RemoveAt key old why) o = absurd o

-- what a collection may do puts nothing
may-puts : (cutoff : ℕ) (w : Walk) (who : Id12 → Type 0) (op : Op) → MayDo cutoff w op → Puts who op
may-puts cutoff w who (Get key) m = tt
may-puts cutoff w who (ListPart part) m = tt
may-puts cutoff w who (Remove key why) m = tt
may-puts cutoff w who (PutNew key bytes why) m = absurd m
may-puts cutoff w who (PutOver key bytes old why) m = absurd m
may-puts cutoff w who (RemoveAt key old why) m = absurd m

-- what an expiry owes is plain or cleans up, and what cleans up puts nothing new
cleanup-puts : (who : Id12 → Type 0) (op : Op) → IsCleanup op → Puts who op
cleanup-puts who (Get key) c = absurd c
cleanup-puts who (ListPart part) c = absurd c
cleanup-puts who (PutNew key bytes why) c = absurd c
cleanup-puts who (PutOver key bytes old why) c = tt
cleanup-puts who (Remove key why) c = tt
cleanup-puts who (RemoveAt key old why) c = absurd c

either-puts : InitialLaw → (who : Id12 → Type 0) (op : Op) → IsPlainOrCleanup op → Puts who op
either-puts initial who op (inl p) = puts-weaker (λ id. ⊥) who (λ id d. absurd d) op (plain-puts initial op p)
either-puts initial who op (inr c) = cleanup-puts who op c

-- a task that opens a session removes no object, nor does the opening, the closing reading, or a task on refs; and an expiry removes no object
owes-keeps : (ids : AnyIds) (mine : Sessions) (journal : List Event) (op : Op) → Owes ids mine journal op → Keeps op
owes-keeps ids mine journal (Get key) o = tt
owes-keeps ids mine journal (ListPart part) o = tt
owes-keeps ids mine journal (PutNew key bytes why) o = tt
owes-keeps ids mine journal (PutOver key bytes old why) o = tt
owes-keeps ids mine journal (Remove key why) o = gone-keeps ids why key o
owes-keeps ids mine journal (RemoveAt key old why) o = absurd o

plain-keeps : (op : Op) → IsPlain op → Keeps op
plain-keeps (Get key) p = tt
plain-keeps (ListPart part) p = tt
plain-keeps (PutNew key bytes why) p = tt
plain-keeps (PutOver key bytes old why) p = tt
plain-keeps (Remove key why) p = absurd p
plain-keeps (RemoveAt key old why) p = p

cleanup-keeps : (op : Op) → IsCleanup op → ¬ IsRemoval op → Keeps op
cleanup-keeps (Get key) c stays = tt
cleanup-keeps (ListPart part) c stays = tt
cleanup-keeps (PutNew key bytes why) c stays = tt
cleanup-keeps (PutOver key bytes old why) c stays = tt
cleanup-keeps (Remove key why) c stays = stays
cleanup-keeps (RemoveAt key old why) c stays = absurd c

either-keeps : (op : Op) → IsPlainOrCleanup op → ¬ IsRemoval op → Keeps op
either-keeps op (inl p) stays = plain-keeps op p
either-keeps op (inr c) stays = cleanup-keeps op c stays

module _ (initial : InitialLaw) (draw : Draw) (tasks : List Task) (once : DrawsOnce draw (length tasks)) (wells : All IsWellTask tasks) where
  -- the client of a task
  abbrev client_at : (place : ℕ) → place < length tasks → Client
  client_at place within = record { collects = has_collection tasks; draw = draw; most = length tasks; once = once; number = place + 1; small = omega (arith, within) }

  -- what a client puts is under ids that it drew
  client-tidy : (start journal : List Event) (event : Event) → (c : IsOfClient draw tasks start journal event) → IsTidy (IsDrawnBy draw (c.place + 1)) journal event
  client-tidy start journal event c = record { good = c.careful.good; puts = by_head c.task.head c.careful.owes }
    where
      by_head : (head : Head) → OwesBy head (ids_at draw c.place) c.task (c.place + 1) start journal event.op → Puts (IsDrawnBy draw (c.place + 1)) event.op
      by_head (Session access) o =
          owes-puts (ids_at draw c.place) (IsOfTask (ids_at draw c.place) c.task (c.place + 1) start) (IsDrawnBy draw (c.place + 1))
          (λ h s id m. task-draws (ids_at draw c.place) c.task (c.place + 1) start h s id (well-at draw tasks wells c.place c.task c.at) m draw (c.place + 1) (ids_at-of draw c.place))
          (λ id m. object-draws draw (c.place + 1) (ids_at draw c.place) id (ids_at-of draw c.place) m) journal event.op o
      by_head Refs o = either-puts initial (IsDrawnBy draw (c.place + 1)) event.op (inl (owes-plain event.op o))
      by_head (Collect cutoff) o = may-puts cutoff (walk_of cutoff (c.place + 1) start journal) (IsDrawnBy draw (c.place + 1)) event.op o.may.1
      by_head (Expire cutoff drop_branches drop_tags) o = either-puts initial (IsDrawnBy draw (c.place + 1)) event.op (expiry-plain (terms_of cutoff drop_branches drop_tags) (c.place + 1) start journal event.op o)
      by_head Check o = either-puts initial (IsDrawnBy draw (c.place + 1)) event.op (inl (read-plain event.op o))

  anybody : (start journal : List Event) (event : Event) → IsOfClient draw tasks start journal event → IsAny journal event
  anybody start journal event c = any-of (IsDrawnBy draw (c.place + 1)) journal event (client-tidy start journal event c)

  -- where no task collects, it removes no object
  client-keeps : has_collection tasks ≡ false → (start journal : List Event) (event : Event) → IsOfClient draw tasks start journal event → Keeps event.op
  client-keeps nobody start journal event c = by_head c.task.head refl c.careful.owes
    where
      by_head : (head : Head) → c.task.head ≡ head → OwesBy head (ids_at draw c.place) c.task (c.place + 1) start journal event.op → Keeps event.op
      by_head (Session access) is o = owes-keeps (ids_at draw c.place) (IsOfTask (ids_at draw c.place) c.task (c.place + 1) start) journal event.op o
      by_head Refs is o = plain-keeps event.op (owes-plain event.op o)
      by_head (Collect cutoff) is o = let both = sym (collects-at tasks c.place c.task cutoff c.at is) ∙ nobody in absurd cc
      by_head (Expire cutoff drop_branches drop_tags) is o =
          let t : Terms = terms_of cutoff drop_branches drop_tags in
          either-keeps event.op (expiry-plain t (c.place + 1) start journal event.op o) (expiry-keeps t (c.place + 1) start journal event.op o)
      by_head Check is o = plain-keeps event.op (read-plain event.op o)

  -- two clients of tasks draw no id both
  apart : (a b : ℕ) (id : Id12) → a < length tasks → b < length tasks → IsDrawnBy draw (a + 1) id → IsDrawnBy draw (b + 1) id → a + 1 ≡ b + 1
  apart a b id first second d e = drawn-apart draw (length tasks) once (a + 1) (b + 1) id (omega (arith, first)) (omega (arith, second)) d e

  another : (k : ℕ) (within : k < length tasks) (start journal : List Event) (event : Event) → event.client ≢ k + 1 → IsOfClient draw tasks start journal event → IsOthers (client_at k within) journal event
  another k within start journal event n c =
      let t = client-tidy start journal event c in
      record {
        good = t.good;
        puts = puts-weaker (IsDrawnBy draw (c.place + 1)) (λ id. ¬ IsDrawnBy draw (k + 1) id) (λ id d e. n (c.client ∙ apart c.place k id (slice_get_within tasks c.place c.task c.at) within d e)) event.op t.puts;
      }

-- ---- what is known along a run
-- what holds behind each event
after-each : (P : List Event → Event → Type 0) (Inv : List Event → Type 0) → ((journal : List Event) (event : Event) → P journal event → Inv journal → Inv (journal ++ event ∷ [])) → (old xs : List Event) → Each P old xs → Inv old → Each (λ journal event. Inv (journal ++ event ∷ [])) old xs
unfolding Each
after-each P Inv step old [] each inv = tt
after-each P Inv step old (x ∷ xs) each inv = (step old x each.0 inv, after-each P Inv step (old ++ x ∷ []) xs each.1 (step old x each.0 inv))

-- over an empty store, where the tasks began behind this opening
module _ (initial : InitialLaw) (run : RunLaw) (draw : Draw) (tasks : List Task) (once : DrawsOnce draw (length tasks)) (wells : All IsWellTask tasks) (begun : List Event) (opening : RanAlone begin_program [] begun) where
  -- nothing was done before
  abbrev new_run : IsNewRun draw tasks []
  new_run = record { once = once; sources = λ place within. nothing-law.1 (ids_at draw place); unput = λ collects place within. nothing-law.2 (ids_at draw place) }

  -- these events of the tasks are a run
  abbrev run_of : (own : List Event) → Each (IsOfClient draw tasks begun) begun own → IsRun draw tasks [] (begun ++ own)
  run_of own owed = record {
    well = wells;
    begun = begun;
    played = begun ++ own;
    opening = opening;
    playing = record { own = own; is = refl; owed = owed };
    closing = record { own = []; is = sym (append-nil (begun ++ own)); good = Each-none IsGood (begun ++ own); left = refs_program; path = Path-none refs_program };
    reader = Each-none (IsBy 0) (begun ++ own);
  }

  opening-plain : Each (λ journal event. IsPlain event.op) [] opening.own
  opening-plain = path-plain begin_program [] opening.own opening.left begin-plain opening.path

  -- ---- the opening
  opening-tidy : Each (IsTidy (λ id. ⊥)) [] opening.own
  opening-tidy = plain-tidy initial [] opening.own opening.good opening-plain

  begun-tidy : Each IsAny [] begun
  begun-tidy = subst (λ (h : List Event). Each IsAny [] h) (sym opening.is) (Each-weaker (IsTidy (λ id. ⊥)) IsAny (any-of (λ id. ⊥)) [] opening.own opening-tidy)

  begun-stand : AllStand begun
  begun-stand = subst AllStand (sym opening.is) (along (λ journal event. IsPlain event.op) AllStand (λ h e p. stand-one h e (plain-keeps e.op p)) [] opening.own opening-plain stand-none)

  begun-so_far : IsSoFar (has_collection tasks) begun
  begun-so_far =
      let nobody : Each (IsOfClient draw tasks begun) begun [] = Each-none (IsOfClient draw tasks begun) begun in
      let h = run draw tasks (λ n. none) [] (begun ++ []) (nothing-law.0 (λ n. none)) new_run (run_of [] nobody) in
      let s = subst (λ (j : List Event). IsSound j h.changes) (append-nil begun) h.sound in
      record { once = s.once; trees = s.trees; causes = s.causes; stand = λ nobody. begun-stand }

  begun-free : (client : Client) (id : Id12) → Draws client id → IsFreeId begun id
  begun-free client id d = subst (λ (h : List Event). IsFreeId h id) (sym opening.is) (record {
    snapshot = free-others (λ i. ⊥) (Snapshot id) [] opening.own (spared-snapshot client id d (λ i. ⊥) (λ x. x)) opening-tidy (nothing-stands (Snapshot id));
    log = free-others (λ i. ⊥) (Txn id) [] opening.own (spared-log id (λ i. ⊥) (λ x. x)) opening-tidy (nothing-stands (Txn id));
    manifest = free-others (λ i. ⊥) (Manifest id) [] opening.own (spared-manifest id (λ i. ⊥) (λ x. x)) opening-tidy (nothing-stands (Manifest id));
    chunk = free-others (λ i. ⊥) (Chunk id) [] opening.own (spared-chunk id (λ i. ⊥) (λ x. x)) opening-tidy (nothing-stands (Chunk id));
    lease = free-others (λ i. ⊥) (Lease id) [] opening.own (spared-lease id (λ i. ⊥) (λ x. x)) opening-tidy (nothing-stands (Lease id));
  })

  -- what a client of the run knows when the tasks begin
  begun-before : (place : ℕ) (within : place < length tasks) → Before (client_at initial draw tasks once wells place within) (ids_at draw place) begun
  begun-before place within =
      let client : Client = client_at initial draw tasks once wells place within in
      record { tidy = begun-tidy; so_far = begun-so_far; free = λ id m. begun-free client id (object-draws draw (place + 1) (ids_at draw place) id (ids_at-of draw place) m) }

  -- ---- the tasks
  module _ (own : List Event) (owed : Each (IsOfClient draw tasks begun) begun own) where
    abbrev Known : List Event → Event → Type 0
    Known = IsKnown draw tasks once wells initial [] begun

    -- what was put stands, where no task collects
    abbrev Stands : List Event → Type 0
    Stands journal = has_collection tasks ≡ false → AllStand journal

    -- an event is of a client, what holds of the journal is known, and what was put stands behind it
    abbrev Comes : List Event → Event → Type 0
    Comes journal event = IsOfClient draw tasks begun journal event × Known journal event × Stands (journal ++ event ∷ [])

    known-own : Each Known begun own
    known-own =
        let whole : Each Known [] (opening.own ++ (own ++ [])) = run-known initial draw tasks (λ n. none) [] (begun ++ own) (nothing-law.0 (λ n. none)) new_run (run_of own owed) in
        let behind : Each Known begun (own ++ []) = subst (λ (j : List Event). Each Known j (own ++ [])) (sym opening.is) (Each-back Known [] opening.own (own ++ []) whole).1 in
        (Each-back Known begun own [] behind).0

    stand-own : Each (λ journal event. Stands (journal ++ event ∷ [])) begun own
    stand-own =
        after-each (IsOfClient draw tasks begun) Stands (λ h e c all nobody. stand-one h e (client-keeps initial draw tasks once wells nobody begun h e c) (all nobody)) begun own owed (λ nobody. begun-stand)

    comes-own : Each Comes begun own
    comes-own =
        let Rest : List Event → Event → Type 0 = λ h e. Known h e × Stands (h ++ e ∷ []) in
        let rest = Each-both Known (λ h e. Stands (h ++ e ∷ [])) Rest (λ h e k s. (k, s)) begun own known-own stand-own in
        Each-both (IsOfClient draw tasks begun) Rest Comes (λ h e c k. (c, k.0, k.1)) begun own owed rest

    -- ---- one task
    module _ (k : ℕ) (within : k < length tasks) where
      abbrev client : Client
      client = client_at initial draw tasks once wells k within

      abbrev ids : AnyIds
      ids = ids_at draw k

      abbrev watch : Watch
      watch = beside client ids

      after-so_far : (journal : List Event) (event : Event) → Comes journal event → IsSoFar (has_collection tasks) (journal ++ event ∷ [])
      after-so_far journal event c =
          let h = known-holds draw tasks once wells initial [] begun journal event c.1 in
          record { once = h.once; trees = h.trees; causes = h.causes; stand = c.2 }

      nodes-stay : (journal : List Event) (event : Event) → Known journal event → PutsNone (k + 1) journal event → NodesAreNew ids journal → NodesAreNew ids (journal ++ event ∷ [])
      nodes-stay journal event known none new = known-nodes draw tasks once wells initial [] begun k within journal event known none new

      by-other : (journal : List Event) (event : Event) → event.client ≢ k + 1 → Comes journal event → OfOthers client ids journal event
      by-other journal event differs c = record {
        tidy = another initial draw tasks once wells k within begun journal event differs c.0;
        after = after-so_far journal event c;
        nodes = λ new. nodes-stay journal event c.1 (λ e p. differs e) new;
      }

      by-itself : (journal : List Event) (event : Event) → Comes journal event → OfOwn client ids journal event
      by-itself journal event c = record {
        tidy = anybody initial draw tasks once wells begun journal event c.0;
        after = after-so_far journal event c;
        nodes = λ none new. nodes-stay journal event c.1 (λ e p. none p) new;
      }

      -- of a task that opens a session, calls on refs, collects, expires, or checks
      headed-well : SnapshotLaw → (task : Task) → slice_get tasks k ≡ Some task → Before client ids begun → NodesAreNew ids begun → (head : Head) → task.head ≡ head → PlayMeets (λ o. EndsBy (has_collection tasks) head o.end) watch (headed_play head ids task) begun
      headed-well law task at before nodes (Session access) is =
          followed-meets (λ (o : Outcome). EndsFine (has_collection tasks) o.end) (λ (o : Outcome). EndsFine (has_collection tasks) o.end) watch (session_play ids access task.line task.body) release_all begun
          (session-meets client ids law access task.line task.body (well-at draw tasks wells k task at).body begun (ids_at-of draw k) before nodes) (λ o h fine. releases-meet (EndsFine (has_collection tasks)) watch o.end fine [] o.shown h)
      headed-well law task at before nodes Refs is = calls-meet client ids task.body [] begun (record { tidy = before.tidy; so_far = before.so_far })
      headed-well law task at before nodes (Collect cutoff) is = collection-meets client ids law (collects-at tasks k task cutoff at is) task.line cutoff begun (record { tidy = before.tidy; so_far = before.so_far })
      headed-well law task at before nodes (Expire cutoff drop_branches drop_tags) is = expiry-meets client ids task.line (terms_of cutoff drop_branches drop_tags) begun (record { tidy = before.tidy; so_far = before.so_far })
      headed-well law task at before nodes Check is = meets-any (λ (o : Outcome). EndsBy (has_collection tasks) Check o.end) (λ o. tt) watch (headed_play Check ids task) begun

      -- it ends so, whatever the order in which the tasks' clients act
      ends-well : SnapshotLaw → (task : Task) → slice_get tasks k ≡ Some task → (outcome : Outcome) → PlaysTo (task_play ids task) (events_of (k + 1) own) outcome → EndsBy (has_collection tasks) task.head outcome.end
      ends-well law task at outcome plays =
          let nodes : NodesAreNew ids begun = opening-nodes initial draw tasks (λ n. none) [] (begun ++ own) (nothing-law.0 (λ n. none)) new_run (run_of own owed) begun opening k within in
          plays-meets (λ o. EndsBy (has_collection tasks) task.head o.end) watch (k + 1) (task_play ids task) begun own outcome
          (Each-weaker Comes (IsWatched (λ (o : Outcome). EndsBy (has_collection tasks) task.head o.end) watch (k + 1)) (λ h event c. (λ e. by-itself h event c, λ differs. by-other h event differs c)) begun own comes-own)
          plays (headed-well law task at (begun-before k within) nodes task.head refl)

-- ---- the opening and the closing reading
-- a program that was run alone: its events put nothing under drawn ids, and it came to its end or wanted memory
record Alone {A : Type 0} (p : Program A) (result : Result A Refusal) (old new : List Event) : Type 0 where
  pub own : List Event
  pub is : new ≡ old ++ own
  pub tidy : Each (IsTidy (λ id. ⊥)) old own
  pub plain : Each (λ journal event. IsPlain event.op) old own
  pub ends : Path p own (Done result) ⊎ (result ≡ Err R.NoMemory)

was-alone : InitialLaw → {A : Type 0} (p : Program A) (result : Result A Refusal) (old new : View) → AllPlain p → IsTrue old.caller.tells → HasAll old.caller → Runs old new p result → Alone p result old.seen new.seen
was-alone initial p result old new plain told all r =
    let adds = r.alone told all in
    elim r.ends [
      | inl path ↦ let each = path-plain p old.seen r.own (Done result) plain path in record { own = r.own; is = adds.is; tidy = plain-tidy initial old.seen r.own adds.good each; plain = each; ends = inl path }
      | inr cut ↦ let each = path-plain p old.seen r.own cut.left plain cut.path in record { own = r.own; is = adds.is; tidy = plain-tidy initial old.seen r.own adds.good each; plain = each; ends = inr cut.result_is }
    ]

answers-plain : {A : Type 0} (p : Program A) (result : Result A Refusal) (old new : List Event) → Alone p result old new → Meets (λ r h. strange_answer r ≡ false) (drawing (λ id. ⊥)) p old → strange_answer result ≡ false
answers-plain p result old new a m = elim a.ends [
  | inl path ↦ meets-path (λ r. strange_answer r ≡ false) (drawing (λ id. ⊥)) p old a.own result (Each-weaker (IsTidy (λ id. ⊥)) IsAny (any-of (λ id. ⊥)) old a.own a.tidy) path m
  | inr none ↦ ap strange_answer none
]

-- ---- the run
module _ (initial : InitialLaw) (run : RunLaw) (law : SnapshotLaw) (draw : Draw) (script : Script) (once : DrawsOnce draw (length script.tasks)) (wells : All IsWellTask script.tasks) where
  plays-tidy : (old new : View) (opening : Result (Unit {0}) Refusal) (outcomes : List Outcome) → IsTrue old.caller.tells → Plays draw script old new opening outcomes → Each IsAny [] old.seen → Each IsAny [] new.seen
  plays-tidy old new (Ok done) outcomes told p tidy =
      let r = at-once script.turns draw script.tasks old.caller.tells outcomes old.seen new.seen p.ran in
      subst (λ (h : List Event). Each IsAny [] h) (sym (r.is told)) (Each-append IsAny [] old.seen r.own tidy (Each-weaker (IsOfClient draw script.tasks old.seen) IsAny (anybody initial draw script.tasks once wells old.seen) old.seen r.own (r.careful told)))
  plays-tidy old new (Err why) outcomes told p tidy = subst (λ (v : View). Each IsAny [] v.seen) (sym p.0) tidy

  -- each task ends so
  plays-fine : (old new : View) (opening : Result (Unit {0}) Refusal) (outcomes : List Outcome) → IsTrue old.caller.tells → Plays draw script old new opening outcomes → RanAlone begin_program [] old.seen
      → (place : ℕ) (outcome : Outcome) → slice_get outcomes place ≡ Some outcome → (task : Task) → slice_get script.tasks place ≡ Some task → EndsBy (has_collection script.tasks) task.head outcome.end
  plays-fine old new (Ok done) outcomes told p opened place outcome at task there =
      let r = at-once script.turns draw script.tasks old.caller.tells outcomes old.seen new.seen p.ran in
      ends-well initial run draw script.tasks once wells old.seen opened r.own (r.careful told) place (slice_get_within script.tasks place task there) law task there outcome (r.played.plays place task outcome there at)
  plays-fine old new (Err why) outcomes told p opened place outcome at task there = let no = sym (ap (λ (os : List Outcome). slice_get os place) p.1) ∙ at in absurd cc

  -- there is a task for each outcome
  task-of : (old new : View) (opening : Result (Unit {0}) Refusal) (outcomes : List Outcome) → Plays draw script old new opening outcomes → (place : ℕ) (outcome : Outcome) → slice_get outcomes place ≡ Some outcome → (task : Task) × (slice_get script.tasks place ≡ Some task)
  task-of old new (Ok done) outcomes p place outcome at = by_cases (slice_get_cases script.tasks place).1
    where
      within : place < length script.tasks
      within = subst (λ (n : ℕ). place < n) p.size (slice_get_within outcomes place outcome at)

      by_cases : ((x : Task) × (place < length script.tasks) × (slice_get script.tasks place ≡ Some x) × (get_or script.tasks place x ≡ x)) ⊎ ((length script.tasks ≤ place) × (slice_get script.tasks place ≡ None)) → (task : Task) × (slice_get script.tasks place ≡ Some task)
      by_cases (inl c) = (c.0, c.2)
      by_cases (inr c) = let past = c.0 in absurd (omega (arith, past, within))
  task-of old new (Err why) outcomes p place outcome at = let no = sym (ap (λ (os : List Outcome). slice_get os place) p.1) ∙ at in absurd cc

  pub course-plain : (old new : View) (opening : Result (Unit {0}) Refusal) (outcomes : List Outcome) (refs : Result (List RefLine) Refusal) → (c : Course draw script old new opening outcomes refs) → NoneHidden draw script.tasks old.seen new.seen → IsGoodJournal new.seen → IsTrue old.caller.tells → old.seen ≡ []
      → NothingStrange (has_collection script.tasks) opening outcomes refs
  course-plain old new opening outcomes refs c none good told empty =
      let all : HasAll (as_client 0 old).caller = record { low = c.alone.low; end = c.alone.end } in
      let last_all : HasAll (as_client 0 c.played).caller = record { low = c.still_alone.low; end = c.still_alone.end } in
      let begun_tells : IsTrue c.begun.caller.tells = subst (λ (b : Caller). IsTrue b.tells) (sym c.begins.same) told in
      let played_tells : IsTrue c.played.caller.tells = tells-on draw script c.begun c.played opening outcomes c.plays begun_tells in
      let first : Alone begin_program opening [] c.begun.seen = subst (λ (h : List Event). Alone begin_program opening h c.begun.seen) empty (was-alone initial begin_program opening (as_client 0 old) c.begun begin-plain told all c.begins) in
      let last : Alone refs_program refs c.played.seen new.seen = was-alone initial refs_program refs (as_client 0 c.played) new refs-plain played_tells last_all c.reads in
      let opened : RanAlone begin_program old.seen c.begun.seen = ran-alone begin_program opening (as_client 0 old) c.begun told all c.begins in
      let behind : RanAlone begin_program [] c.begun.seen = subst (λ (h : List Event). RanAlone begin_program h c.begun.seen) empty opened in
      let tidy : Each IsAny [] c.begun.seen = begun-tidy initial run draw script.tasks once wells c.begun.seen behind in
      let fine = plays-fine c.begun c.played opening outcomes begun_tells c.plays behind in
      record {
        opened = answers-plain begin_program opening [] c.begun.seen first (begin-meets (λ id. ⊥) []);
        tasks = λ place outcome at.
            let task = task-of c.begun c.played opening outcomes c.plays place outcome at in
            told-by_head (has_collection script.tasks) (ids_at draw place) task.0 (place + 1) c.begun.seen new.seen good (λ lost since key bad. none c.begun.seen since place task.0 lost key bad opened task.1) outcome task.0.head refl (c.told told place task.0 outcome task.1 at) (fine place outcome at task.0 task.1);
        closed = answers-plain refs_program refs c.played.seen new.seen last (refs-meets (λ id. ⊥) c.played.seen (plays-tidy c.begun c.played opening outcomes begun_tells c.plays tidy));
      }

pub played-plain : InitialLaw → SnapshotLaw → RunLaw → (draw : Draw) (script : Script) (old new : View) (result : Result Played AllocError) → IsWell script → IfOk result (λ played. Course draw script old new played.opening played.outcomes.items played.refs) → IsTrue old.caller.tells → old.seen ≡ [] → DrawsOnce draw (length script.tasks)
    → IfOk result (λ played. NothingStrange (has_collection script.tasks) played.opening played.outcomes.items played.refs)
played-plain initial law run draw script old new (Ok played) well c told empty once =
    let sound : IsSound old.seen (λ n. none) = subst (λ (h : List Event). IsSound h (λ n. none)) (sym empty) (nothing-law.0 (λ n. none)) in
    let new_run : IsNewRun draw script.tasks old.seen = subst (λ (h : List Event). IsNewRun draw script.tasks h) (sym empty) (record { once = once; sources = λ place within. nothing-law.1 (ids_at draw place); unput = λ collects place within. nothing-law.2 (ids_at draw place) }) in
    let histories = run draw script.tasks (λ n. none) old.seen new.seen sound new_run (course-run draw script old new played.opening played.outcomes.items played.refs well.tasks c told) in
    course-plain initial run law draw script once well.tasks old new played.opening played.outcomes.items played.refs c histories.unhidden histories.sound.good told empty
played-plain initial law run draw script old new (Err error) well c told empty once = tt
