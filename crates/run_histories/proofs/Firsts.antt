-- In a run nothing is put again: where no task collects, since no object is removed; and where one does, since nothing was ever put under the ids that
-- its clients may draw. And what collections do, and what they alone remove.
use Rattle.std.proofs.Common.{◌≡◌, inl, inr, ℕ, ◌+◌, Bool, true, false, List, [], ◌∷◌, ◌++◌, length, refl, sym, ◌∙◌, ap, subst, arith, append_assoc, append-nil}
use Rattle.std.specs.Prelude.{All, Some, slice_get}
use Rattle.std.proofs.lemmas.List.Folds.{list_any_at}
use Rattle.std.proofs.lemmas.Option.{slice_get_within, get_or_from_slice_get}
use Rattle.ice_ids.specs.declared.drawing.AnyIds.{AnyIds}
use Rattle.ice_ids.specs.declared.drawing.Draw.{Draw}
use Rattle.ice_ids.specs.Drawing.{DrawsOnce}
use Rattle.object_store.specs.declared.events.Event.{Event}
use Rattle.object_store.proofs.Journals.{Each-append, Each-back, Each-both, Each-weaker}
use Rattle.store_api.specs.Journal.{Each, IsGood}
use Rattle.repository.specs.Beginning.{begin_program}
use Rattle.repository.specs.Refs.{refs_program}
use Rattle.collecting.specs.Runs.{OwesCollecting, walk_of}
use Rattle.collecting.specs.Walks.{May}
use Rattle.play_expire.specs.Playing.{terms_of}
use Rattle.play_script.specs.Collections.{has_collection, is_collection}
use Rattle.play_script.specs.Well.{IsWellTask}
use Rattle.script_calls.specs.declared.calls.Head.{Head}
use Rattle.script_calls.specs.declared.calls.Head.TheVariants.{Session, Refs, Collect, Expire, Check}
use Rattle.play_script.specs.declared.scripts.Task.{Task}
use Rattle.play_tasks.specs.Owing.{OwesBy}
use Rattle.play_tasks.specs.Solving.{IsOfTask}
use Rattle.play_tasks.specs.Tasks.{ids_at, IsOfClient}
use Rattle.run_histories.specs.Runs.{IsBy, IsRun}
use Rattle.run_histories.specs.Sources.{IsLeftUnput, IsNewRun, IsUnputRun, ObjectsAreNew, PutsUnput}
use Rattle.run_histories.specs.Told.{HasCollections, IsOfCollection, KeepsObjects, RemovesCollecting}
use Rattle.run_histories.proofs.Along.{ComesOnce, IsOfOpener, IsOfRun, PutsUnused, StaysOnce, among-at, by-head, opener-stays, owes-plain, plain-stays}
use Rattle.run_histories.proofs.Expiring.{expiry-keeps}
use Rattle.run_histories.proofs.Checking.{read-plain}
use Rattle.run_histories.proofs.Programs.{IsPlain, begin-plain, path-plain, refs-plain}
use Rattle.run_histories.proofs.Removals.{AllObjectsAreNew, IsRemoval, objects-one, owes-keeps, plain-keeps, removes-op, unused-key}
use Rattle.run_histories.proofs.Sources.{object-not_initial}
use Rattle.run_histories.proofs.Unput.{opened-left, plain-each, run-left}

-- no event removes an object
abbrev pub Keeps : List Event → Event → Type 0
Keeps journal event = ¬ IsRemoval event.op

-- so what still stands under the ids that a source may draw stays
pub objects-along : (ids : AnyIds) (journal events : List Event) → Each Keeps journal events → ObjectsAreNew ids journal → ObjectsAreNew ids (journal ++ events)
unfolding Each
objects-along ids journal [] keeps new = subst (ObjectsAreNew ids) (sym (append-nil journal)) new
objects-along ids journal (x ∷ xs) keeps new = subst (ObjectsAreNew ids) (append_assoc journal (x ∷ []) xs) (objects-along ids (journal ++ x ∷ []) xs keeps.1 (objects-one ids journal x keeps.0 new))

-- ---- one event
module _ (draw : Draw) (tasks : List Task) (draws : DrawsOnce draw (length tasks)) (wells : All IsWellTask tasks) (start : List Event) where
  -- it puts nothing again, where what a client puts new still stands
  one-stays : (journal : List Event) (event : Event) → IsOfRun draw tasks start journal event → ((c : IsOfOpener draw tasks start journal event) → PutsUnused (ids_at draw c.place) journal event.op) → StaysOnce journal event
  one-stays journal event (inl c) unused = opener-stays draw tasks draws wells start journal event c (unused c)
  one-stays journal event (inr p) unused = plain-stays journal event p.0 p.1

  new-unused : (journal : List Event) (event : Event) → AllObjectsAreNew draw tasks journal → (c : IsOfOpener draw tasks start journal event) → PutsUnused (ids_at draw c.place) journal event.op
  new-unused journal event new c key bytes why id e object is may = unused-key journal id (new c.place (slice_get_within tasks c.place c.task c.at) id may) key object is

  unput-unused : (journal : List Event) (event : Event) → PutsUnput journal event → (c : IsOfOpener draw tasks start journal event) → PutsUnused (ids_at draw c.place) journal event.op
  unput-unused journal event unput c key bytes why id e object is may gone =
      let among = among-at draw tasks c.place (slice_get_within tasks c.place c.task c.at) in
      unput key bytes why id e is (object-not_initial draw (length tasks) draws (ids_at draw c.place) id among may)

  -- ---- along a run
  keeping-stays : (journal events : List Event) → Each (IsOfRun draw tasks start) journal events → Each Keeps journal events → AllObjectsAreNew draw tasks journal → Each StaysOnce journal events
  unfolding Each
  keeping-stays journal [] each keeps new = tt
  keeping-stays journal (x ∷ xs) each keeps new =
      (one-stays journal x each.0 (new-unused journal x new), keeping-stays (journal ++ x ∷ []) xs each.1 keeps.1 (λ place within. objects-one (ids_at draw place) journal x keeps.0 (new place within)))

  unput-stays : (journal events : List Event) → Each (IsOfRun draw tasks start) journal events → Each PutsUnput journal events → Each StaysOnce journal events
  unput-stays journal events each unput = Each-both (IsOfRun draw tasks start) PutsUnput StaysOnce (λ h e o u. one-stays h e o (unput-unused h e u)) journal events each unput

-- ---- tasks that collect
-- a client's task is the one at the place that its number tells
pub client-task : (draw : Draw) (tasks : List Task) (start journal : List Event) (event : Event) (c : IsOfClient draw tasks start journal event) (place : ℕ) (task : Task) → slice_get tasks place ≡ Some task → event.client ≡ place + 1 → (c.place ≡ place) × (c.task ≡ task)
client-task draw tasks start journal event c place task at client = (places, some-same c.task (sym c.at ∙ ap (slice_get tasks) places ∙ at))
  where
    same-place : (k : ℕ) → k + 1 ≡ place + 1 → k ≡ place
    same-place k e = omega (arith, e)

    some-same : (x : Task) → Some x ≡ Some task → x ≡ task
    some-same x e = cc

    places : c.place ≡ place
    places = same-place c.place (sym c.client ∙ client)

none-collects : (tasks : List Task) (place : ℕ) (task : Task) → has_collection tasks ≡ false → slice_get tasks place ≡ Some task → ¬ (is_collection task.head ≡ true)
none-collects tasks place task none at collects =
    let within = slice_get_within tasks place task at in
    let here = ap (λ (t : Task). is_collection t.head) (get_or_from_slice_get tasks place task task at) ∙ collects in
    let some : has_collection tasks ≡ true = list_any_at (λ (t : Task). is_collection t.head) tasks place task within here in
    let no : true ≡ false = sym some ∙ none in
    cc

module _ (draw : Draw) (tasks : List Task) (start journal : List Event) (event : Event) (c : IsOfClient draw tasks start journal event) where
  -- what a client removes, it removes in a collection
  client-removes : IsRemoval event.op → IsOfCollection tasks event
  client-removes removal = by_head c.task.head refl c.careful.owes
    where
      by_head : (head : Head) → c.task.head ≡ head → OwesBy head (ids_at draw c.place) c.task (c.place + 1) start journal event.op → IsOfCollection tasks event
      by_head (Session access) e o = absurd (owes-keeps (ids_at draw c.place) (IsOfTask (ids_at draw c.place) c.task (c.place + 1) start) journal event.op o removal)
      by_head Refs e o = absurd (plain-keeps event.op (owes-plain event.op o) removal)
      by_head (Collect cutoff) e o = record { place = c.place; task = c.task; cutoff = cutoff; at = c.at; head_is = e; client_is = c.client }
      by_head (Expire cutoff drop_branches drop_tags) e o = absurd (expiry-keeps (terms_of cutoff drop_branches drop_tags) (c.place + 1) start journal event.op o removal)
      by_head Check e o = absurd (plain-keeps event.op (read-plain event.op o) removal)

  -- so where no task collects, it removes none
  client-keeps : has_collection tasks ≡ false → Keeps journal event
  client-keeps none removal =
      let o = client-removes removal in
      none-collects tasks o.place o.task none o.at (ap is_collection o.head_is)

  -- and a client that collects does what its collection may do
  client-may : (place : ℕ) (task : Task) (cutoff : ℕ) → slice_get tasks place ≡ Some task → task.head ≡ Collect cutoff → OwesCollecting cutoff (place + 1) start journal event
  client-may place task cutoff at head_is client =
      let same = client-task draw tasks start journal event c place task at client in
      let head : c.task.head ≡ Collect cutoff = ap (λ (t : Task). t.head) same.1 ∙ head_is in
      let owed : OwesBy (Collect cutoff) (ids_at draw c.place) c.task (c.place + 1) start journal event.op =
      subst (λ (h : Head). OwesBy h (ids_at draw c.place) c.task (c.place + 1) start journal event.op) head c.careful.owes in
      subst (λ (k : ℕ). May cutoff (walk_of cutoff (k + 1) start journal) event.op) same.0 owed.may

-- ---- the run
module _ (draw : Draw) (tasks : List Task) (old new : List Event) (r : IsRun draw tasks old new) where
  -- what came from the tasks' start on
  abbrev pub rest : List Event
  rest = r.playing.own ++ r.closing.own

  abbrev pub all : List Event
  all = r.opening.own ++ rest

  pub rest-is : new ≡ r.begun ++ rest
  rest-is = r.closing.is ∙ ap (λ (j : List Event). j ++ r.closing.own) r.playing.is ∙ append_assoc r.begun r.playing.own r.closing.own

  pub all-is : new ≡ old ++ all
  all-is = rest-is ∙ ap (λ (j : List Event). j ++ rest) r.opening.is ∙ append_assoc old r.opening.own rest

  -- what is so of each part is so of all
  pub rest-each : (P : List Event → Event → Type 0) → Each P r.begun r.playing.own → Each P r.played r.closing.own → Each P r.begun rest
  rest-each P playing closing = Each-append P r.begun r.playing.own r.closing.own playing (subst (λ (j : List Event). Each P j r.closing.own) r.playing.is closing)

  all-each : (P : List Event → Event → Type 0) → Each P old r.opening.own → Each P r.begun rest → Each P old all
  all-each P opening behind = Each-append P old r.opening.own rest opening (subst (λ (j : List Event). Each P j rest) r.opening.is behind)

  abbrev pub Plain : List Event → Event → Type 0
  Plain journal event = IsPlain event.op

  pub opening-plain : Each Plain old r.opening.own
  opening-plain = path-plain begin_program old r.opening.own r.opening.left begin-plain r.opening.path

  pub closing-plain : Each Plain r.played r.closing.own
  closing-plain = path-plain refs_program r.played r.closing.own r.closing.left refs-plain r.closing.path

  -- ---- each event is of the run
  abbrev OfIt : List Event → Event → Type 0
  OfIt = IsOfRun draw tasks r.begun

  plain-of_run : (journal : List Event) (event : Event) → IsGood journal event → Plain journal event → OfIt journal event
  plain-of_run journal event good p = inr (good, inl p)

  rest-of_run : Each OfIt r.begun rest
  rest-of_run = rest-each OfIt (Each-weaker (IsOfClient draw tasks r.begun) OfIt (by-head draw tasks r.begun) r.begun r.playing.own r.playing.owed) (Each-both IsGood Plain OfIt plain-of_run r.played r.closing.own r.closing.good closing-plain)

  pub all-of_run : Each OfIt old all
  all-of_run = all-each OfIt (Each-both IsGood Plain OfIt plain-of_run old r.opening.own r.opening.good opening-plain) rest-of_run

  -- ---- removals
  plain-kept : (journal : List Event) (event : Event) → Plain journal event → Keeps journal event
  plain-kept journal event p = plain-keeps event.op p

  -- where no task collects, no object is removed
  pub all-keep : has_collection tasks ≡ false → Each Keeps old all
  all-keep none =
      all-each Keeps (Each-weaker Plain Keeps plain-kept old r.opening.own opening-plain)
      (rest-each Keeps (Each-weaker (IsOfClient draw tasks r.begun) Keeps (λ h e c. client-keeps draw tasks r.begun h e c none) r.begun r.playing.own r.playing.owed) (Each-weaker Plain Keeps plain-kept r.played r.closing.own closing-plain))

  plain-kept_objects : (journal : List Event) (event : Event) → Plain journal event → KeepsObjects journal event
  plain-kept_objects journal event p key object removes = plain-keeps event.op p (removes-op journal event key object removes)

  pub reads-alone : (client : ℕ) → client ≡ 0 → (place : ℕ) → ¬ (client ≡ place + 1)
  reads-alone client none place some = omega (arith, none, some)

  pub run-collections : HasCollections tasks old r.begun new
  run-collections = record {
    opening = r.opening.own;
    start_is = r.opening.is;
    keeps = Each-weaker Plain KeepsObjects plain-kept_objects old r.opening.own opening-plain;
    more = rest;
    is = rest-is;
    collecting = λ place task cutoff at head_is.
        rest-each (OwesCollecting cutoff (place + 1) r.begun)
        (Each-weaker (IsOfClient draw tasks r.begun) (OwesCollecting cutoff (place + 1) r.begun) (λ h e c. client-may draw tasks r.begun h e c place task cutoff at head_is) r.begun r.playing.own r.playing.owed)
        (Each-weaker (IsBy 0) (OwesCollecting cutoff (place + 1) r.begun) (λ h e reader client. absurd (reads-alone e.client reader place client)) r.played r.closing.own r.reader);
    removing =
        rest-each (RemovesCollecting tasks)
        (Each-weaker (IsOfClient draw tasks r.begun) (RemovesCollecting tasks) (λ h e c key object removes. client-removes draw tasks r.begun h e c (removes-op h e key object removes)) r.begun r.playing.own r.playing.owed)
        (Each-weaker Plain (RemovesCollecting tasks) (λ h e p key object removes. absurd (plain-kept_objects h e p key object removes)) r.played r.closing.own closing-plain);
  }

  -- ---- what was never put
  module _ (draws : DrawsOnce draw (length tasks)) where
    pub unput-run : IsUnputRun draw tasks old → Each PutsUnput old all × IsLeftUnput draw tasks r.begun (old ++ all)
    unput-run u =
        let both = run-left draw tasks draws r.well r.begun rest rest-of_run (opened-left draw tasks draws r.well r.begun old r.opening.own opening-plain u r.opening.is) in (
          all-each PutsUnput (plain-each draw tasks draws r.well r.begun old r.opening.own opening-plain) both.0,
          subst (IsLeftUnput draw tasks r.begun) (sym rest-is ∙ all-is) both.1,
        )

  -- ---- nothing is put again
  module _ (n : IsNewRun draw tasks old) where
    all-stay : Each StaysOnce old all
    all-stay = by_mode (has_collection tasks) refl
      where
        by_mode : (b : Bool) → has_collection tasks ≡ b → Each StaysOnce old all
        by_mode false e = keeping-stays draw tasks n.once r.well r.begun old all all-of_run (all-keep e) (λ place within. (n.sources place within).objects)
        by_mode true e = unput-stays draw tasks n.once r.well r.begun old all all-of_run (unput-run n.once (n.unput e)).0

    pub rest-once : Each (ComesOnce draw tasks r.begun) r.begun rest
    rest-once =
        let stays = (Each-back StaysOnce old r.opening.own rest all-stay).1 in
        Each-both OfIt StaysOnce (ComesOnce draw tasks r.begun) (λ h e o s. (o, s)) r.begun rest rest-of_run (subst (λ (j : List Event). Each StaysOnce j rest) (sym r.opening.is) stays)
