-- What holds along the events of a run.
use Rattle.std.proofs.Common.{◌≡◌, inl, inr, ◌⊎◌, ℕ, ◌+◌, ◌<◌, List, [], ◌∷◌, ◌++◌, length, refl, sym, subst, append_assoc, append-nil}
use Rattle.std.specs.Prelude.{All}
use Rattle.std.proofs.lemmas.Option.{slice_get_within}
use Rattle.ice_ids.specs.declared.Id12.{Id12}
use Rattle.ice_ids.specs.declared.drawing.Draw.{Draw}
use Rattle.ice_ids.specs.Drawing.{DrawsOnce}
use Rattle.repo_objects.specs.Laws.{InitialLaw}
use Rattle.store_api.specs.Journal.{Each, IsGood, puts_of}
use Rattle.object_store.specs.declared.events.Event.{Event}
use Rattle.object_store.specs.declared.keys.Key.TheVariants.{Snapshot}
use Rattle.object_store.proofs.Journals.{Each-append, Each-back, Each-none, Each-one}
use Rattle.commit_path.specs.Single.{PutsNone, PutsSnapshot}
use Rattle.play_script.specs.Well.{IsWellTask}
use Rattle.play_script.specs.declared.scripts.Task.{Task}
use Rattle.play_tasks.specs.Tasks.{ids_at}
use Rattle.run_histories.specs.Sources.{NodesAreNew}
use Rattle.run_histories.proofs.Along.{ComesOnce, Fits, IsOfRun, StaysOnce, among-at, client-fits, plain-fits, plain-no-commit, well-at}
use Rattle.run_histories.proofs.Ancestors.{Inherits}
use Rattle.run_histories.proofs.Given.{CommitsNormal}
use Rattle.run_histories.proofs.Grounds.{Grounds}
use Rattle.run_histories.proofs.Growing.{AllNodesAreNew, Holds, client-comes, client-holds, nodes-stay, plain-holds, plain-inherits, plain-nodes}
use Rattle.run_histories.proofs.Origins.{AllCome, come-one, come-start}
use Rattle.run_histories.proofs.Programs.{IsPlain, IsPlainOrCleanup}
use Rattle.run_histories.proofs.Putting.{PutsFresh}
use Rattle.run_histories.proofs.Sized.{normal-in}
use Rattle.run_histories.proofs.Sources.{node-spends}
use Rattle.run_histories.proofs.Walked.{task-carried_on}

module _ (draw : Draw) (tasks : List Task) (draws : DrawsOnce draw (length tasks)) (wells : All IsWellTask tasks) (initial : InitialLaw) (old : List Event) where
  abbrev Hold : List Event → Type 0
  Hold = Holds draw tasks draws wells initial old

  abbrev AllNew : List Event → Type 0
  AllNew = AllNodesAreNew draw tasks draws wells initial old

  -- ---- the tasks began at the start
  module _ (start : List Event) where
    -- What is known of an event: what holds before it and behind it; and a snapshot that it puts is of its own client, or inherits.
    pub record IsKnown (journal : List Event) (event : Event) : Type 0 where
      pub holds : Hold journal
      pub fits : Fits draw tasks start journal event
      pub after : Hold (journal ++ event ∷ [])
      pub comes : (place : ℕ) → place < length tasks → (id : Id12) → PutsFresh journal event (Snapshot id) → (event.client ≡ place + 1) ⊎ Inherits (ids_at draw place) (journal ++ event ∷ []) id
      pub commits : CommitsNormal draw tasks start journal event

    pub known-holds : (journal : List Event) (event : Event) → IsKnown journal event → Hold (journal ++ event ∷ [])
    known-holds journal event known = known.after

    pub holds-along : (journal events : List Event) → Each IsKnown journal events → Hold journal → Hold (journal ++ events)
    unfolding Each
    holds-along journal [] known h = subst Hold (sym (append-nil journal)) h
    holds-along journal (x ∷ xs) known h = subst Hold (append_assoc journal (x ∷ []) xs) (holds-along (journal ++ x ∷ []) xs known.1 known.0.after)

    -- nodes stay new to the source of a client that puts no snapshot
    module _ (place : ℕ) (within : place < length tasks) where
      pub known-nodes : (journal : List Event) (event : Event) → IsKnown journal event → PutsNone (place + 1) journal event → NodesAreNew (ids_at draw place) journal → NodesAreNew (ids_at draw place) (journal ++ event ∷ [])
      known-nodes journal event known none =
          nodes-stay draw tasks draws wells initial old start journal event known.fits known.holds (ids_at draw place)
          (λ id now. elim (known.comes place within id now) [
            | inl own ↦ absurd (none own (subst PutsSnapshot (sym now.op_is) tt))
            | inr inherits ↦ inherits
          ])

      pub nodes-along : (journal events : List Event) → Each IsKnown journal events → Each (PutsNone (place + 1)) journal events → NodesAreNew (ids_at draw place) journal → NodesAreNew (ids_at draw place) (journal ++ events)
      unfolding Each
      nodes-along journal [] known none new = subst (NodesAreNew (ids_at draw place)) (sym (append-nil journal)) new
      nodes-along journal (x ∷ xs) known none new =
          subst (NodesAreNew (ids_at draw place)) (append_assoc journal (x ∷ []) xs) (nodes-along (journal ++ x ∷ []) xs known.1 none.1 (known-nodes journal x known.0 none.0 new))

      -- each snapshot is the client's own since a beginning, or inherits
      come-along : (from done rest : List Event) → Each IsKnown (from ++ done) rest → AllCome (ids_at draw place) (place + 1) from (from ++ done) → AllCome (ids_at draw place) (place + 1) from (from ++ (done ++ rest))
      unfolding Each
      come-along from done [] known come = subst (λ (d : List Event). AllCome (ids_at draw place) (place + 1) from (from ++ d)) (sym (append-nil done)) come
      come-along from done (x ∷ xs) known come =
          let k : IsKnown (from ++ done) x = known.0 in
          let join : (from ++ done) ++ x ∷ [] ≡ from ++ (done ++ x ∷ []) = append_assoc from done (x ∷ []) in
          let one = come-one (from ++ done) x k.holds.good k.holds.once k.fits.good (k.fits.first k.holds.once) (ids_at draw place) (place + 1) from done refl (k.comes place within) come in
          subst (λ (d : List Event). AllCome (ids_at draw place) (place + 1) from (from ++ d)) (append_assoc done (x ∷ []) xs)
          (come-along from (done ++ x ∷ []) xs (subst (λ (j : List Event). Each IsKnown j xs) join known.1) (subst (AllCome (ids_at draw place) (place + 1) from) join one))

      -- so a journal that goes on from a beginning at which its nodes were new grounds the client's sessions
      pub grounds : (from since : List Event) → Each IsKnown from since → Hold (from ++ since) → NodesAreNew (ids_at draw place) from → Grounds (ids_at draw place) (place + 1) from (from ++ since)
      grounds from since known h new = record {
        good = h.good;
        once = h.once;
        trees = h.trees;
        causes = h.causes;
        spends = node-spends draw (length tasks) draws (ids_at draw place) (among-at draw tasks place within);
        since = since;
        is = refl;
        new = new;
        early = λ first rest parts none. nodes-along from first (Each-back IsKnown from first rest (subst (Each IsKnown from) parts known)).0 none new;
        come =
            let nil : from ≡ from ++ [] = sym (append-nil from) in
            come-along from [] since (subst (λ (j : List Event). Each IsKnown j since) nil known)
            (subst (AllCome (ids_at draw place) (place + 1) from) nil (come-start (ids_at draw place) (place + 1) from new));
      }

    -- ---- plain events
    plain-one : (journal : List Event) (event : Event) → IsGood journal event → IsPlainOrCleanup event.op → Hold journal → IsKnown journal event
    plain-one journal event good plain h = record {
      holds = h;
      fits = plain-fits draw tasks start journal event good plain;
      after = plain-holds draw tasks draws wells initial old journal event good plain h;
      comes = λ place within id now. inr (plain-inherits draw tasks draws wells initial old journal event good plain h (ids_at draw place) id now);
      commits = λ c branch bytes version id op_is s. absurd (plain-no-commit event.op branch bytes version plain op_is);
    }

    pub plain-known : (journal events : List Event) → Each IsGood journal events → Each (λ j e. IsPlain e.op) journal events → Hold journal → Each IsKnown journal events
    unfolding Each
    plain-known journal [] good plain h = tt
    plain-known journal (x ∷ xs) good plain h =
        (plain-one journal x good.0 (inl plain.0) h, plain-known (journal ++ x ∷ []) xs good.1 plain.1 (plain-holds draw tasks draws wells initial old journal x good.0 (inl plain.0) h))

    pub plain-nodes-along : (journal events : List Event) → Each IsGood journal events → Each (λ j e. IsPlain e.op) journal events → Hold journal → AllNew journal → AllNew (journal ++ events)
    unfolding Each
    plain-nodes-along journal [] good plain h new = subst AllNew (sym (append-nil journal)) new
    plain-nodes-along journal (x ∷ xs) good plain h new =
        subst AllNew (append_assoc journal (x ∷ []) xs)
        (plain-nodes-along (journal ++ x ∷ []) xs good.1 plain.1 (plain-holds draw tasks draws wells initial old journal x good.0 (inl plain.0) h)
        (λ place within. plain-nodes draw tasks draws wells initial old journal x good.0 (inl plain.0) h place (new place within)))

    -- ---- the run
    module _ (new : AllNew start) (since : List Event) (known : Each IsKnown start since) (h : Hold (start ++ since)) where
      abbrev here : List Event
      here = start ++ since

      grounds-at : (place : ℕ) → place < length tasks → Grounds (ids_at draw place) (place + 1) start here
      grounds-at place within = grounds place within start since known h (new place within)

      -- the changes of a session at its commit
      commit-normal : (event : Event) → CommitsNormal draw tasks start here event
      commit-normal event c branch bytes old id op_is s =
          let within : s.place < length tasks = slice_get_within tasks s.place s.task s.at in
          let k = task-carried_on initial (ids_at draw s.place) s.task (s.place + 1) start here (grounds-at s.place within) (well-at draw tasks wells s.place s.task s.at) s.session id s.of_task in
          normal-in (puts_of here) s.session s.made.chunks k.normal

      known-one : (event : Event) → IsOfRun draw tasks start here event → StaysOnce here event → IsKnown here event
      known-one event (inl c) stays =
          let g = grounds-at c.place (slice_get_within tasks c.place c.task c.at) in
          record {
            holds = h;
            fits = client-fits draw tasks start here event c stays;
            after = client-holds draw tasks draws wells initial old start here event c stays h g;
            comes = client-comes draw tasks draws wells initial old start here event c stays h g;
            commits = commit-normal event;
          }
      known-one event (inr p) stays = plain-one here event p.0 p.1 h

    run-known : AllNew start → (since events : List Event) → Each IsKnown start since → Each (ComesOnce draw tasks start) (start ++ since) events → Hold (start ++ since) → Each IsKnown (start ++ since) events
    unfolding Each
    run-known new since [] known each h = tt
    run-known new since (x ∷ xs) known each h =
        let one : IsKnown (start ++ since) x = known-one new since known h x each.0.0 each.0.1 in
        let join : (start ++ since) ++ x ∷ [] ≡ start ++ (since ++ x ∷ []) = append_assoc start since (x ∷ []) in
        let rest = run-known new (since ++ x ∷ []) xs (Each-append IsKnown start since (x ∷ []) known (Each-one IsKnown (start ++ since) x one)) (subst (λ (j : List Event). Each (ComesOnce draw tasks start) j xs) join each.1) (subst Hold join one.after) in
        (one, subst (λ (j : List Event). Each IsKnown j xs) (sym join) rest)

    pub run-knows : (events : List Event) → Each (ComesOnce draw tasks start) start events → Hold start → AllNew start → Each IsKnown start events
    run-knows events each h new =
        let nil : start ≡ start ++ [] = sym (append-nil start) in
        subst (λ (j : List Event). Each IsKnown j events) (sym nil)
        (run-known new [] events (Each-none IsKnown start) (subst (λ (j : List Event). Each (ComesOnce draw tasks start) j events) nil each) (subst Hold nil h))
