-- One collection of a run: what it dooms, nothing needs.
use Rattle.std.proofs.Common.{◌≡◌, inl, inr, ℕ, ◌+◌, List, [], ◌∷◌, ◌++◌, refl, sym, ◌∙◌, ap, subst, append_assoc, append-nil}
use Rattle.ice_ids.specs.declared.Id12.{Id12}
use Rattle.ice_ids.specs.declared.drawing.Draw.{Draw}
use Rattle.zarr_tree.specs.Changes.{Changes}
use Rattle.object_store.specs.declared.keys.Key.{Key}
use Rattle.object_store.specs.declared.events.Event.{Event}
use Rattle.object_store.proofs.Journals.{Each-back}
use Rattle.store_api.specs.Journal.{Each, IsFirst, IsGood, IsGoodJournal, IsOnce}
use Rattle.reach.specs.Own.{OwnLaw}
use Rattle.collecting.specs.Walks.{Walk, Doomed}
use Rattle.collecting.specs.Runs.{walk_of, OwesCollecting}
use Rattle.history_laws.specs.Collections as laws
use Rattle.history_laws.specs.Collections.{Collection, DoomedBy, OwesUntil, IsNotBefore, IsPreceded, CommitsOwn, IsQuiet, IsListed, IsCollected, Collects}
use Rattle.history_laws.specs.Refs.{Commits}
use Rattle.history_laws.specs.Laws.{collection_of, ClientCollects, CommitsChild, RefsKept, BasesKept, LeasesKept, PassedNone, PutsKept, AnchoredReached}
use Rattle.play_script.specs.declared.scripts.Task.{Task}
use Rattle.run_histories.specs.Told.{HasHistories}
use Rattle.run_histories.specs.Beside.{CollectsAt, walk_at, DoomedAt, HasBegun, IsNotEarlier, Precedes, CommitsBeside, LeavesAlone, IsSafe}
use Rattle.run_histories.specs.Keeping.{DoomsNothingNeeded}
use Rattle.run_histories.proofs.Moments.{Each-where}
use Rattle.run_histories.proofs.Commits.{IsSessions, commit-own}

module _ (owns : OwnLaw) (clients : ClientCollects) (child : CommitsChild) (draw : Draw) (tasks : List Task) (changes : ℕ → Changes) (old start new : List Event) (h : HasHistories draw tasks changes old start new) (since rest : List Event) (part : h.collections.more ≡ since ++ rest) where
  -- ---- the journal at this moment
  abbrev journal : List Event
  journal = start ++ since

  whole-is : new ≡ journal ++ rest
  whole-is = h.collections.is ∙ ap (λ (xs : List Event). start ++ xs) part ∙ sym (append_assoc start since rest)

  pub good-here : IsGoodJournal journal
  good-here = (Each-back IsGood [] journal rest (subst IsGoodJournal whole-is h.sound.good)).0

  pub once-here : IsOnce journal
  once-here = (Each-back IsFirst [] journal rest (subst IsOnce whole-is h.sound.once)).0

  pub behind-old : (seen : List Event) → start ++ seen ≡ old ++ (h.collections.opening ++ seen)
  behind-old seen = ap (λ (j : List Event). j ++ seen) h.collections.start_is ∙ append_assoc old h.collections.opening seen

  -- a commit in it is a session's
  commit-here : (seen tail : List Event) (event : Event) → since ≡ seen ++ event ∷ tail → (base id : Id12) → Commits (start ++ seen) event base id → IsSessions tasks start (start ++ seen) event base id
  commit-here seen tail event is =
      commit-own owns child draw tasks changes old start new h (h.collections.opening ++ seen) (tail ++ rest) (start ++ seen) event (behind-old seen)
      (whole-is ∙ ap (λ (xs : List Event). (start ++ xs) ++ rest) is ∙ ap (λ (j : List Event). j ++ rest) (sym (append_assoc start seen (event ∷ tail))) ∙ append_assoc (start ++ seen) (event ∷ tail) rest)

  -- ---- the collection at this place
  module _ (place cutoff : ℕ) (at : CollectsAt tasks place cutoff) where
    abbrev c : Collection
    c = collection_of cutoff (place + 1) start journal

    -- at each moment so far it was told the same
    pub walk-same : (before later : List Event) → journal ≡ before ++ later → laws.walk_at c before ≡ walk_at place cutoff start before
    walk-same before later is =
        subst (λ (j : List Event). laws.walk_at (collection_of cutoff (place + 1) start j) before ≡ walk_of cutoff (place + 1) start before) (sym is) (clients.walk cutoff (place + 1) start before later)

    pub walk-here : laws.walk_at c journal ≡ walk_at place cutoff start journal
    walk-here = walk-same journal [] (sym (append-nil journal))

    moment : (seen tail : List Event) → since ≡ seen ++ tail → journal ≡ (start ++ seen) ++ tail
    moment seen tail is = ap (λ (xs : List Event). start ++ xs) is ∙ sym (append_assoc start seen tail)

    begun-fore : (seen tail : List Event) → since ≡ seen ++ tail → HasBegun place cutoff start (start ++ seen) → laws.HasBegun c (start ++ seen)
    begun-fore seen tail is (left, e) = (left, ap (λ (w : Walk). w.branches) (walk-same (start ++ seen) tail (moment seen tail is)) ∙ e)

    begun-back : (seen tail : List Event) → since ≡ seen ++ tail → laws.HasBegun c (start ++ seen) → HasBegun place cutoff start (start ++ seen)
    begun-back seen tail is (left, e) = (left, sym (ap (λ (w : Walk). w.branches) (walk-same (start ++ seen) tail (moment seen tail is))) ∙ e)

    doomed-fore : (key : Key) → DoomedAt place cutoff start journal key → DoomedBy c (journal ++ []) key
    doomed-fore key d = subst (λ (j : List Event). DoomedBy c j key) (sym (append-nil journal)) (subst (λ (w : Walk). Doomed cutoff w key) (sym walk-here) d)

    doomed-back : (key : Key) → DoomedBy c (journal ++ []) key → DoomedAt place cutoff start journal key
    doomed-back key d = subst (λ (w : Walk). Doomed cutoff w key) walk-here (subst (λ (j : List Event). DoomedBy c j key) (append-nil journal) d)

    passed-fore : (base : Id12) → PassedNone (walk_at place cutoff start journal) journal base → PassedNone (laws.walk_at c journal) journal base
    passed-fore base passed = subst (λ (w : Walk). PassedNone w journal base) (sym walk-here) passed

    -- ---- what it owes
    pub owes-here : Each (OwesUntil c) start since
    owes-here =
        let P : List Event → Event → Type 0 = OwesCollecting cutoff (place + 1) start in
        clients.owes cutoff (place + 1) start since (Each-back P start since rest (subst (Each P start) part (h.collections.collecting place at.task cutoff at.at at.head_is))).0

    pub collects-here : Collects c journal
    collects-here = record { more = since; is = refl; owes = owes-here }

    abbrev pub listed-here : (walk_at place cutoff start journal).lists ≡ 4 → IsListed c journal []
    listed-here four = record {
      good = good-here;
      once = once-here;
      more = since;
      is = refl;
      owes = subst (Each (OwesUntil c) start) (sym (append-nil since)) owes-here;
      listed = ap (λ (w : Walk). w.lists) walk-here ∙ four;
    }

    -- ---- sessions beside it
    pub preceded-then : (other client : ℕ) → client ≡ other + 1 → Precedes place cutoff other start since → (seen tail : List Event) → since ≡ seen ++ tail → IsPreceded c client start (start ++ seen)
    preceded-then other client its precedes seen tail is = record {
      more = seen;
      is = refl;
      each = Each-where (IsNotEarlier place cutoff other start) (IsNotBefore c client) start seen follows (Each-back (IsNotEarlier place cutoff other start) start seen tail (subst (Each (IsNotEarlier place cutoff other start) start) is precedes)).0;
    }
      where
        follows : (first : List Event) (event : Event) (last : List Event) → seen ≡ first ++ event ∷ last → IsNotEarlier place cutoff other start (start ++ first) event → IsNotBefore c client (start ++ first) event
        follows first event last e late by = elim (late (by ∙ its)) [
          | inl begun ↦ inl (begun-fore first ((event ∷ last) ++ tail) (is ∙ ap (λ (xs : List Event). xs ++ tail) e ∙ append_assoc first (event ∷ last) tail) begun)
          | inr so ↦ inr so
        ]

    pub preceded-here : (other : ℕ) → Precedes place cutoff other start since → IsPreceded c (other + 1) start journal
    preceded-here other precedes = preceded-then other (other + 1) refl precedes since [] (sym (append-nil since))

    -- ---- while it is safe
    module _ (safe : IsSafe tasks place cutoff start since) where
      owns-here : (seen : List Event) (event : Event) (tail : List Event) → since ≡ seen ++ event ∷ tail → CommitsOwn c (start ++ seen) event
      owns-here seen event tail is begun base id k =
          let s : IsSessions tasks start (start ++ seen) event base id = commit-here seen tail event is base id k in
          let beside : CommitsBeside place cutoff s.other start since = record { seen = seen; event = event; left = tail; is = is; client_is = s.client_is; begun = begun-back seen (event ∷ tail) is begun; base = base; id = id; commits = k } in
          record { from = start; preceded = preceded-then s.other event.client s.client_is (safe.precedes s.other s.access s.opens beside) seen (event ∷ tail) is; own = s.own }

      quiet-here : (seen : List Event) (event : Event) (tail : List Event) → since ≡ seen ++ event ∷ tail → LeavesAlone (DoomedAt place cutoff start journal) place cutoff start (start ++ seen) event → IsQuiet (DoomedBy c (journal ++ [])) c (start ++ seen) event
      quiet-here seen event tail is leaves begun id points key reaches doomed = leaves (begun-back seen (event ∷ tail) is begun) id points key reaches (doomed-back key doomed)

      pub collected-here : (walk_at place cutoff start journal).lists ≡ 4 → IsCollected c journal []
      collected-here four = record {
        listed = listed-here four;
        own = Each-where (LeavesAlone (DoomedAt place cutoff start journal) place cutoff start) (CommitsOwn c) start since (λ seen event tail is p. owns-here seen event tail is) safe.quiet;
        quiet = Each-where (LeavesAlone (DoomedAt place cutoff start journal) place cutoff start) (IsQuiet (DoomedBy c (journal ++ [])) c) start since quiet-here safe.quiet;
      }

      pub dooms-nothing : RefsKept → BasesKept → LeasesKept → PutsKept → AnchoredReached → (walk_at place cutoff start journal).lists ≡ 4 → DoomsNothingNeeded draw tasks place cutoff start since
      dooms-nothing refs bases leases puts anchored four = record {
        refs = λ ref key reached doomed. refs c journal [] (collected-here four) ref key reached (doomed-fore key doomed);
        bases = λ ref base key named reached doomed. bases c journal [] (collected-here four) ref base key named reached (doomed-fore key doomed);
        sessions = λ other session key reached doomed.
            bases c journal [] (collected-here four) session.ref session.has.base key (anchored session.ref session.has.base (session.has.named.got.own.before ++ session.has.named.got.own.event ∷ []) journal session.anchored) reached (doomed-fore key doomed);
        leased = λ other session key passed reached doomed.
            leases c journal [] (collected-here four) session.lease session.has.base (start ++ session.since) key session.leased (passed-fore session.has.base passed) reached (doomed-fore key doomed);
        puts = λ other access key opens precedes put doomed. puts c journal [] (listed-here four) (other + 1) start key (preceded-here other precedes) put (doomed-fore key doomed);
      }
