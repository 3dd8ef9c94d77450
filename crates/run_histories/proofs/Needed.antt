-- The collections of a run keep what is needed.
use Rattle.std.proofs.Common.{◌≡◌, ℕ, ◌+◌, ◌<◌, List, [], ◌∷◌, ◌++◌, length, refl, sym, ◌∙◌, ap, subst, arith, append_assoc, append-nil}
use Rattle.std.proofs.lemmas.List.{append_cancel_left, length-append}
use Rattle.std.specs.Prelude.{Contains, Some, None, slice_get}
use Rattle.ice_ids.specs.declared.drawing.Draw.{Draw}
use Rattle.zarr_tree.specs.Changes.{Changes}
use Rattle.object_store.specs.declared.keys.Key.{Key}
use Rattle.object_store.specs.declared.events.Event.{Event}
use Rattle.object_store.specs.Machine.{Slot}
use Rattle.object_store.proofs.Journals.{Each-append, Each-at, Each-back, Each-weaker}
use Rattle.object_store.proofs.Slots.{slot-none}
use Rattle.store_api.specs.Journal.{Each}
use Rattle.reach.specs.Own.{HasPut, HoldsBesides, OwnLaw}
use Rattle.collecting.specs.Walks.{IsObject, Walk}
use Rattle.collecting.specs.Runs.{OwesCollecting}
use Rattle.history_laws.specs.Collections as laws
use Rattle.history_laws.specs.Collections.{Collection, Collects, IsCollected, IsPreceded, OnlyCollects, IsLost, CommitsLater, LeavesLost, NoneMissing, AreCollected}
use Rattle.history_laws.specs.Refs.{IsLeased, Removes}
use Rattle.history_laws.specs.Laws.{ClientCollects, CommitsChild, RefsKept, BasesKept, LeasesKept, PutsKept, AnchoredReached, ReachedFound, BasesFound, LeasesFound, OwnFound, NoneMissed, NothingMissing}
use Rattle.script_calls.specs.declared.calls.Head.{Head}
use Rattle.play_script.specs.declared.scripts.Task.{Task}
use Rattle.play_outcome.specs.declared.outcome.Outcome.{Outcome}
use Rattle.play_collect.specs.Telling.{CollectedTells}
use Rattle.play_tasks.specs.Tasks.{ids_at, AllTold}
use Rattle.play_tasks.specs.Telling.{TellsBy}
use Rattle.run_histories.specs.Told.{HasHistories, IsOfCollection, KeepsObjects, RemovesCollecting}
use Rattle.run_histories.specs.Beside.{CollectsAt, walk_at}
use Rattle.run_histories.specs.Keeping.{RemovesDoomed, HasListed, AllSafe, AllPrecede, NeededStands, KeepsNeeded}
use Rattle.run_histories.specs.Laws.{NeededLaw}
use Rattle.run_histories.proofs.Moments.{Each-where}
use Rattle.run_histories.proofs.Taking.{removed-doomed}
use Rattle.run_histories.proofs.Commits.{IsSessions, commit-own}
use Rattle.run_histories.proofs.One.{good-here, once-here, walk-here, preceded-here, collects-here, collected-here, dooms-nothing}
use Rattle.run_histories.proofs.Several.{its_own, all_from, all-among, of-all}

-- the laws that are put together
pub record Laws : Type 0 where
  pub owns : OwnLaw
  pub clients : ClientCollects
  pub child : CommitsChild
  pub refs : RefsKept
  pub bases : BasesKept
  pub leases : LeasesKept
  pub puts : PutsKept
  pub anchored : AnchoredReached
  pub refs_found : ReachedFound
  pub bases_found : BasesFound
  pub leases_found : LeasesFound
  pub own_found : OwnFound
  pub missed : NoneMissed
  pub nothing : NothingMissing

module _ (l : Laws) (draw : Draw) (tasks : List Task) (changes : ℕ → Changes) (old start new : List Event) (h : HasHistories draw tasks changes old start new) where
  abbrev opening : List Event
  opening = h.collections.opening

  abbrev more : List Event
  more = h.collections.more

  -- ---- what removes an object
  due : (since : List Event) (event : Event) (rest : List Event) → more ≡ since ++ event ∷ rest → RemovesCollecting tasks (start ++ since) event → (key : Key) → IsObject key → Removes (start ++ since) event key → RemovesDoomed tasks start (start ++ since) event key
  due since event rest is collecting key object removes =
      let o : IsOfCollection tasks event = collecting key object removes in
      let Owes : List Event → Event → Type 0 = OwesCollecting o.cutoff (o.place + 1) start in
      let owes = Each-at Owes start since event rest (subst (Each Owes start) is (h.collections.collecting o.place o.task o.cutoff o.at o.head_is)) in
      record {
        place = o.place;
        cutoff = o.cutoff;
        collects = record { task = o.task; at = o.at; head_is = o.head_is };
        client_is = o.client_is;
        doomed = removed-doomed (start ++ since) event key removes o.cutoff (walk_at o.place o.cutoff start (start ++ since)) (owes o.client_is).1;
      }

  abbrev Due : List Event → Event → Type 0
  Due before event = (key : Key) → IsObject key → Removes before event key → RemovesDoomed tasks start before event key

  -- what holds of the opening and behind it holds of both
  along : (P : List Event → Event → Type 0) (since : List Event) → Each P old opening → Each P start since → Each P old (opening ++ since)
  along P since first then = Each-append P old opening since first (subst (λ (j : List Event). Each P j since) h.collections.start_is then)

  all-due : Each Due old (opening ++ more)
  all-due = along Due more (Each-weaker KeepsObjects Due (λ before event keeps key object removes. absurd (keeps key object removes)) old opening h.collections.keeps) (Each-where (RemovesCollecting tasks) Due start more due h.collections.removing)

  whole-is : new ≡ old ++ (opening ++ more)
  whole-is = h.collections.is ∙ ap (λ (j : List Event). j ++ more) h.collections.start_is ∙ append_assoc old opening more

  due-at : (before rest : List Event) (event : Event) (key : Key) → new ≡ (old ++ before) ++ event ∷ rest → IsObject key → Removes (old ++ before) event key → RemovesDoomed tasks start (old ++ before) event key
  due-at before rest event key is =
      let parts : opening ++ more ≡ before ++ event ∷ rest = append_cancel_left old (opening ++ more) (before ++ event ∷ rest) (sym whole-is ∙ is ∙ append_assoc old before (event ∷ rest)) in
      Each-at Due old before event rest (subst (Each Due old) parts all-due) key

  -- ---- how a collection ends
  tells : (outcomes : List Outcome) → AllTold draw tasks outcomes start new → (place cutoff : ℕ) (outcome : Outcome) → (c : CollectsAt tasks place cutoff) → slice_get outcomes place ≡ Some outcome → CollectedTells c.task.line cutoff (place + 1) start outcome new
  tells outcomes told place cutoff outcome c out = subst (λ (head : Head). TellsBy head (ids_at draw place) c.task (place + 1) start outcome new) c.head_is (told place c.task outcome c.at out)

  -- ---- all collections at one moment
  module _ (since rest : List Event) (part : more ≡ since ++ rest) where
    abbrev journal : List Event
    journal = start ++ since

    abbrev collections : List Collection
    collections = all_from start journal 0 tasks

    behind-old : (seen : List Event) → start ++ seen ≡ old ++ (opening ++ seen)
    behind-old seen = ap (λ (j : List Event). j ++ seen) h.collections.start_is ∙ append_assoc old opening seen

    journal-is : journal ≡ old ++ (opening ++ since)
    journal-is = behind-old since

    -- an event of the moment's journal stands before its end
    within : (seen : List Event) (event : Event) (tail : List Event) → since ≡ seen ++ event ∷ tail → length (start ++ seen) < length journal
    within seen event tail is =
        let whole : length journal ≡ length ((start ++ seen) ++ event ∷ tail) = ap (λ (xs : List Event). length xs) (ap (λ (xs : List Event). start ++ xs) is ∙ sym (append_assoc start seen (event ∷ tail))) in
        let sum = length-append (start ++ seen) (event ∷ tail) in
        omega (arith, whole, sum)

    only : (seen : List Event) (event : Event) (tail : List Event) → since ≡ seen ++ event ∷ tail → RemovesCollecting tasks (start ++ seen) event → OnlyCollects collections (start ++ seen) event
    only seen event tail is collecting key object removes =
        let o : IsOfCollection tasks event = collecting key object removes in
        record {
          collection = its_own start journal o.place o.cutoff;
          among = all-among start journal tasks o.place o.cutoff (record { task = o.task; at = o.at; head_is = o.head_is });
          client_is = o.client_is;
          within = within seen event tail is;
          more = seen;
          is = refl;
        }

    removing : Each (RemovesCollecting tasks) start since
    removing = (Each-back (RemovesCollecting tasks) start since rest (subst (Each (RemovesCollecting tasks) start) part h.collections.removing)).0

    all-only : Each (OnlyCollects collections) old (opening ++ since)
    all-only = along (OnlyCollects collections) since
        (Each-weaker KeepsObjects (OnlyCollects collections) (λ before event keeps key object removes. absurd (keeps key object removes)) old opening h.collections.keeps)
        (Each-where (RemovesCollecting tasks) (OnlyCollects collections) start since only removing)

    -- a commit that took effect is of a session that began with the tasks
    later : (seen : List Event) (event : Event) (tail : List Event) → opening ++ since ≡ seen ++ event ∷ tail → CommitsLater old (old ++ seen) event
    later seen event tail is lost is_lost base id k =
        let behind : journal ≡ (old ++ seen) ++ event ∷ tail = journal-is ∙ ap (λ (xs : List Event). old ++ xs) is ∙ sym (append_assoc old seen (event ∷ tail)) in
        let whole : new ≡ journal ++ rest = h.collections.is ∙ ap (λ (xs : List Event). start ++ xs) part ∙ sym (append_assoc start since rest) in
        let s : IsSessions tasks start (old ++ seen) event base id =
        commit-own l.owns l.child draw tasks changes old start new h seen (tail ++ rest) (old ++ seen) event refl
        (whole ∙ ap (λ (j : List Event). j ++ rest) behind ∙ append_assoc (old ++ seen) (event ∷ tail) rest) base id k in
        record { since = opening; own = subst (λ (from : List Event). HoldsBesides (λ (key : Key). HasPut event.client key from (old ++ seen)) base id (old ++ seen)) h.collections.start_is s.own }

    module _ (none_missing : NoneMissing old) (leaves : Each (LeavesLost old) old (opening ++ since)) (safe : AllSafe tasks start since) where
      listed-all : (place cutoff : ℕ) → CollectsAt tasks place cutoff → (laws.walk_at (its_own start journal place cutoff) journal).lists ≡ 4 → HasListed tasks place cutoff start journal
      listed-all place cutoff at four = record { collects = at; lists = sym (ap (λ (w : Walk). w.lists) (walk-here l.owns l.clients l.child draw tasks changes old start new h since rest part place cutoff at)) ∙ four }

      collected-one : (place cutoff : ℕ) → CollectsAt tasks place cutoff → (laws.walk_at (its_own start journal place cutoff) journal).lists ≡ 4 → IsCollected (its_own start journal place cutoff) journal []
      collected-one place cutoff at four =
          let listed = listed-all place cutoff at four in
          collected-here l.owns l.clients l.child draw tasks changes old start new h since rest part place cutoff at (safe place cutoff listed) listed.lists

      collected : AreCollected collections old journal
      collected = record {
        good = good-here l.owns l.clients l.child draw tasks changes old start new h since rest part;
        once = once-here l.owns l.clients l.child draw tasks changes old start new h since rest part;
        added = opening ++ since;
        is = journal-is;
        only = all-only;
        collects = of-all start journal (λ (c : Collection). Collects c journal) tasks (collects-here l.owns l.clients l.child draw tasks changes old start new h since rest part);
        collected = of-all start journal (λ (c : Collection). (laws.walk_at c journal).lists ≡ 4 → IsCollected c journal []) tasks collected-one;
        none_missing = none_missing;
        own = Each-where (LeavesLost old) (CommitsLater old) old (opening ++ since) (λ seen event tail is p. later seen event tail is) leaves;
        quiet = leaves;
      }

      preceded : (other : ℕ) → AllPrecede tasks other start since → (c : Collection) → Contains collections c → (laws.walk_at c journal).lists ≡ 4 → IsPreceded c (other + 1) (old ++ opening) journal
      preceded other all = of-all start journal (λ (c : Collection). (laws.walk_at c journal).lists ≡ 4 → IsPreceded c (other + 1) (old ++ opening) journal) tasks
          (λ place cutoff at four.
          subst (λ (from : List Event). IsPreceded (its_own start journal place cutoff) (other + 1) from journal) h.collections.start_is
          (preceded-here l.owns l.clients l.child draw tasks changes old start new h since rest part place cutoff at other (all place cutoff (listed-all place cutoff at four))))

      pub needed-stands : NeededStands draw tasks start since
      needed-stands = record {
        refs = λ ref key object reached put. l.refs_found collections old journal collected ref key object reached put;
        sessions = λ other session key object reached put.
            l.bases_found collections old journal collected session.ref session.has.base key object (l.anchored session.ref session.has.base (session.has.named.got.own.before ++ session.has.named.got.own.event ∷ []) journal session.anchored) reached put;
        leased = λ other session key object reached put.
            l.leases_found collections old (opening ++ session.since) journal collected session.lease session.has.base key object
            (subst (λ (from : List Event). IsLeased session.lease session.has.base from journal) (behind-old session.since) session.leased) reached put;
        puts = λ other access key object opens all put.
            l.own_found collections old opening journal collected (other + 1) key object (subst (λ (from : List Event). HasPut (other + 1) key from journal) h.collections.start_is put) (preceded other all);
      }

      pub none-lost : NoneMissing journal
      none-lost = l.missed collections old journal collected

  -- ---- over an empty store
  nothing-lost : (key : Key) → IsLost [] key → ⊥
  nothing-lost key lost = let was = lost.put in let none : None ≡ Some was.0 = sym (ap (λ (s : Slot). s.first) (slot-none key)) ∙ was.1 in cc

  leaves-all : (before xs : List Event) → Each (LeavesLost []) before xs
  unfolding Each
  leaves-all before [] = tt
  leaves-all before (x ∷ xs) = (λ id points key reaches lost. nothing-lost key lost, leaves-all (before ++ x ∷ []) xs)

  free : old ≡ [] → (since : List Event) → NoneMissing old × Each (LeavesLost old) old (opening ++ since)
  free none since = subst (λ (j : List Event). NoneMissing j × Each (LeavesLost j) j (opening ++ since)) (sym none) (l.nothing, leaves-all [] (opening ++ since))

  -- ---- all of it
  pub keeps-needed : (outcomes : List Outcome) → AllTold draw tasks outcomes start new → KeepsNeeded draw tasks outcomes old start new
  keeps-needed outcomes told = record {
    opening = opening;
    start_is = h.collections.start_is;
    added = more;
    is = h.collections.is;
    removes = due-at;
    told = tells outcomes told;
    needed = λ place cutoff since rest part listed safe.
        dooms-nothing l.owns l.clients l.child draw tasks changes old start new h since rest part place cutoff listed.collects safe l.refs l.bases l.leases l.puts l.anchored listed.lists;
    stands = λ since rest part none_missing leaves safe. needed-stands since rest part none_missing leaves safe;
    goes_on = λ none_missing leaves safe. subst NoneMissing (sym h.collections.is) (none-lost more [] (sym (append-nil more)) none_missing leaves safe);
    free = free;
  }

pub needed-law : Laws → NeededLaw
needed-law l draw tasks changes outcomes old start new h told = keeps-needed l draw tasks changes old start new h outcomes told
