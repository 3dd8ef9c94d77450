-- What is given of collections and sessions.
use Rattle.std.proofs.Common.{◌≡◌, inl, inr, ℕ, ◌≤◌, List, [], ◌∷◌, ◌++◌, length, sym, ap, subst, arith, append_assoc}
use Rattle.std.proofs.lemmas.List.{length-append, take_all}
use Rattle.std.specs.Prelude.{Some}
use Rattle.ice_ids.specs.declared.Id12.{Id12}
use Rattle.repo_objects.specs.Readings.{ref_of}
use Rattle.repo_objects.specs.Laws.{InitialLaw, SnapshotLaw, ManifestLaw}
use Rattle.object_store.specs.declared.events.Event.{Event}
use Rattle.object_store.specs.declared.keys.Key.TheVariants.{Branch}
use Rattle.object_store.specs.declared.keys.Why.TheVariants.{Commit}
use Rattle.object_store.specs.Machine.{Stored, found, last_time}
use Rattle.object_store.proofs.Journals.{Each-append, Each-at, Each-back, Each-one, Each-weaker}
use Rattle.object_store.proofs.Slots.{stood-is}
use Rattle.store_api.specs.Journal.{Each, IsCommitOver, IsGood, IsMadeOver, IsMoved, IsOnce, IsPolite, StoodAt}
use Rattle.collecting.specs.Walks.{Walk, May}
use Rattle.collecting.specs.Runs.{walk_of, OwesCollecting}
use Rattle.history_laws.specs.Collections.{Collection, walk_at, OwesUntil, IsNotBefore}
use Rattle.history_laws.specs.Laws.{collection_of, ClientCollects, IsNotOf, FirstPreceded, BegunIsLate, CommitsChild}
use Rattle.history_laws.proofs.Past.{last_time-one}
use Rattle.history_laws.proofs.Telling.{IsLate}
use Rattle.history_laws.proofs.Ending.{lates}

-- ---- a client that does nothing else
its-walk : (cutoff client : ℕ) (start journal before : List Event) → length before ≤ length journal → walk_at (collection_of cutoff client start journal) before ≡ walk_of cutoff client start before
its-walk cutoff client start journal before short = ap (walk_of cutoff client start) (take_all (length journal) before short)

its-owes : (cutoff client : ℕ) (start journal before : List Event) (event : Event) → OwesCollecting cutoff client start before event → OwesUntil (collection_of cutoff client start journal) before event
its-owes cutoff client start journal before event owes e within = subst (λ (w : Walk). May cutoff w event.op) (sym (its-walk cutoff client start journal before (omega (arith, within)))) (owes e)

pub client-collects : ClientCollects
client-collects = record {
  owes = λ cutoff client start more owes. Each-weaker (OwesCollecting cutoff client start) (OwesUntil (collection_of cutoff client start (start ++ more))) (its-owes cutoff client start (start ++ more)) start more owes;
  walk = λ cutoff client start journal later. its-walk cutoff client start (journal ++ later) journal (let long = length-append journal later in omega (arith, long));
}

-- ---- sessions
late-after : (c : Collection) (client : ℕ) (journal more : List Event) → c.cutoff ≤ last_time journal → Each IsGood journal more → Each (IsNotBefore c client) journal more
unfolding Each
late-after c client journal [] late good = tt
late-after c client journal (x ∷ xs) late good =
    let later = good.0.legal.later in (
      λ e. inr (omega (arith, late, later)),
      late-after c client (journal ++ x ∷ []) xs (let now = last_time-one journal x in omega (arith, late, later, now)) good.1,
    )

pub first-preceded : FirstPreceded
first-preceded c client from before event after good others late = record {
  more = before ++ event ∷ after;
  is = append_assoc from before (event ∷ after);
  each = Each-append (IsNotBefore c client) from before (event ∷ after) (Each-weaker (IsNotOf client) (IsNotBefore c client) (λ j e other is. absurd (other is)) from before others) (first-late (Each-back IsGood [] (from ++ before) (event ∷ after) good).1);
}
  where
    both : Each (IsNotBefore c client) ((from ++ before) ++ event ∷ []) after → Each (IsNotBefore c client) (from ++ before) (event ∷ after)
    both rest = Each-append (IsNotBefore c client) (from ++ before) (event ∷ []) after (Each-one (IsNotBefore c client) (from ++ before) event (λ e. inr late)) rest

    first-late : Each IsGood (from ++ before) (event ∷ after) → Each (IsNotBefore c client) (from ++ before) (event ∷ after)
    first-late g = both (late-after c client ((from ++ before) ++ event ∷ []) after (let now = last_time-one (from ++ before) event in omega (arith, late, now)) (Each-back IsGood (from ++ before) (event ∷ []) after g).1)

pub begun-late : InitialLaw → SnapshotLaw → ManifestLaw → BegunIsLate
begun-late initial snaps manifests c journal later h before event after is begun =
    Each-at (IsLate c) [] before event after (subst (λ (j : List Event). Each (IsLate c) [] j) is (lates initial snaps manifests c journal later h)) begun

-- ---- commits
-- the base of a put over that is polite is the one that its branch named
same-base : (before : List Event) (base id : Id12) (name bytes : List ℕ) (old : ℕ) (stored : Stored) → IsOnce before → found before (Branch name) ≡ Some stored → stored.version ≡ old → ref_of stored.bytes ≡ Some base → IsCommitOver before name old id → IsMadeOver before base id
same-base before base id name bytes old stored once there version named over =
    let stood : StoodAt before (Branch name) stored.version over.named_by = subst (λ (n : ℕ). StoodAt before (Branch name) n over.named_by) (sym version) over.named in
    let same : stored.bytes ≡ over.named_by = stood-is before (Branch name) stored over.named_by there stood in
    let is : over.base ≡ base = let e : ref_of over.named_by ≡ Some base = subst (λ (b : List ℕ). ref_of b ≡ Some base) same named in let f = over.names in cc in
    subst (λ (x : Id12). IsMadeOver before x id) is (over.once once)

pub commits-child : CommitsChild
commits-child before event base id once good k =
    let moved : IsMoved before k.name k.old.0 k.bytes Commit = subst (IsPolite before) k.op_is good.polite in
    elim moved.cause [
      | inl for ↦ absurd (cc)
      | inr for ↦
          let same : moved.names.id ≡ id = let e = moved.names.reference in let f = k.names in cc in
          same-base before base id k.name k.bytes k.old.0 k.stored once k.stands k.version_is k.named (subst (IsCommitOver before k.name k.old.0) same for.1)
    ]
