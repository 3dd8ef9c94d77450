-- What the base of a leased session reaches stands, where collections alone remove objects.
use Rattle.std.proofs.Common.{◌≡◌, ◌⊎◌, inl, inr, List, [], ◌∷◌, ◌++◌, refl, sym, ◌∙◌, ap, subst, append_assoc, append-nil}
use Rattle.std.specs.Prelude.{Some, None}
use Rattle.ice_ids.specs.declared.Id12.{Id12}
use Rattle.ice_ids.specs.Text.{initial_id}
use Rattle.repo_objects.specs.Laws.{InitialLaw, SnapshotLaw, ManifestLaw}
use Rattle.object_store.specs.declared.keys.Key.{Key}
use Rattle.object_store.specs.declared.keys.Key.TheVariants.{Snapshot, Txn}
use Rattle.object_store.specs.declared.events.Event.{Event}
use Rattle.object_store.specs.Machine.{Stored, Slot, found}
use Rattle.object_store.proofs.Journals.{Each-append, Each-at, Each-none, Each-one}
use Rattle.store_api.specs.Journal.{Each, IsFirst, IsGood, WasPut}
use Rattle.reach.specs.Chains.{Chain, here, down, StaysOrCut, parent_at}
use Rattle.reach.specs.Holding.{Holds, Reaches}
use Rattle.collecting.specs.Walks.{IsObject}
use Rattle.history_laws.specs.Refs.{StillNames, IsLeased}
use Rattle.history_laws.specs.Collections.{Collection, walk_at, OnlyCollects, IsCollected, AreCollected}
use Rattle.history_laws.specs.Laws.{PassedNone, Stands, LeasesFound}
use Rattle.history_laws.proofs.Steps.{IsRemoval, step-one}
use Rattle.history_laws.proofs.Past.{Has, Known, known-append, Past, past-of, parent-one, holds-back-one}
use Rattle.history_laws.proofs.Ending.{at-first, lease-kept}
use Rattle.history_laws.proofs.Passed.{lost-passed}
use Rattle.history_laws.proofs.Found.{IsPart, part-of, only-at, removed, ref-put, found-by, initial-found, reach-put}

module _ (initial : InitialLaw) (snaps : SnapshotLaw) (manifests : ManifestLaw) (collections : List Collection) (old whole : List Event) (h : AreCollected collections old whole) (id base : Id12) where
  -- all that the base reaches, and that was put, stands
  abbrev AllStand : List Event → Type 0
  AllStand journal = (key : Key) → IsObject key → Reaches journal base key → WasPut journal key → Stands journal key

  -- ---- one more event
  module _ (journal added : List Event) (is : journal ≡ old ++ added) (event : Event) (after : List Event) (whole_is : whole ≡ journal ++ event ∷ after) (since : List Event) (leased : IsLeased id base since journal) (known : Known journal base) (all : AllStand journal) where
    here-part : IsPart collections old journal (event ∷ after)
    here-part = part-of collections old whole h journal (event ∷ after) whole_is added is

    next-part : IsPart collections old (journal ++ event ∷ []) after
    next-part = part-of collections old whole h (journal ++ event ∷ []) after (whole_is ∙ sym (append_assoc journal (event ∷ []) after)) (added ++ event ∷ []) (ap (λ (j : List Event). j ++ event ∷ []) is ∙ append_assoc old added (event ∷ []))

    good : IsGood journal event
    good = Each-at IsGood [] journal event [] next-part.good

    first : IsFirst journal event
    first = Each-at IsFirst [] journal event [] next-part.once

    past : Past journal
    past = past-of initial journal here-part.good here-part.once

    only : OnlyCollects collections journal event
    only = subst (λ (j : List Event). OnlyCollects collections j event) (sym is) (only-at collections old whole h added event after (whole_is ∙ ap (λ (j : List Event). j ++ event ∷ after) is))

    -- what is removed the base doesn't reach
    not-removed : (key : Key) → IsObject key → Reaches journal base key → (slot : Slot) → IsRemoval journal event key slot → (there : Stored) → found journal key ≡ Some there → found (journal ++ event ∷ []) key ≡ None → ⊥
    not-removed key object r slot removal there stands gone =
        let d = removed initial snaps manifests collections old (journal ++ event ∷ []) after next-part journal event [] refl only key object (record { stored = there; stands = stands; gone = gone }) slot removal in
        let c : IsCollected d.one journal (event ∷ after) = here-part.collected d.one d.among d.behind d.settled in
        let present : PassedNone (walk_at d.one journal) journal base = λ q among apart reached.
        let lost = lost-passed initial snaps d.one journal (event ∷ after) c.listed q among apart in
        let s = all q lost.object reached lost.put in
        let e = s.1 in
        let f = lost.gone in
        cc in
        lease-kept initial snaps manifests d.one journal (event ∷ after) c id base since key leased present r (at-first initial snaps manifests d.one journal (event ∷ after) c.listed key d.doomed)

    -- ---- what it reaches behind the event it reached before, or the initial snapshot does
    chain-back : {x y : Id12} → Known journal x → Chain (journal ++ event ∷ []) x y → (Chain journal x y × Known journal y) ⊎ Chain (journal ++ event ∷ []) initial_id y
    chain-back known_x here = inl (here, known_x)
    chain-back known_x (down {id = x} {parent = p} {below = y} e rest) =
        let stays : StaysOrCut (parent_at journal x) (parent_at (journal ++ event ∷ []) x) = parent-one initial journal event here-part.once good first x known_x in
        elim stays [
          | inl same ↦
              let was : parent_at journal x ≡ Some p = sym same ∙ e in
              elim (chain-back (past.parents x p was) rest) [ inl c ↦ inl (down was c.0, c.1) | inr cut ↦ inr cut ]
          | inr cut ↦ (let same : p ≡ initial_id = cc in inr (subst (λ (z : Id12). Chain (journal ++ event ∷ []) z y) same rest))
        ]

    has-back : (x : Id12) (key : Key) → Known journal x → Has (journal ++ event ∷ []) x key → Has journal x key
    has-back x key known_x (inl e) = inl e
    has-back x key known_x (inr held) = inr (holds-back-one initial journal event here-part.once good first x key known_x held)

    reach-back : (key : Key) → Reaches (journal ++ event ∷ []) base key → Reaches journal base key ⊎ Reaches (journal ++ event ∷ []) initial_id key
    reach-back key (inl e) = inl (inl e)
    reach-back key (inr r) = elim (chain-back known r.chain) [
      | inl c ↦ inl (inr (record { at = r.at; chain = c.0; has = has-back r.at key c.1 r.has }))
      | inr cut ↦ inr (inr (record { at = r.at; chain = cut; has = r.has }))
    ]

    -- the initial snapshot and its log
    its-own : (key : Key) → (key ≡ Snapshot initial_id) ⊎ (key ≡ Txn initial_id) → Reaches (journal ++ event ∷ []) initial_id key
    its-own key (inl e) = inl e
    its-own key (inr e) = inr (record { at = initial_id; chain = here; has = inr (subst (Holds (journal ++ event ∷ []) initial_id) (sym e) refl) })

    from-initial : (key : Key) → IsObject key → Reaches (journal ++ event ∷ []) initial_id key → WasPut (journal ++ event ∷ []) key → Stands (journal ++ event ∷ []) key
    from-initial key object r was = initial-found initial snaps manifests collections old (journal ++ event ∷ []) after next-part key object r was

    stands-on : (key : Key) → IsObject key → Reaches journal base key → WasPut journal key → Stands (journal ++ event ∷ []) key
    stands-on key object r was =
        let s = all key object r was in
        elim (step-one journal event key) [
          | inl same ↦ (s.0, ap (λ (x : Slot). x.stands) same ∙ s.1)
          | inr put ↦ elim put [
            | inl new ↦ (_, ap (λ (x : Slot). x.stands) new.slot_is)
            | inr over ↦ elim over [
              | inl moved ↦ (_, ap (λ (x : Slot). x.stands) moved.slot_is)
              | inr gone ↦ absurd (not-removed key object r _ gone s.0 s.1 (ap (λ (x : Slot). x.stands) gone.slot_is))
            ]
          ]
        ]

    stand-one : AllStand (journal ++ event ∷ [])
    stand-one key object r was = elim (reach-back key r) [
      | inr cut ↦ from-initial key object cut was
      | inl before ↦ elim (reach-put journal here-part.good here-part.once past base key known before) [
        | inl own ↦ from-initial key object (its-own key own) was
        | inr put ↦ stands-on key object before put
      ]
    ]

    still-leased : StillNames id base journal event → IsLeased id base since (journal ++ event ∷ [])
    still-leased still = record {
      more = leased.more ++ event ∷ [];
      is = ap (λ (j : List Event). j ++ event ∷ []) leased.is ∙ append_assoc since leased.more (event ∷ []);
      ref = leased.ref;
      named = leased.named;
      at_first = leased.at_first;
      always = Each-append (StillNames id base) since leased.more (event ∷ []) leased.always (subst (λ (j : List Event). Each (StillNames id base) j (event ∷ [])) leased.is (Each-one (StillNames id base) journal event still));
    }

  stand-along : (journal added more : List Event) → journal ≡ old ++ added → whole ≡ journal ++ more → (since : List Event) → IsLeased id base since journal → Each (StillNames id base) journal more → Known journal base → AllStand journal → AllStand whole
  unfolding Each
  stand-along journal added [] is whole_is since leased always known all = subst AllStand (sym (whole_is ∙ append-nil journal)) all
  stand-along journal added (x ∷ xs) is whole_is since leased always known all =
      stand-along (journal ++ x ∷ []) (added ++ x ∷ []) xs (ap (λ (j : List Event). j ++ x ∷ []) is ∙ append_assoc old added (x ∷ [])) (whole_is ∙ sym (append_assoc journal (x ∷ []) xs)) since
      (still-leased journal added is x xs whole_is since leased known all always.0) always.1 (known-append journal (x ∷ []) base known) (stand-one journal added is x xs whole_is since leased known all)

  -- ---- since it is leased
  module _ (added : List Event) (l : IsLeased id base (old ++ added) whole) where
    first-part : IsPart collections old (old ++ added) l.more
    first-part = part-of collections old whole h (old ++ added) l.more l.is added refl

    at-first-stand : AllStand (old ++ added)
    at-first-stand key object r was = found-by initial snaps manifests collections old (old ++ added) l.more first-part l.ref key base object l.named r was

    leased-now : IsLeased id base (old ++ added) (old ++ added)
    leased-now = record { more = []; is = sym (append-nil (old ++ added)); ref = l.ref; named = l.named; at_first = l.at_first; always = Each-none (StillNames id base) (old ++ added) }

    pub all-stand : AllStand whole
    all-stand = stand-along (old ++ added) added l.more refl l.is (old ++ added) leased-now l.always (inr (ref-put (old ++ added) first-part.good l.ref base l.named)) at-first-stand

pub leases-found : InitialLaw → SnapshotLaw → ManifestLaw → LeasesFound
leases-found initial snaps manifests collections old since journal h id base key object l r was = all-stand initial snaps manifests collections old journal h id base since l key object r was
