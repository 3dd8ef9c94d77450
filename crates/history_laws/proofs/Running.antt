-- What refs name and leases keep stays safe beside a collection, along a journal.
use Rattle.std.proofs.Common.{◌≡◌, ◌≢◌, ◌⊎◌, inl, inr, ℕ, List, [], ◌∷◌, ◌++◌, length, refl, sym, subst, append_assoc, append-nil}
use Rattle.std.specs.Prelude.{None}
use Rattle.ice_ids.specs.declared.Id12.{Id12}
use Rattle.ice_ids.specs.Text.{initial_id}
use Rattle.repo_objects.specs.Laws.{InitialLaw, SnapshotLaw, ManifestLaw}
use Rattle.object_store.specs.declared.keys.Key.{Key}
use Rattle.object_store.specs.declared.keys.Key.TheVariants.{Snapshot, Manifest, Txn, Chunk, Branch, Tag, Tombstone, Lease}
use Rattle.object_store.specs.declared.events.Event.{Event}
use Rattle.object_store.specs.Machine.{last_time}
use Rattle.object_store.proofs.Journals.{Each-append, Each-one}
use Rattle.store_api.specs.Journal.{Each, IsFirst, IsGood, IsOnce}
use Rattle.reach.specs.Holding.{Holds, Reaches}
use Rattle.reach.specs.Own.{HoldsBesides}
use Rattle.collecting.specs.Walks.{Walk, fresh, IsObject, MayDo, told}
use Rattle.history_laws.specs.Refs.{IsRef, Names, Points, makes_branch, makes_tag, resets, Commits}
use Rattle.history_laws.specs.Collections.{Collection, walk_at, HasBegun, OwesUntil, CommitsOwn, IsQuiet, IsOfSession}
use Rattle.history_laws.proofs.Past.{look, last_time-one, Past, past-one}
use Rattle.history_laws.proofs.Walking.{IsTold, IsDead, Behind, behind-more, walk-one, walk-start, told-later, told-kept, told-on}
use Rattle.history_laws.proofs.Telling.{IsLate, stands-at-start, dead-one}
use Rattle.history_laws.proofs.Young.{IsYoung, young-one, log-young, own-young}
use Rattle.history_laws.proofs.Kept.{IsLater, NeededBy, AreSafe, told-safe}
use Rattle.history_laws.proofs.Leasing.{AreLeased, HasLease, leased-stands, told-leased, leases-on}
use Rattle.history_laws.proofs.Moving.{refs-one}

-- what is held is an object, and no snapshot
pub held-object : (journal : List Event) (id : Id12) (key : Key) → Holds journal id key → IsObject key × (key ≢ Snapshot initial_id)
held-object journal id (Txn log) h = (tt, λ e. cc)
held-object journal id (Manifest m) h = (tt, λ e. cc)
held-object journal id (Chunk o) h = (tt, λ e. cc)
held-object journal id (Snapshot x) h = absurd h
held-object journal id (Branch name) h = absurd h
held-object journal id (Tag name) h = absurd h
held-object journal id (Tombstone name) h = absurd h
held-object journal id (Lease x) h = absurd h

-- no operation of a collection moves a ref
no-points : (cutoff : ℕ) (w : Walk) (journal : List Event) (event : Event) (id : Id12) → MayDo cutoff w event.op → Points journal event id → ⊥
no-points cutoff w journal event id may (makes_branch name bytes op done free e) = subst (MayDo cutoff w) op may
no-points cutoff w journal event id may (makes_tag name bytes op done free e) = subst (MayDo cutoff w) op may
no-points cutoff w journal event id may (resets name bytes old s op done there version e) = subst (MayDo cutoff w) op may

module _ (initial : InitialLaw) (snaps : SnapshotLaw) (manifests : ManifestLaw) (c : Collection) (doomed : Key → Type 0) where
  abbrev pub SafeAt : List Event → Walk → Type 0
  SafeAt journal w = AreSafe doomed (IsYoung c.cutoff) journal w

  abbrev pub LeasedAt : List Event → Walk → Type 0
  LeasedAt journal w = AreLeased doomed (IsYoung c.cutoff) (HasLease journal) journal w

  pub record KeptAt (journal : List Event) (last : ℕ) (w : Walk) : Type 0 where
    pub told : IsTold c.cutoff journal last w
    pub safe : SafeAt journal w
    pub leases : LeasedAt journal w

  -- it was ended too early, or what it was told is so, and what refs and leases name that it gets no more is safe
  abbrev pub Kept : List Event → Type 0
  Kept journal = IsDead (walk_at c journal) ⊎ KeptAt journal (last_time journal) (walk_at c journal)

  module _ (journal : List Event) (event : Event) (behind : Behind c journal) (goods : Each IsGood [] journal) (once : IsOnce journal) (past : Past journal) (lates : Each (IsLate c) [] journal) (good : IsGood journal event) (firsts : IsFirst journal event) where
    -- the store's part of an event, with what the collection knows behind it
    store-part : (Begun : Type 0) (w : Walk) → KeptAt journal event.time w → ((ref : Key) (id : Id12) → Names (journal ++ event ∷ []) ref id → IsLater w.branches w.tags ref ⊎ Begun)
        → (Begun → (id : Id12) → Points journal event id → (key : Key) → Reaches journal id key → doomed key → ⊥)
        → (Begun → (base id : Id12) → Commits journal event base id → (key : Key) → doomed key → HoldsBesides (IsYoung c.cutoff journal) base id journal)
        → KeptAt (journal ++ event ∷ []) (last_time (journal ++ event ∷ [])) w
    store-part Begun w k free quiet own =
        let refs = refs-one initial doomed (IsYoung c.cutoff) (NeededBy w.roots w.reads) (inl refl) (IsLater w.branches w.tags) Begun journal event once good firsts past (young-one c.cutoff journal event) (log-young c.cutoff journal past) k.safe free quiet own in
        record {
          told = subst (λ (n : ℕ). IsTold c.cutoff (journal ++ event ∷ []) n w) (sym (last_time-one journal event)) (told-on initial c.cutoff journal event once good firsts event.time _ _ _ _ _ _ _ _ _ _ k.told);
          safe = refs;
          leases = leases-on initial doomed (IsYoung c.cutoff) c.cutoff journal event once good firsts (young-one c.cutoff journal event) event.time w k.told k.leases refs;
        }

    own-part : MayDo c.cutoff (walk_at c journal) event.op → KeptAt journal (last_time journal) (walk_at c journal) → IsDead (told c.cutoff (walk_at c journal) event.op event.reply) ⊎ KeptAt (journal ++ event ∷ []) (last_time (journal ++ event ∷ [])) (told c.cutoff (walk_at c journal) event.op event.reply)
    own-part may k =
        elim (told-kept snaps manifests c.cutoff journal past (last_time journal) event.time good.legal.later (walk_at c journal) k.told (length journal) event.op event.reply may good.legal.answered) [
          | inl dead ↦ inl dead
          | inr so ↦ elim (told-safe snaps manifests doomed (IsYoung c.cutoff) c.cutoff journal past (last_time journal) event.time good.legal.later (walk_at c journal) k.told k.safe (length journal) event.op event.reply may good.legal.answered) [
            | inl dead ↦ inl dead
            | inr safe ↦ elim (told-leased snaps manifests doomed (IsYoung c.cutoff) c.cutoff journal past (last_time journal) event.time good.legal.later (walk_at c journal) k.told (HasLease journal) (λ id base l. leased-stands id base l.0 journal l.1) k.leases (length journal) event.op event.reply may good.legal.answered) [
              | inl dead ↦ inl dead
              | inr leases ↦ inr (store-part (Unit {0}) (told c.cutoff (walk_at c journal) event.op event.reply) (record { told = so; safe = safe; leases = leases }) (λ ref id n. inr tt)
                  (λ b id points. absurd (no-points c.cutoff (walk_at c journal) journal event id may points))
                  (λ b base id commits. absurd (subst (MayDo c.cutoff (walk_at c journal)) commits.op_is may)))
            ]
          ]
        ]

    -- before the branches are listed each ref is still to be got
    not-yet : (ref : Key) (id : Id12) → KeptAt journal (last_time journal) (walk_at c journal) → Names (journal ++ event ∷ []) ref id → IsLater (walk_at c journal).branches (walk_at c journal).tags ref ⊎ HasBegun c journal
    not-yet ref id k n = elim (look (walk_at c journal).branches) [
      | inr left ↦ inr left
      | inl none ↦ inl (by_ref ref n.is_ref none)
    ]
      where
        no-tags : (walk_at c journal).branches ≡ None → (walk_at c journal).tags ≡ None
        no-tags none = elim (look (walk_at c journal).tags) [
          | inl t ↦ t
          | inr ts ↦ (let all = k.told.tags_last ts.0 ts.1 in cc)
        ]

        by_ref : (key : Key) → IsRef key → (walk_at c journal).branches ≡ None → IsLater (walk_at c journal).branches (walk_at c journal).tags key
        by_ref (Branch name) is none = inl none
        by_ref (Tag name) is none = inl (no-tags none)
        by_ref (Tombstone name) is none = absurd is
        by_ref (Snapshot x) is none = absurd is
        by_ref (Manifest x) is none = absurd is
        by_ref (Txn x) is none = absurd is
        by_ref (Chunk x) is none = absurd is
        by_ref (Lease x) is none = absurd is

    other-part : IsQuiet doomed c journal event → CommitsOwn c journal event → KeptAt journal (last_time journal) (walk_at c journal) → KeptAt (journal ++ event ∷ []) (last_time (journal ++ event ∷ [])) (walk_at c journal)
    other-part quiet own k =
        store-part (HasBegun c journal) (walk_at c journal) (record { told = told-later snaps manifests c.cutoff journal past (last_time journal) event.time good.legal.later (walk_at c journal) k.told; safe = k.safe; leases = k.leases })
        (λ ref id n. not-yet ref id k n) quiet
        (λ begun base id commits key doom held h.
        let s : IsOfSession c journal event base id = own begun base id commits in
        elim (s.own held h) [
          | inl before ↦ inl before
          | inr put ↦
              let object = held-object journal id held h in
              inr (own-young initial c event.client s.from journal held goods once lates s.preceded object.0 object.1 put)
        ])

    pub kept-one : OwesUntil c journal event → IsQuiet doomed c journal event → CommitsOwn c journal event → Kept journal → Kept (journal ++ event ∷ [])
    kept-one owes quiet own (inl dead) = inl (dead-one initial snaps manifests c journal event behind owes dead)
    kept-one owes quiet own (inr k) = elim (walk-one c journal event behind) [
      | inl its ↦ subst (λ (w : Walk). IsDead w ⊎ KeptAt (journal ++ event ∷ []) (last_time (journal ++ event ∷ [])) w) (sym its.walk) (own-part (owes its.client_is its.within).1 k)
      | inr same ↦ inr (subst (KeptAt (journal ++ event ∷ []) (last_time (journal ++ event ∷ []))) (sym same) (other-part quiet own k))
    ]

  pub kept-along : (journal more : List Event) → Behind c journal → Each IsGood [] journal → IsOnce journal → Past journal → Each (IsLate c) [] journal → Each IsGood journal more → Each IsFirst journal more → Each (IsLate c) journal more
      → Each (OwesUntil c) journal more → Each (IsQuiet doomed c) journal more → Each (CommitsOwn c) journal more → Kept journal → Kept (journal ++ more)
  unfolding Each
  kept-along journal [] behind goods once past lates good firsts late owes quiet own k = subst Kept (sym (append-nil journal)) k
  kept-along journal (x ∷ xs) behind goods once past lates good firsts late owes quiet own k =
      subst Kept (append_assoc journal (x ∷ []) xs)
      (kept-along (journal ++ x ∷ []) xs (behind-more c journal (x ∷ []) behind) (Each-append IsGood [] journal (x ∷ []) goods (Each-one IsGood journal x good.0)) (Each-append IsFirst [] journal (x ∷ []) once (Each-one IsFirst journal x firsts.0))
      (past-one initial journal x once good.0 firsts.0 past) (Each-append (IsLate c) [] journal (x ∷ []) lates (Each-one (IsLate c) journal x late.0)) good.1 firsts.1 late.1 owes.1 quiet.1 own.1
      (kept-one journal x behind goods once past lates good.0 firsts.0 owes.0 quiet.0 own.0 k))

  pub kept-at-start : Kept c.start
  kept-at-start = elim (stands-at-start c) [
    | inl dead ↦ inl dead
    | inr so ↦ inr (record { told = so; safe = subst (SafeAt c.start) (sym (walk-start c)) safe-fresh; leases = subst (LeasedAt c.start) (sym (walk-start c)) (λ id base l. inl (inl refl)) })
  ]
    where
      safe-fresh : SafeAt c.start fresh
      safe-fresh (Branch name) id n = inl (inl refl)
      safe-fresh (Tag name) id n = inl (inl refl)
      safe-fresh (Tombstone name) id n = absurd n.is_ref
      safe-fresh (Snapshot x) id n = absurd n.is_ref
      safe-fresh (Manifest x) id n = absurd n.is_ref
      safe-fresh (Txn x) id n = absurd n.is_ref
      safe-fresh (Chunk x) id n = absurd n.is_ref
      safe-fresh (Lease x) id n = absurd n.is_ref
