-- What a collection was told is so, along a journal.
use Rattle.std.proofs.Common.{◌≡◌, ◌⊎◌, inl, inr, ℕ, ◌<◌, ◌≤◌, List, [], ◌∷◌, ◌++◌, length, sym, ◌∙◌, ap, subst, arith, append_assoc, append-nil}
use Rattle.std.specs.Prelude.{Some, None}
use Rattle.std.proofs.lemmas.List.{length-append}
use Rattle.repo_objects.specs.Laws.{InitialLaw, SnapshotLaw, ManifestLaw}
use Rattle.object_store.specs.declared.events.Event.{Event}
use Rattle.object_store.specs.Machine.{last_time}
use Rattle.object_store.proofs.Journals.{Each-append, Each-one}
use Rattle.store_api.specs.Journal.{Each, IsFirst, IsGood, IsOnce}
use Rattle.collecting.specs.Walks.{Walk}
use Rattle.history_laws.specs.Collections.{Collection, walk_at, HasBegun, OwesUntil}
use Rattle.history_laws.proofs.Past.{last_time-one, Past, past-one}
use Rattle.history_laws.proofs.Walking.{IsTold, IsDead, Behind, behind-more, walk-one, walk-short, walk-start, told-later, told-kept, told-on}

-- it was ended too early, or what it was told is so
abbrev pub StandsSo : Collection → List Event → Type 0
StandsSo c journal = IsDead (walk_at c journal) ⊎ IsTold c.cutoff journal (last_time journal) (walk_at c journal)

pub stands-at-start : (c : Collection) → StandsSo c c.start
stands-at-start c = inr (subst (IsTold c.cutoff c.start (last_time c.start)) (sym (walk-start c)) (record {
  reads_ok = λ s h. absurd (omega (arith, h.1));
  files_ok = λ m h. absurd (omega (arith, h.1));
  listed_ok = λ e h. absurd (omega (arith, h.1));
  closed = λ some. absurd (omega (arith, some));
  tags_last = λ ts e. cc;
  leases_last = λ ls e. absurd cc;
  late = λ left e. cc;
}))

-- an event behind the collection's listing of the branches isn't earlier than the cutoff
abbrev pub IsLate : Collection → List Event → Event → Type 0
IsLate c before event = HasBegun c before → c.cutoff ≤ event.time

module _ (initial : InitialLaw) (snaps : SnapshotLaw) (manifests : ManifestLaw) (c : Collection) where
  -- ended too early, it stays so
  pub dead-one : (journal : List Event) (event : Event) → Behind c journal → OwesUntil c journal event → IsDead (walk_at c journal) → IsDead (walk_at c (journal ++ event ∷ []))
  dead-one journal event behind owes d = elim (walk-one c journal event behind) [
    | inl its ↦ (let may = (owes its.client_is its.within).0 in let over = d.0 in cc)
    | inr same ↦ subst IsDead (sym same) d
  ]

  pub dead-along : (journal more : List Event) → Behind c journal → Each (OwesUntil c) journal more → IsDead (walk_at c journal) → IsDead (walk_at c (journal ++ more))
  unfolding Each
  dead-along journal [] behind owes d = subst (λ (j : List Event). IsDead (walk_at c j)) (sym (append-nil journal)) d
  dead-along journal (x ∷ xs) behind owes d =
      subst (λ (j : List Event). IsDead (walk_at c j)) (append_assoc journal (x ∷ []) xs)
      (dead-along (journal ++ x ∷ []) xs (behind-more c journal (x ∷ []) behind) owes.1 (dead-one journal x behind owes.0 d))

  -- the collection's walk behind an event, in the journal before it
  module _ (journal : List Event) (event : Event) (behind : Behind c journal) (good : IsGood journal event) (past : Past journal) (owes : OwesUntil c journal event) where
    pub told-before : IsTold c.cutoff journal (last_time journal) (walk_at c journal) → IsDead (walk_at c (journal ++ event ∷ [])) ⊎ IsTold c.cutoff journal event.time (walk_at c (journal ++ event ∷ []))
    told-before h = elim (walk-one c journal event behind) [
      | inl its ↦ subst (λ (w : Walk). IsDead w ⊎ IsTold c.cutoff journal event.time w) (sym its.walk)
          (told-kept snaps manifests c.cutoff journal past (last_time journal) event.time good.legal.later (walk_at c journal) h (length journal) event.op event.reply (owes its.client_is its.within).1 good.legal.answered)
      | inr same ↦ subst (λ (w : Walk). IsDead w ⊎ IsTold c.cutoff journal event.time w) (sym same)
          (inr (told-later snaps manifests c.cutoff journal past (last_time journal) event.time good.legal.later (walk_at c journal) h))
    ]

    pub stands-one : IsOnce journal → IsFirst journal event → StandsSo c journal → StandsSo c (journal ++ event ∷ [])
    stands-one once first (inl d) = inl (dead-one journal event behind owes d)
    stands-one once first (inr h) = elim (told-before h) [
      | inl d ↦ inl d
      | inr t ↦ inr (subst (λ (n : ℕ). IsTold c.cutoff (journal ++ event ∷ []) n (walk_at c (journal ++ event ∷ []))) (sym (last_time-one journal event))
          (told-on initial c.cutoff journal event once good first event.time _ _ _ _ _ _ _ _ _ _ t))
    ]

  -- ---- along a journal
  -- all is listed at the end
  module _ (whole : List Event) (listed : (walk_at c whole).lists ≡ 4) where
    pub late-along : (journal more : List Event) → Behind c journal → Past journal → IsOnce journal → Each IsGood journal more → Each IsFirst journal more → Each (OwesUntil c) journal more → journal ++ more ≡ whole → StandsSo c journal → Each (IsLate c) journal more
    unfolding Each
    late-along journal [] behind past once good first owes is s = tt
    late-along journal (x ∷ xs) behind past once good first owes is s = (
      λ begun. elim s [
        | inl d ↦
            let dead = dead-along journal (x ∷ xs) behind owes d in
            let few : (walk_at c whole).lists < 4 = subst (λ (j : List Event). (walk_at c j).lists < 4) is dead.1 in
            absurd (omega (arith, few, listed))
        | inr h ↦ let a = h.late begun.0 begun.1 in let b = good.0.legal.later in omega (arith, a, b)
      ],
      late-along (journal ++ x ∷ []) xs (behind-more c journal (x ∷ []) behind) (past-one initial journal x once good.0 first.0 past) (Each-append IsFirst [] journal (x ∷ []) once (Each-one IsFirst journal x first.0)) good.1 first.1 owes.1
          (append_assoc journal (x ∷ []) xs ∙ is) (stands-one journal x behind good.0 past owes.0 once first.0 s),
    )

  pub stands-along : (journal more : List Event) → Behind c journal → Past journal → IsOnce journal → Each IsGood journal more → Each IsFirst journal more → Each (OwesUntil c) journal more → StandsSo c journal → StandsSo c (journal ++ more)
  unfolding Each
  stands-along journal [] behind past once good first owes s = subst (StandsSo c) (sym (append-nil journal)) s
  stands-along journal (x ∷ xs) behind past once good first owes s =
      subst (StandsSo c) (append_assoc journal (x ∷ []) xs)
      (stands-along (journal ++ x ∷ []) xs (behind-more c journal (x ∷ []) behind) (past-one initial journal x once good.0 first.0 past) (Each-append IsFirst [] journal (x ∷ []) once (Each-one IsFirst journal x first.0)) good.1 first.1 owes.1 (stands-one journal x behind good.0 past owes.0 once first.0 s))

  -- up to where it began nothing is asked
  not-begun : (journal : List Event) → length journal ≤ length c.start → HasBegun c journal → ⊥
  not-begun journal short begun =
      let e : None ≡ Some begun.0 = sym (ap (λ (w : Walk). w.branches) (walk-short c journal short)) ∙ begun.1 in
      cc

  pub late-before : (journal more : List Event) → length (journal ++ more) ≤ length c.start → Each (IsLate c) journal more
  unfolding Each
  late-before journal [] short = tt
  late-before journal (x ∷ xs) short = (
    λ begun. absurd (not-begun journal (let a = length-append journal (x ∷ xs) in omega (arith, a, short)) begun),
    late-before (journal ++ x ∷ []) xs (subst (λ (j : List Event). length j ≤ length c.start) (sym (append_assoc journal (x ∷ []) xs)) short),
  )
