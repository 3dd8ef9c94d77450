-- Where the way leads that a settling read.
use Rattle.std.proofs.Common.{◌≡◌, ◌≢◌, inl, inr, ℕ, List, [], ◌∷◌, ◌++◌, refl, sym, ◌∙◌, ap, subst}
use Rattle.std.specs.Prelude.{Option, Some, None}
use Rattle.std.specs.List.{All}
use Rattle.std.proofs.lemmas.List.Elements.{All-head, All-tail}
use Rattle.ice_ids.specs.Text.{initial_id}
use Rattle.ice_ids.specs.declared.Id12.{Id12}
use Rattle.snapshot_file.specs.declared.snapshot.SnapshotFile.{SnapshotFile}
use Rattle.repo_objects.specs.Laws.{InitialLaw, SnapshotLaw}
use Rattle.object_store.specs.declared.keys.Key.TheVariants.{Snapshot}
use Rattle.object_store.specs.declared.keys.Why.TheVariants.{Commit}
use Rattle.object_store.specs.declared.events.Event.{Event}
use Rattle.object_store.specs.Machine.{first_put}
use Rattle.object_store.proofs.Journals.{Each-at, Each-back}
use Rattle.object_store.proofs.Slots.{first-append}
use Rattle.store_api.specs.Journal.{Each, IsCommitOver, IsFirst, IsGood, IsGoodJournal, IsMoved, IsOnce, IsPolite, ParentPut, WasPut, snap_in, snap_made}
use Rattle.store_api.proofs.Naming.{names-law}
use Rattle.store_api.proofs.Standing.{snap_made-append}
use Rattle.repo_read.specs.Chains.{Leading}
use Rattle.settle.specs.declared.settle.Doubt.{Doubt}
use Rattle.settle.specs.declared.settle.Settled.{Settled}
use Rattle.settle.specs.Telling.{IsNeither}
use Rattle.settled_doubts.specs.Doubts.{CutsNot, WasSettled}
use Rattle.settled_doubts.proofs.Branches.{before-known, each-before, journal-is}
use Rattle.settled_doubts.proofs.Kept.{read-parent, read-uncut, initial-made, initial-read}

-- down to the root, each snapshot was made over the one below, and but for the root Q holds of each
pub data Above (journal : List Event) (Q : Id12 → Type 0) (root : Id12) : Id12 → Type 0 where
  here : Above journal Q root root
  over : {id below : Id12} → (snap : SnapshotFile) → snap_made journal id ≡ Some snap → snap.parent ≡ Some below → Q id → Above journal Q root below → Above journal Q root id

some-same : (x y : Id12) → Some x ≡ Some y → x ≡ y
some-same x y e = cc

module _ (law : SnapshotLaw) (initial : InitialLaw) (client : ℕ) (branch : List ℕ) (d : Doubt) (a : Settled) (known start journal : List Event) (s : WasSettled client branch d a known start journal) where
  -- ---- the base, and the commit's snapshot
  good-known : IsGoodJournal known
  good-known = (Each-back IsGood [] known s.since (subst IsGoodJournal s.is s.good)).0

  pub base-put : WasPut known (Snapshot d.base)
  base-put =
      let named = (names-law known good-known).branches branch s.doubt.read.stored s.doubt.read.stands in
      subst (λ (id : Id12). WasPut known (Snapshot id)) (some-same named.id d.base (sym named.reference ∙ s.doubt.base)) named.put

  pub unput-other : (id : Id12) → first_put known (Snapshot id) ≡ None → d.base ≢ id
  unput-other id none same = let put = subst (λ (x : Id12). WasPut known (Snapshot x)) same base-put in let e : None ≡ Some put.0 = sym none ∙ put.1 in cc

  -- what has a parent isn't the initial snapshot
  made-other : (id below : Id12) (snap : SnapshotFile) → snap_made journal id ≡ Some snap → snap.parent ≡ Some below → id ≢ initial_id
  made-other id below snap made parent same =
      let none = initial-made initial journal snap s.once (subst (λ (x : Id12). snap_made journal x ≡ Some snap) same made) in
      let e : None ≡ Some below = sym none ∙ parent in cc

  -- nor is it the commit's
  snapshot-other : d.snapshot ≢ initial_id
  snapshot-other = elim moved.cause [
    | inl reset ↦ absurd (cc)
    | inr commit ↦ by_over (subst (IsCommitOver s.doubt.own.before branch s.doubt.version) (some-same moved.names.id d.snapshot (sym moved.names.reference ∙ s.doubt.names)) commit.1)
  ]
    where
      after : List Event
      after = s.doubt.own.after ++ s.tells.1.more

      is : journal ≡ s.doubt.own.before ++ s.doubt.own.event ∷ after
      is = journal-is client branch d a known start journal s

      good : IsGood s.doubt.own.before s.doubt.own.event
      good = Each-at IsGood [] s.doubt.own.before s.doubt.own.event after (subst IsGoodJournal is s.good)

      moved : IsMoved s.doubt.own.before branch s.doubt.version s.doubt.bytes Commit
      moved = subst (IsPolite s.doubt.own.before) s.doubt.own.op_is good.polite

      by_over : IsCommitOver s.doubt.own.before branch s.doubt.version d.snapshot → d.snapshot ≢ initial_id
      by_over c =
          let made = c.once (Each-back IsFirst [] s.doubt.own.before (s.doubt.own.event ∷ after) (subst IsOnce is s.once)).0 in
          made-other d.snapshot c.base made.snap
          (subst (λ (j : List Event). snap_made j d.snapshot ≡ Some made.snap) (sym is) (snap_made-append s.doubt.own.before (s.doubt.own.event ∷ after) d.snapshot made.snap made.made))
          made.parent

  -- What was made above one that wasn't put by then wasn't either; so it is of all above the commit's snapshot.
  unput-next : (id below : Id12) (snap : SnapshotFile) → snap_made journal id ≡ Some snap → snap.parent ≡ Some below → first_put known (Snapshot below) ≡ None → (o : Option (List ℕ)) → first_put known (Snapshot id) ≡ o → first_put known (Snapshot id) ≡ None
  unput-next id below snap made parent none None e = e
  unput-next id below snap made parent none (Some b) e =
      let first : first_put journal (Snapshot id) ≡ Some b = subst (λ (j : List Event). first_put j (Snapshot id) ≡ Some b) (sym s.is) (first-append known s.since (Snapshot id) b e) in
      let then : snap_made known id ≡ Some snap = ap (snap_in id) (e ∙ sym first) ∙ made in
      let puts : ParentPut known (Some snap) = subst (ParentPut known) then ((names-law known good-known).parents id) in
      let put : WasPut known (Snapshot below) = puts below parent in
      let no : None ≡ Some put.0 = sym none ∙ put.1 in absurd (cc)

  pub unput : (Q : Id12 → Type 0) {id : Id12} → Above journal Q d.snapshot id → first_put known (Snapshot id) ≡ None
  unput Q here = s.doubt.unput
  unput Q (over {id = id} {below = below} snap made parent q up) = unput-next id below snap made parent (unput Q up) (first_put known (Snapshot id)) refl

  -- ---- the way
  abbrev NoneOfThem : List SnapshotFile → Type 0
  NoneOfThem seen = All (λ (f : SnapshotFile). IsNeither d f.id) seen

  abbrev Leads : Option Id12 → List SnapshotFile → Option Id12 → Type 0
  Leads from seen to = Leading client from seen to start journal

  first-neither : (id : Id12) (f : SnapshotFile) (fs : List SnapshotFile) (to : Option Id12) → Leads (Some id) (f ∷ fs) to → NoneOfThem (f ∷ fs) → IsNeither d id
  first-neither id f fs to l n = subst (IsNeither d) (law.own id l.0.bytes f l.0.read) (All-head (λ (g : SnapshotFile). IsNeither d g.id) f fs n)

  rest-neither : (f : SnapshotFile) (fs : List SnapshotFile) → NoneOfThem (f ∷ fs) → NoneOfThem fs
  rest-neither f fs n = All-tail (λ (g : SnapshotFile). IsNeither d g.id) f fs n

  -- from none it leads nowhere, and so from the initial snapshot
  from-none : (fs : List SnapshotFile) (id : Id12) → Leads None fs (Some id) → ⊥
  from-none [] id l = cc
  from-none (f ∷ fs) id l = l

  from-initial : (fs : List SnapshotFile) → Leads (Some initial_id) fs (Some d.snapshot) → ⊥
  from-initial [] l = snapshot-other (some-same d.snapshot initial_id (sym l))
  from-initial (f ∷ fs) l = from-none fs d.snapshot (subst (λ (o : Option Id12). Leads o fs (Some d.snapshot)) (initial-read initial client f start journal s.good s.once l.0) l.1)

  abbrev pub Apart : Id12 → Type 0
  Apart id = id ≢ d.snapshot

  -- from a snapshot above the base, none of those between the commit's, it doesn't lead to that
  pub not-there : {id : Id12} → Above journal Apart d.base id → (seen : List SnapshotFile) → Leads (Some id) seen (Some d.snapshot) → NoneOfThem seen → ⊥
  not-there here [] l n = unput-other d.snapshot s.doubt.unput (some-same d.base d.snapshot l)
  not-there here (f ∷ fs) l n = (first-neither d.base f fs (Some d.snapshot) l n).base refl
  not-there (over {id = id} snap made parent q up) [] l n = q (some-same id d.snapshot l)
  not-there (over {id = id} {below = below} snap made parent q up) (f ∷ fs) l n = elim (read-parent id (made-other id below snap made parent) client f snap start journal s.good s.once l.0 made) [
    | inl same ↦ not-there up fs (subst (λ (o : Option Id12). Leads o fs (Some d.snapshot)) (same ∙ parent) l.1) (rest-neither f fs n)
    | inr cut ↦ from-initial fs (subst (λ (o : Option Id12). Leads o fs (Some d.snapshot)) cut l.1)
  ]

  -- From a snapshot above the commit's, where none on the way is cut, it leads to one that wasn't put when the branch was read.
  pub record LeadsUp (to : Option Id12) : Type 0 where
    pub id : Id12
    pub is : to ≡ Some id
    pub unput : first_put known (Snapshot id) ≡ None

  abbrev pub Any : Id12 → Type 0
  Any id = Unit {0}

  abbrev NoneIsCut : List SnapshotFile → Type 0
  NoneIsCut seen = All (λ (f : SnapshotFile). Each (CutsNot f.id) known s.since) seen

  pub leads-up : {id : Id12} → Above journal Any d.snapshot id → (seen : List SnapshotFile) (to : Option Id12) → Leads (Some id) seen to → NoneOfThem seen → NoneIsCut seen → LeadsUp to
  leads-up here [] to l n c = record { id = d.snapshot; is = sym l; unput = s.doubt.unput }
  leads-up here (f ∷ fs) to l n c = absurd ((first-neither d.snapshot f fs to l n).snapshot refl)
  leads-up (over {id = id} snap made parent q up) [] to l n c = record { id = id; is = sym l; unput = unput Any (over snap made parent q up) }
  leads-up (over {id = id} {below = below} snap made parent q up) (f ∷ fs) to l n c =
      let own = l.0.got.own in
      let uncut = subst (λ (x : Id12). Each (CutsNot x) known s.since) (law.own id l.0.bytes f l.0.read) (All-head (λ (g : SnapshotFile). Each (CutsNot g.id) known s.since) f fs c) in
      let same = read-uncut id (made-other id below snap made parent) client f snap known _ start journal s.good s.once l.0 (before-known client branch d a known start journal s _ _ own) (unput Any (over snap made parent q up)) (each-before client branch d a known start journal s _ _ own (CutsNot id) uncut) made in
      leads-up up fs to (subst (λ (o : Option Id12). Leads o fs to) (ap (λ (x : SnapshotFile). x.parent) same ∙ parent) l.1) (rest-neither f fs n) (All-tail (λ (g : SnapshotFile). Each (CutsNot g.id) known s.since) f fs c)
