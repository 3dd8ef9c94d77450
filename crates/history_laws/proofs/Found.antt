-- What refs reach stands, where collections alone remove objects.
use Rattle.std.proofs.Common.{◌≡◌, ◌≢◌, ◌⊎◌, inl, inr, ℕ, Bool, true, false, List, [], ◌∷◌, ◌++◌, length, drop, refl, sym, ◌∙◌, ap, subst, append_assoc, append-nil}
use Rattle.std.specs.Prelude.{Contains, Option, Some, None, bytes_eq, option_and_then}
use Rattle.std.specs.Option.{option_or}
use Rattle.std.proofs.Math.Seq.{drop-append_seam}
use Rattle.ice_ids.specs.declared.Id12.{Id12}
use Rattle.ice_ids.specs.Text.{initial_id}
use Rattle.manifest_file.specs.declared.manifest.ManifestFile.{ManifestFile}
use Rattle.repo_objects.specs.Laws.{InitialLaw, SnapshotLaw, ManifestLaw}
use Rattle.repo_objects.specs.Trees.{NamesChunk}
use Rattle.repo_objects.specs.Readings.{manifest_by}
use Rattle.object_store.specs.declared.keys.Key.{Key}
use Rattle.object_store.specs.declared.keys.Key.TheVariants.{Snapshot, Manifest, Txn, Chunk, Branch, Tag, Tombstone, Lease}
use Rattle.object_store.specs.declared.events.Event.{Event}
use Rattle.object_store.specs.Machine.{Slot, found, first_put, last_put}
use Rattle.object_store.proofs.Journals.{Each-append, Each-at, Each-back, Each-one, Each-two}
use Rattle.object_store.proofs.Slots.{id-true, bytes-same, slot-none, WasPut-append}
use Rattle.store_api.specs.Journal.{Each, ChunksPut, IsFirst, IsFirstOp, IsGood, IsGoodJournal, IsOnce, PutsFirst, WasPut}
use Rattle.store_api.proofs.Naming.{names-law}
use Rattle.store_api.proofs.Once.{chunks-put}
use Rattle.reach.specs.Chains.{Chain, here, down, parent_at}
use Rattle.reach.specs.Holding.{Reaches}
use Rattle.reach.specs.Own.{HasPut}
use Rattle.reach.proofs.Holding.{named-put}
use Rattle.collecting.specs.Walks.{IsObject, MayDo}
use Rattle.history_laws.specs.Refs.{Names, RefReaches, Removes}
use Rattle.history_laws.specs.Collections.{Collection, walk_at, DoomedBy, OwesUntil, IsPreceded, Collects, CommitsOwn, IsQuiet, IsCollected, OnlyCollects, IsLost, CommitsLater, LeavesLost, NoneMissing, AreCollected}
use Rattle.history_laws.specs.Laws.{Stands, ReachedFound, BasesFound, OwnFound, ReachedPut, NoneMissed, NothingMissing}
use Rattle.history_laws.proofs.Steps.{IsRemoval, step-one}
use Rattle.history_laws.proofs.Past.{look, Known, Has, Past, past-of, past-one, initial-parent, initial-names}
use Rattle.history_laws.proofs.Safe.{Safe, safe-quiet, safe-clean}
use Rattle.history_laws.proofs.Walking.{Behind, behind-more}
use Rattle.history_laws.proofs.Young.{never-put, put-stands}
use Rattle.history_laws.proofs.Settled.{IsSettled, settled-one, settled-later}
use Rattle.history_laws.proofs.Running.{held-object}
use Rattle.history_laws.proofs.Moving.{refs-one}
use Rattle.history_laws.proofs.Ending.{at-first, ref-kept, initial-kept, puts-kept, reach-further}
use Rattle.history_laws.proofs.Passed.{named-known}

-- behind a first part two ends are the same
same-end : (start more rest : List Event) → start ++ more ≡ start ++ rest → more ≡ rest
same-end start more rest e = sym (drop-append_seam start more) ∙ (ap (drop (length start)) e ∙ drop-append_seam start rest)

-- what a session put that began behind a journal wasn't put by then
later-new : (old since journal : List Event) (client : ℕ) (key : Key) → IsOnce journal → IsObject key → key ≢ Snapshot initial_id → HasPut client key (old ++ since) journal → WasPut old key → ⊥
later-new old since journal client key once object apart p was =
    let onces = Each-back IsFirst [] p.before (p.event ∷ p.after) (subst IsOnce p.is once) in
    let first : IsFirst p.before p.event = (Each-two IsFirst p.before p.event p.after onces.1).0 in
    let puts : PutsFirst p.before p.bytes key = subst (IsFirstOp p.before) p.op_is (first p.done) in
    let never : first_put p.before key ≡ None = never-put p.before p.bytes key object apart puts p.free in
    let before : p.before ≡ old ++ (since ++ p.since) = p.before_is ∙ append_assoc old since p.since in
    let put : WasPut p.before key = subst (λ (j : List Event). WasPut j key) (sym before) (WasPut-append old (since ++ p.since) key was) in
    let e = put.1 in
    cc

-- what a session put was put
has-put : (client : ℕ) (from journal : List Event) (key : Key) → HasPut client key from journal → WasPut journal key
has-put client from journal key p =
    let slot = put-stands p.before p.event key p.bytes p.why p.op_is p.done p.free in
    let now : WasPut (p.before ++ p.event ∷ []) key = elim (look (first_put p.before key)) [
      | inl none ↦ (p.bytes, ap (λ (s : Slot). s.first) slot ∙ ap (λ (o : Option (List ℕ)). option_or o (Some p.bytes)) none)
      | inr was ↦ WasPut-append p.before (p.event ∷ []) key was
    ] in
    subst (λ (j : List Event). WasPut j key) (append_assoc p.before (p.event ∷ []) p.after ∙ sym p.is) (WasPut-append (p.before ++ p.event ∷ []) p.after key now)

by-initial : (key : Key) → (key ≡ Snapshot initial_id) ⊎ (key ≢ Snapshot initial_id)
by-initial (Snapshot id) = decide (bytes_eq id.0 initial_id.0) refl
  where
    decide : (b : Bool) → bytes_eq id.0 initial_id.0 ≡ b → (Snapshot id ≡ Snapshot initial_id) ⊎ (Snapshot id ≢ Snapshot initial_id)
    decide true e = inl (ap Snapshot (id-true id initial_id e))
    decide false e = inr (λ is. let same : id ≡ initial_id = cc in let yes : bytes_eq id.0 initial_id.0 ≡ true = subst (λ (x : Id12). bytes_eq id.0 x.0 ≡ true) same (bytes-same id.0) in cc)
by-initial (Manifest id) = inr (λ is. cc)
by-initial (Txn id) = inr (λ is. cc)
by-initial (Chunk id) = inr (λ is. cc)
by-initial (Branch name) = inr (λ is. cc)
by-initial (Tag name) = inr (λ is. cc)
by-initial (Tombstone name) = inr (λ is. cc)
by-initial (Lease id) = inr (λ is. cc)

-- a snapshot that a ref names was put
pub ref-put : (journal : List Event) → IsGoodJournal journal → (ref : Key) (id : Id12) → Names journal ref id → WasPut journal (Snapshot id)
ref-put journal good (Branch name) id n = named-known journal n.stored.bytes id n.names ((names-law journal good).branches name n.stored n.stands)
ref-put journal good (Tag name) id n = named-known journal n.stored.bytes id n.names ((names-law journal good).tags name n.stored n.stands)
ref-put journal good (Tombstone name) id n = absurd n.is_ref
ref-put journal good (Snapshot x) id n = absurd n.is_ref
ref-put journal good (Manifest x) id n = absurd n.is_ref
ref-put journal good (Txn x) id n = absurd n.is_ref
ref-put journal good (Chunk x) id n = absurd n.is_ref
ref-put journal good (Lease x) id n = absurd n.is_ref

-- ---- a first part of a journal
-- What is so of a journal, of which this may be a first part, with the rest behind it.
pub record IsPart (collections : List Collection) (old journal rest : List Event) : Type 0 where
  pub good : IsGoodJournal journal
  pub once : IsOnce journal
  pub added : List Event
  pub is : journal ≡ old ++ added
  pub only : Each (OnlyCollects collections) old added
  pub owes : (c : Collection) → Contains collections c → (before : List Event) (event : Event) (after : List Event) → journal ≡ before ++ event ∷ after → Behind c before → OwesUntil c before event
  pub collected : (c : Collection) → Contains collections c → Behind c journal → IsSettled (walk_at c journal) → IsCollected c journal rest
  pub none_missing : NoneMissing old
  pub own : Each (CommitsLater old) old added
  pub quiet : Each (LeavesLost old) old added

module _ (collections : List Collection) (old whole : List Event) (h : AreCollected collections old whole) (journal rest : List Event) (whole_is : whole ≡ journal ++ rest) where
  owes-at : (c : Collection) → Contains collections c → (before : List Event) (event : Event) (after : List Event) → whole ≡ before ++ event ∷ after → Behind c before → OwesUntil c before event
  owes-at c among before event after is behind =
      let k : Collects c whole = h.collects c among in
      let same : c.start ++ k.more ≡ c.start ++ (behind.0 ++ event ∷ after) = sym k.is ∙ (is ∙ (ap (λ (j : List Event). j ++ event ∷ after) behind.1 ∙ append_assoc c.start behind.0 (event ∷ after))) in
      let owes : Each (OwesUntil c) c.start (behind.0 ++ event ∷ after) = subst (λ (xs : List Event). Each (OwesUntil c) c.start xs) (same-end c.start k.more (behind.0 ++ event ∷ after) same) k.owes in
      subst (λ (j : List Event). OwesUntil c j event) (sym behind.1) (Each-at (OwesUntil c) c.start behind.0 event after owes)

  -- a collection that has listed all by then
  module _ (c : Collection) (among : Contains collections c) (behind : Behind c journal) (settled : IsSettled (walk_at c journal)) where
    goes-on : (more : List Event) → whole ≡ c.start ++ more → more ≡ behind.0 ++ rest
    goes-on more is = same-end c.start more (behind.0 ++ rest) (sym is ∙ (whole_is ∙ (ap (λ (j : List Event). j ++ rest) behind.1 ∙ append_assoc c.start behind.0 rest)))

    owed : Each (OwesUntil c) c.start (behind.0 ++ rest)
    owed = let k : Collects c whole = h.collects c among in subst (λ (xs : List Event). Each (OwesUntil c) c.start xs) (goes-on k.more k.is) k.owes

    owed-later : Each (OwesUntil c) journal rest
    owed-later = subst (λ (j : List Event). Each (OwesUntil c) j rest) (sym behind.1) (Each-back (OwesUntil c) c.start behind.0 rest owed).1

    listed-later : (walk_at c whole).lists ≡ 4
    listed-later = subst (λ (j : List Event). (walk_at c j).lists ≡ 4) (sym whole_is) (settled-later c journal rest behind owed-later settled).lists

    collected-by : IsCollected c journal rest
    collected-by =
        let k : IsCollected c whole [] = h.collected c among listed-later in
        let same = goes-on k.listed.more k.listed.is in
        let goods = (Each-back IsGood [] journal rest (subst (λ (j : List Event). Each IsGood [] j) whole_is h.good)).0 in
        let firsts = (Each-back IsFirst [] journal rest (subst (λ (j : List Event). Each IsFirst [] j) whole_is h.once)).0 in
        let own = (Each-back (CommitsOwn c) c.start behind.0 rest (subst (λ (xs : List Event). Each (CommitsOwn c) c.start xs) same k.own)).0 in
        let quiet = (Each-back (IsQuiet (DoomedBy c (whole ++ [])) c) c.start behind.0 rest (subst (λ (xs : List Event). Each (IsQuiet (DoomedBy c (whole ++ [])) c) c.start xs) same k.quiet)).0 in
        record {
          listed = record { good = goods; once = firsts; more = behind.0; is = behind.1; owes = owed; listed = settled.lists };
          own = own;
          quiet = subst (λ (j : List Event). Each (IsQuiet (DoomedBy c j) c) c.start behind.0) (append-nil whole ∙ whole_is) quiet;
        }

  -- up to there it is so
  pub part-of : (added : List Event) → journal ≡ old ++ added → IsPart collections old journal rest
  part-of added is =
      let same : h.added ≡ added ++ rest = same-end old h.added (added ++ rest) (sym h.is ∙ (whole_is ∙ (ap (λ (j : List Event). j ++ rest) is ∙ append_assoc old added rest))) in
      record {
        good = (Each-back IsGood [] journal rest (subst (λ (j : List Event). Each IsGood [] j) whole_is h.good)).0;
        once = (Each-back IsFirst [] journal rest (subst (λ (j : List Event). Each IsFirst [] j) whole_is h.once)).0;
        added = added;
        is = is;
        only = (Each-back (OnlyCollects collections) old added rest (subst (λ (xs : List Event). Each (OnlyCollects collections) old xs) same h.only)).0;
        owes = λ c among before event after e behind. owes-at c among before event (after ++ rest) (whole_is ∙ (ap (λ (j : List Event). j ++ rest) e ∙ append_assoc before (event ∷ after) rest)) behind;
        collected = collected-by;
        none_missing = h.none_missing;
        own = (Each-back (CommitsLater old) old added rest (subst (λ (xs : List Event). Each (CommitsLater old) old xs) same h.own)).0;
        quiet = (Each-back (LeavesLost old) old added rest (subst (λ (xs : List Event). Each (LeavesLost old) old xs) same h.quiet)).0;
      }

-- what removes an object is an event of a collection
pub only-at : (collections : List Collection) (old whole : List Event) (h : AreCollected collections old whole) (added : List Event) (event : Event) (after : List Event) → whole ≡ (old ++ added) ++ event ∷ after → OnlyCollects collections (old ++ added) event
only-at collections old whole h added event after is =
    let same : h.added ≡ added ++ event ∷ after = same-end old h.added (added ++ event ∷ after) (sym h.is ∙ (is ∙ append_assoc old added (event ∷ after))) in
    Each-at (OnlyCollects collections) old added event after (subst (λ (xs : List Event). Each (OnlyCollects collections) old xs) same h.only)

-- the whole is one
pub whole-of : (collections : List Collection) (old journal : List Event) → AreCollected collections old journal → IsPart collections old journal []
whole-of collections old journal h = part-of collections old journal h journal [] (sym (append-nil journal)) h.added h.is

module _ (initial : InitialLaw) (snaps : SnapshotLaw) (manifests : ManifestLaw) (collections : List Collection) (old journal later : List Event) (h : IsPart collections old journal later) where
  -- ---- what was put stands, was lost before, or is doomed by one of the collections
  pub record DoomedByOne (j : List Event) (key : Key) : Type 0 where
    pub one : Collection
    pub among : Contains collections one
    pub behind : Behind one j
    pub settled : IsSettled (walk_at one j)
    pub doomed : DoomedBy one j key

  abbrev Accounted : List Event → Key → Type 0
  Accounted j key = Stands j key ⊎ (IsLost old key ⊎ DoomedByOne j key)

  abbrev AllAccounted : List Event → Type 0
  AllAccounted j = (key : Key) → IsObject key → WasPut j key → Accounted j key

  module _ (before : List Event) (event : Event) (after : List Event) (is : journal ≡ before ++ event ∷ after) where
    stays-doomed : (key : Key) → DoomedByOne before key → DoomedByOne (before ++ event ∷ []) key
    stays-doomed key d =
        let one = settled-one d.one before event d.behind (h.owes d.one d.among before event after is d.behind) d.settled in
        record { one = d.one; among = d.among; behind = behind-more d.one before (event ∷ []) d.behind; settled = one.settled; doomed = one.fore key d.doomed }

    -- what is removed is doomed
    pub removed : OnlyCollects collections before event → (key : Key) → IsObject key → Removes before event key → (slot : Slot) → IsRemoval before event key slot → DoomedByOne before key
    removed only key object removes slot gone =
        let o = only key object removes in
        let behind : Behind o.collection before = (o.more, o.is) in
        let may = (h.owes o.collection o.among before event after is behind o.client_is o.within).1 in
        elim gone.removes [
          | inl r ↦
              let m = subst (MayDo o.collection.cutoff (walk_at o.collection before)) r.1 may in
              record { one = o.collection; among = o.among; behind = behind; settled = record { lists = m.2.whole; refs = m.1 }; doomed = m.2 }
          | inr r ↦ absurd (subst (MayDo o.collection.cutoff (walk_at o.collection before)) r.2 may)
        ]

    account-one : OnlyCollects collections before event → AllAccounted before → AllAccounted (before ++ event ∷ [])
    account-one only all key object was = elim (step-one before event key) [
      | inl same ↦ elim (all key object (was.0, sym (ap (λ (s : Slot). s.first) same) ∙ was.1)) [
        | inl s ↦ inl (s.0, ap (λ (s : Slot). s.stands) same ∙ s.1)
        | inr rest ↦ inr (elim rest [ inl lost ↦ inl lost | inr d ↦ inr (stays-doomed key d) ])
      ]
      | inr put ↦ elim put [
        | inl new ↦ inl (_, ap (λ (s : Slot). s.stands) new.slot_is)
        | inr over ↦ elim over [
          | inl moved ↦ inl (_, ap (λ (s : Slot). s.stands) moved.slot_is)
          | inr gone ↦ elim (look (found before key)) [
            | inr there ↦ inr (inr (stays-doomed key (removed only key object (record { stored = there.0; stands = there.1; gone = ap (λ (s : Slot). s.stands) gone.slot_is }) _ gone)))
            | inl none ↦ elim (all key object (was.0, sym (ap (λ (s : Slot). s.first) gone.slot_is) ∙ was.1)) [
              | inl s ↦ (let e = s.1 in cc)
              | inr rest ↦ inr (elim rest [ inl lost ↦ inl lost | inr d ↦ inr (stays-doomed key d) ])
            ]
          ]
        ]
      ]
    ]

  account-along : (before rest : List Event) → before ++ rest ≡ journal → Each (OnlyCollects collections) before rest → AllAccounted before → AllAccounted journal
  unfolding Each
  account-along before [] is only all = subst AllAccounted (sym (append-nil before) ∙ is) all
  account-along before (x ∷ xs) is only all = account-along (before ++ x ∷ []) xs (append_assoc before (x ∷ []) xs ∙ is) only.1 (account-one before x xs (sym is) only.0 all)

  accounted : AllAccounted journal
  accounted = account-along old h.added (sym h.is) h.only (λ key object was. elim (look (found old key)) [
    | inl none ↦ inr (inl (record { object = object; put = was; gone = none }))
    | inr there ↦ inl there
  ])

  -- ---- what was lost before, no ref reaches
  abbrev New : List Event → Key → Type 0
  New j key = WasPut old key → ⊥

  abbrev OnlyInitial : Id12 → Type 0
  OnlyInitial id = id ≡ initial_id

  abbrev LostSafe : List Event → Type 0
  LostSafe j = (ref : Key) (id : Id12) → Names j ref id → ⊥ ⊎ Safe (IsLost old) New OnlyInitial j id

  goods : Each IsGood [] old × Each IsGood old h.added
  goods = Each-back IsGood [] old h.added (subst (λ (j : List Event). Each IsGood [] j) h.is h.good)

  firsts : Each IsFirst [] old × Each IsFirst old h.added
  firsts = Each-back IsFirst [] old h.added (subst (λ (j : List Event). Each IsFirst [] j) h.is h.once)

  past-old : Past old
  past-old = past-of initial old goods.0 firsts.0

  log-new : (j : List Event) (id : Id12) → WasPut j (Snapshot id) → New j (Txn id) → (id ≡ initial_id) ⊎ New j (Snapshot id)
  log-new j id put new = elim (look (first_put old (Snapshot id))) [
    | inl none ↦ inr (λ was. let e = was.1 in cc)
    | inr was ↦
        let t = (past-old.timed (Snapshot id)).born was.0 was.1 in
        elim (past-old.logs id t.0 t.1) [
          | inl is ↦ inl is
          | inr log ↦ absurd (new ((past-old.timed (Txn id)).put log.0 log.1))
        ]
  ]

  safe-one : (j : List Event) (event : Event) → IsOnce j → IsGood j event → IsFirst j event → Past j → CommitsLater old j event → LeavesLost old j event → LostSafe j → LostSafe (j ++ event ∷ [])
  safe-one j event once good first past own quiet refs =
      refs-one initial (IsLost old) New OnlyInitial refl (λ (ref : Key). ⊥) (Unit {0}) j event once good first past (λ key new. new) (log-new j) refs (λ ref id n. inr tt) (λ b. quiet)
      (λ b base id commits lost is_lost key held.
      let o = own lost is_lost base id commits in
      elim (o.own key held) [
        | inl before ↦ inl before
        | inr put ↦ let object = held-object j id key held in inr (later-new old o.since j event.client key once object.0 object.1 put)
      ])

  safe-along : (j rest : List Event) → IsOnce j → Past j → Each IsGood j rest → Each IsFirst j rest → Each (CommitsLater old) j rest → Each (LeavesLost old) j rest → j ++ rest ≡ journal → LostSafe j → LostSafe journal
  unfolding Each
  safe-along j [] once past good first own quiet is refs = subst LostSafe (sym (append-nil j) ∙ is) refs
  safe-along j (x ∷ xs) once past good first own quiet is refs =
      safe-along (j ++ x ∷ []) xs (Each-append IsFirst [] j (x ∷ []) once (Each-one IsFirst j x first.0)) (past-one initial j x once good.0 first.0 past) good.1 first.1 own.1 quiet.1 (append_assoc j (x ∷ []) xs ∙ is)
      (safe-one j x once good.0 first.0 past own.0 quiet.0 refs)

  lost-safe : LostSafe journal
  lost-safe = safe-along old h.added firsts.0 past-old goods.1 firsts.1 h.own h.quiet (sym h.is)
      (λ ref id n. inr (safe-quiet (IsLost old) New OnlyInitial old id refl (λ key r lost. h.none_missing.refs ref key (record { id = id; named = n; reaches = r }) lost) (past-old.ends id (inr (ref-put old goods.0 ref id n)))))

  -- what the initial snapshot has wasn't lost
  initial-has : (key : Key) → Has journal initial_id key → IsLost old key → ⊥
  initial-has key (inl is) lost = h.none_missing.initial key (inl is) lost
  initial-has (Txn log) (inr held) lost = h.none_missing.initial (Txn log) (inr (record { at = initial_id; chain = here; has = inr held })) lost
  initial-has (Manifest m) (inr held) lost = initial-names initial journal m h.once held
  initial-has (Chunk o) (inr held) lost = initial-names initial journal held.manifest h.once held.held
  initial-has (Snapshot x) (inr held) lost = held
  initial-has (Branch name) (inr held) lost = held
  initial-has (Tag name) (inr held) lost = held
  initial-has (Tombstone name) (inr held) lost = held
  initial-has (Lease x) (inr held) lost = held

  initial-clean : (id x : Id12) (key : Key) → id ≡ initial_id → Chain journal id x → Has journal x key → IsLost old key → ⊥
  initial-clean id x key is here has lost = initial-has key (subst (λ (y : Id12). Has journal y key) is has) lost
  initial-clean id x key is (down e c) has lost = (let none : parent_at journal id ≡ None = ap (parent_at journal) is ∙ initial-parent initial journal h.once in cc)

  from-initial : (key : Key) → Reaches journal initial_id key → IsLost old key → ⊥
  from-initial key (inl is) lost = h.none_missing.initial key (inl is) lost
  from-initial key (inr r) lost = initial-clean initial_id r.at key refl r.chain r.has lost

  lost-kept : (ref key : Key) (id : Id12) → Names journal ref id → Reaches journal id key → IsLost old key → ⊥
  lost-kept ref key id n (inl is) lost = h.none_missing.initial key (inl is) lost
  lost-kept ref key id n (inr r) lost = elim (lost-safe ref id n) [
    | inl never ↦ never
    | inr safe ↦ safe-clean (IsLost old) New OnlyInitial journal initial-clean (λ k new is_lost. new is_lost.put) id r.at key r.chain r.has safe lost
  ]

  -- ---- so it stands
  its-end : {key : Key} → (d : DoomedByOne journal key) → IsCollected d.one journal later
  its-end d = h.collected d.one d.among d.behind d.settled

  at-end : {key : Key} → (d : DoomedByOne journal key) → DoomedBy d.one (journal ++ later) key
  at-end {key = key} d = at-first initial snaps manifests d.one journal later (its-end d).listed key d.doomed

  pub found-by : (ref key : Key) (id : Id12) → IsObject key → Names journal ref id → Reaches journal id key → WasPut journal key → Stands journal key
  found-by ref key id object n r was = elim (accounted key object was) [
    | inl there ↦ there
    | inr rest ↦ elim rest [
      | inl lost ↦ absurd (lost-kept ref key id n r lost)
      | inr d ↦ absurd (ref-kept initial snaps manifests d.one journal later (its-end d) ref key id n r (at-end d))
    ]
  ]

  pub initial-found : (key : Key) → IsObject key → Reaches journal initial_id key → WasPut journal key → Stands journal key
  initial-found key object r was = elim (accounted key object was) [
    | inl there ↦ there
    | inr rest ↦ elim rest [
      | inl lost ↦ absurd (from-initial key r lost)
      | inr d ↦ absurd (initial-kept initial snaps manifests d.one journal later (its-end d) key r (at-end d))
    ]
  ]

  base-found : (ref : Key) (base : Id12) (key : Key) → IsObject key → RefReaches journal ref (Snapshot base) → Reaches journal base key → WasPut journal key → Stands journal key
  base-found ref base key object r reached was = elim (reach-further journal r.id base key r.reaches reached) [
    | inl is ↦ initial-found key object (subst (λ (x : Id12). Reaches journal x key) is reached) was
    | inr further ↦ found-by ref key r.id object r.named further was
  ]

  put-found : (since : List Event) (client : ℕ) (key : Key) → IsObject key → HasPut client key (old ++ since) journal → ((c : Collection) → Contains collections c → (walk_at c journal).lists ≡ 4 → IsPreceded c client (old ++ since) journal) → Stands journal key
  put-found since client key object put preceded = elim (accounted key object (has-put client (old ++ since) journal key put)) [
    | inl there ↦ there
    | inr rest ↦ elim rest [
      | inl lost ↦ elim (by-initial key) [
        | inl is ↦ absurd (h.none_missing.initial key (inl is) lost)
        | inr apart ↦ absurd (later-new old since journal client key h.once object apart put lost.put)
      ]
      | inr d ↦ absurd (puts-kept initial snaps manifests d.one journal later (its-end d).listed client (old ++ since) key (preceded d.one d.among d.settled.lists) put (at-end d))
    ]
  ]

-- ---- the laws
pub reached-found : InitialLaw → SnapshotLaw → ManifestLaw → ReachedFound
reached-found initial snaps manifests collections old journal h ref key object r was = found-by initial snaps manifests collections old journal [] (whole-of collections old journal h) ref key r.id object r.named r.reaches was

pub bases-found : InitialLaw → SnapshotLaw → ManifestLaw → BasesFound
bases-found initial snaps manifests collections old journal h ref base key object r reached was = base-found initial snaps manifests collections old journal [] (whole-of collections old journal h) ref base key object r reached was

pub own-found : InitialLaw → SnapshotLaw → ManifestLaw → OwnFound
own-found initial snaps manifests collections old since journal h client key object put preceded = put-found initial snaps manifests collections old journal [] (whole-of collections old journal h) since client key object put preceded

-- none is missing at the end
pub none-missed : InitialLaw → SnapshotLaw → ManifestLaw → NoneMissed
none-missed initial snaps manifests collections old journal h = record {
  refs = λ ref key r lost. let s = found-by initial snaps manifests collections old journal [] (whole-of collections old journal h) ref key r.id lost.object r.named r.reaches lost.put in let e = s.1 in let f = lost.gone in cc;
  initial = λ key r lost. let s = initial-found initial snaps manifests collections old journal [] (whole-of collections old journal h) key lost.object r lost.put in let e = s.1 in let f = lost.gone in cc;
}

pub never-lost : (key : Key) → IsLost [] key → ⊥
never-lost key lost = let was = lost.put in let f : None ≡ Some was.0 = sym (ap (λ (s : Slot). s.first) (slot-none key)) ∙ was.1 in cc

pub nothing-missing : NothingMissing
nothing-missing = record { refs = λ ref key r lost. never-lost key lost; initial = λ key r lost. never-lost key lost }

-- ---- what refs reach was put
module _ (journal : List Event) (good : IsGoodJournal journal) (once : IsOnce journal) (past : Past journal) where
  abbrev PutOr : Key → Type 0
  PutOr key = ((key ≡ Snapshot initial_id) ⊎ (key ≡ Txn initial_id)) ⊎ WasPut journal key

  known-down : {id x : Id12} → Chain journal id x → Known journal id → Known journal x
  known-down here known = known
  known-down (down {id = id} {parent = below} e c) known = known-down c (past.parents id below e)

  file-chunk : (object : Id12) (o : Option ManifestFile) (file : ManifestFile) → o ≡ Some file → ChunksPut journal o → NamesChunk file object → WasPut journal (Chunk object)
  file-chunk object o file e puts n = let p : ChunksPut journal (Some file) = subst (ChunksPut journal) e puts in p object n

  held-put : (id : Id12) (key : Key) → Known journal id → Has journal id key → PutOr key
  held-put id key (inl is) (inl e) = inl (inl (e ∙ ap Snapshot is))
  held-put id key (inr w) (inl e) = inr (subst (WasPut journal) (sym e) w)
  held-put id (Txn log) (inl is) (inr h) = inl (inr (ap Txn (h ∙ is)))
  held-put id (Txn log) (inr w) (inr h) = elim ((names-law journal good).logs id w) [
    | inl is ↦ inl (inr (ap Txn (h ∙ is)))
    | inr put ↦ inr (subst (λ (x : Id12). WasPut journal (Txn x)) (sym h) put)
  ]
  held-put id (Manifest m) known (inr h) = inr (named-put journal id m once h)
  held-put id (Chunk object) known (inr h) = inr (file-chunk object (option_and_then (manifest_by h.manifest) (last_put journal (Manifest h.manifest))) h.file h.is (chunks-put h.manifest journal once) h.names)
  held-put id (Snapshot x) known (inr h) = absurd h
  held-put id (Branch name) known (inr h) = absurd h
  held-put id (Tag name) known (inr h) = absurd h
  held-put id (Tombstone name) known (inr h) = absurd h
  held-put id (Lease x) known (inr h) = absurd h

  pub reach-put : (id : Id12) (key : Key) → Known journal id → Reaches journal id key → PutOr key
  reach-put id key known (inl is) = inl (inl is)
  reach-put id key known (inr r) = held-put r.at key (known-down r.chain known) r.has

pub reached-put : InitialLaw → ReachedPut
reached-put initial journal good once ref key r = reach-put journal good once (past-of initial journal good once) r.id key (inr (ref-put journal good ref r.id r.named)) r.reaches
