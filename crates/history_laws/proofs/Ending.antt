-- What is safe when all is listed isn't doomed.
use Rattle.std.proofs.Common.{◌≡◌, ◌≢◌, ◌⊎◌, inl, inr, ℕ, Bool, true, false, List, [], ◌++◌, refl, sym, ◌∙◌, ap, subst, arith, append-nil}
use Rattle.std.specs.Prelude.{Option, Some, None, Contains, bytes_eq}
use Rattle.ice_ids.specs.declared.Id12.{Id12}
use Rattle.ice_ids.specs.Text.{initial_id}
use Rattle.snapshot_file.specs.declared.nodes.NodeRow.{NodeRow}
use Rattle.snapshot_file.specs.declared.snapshot.SnapshotFile.{SnapshotFile}
use Rattle.manifest_file.specs.declared.manifest.ManifestFile.{ManifestFile}
use Rattle.repo_objects.specs.Laws.{InitialLaw, SnapshotLaw, ManifestLaw}
use Rattle.repo_objects.specs.Trees.{NamesManifest, NamesChunk, manifest_put}
use Rattle.object_store.specs.declared.keys.Key.{Key}
use Rattle.object_store.specs.declared.keys.Key.TheVariants.{Snapshot, Manifest, Txn, Chunk, Branch, Tag, Tombstone, Lease}
use Rattle.object_store.specs.declared.events.Event.{Event}
use Rattle.object_store.specs.Machine.{first_time, last_time}
use Rattle.object_store.proofs.Slots.{id-true, bytes-same}
use Rattle.object_store.proofs.Journals.{Each-back, Each-append}
use Rattle.store_api.specs.Journal.{Each, IsFirst, IsGood, IsOnce, puts_of, rows_of}
use Rattle.reach.specs.Chains.{Chain, here, down, StaysOrCut, parent_at}
use Rattle.reach.specs.Holding.{HoldsManifest, Reaches}
use Rattle.reach.specs.Own.{HasPut}
use Rattle.collecting.specs.Marks as marks
use Rattle.collecting.specs.Walks.{Walk, Marked, Doomed}
use Rattle.history_laws.specs.Refs.{Names, IsLeased}
use Rattle.history_laws.specs.Collections.{Collection, walk_at, DoomedBy, OwesUntil, IsListed, IsCollected}
use Rattle.history_laws.specs.Laws.{RefsKept, DoomsStay, BasesKept, LeasesKept, PassedNone, PutsKept}
use Rattle.history_laws.proofs.Past.{Has, Past, past-of, initial-parent, initial-names}
use Rattle.history_laws.proofs.Down.{stop, bottom, next}
use Rattle.history_laws.proofs.Safe.{Excused, Safe, SafeTo}
use Rattle.history_laws.proofs.Walking.{IsTold, IsDead, ReadIn, FileIn, AllBy, Closed, Behind}
use Rattle.history_laws.proofs.Telling.{IsLate, late-before, late-along, stands-along, stands-at-start, StandsSo}
use Rattle.history_laws.proofs.Young.{IsYoung, own-young}
use Rattle.history_laws.proofs.Kept.{IsLeft, none-left, none-later, NeededBy}
use Rattle.history_laws.proofs.Leasing.{needed-all}
use Rattle.history_laws.proofs.Settled.{IsSettled, settled-along, settled-fore}
use Rattle.history_laws.proofs.Running.{KeptAt, Kept, kept-along, kept-at-start}

chain-join : {journal : List Event} {a b x : Id12} → Chain journal a b → Chain journal b x → Chain journal a x
chain-join here d = d
chain-join (down e c) d = down e (chain-join c d)

-- the initial snapshot, or another
by-id : (id : Id12) → (id ≡ initial_id) ⊎ (Snapshot id ≢ Snapshot initial_id)
by-id id = at (bytes_eq id.0 initial_id.0) refl
  where
    at : (b : Bool) → bytes_eq id.0 initial_id.0 ≡ b → (id ≡ initial_id) ⊎ (Snapshot id ≢ Snapshot initial_id)
    at true same = inl (id-true id initial_id same)
    at false differs = inr (λ is. let same : id ≡ initial_id = cc in let yes : bytes_eq id.0 initial_id.0 ≡ true = subst (λ (x : Id12). bytes_eq id.0 x.0 ≡ true) same (bytes-same id.0) in cc)

-- it was listed as older than the cutoff, so it was first put before
not-young : (cutoff : ℕ) (journal : List Event) (last : ℕ) (w : Walk) → IsTold cutoff journal last w → (key : Key) → IsYoung cutoff journal key → Doomed cutoff w key → ⊥
not-young cutoff journal last w told key y doom =
    let t = told.listed_ok doom.entry doom.listed in
    let time : first_time journal key ≡ Some t.0 = subst (λ (k : Key). first_time journal k ≡ Some t.0) doom.key_is t.1 in
    let same : t.0 ≡ y.0 = let e = y.1 in cc in
    absurd (let a = t.2 in let b = doom.old in let e = y.2 in omega (arith, a, b, e, same))

-- ---- what is found is marked, down to the end
-- What is found so is marked, and so are the parents that were read; and all of it was got, or passed over.
record Leads (w : Walk) (Found : Id12 → Type 0) (Passed : Key → Type 0) : Type 0 where
  marked : (id : Id12) → Found id → Marked w (Snapshot id)
  at_first : Found initial_id
  parents : (s : SnapshotFile) (id : Id12) → Contains w.reads s → Found s.id → s.id ≢ initial_id → s.parent ≡ Some id → Found id
  snapshots : (id : Id12) → Found id → (id ≡ initial_id) ⊎ (ReadIn w.reads id ⊎ Passed (Snapshot id))
  manifests : (s : SnapshotFile) (id : Id12) → Contains w.reads s → Found s.id → s.id ≢ initial_id → NamesManifest s.nodes id → FileIn w.files id ⊎ Passed (Manifest id)

-- from a base that reaches nothing that was passed over
module _ (initial : InitialLaw) (cutoff : ℕ) (journal : List Event) (once : IsOnce journal) (last : ℕ) (w : Walk) (told : IsTold cutoff journal last w) (Found : Id12 → Type 0) (Passed : Key → Type 0) (leads : Leads w Found Passed)
    (base : Id12) (present : (key : Key) → Passed key → key ≢ Snapshot initial_id → Reaches journal base key → ⊥) where
  -- a snapshot that was read
  record Read (id : Id12) : Type 0 where
    snap : SnapshotFile
    read : Contains w.reads snap
    is : snap.id ≡ id
    found : Found snap.id
    apart : snap.id ≢ initial_id

  read-of : (x : Id12) → Chain journal base x → Found x → (x ≡ initial_id) ⊎ Read x
  read-of x c found = elim (by-id x) [
    | inl is ↦ inl is
    | inr apart ↦ elim (leads.snapshots x found) [
      | inl is ↦ inl is
      | inr got ↦ elim got [
        | inl r ↦ inr (record { snap = r.0; read = r.1; is = r.2; found = subst Found (sym r.2) found; apart = λ e. apart (ap Snapshot (sym r.2 ∙ e)) })
        | inr passed ↦ absurd (present (Snapshot x) passed apart (inr (record { at = x; chain = c; has = inl refl })))
      ]
    ]
  ]

  -- a snapshot that was read, where one that is found names a manifest
  record NamedBy (manifest : Id12) : Type 0 where
    snap : SnapshotFile
    read : Contains w.reads snap
    found : Found snap.id
    apart : snap.id ≢ initial_id
    names : NamesManifest snap.nodes manifest

  named-by : (x m : Id12) → Chain journal base x → Found x → HoldsManifest journal x m → NamedBy m
  named-by x m c found h = elim (read-of x c found) [
    | inl is ↦ absurd (initial-names initial journal m once (subst (λ (y : Id12). HoldsManifest journal y m) is h))
    | inr r ↦
        let ok = told.reads_ok r.snap r.read in
        let rows : rows_of journal x ≡ Some r.snap.nodes = subst (λ (y : Id12). rows_of journal y ≡ Some r.snap.nodes) r.is ok.rows in
        let same : h.rows ≡ r.snap.nodes = let e = h.are in cc in
        record { snap = r.snap; read = r.read; found = r.found; apart = r.apart; names = subst (λ (rows : List NodeRow). NamesManifest rows m) same h.names }
  ]

  has-marked : (x : Id12) (key : Key) → Chain journal base x → Found x → Has journal x key → Marked w key
  has-marked x key c found (inl e) = subst (Marked w) (sym e) (leads.marked x found)
  has-marked x (Txn log) c found (inr h) = elim (read-of x c found) [
    | inl is ↦ subst (λ (y : Id12). Marked w (Txn y)) (sym (h ∙ is)) marks.first_log
    | inr r ↦ subst (λ (y : Id12). Marked w (Txn y)) (r.is ∙ sym h) (marks.log r.snap r.read (leads.marked r.snap.id r.found))
  ]
  has-marked x (Manifest m) c found (inr h) =
      let n = named-by x m c found h in
      marks.manifest n.snap n.read (leads.marked n.snap.id n.found) n.names
  has-marked x (Chunk o) c found (inr h) =
      let n = named-by x h.manifest c found h.held in
      elim (leads.manifests n.snap h.manifest n.read n.found n.apart n.names) [
        | inl f ↦
            let file : manifest_put (puts_of journal) h.manifest ≡ Some f.0 = subst (λ (y : Id12). manifest_put (puts_of journal) y ≡ Some f.0) f.2 (told.files_ok f.0 f.1) in
            let same : h.file ≡ f.0 = let e = h.is in cc in
            marks.chunk n.snap f.0 n.read (leads.marked n.snap.id n.found) (subst (NamesManifest n.snap.nodes) (sym f.2) n.names) f.1 (subst (λ (y : ManifestFile). NamesChunk y o) same h.names)
        | inr passed ↦ absurd (present (Manifest h.manifest) passed (λ e. cc) (inr (record { at = x; chain = c; has = inr h.held })))
      ]
  has-marked x (Snapshot y) c found (inr h) = absurd h
  has-marked x (Branch name) c found (inr h) = absurd h
  has-marked x (Tag name) c found (inr h) = absurd h
  has-marked x (Tombstone name) c found (inr h) = absurd h
  has-marked x (Lease y) c found (inr h) = absurd h

  found-down : {id x : Id12} → Chain journal base id → Chain journal id x → Found id → Found x
  found-down above here found = found
  found-down above (down {id = id} {parent = next_id} e rest) found = found-down (chain-join above (down e here)) rest (elim (read-of id above found) [
    | inl is ↦ (let none : parent_at journal id ≡ None = ap (parent_at journal) is ∙ initial-parent initial journal once in cc)
    | inr r ↦
        let ok = told.reads_ok r.snap r.read in
        let stays : StaysOrCut r.snap.parent (parent_at journal id) = subst (λ (y : Id12). StaysOrCut r.snap.parent (parent_at journal y)) r.is ok.parent in
        elim stays [
          | inl same ↦ leads.parents r.snap next_id r.read r.found r.apart (sym same ∙ e)
          | inr cut ↦ (let is : initial_id ≡ next_id = cc in subst Found is leads.at_first)
        ]
  ])

  -- what is safe down to there isn't doomed
  module _ (Excuse : Id12 → Type 0) (excuse_marked : (y : Id12) (key : Key) → Excuse y → Has journal y key → Marked w key) (doomed : Key → Type 0) (at_last : (key : Key) → doomed key → Doomed cutoff w key) where
    excused-not : (key : Key) → Excused doomed (IsYoung cutoff) Excuse journal key → doomed key → ⊥
    excused-not key (inl y) d = not-young cutoff journal last w told key y (at_last key d)
    excused-not key (inr h) d = (at_last key d).unmarked (excuse_marked h.0 key h.1 h.2)

    safe-down : {id x : Id12} (key : Key) → Chain journal base id → Chain journal id x → SafeTo doomed (IsYoung cutoff) Excuse Found journal id → Has journal x key → doomed key → ⊥
    safe-down {x = x} key above c (stop found) has d = (at_last key d).unmarked (has-marked x key (chain-join above c) (found-down above c found) has)
    safe-down key above here (bottom g e) has d = excused-not key (g.covered key has d) d
    safe-down key above here (next g e rest) has d = excused-not key (g.covered key has d) d
    safe-down key above (down f c) (bottom g e) has d = cc
    safe-down {x = x} key above (down {parent = p} f c) (next {below = q} g e rest) has d =
        let same : p ≡ q = cc in
        safe-down key (chain-join above (down e here)) (subst (λ (y : Id12). Chain journal y x) same c) rest has d

    base-kept : (key : Key) → SafeTo doomed (IsYoung cutoff) Excuse Found journal base → Reaches journal base key → doomed key → ⊥
    base-kept key safe (inl is) d = (at_last key d).unmarked (subst (Marked w) (sym is) marks.first)
    base-kept key safe (inr r) d = safe-down key here r.chain safe r.has d

-- ---- of refs, and of leases
module _ (initial : InitialLaw) (cutoff : ℕ) (journal : List Event) (once : IsOnce journal) (last : ℕ) (w : Walk) (told : IsTold cutoff journal last w) (closed : Closed w.branches w.tags w.leases w.roots w.leased w.reads w.files w.absent) where
  abbrev Needed : Id12 → Type 0
  Needed id = NeededBy w.roots w.reads id

  abbrev All : Id12 → Type 0
  All id = AllBy w.roots w.leased w.reads w.files id

  abbrev Gone : Key → Type 0
  Gone key = Contains w.absent key

  needed-leads : Leads w Needed (λ (key : Key). ⊥)
  needed-leads = record {
    marked = needed-all w.roots w.leased w.reads w.files;
    at_first = inl refl;
    parents = λ s id read found apart e. elim found [ inl is ↦ absurd (apart is) | inr f ↦ inr (marks.below s read f e) ];
    snapshots = λ id found. elim found [ inl is ↦ inl is | inr f ↦ closed.needed.snapshots id f ];
    manifests = λ s id read found apart names. elim found [ inl is ↦ absurd (apart is) | inr f ↦ closed.needed.manifests s id read f names ];
  }

  all-leads : Leads w All Gone
  all-leads = record {
    marked = λ id found. found;
    at_first = marks.first;
    parents = λ s id read found apart e. marks.parent s read found e;
    snapshots = closed.all.snapshots;
    manifests = λ s id read found apart names. closed.all.manifests s id read found names;
  }

  needed-marked : (y : Id12) (key : Key) → Needed y → Has journal y key → Marked w key
  needed-marked y key found has = has-marked initial cutoff journal once last w told Needed (λ (key : Key). ⊥) needed-leads y (λ k passed apart r. passed) y key here found has

  module _ (doomed : Key → Type 0) (at_last : (key : Key) → doomed key → Doomed cutoff w key) where
    pub ref-safe : (id : Id12) (key : Key) → Safe doomed (IsYoung cutoff) Needed journal id → Reaches journal id key → doomed key → ⊥
    ref-safe id key safe r d = base-kept initial cutoff journal once last w told Needed (λ (key : Key). ⊥) needed-leads id (λ k passed apart r. passed) Needed needed-marked doomed at_last key safe r d

    pub initial-safe : (key : Key) → Reaches journal initial_id key → doomed key → ⊥
    initial-safe key r d = ref-safe initial_id key (stop (inl refl)) r d

    pub lease-safe : (base : Id12) (key : Key) → ((q : Key) → Contains w.absent q → q ≢ Snapshot initial_id → Reaches journal base q → ⊥) → SafeTo doomed (IsYoung cutoff) Needed All journal base → Reaches journal base key → doomed key → ⊥
    lease-safe base key present safe r d = base-kept initial cutoff journal once last w told All Gone all-leads base present Needed needed-marked doomed at_last key safe r d

-- what a base reaches that a snapshot reaches, that snapshot reaches
pub reach-further : (journal : List Event) (id base : Id12) (key : Key) → Reaches journal id (Snapshot base) → Reaches journal base key → (base ≡ initial_id) ⊎ Reaches journal id key
reach-further journal id base key r (inl is) = inr (inl is)
reach-further journal id base key (inl is) (inr s) = inl (let same : base ≡ initial_id = cc in same)
reach-further journal id base key (inr r) (inr s) = elim r.has [
  | inl is ↦ (let same : base ≡ r.at = cc in inr (inr (record { at = s.at; chain = chain-join r.chain (subst (λ (x : Id12). Chain journal x s.at) same s.chain); has = s.has })))
  | inr held ↦ absurd held
]

-- ---- beside one collection
module _ (initial : InitialLaw) (snaps : SnapshotLaw) (manifests : ManifestLaw) where
  module _ (c : Collection) (journal later : List Event) (h : IsListed c journal later) where
    goods : Each IsGood [] c.start × Each IsGood c.start h.more
    goods = Each-back IsGood [] c.start h.more (subst (λ (j : List Event). Each IsGood [] j) h.is h.good)

    firsts : Each IsFirst [] c.start × Each IsFirst c.start h.more
    firsts = Each-back IsFirst [] c.start h.more (subst (λ (j : List Event). Each IsFirst [] j) h.is h.once)

    owed : Each (OwesUntil c) c.start h.more × Each (OwesUntil c) (c.start ++ h.more) later
    owed = Each-back (OwesUntil c) c.start h.more later h.owes

    begins : Behind c c.start
    begins = ([], sym (append-nil c.start))

    past : Past c.start
    past = past-of initial c.start goods.0 firsts.0

    not-dead : {A : Type 0} → IsDead (walk_at c journal) → A
    not-dead d = let few = d.1 in let all = h.listed in absurd (omega (arith, few, all))

    -- what it was told is so
    pub stands : IsTold c.cutoff journal (last_time journal) (walk_at c journal)
    stands = elim (subst (StandsSo c) (sym h.is) (stands-along initial snaps manifests c c.start h.more begins past firsts.0 goods.1 firsts.1 owed.0 (stands-at-start c))) [
      | inl d ↦ not-dead d
      | inr so ↦ so
    ]

    pub closes : Closed (walk_at c journal).branches (walk_at c journal).tags (walk_at c journal).leases (walk_at c journal).roots (walk_at c journal).leased (walk_at c journal).reads (walk_at c journal).files (walk_at c journal).absent
    closes = stands.closed (let all = h.listed in omega (arith, all))

    settled : IsSettled (walk_at c journal)
    settled = record { lists = h.listed; refs = (closes.branches_read, closes.tags_read, closes.leases_read) }

    behind : Behind c journal
    behind = (h.more, h.is)

    owes-later : Each (OwesUntil c) journal later
    owes-later = subst (λ (j : List Event). Each (OwesUntil c) j later) (sym h.is) owed.1

    pub at-last : (key : Key) → DoomedBy c (journal ++ later) key → DoomedBy c journal key
    at-last key d = settled-along c journal later behind owes-later settled key d

    pub at-first : (key : Key) → DoomedBy c journal key → DoomedBy c (journal ++ later) key
    at-first key d = settled-fore c journal later behind owes-later settled key d

    early : Each (IsLate c) [] c.start
    early = late-before initial snaps manifests c [] c.start (omega arith)

    late : Each (IsLate c) c.start h.more
    late = late-along initial snaps manifests c journal h.listed c.start h.more begins past firsts.0 goods.1 firsts.1 owed.0 (sym h.is) (stands-at-start c)

    pub lates : Each (IsLate c) [] journal
    lates = subst (λ (j : List Event). Each (IsLate c) [] j) (sym h.is) (Each-append (IsLate c) [] c.start h.more early late)

  pub dooms-stay : DoomsStay
  dooms-stay c journal later h key = (at-last c journal later h key, at-first c journal later h key)

  pub puts-kept : PutsKept
  puts-kept c journal later h client from key preceded put d = by_key key d put
    where
      doom : (k : Key) → DoomedBy c (journal ++ later) k → DoomedBy c journal k
      doom k e = at-last c journal later h k e

      other : (k : Key) → k ≢ Snapshot initial_id → DoomedBy c (journal ++ later) k → HasPut client k from journal → ⊥
      other k apart e p =
          not-young c.cutoff journal (last_time journal) (walk_at c journal) (stands c journal later h) k
          (own-young initial c client from journal k h.good h.once (lates c journal later h) preceded (doom k e).object apart p) (doom k e)

      its-id : (id : Id12) → DoomedBy c (journal ++ later) (Snapshot id) → HasPut client (Snapshot id) from journal → ⊥
      its-id id e p = elim (by-id id) [
        | inl is ↦ (doom (Snapshot id) e).unmarked (subst (λ (x : Id12). Marked (walk_at c journal) (Snapshot x)) (sym is) marks.first)
        | inr apart ↦ other (Snapshot id) apart e p
      ]

      by_key : (k : Key) → DoomedBy c (journal ++ later) k → HasPut client k from journal → ⊥
      by_key (Snapshot id) e p = its-id id e p
      by_key (Manifest id) e p = other (Manifest id) (λ is. cc) e p
      by_key (Txn id) e p = other (Txn id) (λ is. cc) e p
      by_key (Chunk id) e p = other (Chunk id) (λ is. cc) e p
      by_key (Branch name) e p = absurd e.object
      by_key (Tag name) e p = absurd e.object
      by_key (Tombstone name) e p = absurd e.object
      by_key (Lease id) e p = absurd e.object

  -- ---- where it was quiet, and each commit a session's own
  module _ (c : Collection) (journal later : List Event) (h : IsCollected c journal later) where
    abbrev doomed : Key → Type 0
    doomed = DoomedBy c (journal ++ later)

    kept : KeptAt initial snaps manifests c (DoomedBy c (journal ++ later)) journal (last_time journal) (walk_at c journal)
    kept = elim (subst (Kept initial snaps manifests c (DoomedBy c (journal ++ later))) (sym h.listed.is)
        (kept-along initial snaps manifests c (DoomedBy c (journal ++ later)) c.start h.listed.more (begins c journal later h.listed) (goods c journal later h.listed).0 (firsts c journal later h.listed).0 (past c journal later h.listed) (early c journal later h.listed)
        (goods c journal later h.listed).1 (firsts c journal later h.listed).1 (late c journal later h.listed) (owed c journal later h.listed).0 h.quiet h.own (kept-at-start initial snaps manifests c (DoomedBy c (journal ++ later))))) [
          | inl d ↦ not-dead c journal later h.listed d
          | inr k ↦ k
        ]

    pub ref-kept : (ref key : Key) (id : Id12) → Names journal ref id → Reaches journal id key → DoomedBy c (journal ++ later) key → ⊥
    ref-kept ref key id n r d = elim (kept.safe ref id n) [
      | inl left ↦ none-later (walk_at c journal).branches (walk_at c journal).tags ref (closes c journal later h.listed).branches_read (closes c journal later h.listed).tags_read left
      | inr safe ↦ ref-safe initial c.cutoff journal h.listed.once (last_time journal) (walk_at c journal) kept.told (closes c journal later h.listed) (DoomedBy c (journal ++ later)) (at-last c journal later h.listed) id key safe r d
    ]

    pub lease-kept : (id base : Id12) (since : List Event) (key : Key) → IsLeased id base since journal → PassedNone (walk_at c journal) journal base → Reaches journal base key → DoomedBy c (journal ++ later) key → ⊥
    lease-kept id base since key l present r d = elim (kept.leases id base (since, l)) [
      | inl left ↦ none-left (Lease id) (subst (λ (o : Option (List Key)). IsLeft o (Lease id)) (closes c journal later h.listed).leases_read left)
      | inr safe ↦ lease-safe initial c.cutoff journal h.listed.once (last_time journal) (walk_at c journal) kept.told (closes c journal later h.listed) (DoomedBy c (journal ++ later)) (at-last c journal later h.listed) base key present safe r d
    ]

    pub initial-kept : (key : Key) → Reaches journal initial_id key → DoomedBy c (journal ++ later) key → ⊥
    initial-kept key r d = initial-safe initial c.cutoff journal h.listed.once (last_time journal) (walk_at c journal) kept.told (closes c journal later h.listed) (DoomedBy c (journal ++ later)) (at-last c journal later h.listed) key r d

  pub refs-kept : RefsKept
  refs-kept c journal later h ref key r d = ref-kept c journal later h ref key r.id r.named r.reaches d

  pub bases-kept : BasesKept
  bases-kept c journal later h ref base key r reached d = elim (reach-further journal r.id base key r.reaches reached) [
    | inl is ↦ initial-kept c journal later h key (subst (λ (x : Id12). Reaches journal x key) is reached) d
    | inr further ↦ ref-kept c journal later h ref key r.id r.named further d
  ]

  pub leases-kept : LeasesKept
  leases-kept c journal later h id base since key l present r d = lease-kept c journal later h id base since key l present r d
