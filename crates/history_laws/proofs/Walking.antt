-- What a collection was told is so, event by event.
use Rattle.std.proofs.Common.{◌≡◌, ◌≢◌, ◌⊎◌, inl, inr, ℕ, ◌+◌, ◌<◌, ◌≤◌, Bool, true, false, cond, List, [], ◌∷◌, ◌++◌, length, take, drop, refl, sym, ◌∙◌, ap, subst, arith, append_assoc, eq-eqb, ne_eqb}
use Rattle.std.specs.Prelude.{◌==◌, nat_lt, Contains, slice_get, Option, Some, None, option_map}
use Rattle.std.specs.Option.{option_and_then}
use Rattle.std.proofs.Math.Seq.{drop-append_seam}
use Rattle.std.proofs.lemmas.Bool.{cases_eq, cases_lt, ltb-false}
use Rattle.std.proofs.lemmas.List.{length-append, take_all, length-take, take-append-le, drop_all}
use Rattle.std.proofs.lemmas.List.Elements.{filter-append, Contains-push_cases, Contains-append_left, Contains-append_right, Contains-append_cases}
use Rattle.std.proofs.lemmas.Option.{slice_get-get_or}
use Rattle.ice_ids.specs.declared.Id12.{Id12}
use Rattle.ice_ids.specs.Text.{initial_id}
use Rattle.snapshot_file.specs.declared.snapshot.SnapshotFile.{SnapshotFile}
use Rattle.manifest_file.specs.declared.manifest.ManifestFile.{ManifestFile}
use Rattle.repo_objects.specs.Laws.{InitialLaw, SnapshotLaw, ManifestLaw}
use Rattle.repo_objects.specs.Readings.{snapshot_by, manifest_by, ref_of}
use Rattle.repo_objects.specs.Trees.{NamesManifest, manifest_put}
use Rattle.object_store.specs.declared.keys.Key.{Key}
use Rattle.object_store.specs.declared.keys.Key.TheVariants.{Snapshot, Manifest, Txn, Chunk, Branch, Tag, Tombstone, Lease}
use Rattle.object_store.specs.declared.keys.Part.{Part}
use Rattle.object_store.specs.declared.keys.Part.TheVariants.{Snapshots, Manifests, Txns, Chunks, Branches, Tags, Leases}
use Rattle.object_store.specs.declared.events.Op.{Op}
use Rattle.object_store.specs.declared.events.Op.TheVariants.{Get, PutNew, PutOver, Remove, RemoveAt, List as ListPart}
use Rattle.object_store.specs.declared.events.Got.{Got}
use Rattle.object_store.specs.declared.events.Got.TheVariants.{Found, Absent}
use Rattle.object_store.specs.declared.events.Gone.TheVariants.{Done as Gone_done, Absent as Gone_absent}
use Rattle.object_store.specs.declared.events.Entry.{Entry}
use Rattle.object_store.specs.declared.events.Listed.{Listed}
use Rattle.object_store.specs.declared.events.Reply.{Reply}
use Rattle.object_store.specs.declared.events.Reply.TheVariants.{Got as Is_got, Gone as Is_gone, Listed as Is_listed}
use Rattle.object_store.specs.declared.events.Event.{Event}
use Rattle.object_store.specs.Machine.{Stored, found, last_put, first_time, got_of, IsListing, IsHonest, UnlessFailed}
use Rattle.object_store.proofs.Journals.{Each-one}
use Rattle.object_store.proofs.Slots.{sound}
use Rattle.store_api.specs.Journal.{IsFirst, IsGood, IsOnce, WasPut, puts_of, rows_of, snap_in}
use Rattle.store_api.specs.Program.{events_of}
use Rattle.store_api.proofs.Standing.{rows-stay, puts-stay}
use Rattle.live_refs.specs.Live.{live}
use Rattle.reach.specs.Chains.{StaysOrCut, parent_at}
use Rattle.collecting.specs.Marks.{MarkedBy, first, first_log, root, log, parent, manifest, chunk, FoundBy, named, below}
use Rattle.collecting.specs.Walks.{Walk, fresh, IsFound, IsNeeded, IsClosedBy, IsClosed, RefsRead, IsWanted, MayGet, branch, tag, lease, object, MayList, MayDo, ended, with_root, with_leased, with_read, with_file, told_ref, told_lease, told_object, told_got, told_listed, told}
use Rattle.collecting.specs.Runs.{told_all, walk_of}
use Rattle.history_laws.specs.Collections.{Collection, walk_at}
use Rattle.history_laws.proofs.Past.{born-one, Past, put-by-rows, parent-one, cut-once}

-- ---- one more event
told-append : (cutoff : ℕ) (w : Walk) (xs ys : List Event) → told_all cutoff w (xs ++ ys) ≡ told_all cutoff (told_all cutoff w xs) ys
told-append cutoff w [] ys = refl
told-append cutoff w (x ∷ xs) ys = told-append cutoff (told cutoff w x.op x.reply) xs ys

-- the journal goes on from where the collection started
abbrev pub Behind : Collection → List Event → Type 0
Behind c journal = (more : List Event) × (journal ≡ c.start ++ more)

pub behind-more : (c : Collection) (journal more : List Event) → Behind c journal → Behind c (journal ++ more)
behind-more c journal more b = (b.0 ++ more, ap (λ (j : List Event). j ++ more) b.1 ∙ append_assoc c.start b.0 more)

module _ (c : Collection) (journal : List Event) (event : Event) (behind : Behind c journal) where
  its : List Event → List Event
  its j = events_of c.client (drop (length c.start) j)

  its-more : its (journal ++ event ∷ []) ≡ its journal ++ events_of c.client (event ∷ [])
  unfolding its
  its-more =
      let more : journal ++ event ∷ [] ≡ c.start ++ (behind.0 ++ event ∷ []) = ap (λ (j : List Event). j ++ event ∷ []) behind.1 ∙ append_assoc c.start behind.0 (event ∷ []) in
      let now : drop (length c.start) (journal ++ event ∷ []) ≡ behind.0 ++ event ∷ [] = ap (drop (length c.start)) more ∙ drop-append_seam c.start (behind.0 ++ event ∷ []) in
      let before : drop (length c.start) journal ≡ behind.0 = ap (drop (length c.start)) behind.1 ∙ drop-append_seam c.start behind.0 in
      ap (events_of c.client) now ∙ (filter-append (λ e. e.client == c.client) behind.0 (event ∷ []) ∙ ap (λ (xs : List Event). events_of c.client xs ++ events_of c.client (event ∷ [])) (sym before))

  walk-more : length journal < c.stop → walk_at c (journal ++ event ∷ []) ≡ told_all c.cutoff (walk_at c journal) (events_of c.client (event ∷ []))
  unfolding its
  walk-more within =
      let long : length (journal ++ event ∷ []) ≡ length journal + 1 = length-append journal (event ∷ []) in
      let all : take c.stop (journal ++ event ∷ []) ≡ journal ++ event ∷ [] = take_all c.stop (journal ++ event ∷ []) (omega (arith, long, within)) in
      let same : take c.stop journal ≡ journal = take_all c.stop journal (omega (arith, within)) in
      ap (λ (j : List Event). told_all c.cutoff fresh (its j)) all ∙ (ap (told_all c.cutoff fresh) its-more ∙ (told-append c.cutoff fresh (its journal) (events_of c.client (event ∷ []))
      ∙ ap (λ (j : List Event). told_all c.cutoff (told_all c.cutoff fresh (its j)) (events_of c.client (event ∷ []))) (sym same)))

  walk-past : c.stop ≤ length journal → walk_at c (journal ++ event ∷ []) ≡ walk_at c journal
  walk-past past = ap (λ (j : List Event). walk_of c.cutoff c.client c.start j) (take-append-le c.stop journal (event ∷ []) past)

  -- one of the collection's own events, with what it tells
  pub record IsIts : Type 0 where
    pub client_is : event.client ≡ c.client
    pub within : length journal < c.stop
    pub walk : walk_at c (journal ++ event ∷ []) ≡ told c.cutoff (walk_at c journal) event.op event.reply

  pub its-own : event.client ≡ c.client → length journal < c.stop → IsIts
  its-own e within = record { client_is = e; within = within; walk = walk-more within ∙ ap (λ (b : Bool). told_all c.cutoff (walk_at c journal) (cond b (event ∷ []) [])) (eq-eqb event.client c.client e) }

  -- the event is one of them, or tells it nothing
  pub walk-one : IsIts ⊎ (walk_at c (journal ++ event ∷ []) ≡ walk_at c journal)
  walk-one = elim (cases_lt (length journal) c.stop) [
    | inr past ↦ inr (walk-past past)
    | inl within ↦ elim (cases_eq event.client c.client) [
      | inl e ↦ inl (its-own e within)
      | inr other ↦ inr (walk-more within ∙ ap (λ (b : Bool). told_all c.cutoff (walk_at c journal) (cond b (event ∷ []) [])) (ne_eqb event.client c.client other))
    ]
  ]

-- nothing of its own stands as far as where it started
pub walk-short : (c : Collection) (journal : List Event) → length journal ≤ length c.start → walk_at c journal ≡ fresh
walk-short c journal short =
    let fewer = length-take c.stop journal in
    ap (λ (xs : List Event). told_all c.cutoff fresh (events_of c.client xs)) (drop_all (length c.start) (take c.stop journal) (omega (arith, fewer, short)))

pub walk-start : (c : Collection) → walk_at c c.start ≡ fresh
walk-start c = walk-short c c.start (omega arith)

-- ---- what is so
-- a snapshot that was got is found, has the rows that were read, and its parent is as it was read, or cut
pub record ReadOk (journal : List Event) (roots : List Id12) (reads : List SnapshotFile) (files : List ManifestFile) (s : SnapshotFile) : Type 0 where
  pub found : MarkedBy roots reads files (Snapshot s.id)
  pub rows : rows_of journal s.id ≡ Some s.nodes
  pub parent : StaysOrCut s.parent (parent_at journal s.id)

-- a snapshot was read, or a manifest
abbrev pub ReadIn : List SnapshotFile → Id12 → Type 0
ReadIn reads id = (s : SnapshotFile) × Contains reads s × (s.id ≡ id)

abbrev pub FileIn : List ManifestFile → Id12 → Type 0
FileIn files id = (m : ManifestFile) × Contains files m × (m.id ≡ id)

-- all that is found so was got, or passed over
pub record ClosedBy (Among : Id12 → Type 0) (Passed : Key → Type 0) (reads : List SnapshotFile) (files : List ManifestFile) : Type 0 where
  pub snapshots : (id : Id12) → Among id → (id ≡ initial_id) ⊎ (ReadIn reads id ⊎ Passed (Snapshot id))
  pub manifests : (s : SnapshotFile) (id : Id12) → Contains reads s → Among s.id → NamesManifest s.nodes id → FileIn files id ⊎ Passed (Manifest id)

-- what refs and leases named is found by these
abbrev pub AllBy : (roots leased : List Id12) → List SnapshotFile → List ManifestFile → Id12 → Type 0
AllBy roots leased reads files id = MarkedBy (roots ++ leased) reads files (Snapshot id)

-- all refs and leases were got, and all that was found
pub record Closed (branches tags leases : Option (List Key)) (roots leased : List Id12) (reads : List SnapshotFile) (files : List ManifestFile) (absent : List Key) : Type 0 where
  pub branches_read : branches ≡ Some []
  pub tags_read : tags ≡ Some []
  pub leases_read : leases ≡ Some []
  pub needed : ClosedBy (FoundBy roots reads) (λ (key : Key). ⊥) reads files
  pub all : ClosedBy (AllBy roots leased reads files) (λ (key : Key). Contains absent key) reads files

pub record Told (cutoff : ℕ) (journal : List Event) (last : ℕ) (branches tags leases : Option (List Key)) (roots leased : List Id12) (reads : List SnapshotFile) (files : List ManifestFile) (absent : List Key) (lists : ℕ) (listed : List Entry) : Type 0 where
  pub reads_ok : (s : SnapshotFile) → Contains reads s → ReadOk journal (roots ++ leased) reads files s
  pub files_ok : (m : ManifestFile) → Contains files m → manifest_put (puts_of journal) m.id ≡ Some m
  pub listed_ok : (e : Entry) → Contains listed e → (t : ℕ) × (first_time journal e.key ≡ Some t) × (t ≤ e.created)
  pub closed : 0 < lists → Closed branches tags leases roots leased reads files absent
  pub tags_last : (ts : List Key) → tags ≡ Some ts → branches ≡ Some []
  pub leases_last : (ls : List Key) → leases ≡ Some ls → (branches ≡ Some []) × (tags ≡ Some [])
  pub late : (left : List Key) → branches ≡ Some left → cutoff ≤ last

abbrev pub IsTold : ℕ → List Event → ℕ → Walk → Type 0
IsTold cutoff journal last w = Told cutoff journal last w.branches w.tags w.leases w.roots w.leased w.reads w.files w.absent w.lists w.listed

-- it was ended before all was listed
abbrev pub IsDead : Walk → Type 0
IsDead w = (w.over ≡ true) × (w.lists < 4)

closed-by : (w : Walk) (Among : Id12 → Type 0) (Passed : Key → Type 0) → IsClosedBy Among Passed w → ClosedBy Among Passed w.reads w.files
closed-by w Among Passed c = record {
  snapshots = λ id f. elim (c.snapshots id f) [
    | inl e ↦ inl e
    | inr got ↦ inr (elim got [ inl r ↦ inl (r.snap, r.read, r.id_is) | inr p ↦ inr p ])
  ];
  manifests = λ s id read f names. elim (c.manifests id (record { snap = s; read = read; found = f; names = names })) [ inl m ↦ inl (m.file, m.read, m.id_is) | inr p ↦ inr p ];
}

closed-of : (w : Walk) → RefsRead w → IsClosed w → Closed w.branches w.tags w.leases w.roots w.leased w.reads w.files w.absent
closed-of w refs c = record {
  branches_read = refs.0;
  tags_read = refs.1;
  leases_read = refs.2;
  needed = closed-by w (IsNeeded w) (λ (key : Key). ⊥) c.needed;
  all = closed-by w (IsFound w) (λ (key : Key). Contains w.absent key) c.all;
}

zero-or : (n : ℕ) → (n ≡ 0) ⊎ (0 < n)
zero-or n = elim (cases_eq n 0) [ inl e ↦ inl e | inr more ↦ inr (let few : n ≢ 0 = more in omega (arith, few)) ]

-- ---- what listings and gets tell
listed-get : {X : Type 0} (xs : List X) (x : X) → Contains xs x → (k : ℕ) × (slice_get xs k ≡ Some x)
listed-get xs x h = (h.0, slice_get-get_or xs h.0 x h.1 ∙ ap (λ (y : _). Some y) h.2)

-- what a get found stands
pub got-found : (now : ℕ) (o : Option Stored) (bytes : List ℕ) (version : _) (t : ℕ) → Found bytes version t ≡ got_of now o → (s : Stored) × (o ≡ Some s) × (s.bytes ≡ bytes)
got-found now None bytes version t e = absurd cc
got-found now (Some s) bytes version t e = (s, refl, cc)

-- more is marked where more was read
pub marked-more : (roots more : List Id12) (reads later : List SnapshotFile) (files newer : List ManifestFile) → ((id : Id12) → Contains roots id → Contains more id) → ((s : SnapshotFile) → Contains reads s → Contains later s) → ((m : ManifestFile) → Contains files m → Contains newer m)
    → {key : Key} → MarkedBy roots reads files key → MarkedBy more later newer key
marked-more roots more reads later files newer a b c first = first
marked-more roots more reads later files newer a b c first_log = first_log
marked-more roots more reads later files newer a b c (root {id = id} h) = root (a id h)
marked-more roots more reads later files newer a b c (log s h m) = log s (b s h) (marked-more roots more reads later files newer a b c m)
marked-more roots more reads later files newer a b c (parent s h m e) = parent s (b s h) (marked-more roots more reads later files newer a b c m) e
marked-more roots more reads later files newer a b c (manifest s h m n) = manifest s (b s h) (marked-more roots more reads later files newer a b c m) n
marked-more roots more reads later files newer a b c (chunk s f h m n g o) = chunk s f (b s h) (marked-more roots more reads later files newer a b c m) n (c f g) o

-- and more is found
pub found-more : (roots more : List Id12) (reads later : List SnapshotFile) → ((id : Id12) → Contains roots id → Contains more id) → ((s : SnapshotFile) → Contains reads s → Contains later s) → {id : Id12} → FoundBy roots reads id → FoundBy more later id
found-more roots more reads later a b (named {id = id} h) = named (a id h)
found-more roots more reads later a b (below s h f e) = below s (b s h) (found-more roots more reads later a b f) e

-- what is found is marked
pub found-marked : (roots more : List Id12) (reads : List SnapshotFile) (files : List ManifestFile) → ((id : Id12) → Contains roots id → Contains more id) → {id : Id12} → FoundBy roots reads id → MarkedBy more reads files (Snapshot id)
found-marked roots more reads files a (named {id = id} h) = root (a id h)
found-marked roots more reads files a (below s h f e) = parent s h (found-marked roots more reads files a f) e

-- more of the first and more of the second is more of both
pub both-more : (xs more ys later : List Id12) → ((id : Id12) → Contains xs id → Contains more id) → ((id : Id12) → Contains ys id → Contains later id) → (id : Id12) → Contains (xs ++ ys) id → Contains (more ++ later) id
both-more xs more ys later a b id h = elim (Contains-append_cases xs ys id h) [
  | inl x ↦ Contains-append_left more later id (a id x)
  | inr y ↦ Contains-append_right more later id (b id y)
]

read-more : (journal : List Event) (roots more : List Id12) (reads later : List SnapshotFile) (files newer : List ManifestFile) (s : SnapshotFile) → ((key : Key) → MarkedBy roots reads files key → MarkedBy more later newer key) → ReadOk journal roots reads files s → ReadOk journal more later newer s
read-more journal roots more reads later files newer s marks h = record { found = marks (Snapshot s.id) h.found; rows = h.rows; parent = h.parent }

-- ---- what it is told leaves it so, or ends it before all is listed
module _ (snaps : SnapshotLaw) (manifests : ManifestLaw) (cutoff : ℕ) (journal : List Event) (past : Past journal) (last now : ℕ) (later : last ≤ now) (w : Walk) (h : IsTold cutoff journal last w) where
  abbrev Goal : Walk → Type 0
  Goal v = IsDead v ⊎ IsTold cutoff journal now v

  dies : (v : Walk) → v.lists ≡ 0 → Goal (ended v)
  dies v none = inl (refl, omega (arith, none))

  still-late : (left : List Key) → w.branches ≡ Some left → cutoff ≤ now
  still-late left e = let a = h.late left e in omega (arith, a, later)

  -- nothing but the time changes
  pub told-later : IsTold cutoff journal now w
  told-later = record { reads_ok = h.reads_ok; files_ok = h.files_ok; listed_ok = h.listed_ok; closed = h.closed; tags_last = h.tags_last; leases_last = h.leases_last; late = still-late }

  -- no object is listed while refs are to be got
  early : (0 < w.lists → ⊥) → w.lists ≡ 0
  early never = elim (zero-or w.lists) [ inl e ↦ e | inr more ↦ absurd (never more) ]

  -- ---- refs and leases
  module _ (none : w.lists ≡ 0) (branches tags leases : Option (List Key)) (tags_ok : (ts : List Key) → tags ≡ Some ts → branches ≡ Some []) (leases_ok : (ls : List Key) → leases ≡ Some ls → (branches ≡ Some []) × (tags ≡ Some [])) (late_ok : (left : List Key) → branches ≡ Some left → cutoff ≤ now) where
    refs-told : (roots leased : List Id12) → ((id : Id12) → Contains w.roots id → Contains roots id) → ((id : Id12) → Contains w.leased id → Contains leased id) → Told cutoff journal now branches tags leases roots leased w.reads w.files w.absent w.lists w.listed
    refs-told roots leased more others = record {
      reads_ok = λ s c. read-more journal (w.roots ++ w.leased) (roots ++ leased) w.reads w.reads w.files w.files s
          (λ key m. marked-more (w.roots ++ w.leased) (roots ++ leased) w.reads w.reads w.files w.files (both-more w.roots roots w.leased leased more others) (λ s c. c) (λ f c. c) m) (h.reads_ok s c);
      files_ok = h.files_ok;
      listed_ok = h.listed_ok;
      closed = λ some. absurd (omega (arith, none, some));
      tags_last = tags_ok;
      leases_last = leases_ok;
      late = late_ok;
    }

    ref-told : (o : Option Id12) → Goal (with_root (record w { branches = branches; tags = tags; leases = leases }) o)
    ref-told None = dies (record w { branches = branches; tags = tags; leases = leases }) none
    ref-told (Some id) = inr (refs-told (w.roots ++ id ∷ []) w.leased (λ x c. Contains-append_left w.roots (id ∷ []) x c) (λ x c. c))

    got-ref : (got : Got) → Goal (told_ref (record w { branches = branches; tags = tags; leases = leases }) got)
    got-ref (Found bytes version t) = ref-told (ref_of bytes)
    got-ref (Absent t) = inr (refs-told w.roots w.leased (λ x c. c) (λ x c. c))

    leased-told : (o : Option Id12) → Goal (with_leased (record w { branches = branches; tags = tags; leases = leases }) o)
    leased-told None = dies (record w { branches = branches; tags = tags; leases = leases }) none
    leased-told (Some id) = inr (refs-told w.roots (w.leased ++ id ∷ []) (λ x c. c) (λ x c. Contains-append_left w.leased (id ∷ []) x c))

    got-lease : (got : Got) → Goal (told_lease (record w { branches = branches; tags = tags; leases = leases }) got)
    got-lease (Found bytes version t) = leased-told (ref_of bytes)
    got-lease (Absent t) = inr (refs-told w.roots w.leased (λ x c. c) (λ x c. c))

  branch-told : (key : Key) (behind : List Key) (got : Got) → w.branches ≡ Some (key ∷ behind) → w.lists ≡ 0 → Goal (told_got w.branches w.tags w.leases w key got)
  branch-told key behind got e none =
      subst (λ (o : Option (List Key)). Goal (told_got o w.tags w.leases w key got)) (sym e)
      (got-ref none (Some behind) w.tags w.leases (λ ts t. let all = h.tags_last ts t in cc) (λ ls l. let all = (h.leases_last ls l).0 in absurd cc) (λ left f. still-late (key ∷ behind) e) got)

  tag-told : (key : Key) (behind : List Key) (got : Got) → w.branches ≡ Some [] → w.tags ≡ Some (key ∷ behind) → w.lists ≡ 0 → Goal (told_got w.branches w.tags w.leases w key got)
  tag-told key behind got all e none =
      subst (λ (o : Option (List Key)). Goal (told_got o w.tags w.leases w key got)) (sym all)
      (subst (λ (o : Option (List Key)). Goal (told_got (Some []) o w.leases w key got)) (sym e)
      (got-ref none w.branches (Some behind) w.leases (λ ts t. all) (λ ls l. let tags_read = (h.leases_last ls l).1 in absurd cc) (λ left f. still-late left f) got))

  lease-told : (key : Key) (behind : List Key) (got : Got) → w.branches ≡ Some [] → w.tags ≡ Some [] → w.leases ≡ Some (key ∷ behind) → w.lists ≡ 0 → Goal (told_got w.branches w.tags w.leases w key got)
  lease-told key behind got all every e none =
      subst (λ (o : Option (List Key)). Goal (told_got o w.tags w.leases w key got)) (sym all)
      (subst (λ (o : Option (List Key)). Goal (told_got (Some []) o w.leases w key got)) (sym every)
      (subst (λ (o : Option (List Key)). Goal (told_got (Some []) (Some []) o w key got)) (sym e)
      (got-lease none w.branches w.tags (Some behind) (λ ts t. all) (λ ls l. (all, every)) (λ left f. still-late left f) got)))

  -- ---- snapshots and manifests
  read-told : (id : Id12) (bytes : List ℕ) → w.lists ≡ 0 → IsFound w id → last_put journal (Snapshot id) ≡ Some bytes → (o : Option SnapshotFile) → snapshot_by id bytes ≡ o → Goal (with_read w o)
  read-told id bytes none found put None e = dies w none
  read-told id bytes none found put (Some s) e =
      let own : s.id ≡ id = snaps.own id bytes s e in
      let is : snap_in id (last_put journal (Snapshot id)) ≡ Some s = ap (snap_in id) put ∙ e in
      inr (record {
        reads_ok = λ t c. elim (Contains-push_cases w.reads s t c) [
          | inl old ↦ read-more journal (w.roots ++ w.leased) (w.roots ++ w.leased) w.reads (w.reads ++ s ∷ []) w.files w.files t more (h.reads_ok t old)
          | inr same ↦ subst (ReadOk journal (w.roots ++ w.leased) (w.reads ++ s ∷ []) w.files) same (record {
            found = more (Snapshot s.id) (subst (λ (x : Id12). IsFound w x) (sym own) found);
            rows = subst (λ (x : Id12). rows_of journal x ≡ Some s.nodes) (sym own) (ap (option_map (λ (y : SnapshotFile). y.nodes)) is);
            parent = inl (subst (λ (x : Id12). parent_at journal x ≡ s.parent) (sym own) (ap (option_and_then (λ (y : SnapshotFile). y.parent)) is));
          })
        ];
        files_ok = h.files_ok;
        listed_ok = h.listed_ok;
        closed = λ some. absurd (omega (arith, none, some));
        tags_last = h.tags_last;
        leases_last = h.leases_last;
        late = still-late;
      })
    where
      more : (key : Key) → MarkedBy (w.roots ++ w.leased) w.reads w.files key → MarkedBy (w.roots ++ w.leased) (w.reads ++ s ∷ []) w.files key
      more key m = marked-more (w.roots ++ w.leased) (w.roots ++ w.leased) w.reads (w.reads ++ s ∷ []) w.files w.files (λ x c. c) (λ x c. Contains-append_left w.reads (s ∷ []) x c) (λ f c. c) m

  manifest-told : (id : Id12) (bytes : List ℕ) → w.lists ≡ 0 → last_put journal (Manifest id) ≡ Some bytes → (o : Option ManifestFile) → manifest_by id bytes ≡ o → Goal (with_file w o)
  manifest-told id bytes none put None e = dies w none
  manifest-told id bytes none put (Some m) e =
      let own : m.id ≡ id = manifests.own id bytes m e in
      inr (record {
        reads_ok = λ t c. read-more journal (w.roots ++ w.leased) (w.roots ++ w.leased) w.reads w.reads w.files (w.files ++ m ∷ []) t (λ key k. marked-more (w.roots ++ w.leased) (w.roots ++ w.leased) w.reads w.reads w.files (w.files ++ m ∷ []) (λ x c. c) (λ x c. c) (λ f c. Contains-append_left w.files (m ∷ []) f c) k) (h.reads_ok t c);
        files_ok = λ f c. elim (Contains-push_cases w.files m f c) [
          | inl old ↦ h.files_ok f old
          | inr same ↦ subst (λ (x : ManifestFile). manifest_put (puts_of journal) x.id ≡ Some x) same (subst (λ (x : Id12). manifest_put (puts_of journal) x ≡ Some m) (sym own) (ap (option_and_then (manifest_by id)) put ∙ e))
        ];
        listed_ok = h.listed_ok;
        closed = λ some. absurd (omega (arith, none, some));
        tags_last = h.tags_last;
        leases_last = h.leases_last;
        late = still-late;
      })

  stood : (key : Key) (bytes : List ℕ) (version : _) (t : ℕ) → Found bytes version t ≡ got_of now (found journal key) → last_put journal key ≡ Some bytes
  stood key bytes version t e =
      let s = got-found now (found journal key) bytes version t e in
      (sound journal key).last s.0 s.1 ∙ ap (λ (b : List ℕ). Some b) s.2

  object-told : (key : Key) (got : Got) → w.lists ≡ 0 → IsWanted w key → got ≡ got_of now (found journal key) → Goal (told_object w key got)
  object-told (Snapshot id) (Found bytes version t) none wanted e = read-told id bytes none wanted (stood (Snapshot id) bytes version t e) (snapshot_by id bytes) refl
  object-told (Manifest id) (Found bytes version t) none wanted e = manifest-told id bytes none (stood (Manifest id) bytes version t e) (manifest_by id bytes) refl
  object-told (Txn id) (Found bytes version t) none wanted e = absurd wanted
  object-told (Chunk id) (Found bytes version t) none wanted e = absurd wanted
  object-told (Branch name) (Found bytes version t) none wanted e = absurd wanted
  object-told (Tag name) (Found bytes version t) none wanted e = absurd wanted
  object-told (Tombstone name) (Found bytes version t) none wanted e = absurd wanted
  object-told (Lease id) (Found bytes version t) none wanted e = absurd wanted
  object-told key (Absent t) none wanted e = inr (record {
    reads_ok = h.reads_ok;
    files_ok = h.files_ok;
    listed_ok = h.listed_ok;
    closed = λ some. absurd (omega (arith, none, some));
    tags_last = h.tags_last;
    leases_last = h.leases_last;
    late = still-late;
  })

  -- ---- gets
  pub get-early : (key : Key) → MayGet w key → w.lists ≡ 0
  get-early key (branch f) = early (λ some. let c = (h.closed some).branches_read in let e = f.1 in cc)
  get-early key (tag all f) = early (λ some. let c = (h.closed some).tags_read in let e = f.1 in cc)
  get-early key (lease all every f) = early (λ some. let c = (h.closed some).leases_read in let e = f.1 in cc)
  get-early key (object refs none wanted) = none

  got-told : (key : Key) (got : Got) → MayGet w key → got ≡ got_of now (found journal key) → Goal (told_got w.branches w.tags w.leases w key got)
  got-told key got (branch f) e = branch-told key f.0 got f.1 (get-early key (branch f))
  got-told key got (tag all f) e = tag-told key f.0 got all f.1 (get-early key (tag all f))
  got-told key got (lease all every f) e = lease-told key f.0 got all every f.1 (get-early key (lease all every f))
  got-told key got (object refs none wanted) e =
      subst (λ (o : Option (List Key)). Goal (told_got o w.tags w.leases w key got)) (sym refs.0)
      (subst (λ (o : Option (List Key)). Goal (told_got (Some []) o w.leases w key got)) (sym refs.1)
      (subst (λ (o : Option (List Key)). Goal (told_got (Some []) (Some []) o w key got)) (sym refs.2) (object-told key got none wanted e)))

  -- ---- listings
  pub list-early : (part : Part) → MayList w part → w.lists < 4
  list-early Branches may = let e = early (λ some. let c = (h.closed some).branches_read in cc) in omega (arith, e)
  list-early Tags may = let e = early (λ some. let c = (h.closed some).tags_read in let f = may.1 in cc) in omega (arith, e)
  list-early Snapshots may = let e = may.1 in omega (arith, e)
  list-early Txns may = let e = may.1 in omega (arith, e)
  list-early Manifests may = let e = may.1 in omega (arith, e)
  list-early Chunks may = let e = may.1 in omega (arith, e)
  list-early Leases may = let e = early (λ some. let c = (h.closed some).leases_read in let f = may.2 in cc) in omega (arith, e)

  objects-told : (part : Part) (l : Listed) → RefsRead w → IsClosed w → IsListing (found journal) part l.entries → Told cutoff journal now w.branches w.tags w.leases w.roots w.leased w.reads w.files w.absent (w.lists + 1) (w.listed ++ l.entries)
  objects-told part l refs closed listing = record {
    reads_ok = h.reads_ok;
    files_ok = h.files_ok;
    listed_ok = λ e c. elim (Contains-append_cases w.listed l.entries e c) [
      | inl old ↦ h.listed_ok e old
      | inr new ↦
          let at = listed-get l.entries e new in
          let entry = listing.right at.0 e at.1 in
          let t = (past.timed e.key).created entry.stored entry.stands in
          (t.0, t.1, let a = t.2 in let b = entry.created in omega (arith, a, b))
    ];
    closed = λ some. closed-of w refs closed;
    tags_last = h.tags_last;
    leases_last = h.leases_last;
    late = still-late;
  }

  listed-told : (part : Part) (l : Listed) → MayList w part → l.now ≡ now → IsListing (found journal) part l.entries → Goal (told_listed cutoff w part l)
  listed-told Branches l may time listing = by_time (nat_lt l.now cutoff) refl
    where
      none : w.lists ≡ 0
      none = early (λ some. let c = (h.closed some).branches_read in cc)

      by_time : (b : Bool) → nat_lt l.now cutoff ≡ b → Goal (cond b (ended w) (record w { branches = Some (live l.entries) }))
      by_time true e = dies w none
      by_time false e = inr (refs-told none (Some (live l.entries)) w.tags w.leases (λ ts t. let all = h.tags_last ts t in cc) (λ ls t. let all = (h.leases_last ls t).0 in absurd cc) (λ left f. let a = ltb-false l.now cutoff e in omega (arith, a, time)) w.roots w.leased (λ x c. c) (λ x c. c))
  listed-told Tags l may time listing =
      inr (refs-told (early (λ some. let c = (h.closed some).tags_read in let f = may.1 in cc)) w.branches (Some (live l.entries)) w.leases (λ ts t. may.0) (λ ls t. let all = (h.leases_last ls t).1 in let f = may.1 in absurd cc) still-late w.roots w.leased (λ x c. c) (λ x c. c))
  listed-told Leases l may time listing =
      inr (refs-told (early (λ some. let c = (h.closed some).leases_read in let f = may.2 in cc)) w.branches w.tags (Some (live l.entries)) (λ ts t. may.0) (λ ls t. (may.0, may.1)) still-late w.roots w.leased (λ x c. c) (λ x c. c))
  listed-told Snapshots l may time listing = inr (objects-told Snapshots l may.0 may.2 listing)
  listed-told Txns l may time listing = inr (objects-told Txns l may.0 may.2 listing)
  listed-told Manifests l may time listing = inr (objects-told Manifests l may.0 may.2 listing)
  listed-told Chunks l may time listing = inr (objects-told Chunks l may.0 may.2 listing)

  got-is : (g h : Got) → Is_got g ≡ Is_got h → g ≡ h
  got-is g h e = cc

  listed-is : (l m : Listed) → Is_listed l ≡ Is_listed m → l ≡ m
  listed-is l m e = cc

  -- ---- an operation that it may make, with its reply
  pub told-kept : (n : ℕ) (op : Op) (reply : Reply) → MayDo cutoff w op → UnlessFailed (IsHonest (found journal) n now op) reply → Goal (told cutoff w op reply)
  told-kept n (Get key) (Is_got got) may honest = got-told key got may (got-is got (got_of now (found journal key)) honest)
  told-kept n (Get key) reply may honest = dies w (get-early key may)
  told-kept n (ListPart part) (Is_listed l) may honest =
      let is = listed-is l (record { entries = honest.0; now = now }) honest.1 in
      listed-told part l may (ap (λ (x : Listed). x.now) is) (subst (λ (x : Listed). IsListing (found journal) part x.entries) (sym is) honest.2)
  told-kept n (ListPart part) reply may honest = inl (refl, list-early part may)
  told-kept n (Remove key why) (Is_gone (Gone_done t)) may honest = inr told-later
  told-kept n (Remove key why) (Is_gone (Gone_absent t)) may honest = inr told-later
  told-kept n (Remove key why) reply may honest = inr told-later
  told-kept n (PutNew key bytes why) reply may honest = absurd may
  told-kept n (PutOver key bytes old why) reply may honest = absurd may
  told-kept n (RemoveAt key old why) reply may honest = absurd may

-- ---- what is so stays so
module _ (initial : InitialLaw) (cutoff : ℕ) (journal : List Event) (event : Event) (once : IsOnce journal) (good : IsGood journal event) (first : IsFirst journal event) (last : ℕ) (branches tags leases : Option (List Key)) (roots leased : List Id12) (reads : List SnapshotFile) (files : List ManifestFile) (absent : List Key) (lists : ℕ) (listed : List Entry) (h : Told cutoff journal last branches tags leases roots leased reads files absent lists listed) where
  read-on : (s : SnapshotFile) → ReadOk journal (roots ++ leased) reads files s → ReadOk (journal ++ event ∷ []) (roots ++ leased) reads files s
  read-on s r =
      let put : WasPut journal (Snapshot s.id) = put-by-rows journal s.id s.nodes r.rows in
      record {
        found = r.found;
        rows = rows-stay s.id journal (event ∷ []) once put (Each-one IsGood journal event good) (Each-one IsFirst journal event first) ∙ r.rows;
        parent = cut-once s.parent (parent_at journal s.id) (parent_at (journal ++ event ∷ []) s.id) r.parent (parent-one initial journal event once good first s.id (inr put));
      }

  pub told-on : Told cutoff (journal ++ event ∷ []) last branches tags leases roots leased reads files absent lists listed
  told-on = record {
    reads_ok = λ s c. read-on s (h.reads_ok s c);
    files_ok = λ m c. (puts-stay journal (event ∷ []) once (Each-one IsGood journal event good) (Each-one IsFirst journal event first)).manifests m.id m (h.files_ok m c);
    listed_ok = λ e c. let t = h.listed_ok e c in (t.0, born-one journal event e.key t.0 t.1, t.2);
    closed = h.closed;
    tags_last = h.tags_last;
    leases_last = h.leases_last;
    late = h.late;
  }
