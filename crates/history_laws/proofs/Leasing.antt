-- What leases keep is safe, event by event.
use Rattle.std.proofs.Common.{◌≡◌, ◌⊎◌, inl, inr, ℕ, ◌<◌, ◌≤◌, Bool, true, false, cond, List, [], ◌∷◌, ◌++◌, refl, sym, ◌∙◌, ap, subst, arith, append_assoc, append-nil}
use Rattle.std.specs.Prelude.{nat_lt, Contains, Option, Some, None}
use Rattle.std.proofs.lemmas.List.Elements.{Contains-push, Contains-append_left, Contains-append_right}
use Rattle.ice_ids.specs.declared.Id12.{Id12}
use Rattle.snapshot_file.specs.declared.snapshot.SnapshotFile.{SnapshotFile}
use Rattle.manifest_file.specs.declared.manifest.ManifestFile.{ManifestFile}
use Rattle.repo_objects.specs.Laws.{InitialLaw, SnapshotLaw, ManifestLaw}
use Rattle.repo_objects.specs.Readings.{snapshot_by, manifest_by, ref_of}
use Rattle.object_store.specs.declared.keys.Key.{Key}
use Rattle.object_store.specs.declared.keys.Key.TheVariants.{Snapshot, Manifest, Txn, Chunk, Branch, Tag, Tombstone, Lease}
use Rattle.object_store.specs.declared.keys.Part.{Part}
use Rattle.object_store.specs.declared.keys.Part.TheVariants.{Snapshots, Manifests, Txns, Chunks, Branches, Tags, Leases}
use Rattle.object_store.specs.declared.events.Op.{Op}
use Rattle.object_store.specs.declared.events.Got.{Got}
use Rattle.object_store.specs.declared.events.Got.TheVariants.{Found, Absent}
use Rattle.object_store.specs.declared.events.Listed.{Listed}
use Rattle.object_store.specs.declared.events.Reply.{Reply}
use Rattle.object_store.specs.declared.events.Event.{Event}
use Rattle.object_store.specs.Machine.{Stored, found, got_of, IsListing, IsHonest, UnlessFailed}
use Rattle.object_store.proofs.Journals.{Each-back}
use Rattle.store_api.specs.Journal.{Each, IsFirst, IsGood, IsOnce}
use Rattle.live_refs.specs.Live.{live}
use Rattle.live_refs.proofs.Live.{live-law}
use Rattle.collecting.specs.Marks as marks
use Rattle.collecting.specs.Walks.{Walk, MayGet, branch, tag, lease, object, IsWanted, MayList, MayDo, ended, with_root, with_leased, with_read, with_file, told_ref, told_lease, told_object, told_got, told_listed, told}
use Rattle.history_laws.specs.Refs.{Names, LeaseNames, StillNames, IsLeased}
use Rattle.history_laws.proofs.Past.{look, Past}
use Rattle.history_laws.proofs.Down.{stop}
use Rattle.history_laws.proofs.Safe.{Safe, SafeTo, safe-more, safe-on}
use Rattle.history_laws.proofs.Walking.{IsTold, IsDead, AllBy, marked-more, found-marked, both-more, got-found, get-early, list-early}
use Rattle.history_laws.proofs.ToldBy.{told-by}
use Rattle.history_laws.proofs.Kept.{IsLeft, IsLater, left-fewer, none-later, NeededBy, needed-more, got-absent}

-- ---- what a lease keeps
-- it is still to be got, or what it named is safe, down to what refs or leases led to
abbrev pub LeaseSafe : (Key → Type 0) → (List Event → Key → Type 0) → List Event → Option (List Key) → (roots leased : List Id12) → List SnapshotFile → List ManifestFile → (id base : Id12) → Type 0
LeaseSafe doomed young journal leases roots leased reads files id base = IsLeft leases (Lease id) ⊎ SafeTo doomed young (NeededBy roots reads) (AllBy roots leased reads files) journal base

abbrev pub AreLeased : (Key → Type 0) → (List Event → Key → Type 0) → (Id12 → Id12 → Type 0) → List Event → Walk → Type 0
AreLeased doomed young L journal w = (id base : Id12) → L id base → LeaseSafe doomed young journal w.leases w.roots w.leased w.reads w.files id base

-- what refs need is found
pub needed-all : (roots leased : List Id12) (reads : List SnapshotFile) (files : List ManifestFile) (id : Id12) → NeededBy roots reads id → AllBy roots leased reads files id
needed-all roots leased reads files id (inl e) = subst (AllBy roots leased reads files) (sym e) marks.first
needed-all roots leased reads files id (inr f) = found-marked roots (roots ++ leased) reads files (λ x c. Contains-append_left roots leased x c) f

-- ---- what the collection is told leaves it so
module _ (snaps : SnapshotLaw) (manifests : ManifestLaw) (doomed : Key → Type 0) (young : List Event → Key → Type 0) (cutoff : ℕ) (journal : List Event) (past : Past journal) (last now : ℕ) (later : last ≤ now) (w : Walk) (told_so : IsTold cutoff journal last w)
    (L : Id12 → Id12 → Type 0) (stands : (id base : Id12) → L id base → LeaseNames journal id base) (h : AreLeased doomed young L journal w) where
  abbrev Goal : Walk → Type 0
  Goal v = IsDead v ⊎ AreLeased doomed young L journal v

  dies : (v : Walk) → v.lists ≡ 0 → Goal (ended v)
  dies v none = inl (refl, omega (arith, none))

  grow : (roots leased : List Id12) (reads : List SnapshotFile) (files : List ManifestFile) → ((id : Id12) → Contains w.roots id → Contains roots id) → ((id : Id12) → Contains w.leased id → Contains leased id) → ((s : SnapshotFile) → Contains w.reads s → Contains reads s)
      → ((m : ManifestFile) → Contains w.files m → Contains files m) → (base : Id12) → SafeTo doomed young (NeededBy w.roots w.reads) (AllBy w.roots w.leased w.reads w.files) journal base → SafeTo doomed young (NeededBy roots reads) (AllBy roots leased reads files) journal base
  grow roots leased reads files a b c d base s =
      safe-more doomed young (NeededBy w.roots w.reads) (NeededBy roots reads) (AllBy w.roots w.leased w.reads w.files) (AllBy roots leased reads files) journal base (needed-more w.roots roots w.reads reads a c)
      (λ x f. marked-more (w.roots ++ w.leased) (roots ++ leased) w.reads reads w.files files (both-more w.roots roots w.leased leased a b) c d f) marks.first s

  grown : (roots leased : List Id12) (reads : List SnapshotFile) (files : List ManifestFile) → ((id : Id12) → Contains w.roots id → Contains roots id) → ((id : Id12) → Contains w.leased id → Contains leased id) → ((s : SnapshotFile) → Contains w.reads s → Contains reads s)
      → ((m : ManifestFile) → Contains w.files m → Contains files m) → (id base : Id12) → L id base → LeaseSafe doomed young journal w.leases roots leased reads files id base
  grown roots leased reads files a b c d id base l = elim (h id base l) [ inl left ↦ inl left | inr safe ↦ inr (grow roots leased reads files a b c d base safe) ]

  -- ---- a ref is got
  root-told : w.lists ≡ 0 → (branches tags : Option (List Key)) (o : Option Id12) → Goal (with_root (record w { branches = branches; tags = tags }) o)
  root-told none branches tags None = dies (record w { branches = branches; tags = tags }) none
  root-told none branches tags (Some x) = inr (grown (w.roots ++ x ∷ []) w.leased w.reads w.files (λ y c. Contains-append_left w.roots (x ∷ []) y c) (λ y c. c) (λ y c. c) (λ y c. c))

  ref-told : w.lists ≡ 0 → (branches tags : Option (List Key)) (got : Got) → Goal (told_ref (record w { branches = branches; tags = tags }) got)
  ref-told none branches tags (Found bytes version t) = root-told none branches tags (ref_of bytes)
  ref-told none branches tags (Absent t) = inr h

  branch-told : (key : Key) (behind : List Key) (got : Got) → w.branches ≡ Some (key ∷ behind) → w.lists ≡ 0 → Goal (told_got w.branches w.tags w.leases w key got)
  branch-told key behind got e none = subst (λ (o : Option (List Key)). Goal (told_got o w.tags w.leases w key got)) (sym e) (ref-told none (Some behind) w.tags got)

  tag-told : (key : Key) (behind : List Key) (got : Got) → w.branches ≡ Some [] → w.tags ≡ Some (key ∷ behind) → w.lists ≡ 0 → Goal (told_got w.branches w.tags w.leases w key got)
  tag-told key behind got all e none =
      subst (λ (o : Option (List Key)). Goal (told_got o w.tags w.leases w key got)) (sym all)
      (subst (λ (o : Option (List Key)). Goal (told_got (Some []) o w.leases w key got)) (sym e) (ref-told none w.branches (Some behind) got))

  -- ---- a lease is got
  module _ (none : w.lists ≡ 0) (key : Key) (behind : List Key) (first_is : w.leases ≡ Some (key ∷ behind)) where
    named-told : (bytes : List ℕ) (version : _) (t : ℕ) → Found bytes version t ≡ got_of now (found journal key) → (o : Option Id12) → ref_of bytes ≡ o → Goal (with_leased (record w { leases = Some behind }) o)
    named-told bytes version t e None f = dies (record w { leases = Some behind }) none
    named-told bytes version t e (Some x) f = inr leases
      where
        its-base : (id base : Id12) → L id base → Lease id ≡ key → x ≡ base
        its-base id base l same =
            let n = stands id base l in
            let s = got-found now (found journal key) bytes version t e in
            let there : found journal key ≡ Some n.stored = subst (λ (k : Key). found journal k ≡ Some n.stored) same n.stands in
            let is : n.stored ≡ s.0 = let g = s.1 in cc in
            let named : ref_of bytes ≡ Some base = subst (λ (b : List ℕ). ref_of b ≡ Some base) (ap (λ (y : Stored). y.bytes) is ∙ s.2) n.names in
            cc

        leases : AreLeased doomed young L journal (record w { leases = Some behind; leased = w.leased ++ x ∷ [] })
        leases id base l = elim (h id base l) [
          | inl still ↦ elim (left-fewer w.leases key behind (Lease id) first_is still) [
            | inl same ↦ inr (stop (marks.root (Contains-append_right w.roots (w.leased ++ x ∷ []) base (subst (Contains (w.leased ++ x ∷ [])) (its-base id base l same) (Contains-push w.leased x)))))
            | inr more ↦ inl more
          ]
          | inr safe ↦ inr (grow w.roots (w.leased ++ x ∷ []) w.reads w.files (λ y c. c) (λ y c. Contains-append_left w.leased (x ∷ []) y c) (λ y c. c) (λ y c. c) base safe)
        ]

    got-lease : (got : Got) → got ≡ got_of now (found journal key) → Goal (told_lease (record w { leases = Some behind }) got)
    got-lease (Found bytes version t) e = named-told bytes version t e (ref_of bytes) refl
    got-lease (Absent t) e = inr leases
      where
        leases : AreLeased doomed young L journal (record w { leases = Some behind })
        leases id base l = elim (h id base l) [
          | inl still ↦ elim (left-fewer w.leases key behind (Lease id) first_is still) [
            | inl same ↦ (let n = stands id base l in let g = got-absent now (found journal key) t e in let there : found journal key ≡ Some n.stored = subst (λ (k : Key). found journal k ≡ Some n.stored) same n.stands in absurd cc)
            | inr more ↦ inl more
          ]
          | inr safe ↦ inr safe
        ]

  lease-told : (key : Key) (behind : List Key) (got : Got) → w.branches ≡ Some [] → w.tags ≡ Some [] → w.leases ≡ Some (key ∷ behind) → w.lists ≡ 0 → got ≡ got_of now (found journal key) → Goal (told_got w.branches w.tags w.leases w key got)
  lease-told key behind got all every e none is =
      subst (λ (o : Option (List Key)). Goal (told_got o w.tags w.leases w key got)) (sym all)
      (subst (λ (o : Option (List Key)). Goal (told_got (Some []) o w.leases w key got)) (sym every)
      (subst (λ (o : Option (List Key)). Goal (told_got (Some []) (Some []) o w key got)) (sym e) (got-lease none key behind e got is)))

  -- ---- a snapshot or a manifest is got
  read-told : w.lists ≡ 0 → (o : Option SnapshotFile) → Goal (with_read w o)
  read-told none None = dies w none
  read-told none (Some s) = inr (grown w.roots w.leased (w.reads ++ s ∷ []) w.files (λ y c. c) (λ y c. c) (λ y c. Contains-append_left w.reads (s ∷ []) y c) (λ y c. c))

  file-told : w.lists ≡ 0 → (o : Option ManifestFile) → Goal (with_file w o)
  file-told none None = dies w none
  file-told none (Some m) = inr (grown w.roots w.leased w.reads (w.files ++ m ∷ []) (λ y c. c) (λ y c. c) (λ y c. c) (λ y c. Contains-append_left w.files (m ∷ []) y c))

  object-told : (key : Key) (got : Got) → w.lists ≡ 0 → IsWanted w key → Goal (told_object w key got)
  object-told (Snapshot id) (Found bytes version t) none wanted = read-told none (snapshot_by id bytes)
  object-told (Manifest id) (Found bytes version t) none wanted = file-told none (manifest_by id bytes)
  object-told (Txn id) (Found bytes version t) none wanted = absurd wanted
  object-told (Chunk id) (Found bytes version t) none wanted = absurd wanted
  object-told (Branch name) (Found bytes version t) none wanted = absurd wanted
  object-told (Tag name) (Found bytes version t) none wanted = absurd wanted
  object-told (Tombstone name) (Found bytes version t) none wanted = absurd wanted
  object-told (Lease id) (Found bytes version t) none wanted = absurd wanted
  object-told key (Absent t) none wanted = inr h

  early : (key : Key) → MayGet w key → w.lists ≡ 0
  early key may = get-early snaps manifests cutoff journal past last now later w told_so key may

  got-told : (key : Key) (got : Got) → MayGet w key → got ≡ got_of now (found journal key) → Goal (told_got w.branches w.tags w.leases w key got)
  got-told key got (branch f) e = branch-told key f.0 got f.1 (early key (branch f))
  got-told key got (tag all f) e = tag-told key f.0 got all f.1 (early key (tag all f))
  got-told key got (lease all every f) e = lease-told key f.0 got all every f.1 (early key (lease all every f)) e
  got-told key got (object refs none wanted) e =
      subst (λ (o : Option (List Key)). Goal (told_got o w.tags w.leases w key got)) (sym refs.0)
      (subst (λ (o : Option (List Key)). Goal (told_got (Some []) o w.leases w key got)) (sym refs.1)
      (subst (λ (o : Option (List Key)). Goal (told_got (Some []) (Some []) o w key got)) (sym refs.2) (object-told key got none wanted)))

  -- ---- listings
  leases-told : (l : Listed) → IsListing (found journal) Leases l.entries → AreLeased doomed young L journal (record w { leases = Some (live l.entries) })
  leases-told l listing id base k =
      let n = stands id base k in
      inl (inr (live l.entries, refl, (live-law (found journal) Leases l.entries listing (Lease id)).1 (record { stored = n.stored; stands = n.stands; part_is = refl; not_gone = tt })))

  listed-told : (part : Part) (l : Listed) → MayList w part → IsListing (found journal) part l.entries → Goal (told_listed cutoff w part l)
  listed-told Branches l may listing = by_time (nat_lt l.now cutoff)
    where
      few : w.lists < 4
      few = list-early snaps manifests cutoff journal past last now later w told_so Branches may

      by_time : (b : Bool) → Goal (cond b (ended w) (record w { branches = Some (live l.entries) }))
      by_time true = inl (refl, few)
      by_time false = inr h
  listed-told Tags l may listing = inr h
  listed-told Leases l may listing = inr (leases-told l listing)
  listed-told Snapshots l may listing = inr h
  listed-told Txns l may listing = inr h
  listed-told Manifests l may listing = inr h
  listed-told Chunks l may listing = inr h

  -- an operation that it may make, with its reply
  pub told-leased : (n : ℕ) (op : Op) (reply : Reply) → MayDo cutoff w op → UnlessFailed (IsHonest (found journal) n now op) reply → Goal (told cutoff w op reply)
  told-leased = told-by cutoff journal now w Goal got-told listed-told (λ key may. dies w (early key may)) (λ part may. inl (refl, list-early snaps manifests cutoff journal past last now later w told_so part may)) (λ answered removed over. inr h)

-- ---- leases that stand, event by event
-- a lease keeps the base since some moment
abbrev pub HasLease : List Event → (id base : Id12) → Type 0
HasLease journal id base = (since : List Event) × IsLeased id base since journal

front : List Event → List Event
front [] = []
front (x ∷ []) = []
front (x ∷ y ∷ ys) = x ∷ front (y ∷ ys)

front-push : (xs : List Event) (z : Event) → front (xs ++ z ∷ []) ≡ xs
unfolding front
front-push [] z = refl
front-push (x ∷ []) z = refl
front-push (x ∷ y ∷ ys) z = ap (λ (l : List Event). x ∷ l) (front-push (y ∷ ys) z)

-- nothing, or all but the last and the last
by-last : (xs : List Event) → (xs ≡ []) ⊎ ((before : List Event) × (z : Event) × (xs ≡ before ++ z ∷ []))
by-last [] = inl refl
by-last (x ∷ xs) = elim (by-last xs) [
  | inl e ↦ inr ([], x, ap (λ (l : List Event). x ∷ l) e)
  | inr r ↦ inr (x ∷ r.0, r.1, ap (λ (l : List Event). x ∷ l) r.2)
]

-- it kept the base before the event, or it does since now
pub leased-before : (id base : Id12) (since journal : List Event) (event : Event) → IsLeased id base since (journal ++ event ∷ []) → IsLeased id base since journal ⊎ (since ≡ journal ++ event ∷ [])
leased-before id base since journal event l = elim (by-last l.more) [
  | inl none ↦ inr (sym (l.is ∙ (ap (λ (xs : List Event). since ++ xs) none ∙ append-nil since)))
  | inr r ↦
      let whole : journal ++ event ∷ [] ≡ (since ++ r.0) ++ r.1 ∷ [] = l.is ∙ (ap (λ (xs : List Event). since ++ xs) r.2 ∙ sym (append_assoc since r.0 (r.1 ∷ []))) in
      inl (record {
        more = r.0;
        is = sym (front-push journal event) ∙ (ap front whole ∙ front-push (since ++ r.0) r.1);
        ref = l.ref;
        named = l.named;
        at_first = l.at_first;
        always = (Each-back (StillNames id base) since r.0 (r.1 ∷ []) (subst (λ (xs : List Event). Each (StillNames id base) since xs) r.2 l.always)).0;
      })
]

-- the lease stands now
still-along : (id base : Id12) (journal more : List Event) → LeaseNames journal id base → Each (StillNames id base) journal more → LeaseNames (journal ++ more) id base
unfolding Each
still-along id base journal [] n always = subst (λ (j : List Event). LeaseNames j id base) (sym (append-nil journal)) n
still-along id base journal (x ∷ xs) n always = subst (λ (j : List Event). LeaseNames j id base) (append_assoc journal (x ∷ []) xs) (still-along id base (journal ++ x ∷ []) xs always.0 always.1)

pub leased-stands : (id base : Id12) (since journal : List Event) → IsLeased id base since journal → LeaseNames journal id base
leased-stands id base since journal l = subst (λ (j : List Event). LeaseNames j id base) (sym l.is) (still-along id base since l.more l.at_first l.always)

-- ---- the store's part of an event
module _ (initial : InitialLaw) (doomed : Key → Type 0) (young : List Event → Key → Type 0) (cutoff : ℕ) (journal : List Event) (event : Event) (once : IsOnce journal) (good : IsGood journal event) (firsts : IsFirst journal event) (older : (key : Key) → young journal key → young (journal ++ event ∷ []) key)
    (last : ℕ) (w : Walk) (told_so : IsTold cutoff journal last w) (old : AreLeased doomed young (HasLease journal) journal w)
    (refs : (ref : Key) (id : Id12) → Names (journal ++ event ∷ []) ref id → IsLater w.branches w.tags ref ⊎ Safe doomed young (NeededBy w.roots w.reads) (journal ++ event ∷ []) id) where
  -- a lease that keeps a base from now on, which a ref names
  new-lease : (id base : Id12) (ref : Key) → Names (journal ++ event ∷ []) ref base → LeaseSafe doomed young (journal ++ event ∷ []) w.leases w.roots w.leased w.reads w.files id base
  new-lease id base ref n = elim (refs ref base n) [
    | inl still ↦ elim (look w.leases) [
      | inl none ↦ inl (inl none)
      | inr ls ↦ (let r = told_so.leases_last ls.0 ls.1 in absurd (none-later w.branches w.tags ref r.0 r.1 still))
    ]
    | inr safe ↦ inr (safe-more doomed young (NeededBy w.roots w.reads) (NeededBy w.roots w.reads) (NeededBy w.roots w.reads) (AllBy w.roots w.leased w.reads w.files) (journal ++ event ∷ []) base (λ x f. f) (needed-all w.roots w.leased w.reads w.files) marks.first safe)
  ]

  pub leases-on : AreLeased doomed young (HasLease (journal ++ event ∷ [])) (journal ++ event ∷ []) w
  leases-on id base l = elim (leased-before id base l.0 journal event l.1) [
    | inl before ↦ elim (old id base (l.0, before)) [
      | inl still ↦ inl still
      | inr safe ↦ inr (safe-on doomed young initial (NeededBy w.roots w.reads) (AllBy w.roots w.leased w.reads w.files) marks.first journal event once good firsts older base safe)
    ]
    | inr now ↦ (let k = l.1 in new-lease id base k.ref (subst (λ (j : List Event). Names j k.ref base) now k.named))
  ]
