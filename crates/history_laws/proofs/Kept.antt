-- What refs name that a collection gets no more is safe, event by event.
use Rattle.std.proofs.Common.{◌≡◌, ◌⊎◌, inl, inr, ℕ, zero, suc, ◌<◌, ◌≤◌, Bool, true, false, cond, List, [], ◌∷◌, ◌++◌, refl, sym, ◌∙◌, ap, subst, arith}
use Rattle.std.specs.Prelude.{nat_lt, Contains, slice_get, Option, Some, None}
use Rattle.std.proofs.lemmas.List.Elements.{Contains-push, Contains-append_left}
use Rattle.ice_ids.specs.declared.Id12.{Id12}
use Rattle.ice_ids.specs.Text.{initial_id}
use Rattle.snapshot_file.specs.declared.snapshot.SnapshotFile.{SnapshotFile}
use Rattle.manifest_file.specs.declared.manifest.ManifestFile.{ManifestFile}
use Rattle.repo_objects.specs.Laws.{SnapshotLaw, ManifestLaw}
use Rattle.repo_objects.specs.Readings.{snapshot_by, manifest_by, ref_of}
use Rattle.object_store.specs.declared.keys.Key.{Key}
use Rattle.object_store.specs.declared.keys.Key.TheVariants.{Snapshot, Manifest, Txn, Chunk, Branch, Tag, Tombstone, Lease}
use Rattle.object_store.specs.declared.keys.Part.{Part}
use Rattle.object_store.specs.declared.keys.Part.TheVariants.{Snapshots, Manifests, Txns, Chunks, Branches, Tags, Leases}
use Rattle.object_store.specs.declared.events.Op.{Op}
use Rattle.object_store.specs.declared.events.Got.{Got}
use Rattle.object_store.specs.declared.events.Got.TheVariants.{Found, Absent}
use Rattle.object_store.specs.declared.events.Listed.{Listed}
use Rattle.object_store.specs.declared.events.Reply.{Reply}
use Rattle.object_store.specs.declared.events.Event.{Event}
use Rattle.object_store.specs.Machine.{Stored, found, got_of, IsListing, IsHonest, UnlessFailed}
use Rattle.live_refs.specs.Live.{live}
use Rattle.live_refs.specs.Laws.{HasKey}
use Rattle.live_refs.proofs.Live.{live-law}
use Rattle.collecting.specs.Marks.{FoundBy}
use Rattle.collecting.specs.Marks as marks
use Rattle.collecting.specs.Walks.{Walk, MayGet, branch, tag, lease, object, IsWanted, MayList, MayDo, ended, with_root, with_leased, with_read, with_file, told_ref, told_lease, told_object, told_got, told_listed, told}
use Rattle.history_laws.specs.Refs.{Names}
use Rattle.history_laws.proofs.Past.{Past}
use Rattle.history_laws.proofs.Down.{stop}
use Rattle.history_laws.proofs.Safe.{Safe, safe-more}
use Rattle.history_laws.proofs.Walking.{IsTold, IsDead, found-more, got-found, get-early, list-early}
use Rattle.history_laws.proofs.ToldBy.{told-by}

-- ---- refs and leases that are still to be got
abbrev pub IsLeft : Option (List Key) → Key → Type 0
IsLeft left ref = (left ≡ None) ⊎ ((keys : List Key) × (left ≡ Some keys) × HasKey keys ref)

abbrev pub IsLater : (branches tags : Option (List Key)) → Key → Type 0
IsLater branches tags (Branch name) = IsLeft branches (Branch name)
IsLater branches tags (Tag name) = IsLeft tags (Tag name)
IsLater branches tags (Tombstone name) = ⊥
IsLater branches tags (Snapshot id) = ⊥
IsLater branches tags (Manifest id) = ⊥
IsLater branches tags (Txn id) = ⊥
IsLater branches tags (Chunk id) = ⊥
IsLater branches tags (Lease id) = ⊥

has-first : (key : Key) (keys : List Key) (ref : Key) → HasKey (key ∷ keys) ref → (ref ≡ key) ⊎ HasKey keys ref
has-first key keys ref h = at h.place h.here
  where
    at : (k : ℕ) → slice_get (key ∷ keys) k ≡ Some ref → (ref ≡ key) ⊎ HasKey keys ref
    at zero e = inl (let same : key ≡ ref = cc in sym same)
    at (suc k) e = inr (record { place = k; here = e })

-- all but the first
pub left-fewer : (left : Option (List Key)) (key : Key) (behind : List Key) (ref : Key) → left ≡ Some (key ∷ behind) → IsLeft left ref → (ref ≡ key) ⊎ IsLeft (Some behind) ref
left-fewer left key behind ref e (inl none) = cc
left-fewer left key behind ref e (inr h) =
    let same : h.0 ≡ key ∷ behind = let f = h.1 in cc in
    elim (has-first key behind ref (subst (λ (keys : List Key). HasKey keys ref) same h.2)) [
      | inl is ↦ inl is
      | inr more ↦ inr (inr (behind, refl, more))
    ]

pub none-left : (ref : Key) → IsLeft (Some []) ref → ⊥
none-left ref (inl e) = cc
none-left ref (inr h) = let same : h.0 ≡ [] = let f = h.1 in cc in let k : HasKey [] ref = subst (λ (keys : List Key). HasKey keys ref) same h.2 in let e = k.here in cc

pub none-later : (branches tags : Option (List Key)) (ref : Key) → branches ≡ Some [] → tags ≡ Some [] → IsLater branches tags ref → ⊥
none-later branches tags (Branch name) e f h = none-left (Branch name) (subst (λ (o : Option (List Key)). IsLeft o (Branch name)) e h)
none-later branches tags (Tag name) e f h = none-left (Tag name) (subst (λ (o : Option (List Key)). IsLeft o (Tag name)) f h)
none-later branches tags (Tombstone name) e f h = h
none-later branches tags (Snapshot id) e f h = h
none-later branches tags (Manifest id) e f h = h
none-later branches tags (Txn id) e f h = h
none-later branches tags (Chunk id) e f h = h
none-later branches tags (Lease id) e f h = h

-- ---- what refs name
-- what refs need by these, or the initial snapshot
abbrev pub NeededBy : List Id12 → List SnapshotFile → Id12 → Type 0
NeededBy roots reads id = (id ≡ initial_id) ⊎ FoundBy roots reads id

pub needed-more : (roots more : List Id12) (reads later : List SnapshotFile) → ((id : Id12) → Contains roots id → Contains more id) → ((s : SnapshotFile) → Contains reads s → Contains later s) → (id : Id12) → NeededBy roots reads id → NeededBy more later id
needed-more roots more reads later a b id (inl e) = inl e
needed-more roots more reads later a b id (inr f) = inr (found-more roots more reads later a b f)

-- each ref is still to be got, or what it names is safe
abbrev pub RefsSafe : (Key → Type 0) → (List Event → Key → Type 0) → List Event → (branches tags : Option (List Key)) → List Id12 → List SnapshotFile → Type 0
RefsSafe doomed young journal branches tags roots reads = (ref : Key) (id : Id12) → Names journal ref id → IsLater branches tags ref ⊎ Safe doomed young (NeededBy roots reads) journal id

abbrev pub AreSafe : (Key → Type 0) → (List Event → Key → Type 0) → List Event → Walk → Type 0
AreSafe doomed young journal w = RefsSafe doomed young journal w.branches w.tags w.roots w.reads

pub got-absent : (now : ℕ) (o : Option Stored) (t : ℕ) → Absent t ≡ got_of now o → o ≡ None
got-absent now None t e = refl
got-absent now (Some s) t e = absurd cc

-- ---- what the collection is told leaves it so
module _ (snaps : SnapshotLaw) (manifests : ManifestLaw) (doomed : Key → Type 0) (young : List Event → Key → Type 0) (cutoff : ℕ) (journal : List Event) (past : Past journal) (last now : ℕ) (later : last ≤ now) (w : Walk) (told_so : IsTold cutoff journal last w) (h : AreSafe doomed young journal w) where
  abbrev Goal : Walk → Type 0
  Goal v = IsDead v ⊎ AreSafe doomed young journal v

  dies : (v : Walk) → v.lists ≡ 0 → Goal (ended v)
  dies v none = inl (refl, omega (arith, none))

  abbrev S : List Id12 → List SnapshotFile → Id12 → Type 0
  S roots reads id = Safe doomed young (NeededBy roots reads) journal id

  more-safe : (roots : List Id12) (reads : List SnapshotFile) → ((id : Id12) → Contains w.roots id → Contains roots id) → ((s : SnapshotFile) → Contains w.reads s → Contains reads s) → (id : Id12) → S w.roots w.reads id → S roots reads id
  more-safe roots reads a b id s =
      safe-more doomed young (NeededBy w.roots w.reads) (NeededBy roots reads) (NeededBy w.roots w.reads) (NeededBy roots reads) journal id (needed-more w.roots roots w.reads reads a b) (needed-more w.roots roots w.reads reads a b) (inl refl) s

  -- ---- a ref is got: these are left but for the one that was got
  module _ (none : w.lists ≡ 0) (branches tags : Option (List Key)) (key : Key) (almost : (ref : Key) (id : Id12) → Names journal ref id → (ref ≡ key) ⊎ (IsLater branches tags ref ⊎ S w.roots w.reads id)) where
    root-told : (bytes : List ℕ) (version : _) (t : ℕ) → Found bytes version t ≡ got_of now (found journal key) → (o : Option Id12) → ref_of bytes ≡ o → Goal (with_root (record w { branches = branches; tags = tags }) o)
    root-told bytes version t e None f = dies (record w { branches = branches; tags = tags }) none
    root-told bytes version t e (Some x) f = inr refs
      where
        refs : RefsSafe doomed young journal branches tags (w.roots ++ x ∷ []) w.reads
        refs ref id n = elim (almost ref id n) [
          | inl same ↦
              let s = got-found now (found journal key) bytes version t e in
              let there : found journal key ≡ Some n.stored = subst (λ (k : Key). found journal k ≡ Some n.stored) same n.stands in
              let is : n.stored ≡ s.0 = let g = s.1 in cc in
              let named : ref_of bytes ≡ Some id = subst (λ (b : List ℕ). ref_of b ≡ Some id) (ap (λ (y : Stored). y.bytes) is ∙ s.2) n.names in
              let it : x ≡ id = cc in
              inr (stop (inr (marks.named (subst (Contains (w.roots ++ x ∷ [])) it (Contains-push w.roots x)))))
          | inr so ↦ elim so [
            | inl left ↦ inl left
            | inr safe ↦ inr (more-safe (w.roots ++ x ∷ []) w.reads (λ y c. Contains-append_left w.roots (x ∷ []) y c) (λ y c. c) id safe)
          ]
        ]

    ref-told : (got : Got) → got ≡ got_of now (found journal key) → Goal (told_ref (record w { branches = branches; tags = tags }) got)
    ref-told (Found bytes version t) e = root-told bytes version t e (ref_of bytes) refl
    ref-told (Absent t) e = inr refs
      where
        refs : RefsSafe doomed young journal branches tags w.roots w.reads
        refs ref id n = elim (almost ref id n) [
          | inl same ↦ (let g = got-absent now (found journal key) t e in let there : found journal key ≡ Some n.stored = subst (λ (k : Key). found journal k ≡ Some n.stored) same n.stands in cc)
          | inr so ↦ so
        ]

  branch-told : (key : Key) (behind : List Key) (got : Got) → w.branches ≡ Some (key ∷ behind) → w.lists ≡ 0 → got ≡ got_of now (found journal key) → Goal (told_got w.branches w.tags w.leases w key got)
  branch-told key behind got e none is = subst (λ (o : Option (List Key)). Goal (told_got o w.tags w.leases w key got)) (sym e) (ref-told none (Some behind) w.tags key almost got is)
    where
      almost : (ref : Key) (id : Id12) → Names journal ref id → (ref ≡ key) ⊎ (IsLater (Some behind) w.tags ref ⊎ S w.roots w.reads id)
      almost (Branch name) id n = elim (h (Branch name) id n) [
        | inl left ↦ elim (left-fewer w.branches key behind (Branch name) e left) [ inl same ↦ inl same | inr more ↦ inr (inl more) ]
        | inr safe ↦ inr (inr safe)
      ]
      almost (Tag name) id n = elim (h (Tag name) id n) [ inl left ↦ inr (inl left) | inr safe ↦ inr (inr safe) ]
      almost (Tombstone name) id n = absurd n.is_ref
      almost (Snapshot x) id n = absurd n.is_ref
      almost (Manifest x) id n = absurd n.is_ref
      almost (Txn x) id n = absurd n.is_ref
      almost (Chunk x) id n = absurd n.is_ref
      almost (Lease x) id n = absurd n.is_ref

  tag-told : (key : Key) (behind : List Key) (got : Got) → w.branches ≡ Some [] → w.tags ≡ Some (key ∷ behind) → w.lists ≡ 0 → got ≡ got_of now (found journal key) → Goal (told_got w.branches w.tags w.leases w key got)
  tag-told key behind got all e none is =
      subst (λ (o : Option (List Key)). Goal (told_got o w.tags w.leases w key got)) (sym all)
      (subst (λ (o : Option (List Key)). Goal (told_got (Some []) o w.leases w key got)) (sym e) (ref-told none w.branches (Some behind) key almost got is))
    where
      almost : (ref : Key) (id : Id12) → Names journal ref id → (ref ≡ key) ⊎ (IsLater w.branches (Some behind) ref ⊎ S w.roots w.reads id)
      almost (Tag name) id n = elim (h (Tag name) id n) [
        | inl left ↦ elim (left-fewer w.tags key behind (Tag name) e left) [ inl same ↦ inl same | inr more ↦ inr (inl more) ]
        | inr safe ↦ inr (inr safe)
      ]
      almost (Branch name) id n = elim (h (Branch name) id n) [ inl left ↦ inr (inl left) | inr safe ↦ inr (inr safe) ]
      almost (Tombstone name) id n = absurd n.is_ref
      almost (Snapshot x) id n = absurd n.is_ref
      almost (Manifest x) id n = absurd n.is_ref
      almost (Txn x) id n = absurd n.is_ref
      almost (Chunk x) id n = absurd n.is_ref
      almost (Lease x) id n = absurd n.is_ref

  -- ---- a lease is got
  leased-told : w.lists ≡ 0 → (leases : Option (List Key)) (o : Option Id12) → Goal (with_leased (record w { leases = leases }) o)
  leased-told none leases None = dies (record w { leases = leases }) none
  leased-told none leases (Some x) = inr h

  got-lease : w.lists ≡ 0 → (leases : Option (List Key)) (got : Got) → Goal (told_lease (record w { leases = leases }) got)
  got-lease none leases (Found bytes version t) = leased-told none leases (ref_of bytes)
  got-lease none leases (Absent t) = inr h

  lease-told : (key : Key) (behind : List Key) (got : Got) → w.branches ≡ Some [] → w.tags ≡ Some [] → w.leases ≡ Some (key ∷ behind) → w.lists ≡ 0 → Goal (told_got w.branches w.tags w.leases w key got)
  lease-told key behind got all every e none =
      subst (λ (o : Option (List Key)). Goal (told_got o w.tags w.leases w key got)) (sym all)
      (subst (λ (o : Option (List Key)). Goal (told_got (Some []) o w.leases w key got)) (sym every)
      (subst (λ (o : Option (List Key)). Goal (told_got (Some []) (Some []) o w key got)) (sym e) (got-lease none (Some behind) got)))

  -- ---- a snapshot or a manifest is got
  read-told : w.lists ≡ 0 → (o : Option SnapshotFile) → Goal (with_read w o)
  read-told none None = dies w none
  read-told none (Some s) = inr (λ ref id n. elim (h ref id n) [
    | inl left ↦ inl left
    | inr safe ↦ inr (more-safe w.roots (w.reads ++ s ∷ []) (λ y c. c) (λ y c. Contains-append_left w.reads (s ∷ []) y c) id safe)
  ])

  file-told : w.lists ≡ 0 → (o : Option ManifestFile) → Goal (with_file w o)
  file-told none None = dies w none
  file-told none (Some m) = inr h

  object-told : (key : Key) (got : Got) → w.lists ≡ 0 → IsWanted w key → Goal (told_object w key got)
  object-told (Snapshot id) (Found bytes version t) none wanted = read-told none (snapshot_by id bytes)
  object-told (Manifest id) (Found bytes version t) none wanted = file-told none (manifest_by id bytes)
  object-told (Txn id) (Found bytes version t) none wanted = absurd wanted
  object-told (Chunk id) (Found bytes version t) none wanted = absurd wanted
  object-told (Branch name) (Found bytes version t) none wanted = absurd wanted
  object-told (Tag name) (Found bytes version t) none wanted = absurd wanted
  object-told (Tombstone name) (Found bytes version t) none wanted = absurd wanted
  object-told (Lease id) (Found bytes version t) none wanted = absurd wanted
  object-told key (Absent t) none wanted = inr h

  early : (key : Key) → MayGet w key → w.lists ≡ 0
  early key may = get-early snaps manifests cutoff journal past last now later w told_so key may

  got-told : (key : Key) (got : Got) → MayGet w key → got ≡ got_of now (found journal key) → Goal (told_got w.branches w.tags w.leases w key got)
  got-told key got (branch f) e = branch-told key f.0 got f.1 (early key (branch f)) e
  got-told key got (tag all f) e = tag-told key f.0 got all f.1 (early key (tag all f)) e
  got-told key got (lease all every f) e = lease-told key f.0 got all every f.1 (early key (lease all every f))
  got-told key got (object refs none wanted) e =
      subst (λ (o : Option (List Key)). Goal (told_got o w.tags w.leases w key got)) (sym refs.0)
      (subst (λ (o : Option (List Key)). Goal (told_got (Some []) o w.leases w key got)) (sym refs.1)
      (subst (λ (o : Option (List Key)). Goal (told_got (Some []) (Some []) o w key got)) (sym refs.2) (object-told key got none wanted)))

  -- ---- listings
  branches-told : (l : Listed) → IsListing (found journal) Branches l.entries → RefsSafe doomed young journal (Some (live l.entries)) w.tags w.roots w.reads
  branches-told l listing (Branch name) id n = inl (inr (live l.entries, refl, (live-law (found journal) Branches l.entries listing (Branch name)).1 (record { stored = n.stored; stands = n.stands; part_is = refl; not_gone = tt })))
  branches-told l listing (Tag name) id n = elim (h (Tag name) id n) [ inl left ↦ inl left | inr safe ↦ inr safe ]
  branches-told l listing (Tombstone name) id n = absurd n.is_ref
  branches-told l listing (Snapshot x) id n = absurd n.is_ref
  branches-told l listing (Manifest x) id n = absurd n.is_ref
  branches-told l listing (Txn x) id n = absurd n.is_ref
  branches-told l listing (Chunk x) id n = absurd n.is_ref
  branches-told l listing (Lease x) id n = absurd n.is_ref

  tags-told : (l : Listed) → IsListing (found journal) Tags l.entries → RefsSafe doomed young journal w.branches (Some (live l.entries)) w.roots w.reads
  tags-told l listing (Tag name) id n = inl (inr (live l.entries, refl, (live-law (found journal) Tags l.entries listing (Tag name)).1 (record { stored = n.stored; stands = n.stands; part_is = refl; not_gone = n.not_gone })))
  tags-told l listing (Branch name) id n = elim (h (Branch name) id n) [ inl left ↦ inl left | inr safe ↦ inr safe ]
  tags-told l listing (Tombstone name) id n = absurd n.is_ref
  tags-told l listing (Snapshot x) id n = absurd n.is_ref
  tags-told l listing (Manifest x) id n = absurd n.is_ref
  tags-told l listing (Txn x) id n = absurd n.is_ref
  tags-told l listing (Chunk x) id n = absurd n.is_ref
  tags-told l listing (Lease x) id n = absurd n.is_ref

  listed-told : (part : Part) (l : Listed) → MayList w part → IsListing (found journal) part l.entries → Goal (told_listed cutoff w part l)
  listed-told Branches l may listing = by_time (nat_lt l.now cutoff)
    where
      few : w.lists < 4
      few = list-early snaps manifests cutoff journal past last now later w told_so Branches may

      by_time : (b : Bool) → Goal (cond b (ended w) (record w { branches = Some (live l.entries) }))
      by_time true = inl (refl, few)
      by_time false = inr (branches-told l listing)
  listed-told Tags l may listing = inr (tags-told l listing)
  listed-told Snapshots l may listing = inr h
  listed-told Txns l may listing = inr h
  listed-told Manifests l may listing = inr h
  listed-told Chunks l may listing = inr h
  listed-told Leases l may listing = inr h

  -- an operation that it may make, with its reply
  pub told-safe : (n : ℕ) (op : Op) (reply : Reply) → MayDo cutoff w op → UnlessFailed (IsHonest (found journal) n now op) reply → Goal (told cutoff w op reply)
  told-safe = told-by cutoff journal now w Goal got-told listed-told (λ key may. dies w (early key may)) (λ part may. inl (refl, list-early snaps manifests cutoff journal past last now later w told_so part may)) (λ answered removed over. inr h)
