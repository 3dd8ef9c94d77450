-- What a collection found absent was lost by then, and stays so.
use Rattle.std.proofs.Common.{◌≡◌, ◌≢◌, inl, inr, ℕ, zero, suc, Bool, true, false, cond, List, [], ◌∷◌, ◌++◌, length, refl, sym, ◌∙◌, ap, subst, arith, append_assoc, append-nil}
use Rattle.std.specs.Prelude.{nat_lt, Contains, Option, Some, None, option_map}
use Rattle.std.specs.Option.{option_and_then}
use Rattle.std.proofs.lemmas.List.Elements.{Contains-push_cases, Contains-append_cases}
use Rattle.ice_ids.specs.declared.Id12.{Id12}
use Rattle.ice_ids.specs.Text.{initial_id}
use Rattle.snapshot_file.specs.declared.snapshot.SnapshotFile.{SnapshotFile}
use Rattle.manifest_file.specs.declared.manifest.ManifestFile.{ManifestFile}
use Rattle.repo_objects.specs.Laws.{InitialLaw, SnapshotLaw}
use Rattle.repo_objects.specs.Readings.{snapshot_by, manifest_by, ref_of}
use Rattle.repo_objects.specs.Trees.{NamesManifest}
use Rattle.object_store.specs.declared.keys.Key.{Key}
use Rattle.object_store.specs.declared.keys.Key.TheVariants.{Snapshot, Manifest, Txn, Chunk, Branch, Tag, Tombstone, Lease}
use Rattle.object_store.specs.declared.keys.Part.{Part}
use Rattle.object_store.specs.declared.keys.Part.TheVariants.{Snapshots, Manifests, Txns, Chunks, Branches, Tags, Leases}
use Rattle.object_store.specs.declared.events.Op.{Op}
use Rattle.object_store.specs.declared.events.Op.TheVariants.{Get, PutNew, PutOver, Remove, RemoveAt, List as ListPart}
use Rattle.object_store.specs.declared.events.Got.{Got}
use Rattle.object_store.specs.declared.events.Got.TheVariants.{Found, Absent}
use Rattle.object_store.specs.declared.events.Gone.TheVariants.{Done as Gone_done, Absent as Gone_absent}
use Rattle.object_store.specs.declared.events.Listed.{Listed}
use Rattle.object_store.specs.declared.events.Reply.{Reply}
use Rattle.object_store.specs.declared.events.Reply.TheVariants.{Got as Is_got, Gone as Is_gone, Listed as Is_listed}
use Rattle.object_store.specs.declared.events.Event.{Event}
use Rattle.object_store.specs.Machine.{Stored, Slot, slot_of, found, last_put, got_of, part_of, IsListing, IsHonest, UnlessFailed}
use Rattle.object_store.proofs.Journals.{Each-append, Each-back, Each-one}
use Rattle.object_store.proofs.Slots.{sound, WasPut-append}
use Rattle.store_api.specs.Journal.{Each, IsFirst, IsGood, IsGoodJournal, IsOnce, NamesPut, WasPut, snap_in}
use Rattle.store_api.proofs.Naming.{names-law}
use Rattle.live_refs.specs.Live.{live}
use Rattle.live_refs.specs.Laws.{HasKey, IsNotGone}
use Rattle.live_refs.proofs.Live.{live-law}
use Rattle.reach.proofs.Holding.{named-put}
use Rattle.collecting.specs.Marks.{MarkedBy}
use Rattle.collecting.specs.Marks as marks
use Rattle.collecting.specs.Walks.{Walk, fresh, IsObject, IsWanted, MayGet, branch, tag, lease, object, MayDo, ended, with_root, with_leased, with_read, with_file, told_ref, told_lease, told_object, told_got, told_listed, told}
use Rattle.history_laws.specs.Collections.{Collection, walk_at, OwesUntil, IsListed, IsLost}
use Rattle.history_laws.proofs.Steps.{step-one, new-first}
use Rattle.history_laws.proofs.Past.{Known, known-append, Past, past-of, past-one}
use Rattle.history_laws.proofs.Walking.{Behind, behind-more, walk-one, walk-start, got-found}
use Rattle.history_laws.proofs.Young.{never-put}
use Rattle.history_laws.proofs.Kept.{got-absent}

-- ---- what names a snapshot
abbrev pub IsNaming : Key → Type 0
IsNaming (Branch name) = Unit {0}
IsNaming (Tag name) = Unit {0}
IsNaming (Lease id) = Unit {0}
IsNaming (Tombstone name) = ⊥
IsNaming (Snapshot id) = ⊥
IsNaming (Manifest id) = ⊥
IsNaming (Txn id) = ⊥
IsNaming (Chunk id) = ⊥

-- a snapshot that a reference names was put
pub named-known : (journal : List Event) (bytes : List ℕ) (id : Id12) → ref_of bytes ≡ Some id → NamesPut journal bytes → WasPut journal (Snapshot id)
named-known journal bytes id e n = let same : n.id ≡ id = let f = n.reference in cc in subst (λ (x : Id12). WasPut journal (Snapshot x)) same n.put

naming-put : (journal : List Event) → IsGoodJournal journal → (key : Key) → IsNaming key → (s : Stored) → found journal key ≡ Some s → (id : Id12) → ref_of s.bytes ≡ Some id → WasPut journal (Snapshot id)
naming-put journal good (Branch name) n s there id e = named-known journal s.bytes id e ((names-law journal good).branches name s there)
naming-put journal good (Tag name) n s there id e = named-known journal s.bytes id e ((names-law journal good).tags name s there)
naming-put journal good (Lease x) n s there id e = named-known journal s.bytes id e ((names-law journal good).leases x s there)
naming-put journal good (Tombstone name) n s there id e = absurd n
naming-put journal good (Snapshot x) n s there id e = absurd n
naming-put journal good (Manifest x) n s there id e = absurd n
naming-put journal good (Txn x) n s there id e = absurd n
naming-put journal good (Chunk x) n s there id e = absurd n

branch-naming : (key : Key) → part_of key ≡ Branches → IsNaming key
branch-naming (Branch name) e = tt
branch-naming (Tag name) e = tt
branch-naming (Lease id) e = tt
branch-naming (Tombstone name) e = absurd cc
branch-naming (Snapshot id) e = absurd cc
branch-naming (Manifest id) e = absurd cc
branch-naming (Txn id) e = absurd cc
branch-naming (Chunk id) e = absurd cc

tag-naming : (at : Key → Option Stored) (key : Key) → part_of key ≡ Tags → IsNotGone at key → IsNaming key
tag-naming at (Branch name) e n = tt
tag-naming at (Tag name) e n = tt
tag-naming at (Lease id) e n = tt
tag-naming at (Tombstone name) e n = absurd n
tag-naming at (Snapshot id) e n = absurd cc
tag-naming at (Manifest id) e n = absurd cc
tag-naming at (Txn id) e n = absurd cc
tag-naming at (Chunk id) e n = absurd cc

lease-naming : (key : Key) → part_of key ≡ Leases → IsNaming key
lease-naming (Branch name) e = tt
lease-naming (Tag name) e = tt
lease-naming (Lease id) e = tt
lease-naming (Tombstone name) e = absurd cc
lease-naming (Snapshot id) e = absurd cc
lease-naming (Manifest id) e = absurd cc
lease-naming (Txn id) e = absurd cc
lease-naming (Chunk id) e = absurd cc

-- ---- what a collection was told was put
-- those that are still to be got name snapshots
abbrev AllNaming : Option (List Key) → Type 0
AllNaming left = (keys : List Key) → left ≡ Some keys → (key : Key) → HasKey keys key → IsNaming key

pub record Passing (journal : List Event) (branches tags leases : Option (List Key)) (roots leased : List Id12) (reads : List SnapshotFile) (absent : List Key) : Type 0 where
  pub branches_name : AllNaming branches
  pub tags_name : AllNaming tags
  pub leases_name : AllNaming leases
  pub roots_known : (id : Id12) → Contains roots id → Known journal id
  pub leased_known : (id : Id12) → Contains leased id → Known journal id
  pub parents_known : (s : SnapshotFile) (id : Id12) → Contains reads s → s.parent ≡ Some id → Known journal id
  pub manifests_put : (s : SnapshotFile) (id : Id12) → Contains reads s → NamesManifest s.nodes id → WasPut journal (Manifest id)
  pub lost : (key : Key) → Contains absent key → key ≢ Snapshot initial_id → IsLost journal key

abbrev pub IsPassing : List Event → Walk → Type 0
IsPassing journal w = Passing journal w.branches w.tags w.leases w.roots w.leased w.reads w.absent

fewer-naming : (left : Option (List Key)) (key : Key) (behind : List Key) → left ≡ Some (key ∷ behind) → AllNaming left → AllNaming (Some behind)
fewer-naming left key behind e all keys f other h =
    let same : behind ≡ keys = cc in
    let k : HasKey behind other = subst (λ (l : List Key). HasKey l other) (sym same) h in
    all (key ∷ behind) e other (record { place = suc k.place; here = k.here })

first-naming : (left : Option (List Key)) (key : Key) (behind : List Key) → left ≡ Some (key ∷ behind) → AllNaming left → IsNaming key
first-naming left key behind e all = all (key ∷ behind) e key (record { place = zero; here = refl })

-- ---- what it is told leaves it so
module _ (snaps : SnapshotLaw) (cutoff : ℕ) (journal : List Event) (good : IsGoodJournal journal) (once : IsOnce journal) (past : Past journal) (now : ℕ) (w : Walk) (h : IsPassing journal w) where
  known-of : {key : Key} → MarkedBy (w.roots ++ w.leased) w.reads w.files key → (id : Id12) → key ≡ Snapshot id → Known journal id
  known-of marks.first id e = (let same : initial_id ≡ id = cc in inl (sym same))
  known-of marks.first_log id e = absurd cc
  known-of (marks.root {id = x} c) id e =
      let same : x ≡ id = cc in
      subst (Known journal) same (elim (Contains-append_cases w.roots w.leased x c) [ inl r ↦ h.roots_known x r | inr l ↦ h.leased_known x l ])
  known-of (marks.log s r m) id e = absurd cc
  known-of (marks.parent {id = x} s r m p) id e = (let same : x ≡ id = cc in subst (Known journal) same (h.parents_known s x r p))
  known-of (marks.manifest s r m n) id e = absurd cc
  known-of (marks.chunk s f r m n g o) id e = absurd cc

  wanted-put : (key : Key) → IsWanted w key → key ≢ Snapshot initial_id → IsObject key × WasPut journal key
  wanted-put (Snapshot id) wanted apart = elim (known-of wanted id refl) [
    | inl is ↦ absurd (apart (ap Snapshot is))
    | inr put ↦ (tt, put)
  ]
  wanted-put (Manifest id) wanted apart = (tt, h.manifests_put wanted.snap id wanted.read wanted.names)
  wanted-put (Txn id) wanted apart = absurd wanted
  wanted-put (Chunk id) wanted apart = absurd wanted
  wanted-put (Branch name) wanted apart = absurd wanted
  wanted-put (Tag name) wanted apart = absurd wanted
  wanted-put (Tombstone name) wanted apart = absurd wanted
  wanted-put (Lease id) wanted apart = absurd wanted

  -- ---- refs and leases
  module _ (branches tags leases : Option (List Key)) (a : AllNaming branches) (b : AllNaming tags) (c : AllNaming leases) where
    left-told : IsPassing journal (record w { branches = branches; tags = tags; leases = leases })
    left-told = record { branches_name = a; tags_name = b; leases_name = c; roots_known = h.roots_known; leased_known = h.leased_known; parents_known = h.parents_known; manifests_put = h.manifests_put; lost = h.lost }

    module _ (key : Key) (naming : IsNaming key) where
      its-known : (bytes : List ℕ) (version : _) (t : ℕ) → Found bytes version t ≡ got_of now (found journal key) → (id : Id12) → ref_of bytes ≡ Some id → Known journal id
      its-known bytes version t e id f =
          let s = got-found now (found journal key) bytes version t e in
          inr (naming-put journal good key naming s.0 s.1 id (subst (λ (x : List ℕ). ref_of x ≡ Some id) (sym s.2) f))

      root-told : (o : Option Id12) → ((id : Id12) → o ≡ Some id → Known journal id) → IsPassing journal (with_root (record w { branches = branches; tags = tags; leases = leases }) o)
      root-told None known = left-told
      root-told (Some id) known = record {
        branches_name = a;
        tags_name = b;
        leases_name = c;
        roots_known = λ x r. elim (Contains-push_cases w.roots id x r) [ inl old ↦ h.roots_known x old | inr same ↦ subst (Known journal) same (known id refl) ];
        leased_known = h.leased_known;
        parents_known = h.parents_known;
        manifests_put = h.manifests_put;
        lost = h.lost;
      }

      leased-told : (o : Option Id12) → ((id : Id12) → o ≡ Some id → Known journal id) → IsPassing journal (with_leased (record w { branches = branches; tags = tags; leases = leases }) o)
      leased-told None known = left-told
      leased-told (Some id) known = record {
        branches_name = a;
        tags_name = b;
        leases_name = c;
        roots_known = h.roots_known;
        leased_known = λ x r. elim (Contains-push_cases w.leased id x r) [ inl old ↦ h.leased_known x old | inr same ↦ subst (Known journal) same (known id refl) ];
        parents_known = h.parents_known;
        manifests_put = h.manifests_put;
        lost = h.lost;
      }

      ref-got : (g : Got) → g ≡ got_of now (found journal key) → IsPassing journal (told_ref (record w { branches = branches; tags = tags; leases = leases }) g)
      ref-got (Found bytes version t) e = root-told (ref_of bytes) (its-known bytes version t e)
      ref-got (Absent t) e = left-told

      lease-got : (g : Got) → g ≡ got_of now (found journal key) → IsPassing journal (told_lease (record w { branches = branches; tags = tags; leases = leases }) g)
      lease-got (Found bytes version t) e = leased-told (ref_of bytes) (its-known bytes version t e)
      lease-got (Absent t) e = left-told

  -- ---- snapshots and manifests
  read-told : (id : Id12) (bytes : List ℕ) → last_put journal (Snapshot id) ≡ Some bytes → (o : Option SnapshotFile) → snapshot_by id bytes ≡ o → IsPassing journal (with_read w o)
  read-told id bytes put None e = h
  read-told id bytes put (Some s) e =
      let is : snap_in id (last_put journal (Snapshot id)) ≡ Some s = ap (snap_in id) put ∙ e in
      record {
        branches_name = h.branches_name;
        tags_name = h.tags_name;
        leases_name = h.leases_name;
        roots_known = h.roots_known;
        leased_known = h.leased_known;
        parents_known = λ t x r p. elim (Contains-push_cases w.reads s t r) [
          | inl old ↦ h.parents_known t x old p
          | inr same ↦ past.parents id x (ap (option_and_then (λ (y : SnapshotFile). y.parent)) is ∙ (ap (λ (y : SnapshotFile). y.parent) same ∙ p))
        ];
        manifests_put = λ t x r n. elim (Contains-push_cases w.reads s t r) [
          | inl old ↦ h.manifests_put t x old n
          | inr same ↦ named-put journal id x once (record { rows = s.nodes; are = ap (option_map (λ (y : SnapshotFile). y.nodes)) is; names = subst (λ (y : SnapshotFile). NamesManifest y.nodes x) (sym same) n })
        ];
        lost = h.lost;
      }

  file-told : (o : Option ManifestFile) → IsPassing journal (with_file w o)
  file-told None = h
  file-told (Some m) = h

  stood : (key : Key) (bytes : List ℕ) (version : _) (t : ℕ) → Found bytes version t ≡ got_of now (found journal key) → last_put journal key ≡ Some bytes
  stood key bytes version t e =
      let s = got-found now (found journal key) bytes version t e in
      (sound journal key).last s.0 s.1 ∙ ap (λ (b : List ℕ). Some b) s.2

  absent-told : (key : Key) (t : ℕ) → IsWanted w key → Absent t ≡ got_of now (found journal key) → IsPassing journal (record w { absent = w.absent ++ key ∷ [] })
  absent-told key t wanted e = record {
    branches_name = h.branches_name;
    tags_name = h.tags_name;
    leases_name = h.leases_name;
    roots_known = h.roots_known;
    leased_known = h.leased_known;
    parents_known = h.parents_known;
    manifests_put = h.manifests_put;
    lost = λ q among apart. elim (Contains-push_cases w.absent key q among) [
      | inl old ↦ h.lost q old apart
      | inr same ↦
          let was = wanted-put key wanted (λ is. apart (sym same ∙ is)) in
          subst (IsLost journal) same (record { object = was.0; put = was.1; gone = got-absent now (found journal key) t e })
    ];
  }

  object-told : (key : Key) (got : Got) → IsWanted w key → got ≡ got_of now (found journal key) → IsPassing journal (told_object w key got)
  object-told (Snapshot id) (Found bytes version t) wanted e = read-told id bytes (stood (Snapshot id) bytes version t e) (snapshot_by id bytes) refl
  object-told (Manifest id) (Found bytes version t) wanted e = file-told (manifest_by id bytes)
  object-told (Txn id) (Found bytes version t) wanted e = absurd wanted
  object-told (Chunk id) (Found bytes version t) wanted e = absurd wanted
  object-told (Branch name) (Found bytes version t) wanted e = absurd wanted
  object-told (Tag name) (Found bytes version t) wanted e = absurd wanted
  object-told (Tombstone name) (Found bytes version t) wanted e = absurd wanted
  object-told (Lease id) (Found bytes version t) wanted e = absurd wanted
  object-told key (Absent t) wanted e = absent-told key t wanted e

  got-told : (key : Key) (got : Got) → MayGet w key → got ≡ got_of now (found journal key) → IsPassing journal (told_got w.branches w.tags w.leases w key got)
  got-told key got (branch f) e =
      subst (λ (o : Option (List Key)). IsPassing journal (told_got o w.tags w.leases w key got)) (sym f.1)
      (ref-got (Some f.0) w.tags w.leases (fewer-naming w.branches key f.0 f.1 h.branches_name) h.tags_name h.leases_name key (first-naming w.branches key f.0 f.1 h.branches_name) got e)
  got-told key got (tag all f) e =
      subst (λ (o : Option (List Key)). IsPassing journal (told_got o w.tags w.leases w key got)) (sym all)
      (subst (λ (o : Option (List Key)). IsPassing journal (told_got (Some []) o w.leases w key got)) (sym f.1)
      (ref-got w.branches (Some f.0) w.leases h.branches_name (fewer-naming w.tags key f.0 f.1 h.tags_name) h.leases_name key (first-naming w.tags key f.0 f.1 h.tags_name) got e))
  got-told key got (lease all every f) e =
      subst (λ (o : Option (List Key)). IsPassing journal (told_got o w.tags w.leases w key got)) (sym all)
      (subst (λ (o : Option (List Key)). IsPassing journal (told_got (Some []) o w.leases w key got)) (sym every)
      (subst (λ (o : Option (List Key)). IsPassing journal (told_got (Some []) (Some []) o w key got)) (sym f.1)
      (lease-got w.branches w.tags (Some f.0) h.branches_name h.tags_name (fewer-naming w.leases key f.0 f.1 h.leases_name) key (first-naming w.leases key f.0 f.1 h.leases_name) got e)))
  got-told key got (object refs none wanted) e =
      subst (λ (o : Option (List Key)). IsPassing journal (told_got o w.tags w.leases w key got)) (sym refs.0)
      (subst (λ (o : Option (List Key)). IsPassing journal (told_got (Some []) o w.leases w key got)) (sym refs.1)
      (subst (λ (o : Option (List Key)). IsPassing journal (told_got (Some []) (Some []) o w key got)) (sym refs.2) (object-told key got wanted e)))

  -- ---- listings
  listed-naming : (part : Part) (l : Listed) → IsListing (found journal) part l.entries → ((key : Key) → part_of key ≡ part → IsNotGone (found journal) key → IsNaming key) → AllNaming (Some (live l.entries))
  listed-naming part l listing naming keys e key k =
      let same : live l.entries ≡ keys = cc in
      let ref = (live-law (found journal) part l.entries listing key).0 (subst (λ (xs : List Key). HasKey xs key) (sym same) k) in
      naming key ref.part_is ref.not_gone

  listed-told : (part : Part) (l : Listed) → IsListing (found journal) part l.entries → IsPassing journal (told_listed cutoff w part l)
  listed-told Branches l listing = by_time (nat_lt l.now cutoff)
    where
      by_time : (b : Bool) → IsPassing journal (cond b (ended w) (record w { branches = Some (live l.entries) }))
      by_time true = h
      by_time false = left-told (Some (live l.entries)) w.tags w.leases (listed-naming Branches l listing (λ key e n. branch-naming key e)) h.tags_name h.leases_name
  listed-told Tags l listing = left-told w.branches (Some (live l.entries)) w.leases h.branches_name (listed-naming Tags l listing (λ key e n. tag-naming (found journal) key e n)) h.leases_name
  listed-told Leases l listing = left-told w.branches w.tags (Some (live l.entries)) h.branches_name h.tags_name (listed-naming Leases l listing (λ key e n. lease-naming key e))
  listed-told Snapshots l listing = h
  listed-told Txns l listing = h
  listed-told Manifests l listing = h
  listed-told Chunks l listing = h

  got-is : (g k : Got) → Is_got g ≡ Is_got k → g ≡ k
  got-is g k e = cc

  listed-is : (l m : Listed) → Is_listed l ≡ Is_listed m → l ≡ m
  listed-is l m e = cc

  told-passing : (n : ℕ) (op : Op) (reply : Reply) → MayDo cutoff w op → UnlessFailed (IsHonest (found journal) n now op) reply → IsPassing journal (told cutoff w op reply)
  told-passing n (Get key) (Is_got got) may honest = got-told key got may (got-is got (got_of now (found journal key)) honest)
  told-passing n (Get key) reply may honest = h
  told-passing n (ListPart part) (Is_listed l) may honest =
      let is = listed-is l (record { entries = honest.0; now = now }) honest.1 in
      listed-told part l (subst (λ (x : Listed). IsListing (found journal) part x.entries) (sym is) honest.2)
  told-passing n (ListPart part) reply may honest = h
  told-passing n (Remove key why) (Is_gone (Gone_done t)) may honest = h
  told-passing n (Remove key why) (Is_gone (Gone_absent t)) may honest = h
  told-passing n (Remove key why) reply may honest = h
  told-passing n (PutNew key bytes why) reply may honest = absurd may
  told-passing n (PutOver key bytes old why) reply may honest = absurd may
  told-passing n (RemoveAt key old why) reply may honest = absurd may

-- ---- what is lost stays so
pub lost-one : (journal : List Event) (event : Event) → IsFirst journal event → (key : Key) → key ≢ Snapshot initial_id → IsLost journal key → IsLost (journal ++ event ∷ []) key
lost-one journal event first key apart lost = record {
  object = lost.object;
  put = WasPut-append journal (event ∷ []) key lost.put;
  gone = elim (step-one journal event key) [
    | inl same ↦ ap (λ (s : Slot). s.stands) same ∙ lost.gone
    | inr put ↦ elim put [
      | inl new ↦ (let never = never-put journal new.bytes key lost.object apart (new-first journal event key (slot_of (journal ++ event ∷ []) key) first new) new.free in let was = lost.put.1 in cc)
      | inr over ↦ elim over [
        | inl moved ↦ (let e = moved.there in let f = lost.gone in cc)
        | inr gone ↦ ap (λ (s : Slot). s.stands) gone.slot_is
      ]
    ]
  ];
}

passing-on : (journal : List Event) (event : Event) → IsFirst journal event → (w : Walk) → IsPassing journal w → IsPassing (journal ++ event ∷ []) w
passing-on journal event first w h = record {
  branches_name = h.branches_name;
  tags_name = h.tags_name;
  leases_name = h.leases_name;
  roots_known = λ id r. known-append journal (event ∷ []) id (h.roots_known id r);
  leased_known = λ id r. known-append journal (event ∷ []) id (h.leased_known id r);
  parents_known = λ s id r p. known-append journal (event ∷ []) id (h.parents_known s id r p);
  manifests_put = λ s id r n. WasPut-append journal (event ∷ []) (Manifest id) (h.manifests_put s id r n);
  lost = λ key among apart. lost-one journal event first key apart (h.lost key among apart);
}

-- ---- along a journal
passing-at-first : (journal : List Event) → IsPassing journal fresh
passing-at-first journal = record {
  branches_name = λ keys e. absurd cc;
  tags_name = λ keys e. absurd cc;
  leases_name = λ keys e. absurd cc;
  roots_known = λ id r. absurd (omega (arith, r.1));
  leased_known = λ id r. absurd (omega (arith, r.1));
  parents_known = λ s id r p. absurd (omega (arith, r.1));
  manifests_put = λ s id r n. absurd (omega (arith, r.1));
  lost = λ key among apart. absurd (omega (arith, among.1));
}

module _ (initial : InitialLaw) (snaps : SnapshotLaw) (c : Collection) where
  passing-along : (journal more : List Event) → Behind c journal → IsGoodJournal journal → IsOnce journal → Past journal → Each IsGood journal more → Each IsFirst journal more → Each (OwesUntil c) journal more → IsPassing journal (walk_at c journal) → IsPassing (journal ++ more) (walk_at c (journal ++ more))
  unfolding Each
  passing-along journal [] behind goods once past good first owes h = subst (λ (j : List Event). IsPassing j (walk_at c j)) (sym (append-nil journal)) h
  passing-along journal (x ∷ xs) behind goods once past good first owes h =
      subst (λ (j : List Event). IsPassing j (walk_at c j)) (append_assoc journal (x ∷ []) xs)
      (passing-along (journal ++ x ∷ []) xs (behind-more c journal (x ∷ []) behind) (Each-append IsGood [] journal (x ∷ []) goods (Each-one IsGood journal x good.0)) (Each-append IsFirst [] journal (x ∷ []) once (Each-one IsFirst journal x first.0))
      (past-one initial journal x once good.0 first.0 past) good.1 first.1 owes.1
      (elim (walk-one c journal x behind) [
        | inl its ↦ subst (IsPassing (journal ++ x ∷ [])) (sym its.walk)
            (passing-on journal x first.0 (told c.cutoff (walk_at c journal) x.op x.reply)
            (told-passing snaps c.cutoff journal goods once past x.time (walk_at c journal) h (length journal) x.op x.reply (owes.0 its.client_is its.within).1 good.0.legal.answered))
        | inr same ↦ subst (IsPassing (journal ++ x ∷ [])) (sym same) (passing-on journal x first.0 (walk_at c journal) h)
      ]))

  -- what it found absent is lost
  pub lost-passed : (journal later : List Event) → IsListed c journal later → (key : Key) → Contains (walk_at c journal).absent key → key ≢ Snapshot initial_id → IsLost journal key
  lost-passed journal later h key among apart =
      let goods = Each-back IsGood [] c.start h.more (subst (λ (j : List Event). Each IsGood [] j) h.is h.good) in
      let firsts = Each-back IsFirst [] c.start h.more (subst (λ (j : List Event). Each IsFirst [] j) h.is h.once) in
      let owed = (Each-back (OwesUntil c) c.start h.more later h.owes).0 in
      let from : IsPassing c.start (walk_at c c.start) = subst (IsPassing c.start) (sym (walk-start c)) (passing-at-first c.start) in
      let end : IsPassing journal (walk_at c journal) = subst (λ (j : List Event). IsPassing j (walk_at c j)) (sym h.is) (passing-along c.start h.more ([], sym (append-nil c.start)) goods.0 firsts.0 (past-of initial c.start goods.0 firsts.0) goods.1 firsts.1 owed from) in
      end.lost key among apart
