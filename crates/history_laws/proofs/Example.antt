-- A journal in which a collection took an object, while a ref reaches a snapshot.
use Rattle.std.proofs.Common.{◌≡◌, ◌⊎◌, inl, inr, ℕ, zero, suc, ◌+◌, ◌<◌, ◌≤◌, ◌^◌, ltb, Bool, true, false, cond, List, [], ◌∷◌, ◌++◌, length, refl, sym, ◌∙◌, ap, subst, arith}
use Rattle.std.specs.Prelude.{Contains, slice_get, Option, Some, None}
use Rattle.std.specs.List.{All, list_all}
use Rattle.std.proofs.lemmas.Bool.{and_parts, ltb-true}
use Rattle.std.proofs.lemmas.List.Elements.{All-nil, All-cons}
use Rattle.std.proofs.lemmas.List.{length-append}
use Rattle.ice_base.specs.Names.{main_name}
use Rattle.ice_ids.specs.declared.Id12.{Id12}
use Rattle.ice_ids.specs.Text.{initial_id}
use Rattle.repo_objects.specs.Laws.{InitialLaw, RefLaw, initial_bytes}
use Rattle.repo_objects.specs.Readings.{snapshot_by, ref_of}
use Rattle.snapshot_file.specs.Initial.{initial_snapshot}
use Rattle.ref_file.specs.Refs.{ref_bytes}
use Rattle.object_store.specs.declared.keys.Key.{Key}
use Rattle.object_store.specs.declared.keys.Key.TheVariants.{Snapshot, Manifest, Txn, Chunk, Branch, Tag, Tombstone, Lease}
use Rattle.object_store.specs.declared.keys.Part.{Part}
use Rattle.object_store.specs.declared.keys.Part.TheVariants.{Snapshots, Manifests, Txns, Chunks, Branches, Tags, Leases}
use Rattle.object_store.specs.declared.keys.Why.{Why}
use Rattle.object_store.specs.declared.keys.Why.TheVariants.{Init, Set, Collect}
use Rattle.object_store.specs.declared.events.Op.{Op}
use Rattle.object_store.specs.declared.events.Op.TheVariants.{Get, PutNew, PutOver, Remove, RemoveAt, List as ListPart}
use Rattle.object_store.specs.declared.events.Got.TheVariants.{Found}
use Rattle.object_store.specs.declared.events.New.TheVariants.{Done as New_done}
use Rattle.object_store.specs.declared.events.Gone.TheVariants.{Done as Gone_done}
use Rattle.object_store.specs.declared.events.Entry.{Entry}
use Rattle.object_store.specs.declared.events.Reply.{Reply}
use Rattle.object_store.specs.declared.events.Reply.TheVariants.{Got as Is_got, New as Is_new, Gone as Is_gone, Listed as Is_listed}
use Rattle.object_store.specs.declared.events.Event.{Event}
use Rattle.object_store.specs.Machine.{Stored, Slot, slot_of, through, effect, leaves, found, last_time, same_key, part_of, is_on, got_of, new_of, gone_of, version_at, IsEntry, IsListing, IsHonest, UnlessFailed}
use Rattle.object_store.proofs.Journals.{Each-append, Each-one, Each-none}
use Rattle.object_store.proofs.Slots.{same_key-refl, same_key-true, slot-append_one, slot-none, sound, WasPut-append, effect-cases}
use Rattle.store_api.specs.Journal.{Each, IsUnused, ManifestsPut, IsFirst, IsFirstOp, IsGood, IsGoodJournal, IsOnce, IsPolite, PutsFirst, WasPut}
use Rattle.std.proofs.lemmas.Option.{slice_get-get_or}
use Rattle.store_api.proofs.Puts.{snapshot-polite}
use Rattle.collecting.specs.Marks.{MarkedBy, first, first_log, root, log, parent, manifest, chunk, FoundBy, named, below}
use Rattle.collecting.specs.Walks.{Walk, fresh, IsClosed, Doomed, branch, May, with_root, told}
use Rattle.history_laws.specs.Refs.{Points, makes_branch, makes_tag, resets, Commits, Removes}
use Rattle.history_laws.specs.Collections.{Collection, walk_at, OwesUntil, DoomedBy, CommitsOwn, IsQuiet, IsCollected, Collects, OnlyCollects, CommitsLater, LeavesLost, AreCollected}
use Rattle.history_laws.specs.Laws.{TookOne}
use Rattle.history_laws.proofs.Steps.{RemovesAt, step-one}
use Rattle.history_laws.proofs.Walking.{Behind, its-own, walk-start}
use Rattle.history_laws.proofs.Found.{never-lost, nothing-missing}
use Rattle.history_laws.proofs.Past.{last_time-one}
use Rattle.history_laws.proofs.Young.{put-stands}

-- ---- journals by what stands
-- a legal polite journal that puts nothing again, of this length and last time, in which this stands
record IsAt (journal : List Event) (n last : ℕ) (at : Key → Option Stored) : Type 0 where
  good : IsGoodJournal journal
  once : IsOnce journal
  long : length journal ≡ n
  time : last_time journal ≡ last
  stands : (key : Key) → found journal key ≡ at key

abbrev nothing : Key → Option Stored
nothing key = None

at-none : IsAt [] 0 0 nothing
at-none = record { good = Each-none IsGood []; once = Each-none IsFirst []; long = refl; time = refl; stands = λ key. ap (λ (s : Slot). s.stands) (slot-none key) }

-- with what an event leaves
abbrev with : Key → Option Stored → (Key → Option Stored) → Key → Option Stored
with key s at other = cond (same_key key other) s (at other)

abbrev event : ℕ → ℕ → Op → Reply → Event
event client time op reply = record { client = client; op = op; reply = reply; time = time }

removed : (key : Key) (client time : ℕ) (slot : Slot) (m : ℕ) → effect key m slot (event client time (Remove key Collect) (Is_gone (Gone_done time))) ≡ record slot { stands = None }
unfolding effect
removed key client time slot m = ap (λ (b : Bool). cond b (record slot { stands = None }) slot) (same_key-refl key)

module _ (journal : List Event) (n last : ℕ) (at : Key → Option Stored) (h : IsAt journal n last at) (client time : ℕ) (later : last ≤ time) (fits : time < 2 ^ 64) where
  -- an event that is no operation on a key leaves it
  untouched : (op : Op) (reply : Reply) (key : Key) → is_on key op ≡ false → found (journal ++ event client time op reply ∷ []) key ≡ at key
  untouched op reply key off =
      ap (λ (s : Slot). s.stands) (slot-append_one journal (event client time op reply) key)
      ∙ (effect-cases (λ (s : Slot). s.stands ≡ found journal key) key (length journal) (slot_of journal key) (event client time op reply) refl (λ on d. cc)
      ∙ h.stands key)

  -- a put where nothing stood
  at-put : (key : Key) (bytes : List ℕ) (why : Why) → at key ≡ None → IsPolite journal (PutNew key bytes why) → PutsFirst journal bytes key
      → IsAt (journal ++ event client time (PutNew key bytes why) (Is_new (New_done (version_at n) time)) ∷ []) (n + 1) time (with key (Some (record { bytes = bytes; version = n; created = time })) at)
  at-put key bytes why free polite puts = record {
    good = Each-append IsGood [] journal (put ∷ []) h.good (Each-one IsGood journal put (record { legal = record { later = let t = h.time in omega (arith, later, t); fits = fits; answered = answer }; polite = polite }));
    once = Each-append IsFirst [] journal (put ∷ []) h.once (Each-one IsFirst journal put (λ d. puts));
    long = length-append journal (put ∷ []) ∙ ap (λ (k : ℕ). k + 1) h.long;
    time = last_time-one journal put;
    stands = λ other. by_key other (same_key key other) refl;
  }
    where
      put : Event
      put = event client time (PutNew key bytes why) (Is_new (New_done (version_at n) time))

      none : found journal key ≡ None
      none = h.stands key ∙ free

      answer : Is_new (New_done (version_at n) time) ≡ Is_new (new_of (length journal) time (found journal key))
      answer = sym (ap (λ (o : Option Stored). Is_new (new_of (length journal) time o)) none ∙ ap (λ (k : ℕ). Is_new (New_done (version_at k) time)) h.long)

      by_key : (other : Key) (b : Bool) → same_key key other ≡ b → found (journal ++ put ∷ []) other ≡ cond b (Some (record { bytes = bytes; version = n; created = time })) (at other)
      by_key other true e =
          let same : key ≡ other = same_key-true key other e in
          let slot = put-stands journal put key bytes why refl refl none in
          subst (λ (k : Key). found (journal ++ put ∷ []) k ≡ Some (record { bytes = bytes; version = n; created = time })) same
          (ap (λ (s : Slot). s.stands) slot ∙ ap (λ (k : ℕ). Some (record { bytes = bytes; version = k; created = time })) h.long)
      by_key other false e = untouched (PutNew key bytes why) (Is_new (New_done (version_at n) time)) other e

  -- an operation that changes nothing
  abbrev Reads : Op → Type 0
  Reads op = (m t : ℕ) (slot : Slot) → leaves m t op slot ≡ slot

  at-read : (op : Op) (reply : Reply) → Reads op → IsPolite journal op → IsFirstOp journal op → UnlessFailed (IsHonest (found journal) (length journal) time op) reply → IsAt (journal ++ event client time op reply ∷ []) (n + 1) time at
  at-read op reply reads polite firsts honest = record {
    good = Each-append IsGood [] journal (read ∷ []) h.good (Each-one IsGood journal read (record { legal = record { later = let t = h.time in omega (arith, later, t); fits = fits; answered = honest }; polite = polite }));
    once = Each-append IsFirst [] journal (read ∷ []) h.once (Each-one IsFirst journal read (λ d. firsts));
    long = length-append journal (read ∷ []) ∙ ap (λ (k : ℕ). k + 1) h.long;
    time = last_time-one journal read;
    stands = λ key. ap (λ (s : Slot). s.stands) (slot-append_one journal read key)
        ∙ (effect-cases (λ (s : Slot). s.stands ≡ found journal key) key (length journal) (slot_of journal key) read refl (λ on d. ap (λ (s : Slot). s.stands) (reads (length journal) time (slot_of journal key)))
        ∙ h.stands key);
  }
    where
      read : Event
      read = event client time op reply

  at-list : (part : Part) (entries : List Entry) → IsListing at part entries → IsAt (journal ++ event client time (ListPart part) (Is_listed (record { entries = entries; now = time })) ∷ []) (n + 1) time at
  at-list part entries l = at-read (ListPart part) (Is_listed (record { entries = entries; now = time })) (λ m t slot. refl) tt tt (
    entries,
    refl,
    record {
      right = λ k e is. let r = l.right k e is in record { stored = r.stored; stands = h.stands e.key ∙ r.stands; part_is = r.part_is; size = r.size; created = r.created };
      whole = λ key s p e. l.whole key s p (sym (h.stands key) ∙ e);
      ascending = l.ascending;
    },
  )

  at-get : (key : Key) (s : Stored) → at key ≡ Some s → IsAt (journal ++ event client time (Get key) (Is_got (Found s.bytes (version_at s.version) time)) ∷ []) (n + 1) time at
  at-get key s e = at-read (Get key) (Is_got (Found s.bytes (version_at s.version) time)) (λ m t slot. refl) tt tt (sym (ap (λ (o : Option Stored). Is_got (got_of time o)) (h.stands key ∙ e)))

  at-remove : (key : Key) (s : Stored) → at key ≡ Some s → IsPolite journal (Remove key Collect) → IsAt (journal ++ event client time (Remove key Collect) (Is_gone (Gone_done time)) ∷ []) (n + 1) time (with key None at)
  at-remove key s there polite = record {
    good = Each-append IsGood [] journal (gone ∷ []) h.good (Each-one IsGood journal gone (record { legal = record { later = let t = h.time in omega (arith, later, t); fits = fits; answered = sym (ap (λ (o : Option Stored). Is_gone (gone_of time o)) (h.stands key ∙ there)) }; polite = polite }));
    once = Each-append IsFirst [] journal (gone ∷ []) h.once (Each-one IsFirst journal gone (λ d. tt));
    long = length-append journal (gone ∷ []) ∙ ap (λ (k : ℕ). k + 1) h.long;
    time = last_time-one journal gone;
    stands = λ other. by_key other (same_key key other) refl;
  }
    where
      gone : Event
      gone = event client time (Remove key Collect) (Is_gone (Gone_done time))

      by_key : (other : Key) (b : Bool) → same_key key other ≡ b → found (journal ++ gone ∷ []) other ≡ cond b None (at other)
      by_key other true e = subst (λ (k : Key). found (journal ++ gone ∷ []) k ≡ None) (same_key-true key other e) (ap (λ (s : Slot). s.stands) (slot-append_one journal gone key ∙ removed key client time (slot_of journal key) (length journal)))
      by_key other false e = untouched (Remove key Collect) (Is_gone (Gone_done time)) other e

-- ---- listings
no-entry : {A : Type 0} (k : ℕ) (e : Entry) → slice_get [] k ≡ Some e → A
no-entry k e is = absurd cc

lists-none : (at : Key → Option Stored) (part : Part) → ((key : Key) → part_of key ≡ part → at key ≡ None) → IsListing at part []
lists-none at part none = record {
  right = λ k e is. no-entry k e is;
  whole = λ key s p e. (let n = none key p in cc);
  ascending = λ j k d e l is more. no-entry j d is;
}

abbrev entry : Key → Stored → Entry
entry key s = record { key = key; size = length s.bytes; created = s.created }

first-entry : (x e : Entry) (k : ℕ) → slice_get (x ∷ []) k ≡ Some e → (k ≡ 0) × (x ≡ e)
first-entry x e zero is = (refl, cc)
first-entry x e (suc k) is = no-entry k e is

lists-one : (at : Key → Option Stored) (part : Part) (key : Key) (s : Stored) → part_of key ≡ part → at key ≡ Some s → ((other : Key) (t : Stored) → part_of other ≡ part → at other ≡ Some t → key ≡ other) → IsListing at part (entry key s ∷ [])
lists-one at part key s p there one = record {
  right = λ k e is. subst (λ (x : Entry). IsEntry at part x) (first-entry (entry key s) e k is).1 (record { stored = s; stands = there; part_is = p; size = refl; created = refl });
  whole = λ other t q e. record { place = 0; entry = entry key s; here = refl; same = one other t q e };
  ascending = λ j k d e l is more. let a = (first-entry (entry key s) d j is).0 in let b = (first-entry (entry key s) e k more).0 in absurd (omega (arith, l, a, b));
}

-- ---- events of no kind
each-all : (P : List Event → Event → Type 0) → ((before : List Event) (x : Event) → P before x) → (old xs : List Event) → Each P old xs
unfolding Each
each-all P all old [] = tt
each-all P all old (x ∷ xs) = (all old x, each-all P all (old ++ x ∷ []) xs)

-- what removes something is a removal
removes-op : (before : List Event) (x : Event) (key : Key) → Removes before x key → RemovesAt key x.op
removes-op before x key r = elim (step-one before x key) [
  | inl same ↦ (let e = r.stands in let f = r.gone in let g : found (before ++ x ∷ []) key ≡ found before key = ap (λ (s : Slot). s.stands) same in cc)
  | inr put ↦ elim put [
    | inl new ↦ (let e = ap (λ (s : Slot). s.stands) new.slot_is in let f = r.gone in cc)
    | inr over ↦ elim over [
      | inl moved ↦ (let e = ap (λ (s : Slot). s.stands) moved.slot_is in let f = r.gone in cc)
      | inr gone ↦ gone.removes
    ]
  ]
]

abbrev IsReading : Op → Type 0
IsReading (Get key) = Unit {0}
IsReading (ListPart part) = Unit {0}
IsReading (PutNew key bytes why) = ⊥
IsReading (PutOver key bytes old why) = ⊥
IsReading (Remove key why) = ⊥
IsReading (RemoveAt key old why) = ⊥

abbrev IsNoPut : Op → Type 0
IsNoPut (Get key) = Unit {0}
IsNoPut (ListPart part) = Unit {0}
IsNoPut (PutNew key bytes why) = ⊥
IsNoPut (PutOver key bytes old why) = ⊥
IsNoPut (Remove key why) = Unit {0}
IsNoPut (RemoveAt key old why) = Unit {0}

no-points : (before : List Event) (x : Event) (id : Id12) → IsNoPut x.op → Points before x id → ⊥
no-points before x id none (makes_branch name bytes op done free e) = subst IsNoPut op none
no-points before x id none (makes_tag name bytes op done free e) = subst IsNoPut op none
no-points before x id none (resets name bytes old s op done there version e) = subst IsNoPut op none

no-commit : (before : List Event) (x : Event) (base id : Id12) → IsNoPut x.op → Commits before x base id → ⊥
no-commit before x base id none k = subst IsNoPut k.op_is none

-- ---- what is marked where the initial snapshot alone is a root
root-is : (roots : List Id12) (id : Id12) → roots ≡ initial_id ∷ [] → Contains roots id → id ≡ initial_id
root-is roots id e c = at c.0 c.1 (subst (λ (xs : List Id12). slice_get xs c.0 ≡ Some id) e (slice_get-get_or roots c.0 id c.1 ∙ ap (λ (y : Id12). Some y) c.2))
  where
    at : (k : ℕ) → k < length roots → slice_get (initial_id ∷ []) k ≡ Some id → id ≡ initial_id
    at zero l is = (let same : initial_id ≡ id = cc in sym same)
    at (suc k) l is = cc

only-initial : {key : Key} → MarkedBy (initial_id ∷ []) [] [] key → (key ≡ Snapshot initial_id) ⊎ (key ≡ Txn initial_id)
only-initial first = inl refl
only-initial first_log = inr refl
only-initial (root {id = id} h) = inl (ap Snapshot (root-is (initial_id ∷ []) id refl h))
only-initial (log s h m) = absurd (omega (arith, h.1))
only-initial (parent s h m e) = absurd (omega (arith, h.1))
only-initial (manifest s h m n) = absurd (omega (arith, h.1))
only-initial (chunk s f h m n g o) = absurd (omega (arith, h.1))

only-found : {id : Id12} → FoundBy (initial_id ∷ []) [] id → id ≡ initial_id
only-found (named {id = id} h) = root-is (initial_id ∷ []) id refl h
only-found (below s h f e) = absurd (omega (arith, h.1))

-- ---- the journal
module _ (initial : InitialLaw) (i : List ℕ) (i_is : i ≡ initial_bytes) (r : List ℕ) (names : ref_of r ≡ Some initial_id) where
  abbrev garbage : Id12
  garbage = record { 0 = [] }

  abbrev s0 : Stored
  s0 = record { bytes = i; version = 0; created = 0 }

  abbrev s1 : Stored
  s1 = record { bytes = r; version = 1; created = 0 }

  abbrev s2 : Stored
  s2 = record { bytes = []; version = 2; created = 0 }

  abbrev e0 : Event
  e0 = event 0 0 (PutNew (Snapshot initial_id) i Init) (Is_new (New_done (version_at 0) 0))

  abbrev e1 : Event
  e1 = event 0 0 (PutNew (Branch main_name) r Init) (Is_new (New_done (version_at 1) 0))

  abbrev e2 : Event
  e2 = event 0 0 (PutNew (Chunk garbage) [] Set) (Is_new (New_done (version_at 2) 0))

  abbrev lists : Part → List Entry → Event
  lists part entries = event 1 9 (ListPart part) (Is_listed (record { entries = entries; now = 9 }))

  abbrev start : List Event
  start = e0 ∷ e1 ∷ e2 ∷ []

  abbrev l1 : Event
  l1 = lists Branches (entry (Branch main_name) s1 ∷ [])

  abbrev g1 : Event
  g1 = event 1 9 (Get (Branch main_name)) (Is_got (Found r (version_at 1) 9))

  abbrev l2 : Event
  l2 = lists Tags []

  abbrev ll : Event
  ll = lists Leases []

  abbrev l3 : Event
  l3 = lists Snapshots (entry (Snapshot initial_id) s0 ∷ [])

  abbrev l4 : Event
  l4 = lists Txns []

  abbrev l5 : Event
  l5 = lists Manifests []

  abbrev l6 : Event
  l6 = lists Chunks (entry (Chunk garbage) s2 ∷ [])

  abbrev gone : Event
  gone = event 1 9 (Remove (Chunk garbage) Collect) (Is_gone (Gone_done 9))

  abbrev its : List Event
  its = l1 ∷ g1 ∷ l2 ∷ ll ∷ l3 ∷ l4 ∷ l5 ∷ l6 ∷ gone ∷ []

  abbrev at1 : Key → Option Stored
  at1 = with (Snapshot initial_id) (Some s0) nothing

  abbrev at2 : Key → Option Stored
  at2 = with (Branch main_name) (Some s1) at1

  abbrev at3 : Key → Option Stored
  at3 = with (Chunk garbage) (Some s2) at2

  read : snapshot_by initial_id i ≡ Some initial_snapshot
  read = ap (snapshot_by initial_id) i_is ∙ initial

  first-puts : PutsFirst [] i (Snapshot initial_id)
  first-puts = record {
    initial = λ e. i_is;
    other = λ apart f. absurd (apart refl);
    named = subst (ManifestsPut []) (sym read) (λ id n. absurd (omega (arith, n.among.1)));
  }

  is1 : IsAt (e0 ∷ []) 1 0 at1
  is1 = at-put [] 0 0 nothing at-none 0 0 (omega arith) (omega arith) (Snapshot initial_id) i Init refl (snapshot-polite initial [] i i_is) first-puts

  there0 : at1 (Snapshot initial_id) ≡ Some s0
  there0 = ap (λ (b : Bool). cond b (Some s0) None) (same_key-refl (Snapshot initial_id))

  put0 : WasPut (e0 ∷ []) (Snapshot initial_id)
  put0 = (sound (e0 ∷ []) (Snapshot initial_id)).first s0 (is1.stands (Snapshot initial_id) ∙ there0)

  is2 : IsAt (e0 ∷ e1 ∷ []) 2 0 at2
  is2 = at-put (e0 ∷ []) 1 0 at1 is1 0 0 (omega arith) (omega arith) (Branch main_name) r Init refl (record { id = initial_id; reference = names; put = put0 }, inr (refl, refl, names)) tt

  unused : IsUnused (e0 ∷ e1 ∷ []) (Chunk garbage)
  unfolding slot_of through effect
  unused = λ free. refl

  is3 : IsAt start 3 0 at3
  is3 = at-put (e0 ∷ e1 ∷ []) 2 0 at2 is2 0 0 (omega arith) (omega arith) (Chunk garbage) [] Set refl tt unused

  -- ---- what is listed
  branch-there : at3 (Branch main_name) ≡ Some s1
  branch-there = ap (λ (b : Bool). cond b (Some s1) (at1 (Branch main_name))) (same_key-refl (Branch main_name))

  chunk-there : at3 (Chunk garbage) ≡ Some s2
  chunk-there = ap (λ (b : Bool). cond b (Some s2) (at2 (Chunk garbage))) (same_key-refl (Chunk garbage))

  one-by : (key other : Key) (s t : Stored) (b : Bool) → same_key key other ≡ b → cond b (Some s) None ≡ Some t → key ≡ other
  one-by key other s t true e f = same_key-true key other e
  one-by key other s t false e f = cc

  one-branch : (other : Key) (t : Stored) → part_of other ≡ Branches → at3 other ≡ Some t → Branch main_name ≡ other
  one-branch (Branch name) t p e = one-by (Branch main_name) (Branch name) s1 t (same_key (Branch main_name) (Branch name)) refl e
  one-branch (Snapshot x) t p e = cc
  one-branch (Manifest x) t p e = cc
  one-branch (Txn x) t p e = cc
  one-branch (Chunk x) t p e = cc
  one-branch (Tag x) t p e = cc
  one-branch (Tombstone x) t p e = cc
  one-branch (Lease x) t p e = cc

  one-snapshot : (other : Key) (t : Stored) → part_of other ≡ Snapshots → at3 other ≡ Some t → Snapshot initial_id ≡ other
  one-snapshot (Snapshot x) t p e = one-by (Snapshot initial_id) (Snapshot x) s0 t (same_key (Snapshot initial_id) (Snapshot x)) refl e
  one-snapshot (Branch x) t p e = cc
  one-snapshot (Manifest x) t p e = cc
  one-snapshot (Txn x) t p e = cc
  one-snapshot (Chunk x) t p e = cc
  one-snapshot (Tag x) t p e = cc
  one-snapshot (Tombstone x) t p e = cc
  one-snapshot (Lease x) t p e = cc

  one-chunk : (other : Key) (t : Stored) → part_of other ≡ Chunks → at3 other ≡ Some t → Chunk garbage ≡ other
  one-chunk (Chunk x) t p e = one-by (Chunk garbage) (Chunk x) s2 t (same_key (Chunk garbage) (Chunk x)) refl e
  one-chunk (Branch x) t p e = cc
  one-chunk (Manifest x) t p e = cc
  one-chunk (Txn x) t p e = cc
  one-chunk (Snapshot x) t p e = cc
  one-chunk (Tag x) t p e = cc
  one-chunk (Tombstone x) t p e = cc
  one-chunk (Lease x) t p e = cc

  no-tag : (key : Key) → part_of key ≡ Tags → at3 key ≡ None
  no-tag (Tag x) p = refl
  no-tag (Tombstone x) p = refl
  no-tag (Branch x) p = cc
  no-tag (Snapshot x) p = cc
  no-tag (Manifest x) p = cc
  no-tag (Txn x) p = cc
  no-tag (Chunk x) p = cc
  no-tag (Lease x) p = cc

  no-lease : (key : Key) → part_of key ≡ Leases → at3 key ≡ None
  no-lease (Lease x) p = refl
  no-lease (Tag x) p = cc
  no-lease (Tombstone x) p = cc
  no-lease (Branch x) p = cc
  no-lease (Snapshot x) p = cc
  no-lease (Manifest x) p = cc
  no-lease (Txn x) p = cc
  no-lease (Chunk x) p = cc

  no-log : (key : Key) → part_of key ≡ Txns → at3 key ≡ None
  no-log (Txn x) p = refl
  no-log (Tag x) p = cc
  no-log (Tombstone x) p = cc
  no-log (Branch x) p = cc
  no-log (Snapshot x) p = cc
  no-log (Manifest x) p = cc
  no-log (Chunk x) p = cc
  no-log (Lease x) p = cc

  no-manifest : (key : Key) → part_of key ≡ Manifests → at3 key ≡ None
  no-manifest (Manifest x) p = refl
  no-manifest (Tag x) p = cc
  no-manifest (Tombstone x) p = cc
  no-manifest (Branch x) p = cc
  no-manifest (Snapshot x) p = cc
  no-manifest (Txn x) p = cc
  no-manifest (Chunk x) p = cc
  no-manifest (Lease x) p = cc

  abbrev j4 : List Event
  j4 = start ++ l1 ∷ []

  abbrev j5 : List Event
  j5 = j4 ++ g1 ∷ []

  abbrev j6 : List Event
  j6 = j5 ++ l2 ∷ []

  abbrev jl : List Event
  jl = j6 ++ ll ∷ []

  abbrev j7 : List Event
  j7 = jl ++ l3 ∷ []

  abbrev j8 : List Event
  j8 = j7 ++ l4 ∷ []

  abbrev j9 : List Event
  j9 = j8 ++ l5 ∷ []

  abbrev j10 : List Event
  j10 = j9 ++ l6 ∷ []

  abbrev whole : List Event
  whole = j10 ++ gone ∷ []

  is4 : IsAt j4 4 9 at3
  is4 = at-list start 3 0 at3 is3 1 9 (omega arith) (omega arith) Branches (entry (Branch main_name) s1 ∷ []) (lists-one at3 Branches (Branch main_name) s1 refl branch-there one-branch)

  is5 : IsAt j5 5 9 at3
  is5 = at-get j4 4 9 at3 is4 1 9 (omega arith) (omega arith) (Branch main_name) s1 branch-there

  is6 : IsAt j6 6 9 at3
  is6 = at-list j5 5 9 at3 is5 1 9 (omega arith) (omega arith) Tags [] (lists-none at3 Tags no-tag)

  isl : IsAt jl 7 9 at3
  isl = at-list j6 6 9 at3 is6 1 9 (omega arith) (omega arith) Leases [] (lists-none at3 Leases no-lease)

  is7 : IsAt j7 8 9 at3
  is7 = at-list jl 7 9 at3 isl 1 9 (omega arith) (omega arith) Snapshots (entry (Snapshot initial_id) s0 ∷ []) (lists-one at3 Snapshots (Snapshot initial_id) s0 refl there0 one-snapshot)

  is8 : IsAt j8 9 9 at3
  is8 = at-list j7 8 9 at3 is7 1 9 (omega arith) (omega arith) Txns [] (lists-none at3 Txns no-log)

  is9 : IsAt j9 10 9 at3
  is9 = at-list j8 9 9 at3 is8 1 9 (omega arith) (omega arith) Manifests [] (lists-none at3 Manifests no-manifest)

  is10 : IsAt j10 11 9 at3
  is10 = at-list j9 10 9 at3 is9 1 9 (omega arith) (omega arith) Chunks (entry (Chunk garbage) s2 ∷ []) (lists-one at3 Chunks (Chunk garbage) s2 refl chunk-there one-chunk)

  is11 : IsAt whole 12 9 (with (Chunk garbage) None at3)
  is11 = at-remove j10 11 9 at3 is10 1 9 (omega arith) (omega arith) (Chunk garbage) s2 chunk-there refl

  -- ---- the collection
  abbrev c : Collection
  c = record { cutoff = 5; client = 1; start = start; stop = 20 }

  -- what it knows when so many listings were made
  abbrev knows : (branches tags leases : Option (List Key)) → List Id12 → ℕ → List Entry → Walk
  knows branches tags leases roots n listed = record { branches = branches; tags = tags; leases = leases; roots = roots; leased = []; reads = []; files = []; absent = []; lists = n; listed = listed; answered = []; removed = []; over = false }

  abbrev done : List Entry → ℕ → Walk
  done listed n = knows (Some []) (Some []) (Some []) (initial_id ∷ []) n listed

  step : (journal : List Event) (x : Event) (w v : Walk) → Behind c journal → x.client ≡ 1 → length journal < 20 → walk_at c journal ≡ w → told 5 w x.op x.reply ≡ v → walk_at c (journal ++ x ∷ []) ≡ v
  step journal x w v behind client within is told_is = (its-own c journal x behind client within).walk ∙ (ap (λ (u : Walk). told 5 u x.op x.reply) is ∙ told_is)

  k4 : walk_at c j4 ≡ knows (Some (Branch main_name ∷ [])) None None [] 0 []
  k4 = step start l1 fresh (knows (Some (Branch main_name ∷ [])) None None [] 0 []) ([], refl) refl (omega arith) (walk-start c) refl

  k5 : walk_at c j5 ≡ knows (Some []) None None (initial_id ∷ []) 0 []
  k5 = step j4 g1 (knows (Some (Branch main_name ∷ [])) None None [] 0 []) (knows (Some []) None None (initial_id ∷ []) 0 []) (l1 ∷ [], refl) refl (omega arith) k4 (ap (with_root (knows (Some []) None None [] 0 [])) names)

  k6 : walk_at c j6 ≡ knows (Some []) (Some []) None (initial_id ∷ []) 0 []
  k6 = step j5 l2 (knows (Some []) None None (initial_id ∷ []) 0 []) (knows (Some []) (Some []) None (initial_id ∷ []) 0 []) (l1 ∷ g1 ∷ [], refl) refl (omega arith) k5 refl

  kl : walk_at c jl ≡ done [] 0
  kl = step j6 ll (knows (Some []) (Some []) None (initial_id ∷ []) 0 []) (done [] 0) (l1 ∷ g1 ∷ l2 ∷ [], refl) refl (omega arith) k6 refl

  k7 : walk_at c j7 ≡ done (entry (Snapshot initial_id) s0 ∷ []) 1
  k7 = step jl l3 (done [] 0) (done (entry (Snapshot initial_id) s0 ∷ []) 1) (l1 ∷ g1 ∷ l2 ∷ ll ∷ [], refl) refl (omega arith) kl refl

  k8 : walk_at c j8 ≡ done (entry (Snapshot initial_id) s0 ∷ []) 2
  k8 = step j7 l4 (done (entry (Snapshot initial_id) s0 ∷ []) 1) (done (entry (Snapshot initial_id) s0 ∷ []) 2) (l1 ∷ g1 ∷ l2 ∷ ll ∷ l3 ∷ [], refl) refl (omega arith) k7 refl

  k9 : walk_at c j9 ≡ done (entry (Snapshot initial_id) s0 ∷ []) 3
  k9 = step j8 l5 (done (entry (Snapshot initial_id) s0 ∷ []) 2) (done (entry (Snapshot initial_id) s0 ∷ []) 3) (l1 ∷ g1 ∷ l2 ∷ ll ∷ l3 ∷ l4 ∷ [], refl) refl (omega arith) k8 refl

  abbrev all : List Entry
  all = entry (Snapshot initial_id) s0 ∷ entry (Chunk garbage) s2 ∷ []

  k10 : walk_at c j10 ≡ done all 4
  k10 = step j9 l6 (done (entry (Snapshot initial_id) s0 ∷ []) 3) (done all 4) (l1 ∷ g1 ∷ l2 ∷ ll ∷ l3 ∷ l4 ∷ l5 ∷ [], refl) refl (omega arith) k9 refl

  k11 : walk_at c whole ≡ record (done all 4) { answered = Chunk garbage ∷ []; removed = Chunk garbage ∷ [] }
  k11 = step j10 gone (done all 4) (record (done all 4) { answered = Chunk garbage ∷ []; removed = Chunk garbage ∷ [] }) (l1 ∷ g1 ∷ l2 ∷ ll ∷ l3 ∷ l4 ∷ l5 ∷ l6 ∷ [], refl) refl (omega arith) k10 refl

  closed : (listed : List Entry) (n : ℕ) → IsClosed (done listed n)
  closed listed n = record {
    needed = record {
      snapshots = λ id f. inl (only-found f);
      manifests = λ id n. absurd (let l = n.read.1 in omega (arith, l));
    };
    all = record {
      snapshots = λ id m. elim (only-initial m) [ inl e ↦ inl (let same : id ≡ initial_id = cc in same) | inr e ↦ cc ];
      manifests = λ id n. absurd (let l = n.read.1 in omega (arith, l));
    };
  }

  unmarked : MarkedBy (initial_id ∷ []) [] [] (Chunk garbage) → ⊥
  unmarked m = elim (only-initial m) [ inl e ↦ cc | inr e ↦ cc ]

  doomed : Doomed 5 (done all 4) (Chunk garbage)
  doomed = record { whole = refl; entry = entry (Chunk garbage) s2; listed = (1, omega arith, refl); key_is = refl; object = tt; old = omega arith; unmarked = unmarked }

  owed : (journal : List Event) (x : Event) (w : Walk) → walk_at c journal ≡ w → May 5 w x.op → OwesUntil c journal x
  owed journal x w is may e within = subst (λ (u : Walk). May 5 u x.op) (sym is) may

  -- a fact of each of its events
  by-each : (P : List Event → Event → Type 0) → P start l1 → P j4 g1 → P j5 l2 → P j6 ll → P jl l3 → P j7 l4 → P j8 l5 → P j9 l6 → P j10 gone → Each P start its
  unfolding Each
  by-each P a1 a2 a3 a4 a5 a6 a7 a8 a9 = (a1, (a2, (a3, (a4, (a5, (a6, (a7, (a8, (a9, tt)))))))))

  owes : Each (OwesUntil c) start its
  owes = by-each (OwesUntil c)
      (owed start l1 fresh (walk-start c) (refl, refl))
      (owed j4 g1 (knows (Some (Branch main_name ∷ [])) None None [] 0 []) k4 (refl, branch ([], refl)))
      (owed j5 l2 (knows (Some []) None None (initial_id ∷ []) 0 []) k5 (refl, (refl, refl)))
      (owed j6 ll (knows (Some []) (Some []) None (initial_id ∷ []) 0 []) k6 (refl, (refl, refl, refl)))
      (owed jl l3 (done [] 0) kl (refl, ((refl, refl, refl), refl, closed [] 0)))
      (owed j7 l4 (done (entry (Snapshot initial_id) s0 ∷ []) 1) k7 (refl, ((refl, refl, refl), refl, closed (entry (Snapshot initial_id) s0 ∷ []) 1)))
      (owed j8 l5 (done (entry (Snapshot initial_id) s0 ∷ []) 2) k8 (refl, ((refl, refl, refl), refl, closed (entry (Snapshot initial_id) s0 ∷ []) 2)))
      (owed j9 l6 (done (entry (Snapshot initial_id) s0 ∷ []) 3) k9 (refl, ((refl, refl, refl), refl, closed (entry (Snapshot initial_id) s0 ∷ []) 3)))
      (owed j10 gone (done all 4) k10 (refl, (refl, (refl, refl, refl), doomed)))

  collected : IsCollected c whole []
  collected = record {
    listed = record { good = is11.good; once = is11.once; more = its; is = refl; owes = owes; listed = ap (λ (w : Walk). w.lists) k11 };
    own = by-each (CommitsOwn c)
        (λ b base id k. absurd (no-commit start l1 base id tt k)) (λ b base id k. absurd (no-commit j4 g1 base id tt k)) (λ b base id k. absurd (no-commit j5 l2 base id tt k)) (λ b base id k. absurd (no-commit j6 ll base id tt k)) (λ b base id k. absurd (no-commit jl l3 base id tt k))
        (λ b base id k. absurd (no-commit j7 l4 base id tt k)) (λ b base id k. absurd (no-commit j8 l5 base id tt k)) (λ b base id k. absurd (no-commit j9 l6 base id tt k)) (λ b base id k. absurd (no-commit j10 gone base id tt k));
    quiet = by-each (IsQuiet (DoomedBy c (whole ++ [])) c)
        (λ b id p. absurd (no-points start l1 id tt p)) (λ b id p. absurd (no-points j4 g1 id tt p)) (λ b id p. absurd (no-points j5 l2 id tt p)) (λ b id p. absurd (no-points j6 ll id tt p)) (λ b id p. absurd (no-points jl l3 id tt p))
        (λ b id p. absurd (no-points j7 l4 id tt p)) (λ b id p. absurd (no-points j8 l5 id tt p)) (λ b id p. absurd (no-points j9 l6 id tt p)) (λ b id p. absurd (no-points j10 gone id tt p));
  }

  -- ---- the only one
  no-removal : (before : List Event) (x : Event) → (IsReading x.op ⊎ ((key : Key) × (bytes : List ℕ) × (why : Why) × (x.op ≡ PutNew key bytes why))) → OnlyCollects (c ∷ []) before x
  no-removal before x (inl reads) key object removes = elim (removes-op before x key removes) [
    | inl h ↦ absurd (subst IsReading h.1 reads)
    | inr h ↦ absurd (subst IsReading h.2 reads)
  ]
  no-removal before x (inr puts) key object removes = elim (removes-op before x key removes) [
    | inl h ↦ (let e = puts.3 in let f = h.1 in absurd cc)
    | inr h ↦ (let e = puts.3 in let f = h.2 in absurd cc)
  ]

  the-removal : OnlyCollects (c ∷ []) j10 gone
  the-removal key object removes = record { collection = c; among = (0, omega arith, refl); client_is = refl; within = omega arith; more = l1 ∷ g1 ∷ l2 ∷ ll ∷ l3 ∷ l4 ∷ l5 ∷ l6 ∷ []; is = refl }

  only : Each (OnlyCollects (c ∷ [])) [] whole
  unfolding Each
  only = (
    no-removal [] e0 (inr (Snapshot initial_id, i, Init, refl)),
    (
      no-removal (e0 ∷ []) e1 (inr (Branch main_name, r, Init, refl)),
      (
        no-removal (e0 ∷ e1 ∷ []) e2 (inr (Chunk garbage, [], Set, refl)),
        by-each (OnlyCollects (c ∷ [])) (no-removal start l1 (inl tt)) (no-removal j4 g1 (inl tt)) (no-removal j5 l2 (inl tt)) (no-removal j6 ll (inl tt)) (no-removal jl l3 (inl tt)) (no-removal j7 l4 (inl tt)) (no-removal j8 l5 (inl tt)) (no-removal j9 l6 (inl tt)) the-removal,
      ),
    ),
  )

  the-one : (d : Collection) → Contains (c ∷ []) d → c ≡ d
  the-one d h = at h.0 (slice_get-get_or (c ∷ []) h.0 d h.1 ∙ ap (λ (y : Collection). Some y) h.2)
    where
      at : (k : ℕ) → slice_get (c ∷ []) k ≡ Some d → c ≡ d
      at zero e = cc
      at (suc k) e = cc

  shared : AreCollected (c ∷ []) [] whole
  shared = record {
    good = is11.good;
    once = is11.once;
    added = whole;
    is = refl;
    only = only;
    collects = λ d h. subst (λ (x : Collection). Collects x whole) (the-one d h) (record { more = its; is = refl; owes = owes });
    collected = λ d h n. subst (λ (x : Collection). IsCollected x whole []) (the-one d h) collected;
    none_missing = nothing-missing;
    own = each-all (CommitsLater []) (λ before x lost is. absurd (never-lost lost is)) [] whole;
    quiet = each-all (LeavesLost []) (λ before x id p key reached lost. never-lost key lost) [] whole;
  }

  -- ---- what is left
  snapshot-there : found whole (Snapshot initial_id) ≡ Some s0
  snapshot-there = is11.stands (Snapshot initial_id) ∙ there0

  main-there : found whole (Branch main_name) ≡ Some s1
  main-there = is11.stands (Branch main_name) ∙ branch-there

  chunk-gone : found whole (Chunk garbage) ≡ None
  chunk-gone = is11.stands (Chunk garbage) ∙ ap (λ (b : Bool). cond b None (at3 (Chunk garbage))) (same_key-refl (Chunk garbage))

  chunk-put : WasPut whole (Chunk garbage)
  chunk-put = WasPut-append start its (Chunk garbage) ((sound start (Chunk garbage)).first s2 (is3.stands (Chunk garbage) ∙ chunk-there))

  pub took : TookOne
  took = record {
    collection = c;
    journal = whole;
    ref = Branch main_name;
    base = initial_id;
    key = Chunk garbage;
    collected = collected;
    shared = shared;
    reached = record { id = initial_id; named = record { is_ref = tt; not_gone = tt; stored = s1; stands = main-there; names = names }; reaches = inl refl };
    stands = (s0, snapshot-there);
    doomed = subst (λ (w : Walk). Doomed 5 w (Chunk garbage)) (sym k11) (record { whole = refl; entry = entry (Chunk garbage) s2; listed = (1, omega arith, refl); key_is = refl; object = tt; old = omega arith; unmarked = unmarked });
    put = chunk-put;
    gone = chunk-gone;
  }

-- the initial id is one
all-bytes : (bytes : List ℕ) → list_all (λ b. ltb b 256) bytes ≡ true → All (λ b. b < 256) bytes
all-bytes [] e = All-nil (λ b. b < 256)
all-bytes (b ∷ bytes) e = let parts = and_parts (ltb b 256) (list_all (λ x. ltb x 256) bytes) e in All-cons (λ x. x < 256) b bytes (ltb-true b 256 parts.0) (all-bytes bytes parts.1)

pub took-one : InitialLaw → RefLaw → TookOne
took-one initial reference = took initial initial_bytes refl (ref_bytes initial_id) (reference.written initial_id (refl, all-bytes initial_id.0 refl))
