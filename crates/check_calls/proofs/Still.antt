-- Exact when still.
use Rattle.std.proofs.Common.{◌≡◌, inl, inr, ℕ, ◌+◌, ◌≤◌, Bool, true, false, cond, ◌&&◌, List, [], ◌∷◌, ◌++◌, map, length, Option, Some, None, IsSome, refl, sym, ◌∙◌, ap, subst, eq-eqb}
use Rattle.std.specs.Prelude.{◌==◌, nat_le, Contains, Result, Ok, Err, option_and_then}
use Rattle.std.specs.Option.{option_or}
use Rattle.std.specs.Result.{result_ok}
use Rattle.std.proofs.lemmas.Bool.{le-leb}
use Rattle.ice_ids.specs.declared.Id12.{Id12}
use Rattle.ice_ids.specs.Text.{same_id12, initial_id}
use Rattle.ice_ids.proofs.TextLaws.{same_id12-self}
use Rattle.snapshot_file.specs.declared.nodes.ManifestRef.{ManifestRef}
use Rattle.snapshot_file.specs.declared.nodes.NodeRow.{NodeRow}
use Rattle.snapshot_file.specs.declared.snapshot.SnapshotFile.{SnapshotFile}
use Rattle.snapshot_file.specs.Snapshots.{manifests_named}
use Rattle.manifest_file.specs.declared.manifest.Place.{Place}
use Rattle.manifest_file.specs.declared.manifest.Place.TheVariants.{Inline, Object}
use Rattle.manifest_file.specs.declared.manifest.ChunkRef.{ChunkRef}
use Rattle.manifest_file.specs.declared.manifest.ManifestFile.{ManifestFile}
use Rattle.txn_file.specs.declared.log.TxnFile.{TxnFile}
use Rattle.repo_objects.specs.declared.bad_objects.Bad.{Bad}
use Rattle.repo_objects.specs.declared.bad_objects.Bad.TheVariants as bad
use Rattle.repo_objects.specs.Laws.{SnapshotLaw}
use Rattle.repo_objects.specs.Readings.{read_snapshot, read_manifest, read_log, read_ref, read_chunk, given, snapshot_by, manifest_by}
use Rattle.repo_objects.specs.Trees.{manifest_put}
use Rattle.object_store.specs.declared.keys.Key.{Key}
use Rattle.object_store.specs.declared.keys.Key.TheVariants.{Snapshot, Manifest, Txn, Chunk, Branch, Tag, Tombstone, Lease}
use Rattle.object_store.specs.declared.keys.Part.{Part as Part_of_store}
use Rattle.object_store.specs.declared.keys.Part.TheVariants.{Branches, Tags}
use Rattle.object_store.specs.declared.events.Op.TheVariants.{Get}
use Rattle.object_store.specs.declared.events.Got.{Got}
use Rattle.object_store.specs.declared.events.Reply.{Reply}
use Rattle.object_store.specs.declared.events.Reply.TheVariants.{Got as Is_got, Listed as Is_listed}
use Rattle.object_store.specs.declared.events.Event.{Event}
use Rattle.object_store.specs.Machine.{Stored, found, got_of, part_of}
use Rattle.store_api.specs.Callers.{has_failed}
use Rattle.store_api.specs.Journal.{puts_of, snap_in}
use Rattle.live_refs.specs.Live.{live}
use Rattle.live_refs.specs.Laws.{IsNotGone}
use Rattle.live_refs.proofs.Live.{live-law}
use Rattle.reach.specs.Chains.{Chain, here, down, parent_at}
use Rattle.history_laws.specs.Refs.{IsRef}
use Rattle.intact.specs.declared.visits.FileVisit.{FileVisit}
use Rattle.intact.specs.declared.visits.PartVisit.{PartVisit}
use Rattle.intact.specs.Rows.{file_for, files_of_row, want_of, first_unwell}
use Rattle.intact.specs.Parts.{entries_of, fault_in, inline_fault, first_short, part_at, parts_of}
use Rattle.intact.specs.Told.{found_ref, found_snapshot, found_manifest, found_part, some_ref, well, unless_unwell, any_log, long, unless_short, any_part}
use Rattle.intact.specs.Visits.{Visit, Refs, Ref, Snap, Log, File, Part, op_for, told, leads, leading, nowhere, behind_ref, behind_snapshot, behind_manifest}
use Rattle.intact.specs.Intact.{Made, WasAnswered, WasVisited, IsFine, IsFineBy, Named, HasParent, IsAbove, IsIntact}
use Rattle.intact.specs.Intact as intact
use Rattle.ice_ids.proofs.Elements.{first-is, later-is}
use Rattle.check_calls.specs.Whole.{IsWholeChunk, HasEntry, IsWholeSnapshot, IsWhole, NamesWhole, AllWhole}
use Rattle.check_calls.proofs.Lists.{from-map, from-flat, from-filter, has-map}
use Rattle.check_calls.proofs.Steady.{last-stands}
use Rattle.check_calls.proofs.Replies.{got-honest, list-honest, failed-unfine, ref-at, snap-at, file-at}
use Rattle.check_calls.proofs.Leads.{from-refs, from-ref, from-snap, from-log, from-file, from-part, behind-cases, Behind, to_log, to_file, to_parent, at-place}
use Rattle.check_calls.proofs.Rows.{row-found, rows-well, differ}
use Rattle.check_calls.proofs.Chains.{chain-more, ends-below, no-loop, IsBelow}
use Rattle.check_calls.proofs.Course.{Course, replied, got-here, ref-fact, RefFact, ListedRef, listed-is_ref}

some-same : {A : Type 0} (a b : A) → Some a ≡ Some b → a ≡ b
some-same a b e = cc

ok-same : {A E : Type 0} (a b : A) → ◌≡◌ {A = Result A E} (Ok a) (Ok b) → a ≡ b
ok-same a b e = cc

ok-of : {A E : Type 0} (r : Result A E) (a : A) → result_ok r ≡ Some a → r ≡ Ok a
ok-of {A} {E} (Ok x) a e = let same : x ≡ a = cc in ap (λ (y : A). Ok y) same
ok-of (Err fault) a e = absurd cc

-- ---- what is whole has no fault
whole-inline : (journal : List Event) (want : ℕ) (place : Place) → IsWholeChunk journal want place → inline_fault want place ≡ None
whole-inline journal want (Inline bytes) w = ap (λ (b : Bool). fault_in (cond b (Ok bytes) (Err (bad.Chunk want (length bytes))))) (eq-eqb (length bytes) want w)
whole-inline journal want (Object id offset size) w = refl

all-long : (want : ℕ) (chunks : List ChunkRef) → ((chunk : ChunkRef) → Contains chunks chunk → inline_fault want chunk.place ≡ None) → first_short want chunks ≡ None
unfolding first_short
all-long want [] h = refl
all-long want (x ∷ xs) h = ap (λ (o : Option Bad). option_or o (first_short want xs)) (h x (first-is x xs)) ∙ all-long want xs (λ chunk c. h chunk (later-is x chunk xs c))

whole-part : (want offset size : ℕ) (bytes : List ℕ) → size ≡ want → offset + size ≤ length bytes → read_chunk want offset size bytes ≡ Ok (given offset size bytes)
whole-part want offset size bytes e l =
    ap (λ (b : Bool). cond b (Ok (given offset size bytes)) (Err (bad.Chunk want (length (given offset size bytes)))))
    (both (nat_le (offset + size) (length bytes)) (size == want) (le-leb (offset + size) (length bytes) l) (eq-eqb size want e))
  where
    both : (a b : Bool) → a ≡ true → b ≡ true → (a && b) ≡ true
    both a b e f = rw (e, f) refl

gone-same : (at other : Key → Option Stored) → ((key : Key) → at key ≡ other key) → (key : Key) → IsNotGone at key → IsNotGone other key
gone-same at other same (Tag name) h = sym (same (Tombstone name)) ∙ h
gone-same at other same (Tombstone name) h = h
gone-same at other same (Branch name) h = tt
gone-same at other same (Snapshot id) h = tt
gone-same at other same (Manifest id) h = tt
gone-same at other same (Txn id) h = tt
gone-same at other same (Chunk id) h = tt
gone-same at other same (Lease id) h = tt

-- ---- where each operation was told what stands at the end
module _ (snaps : SnapshotLaw) (client : ℕ) (start first end : List Event) (made : List Made) (c : Course client start first end made)
    (same : (key : Key) (before after : List Event) → c.between ≡ before ++ after → found (first ++ before) key ≡ found end key) where
  -- what a get was told
  record ToldNow (got : Got) (key : Key) : Type 0 where
    now : ℕ
    is : got ≡ got_of now (found end key)

  got-same : (g h : Got) → Is_got g ≡ Is_got h → g ≡ h
  got-same g h e = cc

  told-now : (v : Visit) (key : Key) (got : Got) → op_for v ≡ Get key → WasAnswered made v (Is_got got) → ToldNow got key
  told-now v key got op t =
      let r = replied client start first end made c v (Is_got got) t in
      elim (got-honest (first ++ r.before) r.event key (Is_got got) r.good (r.op_is ∙ op) r.reply_is) [
        | inl failed ↦ absurd cc
        | inr answer ↦ record { now = r.event.time; is = got-same got (got_of r.event.time (found (first ++ r.before) key)) answer ∙ ap (got_of r.event.time) (same key r.before (r.event ∷ r.after) r.is) }
      ]

  -- ---- all named is whole, so it has no fault
  module _ (unfailed : (v : Visit) (reply : Reply) → WasAnswered made v reply → has_failed reply ≡ false) (complete : (v : Visit) → Named made v → WasVisited made v) (all : AllWhole end) where
    -- what any operation was told
    answered : (v : Visit) (key : Key) (reply : Reply) → op_for v ≡ Get key → WasAnswered made v reply → (now : ℕ) × (reply ≡ Is_got (got_of now (found end key)))
    answered v key reply op t =
        let r = replied client start first end made c v reply t in
        elim (got-honest (first ++ r.before) r.event key reply r.good (r.op_is ∙ op) r.reply_is) [
          | inl failed ↦ absurd (differ (has_failed reply) (unfailed v reply t) failed)
          | inr answer ↦ (r.event.time, answer ∙ ap (λ (o : Option Stored). Is_got (got_of r.event.time o)) (same key r.before (r.event ∷ r.after) r.is))
        ]

    -- a snapshot of a chain that is whole
    record OnChain (id : Id12) : Type 0 where
      root : Id12
      whole : IsWhole end root
      chain : Chain end root id

    at-chain : (id : Id12) → OnChain id → IsWholeSnapshot end id
    at-chain id o = o.whole.each id o.chain

    record OfRow (f : FileVisit) : Type 0 where
      at : Id12
      on : OnChain at
      row : NodeRow
      among : Contains (at-chain at on).snap.nodes row
      manifest : ManifestRef
      named : Contains (manifests_named row.kind) manifest
      is : f ≡ file_for row manifest

    record OfEntry (p : PartVisit) : Type 0 where
      at : Id12
      on : OnChain at
      row : NodeRow
      among : Contains (at-chain at on).snap.nodes row
      chunk : ChunkRef
      entry : HasEntry (puts_of end) row chunk
      is : part_at (want_of row) chunk.place ≡ Some p

    abbrev Known : Visit → Type 0
    Known (Refs part) = Unit {0}
    Known (Ref key) = Unit {0}
    Known (Snap id) = OnChain id
    Known (Log id) = OnChain id × (id ≡ initial_id → ⊥)
    Known (File f) = OfRow f
    Known (Part p) = OfEntry p

    -- ---- refs
    record RefNow (key : Key) : Type 0 where
      stored : Stored
      stands : found end key ≡ Some stored
      names : NamesWhole end stored.bytes

    ref-now : (key : Key) → ListedRef client start first end made c key → RefNow key
    ref-now key l =
        let stands = sym (same key l.before l.after l.is) ∙ l.stood.stands in
        record {
          stored = l.stood.stored;
          stands = stands;
          names = all key l.stood.stored (listed-is_ref client start first end made c key l) (gone-same (found (first ++ l.before)) (found end) (λ k. same k l.before l.after l.is) key l.stood.not_gone) stands;
        }

    found-names : (stored : Stored) (now : ℕ) (n : NamesWhole end stored.bytes) → found_ref (got_of now (Some stored)) ≡ Ok (Some n.id)
    found-names stored now n = ap some_ref (ok-of (read_ref stored.bytes) n.id n.names)

    -- ---- snapshots
    snap-same : (id : Id12) (o : OnChain id) (got : Got) (snap : SnapshotFile) → WasAnswered made (Snap id) (Is_got got) → found_snapshot id got ≡ Ok snap → snap ≡ (at-chain id o).snap
    snap-same id o got snap t found_is =
        let w = at-chain id o in
        let now = told-now (Snap id) (Snapshot id) got refl t in
        let here_is : got ≡ got_of now.now (Some w.stored) = now.is ∙ ap (got_of now.now) w.stands in
        let told_is : found_snapshot id (got_of now.now (Some w.stored)) ≡ Ok snap = ap (found_snapshot id) (sym here_is) ∙ found_is in
        let a = snap-at id now.now (Some w.stored) (behind_snapshot id snap) (ap (leading (behind_snapshot id)) told_is) in
        let stored : w.stored ≡ a.stored = some-same w.stored a.stored a.stands in
        let read : snapshot_by id w.stored.bytes ≡ Some a.snap = ap (λ (s : Stored). snapshot_by id s.bytes) stored ∙ ap result_ok a.read in
        ok-same snap a.snap (sym told_is ∙ a.told_is) ∙ some-same a.snap w.snap (sym read ∙ w.read)

    parent-now : (id : Id12) (o : OnChain id) → parent_at end id ≡ (at-chain id o).snap.parent
    parent-now id o =
        let w = at-chain id o in
        ap (λ (o : Option (List ℕ)). option_and_then (λ (s : SnapshotFile). s.parent) (snap_in id o)) (last-stands end (Snapshot id) w.stored w.stands)
        ∙ ap (option_and_then (λ (s : SnapshotFile). s.parent)) w.read

    parent-of : (id parent : Id12) → OnChain id → HasParent made id parent → parent_at end id ≡ Some parent
    parent-of id parent o h = parent-now id o ∙ (ap (λ (s : SnapshotFile). s.parent) (sym (snap-same id o h.got h.file h.answered h.read)) ∙ h.is)

    chain-on : (id parent : Id12) → OnChain id → parent_at end id ≡ Some parent → OnChain parent
    chain-on id parent o e = record { root = o.root; whole = o.whole; chain = chain-more o.chain e }

    -- ---- manifests
    put-now : (f : FileVisit) (got : Got) (file : ManifestFile) → WasAnswered made (File f) (Is_got got) → found_manifest f got ≡ Ok file → manifest_put (puts_of end) f.manifest ≡ Some file
    put-now f got file t found_is =
        let now = told-now (File f) (Manifest f.manifest) got refl t in
        let told_is : found_manifest f (got_of now.now (found end (Manifest f.manifest))) ≡ Ok file = ap (found_manifest f) (sym now.is) ∙ found_is in
        let a = file-at f now.now (found end (Manifest f.manifest)) (behind_manifest f file) (ap (leading (behind_manifest f)) told_is) in
        ap (option_and_then (manifest_by f.manifest)) (last-stands end (Manifest f.manifest) a.stored a.stands)
        ∙ (ap result_ok a.read ∙ ap (λ (m : ManifestFile). Some m) (ok-same a.file file (sym a.told_is ∙ told_is)))

    -- ---- where each leads
    step : (v w : Visit) (reply : Reply) → RefFact client start first end made c v → Known v → WasAnswered made v reply → Contains (leads v reply) w → Known w
    step (Refs part) w reply r h t k = let l = from-refs part reply w k in subst Known (sym l.is) tt
    step (Ref key) w reply r h t k =
        let l = from-ref key reply w k in
        let now = told-now (Ref key) key l.got refl (subst (λ (x : Reply). WasAnswered made (Ref key) x) l.reply_is t) in
        let n = ref-now key r in
        let told_is : found_ref l.got ≡ Ok (Some n.names.id) = ap found_ref (now.is ∙ ap (got_of now.now) n.stands) ∙ found-names n.stored now.now n.names in
        let id_is : l.id ≡ n.names.id = some-same l.id n.names.id (ok-same (Some l.id) (Some n.names.id) (sym l.found ∙ told_is)) in
        subst Known (sym l.is) (record { root = n.names.id; whole = n.names.whole; chain = subst (λ (x : Id12). Chain end n.names.id x) (sym id_is) here })
    step (Snap id) w reply r h t k =
        let l = from-snap id reply w k in
        let snap_is = snap-same id h l.got l.snap (subst (λ (x : Reply). WasAnswered made (Snap id) x) l.reply_is t) l.found in
        by l.snap snap_is (behind-cases id l.snap w l.among)
      where
        by : (snap : SnapshotFile) → snap ≡ (at-chain id h).snap → Behind id snap w → Known w
        by snap e (to_log other is) = subst Known (sym is) (h, λ same. differ (same_id12 id initial_id) other (subst (λ (x : Id12). same_id12 id x ≡ true) same (same_id12-self id)))
        by snap e (to_file f among is) =
            let r = from-flat (λ (row : NodeRow). files_of_row row) snap.nodes f among in
            let m = from-map (λ (x : ManifestRef). file_for r.one x) (manifests_named r.one.kind) f r.within in
            subst Known (sym is) (record { at = id; on = h; row = r.one; among = subst (λ (s : SnapshotFile). Contains s.nodes r.one) e r.among; manifest = m.one; named = m.among; is = sym m.is })
        by snap e (to_parent parent p is) = subst Known (sym is) (chain-on id parent h (parent-now id h ∙ (ap (λ (s : SnapshotFile). s.parent) (sym e) ∙ p)))
    step (Log id) w reply r h t k = absurd (from-log id reply w k)
    step (File f) w reply r h t k =
        let l = from-file f reply w k in
        let put = put-now f l.got l.file (subst (λ (x : Reply). WasAnswered made (File f) x) l.reply_is t) l.found in
        let among : Contains (parts_of (file_for h.row h.manifest) l.file) l.part = subst (λ (x : FileVisit). Contains (parts_of x l.file) l.part) h.is l.among in
        let e = from-filter (λ (chunk : ChunkRef). part_at (want_of h.row) chunk.place) (entries_of h.row.id l.file) l.part among in
        subst Known (sym l.is)
        (record {
          at = h.at;
          on = h.on;
          row = h.row;
          among = h.among;
          chunk = e.one;
          entry = record { manifest = h.manifest; named = h.named; file = l.file; is = subst (λ (x : FileVisit). manifest_put (puts_of end) x.manifest ≡ Some l.file) h.is put; has = e.among };
          is = e.is;
        })
    step (Part p) w reply r h t k = absurd (from-part p reply w k)

    known : (v : Visit) → Named made v → Known v
    known v intact.branches = tt
    known v intact.tags = tt
    known v (intact.behind {v = u} {reply = reply} n t k) = step u v reply (ref-fact client start first end made c u n) (known u n) t k

    -- ---- nothing has a fault
    fine-as : (v : Visit) (reply answer : Reply) (next : List Visit) → reply ≡ answer → told v answer ≡ Ok next → IsFineBy v reply
    fine-as v reply answer next e is = record { next = next; is = ap (told v) e ∙ is }

    fine-refs : (part : Part_of_store) (reply : Reply) → WasAnswered made (Refs part) reply → IsFineBy (Refs part) reply
    fine-refs part reply t =
        let r = replied client start first end made c (Refs part) reply t in
        elim (list-honest (first ++ r.before) r.event part reply r.good r.op_is r.reply_is) [
          | inl failed ↦ absurd (differ (has_failed reply) (unfailed (Refs part) reply t) failed)
          | inr a ↦ fine-as (Refs part) reply (Is_listed (record { entries = a.entries; now = a.now })) (map (λ (key : Key). Ref key) (live a.entries)) a.is refl
        ]

    fine-ref : (key : Key) → ListedRef client start first end made c key → (reply : Reply) → WasAnswered made (Ref key) reply → IsFineBy (Ref key) reply
    fine-ref key l reply t =
        let a = answered (Ref key) key reply refl t in
        let n = ref-now key l in
        fine-as (Ref key) reply (Is_got (got_of a.0 (Some n.stored))) (behind_ref (Some n.names.id)) (a.1 ∙ ap (λ (o : Option Stored). Is_got (got_of a.0 o)) n.stands) (ap (leading behind_ref) (found-names n.stored a.0 n.names))

    fine-snap : (id : Id12) → OnChain id → (reply : Reply) → WasAnswered made (Snap id) reply → IsFineBy (Snap id) reply
    fine-snap id o reply t =
        let a = answered (Snap id) (Snapshot id) reply refl t in
        let w = at-chain id o in
        let read : read_snapshot id w.stored.bytes ≡ Ok w.snap = ok-of (read_snapshot id w.stored.bytes) w.snap w.read in
        let rows : first_unwell w.snap.nodes ≡ None = rows-well (puts_of end) w.snap (snaps.read id w.stored.bytes w.snap w.read) w.tree.well_formed in
        let told_is : found_snapshot id (got_of a.0 (Some w.stored)) ≡ Ok w.snap = ap well read ∙ ap (λ (o : Option ℕ). unless_unwell o w.snap) rows in
        fine-as (Snap id) reply (Is_got (got_of a.0 (Some w.stored))) (behind_snapshot id w.snap) (a.1 ∙ ap (λ (o : Option Stored). Is_got (got_of a.0 o)) w.stands) (ap (leading (behind_snapshot id)) told_is)

    fine-log : (id : Id12) → OnChain id → (id ≡ initial_id → ⊥) → (reply : Reply) → WasAnswered made (Log id) reply → IsFineBy (Log id) reply
    fine-log id o other reply t =
        let a = answered (Log id) (Txn id) reply refl t in
        elim (at-chain id o).log [
          | inl e ↦ absurd (other e)
          | inr h ↦ fine-as (Log id) reply (Is_got (got_of a.0 (Some h.stored))) [] (a.1 ∙ ap (λ (o : Option Stored). Is_got (got_of a.0 o)) h.stands) (ap (λ (r : Result TxnFile Bad). leading nowhere (any_log r)) (ok-of (read_log id h.stored.bytes) h.log h.read))
        ]

    fine-row : (at : Id12) (w : IsWholeSnapshot end at) (row : NodeRow) → Contains w.snap.nodes row → (manifest : ManifestRef) → Contains (manifests_named row.kind) manifest → (reply : Reply) → WasAnswered made (File (file_for row manifest)) reply
        → (file : ManifestFile) → manifest_put (puts_of end) manifest.id ≡ Some file → IsFineBy (File (file_for row manifest)) reply
    fine-row at w row among manifest named reply t file e =
        let visit = file_for row manifest in
        let a = answered (File visit) (Manifest manifest.id) reply refl t in
        let s = w.manifests manifest.id (record { row = row; among = among; manifest = manifest; named = named; is = refl }) in
        let by_bytes : manifest_by manifest.id s.0.bytes ≡ Some file = sym (ap (option_and_then (manifest_by manifest.id)) (last-stands end (Manifest manifest.id) s.0 s.1)) ∙ e in
        let read : read_manifest manifest.id s.0.bytes ≡ Ok file = ok-of (read_manifest manifest.id s.0.bytes) file by_bytes in
        let none : first_short (want_of row) (entries_of row.id file) ≡ None =
        all-long (want_of row) (entries_of row.id file)
        (λ chunk k. whole-inline end (want_of row) chunk.place (w.chunks row chunk among (record { manifest = manifest; named = named; file = file; is = e; has = k }))) in
        let told_is : found_manifest visit (got_of a.0 (Some s.0)) ≡ Ok file = ap (long visit) read ∙ ap (λ (o : Option Bad). unless_short o file) none in
        fine-as (File visit) reply (Is_got (got_of a.0 (Some s.0))) (behind_manifest visit file) (a.1 ∙ ap (λ (o : Option Stored). Is_got (got_of a.0 o)) s.1) (ap (leading (behind_manifest visit)) told_is)

    put-there : (o : Option ManifestFile) → IsSome o → (file : ManifestFile) × (o ≡ Some file)
    put-there None there = absurd cc
    put-there (Some file) there = (file, refl)

    fine-file : (f : FileVisit) → OfRow f → (reply : Reply) → WasAnswered made (File f) reply → IsFineBy (File f) reply
    fine-file f h reply t =
        let w = at-chain h.at h.on in
        let proper = snaps.read h.at w.stored.bytes w.snap w.read in
        let there = w.tree.readable.manifests h.row.path h.row h.manifest (row-found None w.snap.nodes proper.writable.nodes h.row h.among) h.named in
        let put = put-there (manifest_put (puts_of end) h.manifest.id) there in
        subst (λ (x : FileVisit). IsFineBy (File x) reply) (sym h.is)
        (fine-row h.at w h.row h.among h.manifest h.named reply (subst (λ (x : FileVisit). WasAnswered made (File x) reply) h.is t) put.0 put.1)

    fine-part : (p : PartVisit) → OfEntry p → (reply : Reply) → WasAnswered made (Part p) reply → IsFineBy (Part p) reply
    fine-part p h reply t = by h.chunk.place h.is ((at-chain h.at h.on).chunks h.row h.chunk h.among h.entry)
      where
        by : (place : Place) → part_at (want_of h.row) place ≡ Some p → IsWholeChunk end (want_of h.row) place → IsFineBy (Part p) reply
        by (Inline bytes) e whole = absurd cc
        by (Object id offset size) e whole =
            let visit : PartVisit = record { object = id; offset = offset; size = size; want = want_of h.row } in
            let is : visit ≡ p = some-same visit p e in
            let t' = subst (λ (x : PartVisit). WasAnswered made (Part x) reply) (sym is) t in
            let a = answered (Part visit) (Chunk id) reply refl t' in
            let b = whole.1 in
            let told_is : found_part visit (got_of a.0 (Some b.stored)) ≡ Ok tt = ap any_part (whole-part (want_of h.row) offset size b.stored.bytes whole.0 b.long) in
            subst (λ (x : PartVisit). IsFineBy (Part x) reply) is
            (fine-as (Part visit) reply (Is_got (got_of a.0 (Some b.stored))) [] (a.1 ∙ ap (λ (o : Option Stored). Is_got (got_of a.0 o)) b.stands) (ap (leading nowhere) told_is))

    fine : (v : Visit) → RefFact client start first end made c v → Known v → (reply : Reply) → WasAnswered made v reply → IsFineBy v reply
    fine (Refs part) r h reply t = fine-refs part reply t
    fine (Ref key) r h reply t = fine-ref key r reply t
    fine (Snap id) r h reply t = fine-snap id h reply t
    fine (Log id) r h reply t = fine-log id h.0 h.1 reply t
    fine (File f) r h reply t = fine-file f h reply t
    fine (Part p) r h reply t = fine-part p h reply t

    -- ---- and no chain comes back
    below-now : (id at : Id12) → OnChain id → IsAbove made id at → IsBelow end id at
    below-now id at o (intact.next h) = record { parent = at; is = parent-of id at o h; chain = here }
    below-now id at o (intact.further {parent = parent} h a) =
        let e = parent-of id parent o h in
        let b = below-now parent at (chain-on id parent o e) a in
        record { parent = parent; is = e; chain = down b.is b.chain }

    pub all-intact : IsIntact made
    all-intact = record {
      each = λ v n. record { was = complete v n; each = fine v (ref-fact client start first end made c v n) (known v n) };
      onward = λ id n a. let o = known (Snap id) n in no-loop end id (ends-below end o.root id o.whole.ends o.chain) (below-now id id o a);
    }

  -- ---- where all is intact, each ref that stands was read
  module _ (intact_here : IsIntact made) (whole-at : (id : Id12) → Named made (Snap id) → IsWhole end id) where
    part-for : (ref : Key) → IsRef ref → (part : Part_of_store) × (part_of ref ≡ part) × Named made (Refs part)
    part-for (Branch name) r = (Branches, refl, intact.branches)
    part-for (Tag name) r = (Tags, refl, intact.tags)
    part-for (Tombstone name) r = absurd r
    part-for (Snapshot id) r = absurd r
    part-for (Manifest id) r = absurd r
    part-for (Txn id) r = absurd r
    part-for (Chunk id) r = absurd r
    part-for (Lease id) r = absurd r

    ref-named : (ref : Key) (stored : Stored) → IsRef ref → IsNotGone (found end) ref → found end ref ≡ Some stored → Named made (Ref ref)
    ref-named ref stored is_ref not_gone stands =
        let p = part-for ref is_ref in
        let f = intact_here.each (Refs p.0) p.2 in
        let reply = f.was.reply in
        let t = f.was.told in
        let fine_by = f.each reply t in
        let r = replied client start first end made c (Refs p.0) reply t in
        let back : (k : Key) → found end k ≡ found (first ++ r.before) k = λ k. sym (same k r.before (r.event ∷ r.after) r.is) in
        elim (list-honest (first ++ r.before) r.event p.0 reply r.good r.op_is r.reply_is) [
          | inl failed ↦ absurd (failed-unfine (Refs p.0) reply fine_by.next failed fine_by.is)
          | inr a ↦ (
              let has = (live-law (found (first ++ r.before)) p.0 a.entries a.listing ref).1 (record { stored = stored; stands = sym (back ref) ∙ stands; part_is = p.1; not_gone = gone-same (found end) (found (first ++ r.before)) back ref not_gone }) in
              intact.behind p.2 (subst (λ (x : Reply). WasAnswered made (Refs p.0) x) a.is t) (has-map (λ (key : Key). Ref key) (live a.entries) ref (at-place (live a.entries) has.place ref has.here))
              )
        ]

    pub all-whole : AllWhole end
    all-whole ref stored is_ref not_gone stands =
        let n = ref-named ref stored is_ref not_gone stands in
        let g = got-here client start first end made c (Ref ref) ref refl (intact_here.each (Ref ref) n) in
        let at : found (first ++ g.before) ref ≡ Some stored = same ref g.before g.after g.is ∙ stands in
        let a = ref-at g.now stored g.next (ap (λ (o : Option Stored). told (Ref ref) (Is_got (got_of g.now o))) (sym at) ∙ g.fine) in
        record {
          id = a.id;
          names = ap result_ok a.read;
          whole = whole-at a.id (intact.behind n g.told_is (subst (λ (l : List Visit). Contains l (Snap a.id)) (sym (g.leads_is ∙ a.leads)) (first-is (Snap a.id) [])));
        }
