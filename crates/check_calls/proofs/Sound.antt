-- Sound means whole.
use Rattle.std.proofs.Common.{◌≡◌, ◌⊎◌, inl, inr, ℕ, zero, suc, ◌+◌, ◌<◌, ◌≤◌, Bool, true, false, cond, ◌&&◌, List, [], ◌∷◌, ◌++◌, length, Option, Some, None, IsSome, is_some, option_map, refl, sym, ◌∙◌, ap, subst, arith, eqb-true}
use Rattle.std.specs.Prelude.{◌==◌, nat_le, Contains, Ok, Err, option_and_then}
use Rattle.std.specs.Option.{option_or}
use Rattle.std.specs.Result.{result_ok}
use Rattle.std.proofs.lemmas.Bool.{leb-true}
use Rattle.ice_ids.specs.declared.Id12.{Id12}
use Rattle.ice_ids.specs.Text.{same_id12, initial_id}
use Rattle.ice_ids.proofs.TextLaws.{same_id12-true}
use Rattle.snapshot_file.specs.declared.nodes.ManifestRef.{ManifestRef}
use Rattle.snapshot_file.specs.declared.nodes.NodeRow.{NodeRow}
use Rattle.snapshot_file.specs.declared.snapshot.SnapshotFile.{SnapshotFile}
use Rattle.snapshot_file.specs.Snapshots.{manifests_named}
use Rattle.manifest_file.specs.declared.manifest.Place.{Place}
use Rattle.manifest_file.specs.declared.manifest.Place.TheVariants.{Inline, Object}
use Rattle.manifest_file.specs.declared.manifest.ChunkRef.{ChunkRef}
use Rattle.manifest_file.specs.declared.manifest.ManifestFile.{ManifestFile}
use Rattle.repo_objects.specs.declared.bad_objects.Bad.{Bad}
use Rattle.repo_objects.specs.Laws.{SnapshotLaw}
use Rattle.repo_objects.specs.Readings.{read_chunk, given, snapshot_by, manifest_by}
use Rattle.repo_objects.specs.declared.bad_objects.Bad.TheVariants as bad
use Rattle.repo_objects.specs.Trees.{NamesManifest, manifest_put}
use Rattle.object_store.specs.declared.keys.Key.{Key}
use Rattle.object_store.specs.declared.keys.Key.TheVariants.{Snapshot, Manifest, Txn, Chunk, Branch, Tag, Tombstone, Lease}
use Rattle.object_store.specs.declared.events.Version.{Version}
use Rattle.object_store.specs.declared.events.Op.TheVariants.{Get}
use Rattle.object_store.specs.declared.events.Got.{Got}
use Rattle.object_store.specs.declared.events.Got.TheVariants.{Found}
use Rattle.object_store.specs.declared.events.Reply.TheVariants.{Got as Is_got}
use Rattle.object_store.specs.declared.events.Event.{Event}
use Rattle.object_store.specs.Machine.{Stored, found, got_of, version_at}
use Rattle.store_api.specs.Journal.{puts_of, snap_in, rows_of}
use Rattle.store_api.specs.Telling.{WasRef}
use Rattle.reach.specs.Chains.{Chain, here, down, parent_at}
use Rattle.reach.specs.Holding.{Holds, Reaches}
use Rattle.collecting.specs.Walks.{IsObject}
use Rattle.history_laws.specs.Refs.{IsRef}
use Rattle.history_laws.specs.Laws.{Stands}
use Rattle.intact.specs.declared.visits.FileVisit.{FileVisit}
use Rattle.intact.specs.declared.visits.PartVisit.{PartVisit}
use Rattle.intact.specs.Rows.{file_for, files_of_row, want_of, first_unwell}
use Rattle.intact.specs.Parts.{entries_of, fault_in, inline_fault, first_short, part_at, parts_in, parts_of}
use Rattle.intact.specs.Told.{found_snapshot}
use Rattle.intact.specs.Visits.{Visit, Ref, Snap, Log, File, Part, op_for, or_nowhere, behind_ref, behind_snapshot}
use Rattle.intact.specs.Intact.{Made, WasAnswered, WasVisited, Named, HasParent, IsAbove, IsIntact}
use Rattle.intact.specs.Intact as intact
use Rattle.repo_check.specs.Exact.{AreDistinct, IsObjectNamed}
use Rattle.repo_check.proofs.Made.{above-then}
use Rattle.ice_ids.proofs.Elements.{first-is, first-or-later, none-in}
use Rattle.check_calls.specs.Whole.{HasBytes, IsWholeChunk, HasEntry, HasLog, IsWholeSnapshot, ChainEnds, last, further, IsWhole}
use Rattle.check_calls.specs.Told.{IsIn, IsOfNoRow, IsExcepted, AreWholeAsRead}
use Rattle.check_calls.proofs.Lists.{has-map, has-flat, has-filter, few, among}
use Rattle.check_calls.proofs.Steady.{last-stands}
use Rattle.check_calls.proofs.Replies.{ref-at, snap-at, log-at, file-at, part-at}
use Rattle.check_calls.proofs.Leads.{has-log, has-file, has-parent, has-part}
use Rattle.check_calls.proofs.Trees.{has-tree}
use Rattle.check_calls.proofs.Course.{Course, got-here, own-visit, get-of_ref, get-of_snap}

-- ---- entries
some-same : {A : Type 0} (a b : A) → Some a ≡ Some b → a ≡ b
some-same a b e = cc

-- a part that was read lies in its object, and is as long as a chunk
record PartFits (p : PartVisit) (bytes : List ℕ) : Type 0 where
  long : p.offset + p.size ≤ length bytes
  size_is : p.size ≡ p.want

part-fits : (p : PartVisit) (bytes got : List ℕ) → read_chunk p.want p.offset p.size bytes ≡ Ok got → PartFits p bytes
part-fits p bytes got e = by (nat_le (p.offset + p.size) (length bytes)) refl (p.size == p.want) refl e
  where
    by : (a : Bool) → nat_le (p.offset + p.size) (length bytes) ≡ a → (b : Bool) → (p.size == p.want) ≡ b
        → cond (a && b) (Ok (given p.offset p.size bytes)) (Err (bad.Chunk p.want (length (given p.offset p.size bytes)))) ≡ Ok got → PartFits p bytes
    by true h true g k = record { long = leb-true (p.offset + p.size) (length bytes) h; size_is = eqb-true p.size p.want g }
    by true h false g k = absurd cc
    by false h true g k = absurd cc
    by false h false g k = absurd cc

-- a chunk that is in its manifest and has no fault is as long as a chunk
inline-long : (want : ℕ) (bytes : List ℕ) → inline_fault want (Inline bytes) ≡ None → length bytes ≡ want
inline-long want bytes e = by (length bytes == want) refl e
  where
    by : (b : Bool) → (length bytes == want) ≡ b → fault_in (cond b (Ok bytes) (Err (bad.Chunk want (length bytes)))) ≡ None → length bytes ≡ want
    by true h k = eqb-true (length bytes) want h
    by false h k = absurd cc

none-short : (want : ℕ) (chunks : List ChunkRef) → first_short want chunks ≡ None → (chunk : ChunkRef) → Contains chunks chunk → inline_fault want chunk.place ≡ None
unfolding first_short
none-short want [] e chunk c = absurd (none-in chunk c)
none-short want (x ∷ xs) e chunk c = by (none-short want xs) (inline_fault want x.place) refl e
  where
    by : (first_short want xs ≡ None → (r : ChunkRef) → Contains xs r → inline_fault want r.place ≡ None) → (o : Option Bad) → inline_fault want x.place ≡ o → option_or o (first_short want xs) ≡ None → inline_fault want chunk.place ≡ None
    by again (Some fault) f k = absurd cc
    by again None f k = elim (first-or-later x chunk xs c) [ inl s ↦ ap (λ (r : ChunkRef). inline_fault want r.place) (sym s) ∙ f | inr l ↦ again k chunk l ]

-- ---- where all is intact, and what stood stands
module _ (snaps : SnapshotLaw) (client : ℕ) (start first end : List Event) (made : List Made) (c : Course client start first end made)
    (carry : (key : Key) → IsObject key → (before after : List Event) → c.between ≡ before ++ after → (s : Stored) → found (first ++ before) key ≡ Some s → found end key ≡ Some s)
    (whole : IsIntact made) where
  -- ---- what was found stands
  pub record SnapHere (id : Id12) : Type 0 where
    pub stored : Stored
    pub stands : found end (Snapshot id) ≡ Some stored
    pub snap : SnapshotFile
    pub read : snapshot_by id stored.bytes ≡ Some snap
    pub no_unwell : first_unwell snap.nodes ≡ None
    pub got : Got
    pub told_by : WasAnswered made (Snap id) (Is_got got)
    pub told_is : found_snapshot id got ≡ Ok snap
    pub named : (w : Visit) → Contains (behind_snapshot id snap) w → Named made w

  pub snap-here : (id : Id12) → Named made (Snap id) → SnapHere id
  snap-here id n =
      let g = got-here client start first end made c (Snap id) (Snapshot id) refl (whole.each (Snap id) n) in
      let a = snap-at id g.now (found (first ++ g.before) (Snapshot id)) g.next g.fine in
      record {
        stored = a.stored;
        stands = carry (Snapshot id) tt g.before g.after g.is a.stored a.stands;
        snap = a.snap;
        read = ap result_ok a.read;
        no_unwell = a.no_unwell;
        got = got_of g.now (found (first ++ g.before) (Snapshot id));
        told_by = g.told_is;
        told_is = a.told_is;
        named = λ w k. intact.behind n g.told_is (subst (λ (l : List Visit). Contains l w) (sym (g.leads_is ∙ a.leads)) k);
      }

  -- by any reply that was a snapshot
  snap-told : (id : Id12) → Named made (Snap id) → (bytes : List ℕ) (version now : ℕ) → WasAnswered made (Snap id) (Is_got (Found bytes (version_at version) now)) → (snap : SnapshotFile) → snapshot_by id bytes ≡ Some snap → (w : Visit) → Contains (behind_snapshot id snap) w → Named made w
  snap-told id n bytes version now t snap read w k =
      let fine = (whole.each (Snap id) n).each (Is_got (Found bytes (version_at version) now)) t in
      let a = snap-at id now (Some (record { bytes = bytes; version = version; created = 0 })) fine.next fine.is in
      let same_bytes : a.stored.bytes ≡ bytes = let e = a.stands in cc in
      let other : snapshot_by id bytes ≡ Some a.snap = ap (snapshot_by id) (sym same_bytes) ∙ ap result_ok a.read in
      let same : snap ≡ a.snap = some-same snap a.snap (sym read ∙ other) in
      intact.behind n t (subst (λ (l : List Visit). Contains l w) (sym (ap or_nowhere fine.is ∙ a.leads)) (subst (λ (s : SnapshotFile). Contains (behind_snapshot id s) w) same k))

  log-here : (id : Id12) → Named made (Log id) → HasLog end id
  log-here id n =
      let g = got-here client start first end made c (Log id) (Txn id) refl (whole.each (Log id) n) in
      let a = log-at id g.now (found (first ++ g.before) (Txn id)) g.next g.fine in
      record { stored = a.stored; stands = carry (Txn id) tt g.before g.after g.is a.stored a.stands; log = a.log; read = ap result_ok a.read }

  record FileHere (f : FileVisit) : Type 0 where
    stored : Stored
    stands : found end (Manifest f.manifest) ≡ Some stored
    file : ManifestFile
    put : manifest_put (puts_of end) f.manifest ≡ Some file
    no_short : first_short f.want (entries_of f.node file) ≡ None
    named : (p : PartVisit) → Contains (parts_of f file) p → Named made (Part p)

  file-here : (f : FileVisit) → Named made (File f) → FileHere f
  file-here f n =
      let g = got-here client start first end made c (File f) (Manifest f.manifest) refl (whole.each (File f) n) in
      let a = file-at f g.now (found (first ++ g.before) (Manifest f.manifest)) g.next g.fine in
      let stands = carry (Manifest f.manifest) tt g.before g.after g.is a.stored a.stands in
      record {
        stored = a.stored;
        stands = stands;
        file = a.file;
        put = ap (option_and_then (manifest_by f.manifest)) (last-stands end (Manifest f.manifest) a.stored stands) ∙ ap result_ok a.read;
        no_short = a.no_short;
        named = λ p k. intact.behind n g.told_is (subst (λ (l : List Visit). Contains l (Part p)) (sym (g.leads_is ∙ a.leads)) (has-part f a.file p k));
      }

  part-here : (p : PartVisit) → Named made (Part p) → (p.size ≡ p.want) × HasBytes end p.object (p.offset + p.size)
  part-here p n =
      let g = got-here client start first end made c (Part p) (Chunk p.object) refl (whole.each (Part p) n) in
      let a = part-at p g.now (found (first ++ g.before) (Chunk p.object)) g.next g.fine in
      let fits = part-fits p a.stored.bytes a.bytes a.read in
      (fits.size_is, record { stored = a.stored; stands = carry (Chunk p.object) tt g.before g.after g.is a.stored a.stands; long = fits.long })

  -- ---- a snapshot is whole
  whole-entry : (want : ℕ) (chunks : List ChunkRef) → first_short want chunks ≡ None → ((p : PartVisit) → Contains (parts_in want chunks) p → Named made (Part p)) → (chunk : ChunkRef) → Contains chunks chunk → IsWholeChunk end want chunk.place
  whole-entry want chunks none named chunk k = by chunk.place refl
    where
      by : (place : Place) → chunk.place ≡ place → IsWholeChunk end want place
      by (Inline bytes) e = inline-long want bytes (ap (inline_fault want) (sym e) ∙ none-short want chunks none chunk k)
      by (Object id offset size) e =
          let p : PartVisit = record { object = id; offset = offset; size = size; want = want } in
          part-here p (named p (has-filter (λ (x : ChunkRef). part_at want x.place) chunks chunk p k (ap (part_at want) e)))

  module _ (id : Id12) (n : Named made (Snap id)) where
    abbrev h : SnapHere id
    h = snap-here id n

    pub row-file : (row : NodeRow) (m : ManifestRef) → Contains (h.snap.nodes) row → Contains (manifests_named row.kind) m → Named made (File (file_for row m))
    row-file row m k d =
        h.named (File (file_for row m))
        (has-file id h.snap (file_for row m) (has-flat (λ (r : NodeRow). files_of_row r) h.snap.nodes row (file_for row m) k (has-map (λ (x : ManifestRef). file_for row x) (manifests_named row.kind) m d)))

    row-manifests : (row : NodeRow) (m : ManifestRef) → Contains (h.snap.nodes) row → Contains (manifests_named row.kind) m → IsSome (manifest_put (puts_of end) m.id)
    row-manifests row m k d = ap is_some (file-here (file_for row m) (row-file row m k d)).put

    row-chunks : (row : NodeRow) (chunk : ChunkRef) → Contains (h.snap.nodes) row → HasEntry (puts_of end) row chunk → IsWholeChunk end (want_of row) chunk.place
    row-chunks row chunk k e =
        let f = file-here (file_for row e.manifest) (row-file row e.manifest k e.named) in
        let same : e.file ≡ f.file = some-same e.file f.file (sym e.is ∙ f.put) in
        whole-entry (want_of row) (entries_of row.id f.file) f.no_short f.named chunk (subst (λ (x : ManifestFile). Contains (entries_of row.id x) chunk) same e.has)

    whole-log : (id ≡ initial_id) ⊎ HasLog end id
    whole-log = by (same_id12 id initial_id) refl
      where
        by : (b : Bool) → same_id12 id initial_id ≡ b → (id ≡ initial_id) ⊎ HasLog end id
        by true e = inl (same_id12-true id initial_id e)
        by false e = inr (log-here id (h.named (Log id) (has-log id h.snap e)))

    named-stands : (manifest : Id12) → NamesManifest (h.snap.nodes) manifest → Stands end (Manifest manifest)
    named-stands manifest x =
        let f = file-here (file_for x.row x.manifest) (row-file x.row x.manifest x.among x.named) in
        subst (λ (i : Id12). Stands end (Manifest i)) x.is (f.stored, f.stands)

    pub whole-snapshot : IsWholeSnapshot end id
    whole-snapshot = record {
      stored = h.stored;
      stands = h.stands;
      snap = h.snap;
      read = h.read;
      tree = has-tree end h.snap (snaps.read id h.stored.bytes h.snap h.read) h.no_unwell row-manifests row-chunks;
      log = whole-log;
      manifests = named-stands;
      chunks = row-chunks;
    }

    -- ---- its parent
    parent-is : parent_at end id ≡ h.snap.parent
    parent-is =
        ap (λ (o : Option (List ℕ)). option_and_then (λ (s : SnapshotFile). s.parent) (snap_in id o)) (last-stands end (Snapshot id) h.stored h.stands)
        ∙ ap (option_and_then (λ (s : SnapshotFile). s.parent)) h.read

    parent-named : (parent : Id12) → parent_at end id ≡ Some parent → Named made (Snap parent)
    parent-named parent e = h.named (Snap parent) (has-parent id h.snap parent (sym parent-is ∙ e))

    parent-made : (parent : Id12) → parent_at end id ≡ Some parent → HasParent made id parent
    parent-made parent e = record { got = h.got; answered = h.told_by; file = h.snap; read = h.told_is; is = sym parent-is ∙ e }

    snap-rows : rows_of end id ≡ Some h.snap.nodes
    snap-rows =
        ap (λ (o : Option (List ℕ)). option_map (λ (s : SnapshotFile). s.nodes) (snap_in id o)) (last-stands end (Snapshot id) h.stored h.stands)
        ∙ ap (option_map (λ (s : SnapshotFile). s.nodes)) h.read

  pub down-named : (id at : Id12) → Chain end id at → Named made (Snap id) → Named made (Snap at)
  down-named id at here n = n
  down-named id at (down {parent = parent} e k) n = down-named parent at k (parent-named id n parent e)

  -- ---- the chain ends, since there are so many snapshots at most
  module _ (ids : List Id12) (all : (id : Id12) → Named made (Snap id) → Contains ids id) where
    abbrev Walks : ℕ → Type 0
    Walks fuel = (seen : List Id12) (id : Id12) → AreDistinct seen → ((x : Id12) → Contains seen x → Named made (Snap x)) → ((x : Id12) → Contains seen x → IsAbove made x id) → Named made (Snap id) → length ids < fuel + length seen → ChainEnds end id

    walk-ends : (fuel : ℕ) → Walks fuel
    walk-ends zero seen id distinct named above n lt = let most = few seen ids distinct (λ x k. all x (named x k)) in absurd (omega (arith, lt, most))
    walk-ends (suc fuel) seen id distinct named above n lt = by (walk-ends fuel) (parent_at end id) refl
      where
        by : Walks fuel → (o : Option Id12) → parent_at end id ≡ o → ChainEnds end id
        by again None e = last e
        by again (Some parent) e =
            further e
            (again (id ∷ seen) parent ((λ k. whole.onward id n (above id k)), distinct)
            (λ x k. elim (first-or-later id x seen k) [ inl s ↦ subst (λ (y : Id12). Named made (Snap y)) s n | inr l ↦ named x l ])
            (λ x k. elim (first-or-later id x seen k) [
              | inl s ↦ subst (λ (y : Id12). IsAbove made y parent) s (intact.next (parent-made id n parent e))
              | inr l ↦ above-then made x id parent (above x l) (parent-made id n parent e)
            ])
            (parent-named id n parent e) (omega (arith, lt)))

    pub whole-at : (id : Id12) → Named made (Snap id) → IsWhole end id
    whole-at id n = record {
      ends = walk-ends (suc (length ids)) [] id tt (λ x k. absurd (none-in x k)) (λ x k. absurd (none-in x k)) n (omega arith);
      each = λ at k. whole-snapshot at (down-named id at k n);
    }

    -- ---- what is reached stands
    module _ (objects : List Id12) (parts : (id : Id12) → IsObjectNamed made id → Contains objects id) (some : (id : Id12) → Contains objects id → IsObjectNamed made id) (back : (id : Id12) → Contains ids id → Named made (Snap id))
        (own : (v : Visit) → WasVisited made v → Named made v) where
      initial-stands : Stands end (Snapshot initial_id) ⊎ IsExcepted client start end (Snapshot initial_id)
      initial-stands = elim (among ids initial_id) [
        | inl k ↦ (let s = snap-here initial_id (back initial_id k) in inl (s.stored, s.stands))
        | inr unlisted ↦ inr (refl, λ reply got. let v = own-visit client start first end made c (Get (Snapshot initial_id)) reply got in not-got unlisted v.visit (own v.visit (record { reply = reply; told = v.told })) v.op_is)
      ]
        where
          not-got : (Contains ids initial_id → ⊥) → (v : Visit) → Named made v → op_for v ≡ Get (Snapshot initial_id) → ⊥
          not-got unlisted v n e = unlisted (all initial_id (subst (Named made) (get-of_snap client start first end made c v initial_id n e) n))

      -- an object of no part that was read is one that no row names
      of-no-row : (object : Id12) → (Contains objects object → ⊥) → IsOfNoRow client object start end
      of-no-row object unlisted id snap read row chunk k e isin =
          let own_get = read.got.own in
          let v = own-visit client start first end made c (Get (Snapshot id)) (Is_got (Found read.bytes (version_at read.version) read.got.now)) own_get in
          let n = own v.visit (record { reply = Is_got (Found read.bytes (version_at read.version) read.got.now); told = v.told }) in
          let is = get-of_snap client start first end made c v.visit id n v.op_is in
          let told_by = subst (λ (x : Visit). WasAnswered made x (Is_got (Found read.bytes (version_at read.version) read.got.now))) is v.told in
          let named = snap-told id (subst (Named made) is n) read.bytes read.version read.got.now told_by snap read.read in
          let visit = file_for row e.manifest in
          let file = file-here visit (named (File visit) (has-file id snap visit (has-flat (λ (r : NodeRow). files_of_row r) snap.nodes row visit k (has-map (λ (x : ManifestRef). file_for row x) (manifests_named row.kind) e.manifest e.named)))) in
          let same : e.file ≡ file.file = some-same e.file file.file (sym e.is ∙ file.put) in
          by file.file file.named (subst (λ (x : ManifestFile). Contains (entries_of row.id x) chunk) same e.has) chunk.place refl isin
        where
          by : (file : ManifestFile) → ((p : PartVisit) → Contains (parts_in (want_of row) (entries_of row.id file)) p → Named made (Part p)) → Contains (entries_of row.id file) chunk → (place : Place) → chunk.place ≡ place → IsIn object place → ⊥
          by file named has (Inline bytes) e within = within
          by file named has (Object x offset size) e within =
              let p : PartVisit = record { object = x; offset = offset; size = size; want = want_of row } in
              unlisted (parts object (record { part = p; named = named p (has-filter (λ (r : ChunkRef). part_at (want_of row) r.place) (entries_of row.id file) chunk p has (ap (part_at (want_of row)) e)); object_is = within }))

      object-stands : (object : Id12) → Stands end (Chunk object) ⊎ IsExcepted client start end (Chunk object)
      object-stands object = elim (among objects object) [
        | inl k ↦ (
            let o = some object k in
            let b = (part-here o.part o.named).1 in
            inl (subst (λ (x : Id12). Stands end (Chunk x)) o.object_is (b.stored, b.stands))
            )
        | inr unlisted ↦ inr (of-no-row object unlisted)
      ]

      held-stands : (at : Id12) → Named made (Snap at) → (key : Key) → Holds end at key → Stands end key ⊎ IsExcepted client start end key
      held-stands at n (Txn log) h = elim (whole-log at n) [
        | inl e ↦ inr (h ∙ e)
        | inr l ↦ inl (subst (λ (x : Id12). Stands end (Txn x)) (sym h) (l.stored, l.stands))
      ]
      held-stands at n (Manifest manifest) h =
          let s = snap-here at n in
          let same : h.rows ≡ s.snap.nodes = some-same h.rows s.snap.nodes (sym h.are ∙ snap-rows at n) in
          inl (named-stands at n manifest (subst (λ (rows : List NodeRow). NamesManifest rows manifest) same h.names))
      held-stands at n (Chunk object) h = object-stands object
      held-stands at n (Snapshot id) h = absurd h
      held-stands at n (Branch name) h = absurd h
      held-stands at n (Tag name) h = absurd h
      held-stands at n (Tombstone name) h = absurd h
      held-stands at n (Lease id) h = absurd h

      reached-stands : (id : Id12) → Named made (Snap id) → (key : Key) → Reaches end id key → Stands end key ⊎ IsExcepted client start end key
      reached-stands id n key (inl is) = subst (λ (k : Key). Stands end k ⊎ IsExcepted client start end k) (sym is) initial-stands
      reached-stands id n key (inr r) =
          let at = down-named id r.at r.chain n in
          elim r.has [
            | inl is ↦ (let s = snap-here r.at at in inl (subst (λ (k : Key). Stands end k) (sym is) (s.stored, s.stands)))
            | inr held ↦ held-stands r.at at key held
          ]

      -- ---- refs as read
      read-named : (ref : Key) (version : Version) (id : Id12) → IsRef ref → WasRef client ref version id start end → Named made (Snap id)
      read-named ref version id is_ref r =
          let reply = Is_got (Found r.bytes (version_at version.0) r.got.now) in
          let v = own-visit client start first end made c (Get ref) reply r.got.own in
          let is = get-of_ref client start first end made c v.visit ref is_ref v.op_is in
          let told_by = subst (λ (x : Visit). WasAnswered made x reply) is v.told in
          let n = own (Ref ref) (record { reply = reply; told = told_by }) in
          let fine = (whole.each (Ref ref) n).each reply told_by in
          let a = ref-at r.got.now (record { bytes = r.bytes; version = version.0; created = 0 }) fine.next fine.is in
          let same : a.id ≡ id = some-same a.id id (sym (ap result_ok a.read) ∙ r.names) in
          intact.behind n told_by (subst (λ (l : List Visit). Contains l (Snap id)) (sym (ap or_nowhere fine.is ∙ (a.leads ∙ ap (λ (x : Id12). behind_ref (Some x)) same))) (first-is (Snap id) []))

      pub as-read : AreWholeAsRead client start end
      as-read = record {
        whole = λ ref version id is_ref r. whole-at id (read-named ref version id is_ref r);
        stands = λ ref version id is_ref r key k. reached-stands id (read-named ref version id is_ref r) key k;
      }
