-- Each operation of a marking may be made, and its end is as it should be, whatever it is told.
use Rattle.std.proofs.Common.{◌≡◌, ◌⊎◌, inl, inr, ℕ, zero, suc, ◌+◌, Bool, true, false, cond, List, [], ◌∷◌, ◌++◌, length, refl, sym, ◌∙◌, ap, subst, arith}
use Rattle.std.specs.Prelude.{Option, Some, None, Result, Ok, Err, Contains, nat_lt}
use Rattle.std.specs.Result.{result_ok}
use Rattle.std.proofs.lemmas.Bool.{ltb-true}
use Rattle.std.proofs.lemmas.List.{length_push}
use Rattle.std.proofs.lemmas.List.Elements.{Contains-append_left, Contains-push_cases}
use Rattle.ice_ids.specs.declared.Id12.{Id12}
use Rattle.snapshot_file.specs.declared.snapshot.SnapshotFile.{SnapshotFile}
use Rattle.manifest_file.specs.declared.manifest.ManifestFile.{ManifestFile}
use Rattle.held_manifest.specs.Laws.{ObjectsLaw}
use Rattle.repo_objects.specs.declared.bad_objects.Bad.{Bad}
use Rattle.repo_objects.specs.Readings.{read_snapshot, read_manifest, read_ref, ref_of}
use Rattle.repo_objects.specs.Laws.{SnapshotLaw, ManifestLaw}
use Rattle.object_store.specs.declared.keys.Key.{Key}
use Rattle.object_store.specs.declared.keys.Key.TheVariants.{Snapshot, Manifest, Txn, Chunk, Branch, Tag, Tombstone, Lease}
use Rattle.object_store.specs.declared.keys.Part.{Part}
use Rattle.object_store.specs.declared.keys.Part.TheVariants.{Snapshots, Manifests, Txns, Chunks, Branches, Tags, Leases}
use Rattle.object_store.specs.declared.events.Entry.{Entry}
use Rattle.object_store.specs.declared.events.Listed.{Listed}
use Rattle.object_store.specs.declared.events.Op.{Op}
use Rattle.object_store.specs.declared.events.Op.TheVariants.{Get, List as ListPart}
use Rattle.object_store.specs.declared.events.Got.{Got}
use Rattle.object_store.specs.declared.events.Got.TheVariants.{Found, Absent}
use Rattle.object_store.specs.declared.events.Version.{Version}
use Rattle.object_store.specs.declared.events.Reply.{Reply}
use Rattle.object_store.specs.declared.events.Reply.TheVariants.{Got as Is_got, New as Is_new, Over as Is_over, Gone as Is_gone, GoneAt as Is_gone_at, Listed as Is_listed, Failed}
use Rattle.store_api.specs.declared.machines.Refusal.{Refusal}
use Rattle.store_api.specs.declared.machines.Refusal.TheVariants.{CutoffAhead, Missing, StoreFault}
use Rattle.store_api.specs.Callers.{Fits, has_failed}
use Rattle.store_api.specs.Program.{Done, Ask}
use Rattle.store_api.specs.Running.{on_answer}
use Rattle.repo_read.specs.Answers.{at_key}
use Rattle.repo_read.specs.Chains.{most_snapshots}
use Rattle.live_refs.specs.Live.{live}
use Rattle.collecting.specs.Marks as marks
use Rattle.collecting.specs.Walks.{Walk, fresh, Marked, IsFound, IsNeeded, IsNamedBy, Nothing, IsAbsent, IsRead, IsFileRead, IsClosedBy, IsClosed, IsWantedBy, RefsRead, May, ended, with_root, with_leased, with_read, told_ref, told_lease, told_object, told_got, told}
use Rattle.collecting.specs.Walks as walks
use Rattle.repo_objects.specs.Lines.{enter_ids}
use Rattle.chunk_gc.specs.Told.{listed_told, first_told, some_of, ref_got, unless_passed, snapshot_got, manifest_got}
use Rattle.chunk_gc.specs.Programs.{Answer, Work, no_work, with_ref, with_lease, get_refs, with_objects, with_file, leaving_files, get_files, with_snapshot, leaving_snapshots, mark_got, mark_last, mark_next, mark, mark_leased, mark_needed, begin_leased, sweeping, swept, dooms, list_objects, told_doomed, list_chunks, list_manifests, list_logs, list_snapshots, marking, list_leases, list_tags, mark_program}
use Rattle.chunk_gc.specs.Exact.{Deed, Picks, InOrder, Cause}
use Rattle.chunk_gc.specs.Exact as exact
use Rattle.repo_objects.proofs.Entering.{enters-some, enters-ids, enters-rows}
use Rattle.ice_ids.proofs.OneMore.{Has}
use Rattle.ice_ids.proofs.Elements.{first-is, later-is, none-in}
use Rattle.chunk_gc.proofs.Marking.{HoldsBy, Holds, roots_in, ListedIn, holds-nothing, holds-root, holds-leased, holds-read, holds-passed, holds-file, holds-file-passed, all-closed, needed-in, needed-closed, marked-listed, listed-marked, wanted-file, wanted-snapshot, needed-file, needed-snapshot}
use Rattle.chunk_gc.proofs.Once.{Once, once-none, once-some, once-ids, once-taken, once-passed}
use Rattle.chunk_gc.proofs.Sweeping.{swept-picks, picks-append}

-- ---- what a collection was told, and the last of it
pub record Trail : Type 0 where
  pub walk : Walk
  pub last : Option Deed

abbrev pub deed : Op → Reply → Option Deed
deed op reply = Some (record { op = op; reply = reply })

abbrev pub follow : ℕ → Trail → Op → Reply → Trail
follow cutoff t op reply = record { walk = told cutoff t.walk op reply; last = deed op reply }

-- no removal was answered yet
abbrev pub IsCalm : Walk → Type 0
IsCalm w = (w.answered ≡ []) × (w.removed ≡ [])

-- Each operation of a program may be made, none is a removal, and Q holds of whatever it answers, whatever it is told.
unfoldable pub Marks : ℕ → (Trail → Result (List Key) Refusal → Type 0) → Trail → Answer → Type 0
Marks cutoff Q t (Done a) = IsCalm t.walk × Q t a
Marks cutoff Q t (Ask op next) = IsCalm t.walk × (May cutoff t.walk op × InOrder cutoff t.walk op) × ((reply : Reply) → Marks cutoff Q (follow cutoff t op reply) (next reply))

pub marks-calm : (cutoff : ℕ) (Q : Trail → Result (List Key) Refusal → Type 0) (t : Trail) (p : Answer) → Marks cutoff Q t p → IsCalm t.walk
unfolding Marks
marks-calm cutoff Q t (Done a) m = m.0
marks-calm cutoff Q t (Ask op next) m = m.0

-- all is listed, and these are the keys of what is doomed
pub record IsMarked (cutoff : ℕ) (w : Walk) (keys : List Key) : Type 0 where
  pub over : w.over ≡ false
  pub refs : RefsRead w
  pub lists : w.lists ≡ 4
  pub picks : Picks cutoff (Marked w) w.listed keys

abbrev pub MarkEnds : ℕ → Trail → Result (List Key) Refusal → Type 0
MarkEnds cutoff t (Ok keys) = IsMarked cutoff t.walk keys
MarkEnds cutoff t (Err why) = Cause cutoff t.walk t.last why

module _ (cutoff : ℕ) (snaps : SnapshotLaw) (files : ManifestLaw) (objects : ObjectsLaw) where
  abbrev Goes : Trail → Answer → Type 0
  Goes t p = Marks cutoff (MarkEnds cutoff) t p

  move : (w v : Walk) (last : Option Deed) (p : Answer) → w ≡ v → Goes (record { walk = v; last = last }) p → Goes (record { walk = w; last = last }) p
  move w v last p e g = subst (λ (x : Walk). Goes (record { walk = x; last = last }) p) (sym e) g

  -- ---- the listings of objects
  -- where the same was found, read and passed over
  closed-as : (Among : Id12 → Type 0) (Passed : Key → Type 0) (v w : Walk) → ((id : Id12) → IsRead v id → IsRead w id) → ((id : Id12) → IsFileRead v id → IsFileRead w id) → ((s : SnapshotFile) → Contains w.reads s → Contains v.reads s) → IsClosedBy Among Passed v → IsClosedBy Among Passed w
  closed-as Among Passed v w reads files_read back c = record {
    snapshots = λ id a. elim (c.snapshots id a) [ inl e ↦ inl e | inr got ↦ inr (elim got [ inl r ↦ inl (reads id r) | inr p ↦ inr p ]) ];
    manifests = λ id a. elim (c.manifests id (record { snap = a.snap; read = back a.snap a.read; found = a.found; names = a.names })) [ inl f ↦ inl (files_read id f) | inr p ↦ inr p ];
  }

  closed-more : (v : Walk) (n : ℕ) (entries : List Entry) → IsClosed v → IsClosed (record v { lists = n; listed = entries })
  closed-more v n entries c = record { needed = again (IsNeeded v) Nothing c.needed; all = again (IsFound v) (IsAbsent v) c.all }
    where
      again : (Among : Id12 → Type 0) (Passed : Key → Type 0) → IsClosedBy Among Passed v → IsClosedBy Among Passed (record v { lists = n; listed = entries })
      again Among Passed k = closed-as Among Passed v (record v { lists = n; listed = entries }) (λ id r. record { snap = r.snap; read = r.read; id_is = r.id_is }) (λ id f. record { file = f.file; read = f.read; id_is = f.id_is }) (λ s h. h) k

  record Sweeps (n : ℕ) (w : Work) (v : Walk) : Type 0 where
    over : v.over ≡ false
    calm : IsCalm v
    lists : v.lists ≡ n
    refs : RefsRead v
    closed : IsClosed v
    cut : w.cutoff ≡ cutoff
    marked : (key : Key) → Marked v key → ListedIn w key
    unmarked : (key : Key) → ListedIn w key → Marked v key
    picks : Picks cutoff (Marked v) v.listed w.doomed

  abbrev with_listed : List Entry → Walk → Walk
  with_listed entries v = record v { lists = v.lists + 1; listed = v.listed ++ entries }

  same-in : (w : Work) (entries : List Entry) (key : Key) → ListedIn w key → ListedIn (sweeping entries w) key
  same-in w entries (Snapshot id) h = h
  same-in w entries (Txn id) h = h
  same-in w entries (Manifest id) h = h
  same-in w entries (Chunk id) h = h
  same-in w entries (Branch name) h = h
  same-in w entries (Tag name) h = h
  same-in w entries (Tombstone name) h = h
  same-in w entries (Lease id) h = h

  same-out : (w : Work) (entries : List Entry) (key : Key) → ListedIn (sweeping entries w) key → ListedIn w key
  same-out w entries (Snapshot id) h = h
  same-out w entries (Txn id) h = h
  same-out w entries (Manifest id) h = h
  same-out w entries (Chunk id) h = h
  same-out w entries (Branch name) h = h
  same-out w entries (Tag name) h = h
  same-out w entries (Tombstone name) h = h
  same-out w entries (Lease id) h = h

  sweeps-more : (n : ℕ) (w : Work) (v : Walk) (entries : List Entry) → Sweeps n w v → Sweeps (n + 1) (sweeping entries w) (with_listed entries v)
  sweeps-more n w v entries s = record {
    over = s.over;
    calm = s.calm;
    lists = ap (λ (k : ℕ). k + 1) s.lists;
    refs = s.refs;
    closed = closed-more v (v.lists + 1) (v.listed ++ entries) s.closed;
    cut = s.cut;
    marked = λ key m. same-in w entries key (s.marked key m);
    unmarked = λ key l. s.unmarked key (same-out w entries key l);
    picks = picks-append cutoff (Marked v) v.listed entries w.doomed (swept (dooms w) entries) s.picks (swept-picks cutoff w (Marked v) s.cut s.marked s.unmarked entries);
  }

  -- an operation that failed, or has a reply of another kind
  failed : (v : Walk) (op : Op) (reply : Reply) → IsCalm v → (Fits op reply → has_failed reply ≡ true) → Goes (record { walk = ended v; last = deed op reply }) (Done (Err StoreFault))
  unfolding Marks
  failed v op reply c f = (c, record { deed = record { op = op; reply = reply }; is = refl; failed = f })

  -- a listing of objects
  module _ (part : Part) (tells : (v : Walk) (l : Listed) → told cutoff v (ListPart part) (Is_listed l) ≡ with_listed l.entries v) where
    goes-objects : (n : ℕ) (w : Work) (t : Trail) (next : Work → Answer) → Sweeps n w t.walk → May cutoff t.walk (ListPart part) → ((v : Work) (u : Trail) → Sweeps (n + 1) v u.walk → Goes u (next v)) → Goes t (list_objects part next w)
    unfolding Marks
    goes-objects n w t next s may again = (s.calm, (may, tt), by)
      where
        by : (reply : Reply) → Goes (follow cutoff t (ListPart part) reply) (on_answer (λ l. next (sweeping l.entries w)) (listed_told reply))
        by (Is_listed l) = move (told cutoff t.walk (ListPart part) (Is_listed l)) (with_listed l.entries t.walk) (deed (ListPart part) (Is_listed l)) (next (sweeping l.entries w)) (tells t.walk l) (again (sweeping l.entries w) (record { walk = with_listed l.entries t.walk; last = deed (ListPart part) (Is_listed l) }) (sweeps-more n w t.walk l.entries s))
        by (Failed d) = failed t.walk (ListPart part) (Failed d) s.calm (λ f. refl)
        by (Is_got x) = failed t.walk (ListPart part) (Is_got x) s.calm (λ f. absurd f)
        by (Is_new x) = failed t.walk (ListPart part) (Is_new x) s.calm (λ f. absurd f)
        by (Is_over x) = failed t.walk (ListPart part) (Is_over x) s.calm (λ f. absurd f)
        by (Is_gone x) = failed t.walk (ListPart part) (Is_gone x) s.calm (λ f. absurd f)
        by (Is_gone_at x) = failed t.walk (ListPart part) (Is_gone_at x) s.calm (λ f. absurd f)

  goes-doomed : (w : Work) (t : Trail) → Sweeps 4 w t.walk → Goes t (told_doomed w)
  unfolding Marks
  goes-doomed w t s = (s.calm, record { over = s.over; refs = s.refs; lists = s.lists; picks = s.picks })

  goes-chunks : (w : Work) (t : Trail) → Sweeps 3 w t.walk → Goes t (list_chunks w)
  goes-chunks w t s = goes-objects Chunks (λ v l. refl) 3 w t told_doomed s (s.over, (s.refs, s.lists, s.closed)) goes-doomed

  goes-manifests : (w : Work) (t : Trail) → Sweeps 2 w t.walk → Goes t (list_manifests w)
  goes-manifests w t s = goes-objects Manifests (λ v l. refl) 2 w t list_chunks s (s.over, (s.refs, s.lists, s.closed)) goes-chunks

  goes-logs : (w : Work) (t : Trail) → Sweeps 1 w t.walk → Goes t (list_logs w)
  goes-logs w t s = goes-objects Txns (λ v l. refl) 1 w t list_manifests s (s.over, (s.refs, s.lists, s.closed)) goes-manifests

  goes-snapshots : (w : Work) (t : Trail) → Sweeps 0 w t.walk → Goes t (list_snapshots w)
  goes-snapshots w t s = goes-objects Snapshots (λ v l. refl) 0 w t list_logs s (s.over, (s.refs, s.lists, s.closed)) goes-logs

  -- ---- before these listings
  -- while what leases need is marked: all is got that refs need, and nothing that is still to be got is of it
  record Apart (w : Work) (v : Walk) : Type 0 where
    needed : IsClosedBy (IsNeeded v) Nothing v
    snapshots_apart : (id : Id12) → Contains w.snapshots.todo id → IsNeeded v id → ⊥
    files_apart : (id : Id12) → Contains w.files.todo id → IsNamedBy (IsNeeded v) v id → ⊥

  -- while what refs need is marked: what leases named is held, and nothing was passed over
  abbrev Side : (passes : Bool) → Work → Walk → Type 0
  Side false w v = (w.leased ≡ v.leased) × (v.absent ≡ [])
  Side true w v = Apart w v

  -- so many snapshots were read, and these manifests are still to be got
  record Ready (passes : Bool) (reads : ℕ) (ids : List Id12) (w : Work) (v : Walk) : Type 0 where
    over : v.over ≡ false
    calm : IsCalm v
    lists : v.lists ≡ 0
    listed : v.listed ≡ []
    doomed : w.doomed ≡ []
    cut : w.cutoff ≡ cutoff
    got : length v.reads ≡ reads
    waits : w.files.todo ≡ ids
    phase : w.passes ≡ passes
    holds : Holds passes w v
    once : Once w.snapshots v.reads
    side : Side passes w v

  -- what is told of a snapshot or a manifest
  told-wanted : (v : Walk) (key : Key) (got : Got) → RefsRead v → told cutoff v (Get key) (Is_got got) ≡ told_object v key got
  told-wanted v key got refs =
      ap (λ (b : Option (List Key)). told_got b v.tags v.leases v key got) refs.0 ∙ (ap (λ (g : Option (List Key)). told_got (Some []) g v.leases v key got) refs.1
      ∙ ap (λ (l : Option (List Key)). told_got (Some []) (Some []) l v key got) refs.2)

  abbrev with_absent : Walk → Key → Walk
  with_absent v key = record v { absent = v.absent ++ key ∷ [] }

  missing : (v : Walk) (key : Key) (now : ℕ) → IsCalm v → IsWantedBy (IsNeeded v) (with_absent v key) key → Goes (record { walk = with_absent v key; last = deed (Get key) (Is_got (Absent now)) }) (Done (Err (Missing key)))
  unfolding Marks
  missing v key now c needed = (c, record { needed = needed; now = now; is = refl })

  -- ---- what more is told while what leases need is marked
  -- a manifest was read or passed over
  apart-file : (w : Work) (v u : Walk) (id : Id12) (ids : List Id12) (chunks : List Id12) → w.files.todo ≡ id ∷ ids → u.roots ≡ v.roots → u.reads ≡ v.reads → ((n : Id12) → IsFileRead v n → IsFileRead u n) → Apart w v → Apart (record w { files = record { all = w.files.all; todo = ids }; chunks = chunks }) u
  apart-file w v u id ids chunks is roots reads read a = record {
    needed = record {
      snapshots = λ n f. elim (a.needed.snapshots n (found-back n f)) [
        | inl e ↦ inl e
        | inr got ↦ inr (elim got [ inl r ↦ inl (record { snap = r.snap; read = subst (λ (l : List SnapshotFile). Contains l r.snap) (sym reads) r.read; id_is = r.id_is }) | inr p ↦ inr p ])
      ];
      manifests = λ n f. elim (a.needed.manifests n (named-back n f)) [ inl m ↦ inl (read n m) | inr p ↦ inr p ];
    };
    snapshots_apart = λ n h f. a.snapshots_apart n h (found-back n f);
    files_apart = λ n h f. a.files_apart n (subst (λ (l : List Id12). Contains l n) (sym is) (later-is id n ids h)) (named-back n f);
  }
    where
      found-back : (n : Id12) → IsNeeded u n → IsNeeded v n
      found-back n f = subst (λ (rs : List Id12). marks.FoundBy rs v.reads n) roots (subst (λ (l : List SnapshotFile). marks.FoundBy u.roots l n) reads f)

      named-back : (n : Id12) → IsNamedBy (IsNeeded u) u n → IsNamedBy (IsNeeded v) v n
      named-back n f = record { snap = f.snap; read = subst (λ (l : List SnapshotFile). Contains l f.snap) reads f.read; found = found-back f.snap.id f.found; names = f.names }

  -- a snapshot was passed over
  apart-passed : (w : Work) (v : Walk) (id : Id12) (ids : List Id12) → w.snapshots.todo ≡ id ∷ ids → Apart w v → Apart (leaving_snapshots ids w) (with_absent v (Snapshot id))
  apart-passed w v id ids is a = record {
    needed = closed-as (IsNeeded v) Nothing v (with_absent v (Snapshot id)) (λ n r. record { snap = r.snap; read = r.read; id_is = r.id_is }) (λ n f. record { file = f.file; read = f.read; id_is = f.id_is }) (λ s h. h) a.needed;
    snapshots_apart = λ n h f. a.snapshots_apart n (subst (λ (l : List Id12). Contains l n) (sym is) (later-is id n ids h)) f;
    files_apart = λ n h f. a.files_apart n h (record { snap = f.snap; read = f.read; found = f.found; names = f.names });
  }

  -- a snapshot was read: refs need no more than before
  module _ (w : Work) (v : Walk) (id : Id12) (ids : List Id12) (s : SnapshotFile) (own : s.id ≡ id) (is : w.snapshots.todo ≡ id ∷ ids) (h : Holds true w v) (a : Apart w v) where
    not-needed : IsNeeded v s.id → ⊥
    not-needed f = a.snapshots_apart id (subst (λ (l : List Id12). Contains l id) (sym is) (first-is id ids)) (subst (λ (x : Id12). IsNeeded v x) own f)

    needed-back : (n : Id12) → marks.FoundBy v.roots (v.reads ++ s ∷ []) n → marks.FoundBy v.roots v.reads n
    needed-back n (marks.named r) = marks.named r
    needed-back n (marks.below x among f p) = at (needed-back x.id f) (Contains-push_cases v.reads s x among)
      where
        at : IsNeeded v x.id → Contains v.reads x ⊎ (s ≡ x) → marks.FoundBy v.roots v.reads n
        at found (inl old) = marks.below x old found p
        at found (inr same) = absurd (not-needed (subst (λ (y : SnapshotFile). IsNeeded v y.id) (sym same) found))

    named-back : (n : Id12) → IsNamedBy (IsNeeded (record v { reads = v.reads ++ s ∷ [] })) (record v { reads = v.reads ++ s ∷ [] }) n → IsNamedBy (IsNeeded v) v n
    named-back n f = elim (Contains-push_cases v.reads s f.snap f.read) [
      | inl old ↦ record { snap = f.snap; read = old; found = needed-back f.snap.id f.found; names = f.names }
      | inr same ↦ absurd (not-needed (subst (λ (y : SnapshotFile). IsNeeded v y.id) (sym same) (needed-back f.snap.id f.found)))
    ]

    in-set : (n : Id12) → IsNeeded v n → Has w.snapshots.all n
    in-set n (marks.named r) = h.roots n (Contains-append_left v.roots v.leased n r)
    in-set n (marks.below x among f p) = h.parents x n among p

    apart-read : Apart (with_snapshot id s (leaving_snapshots ids w)) (record v { reads = v.reads ++ s ∷ [] })
    apart-read =
        let e = enters-some s.parent (record { all = w.snapshots.all; todo = ids }) in
        let g = enters-rows s.nodes w.files in
        record {
          needed = record {
            snapshots = λ n f. elim (a.needed.snapshots n (needed-back n f)) [
              | inl i ↦ inl i
              | inr got ↦ inr (elim got [ inl r ↦ inl (record { snap = r.snap; read = Contains-append_left v.reads (s ∷ []) r.snap r.read; id_is = r.id_is }) | inr p ↦ inr p ])
            ];
            manifests = λ n f. elim (a.needed.manifests n (named-back n f)) [ inl m ↦ inl (record { file = m.file; read = m.read; id_is = m.id_is }) | inr p ↦ inr p ];
          };
          snapshots_apart = λ n k f. elim (e.new n k) [
            | inl old ↦ a.snapshots_apart n (subst (λ (l : List Id12). Contains l n) (sym is) (later-is id n ids old)) (needed-back n f)
            | inr apart ↦ apart (in-set n (needed-back n f))
          ];
          files_apart = λ n k f. elim (g.new n k) [
            | inl old ↦ a.files_apart n old (named-back n f)
            | inr apart ↦ (let m = named-back n f in apart (h.manifests m.snap n m.read m.names))
          ];
        }

  -- ---- manifests
  -- what follows may go on
  abbrev Follows : (passes : Bool) → ℕ → (Work → Answer) → Type 0
  Follows passes reads next = (v : Work) (u : Trail) → Ready passes reads [] v u.walk → RefsRead u.walk → Goes u (next v)

  side-file : (passes : Bool) (w : Work) (v : Walk) (id : Id12) (ids : List Id12) (m : ManifestFile) → w.files.todo ≡ id ∷ ids → Side passes w v → Side passes (with_file (Some m) (leaving_files ids w)) (record v { files = v.files ++ m ∷ [] })
  side-file false w v id ids m is s = s
  side-file true w v id ids m is a = apart-file w v (record v { files = v.files ++ m ∷ [] }) id ids (with_objects (Some m) w.chunks) is refl refl (λ n f. record { file = f.file; read = Contains-append_left v.files (m ∷ []) f.file f.read; id_is = f.id_is }) a

  ready-file : (passes : Bool) (reads : ℕ) (id : Id12) (ids : List Id12) (w : Work) (v : Walk) (m : ManifestFile) → m.id ≡ id → Ready passes reads (id ∷ ids) w v → Ready passes reads ids (with_file (Some m) (leaving_files ids w)) (record v { files = v.files ++ m ∷ [] })
  ready-file passes reads id ids w v m own r = record {
    over = r.over;
    calm = r.calm;
    lists = r.lists;
    listed = r.listed;
    doomed = r.doomed;
    cut = r.cut;
    got = r.got;
    waits = refl;
    phase = r.phase;
    holds = holds-file w.snapshots w.files w.logs w.chunks (roots_in passes v) v.reads v.files v.absent r.holds objects id ids m own r.waits;
    once = r.once;
    side = side-file passes w v id ids m r.waits r.side;
  }

  ready-file-passed : (reads : ℕ) (id : Id12) (ids : List Id12) (w : Work) (v : Walk) → Ready true reads (id ∷ ids) w v → Ready true reads ids (with_file None (leaving_files ids w)) (with_absent v (Manifest id))
  ready-file-passed reads id ids w v r = record {
    over = r.over;
    calm = r.calm;
    lists = r.lists;
    listed = r.listed;
    doomed = r.doomed;
    cut = r.cut;
    got = r.got;
    waits = refl;
    phase = r.phase;
    holds = holds-file-passed w.snapshots w.files w.logs w.chunks (v.roots ++ v.leased) v.reads v.files v.absent r.holds id ids r.waits;
    once = r.once;
    side = apart-file w v (with_absent v (Manifest id)) id ids w.chunks r.waits refl refl (λ n f. record { file = f.file; read = f.read; id_is = f.id_is }) r.side;
  }

  goes-files : (passes : Bool) (reads : ℕ) (ids : List Id12) (w : Work) (t : Trail) (next : Work → Answer) → Follows passes reads next → Ready passes reads ids w t.walk → RefsRead t.walk → Goes t (get_files ids w next)
  unfolding Marks get_files
  goes-files passes reads [] w t next f r refs = f w t r refs
  goes-files passes reads (id ∷ ids) w t next f r refs =
      (r.calm, ((r.over, walks.object refs r.lists (wanted-file passes w t.walk r.holds id ids r.waits)), tt), by (λ v u q p. goes-files passes reads ids v u next f q p))
    where
      content : ((v : Work) (u : Trail) → Ready passes reads ids v u.walk → RefsRead u.walk → Goes u (get_files ids v next)) → (bytes : List ℕ) (version : Version) (now : ℕ) (c : Result ManifestFile Bad) → read_manifest id bytes ≡ c → Goes (record { walk = walks.with_file t.walk (result_ok c); last = deed (Get (Manifest id)) (Is_got (Found bytes version now)) }) (on_answer (λ m. get_files ids (with_file m (leaving_files ids w)) next) (some_of (at_key (Manifest id) c)))
      content again bytes version now (Err bad) e = (r.calm, record { bytes = bytes; version = version; now = now; is = refl; unread = exact.manifest e })
      content again bytes version now (Ok m) e =
          again (with_file (Some m) (leaving_files ids w)) (record { walk = record t.walk { files = t.walk.files ++ m ∷ [] }; last = deed (Get (Manifest id)) (Is_got (Found bytes version now)) })
          (ready-file passes reads id ids w t.walk m (files.own id bytes m (ap result_ok e)) r) refs

      -- an absent one
      absent : (p : Bool) → Ready p reads (id ∷ ids) w t.walk → ((v : Work) (u : Trail) → Ready p reads ids v u.walk → RefsRead u.walk → Goes u (get_files ids v next)) → (now : ℕ)
          → Goes (record { walk = with_absent t.walk (Manifest id); last = deed (Get (Manifest id)) (Is_got (Absent now)) }) (on_answer (λ m. get_files ids (with_file m (leaving_files ids w)) next) (unless_passed p (Err (Missing (Manifest id)))))
      absent false q again now =
          let n = needed-file w t.walk q.holds id ids q.waits in
          missing t.walk (Manifest id) now q.calm (record { snap = n.snap; read = n.read; found = n.found; names = n.names })
      absent true q again now = again (with_file None (leaving_files ids w)) (record { walk = with_absent t.walk (Manifest id); last = deed (Get (Manifest id)) (Is_got (Absent now)) }) (ready-file-passed reads id ids w t.walk q) refs

      by : ((v : Work) (u : Trail) → Ready passes reads ids v u.walk → RefsRead u.walk → Goes u (get_files ids v next)) → (reply : Reply) → Goes (follow cutoff t (Get (Manifest id)) reply) (on_answer (λ m. get_files ids (with_file m (leaving_files ids w)) next) (manifest_got w.passes id reply))
      by again (Is_got (Found bytes version now)) = move (told cutoff t.walk (Get (Manifest id)) (Is_got (Found bytes version now))) (walks.with_file t.walk (result_ok (read_manifest id bytes))) (deed (Get (Manifest id)) (Is_got (Found bytes version now))) (on_answer (λ m. get_files ids (with_file m (leaving_files ids w)) next) (some_of (at_key (Manifest id) (read_manifest id bytes)))) (told-wanted t.walk (Manifest id) (Found bytes version now) refs) (content again bytes version now (read_manifest id bytes) refl)
      by again (Is_got (Absent now)) =
          move (told cutoff t.walk (Get (Manifest id)) (Is_got (Absent now))) (with_absent t.walk (Manifest id)) (deed (Get (Manifest id)) (Is_got (Absent now))) (on_answer (λ m. get_files ids (with_file m (leaving_files ids w)) next) (unless_passed w.passes (Err (Missing (Manifest id))))) (told-wanted t.walk (Manifest id) (Absent now) refs)
          (subst (λ (p : Bool). Goes (record { walk = with_absent t.walk (Manifest id); last = deed (Get (Manifest id)) (Is_got (Absent now)) }) (on_answer (λ m. get_files ids (with_file m (leaving_files ids w)) next) (unless_passed p (Err (Missing (Manifest id)))))) (sym r.phase) (absent passes r again now))
      by again (Failed d) = failed t.walk (Get (Manifest id)) (Failed d) r.calm (λ f. refl)
      by again (Is_new x) = failed t.walk (Get (Manifest id)) (Is_new x) r.calm (λ f. absurd f)
      by again (Is_over x) = failed t.walk (Get (Manifest id)) (Is_over x) r.calm (λ f. absurd f)
      by again (Is_gone x) = failed t.walk (Get (Manifest id)) (Is_gone x) r.calm (λ f. absurd f)
      by again (Is_gone_at x) = failed t.walk (Get (Manifest id)) (Is_gone_at x) r.calm (λ f. absurd f)
      by again (Is_listed x) = failed t.walk (Get (Manifest id)) (Is_listed x) r.calm (λ f. absurd f)

  -- ---- snapshots
  side-read : (passes : Bool) (w : Work) (v : Walk) (id : Id12) (ids : List Id12) (s : SnapshotFile) → s.id ≡ id → w.snapshots.todo ≡ id ∷ ids → Holds passes w v → Side passes w v → Side passes (with_snapshot id s (leaving_snapshots ids w)) (record v { reads = v.reads ++ s ∷ [] })
  side-read false w v id ids s own is h k = k
  side-read true w v id ids s own is h a = apart-read w v id ids s own is h a

  ready-read : (passes : Bool) (reads : ℕ) (id : Id12) (ids : List Id12) (w : Work) (v : Walk) (s : SnapshotFile) → s.id ≡ id → w.snapshots.todo ≡ id ∷ ids → Ready passes reads [] w v → Ready passes (reads + 1) (with_snapshot id s (leaving_snapshots ids w)).files.todo (with_snapshot id s (leaving_snapshots ids w)) (record v { reads = v.reads ++ s ∷ [] })
  ready-read passes reads id ids w v s own is r =
      let long = length_push v.reads s in
      let so_far = r.got in
      record {
        over = r.over;
        calm = r.calm;
        lists = r.lists;
        listed = r.listed;
        doomed = r.doomed;
        cut = r.cut;
        got = omega (arith, long, so_far);
        waits = refl;
        phase = r.phase;
        holds = holds-read w.snapshots w.files w.logs w.chunks (roots_in passes v) v.reads v.files v.absent r.holds id ids s own is;
        once = once-some s.parent (record { all = w.snapshots.all; todo = ids }) (v.reads ++ s ∷ []) (once-taken w.snapshots id ids s v.reads own is r.once);
        side = side-read passes w v id ids s own is r.holds r.side;
      }

  ready-passed : (reads : ℕ) (id : Id12) (ids : List Id12) (w : Work) (v : Walk) → w.snapshots.todo ≡ id ∷ ids → Ready true reads [] w v → Ready true reads [] (leaving_snapshots ids w) (with_absent v (Snapshot id))
  ready-passed reads id ids w v is r = record {
    over = r.over;
    calm = r.calm;
    lists = r.lists;
    listed = r.listed;
    doomed = r.doomed;
    cut = r.cut;
    got = r.got;
    waits = r.waits;
    phase = r.phase;
    holds = holds-passed w.snapshots w.files w.logs w.chunks (v.roots ++ v.leased) v.reads v.files v.absent r.holds id ids is;
    once = once-passed w.snapshots id ids v.reads is r.once;
    side = apart-passed w v id ids is r.side;
  }

  -- what follows the last one may go on
  abbrev Ends : (passes : Bool) → ℕ → (Work → Answer) → Type 0
  Ends passes reads end = (v : Work) (u : Trail) → Ready passes reads [] v u.walk → RefsRead u.walk → v.snapshots.todo ≡ [] → Goes u (end v)

  goes-next : (passes : Bool) (reads : ℕ) (end again : Work → Answer) → Ends passes reads end → Follows passes (reads + 1) again → (ids : List Id12) (w : Work) (t : Trail) → Ready passes reads [] w t.walk → RefsRead t.walk → w.snapshots.todo ≡ ids → Goes t (mark_next end again ids w)
  unfolding Marks mark_next
  goes-next passes reads end again ends follows [] w t r refs is = ends w t r refs is
  goes-next passes reads end again ends follows (id ∷ ids) w t r refs is =
      (r.calm, ((r.over, walks.object refs r.lists (wanted-snapshot passes w t.walk r.holds id ids is)), tt), by (λ v u q p e. goes-next passes reads end again ends follows ids v u q p e))
    where
      content : (bytes : List ℕ) (version : Version) (now : ℕ) (c : Result SnapshotFile Bad) → read_snapshot id bytes ≡ c → Goes (record { walk = with_read t.walk (result_ok c); last = deed (Get (Snapshot id)) (Is_got (Found bytes version now)) }) (on_answer (mark_got id again (mark_next end again ids (leaving_snapshots ids w)) (leaving_snapshots ids w)) (some_of (at_key (Snapshot id) c)))
      content bytes version now (Err bad) e = (r.calm, record { bytes = bytes; version = version; now = now; is = refl; unread = exact.snapshot e })
      content bytes version now (Ok s) e =
          let v = with_snapshot id s (leaving_snapshots ids w) in
          goes-files passes (reads + 1) v.files.todo v (record { walk = record t.walk { reads = t.walk.reads ++ s ∷ [] }; last = deed (Get (Snapshot id)) (Is_got (Found bytes version now)) }) again follows
          (ready-read passes reads id ids w t.walk s (snaps.own id bytes s (ap result_ok e)) is r) refs

      absent : (p : Bool) → Ready p reads [] w t.walk → ((v : Work) (u : Trail) → Ready p reads [] v u.walk → RefsRead u.walk → v.snapshots.todo ≡ ids → Goes u (mark_next end again ids v)) → (now : ℕ)
          → Goes (record { walk = with_absent t.walk (Snapshot id); last = deed (Get (Snapshot id)) (Is_got (Absent now)) }) (on_answer (mark_got id again (mark_next end again ids (leaving_snapshots ids w)) (leaving_snapshots ids w)) (unless_passed p (Err (Missing (Snapshot id)))))
      absent false q further now = missing t.walk (Snapshot id) now q.calm (needed-snapshot w t.walk q.holds id ids is)
      absent true q further now = further (leaving_snapshots ids w) (record { walk = with_absent t.walk (Snapshot id); last = deed (Get (Snapshot id)) (Is_got (Absent now)) }) (ready-passed reads id ids w t.walk is q) refs refl

      by : ((v : Work) (u : Trail) → Ready passes reads [] v u.walk → RefsRead u.walk → v.snapshots.todo ≡ ids → Goes u (mark_next end again ids v)) → (reply : Reply) → Goes (follow cutoff t (Get (Snapshot id)) reply) (on_answer (mark_got id again (mark_next end again ids (leaving_snapshots ids w)) (leaving_snapshots ids w)) (snapshot_got w.passes id reply))
      by further (Is_got (Found bytes version now)) = move (told cutoff t.walk (Get (Snapshot id)) (Is_got (Found bytes version now))) (with_read t.walk (result_ok (read_snapshot id bytes))) (deed (Get (Snapshot id)) (Is_got (Found bytes version now))) (on_answer (mark_got id again (mark_next end again ids (leaving_snapshots ids w)) (leaving_snapshots ids w)) (some_of (at_key (Snapshot id) (read_snapshot id bytes)))) (told-wanted t.walk (Snapshot id) (Found bytes version now) refs) (content bytes version now (read_snapshot id bytes) refl)
      by further (Is_got (Absent now)) =
          move (told cutoff t.walk (Get (Snapshot id)) (Is_got (Absent now))) (with_absent t.walk (Snapshot id)) (deed (Get (Snapshot id)) (Is_got (Absent now))) (on_answer (mark_got id again (mark_next end again ids (leaving_snapshots ids w)) (leaving_snapshots ids w)) (unless_passed w.passes (Err (Missing (Snapshot id))))) (told-wanted t.walk (Snapshot id) (Absent now) refs)
          (subst (λ (p : Bool). Goes (record { walk = with_absent t.walk (Snapshot id); last = deed (Get (Snapshot id)) (Is_got (Absent now)) }) (on_answer (mark_got id again (mark_next end again ids (leaving_snapshots ids w)) (leaving_snapshots ids w)) (unless_passed p (Err (Missing (Snapshot id)))))) (sym r.phase) (absent passes r further now))
      by further (Failed d) = failed t.walk (Get (Snapshot id)) (Failed d) r.calm (λ f. refl)
      by further (Is_new x) = failed t.walk (Get (Snapshot id)) (Is_new x) r.calm (λ f. absurd f)
      by further (Is_over x) = failed t.walk (Get (Snapshot id)) (Is_over x) r.calm (λ f. absurd f)
      by further (Is_gone x) = failed t.walk (Get (Snapshot id)) (Is_gone x) r.calm (λ f. absurd f)
      by further (Is_gone_at x) = failed t.walk (Get (Snapshot id)) (Is_gone_at x) r.calm (λ f. absurd f)
      by further (Is_listed x) = failed t.walk (Get (Snapshot id)) (Is_listed x) r.calm (λ f. absurd f)

  goes-mark : (passes : Bool) (left reads : ℕ) (end : ℕ → Work → Answer) → reads + left ≡ most_snapshots → ((n k : ℕ) → n + k ≡ most_snapshots → Ends passes n (end k)) → Follows passes reads (mark left end)
  unfolding Marks mark
  goes-mark passes zero reads end few f w t r refs = last w.snapshots.todo refl
    where
      last : (ids : List Id12) → w.snapshots.todo ≡ ids → Goes t (mark_last (end zero) ids w)
      last [] e = f reads zero few w t r refs e
      last (id ∷ ids) e = (r.calm, record { many = r.got ∙ omega (arith, few); next = id; found = wanted-snapshot passes w t.walk r.holds id ids e; further = λ x. r.once.unread id (subst (λ (l : List Id12). Contains l id) (sym e) (first-is id ids)) (x.snap, x.read, x.id_is) })
  goes-mark passes (suc left) reads end few f w t r refs =
      goes-next passes reads (end (suc left)) (λ v. mark left end v) (f reads (suc left) few) (goes-mark passes left (reads + 1) end (omega (arith, few)) f) w.snapshots.todo w t r refs refl

  -- from the marking to the listings
  goes-sweep : (n : ℕ) (v : Work) (u : Trail) → Ready true n [] v u.walk → RefsRead u.walk → v.snapshots.todo ≡ [] → Goes u (list_snapshots v)
  goes-sweep n v u r refs e = goes-snapshots v u (record {
    over = r.over;
    calm = r.calm;
    lists = r.lists;
    refs = refs;
    closed = (let a = r.side in record { needed = a.needed; all = all-closed v u.walk r.holds e r.waits });
    cut = r.cut;
    marked = marked-listed v u.walk r.holds;
    unmarked = listed-marked v u.walk r.holds;
    picks = subst (λ (l : List Entry). Picks cutoff (Marked u.walk) l v.doomed) (sym r.listed) r.doomed;
  })

  goes-leased : (n k : ℕ) → n + k ≡ most_snapshots → Follows true n (mark_leased k)
  goes-leased n k few = goes-mark true k n (λ j w. list_snapshots w) few (λ j i less. goes-sweep j)

  -- from what refs need to what leases need
  ready-leased : (n : ℕ) (w : Work) (v : Walk) → w.snapshots.todo ≡ [] → Ready false n [] w v → Ready true n [] (begin_leased w) v
  ready-leased n w v none r =
      let k = r.side in
      record {
        over = r.over;
        calm = r.calm;
        lists = r.lists;
        listed = r.listed;
        doomed = r.doomed;
        cut = r.cut;
        got = r.got;
        waits = r.waits;
        phase = refl;
        holds = subst (λ (ids : List Id12). HoldsBy (enter_ids w.leased w.snapshots) w.files w.logs w.chunks (v.roots ++ ids) v.reads v.files v.absent) k.0 (holds-leased w.snapshots w.files w.logs w.chunks v.roots v.reads v.files v.absent r.holds w.leased);
        once = once-ids w.leased w.snapshots v.reads r.once;
        side = record {
          needed = needed-closed w v r.holds k.1 none r.waits;
          snapshots_apart = λ id h f. elim ((enters-ids w.leased w.snapshots).new id h) [
            | inl old ↦ none-in id (subst (λ (l : List Id12). Contains l id) none old)
            | inr apart ↦ apart (needed-in w v r.holds k.1 id f)
          ];
          files_apart = λ id h f. none-in id (subst (λ (l : List Id12). Contains l id) r.waits h);
        };
      }

  goes-needed : Follows false 0 (mark_needed most_snapshots)
  goes-needed = goes-mark false most_snapshots 0 (λ n v. mark_leased n (begin_leased v)) refl (λ n k few v u r refs e. goes-leased n k few (begin_leased v) u (ready-leased n v u.walk e r) refs)

  -- ---- refs and leases
  abbrev Unread : Work → Walk → Type 0
  Unread w v = Ready false 0 [] w v

  ready-left : (w : Work) (v : Walk) (bs ts ls : Option (List Key)) → Unread w v → Unread w (record v { branches = bs; tags = ts; leases = ls })
  ready-left w v bs ts ls r = record { over = r.over; calm = r.calm; lists = r.lists; listed = r.listed; doomed = r.doomed; cut = r.cut; got = r.got; waits = r.waits; phase = r.phase; holds = r.holds; once = r.once; side = r.side }

  ready-root : (id : Id12) (w : Work) (v : Walk) (bs ts ls : Option (List Key)) → Unread w v → Unread (with_ref (Some id) w) (record v { branches = bs; tags = ts; leases = ls; roots = v.roots ++ id ∷ [] })
  ready-root id w v bs ts ls r = record {
    over = r.over;
    calm = r.calm;
    lists = r.lists;
    listed = r.listed;
    doomed = r.doomed;
    cut = r.cut;
    got = r.got;
    waits = r.waits;
    phase = r.phase;
    holds = holds-root w.snapshots w.files w.logs w.chunks v.roots v.reads v.files v.absent r.holds id;
    once = once-some (Some id) w.snapshots v.reads r.once;
    side = r.side;
  }

  ready-lease : (id : Id12) (w : Work) (v : Walk) (bs ts ls : Option (List Key)) → Unread w v → Unread (with_lease (Some id) w) (record v { branches = bs; tags = ts; leases = ls; leased = v.leased ++ id ∷ [] })
  ready-lease id w v bs ts ls r =
      let k = r.side in
      record {
        over = r.over;
        calm = r.calm;
        lists = r.lists;
        listed = r.listed;
        doomed = r.doomed;
        cut = r.cut;
        got = r.got;
        waits = r.waits;
        phase = r.phase;
        holds = r.holds;
        once = r.once;
        side = (ap (λ (l : List Id12). l ++ id ∷ []) k.0, k.1);
      }

  root-calm : (v : Walk) (o : Option Id12) → IsCalm v → IsCalm (with_root v o)
  root-calm v None c = c
  root-calm v (Some id) c = c

  leased-calm : (v : Walk) (o : Option Id12) → IsCalm v → IsCalm (with_leased v o)
  leased-calm v None c = c
  leased-calm v (Some id) c = c

  -- gets each of some keys, where At says what is so with these left
  module _ (add : Option Id12 → Work → Work) (next : Work → Answer) (At : List Key → Work → Walk → Type 0)
      (calm : (keys : List Key) (w : Work) (v : Walk) → At keys w v → IsCalm v) (may : (key : Key) (keys : List Key) (w : Work) (v : Walk) → At (key ∷ keys) w v → May cutoff v (Get key))
      (names : (key : Key) (keys : List Key) (w : Work) (v : Walk) (bytes : List ℕ) (version : Version) (now : ℕ) (id : Id12) → ref_of bytes ≡ Some id → At (key ∷ keys) w v → At keys (add (Some id) w) (told cutoff v (Get key) (Is_got (Found bytes version now))))
      (bad_calm : (key : Key) (keys : List Key) (w : Work) (v : Walk) (bytes : List ℕ) (version : Version) (now : ℕ) → At (key ∷ keys) w v → IsCalm (told cutoff v (Get key) (Is_got (Found bytes version now))))
      (gone : (key : Key) (keys : List Key) (w : Work) (v : Walk) (now : ℕ) → At (key ∷ keys) w v → At keys (add None w) (told cutoff v (Get key) (Is_got (Absent now))))
      (ends : (w : Work) (t : Trail) → At [] w t.walk → Goes t (next w)) where
    goes-refs : (keys : List Key) (w : Work) (t : Trail) → At keys w t.walk → Goes t (get_refs add keys w next)
    unfolding Marks get_refs
    goes-refs [] w t a = ends w t a
    goes-refs (key ∷ keys) w t a = (calm (key ∷ keys) w t.walk a, (may key keys w t.walk a, tt), by (goes-refs keys))
      where
        content : ((v : Work) (u : Trail) → At keys v u.walk → Goes u (get_refs add keys v next)) → (bytes : List ℕ) (version : Version) (now : ℕ) (c : Result Id12 Bad) → read_ref bytes ≡ c → Goes (follow cutoff t (Get key) (Is_got (Found bytes version now))) (on_answer (λ id. get_refs add keys (add id w) next) (some_of (at_key key c)))
        content again bytes version now (Err bad) e = (bad_calm key keys w t.walk bytes version now a, record { bytes = bytes; version = version; now = now; is = refl; unread = exact.ref e })
        content again bytes version now (Ok id) e = again (add (Some id) w) (follow cutoff t (Get key) (Is_got (Found bytes version now))) (names key keys w t.walk bytes version now id (ap result_ok e) a)

        by : ((v : Work) (u : Trail) → At keys v u.walk → Goes u (get_refs add keys v next)) → (reply : Reply) → Goes (follow cutoff t (Get key) reply) (on_answer (λ id. get_refs add keys (add id w) next) (ref_got key reply))
        by again (Is_got (Found bytes version now)) = content again bytes version now (read_ref bytes) refl
        by again (Is_got (Absent now)) = again (add None w) (follow cutoff t (Get key) (Is_got (Absent now))) (gone key keys w t.walk now a)
        by again (Failed d) = failed t.walk (Get key) (Failed d) (calm (key ∷ keys) w t.walk a) (λ f. refl)
        by again (Is_new x) = failed t.walk (Get key) (Is_new x) (calm (key ∷ keys) w t.walk a) (λ f. absurd f)
        by again (Is_over x) = failed t.walk (Get key) (Is_over x) (calm (key ∷ keys) w t.walk a) (λ f. absurd f)
        by again (Is_gone x) = failed t.walk (Get key) (Is_gone x) (calm (key ∷ keys) w t.walk a) (λ f. absurd f)
        by again (Is_gone_at x) = failed t.walk (Get key) (Is_gone_at x) (calm (key ∷ keys) w t.walk a) (λ f. absurd f)
        by again (Is_listed x) = failed t.walk (Get key) (Is_listed x) (calm (key ∷ keys) w t.walk a) (λ f. absurd f)

  -- a listing, and what follows it
  goes-list : (part : Part) (t : Trail) (next : Listed → Answer) → IsCalm t.walk → May cutoff t.walk (ListPart part) → ((l : Listed) → Goes (follow cutoff t (ListPart part) (Is_listed l)) (next l)) → Goes t (Ask (ListPart part) (λ reply. on_answer next (listed_told reply)))
  unfolding Marks
  goes-list part t next c may goes = (c, (may, tt), by)
    where
      by : (reply : Reply) → Goes (follow cutoff t (ListPart part) reply) (on_answer next (listed_told reply))
      by (Is_listed l) = goes l
      by (Failed d) = failed t.walk (ListPart part) (Failed d) c (λ f. refl)
      by (Is_got x) = failed t.walk (ListPart part) (Is_got x) c (λ f. absurd f)
      by (Is_new x) = failed t.walk (ListPart part) (Is_new x) c (λ f. absurd f)
      by (Is_over x) = failed t.walk (ListPart part) (Is_over x) c (λ f. absurd f)
      by (Is_gone x) = failed t.walk (ListPart part) (Is_gone x) c (λ f. absurd f)
      by (Is_gone_at x) = failed t.walk (ListPart part) (Is_gone_at x) c (λ f. absurd f)

  -- ---- leases
  record AtLeases (keys : List Key) (w : Work) (v : Walk) : Type 0 where
    ready : Unread w v
    branches : v.branches ≡ Some []
    tags : v.tags ≡ Some []
    leases : v.leases ≡ Some keys

  told-lease : (v : Walk) (key : Key) (behind : List Key) (got : Got) → v.branches ≡ Some [] → v.tags ≡ Some [] → v.leases ≡ Some (key ∷ behind) → told cutoff v (Get key) (Is_got got) ≡ told_lease (record v { leases = Some behind }) got
  told-lease v key behind got b g l =
      ap (λ (x : Option (List Key)). told_got x v.tags v.leases v key got) b ∙ (ap (λ (x : Option (List Key)). told_got (Some []) x v.leases v key got) g ∙ ap (λ (x : Option (List Key)). told_got (Some []) (Some []) x v key got) l)

  goes-leases : (passes : Bool) → passes ≡ false → (keys : List Key) (w : Work) (t : Trail) → AtLeases keys w t.walk → Goes t (get_refs with_lease keys w (marking passes most_snapshots))
  goes-leases passes phase =
      goes-refs with_lease (marking passes most_snapshots) AtLeases (λ keys w v a. a.ready.calm) (λ key keys w v a. (a.ready.over, walks.lease a.branches a.tags (keys, a.leases)))
      (λ key keys w v bytes version now id e a.
      subst (AtLeases keys (with_lease (Some id) w)) (sym (told-lease v key keys (Found bytes version now) a.branches a.tags a.leases ∙ ap (with_leased (record v { leases = Some keys })) e))
      (record { ready = ready-lease id w v v.branches v.tags (Some keys) a.ready; branches = a.branches; tags = a.tags; leases = refl }))
      (λ key keys w v bytes version now a. subst IsCalm (sym (told-lease v key keys (Found bytes version now) a.branches a.tags a.leases)) (leased-calm (record v { leases = Some keys }) (ref_of bytes) a.ready.calm))
      (λ key keys w v now a. subst (AtLeases keys w) (sym (told-lease v key keys (Absent now) a.branches a.tags a.leases)) (record { ready = ready-left w v v.branches v.tags (Some keys) a.ready; branches = a.branches; tags = a.tags; leases = refl }))
      (λ w t a. subst (λ (p : Bool). Goes t (marking p most_snapshots w)) (sym phase) (goes-needed w t a.ready (a.branches, a.tags, a.leases)))

  goes-list-leases : (w : Work) (t : Trail) → Unread w t.walk → t.walk.branches ≡ Some [] → t.walk.tags ≡ Some [] → t.walk.leases ≡ None → Goes t (list_leases most_snapshots w)
  goes-list-leases w t r bs ts ls =
      goes-list Leases t (λ l. get_refs with_lease (live l.entries) w (marking w.passes most_snapshots)) r.calm (r.over, (bs, ts, ls))
      (λ l. goes-leases w.passes r.phase (live l.entries) w (follow cutoff t (ListPart Leases) (Is_listed l)) (record { ready = ready-left w t.walk t.walk.branches t.walk.tags (Some (live l.entries)) r; branches = bs; tags = ts; leases = refl }))

  -- ---- tags
  record AtTags (keys : List Key) (w : Work) (v : Walk) : Type 0 where
    ready : Unread w v
    branches : v.branches ≡ Some []
    tags : v.tags ≡ Some keys
    leases : v.leases ≡ None

  told-tag : (v : Walk) (key : Key) (behind : List Key) (got : Got) → v.branches ≡ Some [] → v.tags ≡ Some (key ∷ behind) → told cutoff v (Get key) (Is_got got) ≡ told_ref (record v { tags = Some behind }) got
  told-tag v key behind got b g = ap (λ (x : Option (List Key)). told_got x v.tags v.leases v key got) b ∙ ap (λ (x : Option (List Key)). told_got (Some []) x v.leases v key got) g

  goes-tags : (keys : List Key) (w : Work) (t : Trail) → AtTags keys w t.walk → Goes t (get_refs with_ref keys w (list_leases most_snapshots))
  goes-tags =
      goes-refs with_ref (list_leases most_snapshots) AtTags (λ keys w v a. a.ready.calm) (λ key keys w v a. (a.ready.over, walks.tag a.branches (keys, a.tags)))
      (λ key keys w v bytes version now id e a.
      subst (AtTags keys (with_ref (Some id) w)) (sym (told-tag v key keys (Found bytes version now) a.branches a.tags ∙ ap (with_root (record v { tags = Some keys })) e))
      (record { ready = ready-root id w v v.branches (Some keys) v.leases a.ready; branches = a.branches; tags = refl; leases = a.leases }))
      (λ key keys w v bytes version now a. subst IsCalm (sym (told-tag v key keys (Found bytes version now) a.branches a.tags)) (root-calm (record v { tags = Some keys }) (ref_of bytes) a.ready.calm))
      (λ key keys w v now a. subst (AtTags keys w) (sym (told-tag v key keys (Absent now) a.branches a.tags)) (record { ready = ready-left w v v.branches (Some keys) v.leases a.ready; branches = a.branches; tags = refl; leases = a.leases }))
      (λ w t a. goes-list-leases w t a.ready a.branches a.tags a.leases)

  goes-list-tags : (w : Work) (t : Trail) → Unread w t.walk → t.walk.branches ≡ Some [] → t.walk.tags ≡ None → t.walk.leases ≡ None → Goes t (list_tags most_snapshots w)
  goes-list-tags w t r bs ts ls =
      goes-list Tags t (λ l. get_refs with_ref (live l.entries) w (list_leases most_snapshots)) r.calm (r.over, (bs, ts))
      (λ l. goes-tags (live l.entries) w (follow cutoff t (ListPart Tags) (Is_listed l)) (record { ready = ready-left w t.walk t.walk.branches (Some (live l.entries)) t.walk.leases r; branches = bs; tags = refl; leases = ls }))

  -- ---- branches
  record AtBranches (keys : List Key) (w : Work) (v : Walk) : Type 0 where
    ready : Unread w v
    branches : v.branches ≡ Some keys
    tags : v.tags ≡ None
    leases : v.leases ≡ None

  told-branch : (v : Walk) (key : Key) (behind : List Key) (got : Got) → v.branches ≡ Some (key ∷ behind) → told cutoff v (Get key) (Is_got got) ≡ told_ref (record v { branches = Some behind }) got
  told-branch v key behind got b = ap (λ (x : Option (List Key)). told_got x v.tags v.leases v key got) b

  goes-branches : (keys : List Key) (w : Work) (t : Trail) → AtBranches keys w t.walk → Goes t (get_refs with_ref keys w (list_tags most_snapshots))
  goes-branches =
      goes-refs with_ref (list_tags most_snapshots) AtBranches (λ keys w v a. a.ready.calm) (λ key keys w v a. (a.ready.over, walks.branch (keys, a.branches)))
      (λ key keys w v bytes version now id e a.
      subst (AtBranches keys (with_ref (Some id) w)) (sym (told-branch v key keys (Found bytes version now) a.branches ∙ ap (with_root (record v { branches = Some keys })) e))
      (record { ready = ready-root id w v (Some keys) v.tags v.leases a.ready; branches = refl; tags = a.tags; leases = a.leases }))
      (λ key keys w v bytes version now a. subst IsCalm (sym (told-branch v key keys (Found bytes version now) a.branches)) (root-calm (record v { branches = Some keys }) (ref_of bytes) a.ready.calm))
      (λ key keys w v now a. subst (AtBranches keys w) (sym (told-branch v key keys (Absent now) a.branches)) (record { ready = ready-left w v (Some keys) v.tags v.leases a.ready; branches = refl; tags = a.tags; leases = a.leases }))
      (λ w t a. goes-list-tags w t a.ready a.branches a.tags a.leases)

  -- ---- all of it
  nothing-yet : Unread (no_work cutoff) fresh
  nothing-yet = record { over = refl; calm = (refl, refl); lists = refl; listed = refl; doomed = refl; cut = refl; got = refl; waits = refl; phase = refl; holds = holds-nothing; once = once-none (record { all = []; todo = [] }) refl; side = (refl, refl) }

  pub goes-program : (last : Option Deed) → Goes (record { walk = fresh; last = last }) (mark_program most_snapshots cutoff)
  unfolding Marks
  goes-program last = ((refl, refl), ((refl, refl), tt), by)
    where
      start : Trail
      start = record { walk = fresh; last = last }

      by_time : (l : Listed) (b : Bool) → nat_lt l.now cutoff ≡ b → Goes (record { walk = cond b (ended fresh) (record fresh { branches = Some (live l.entries) }); last = deed (ListPart Branches) (Is_listed l) }) (on_answer (λ l. get_refs with_ref (live l.entries) (no_work cutoff) (list_tags most_snapshots)) (cond {A = Result Listed Refusal} b (Err (CutoffAhead l.now)) (Ok l)))
      by_time l true e = ((refl, refl), record { entries = l.entries; is = refl; ahead = ltb-true l.now cutoff e })
      by_time l false e = goes-branches (live l.entries) (no_work cutoff) (record { walk = record fresh { branches = Some (live l.entries) }; last = deed (ListPart Branches) (Is_listed l) }) (record { ready = ready-left (no_work cutoff) fresh (Some (live l.entries)) None None nothing-yet; branches = refl; tags = refl; leases = refl })

      by : (reply : Reply) → Goes (follow cutoff start (ListPart Branches) reply) (on_answer (λ l. get_refs with_ref (live l.entries) (no_work cutoff) (list_tags most_snapshots)) (first_told cutoff reply))
      by (Is_listed l) = by_time l (nat_lt l.now cutoff) refl
      by (Failed d) = failed fresh (ListPart Branches) (Failed d) (refl, refl) (λ f. refl)
      by (Is_got x) = failed fresh (ListPart Branches) (Is_got x) (refl, refl) (λ f. absurd f)
      by (Is_new x) = failed fresh (ListPart Branches) (Is_new x) (refl, refl) (λ f. absurd f)
      by (Is_over x) = failed fresh (ListPart Branches) (Is_over x) (refl, refl) (λ f. absurd f)
      by (Is_gone x) = failed fresh (ListPart Branches) (Is_gone x) (refl, refl) (λ f. absurd f)
      by (Is_gone_at x) = failed fresh (ListPart Branches) (Is_gone_at x) (refl, refl) (λ f. absurd f)
