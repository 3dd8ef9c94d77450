-- What a client's snapshots have in common.
use Rattle.std.proofs.Common.{◌≡◌, ℕ, ◌<◌, ◌^◌, Bool, true, false, cond, List, [], ◌∷◌, ◌++◌, refl, sym, ◌∙◌, ap, subst, append_assoc, append-nil}
use Rattle.std.specs.Prelude.{nat_lt, length, Option, Some, None, Result, Ok, Err}
use Rattle.ice_ids.specs.declared.Id12.{Id12}
use Rattle.std.specs.Str.{IsUtf8}
use Rattle.ice_ids.specs.declared.drawing.AnyIds.{AnyIds}
use Rattle.ice_ids.specs.Text.{IsId12}
use Rattle.ice_ids.specs.Drawing.{drawn12, after12}
use Rattle.ice_ids.proofs.Drawn.{drawn12-IsId12}
use Rattle.zarr_tree.specs.Touched.{is_untouched}
use Rattle.zarr_tree.specs.Held.{HeldEntry, touched}
use Rattle.zarr_changes.specs.declared.chunks.ChangedArray.{ChangedArray}
use Rattle.zarr_changes.specs.Sets.{chunks_of, changed_arrays}
use Rattle.manifest_file.specs.declared.manifest.Place.{Place}
use Rattle.manifest_file.specs.declared.manifest.ArrayRefs.{ArrayRefs}
use Rattle.manifest_file.specs.declared.manifest.ManifestFile.{ManifestFile}
use Rattle.manifest_file.specs.Manifests.{refs_limit}
use Rattle.manifest_file.specs.Layout.{file_bytes}
use Rattle.held_manifest.specs.LookUp.{Listed}
use Rattle.manifest_index.specs.Merging.{merged_array}
use Rattle.snapshot_file.specs.declared.nodes.ManifestRef.{ManifestRef}
use Rattle.snapshot_file.specs.declared.nodes.NodeRow.{NodeRow}
use Rattle.changed_snapshot.specs.declared.new_snapshot.NewList.{NewList}
use Rattle.changed_snapshot.specs.Rows.{own_manifests}
use Rattle.changed_snapshot.specs.Laws.{AreSized}
use Rattle.flat_tables.specs.declared.header.Kind.TheVariants as kinds
use Rattle.snapshot_file.specs.Layout.{snapshot_bytes}
use Rattle.txn_file.specs.Layout.{log_file}
use Rattle.ref_file.specs.Refs.{ref_bytes}
use Rattle.object_store.specs.declared.keys.Key.TheVariants.{Snapshot, Manifest, Branch, Txn}
use Rattle.object_store.specs.declared.keys.Why.{Why}
use Rattle.object_store.specs.declared.keys.Why.TheVariants.{Set, Commit}
use Rattle.object_store.specs.declared.events.Op.{Op}
use Rattle.object_store.specs.declared.events.Op.TheVariants.{Get, PutNew, PutOver}
use Rattle.object_store.specs.declared.events.New.TheVariants.{Done as New_done, Present}
use Rattle.object_store.specs.declared.events.Over.TheVariants.{Done as Over_done, Moved}
use Rattle.object_store.specs.declared.events.Reply.{Reply}
use Rattle.object_store.specs.declared.events.Reply.TheVariants.{New as Is_new, Over as Is_over, Failed}
use Rattle.object_store.specs.declared.events.Event.{Event}
use Rattle.store_api.specs.declared.machines.Refusal.{Refusal}
use Rattle.store_api.specs.declared.machines.Refusal.TheVariants.{ReadOnly, NothingToCommit, IdsSpent, IdTaken, TooLarge, StoreFault, InDoubt}
use Rattle.object_store.specs.Machine.{version_at}
use Rattle.store_api.specs.Journal.{Each}
use Rattle.store_api.specs.Telling.{GetsAlone, IsGet, MadeGets}
use Rattle.store_api.specs.Callers.{Caller, IsOther, Makes, own_event}
use Rattle.store_api.specs.Program.{Done, Ask, Keeps, Leads}
use Rattle.store_api.proofs.Happening.{ChangedNothing-none}
use Rattle.store_api.proofs.Programs.{Leads-weaker}
use Rattle.store_api.proofs.Telling.{put-time}
use Rattle.commit_path.proofs.Walks.{Walks, Ends, walks-done, walks-ask, walks-then}
use Rattle.object_store.proofs.Journals.{Each-append, Each-weaker, Each-one, Each-none}
use Rattle.repo_read.specs.Answers.{manifest_told}
use Rattle.repo_read.specs.Programs.{manifest_program}
use Rattle.session.specs.Sessions.{SessionState, branch_of, version_of, writes, base_nodes}
use Rattle.session.specs.Opening.{Asked, open_program}
use Rattle.commit_path.specs.Committing.{Written, manifest_for, with_list, with_manifest, after_manifest, put_manifest, write_array, old_program, array_program, arrays_program, unwritten, write_all, commit_program, after_arrays, put_log, after_log, after_snapshot, after_branch, log_for, snap_for, is_long}
use Rattle.commit_path.specs.declared.commit.Tried.{Tried}
use Rattle.commit_path.specs.declared.commit.Tried.TheVariants.{Done as Was_done, Lost}
use Rattle.commit_path.specs.Answered.{CommitTells}
use Rattle.commit_path.specs.Opened.{IsOpened}
use Rattle.commit_path.specs.Single.{PutsSnapshot, PutsNone, HasPutNone, IsAlike, PutsAlike, HasPutAlike, SingleLaw}
use Rattle.commit_path.specs.Spelled.{IsSpelled}
use Rattle.commit_path.proofs.Having.{Wrote, none-written}
use Rattle.commit_path.proofs.Gets.{gets-keep_each, gets-hold}
use Rattle.commit_path.proofs.Opened.{open-gets}
use Rattle.commit_path.proofs.Owing.{new-sized, read}
use Rattle.commit_path.proofs.Reading.{Leads-both}
use Rattle.commit_path.proofs.Sources.{later-same}
use Rattle.commit_path.proofs.Spelling.{Spellings}
use Rattle.commit_path.proofs.Writing.{arrays-walks}

-- ---- what others do changes nothing of it
pub HasPutNone-none : (client : ℕ) (start : List Event) → HasPutNone client start start
HasPutNone-none client start = record { more = []; is = sym (append-nil start); each = Each-none (PutsNone client) start }

pub HasPutNone-others : (by : Caller) (start journal more : List Event) → Each (IsOther by) journal more → HasPutNone by.number start journal → HasPutNone by.number start (journal ++ more)
HasPutNone-others by start journal more others c = record {
  more = c.more ++ more;
  is = ap (λ (h : List Event). h ++ more) c.is ∙ append_assoc start c.more more;
  each = Each-append (PutsNone by.number) start c.more more c.each
      (subst (λ (h : List Event). Each (PutsNone by.number) h more) c.is
      (Each-weaker (IsOther by) (PutsNone by.number) (λ h e o k. absurd (o.other k)) journal more others));
}

-- nor does an own operation that puts none
pub HasPutNone-makes : (by : Caller) (start : List Event) (op : Op) (reply : Reply) (old new : List Event) → (m : Makes by op reply old new) → ¬ PutsSnapshot op → HasPutNone by.number start old → HasPutNone by.number start new
HasPutNone-makes by start op reply old new m none c =
    let w = subst (λ (h : List Event). HasPutNone by.number start h) (sym m.waits.is) (HasPutNone-others by start old m.waits.between m.waits.others c) in
    let event : Event = own_event by op reply m.time in
    record {
      more = w.more ++ event ∷ [];
      is = m.is ∙ (ap (λ (h : List Event). h ++ event ∷ []) w.is ∙ append_assoc start w.more (event ∷ []));
      each = Each-append (PutsNone by.number) start w.more (event ∷ []) w.each (Each-one (PutsNone by.number) (start ++ w.more) event (λ k. none));
    }

-- ---- snapshots of one session
-- a client that put none put none but such
pub none-alike : (client : ℕ) (s : SessionState) (start journal : List Event) → HasPutNone client start journal → HasPutAlike client s start journal
none-alike client s start journal c = record {
  more = c.more;
  is = c.is;
  each = Each-weaker (PutsNone client) (PutsAlike client s) (λ h event n k id bytes why e. absurd (n k (subst PutsSnapshot (sym e) tt))) start c.more c.each;
}

-- a session with the same added and dropped nodes
pub HasPutAlike-same : (client : ℕ) (s t : SessionState) (start journal : List Event) → s.held.added ≡ t.held.added → s.held.dropped ≡ t.held.dropped → HasPutAlike client s start journal → HasPutAlike client t start journal
HasPutAlike-same client s t start journal added dropped c = record {
  more = c.more;
  is = c.is;
  each = Each-weaker (PutsAlike client s) (PutsAlike client t) (λ h event a k id bytes why e.
      let l = a k id bytes why e in
      record { session = l.session; added = l.added ∙ added; dropped = l.dropped ∙ dropped; snap = l.snap; read = l.read; nodes = l.nodes }) start c.more c.each;
}

-- what follows puts such snapshots alone
HasPutAlike-more : (client : ℕ) (s : SessionState) (start journal more : List Event) → Each (PutsAlike client s) journal more → HasPutAlike client s start journal → HasPutAlike client s start (journal ++ more)
HasPutAlike-more client s start journal more each c = record {
  more = c.more ++ more;
  is = ap (λ (h : List Event). h ++ more) c.is ∙ append_assoc start c.more more;
  each = Each-append (PutsAlike client s) start c.more more c.each (subst (λ (h : List Event). Each (PutsAlike client s) h more) c.is each);
}

pub HasPutAlike-others : (by : Caller) (s : SessionState) (start journal more : List Event) → Each (IsOther by) journal more → HasPutAlike by.number s start journal → HasPutAlike by.number s start (journal ++ more)
HasPutAlike-others by s start journal more others =
    HasPutAlike-more by.number s start journal more (Each-weaker (IsOther by) (PutsAlike by.number s) (λ h e o k. absurd (o.other k)) journal more others)

pub HasPutAlike-gets : (client : ℕ) (s : SessionState) (start middle journal : List Event) → MadeGets client middle journal → HasPutAlike client s start middle → HasPutAlike client s start journal
HasPutAlike-gets client s start middle journal m c =
    subst (λ (h : List Event). HasPutAlike client s start h) (sym m.is)
    (HasPutAlike-more client s start middle m.more (Each-weaker (GetsAlone client) (PutsAlike client s) (λ h event g k id bytes why e. absurd (subst IsGet e (g k))) middle m.more m.each) c)

-- an own operation that puts such a snapshot, if any
pub HasPutAlike-makes : (by : Caller) (s : SessionState) (start : List Event) (op : Op) (reply : Reply) (old new : List Event) → (m : Makes by op reply old new) → ((id : Id12) (bytes : List ℕ) (why : Why) → op ≡ PutNew (Snapshot id) bytes why → IsAlike s id bytes)
    → HasPutAlike by.number s start old → HasPutAlike by.number s start new
HasPutAlike-makes by s start op reply old new m alike c =
    let event : Event = own_event by op reply m.time in
    let waited = subst (λ (h : List Event). HasPutAlike by.number s start h) (sym m.waits.is) (HasPutAlike-others by s start old m.waits.between m.waits.others c) in
    subst (λ (h : List Event). HasPutAlike by.number s start h) (sym m.is)
    (HasPutAlike-more by.number s start m.middle (event ∷ []) (Each-one (PutsAlike by.number s) m.middle event (λ k. alike)) waited)

-- an operation that puts none
no-snapshot : (s : SessionState) (op : Op) → ¬ PutsSnapshot op → (id : Id12) (bytes : List ℕ) (why : Why) → op ≡ PutNew (Snapshot id) bytes why → IsAlike s id bytes
no-snapshot s op none id bytes why e = absurd (none (subst PutsSnapshot (sym e) tt))

-- the one snapshot of an operation
same-snapshot : (s : SessionState) (id other : Id12) (bytes file : List ℕ) (why cause : Why) → PutNew (Snapshot id) bytes why ≡ PutNew (Snapshot other) file cause → IsAlike s id bytes → IsAlike s other file
same-snapshot s id other bytes file why cause e a =
    let same_id : id ≡ other = cc in
    let same : bytes ≡ file = cc in
    subst (λ (x : Id12). IsAlike s x file) same_id (subst (IsAlike s id) same a)

-- ---- an opening
pub open-none : (by : Caller) (a : Asked) (journal : List Event) → Keeps (λ h client op. ¬ PutsSnapshot op) by (open_program a) journal
open-none by a journal = gets-keep_each (λ h client op. ¬ PutsSnapshot op) by (λ h key p. p) (open_program a) journal (open-gets a)

pub open-still : (by : Caller) (start : List Event) (a : Asked) (journal : List Event) → HasPutNone by.number start journal → Leads (λ answer h. HasPutNone by.number start h) by (open_program a) journal
open-still by start a journal c = gets-hold (HasPutNone by.number start) by (λ key reply old new m. HasPutNone-makes by start (Get key) reply old new m (λ p. p)) (open_program a) journal (open-gets a) c

-- ---- a commit
module _ (by : Caller) (s : SessionState) (start : List Event) where
  abbrev PutAlike : List Event → Type 0
  PutAlike = HasPutAlike by.number s start

  abbrev Alike : List Event → ℕ → Op → Type 0
  Alike journal client op = HasPutAlike client s start journal

  abbrev Anywhere : List Event → Type 0
  Anywhere journal = Unit {0}

  abbrev Still : {A : Type 0} → Result A Refusal → List Event → Type 0
  Still {A} = Ends {A = A} (λ a h. PutAlike h) (λ why h. PutAlike h)

  still-done : {A : Type 0} (r : Result A Refusal) (journal : List Event) → PutAlike journal → Walks Alike Anywhere Still by (Done r) journal
  still-done (Ok a) journal c = walks-done Alike Anywhere Still by (Ok a) journal c
  still-done (Err why) journal c = walks-done Alike Anywhere Still by (Err why) journal c

  still-makes : (op : Op) (reply : Reply) (old new : List Event) → Makes by op reply old new → ¬ PutsSnapshot op → PutAlike old → PutAlike new
  still-makes op reply old new n none c = HasPutAlike-makes by s start op reply old new n (no-snapshot s op none) c

  -- the manifests that are got, and the one that is put
  old-still : (refs : List ManifestRef) (seen : List Listed) (journal : List Event) → PutAlike journal → Walks Alike Anywhere Still by (old_program refs seen) journal
  unfolding old_program
  old-still [] seen journal c = still-done (Ok seen) journal c
  old-still (m ∷ more) seen journal c =
      walks-then Alike Anywhere (λ (file : ManifestFile) h. PutAlike h) (λ why h. PutAlike h) Still by (manifest_program m.id) (λ file. old_program more (seen ++ (m.extents, file) ∷ [])) journal
      (walks-ask Alike Anywhere Still by (Get (Manifest m.id)) (λ reply. Done (manifest_told m.id reply)) journal c tt
      (λ reply new n. (λ off. tt, still-done (manifest_told m.id reply) new (still-makes (Get (Manifest m.id)) reply journal new n (λ p. p) c))))
      (λ file h q. old-still more (seen ++ (m.extents, file) ∷ []) h q)
      (λ why h q. q)

  after-still : (x : Written) (id : Id12) (reply : Reply) (journal : List Event) → PutAlike journal → Walks Alike Anywhere Still by (after_manifest x id reply) journal
  after-still x id (Is_new (New_done version now)) journal c = still-done (Ok x) journal c
  after-still x id (Is_new (Present version now)) journal c = still-done (Err (IdTaken (Manifest id))) journal c
  after-still x id _ journal c = still-done (Err StoreFault) journal c

  put-still : (x : Written) (a : ChangedArray) (array : ArrayRefs) (id : Id12) (journal : List Event) → PutAlike journal → (long : Bool)
      → Walks Alike Anywhere Still by (cond long (Done (Err (TooLarge kinds.Manifest))) (Ask (PutNew (Manifest id) (file_bytes (manifest_for id array)) Set) (after_manifest (with_manifest x a array id) id))) journal
  put-still x a array id journal c true = still-done (Err (TooLarge kinds.Manifest)) journal c
  put-still x a array id journal c false =
      let op : Op = PutNew (Manifest id) (file_bytes (manifest_for id array)) Set in
      walks-ask Alike Anywhere Still by op (after_manifest (with_manifest x a array id) id) journal c tt
      (λ reply new n. (λ off. tt, after-still (with_manifest x a array id) id reply new (still-makes op reply journal new n (λ p. p) c)))

  draw-still : (x : Written) (a : ChangedArray) (array : ArrayRefs) (o : Option Id12) (journal : List Event) → PutAlike journal → Walks Alike Anywhere Still by (put_manifest x a array o) journal
  draw-still x a array None journal c = still-done (Err IdsSpent) journal c
  draw-still x a array (Some id) journal c = put-still x a array id journal c (is_long (file_bytes (manifest_for id array)))

  count-still : (x : Written) (a : ChangedArray) (array : ArrayRefs) (journal : List Event) → PutAlike journal → (many : Bool) → Walks Alike Anywhere Still by (cond many (Done (Err (TooLarge kinds.Manifest))) (put_manifest x a array (drawn12 x.ids))) journal
  count-still x a array journal c true = still-done (Err (TooLarge kinds.Manifest)) journal c
  count-still x a array journal c false = draw-still x a array (drawn12 x.ids) journal c

  write-still : (x : Written) (a : ChangedArray) (o : Option ArrayRefs) (journal : List Event) → PutAlike journal → Walks Alike Anywhere Still by (write_array x a o) journal
  write-still x a None journal c = still-done (Ok (with_list x a None)) journal c
  write-still x a (Some array) journal c = count-still x a array journal c (nat_lt refs_limit (length array.refs))

  arrays-still : (rows : List NodeRow) (es : List (HeldEntry Place)) (arrays : List ChangedArray) (x : Written) (journal : List Event) → PutAlike journal → Walks Alike Anywhere Still by (arrays_program rows es arrays x) journal
  unfolding arrays_program
  arrays-still rows es [] x journal c = still-done (Ok x) journal c
  arrays-still rows es (a ∷ more) x journal c =
      walks-then Alike Anywhere (λ (y : Written) h. PutAlike h) (λ why h. PutAlike h) Still by (array_program rows es x a) (arrays_program rows es more) journal
      (walks-then Alike Anywhere (λ (old : List Listed) h. PutAlike h) (λ why h. PutAlike h) Still by (old_program (own_manifests rows a.path a.node) []) (λ old. write_array x a (merged_array a.rank a.node old (chunks_of es a.node))) journal
      (old-still (own_manifests rows a.path a.node) [] journal c) (λ old h q. write-still x a (merged_array a.rank a.node old (chunks_of es a.node)) h q) (λ why h q. q))
      (λ y h q. arrays-still rows es more y h q)
      (λ why h q. q)

  -- the arrays, with the sizes of the new lists
  module _ (L : Spellings) (message : List ℕ) (w : IsSpelled s) where
    abbrev Sized : Result Written Refusal → List Event → Type 0
    Sized = Ends (λ (x : Written) h. AreSized x.news × PutAlike h) (λ why h. PutAlike h)

    sized-both : (origin : List Event) (r : Result Written Refusal) (h : List Event) → Ends (λ (x : Written) j. Wrote s by.number origin (changed_arrays s.held (base_nodes s)) x j) (λ why j. CommitTells by.number s message origin (Err why) j) r h × Still r h → Sized r h
    sized-both origin (Ok x) h q = (new-sized s by.number origin h (changed_arrays s.held (base_nodes s)) x.news q.0.lists, q.1)
    sized-both origin (Err why) h q = q.1

    arrays-sized : (journal : List Event) → IsOpened s journal → PutAlike journal → Walks Alike Anywhere Sized by (arrays_program s.rows s.held.chunks (changed_arrays s.held (base_nodes s)) (unwritten s)) journal
    arrays-sized journal o c =
        let arrays : List ChangedArray = changed_arrays s.held (base_nodes s) in
        let all = arrays-walks L by s.ids (λ h t id. Unit {0}) s message (later-same s.ids) w journal [] arrays (unwritten s) journal refl (none-written by s journal journal o (ChangedNothing-none by.number journal)) in
        let still = arrays-still s.rows s.held.chunks arrays (unwritten s) journal c in
        let program = arrays_program s.rows s.held.chunks arrays (unwritten s) in
        record { keeps = still.keeps; stays = still.stays; leads = Leads-weaker _ Sized (sized-both journal) by program journal (Leads-both _ Still by program journal all.leads still.leads) }

    -- the branch
    over-still : (id : Id12) (next : AnyIds) (reply : Reply) (journal : List Event) → PutAlike journal → Walks Alike Anywhere Still by (after_branch s id next reply) journal
    over-still id next (Is_over (Over_done version now)) journal c = still-done (Ok (Was_done (record { id = id; version = version }))) journal c
    over-still id next (Is_over (Moved there now)) journal c = still-done (Ok (Lost (version_at (version_of s)) there next)) journal c
    over-still id next (Failed done) journal c = still-done (Err (InDoubt id)) journal c
    over-still id next _ journal c = still-done (Err StoreFault) journal c

    snapshot-still : (id : Id12) (next : AnyIds) (reply : Reply) (journal : List Event) → PutAlike journal → Walks Alike Anywhere Still by (after_snapshot s id next reply) journal
    snapshot-still id next (Is_new (New_done version now)) journal c =
        let op : Op = PutOver (Branch (branch_of s)) (ref_bytes id) (version_at (version_of s)) Commit in
        walks-ask Alike Anywhere Still by op (after_branch s id next) journal c tt
        (λ reply new n. (λ off. tt, over-still id next reply new (still-makes op reply journal new n (λ p. p) c)))
    snapshot-still id next (Is_new (Present version now)) journal c = still-done (Err (IdTaken (Snapshot id))) journal c
    snapshot-still id next _ journal c = still-done (Err StoreFault) journal c

    -- the snapshot, which is the session's
    module _ (m : IsUtf8 message) (news : List NewList) (sized : AreSized news) (id : Id12) (is_id : IsId12 id) (next : AnyIds) where
      abbrev file : ℕ → List ℕ
      file flushed = snapshot_bytes (snap_for s message news id flushed)

      own-alike : (flushed : ℕ) → flushed < 2 ^ 64 → is_long (file flushed) ≡ false → IsAlike s id (file flushed)
      own-alike flushed f short = record {
        session = s;
        added = refl;
        dropped = refl;
        snap = snap_for s message news id flushed;
        read = read L s message news flushed id w sized is_id f m short;
        nodes = L.nodes s.held news s.rows;
      }

      put_snapshot-still : (flushed : ℕ) → flushed < 2 ^ 64 → (journal : List Event) → PutAlike journal → (long : Bool) → is_long (file flushed) ≡ long
          → Walks Alike Anywhere Still by (cond long (Done (Err (TooLarge kinds.Snapshot))) (Ask (PutNew (Snapshot id) (file flushed) Set) (after_snapshot s id next))) journal
      put_snapshot-still flushed f journal c true e = still-done (Err (TooLarge kinds.Snapshot)) journal c
      put_snapshot-still flushed f journal c false e =
          let op : Op = PutNew (Snapshot id) (file flushed) Set in
          walks-ask Alike Anywhere Still by op (after_snapshot s id next) journal c tt
          (λ reply new n. (λ off. tt, snapshot-still id next reply new (HasPutAlike-makes by s start op reply journal new n (λ other bytes why q. same-snapshot s id other (file flushed) bytes Set why q (own-alike flushed f e)) c)))

      -- the log
      log-still : (reply : Reply) (old new : List Event) → Makes by (PutNew (Txn id) (log_file (log_for s id)) Set) reply old new → PutAlike new → Walks Alike Anywhere Still by (after_log s message news id next reply) new
      log-still (Is_new (New_done version now)) old new n c = put_snapshot-still now (put-time by (Txn id) (log_file (log_for s id)) Set version now old new n) new c (is_long (file now)) refl
      log-still (Is_new (Present version now)) old new n c = still-done (Err (IdTaken (Txn id))) new c
      log-still _ old new n c = still-done (Err StoreFault) new c

      put_log-still : (journal : List Event) → PutAlike journal → (long : Bool) → Walks Alike Anywhere Still by (cond long (Done (Err (TooLarge kinds.Log))) (Ask (PutNew (Txn id) (log_file (log_for s id)) Set) (after_log s message news id next))) journal
      put_log-still journal c true = still-done (Err (TooLarge kinds.Log)) journal c
      put_log-still journal c false =
          let op : Op = PutNew (Txn id) (log_file (log_for s id)) Set in
          walks-ask Alike Anywhere Still by op (after_log s message news id next) journal c tt
          (λ reply new n. (λ off. tt, log-still reply journal new n (still-makes op reply journal new n (λ p. p) c)))

    draw_log-still : IsUtf8 message → (x : Written) → AreSized x.news → (o : Option Id12) → drawn12 x.ids ≡ o → (journal : List Event) → PutAlike journal → Walks Alike Anywhere Still by (put_log s message x.news o (after12 x.ids)) journal
    draw_log-still m x sized None e journal c = still-done (Err IdsSpent) journal c
    draw_log-still m x sized (Some id) e journal c = put_log-still m x.news sized id (drawn12-IsId12 x.ids id e) (after12 x.ids) journal c (is_long (log_file (log_for s id)))

    all-still : IsUtf8 message → (journal : List Event) → IsOpened s journal → PutAlike journal → Walks Alike Anywhere Still by (write_all s message) journal
    all-still m journal o c =
        walks-then Alike Anywhere (λ (x : Written) h. AreSized x.news × PutAlike h) (λ why h. PutAlike h) Still by (arrays_program s.rows s.held.chunks (changed_arrays s.held (base_nodes s)) (unwritten s)) (after_arrays s message) journal
        (arrays-sized journal o c)
        (λ x h q. draw_log-still m x q.0 (drawn12 x.ids) refl h q.1)
        (λ why h q. q)

    by_tests : IsUtf8 message → (journal : List Event) → IsOpened s journal → PutAlike journal → (may_write untouched : Bool) → Walks Alike Anywhere Still by (cond may_write (cond untouched (Done (Err NothingToCommit)) (write_all s message)) (Done (Err ReadOnly))) journal
    by_tests m journal o c true true = still-done (Err NothingToCommit) journal c
    by_tests m journal o c true false = all-still m journal o c
    by_tests m journal o c false u = still-done (Err ReadOnly) journal c

    pub commit-alike : IsUtf8 message → (journal : List Event) → IsOpened s journal → HasPutAlike by.number s start journal → Walks (λ h client op. HasPutAlike client s start h) (λ h. Unit {0}) (Ends (λ (t : Tried) h. HasPutAlike by.number s start h) (λ why h. HasPutAlike by.number s start h)) by (commit_program s message) journal
    unfolding commit_program
    commit-alike m journal o c = by_tests m journal o c (writes s) (is_untouched (touched s.held (base_nodes s)))

either-alike : (by : Caller) (s : SessionState) (start : List Event) (answer : Result Tried Refusal) (h : List Event) → Ends (λ (t : Tried) j. HasPutAlike by.number s start j) (λ why j. HasPutAlike by.number s start j) answer h → HasPutAlike by.number s start h
either-alike by s start (Ok t) h c = c
either-alike by s start (Err why) h c = c

pub single-law : Spellings → SingleLaw
single-law L = record {
  opening = λ by a start journal c. (open-none by a journal, open-still by start a journal c);
  commit = λ by s message start journal m w o c.
      let all = commit-alike by s start L message w m journal o c in
      (all.keeps, Leads-weaker _ (λ answer h. HasPutAlike by.number s start h) (either-alike by s start) by (commit_program s message) journal all.leads);
}
