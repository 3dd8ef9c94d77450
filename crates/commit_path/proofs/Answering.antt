-- What a commit does is polite and owed, and its answer tells the journal, whatever others do.
use Rattle.std.proofs.Common.{◌≡◌, inl, inr, ℕ, ◌<◌, ◌^◌, Bool, true, false, cond, List, [], length, refl, sym, ap, subst, append-nil}
use Rattle.std.specs.Prelude.{Option, Some, None, Result, Ok, Err}
use Rattle.std.specs.Str.{IsUtf8}
use Rattle.ice_ids.specs.declared.Id12.{Id12}
use Rattle.ice_ids.specs.declared.drawing.AnyIds.{AnyIds}
use Rattle.ice_ids.specs.Drawing.{drawn12, after12}
use Rattle.ice_ids.specs.Text.{IsId12}
use Rattle.ice_ids.proofs.Drawn.{drawn12-IsId12}
use Rattle.flat_tables.specs.declared.header.Kind.TheVariants as kinds
use Rattle.zarr_tree.specs.Held.{touched}
use Rattle.zarr_tree.specs.Touched.{is_untouched}
use Rattle.zarr_changes.specs.declared.chunks.ChangedArray.{ChangedArray}
use Rattle.zarr_changes.specs.Sets.{changed_arrays}
use Rattle.snapshot_file.specs.Layout.{snapshot_bytes}
use Rattle.txn_file.specs.Layout.{log_file}
use Rattle.ref_file.specs.Refs.{ref_bytes}
use Rattle.object_store.specs.declared.keys.Key.TheVariants.{Snapshot, Txn, Branch}
use Rattle.object_store.specs.declared.keys.Why.TheVariants.{Set, Commit}
use Rattle.object_store.specs.declared.events.Version.{Version}
use Rattle.object_store.specs.declared.events.Op.{Op}
use Rattle.object_store.specs.declared.events.Op.TheVariants.{PutNew}
use Rattle.object_store.specs.declared.events.New.TheVariants.{Done as New_done, Present}
use Rattle.object_store.specs.declared.events.Over.TheVariants.{Done as Over_done, Moved}
use Rattle.object_store.specs.declared.events.Reply.{Reply}
use Rattle.object_store.specs.declared.events.Reply.TheVariants.{New as Is_new, Over as Is_over, Failed}
use Rattle.object_store.specs.declared.events.Event.{Event}
use Rattle.store_api.specs.declared.machines.Refusal.{Refusal}
use Rattle.store_api.specs.declared.machines.Refusal.TheVariants as R
use Rattle.object_store.specs.Machine.{found, version_at}
use Rattle.store_api.specs.Journal.{IsOnce, IsPolite}
use Rattle.store_api.specs.Callers.{Caller, Makes}
use Rattle.store_api.specs.Program.{Done, Ask}
use Rattle.store_api.proofs.Programs.{good-waits}
use Rattle.session.specs.Sessions.{SessionState, branch_of, version_of, writes, base_nodes}
use Rattle.session.specs.Sources.{IsLater, MayDrawObject}
use Rattle.commit_path.specs.declared.commit.Tried.{Tried}
use Rattle.commit_path.specs.declared.commit.Tried.TheVariants.{Done as Was_done, Lost}
use Rattle.commit_path.specs.Committing.{Written, commit_program, arrays_program, unwritten, after_arrays, write_all, put_log, after_log, after_snapshot, put_branch, after_branch, log_for, snap_for, is_long}
use Rattle.commit_path.specs.Owed.{Sessions, IsMade, IsCareful}
use Rattle.commit_path.specs.Answered.{commits_over, WasLogged, WasSnapped, WereWritten, WasWritten, TookEffect, WasMoved, WasDoubted, WasTaken, IsOfCommit, CommitTells}
use Rattle.store_api.specs.Telling.{ChangedNothing}
use Rattle.commit_path.specs.Opened.{IsOpened}
use Rattle.commit_path.specs.Spelled.{IsSpelled}
use Rattle.commit_path.proofs.Sources.{later-later, later-drawn12, object-drawn, object-later}
use Rattle.commit_path.proofs.Walks.{Walks, walks-done, walks-ask, walks-then}
use Rattle.commit_path.proofs.Spelling.{Spellings}
use Rattle.store_api.proofs.Telling.{put-did, put-time, makes-keeps}
use Rattle.store_api.proofs.Happening.{ChangedNothing-makes, own-made, HasOwn-makes, log-leaves, snapshot-leaves, over-same, over-done, over-moved, moved-leaves, moved-later, stands-as, new-present, changed-once, failed-made}
use Rattle.commit_path.proofs.Knowing.{IsOpened-append, tip-named}
use Rattle.commit_path.proofs.Listing.{more-makes, WereWritten-append}
use Rattle.commit_path.proofs.Minding.{IsMinded, own-commit}
use Rattle.commit_path.proofs.Having.{Wrote, none-written, Wrote-makes}
use Rattle.commit_path.proofs.Writing.{arrays-walks}
use Rattle.commit_path.proofs.Owing.{Logged, Snapped, Logged-append, log-logged, read, new-sized, snap-did, over-careful, snap-careful, log-careful, made-now, made-stable}

-- ---- a commit
-- the client's own puts of its log and of its snapshot stay its own
WasLogged-makes : (by : Caller) (start : List Event) (id : Id12) (time : ℕ) (op : Op) (reply : Reply) (old new : List Event) → Makes by op reply old new → WasLogged by.number id time start old → WasLogged by.number id time start new
WasLogged-makes by start id time op reply old new m l = record { bytes = l.bytes; version = l.version; own = HasOwn-makes by start op (PutNew (Txn id) l.bytes Set) reply (Is_new (New_done l.version time)) old new m l.own }

abbrev WasSnapped-makes : (by : Caller) (start : List Event) (id : Id12) (message : List ℕ) (time : ℕ) (op : Op) (reply : Reply) (old new : List Event) → Makes by op reply old new → WasSnapped by.number id message time start old → WasSnapped by.number id message time start new
WasSnapped-makes by start id message time op reply old new m p = record {
  bytes = p.bytes;
  snap = p.snap;
  read = p.read;
  message_is = p.message_is;
  flushed = p.flushed;
  version = p.version;
  now = p.now;
  own = HasOwn-makes by start op (PutNew (Snapshot id) p.bytes Set) reply (Is_new (New_done p.version p.now)) old new m p.own;
}

module _ (L : Spellings) (by : Caller) (ids : AnyIds) (mine : Sessions) (s : SessionState) (message : List ℕ) (later : IsLater ids s.ids) (w : IsSpelled s) (m : IsUtf8 message) (start : List Event) where
  abbrev Careful : List Event → ℕ → Op → Type 0
  Careful = IsMinded ids mine s start

  abbrev Nothing : List Event → Type 0
  Nothing = ChangedNothing by.number start

  abbrev Told : Result Tried Refusal → List Event → Type 0
  Told = CommitTells by.number s message start

  abbrev Ready : Written → List Event → Type 0
  Ready x journal = Wrote s by.number start (changed_arrays s.held (base_nodes s)) x journal

  module _ (x : Written) (id : Id12) (own : (journal : List Event) → mine journal s id) (is_id : IsId12 id) (drawn : MayDrawObject s.ids id) (now_drawn : drawn12 x.ids ≡ Some id) (logs : is_long (log_file (log_for s id)) ≡ false) (may_write : writes s ≡ true) where
    abbrev next : AnyIds
    next = after12 x.ids

    abbrev over_put : Op
    over_put = commits_over s (ref_bytes id)

    abbrev log_bytes : List ℕ
    log_bytes = log_file (log_for s id)

    abbrev log_put : Op
    log_put = PutNew (Txn id) log_bytes Set

    abbrev snap_bytes : ℕ → List ℕ
    snap_bytes flushed = snapshot_bytes (snap_for s message x.news id flushed)

    abbrev snap_put : ℕ → Op
    snap_put flushed = PutNew (Snapshot id) (snap_bytes flushed) Set

    may : MayDrawObject ids id
    may = object-later ids s.ids id later drawn

    written-by : (journal : List Event) → Ready x journal → WereWritten by.number s x.news id start journal
    written-by journal k = record { listed = k.listed; drawn = subst (λ (i : AnyIds). drawn12 i ≡ Some id) k.behind now_drawn }

    -- what is known after each step
    record AfterLog (time : ℕ) (journal : List Event) : Type 0 where
      pub ready : Ready x journal
      pub logged : Logged s id journal
      pub log : WasLogged by.number id time start journal

    record AfterSnapshot (time : ℕ) (journal : List Event) : Type 0 where
      pub ready : Ready x journal
      pub logged : Logged s id journal
      pub snapped : Snapped s message x.news time id journal
      pub log : WasLogged by.number id time start journal
      pub snapshot : WasSnapped by.number id message time start journal
      pub is : snapshot.snap ≡ snap_for s message x.news id time

    -- ---- the branch
    -- whatever the put over was answered, the manifests, the log and the snapshot were put, and the snapshot is the session's
    written-told : (flushed : ℕ) (reply : Reply) (old new : List Event) → AfterSnapshot flushed old → Makes by over_put reply old new → WasWritten by.number s id message start new
    written-told flushed reply old new a n = record {
      news = x.news;
      manifests = more-makes (WereWritten by.number s x.news id start) (WereWritten-append by.number s x.news id start) by over_put reply old new n (written-by old a.ready);
      time = flushed;
      log = WasLogged-makes by start id flushed over_put reply old new n a.log;
      snapshot = WasSnapped-makes by start id message flushed over_put reply old new n a.snapshot;
      is = a.is;
    }

    made-told : (flushed : ℕ) (reply : Reply) (old new : List Event) → AfterSnapshot flushed old → Makes by over_put reply old new → IsOnce new → IsMade s id new
    made-told flushed reply old new a n =
        let polite = (over-careful L by ids mine s message start x id own is_id may w m logs may_write flushed old a.ready a.logged a.snapped).polite in
        makes-keeps (λ h. IsOnce h → IsMade s id h) (made-stable s id) by over_put reply old new polite n (made-now L s by.number start x message flushed id old a.ready a.logged a.snapped)

    done-told : (flushed : ℕ) (version : Version) (now : ℕ) (old new : List Event) → AfterSnapshot flushed old → Makes by over_put (Is_over (Over_done version now)) old new → TookEffect by.number s message (record { id = id; version = version }) start new
    done-told flushed version now old new a n =
        let did = over-done (length n.middle) n.time (version_of s) (found n.middle (Branch (branch_of s))) version now (over-same _ _ n.answered.answered) in
        record {
          bytes = ref_bytes id;
          names = L.reference.written id is_id;
          now = now;
          own = own-made by start over_put (Is_over (Over_done version now)) old new n a.ready.nothing;
          position = did.position;
          read = stands-as n.middle (Branch (branch_of s)) did.stored (version_of s) did.stands did.old_is;
          once = changed-once by start over_put (Is_over (Over_done version now)) old new n a.ready.nothing;
          drawn = drawn;
          written = written-told flushed (Is_over (Over_done version now)) old new a n;
          is_made = made-told flushed (Is_over (Over_done version now)) old new a n;
        }

    doubt-told : (flushed : ℕ) (done : Bool) (old new : List Event) → AfterSnapshot flushed old → Makes by over_put (Failed done) old new → WasDoubted by.number s message id start new
    doubt-told flushed done old new a n = record {
      bytes = ref_bytes id;
      names = L.reference.written id is_id;
      done = done;
      own = own-made by start over_put (Failed done) old new n a.ready.nothing;
      once = changed-once by start over_put (Failed done) old new n a.ready.nothing;
      drawn = drawn;
      written = written-told flushed (Failed done) old new a n;
      is_made = made-told flushed (Failed done) old new a n;
    }

    moved-told : (there : Option Version) (now : ℕ) (old new : List Event) → Ready x old → Makes by over_put (Is_over (Moved there now)) old new → WasMoved by.number s (version_at (version_of s)) there next start new
    moved-told there now old new k n =
        let differs = over-moved (length n.middle) n.time (version_of s) (found n.middle (Branch (branch_of s))) there now (over-same _ _ n.answered.answered) in
        let o' = subst (λ (h : List Event). IsOpened s h) (sym n.waits.is) (IsOpened-append s old n.waits.between (good-waits by old n.waits.between n.waits.others) k.opened) in
        let tip = tip-named n.middle s.base s.origin may_write o'.named in
        record {
          old_is = refl;
          next_is = later-later s.ids x.ids (after12 x.ids) k.ids (later-drawn12 x.ids);
          id = id;
          drawn = drawn;
          news = x.news;
          manifests = more-makes (WereWritten by.number s x.news id start) (WereWritten-append by.number s x.news id start) by over_put (Is_over (Moved there now)) old new n (written-by old k);
          behind = ap after12 k.behind;
          bytes = ref_bytes id;
          names = L.reference.written id is_id;
          now = now;
          own = own-made by start over_put (Is_over (Moved there now)) old new n k.nothing;
          later = moved-later n.middle (branch_of s) (version_of s) tip.bytes there tip.stood differs;
          nothing = ChangedNothing-makes by start over_put (Is_over (Moved there now)) old new n (moved-leaves by (branch_of s) (ref_bytes id) (version_at (version_of s)) Commit there now n.time n.middle differs) k.nothing;
        }

    branch-told : (flushed : ℕ) (reply : Reply) (old new : List Event) → AfterSnapshot flushed old → Makes by over_put reply old new → Walks Careful Nothing Told by (after_branch s id next reply) new
    branch-told flushed (Is_over (Over_done v now)) old new a n = walks-done Careful Nothing Told by (Ok (Was_done (record { id = id; version = v }))) new (done-told flushed v now old new a n)
    branch-told flushed (Is_over (Moved there now)) old new a n = walks-done Careful Nothing Told by (Ok (Lost (version_at (version_of s)) there next)) new (moved-told there now old new a.ready n)
    branch-told flushed (Failed d) old new a n = walks-done Careful Nothing Told by (Err (R.InDoubt id)) new (doubt-told flushed d old new a n)
    branch-told flushed _ old new a n = let e = n.answered.answered in absurd (cc)

    branch-walks : (flushed : ℕ) (journal : List Event) → AfterSnapshot flushed journal → Walks Careful Nothing Told by (put_branch s id next) journal
    branch-walks flushed journal a =
        walks-ask Careful Nothing Told by over_put (after_branch s id next) journal
        (over-careful L by ids mine s message start x id own is_id may w m logs may_write flushed journal a.ready a.logged a.snapped, own-commit L by.number s message start x id flushed journal a.ready a.snapped is_id a.log a.snapshot) a.ready.nothing
        (λ reply new n. (λ off. absurd cc, branch-told flushed reply journal new a n))

    -- ---- the snapshot
    snap-nothing : (flushed : ℕ) (reply : Reply) (old new : List Event) → Nothing old → Makes by (snap_put flushed) reply old new → Nothing new
    snap-nothing flushed reply old new c n = ChangedNothing-makes by start (snap_put flushed) reply old new n (snapshot-leaves by id (snap_bytes flushed) Set reply n.time n.middle) c

    snapshot-taken : (flushed : ℕ) (version : Version) (now : ℕ) (old new : List Event) → Nothing old → Makes by (snap_put flushed) (Is_new (Present version now)) old new → WasTaken by.number s (Snapshot id) start new
    snapshot-taken flushed version now old new c n =
        let there = new-present (length n.middle) n.time (found n.middle (Snapshot id)) version now n.answered.answered in
        record {
          id = id;
          drawn = drawn;
          which = inr (inl refl);
          bytes = snap_bytes flushed;
          version = version;
          now = now;
          own = own-made by start (snap_put flushed) (Is_new (Present version now)) old new n c;
          there = stands-as n.middle (Snapshot id) there.stored version.0 there.stands there.version_is;
        }

    module _ (flushed : ℕ) (f : flushed < 2 ^ 64) (short : is_long (snap_bytes flushed) ≡ false) where
      snap-careful-now : (journal : List Event) → AfterLog flushed journal → IsCareful ids mine journal by.number (snap_put flushed)
      snap-careful-now journal a = snap-careful L by ids mine s message start x id own is_id may w m logs flushed journal f short a.ready a.logged

      snapshot-told : (reply : Reply) (old new : List Event) → AfterLog flushed old → Makes by (snap_put flushed) reply old new → Walks Careful Nothing Told by (after_snapshot s id next reply) new
      snapshot-told (Is_new (New_done v now)) old new a n =
          let polite : IsPolite old (snap_put flushed) = (snap-careful-now old a).polite in
          let sized = new-sized s by.number start old (changed_arrays s.held (base_nodes s)) x.news a.ready.lists in
          branch-walks flushed new (record {
            ready = Wrote-makes by s start (changed_arrays s.held (base_nodes s)) x (snap_put flushed) (Is_new (New_done v now)) old new polite n (snap-nothing flushed (Is_new (New_done v now)) old new a.ready.nothing n) a.ready;
            logged = makes-keeps (Logged s id) (Logged-append s id) by (snap_put flushed) (Is_new (New_done v now)) old new polite n a.logged;
            snapped = snap-did L s message x.news flushed id w sized is_id f m short by v now old new n;
            log = WasLogged-makes by start id flushed (snap_put flushed) (Is_new (New_done v now)) old new n a.log;
            snapshot = record {
              bytes = snap_bytes flushed;
              snap = snap_for s message x.news id flushed;
              read = read L s message x.news flushed id w sized is_id f m short;
              message_is = refl;
              flushed = refl;
              version = v;
              now = now;
              own = own-made by start (snap_put flushed) (Is_new (New_done v now)) old new n a.ready.nothing;
            };
            is = refl;
          })
      snapshot-told (Is_new (Present v now)) old new a n =
          walks-done Careful Nothing Told by (Err (R.IdTaken (Snapshot id))) new (snapshot-taken flushed v now old new a.ready.nothing n, snap-nothing flushed (Is_new (Present v now)) old new a.ready.nothing n)
      snapshot-told (Failed d) old new a n =
          walks-done Careful Nothing Told by (Err R.StoreFault) new
          (failed-made by (IsOfCommit s) start (snap_put flushed) d old new (inr (id, snap_bytes flushed, drawn, inr (inr refl))) n a.ready.nothing, snap-nothing flushed (Failed d) old new a.ready.nothing n)
      snapshot-told _ old new a n = let e = n.answered.answered in absurd (cc)

    -- a snapshot that is too long isn't put
    snapshot-walks : (flushed : ℕ) → flushed < 2 ^ 64 → (journal : List Event) → AfterLog flushed journal → (long : Bool) → is_long (snap_bytes flushed) ≡ long
        → Walks Careful Nothing Told by (cond long (Done (Err (R.TooLarge kinds.Snapshot))) (Ask (snap_put flushed) (after_snapshot s id next))) journal
    snapshot-walks flushed f journal a true e =
        walks-done Careful Nothing Told by (Err (R.TooLarge kinds.Snapshot)) journal (record { id = id; news = x.news; manifests = written-by journal a.ready; time = flushed; log = a.log; long = e }, a.ready.nothing)
    snapshot-walks flushed f journal a false e =
        walks-ask Careful Nothing Told by (snap_put flushed) (after_snapshot s id next) journal (snap-careful-now flushed f e journal a, tt) a.ready.nothing
        (λ reply new n. (λ off. snap-nothing flushed reply journal new a.ready.nothing n, snapshot-told flushed f e reply journal new a n))

    -- ---- the log
    log-nothing : (reply : Reply) (old new : List Event) → Nothing old → Makes by log_put reply old new → Nothing new
    log-nothing reply old new c n = ChangedNothing-makes by start log_put reply old new n (log-leaves by id log_bytes Set reply n.time n.middle) c

    log-taken : (version : Version) (now : ℕ) (old new : List Event) → Nothing old → Makes by log_put (Is_new (Present version now)) old new → WasTaken by.number s (Txn id) start new
    log-taken version now old new c n =
        let there = new-present (length n.middle) n.time (found n.middle (Txn id)) version now n.answered.answered in
        record {
          id = id;
          drawn = drawn;
          which = inl refl;
          bytes = log_bytes;
          version = version;
          now = now;
          own = own-made by start log_put (Is_new (Present version now)) old new n c;
          there = stands-as n.middle (Txn id) there.stored version.0 there.stands there.version_is;
        }

    log-told : (reply : Reply) (old new : List Event) → Ready x old → Makes by log_put reply old new → Walks Careful Nothing Told by (after_log s message x.news id next reply) new
    log-told (Is_new (New_done v now)) old new k n =
        snapshot-walks now (put-time by (Txn id) log_bytes Set v now old new n) new
        (record {
          ready = Wrote-makes by s start (changed_arrays s.held (base_nodes s)) x log_put (Is_new (New_done v now)) old new tt n (log-nothing (Is_new (New_done v now)) old new k.nothing n) k;
          logged = log-logged L s id new w is_id logs (put-did by (Txn id) log_bytes Set v now old new (λ j first free. first free) n);
          log = record { bytes = log_bytes; version = v; own = own-made by start log_put (Is_new (New_done v now)) old new n k.nothing };
        }) (is_long (snap_bytes now)) refl
    log-told (Is_new (Present v now)) old new k n = walks-done Careful Nothing Told by (Err (R.IdTaken (Txn id))) new (log-taken v now old new k.nothing n, log-nothing (Is_new (Present v now)) old new k.nothing n)
    log-told (Failed d) old new k n =
        walks-done Careful Nothing Told by (Err R.StoreFault) new (failed-made by (IsOfCommit s) start log_put d old new (inr (id, log_bytes, drawn, inr (inl refl))) n k.nothing, log-nothing (Failed d) old new k.nothing n)
    log-told _ old new k n = let e = n.answered.answered in absurd (cc)

    log-walks : (journal : List Event) → Ready x journal → Walks Careful Nothing Told by (Ask (PutNew (Txn id) (log_file (log_for s id)) Set) (after_log s message x.news id (after12 x.ids))) journal
    log-walks journal k =
        walks-ask Careful Nothing Told by log_put (after_log s message x.news id next) journal (log-careful L by ids mine s message start x id own is_id may w m logs journal, tt) k.nothing
        (λ reply new n. (λ off. log-nothing reply journal new k.nothing n, log-told reply journal new k n))

  -- ---- behind the arrays
  module _ (draws : (h : List Event) (id : Id12) → MayDrawObject s.ids id → mine h s id) (may_write : writes s ≡ true) (x : Written) (journal : List Event) (k : Ready x journal) where
    by_length : (id : Id12) → drawn12 x.ids ≡ Some id → (long : Bool) → is_long (log_file (log_for s id)) ≡ long
        → Walks Careful Nothing Told by (cond long (Done (Err (R.TooLarge kinds.Log))) (Ask (PutNew (Txn id) (log_file (log_for s id)) Set) (after_log s message x.news id (after12 x.ids)))) journal
    by_length id e true l = walks-done Careful Nothing Told by (Err (R.TooLarge kinds.Log)) journal (record { id = id; drawn = object-drawn s.ids x.ids id k.ids e; long = l }, k.nothing)
    by_length id e false l = let drawn = object-drawn s.ids x.ids id k.ids e in log-walks x id (λ h. draws h id drawn) (drawn12-IsId12 x.ids id e) drawn e l may_write journal k

    abbrev arrays : List ChangedArray
    arrays = changed_arrays s.held (base_nodes s)

    by_draw : (o : Option Id12) → drawn12 x.ids ≡ o → Walks Careful Nothing Told by (put_log s message x.news o (after12 x.ids)) journal
    by_draw None e = walks-done Careful Nothing Told by (Err R.IdsSpent) journal (record { front = arrays; left = []; are = append-nil arrays; news = x.news; listed = k.listed; needs = tt; spent = subst (λ (i : AnyIds). drawn12 i ≡ None) k.behind e }, k.nothing)
    by_draw (Some id) e = by_length id e (is_long (log_file (log_for s id))) refl

  -- Whatever others do, each operation of a commit is polite and owed; wherever it may find no memory, its client has changed no branch;
  -- and its answer tells the journal so.
  pub commit-walks : ((h : List Event) (id : Id12) → MayDrawObject s.ids id → mine h s id) → (journal : List Event) → IsOpened s journal → ChangedNothing by.number start journal → Walks (IsMinded ids mine s start) (ChangedNothing by.number start) (CommitTells by.number s message start) by (commit_program s message) journal
  unfolding commit_program
  commit-walks draws journal o c = by_tests (writes s) refl (is_untouched (touched s.held (base_nodes s))) refl
    where
      all : writes s ≡ true → Walks Careful Nothing Told by (write_all s message) journal
      all may_write =
          walks-then Careful Nothing (Ready) (λ why h. Told (Err why) h) Told by (arrays_program s.rows s.held.chunks (changed_arrays s.held (base_nodes s)) (unwritten s)) (after_arrays s message) journal
          (arrays-walks L by ids mine s message later w start [] (changed_arrays s.held (base_nodes s)) (unwritten s) journal refl (none-written by s start journal o c))
          (λ x h k. by_draw draws may_write x h k (drawn12 x.ids) refl)
          (λ why h e. e)

      by_tests : (may_write : Bool) → writes s ≡ may_write → (untouched : Bool) → is_untouched (touched s.held (base_nodes s)) ≡ untouched
          → Walks Careful Nothing Told by (cond may_write (cond untouched (Done (Err R.NothingToCommit)) (write_all s message)) (Done (Err R.ReadOnly))) journal
      by_tests true e true u = walks-done Careful Nothing Told by (Err R.NothingToCommit) journal (u, c)
      by_tests true e false u = all e
      by_tests false e u v = walks-done Careful Nothing Told by (Err R.ReadOnly) journal (e, c)
