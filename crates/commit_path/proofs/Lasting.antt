-- What the answer of a commit says stays so, whatever others do.
use Rattle.std.proofs.Common.{ℕ, List, [], ◌∷◌, ◌++◌}
use Rattle.std.specs.Prelude.{Option, Result, Ok, Err}
use Rattle.ice_ids.specs.declared.Id12.{Id12}
use Rattle.flat_tables.specs.declared.header.Kind.{Kind}
use Rattle.flat_tables.specs.declared.header.Kind.TheVariants as kinds
use Rattle.zarr_changes.specs.declared.chunks.ChangedArray.{ChangedArray}
use Rattle.changed_snapshot.specs.declared.new_snapshot.NewList.{NewList}
use Rattle.changed_snapshot.specs.Rows.{own_manifests}
use Rattle.object_store.specs.declared.keys.Key.{Key}
use Rattle.object_store.specs.declared.keys.Key.TheVariants.{Snapshot, Manifest, Txn}
use Rattle.object_store.specs.declared.keys.Why.TheVariants.{Set}
use Rattle.object_store.specs.declared.events.Version.{Version}
use Rattle.object_store.specs.declared.events.Op.{Op}
use Rattle.object_store.specs.declared.events.Op.TheVariants.{PutNew}
use Rattle.object_store.specs.declared.events.New.TheVariants.{Done as New_done, Present}
use Rattle.object_store.specs.declared.events.Over.TheVariants.{Done as Over_done, Moved}
use Rattle.object_store.specs.declared.events.Reply.TheVariants.{New as Is_new, Over as Is_over, Failed}
use Rattle.object_store.specs.declared.events.Event.{Event}
use Rattle.store_api.specs.declared.machines.Refusal.{Refusal}
use Rattle.store_api.specs.declared.machines.Refusal.TheVariants as R
use Rattle.store_api.specs.Journal.{Each}
use Rattle.store_api.specs.Callers.{Caller, IsOther}
use Rattle.store_api.proofs.Programs.{good-waits}
use Rattle.session.specs.Sessions.{SessionState}
use Rattle.ice_ids.specs.declared.drawing.AnyIds.{AnyIds}
use Rattle.commit_path.specs.declared.commit.Committed.{Committed}
use Rattle.commit_path.specs.declared.commit.Tried.{Tried}
use Rattle.commit_path.specs.declared.commit.Tried.TheVariants.{Done as Was_done, Lost}
use Rattle.commit_path.specs.Answered.{commits_over, WasLogged, WasSnapped, WereWritten, WasWritten, TookEffect, WasMoved, WasDoubted, WasTaken, IsOfCommit, IsLong, NeedsId, HasNoId, CommitRefused, CommitTells}
use Rattle.store_api.specs.Telling.{ChangedOnce, WasFailed}
use Rattle.store_api.proofs.Happening.{ChangedNothing-others, HasOwn-append, WasGot-append, WasAbsent-append}
use Rattle.commit_path.proofs.Listing.{WereRead-append, WereListed-append, WereWritten-append}
use Rattle.commit_path.proofs.Owing.{made-stable}

module _ (by : Caller) (start journal more : List Event) (others : Each (IsOther by) journal more) where
  once-others : (before : List Event) (event : Event) → ChangedOnce by.number start before event journal → ChangedOnce by.number start before event (journal ++ more)
  once-others before event c = record { earlier = c.earlier; later = ChangedNothing-others by (before ++ event ∷ []) journal more others c.later }

  pub failed-others : (kind : Op → Type 0) → WasFailed by.number kind start journal → WasFailed by.number kind start (journal ++ more)
  failed-others kind f = record { op = f.op; of_kind = f.of_kind; done = f.done; own = HasOwn-append by.number f.op (Failed f.done) start journal more f.own; once = once-others f.own.before f.own.event f.once }

  logged-others : (id : Id12) (time : ℕ) → WasLogged by.number id time start journal → WasLogged by.number id time start (journal ++ more)
  logged-others id time l = record { bytes = l.bytes; version = l.version; own = HasOwn-append by.number (PutNew (Txn id) l.bytes Set) (Is_new (New_done l.version time)) start journal more l.own }

  abbrev snapped-others : (id : Id12) (message : List ℕ) (time : ℕ) → WasSnapped by.number id message time start journal → WasSnapped by.number id message time start (journal ++ more)
  snapped-others id message time p = record {
    bytes = p.bytes;
    snap = p.snap;
    read = p.read;
    message_is = p.message_is;
    flushed = p.flushed;
    version = p.version;
    now = p.now;
    own = HasOwn-append by.number (PutNew (Snapshot id) p.bytes Set) (Is_new (New_done p.version p.now)) start journal more p.own;
  }

  written-others : (s : SessionState) (news : List NewList) (id : Id12) → WereWritten by.number s news id start journal → WereWritten by.number s news id start (journal ++ more)
  written-others s news id w = WereWritten-append by.number s news id start journal more w

  put-others : (s : SessionState) (message : List ℕ) (id : Id12) → WasWritten by.number s id message start journal → WasWritten by.number s id message start (journal ++ more)
  put-others s message id p = record {
    news = p.news;
    manifests = written-others s p.news id p.manifests;
    time = p.time;
    log = logged-others id p.time p.log;
    snapshot = snapped-others id message p.time p.snapshot;
    is = p.is;
  }

  effect-others : (s : SessionState) (message : List ℕ) (made : Committed) → TookEffect by.number s message made start journal → TookEffect by.number s message made start (journal ++ more)
  effect-others s message made t = record {
    bytes = t.bytes;
    names = t.names;
    now = t.now;
    own = HasOwn-append by.number (commits_over s t.bytes) (Is_over (Over_done made.version t.now)) start journal more t.own;
    position = t.position;
    read = t.read;
    once = once-others t.own.before t.own.event t.once;
    drawn = t.drawn;
    written = put-others s message made.id t.written;
    is_made = made-stable s made.id journal more (good-waits by journal more others) t.is_made;
  }

  doubt-others : (s : SessionState) (message : List ℕ) (id : Id12) → WasDoubted by.number s message id start journal → WasDoubted by.number s message id start (journal ++ more)
  doubt-others s message id t = record {
    bytes = t.bytes;
    names = t.names;
    done = t.done;
    own = HasOwn-append by.number (commits_over s t.bytes) (Failed t.done) start journal more t.own;
    once = once-others t.own.before t.own.event t.once;
    drawn = t.drawn;
    written = put-others s message id t.written;
    is_made = made-stable s id journal more (good-waits by journal more others) t.is_made;
  }

  moved-others : (s : SessionState) (old : Version) (there : Option Version) (next : AnyIds) → WasMoved by.number s old there next start journal → WasMoved by.number s old there next start (journal ++ more)
  moved-others s old there next t = record {
    old_is = t.old_is;
    next_is = t.next_is;
    id = t.id;
    drawn = t.drawn;
    news = t.news;
    manifests = written-others s t.news t.id t.manifests;
    behind = t.behind;
    bytes = t.bytes;
    names = t.names;
    now = t.now;
    own = HasOwn-append by.number (commits_over s t.bytes) (Is_over (Moved there t.now)) start journal more t.own;
    later = t.later;
    nothing = ChangedNothing-others by start journal more others t.nothing;
  }

  taken-others : (s : SessionState) (key : Key) → WasTaken by.number s key start journal → WasTaken by.number s key start (journal ++ more)
  taken-others s key t = record {
    id = t.id;
    drawn = t.drawn;
    which = t.which;
    bytes = t.bytes;
    version = t.version;
    now = t.now;
    own = HasOwn-append by.number (PutNew key t.bytes Set) (Is_new (Present t.version t.now)) start journal more t.own;
    there = t.there;
  }

  long-others : (s : SessionState) (message : List ℕ) (kind : Kind) → IsLong by.number s message kind start journal → IsLong by.number s message kind start (journal ++ more)
  long-others s message kinds.Manifest t = record { array = t.array; among = t.among; old = t.old; read = WereRead-append by.number (own_manifests s.rows t.array.path t.array.node) t.old start journal more t.read; refs = t.refs; merged = t.merged; id = t.id; cause = t.cause }
  long-others s message kinds.Log t = t
  long-others s message kinds.Snapshot t = record { id = t.id; news = t.news; manifests = written-others s t.news t.id t.manifests; time = t.time; log = logged-others t.id t.time t.log; long = t.long }

  needs-others : (s : SessionState) (left : List ChangedArray) → NeedsId by.number s left start journal → NeedsId by.number s left start (journal ++ more)
  needs-others s [] n = n
  needs-others s (a ∷ left) n = record { old = n.old; read = WereRead-append by.number (own_manifests s.rows a.path a.node) n.old start journal more n.read; refs = n.refs; merged = n.merged }

  spent-others : (s : SessionState) → HasNoId by.number s start journal → HasNoId by.number s start (journal ++ more)
  spent-others s t = record { front = t.front; left = t.left; are = t.are; news = t.news; listed = WereListed-append by.number s t.front t.news start journal more t.listed; needs = needs-others s t.left t.needs; spent = t.spent }

  refused-others : (s : SessionState) (message : List ℕ) (why : Refusal) → CommitRefused by.number s message start why journal → CommitRefused by.number s message start why (journal ++ more)
  refused-others s message R.ReadOnly t = t
  refused-others s message R.NothingToCommit t = t
  refused-others s message R.IdsSpent t = spent-others s t
  refused-others s message (R.TooLarge kind) t = long-others s message kind t
  refused-others s message (R.Missing key) t = record { manifest = t.manifest; named = t.named; key_is = t.key_is; absent = WasAbsent-append by.number (Manifest t.manifest) start journal more t.absent }
  refused-others s message (R.BadFile key bad) t = record { manifest = t.manifest; named = t.named; key_is = t.key_is; bytes = t.bytes; version = t.version; got = WasGot-append by.number (Manifest t.manifest) t.bytes t.version start journal more t.got; unread = t.unread }
  refused-others s message (R.IdTaken key) t = taken-others s key t
  refused-others s message R.NoMemory t = tt
  refused-others s message _ t = absurd t

  pub CommitTells-others : (s : SessionState) (message : List ℕ) (result : Result Tried Refusal) → CommitTells by.number s message start result journal → CommitTells by.number s message start result (journal ++ more)
  CommitTells-others s message (Ok (Was_done made)) t = effect-others s message made t
  CommitTells-others s message (Ok (Lost old there next)) t = moved-others s old there next t
  CommitTells-others s message (Err R.StoreFault) t = (failed-others (IsOfCommit s) t.0, ChangedNothing-others by start journal more others t.1)
  CommitTells-others s message (Err (R.InDoubt id)) t = doubt-others s message id t
  CommitTells-others s message (Err why) t = (refused-others s message why t.0, ChangedNothing-others by start journal more others t.1)
