-- What the answer of a rebase tells stays so, whatever others do.
use Rattle.std.proofs.Common.{◌⊎◌, inl, inr, ℕ, List, [], ◌∷◌, ◌++◌, sym, subst}
use Rattle.std.specs.Prelude.{Result, Ok, Err, map}
use Rattle.std.proofs.lemmas.List.Elements.{All-weaker}
use Rattle.ice_ids.specs.declared.Id12.{Id12}
use Rattle.manifest_file.specs.declared.manifest.Place.{Place}
use Rattle.snapshot_file.specs.declared.snapshot.SnapshotFile.{SnapshotFile}
use Rattle.repo_objects.specs.declared.bad_objects.Bad.{Bad}
use Rattle.zarr_tree.specs.declared.cases.Conflict.{Conflict}
use Rattle.zarr_tree.specs.Held.{Held}
use Rattle.conflicts.specs.declared.solving.Policy.{Policy}
use Rattle.object_store.specs.declared.keys.Key.{Key}
use Rattle.object_store.specs.declared.keys.Key.TheVariants.{Snapshot, Txn, Branch}
use Rattle.object_store.specs.declared.events.Version.{Version}
use Rattle.object_store.specs.declared.events.Op.{Op}
use Rattle.object_store.specs.declared.events.Reply.{Reply}
use Rattle.object_store.specs.declared.events.Reply.TheVariants.{Failed}
use Rattle.object_store.specs.declared.events.Event.{Event}
use Rattle.store_api.specs.declared.machines.Refusal.{Refusal}
use Rattle.zarr_tree.specs.declared.edit.EditFault.TheVariants as E
use Rattle.store_api.specs.declared.machines.Refusal.TheVariants as R
use Rattle.store_api.specs.Journal.{Each}
use Rattle.store_api.specs.Callers.{Caller, IsOther, Makes, own_event}
use Rattle.store_api.specs.Telling.{GetsOf, RefWasBad, WasFailure, WasReadAs, WasRef}
use Rattle.store_api.proofs.Happening.{WasGot-append, WasAbsent-append, RefWasBad-append, SnapshotWasBad-append}
use Rattle.session.specs.Sessions.{SessionState, branch_of}
use Rattle.rebase.specs.declared.machine.Rebased.{Rebased}
use Rattle.rebase.specs.declared.machine.Rebased.TheVariants.{OnHead, UpToDate}
use Rattle.rebase.specs.Along.{Link}
use Rattle.rebase.specs.Telling.{CameTo, HasEnded, CameToHead, IsOfRebase, LogIsBad, LogIsMissing, LogWasReadAs, RebaseSays, RebaseTells, SnapshotIsBad, SnapshotIsMissing, WasFull, WasHidden, WasLeft, WasTooDeep, WasUpToDate, WasWalked, WereMet, WereSolved}
use Rattle.repo_read.proofs.Own.{MadeGets-append, MadeOne-append, others-get, made-more}

-- what stays so whatever comes stays so behind an own operation
pub stays-makes : (P : List Event → Type 0) → ((journal more : List Event) → P journal → P (journal ++ more)) → (by : Caller) (op : Op) (reply : Reply) (old new : List Event) → Makes by op reply old new → P old → P new
stays-makes P stays by op reply old new m p = subst (λ (h : List Event). P h) (sym (made-more by op reply old new m)) (stays old (m.waits.between ++ own_event by op reply m.time ∷ []) p)

-- ---- what was met, whatever comes
module _ (client : ℕ) (start journal more : List Event) where
  pub ref-append : (key : Key) (version : Version) (id : Id12) → WasRef client key version id start journal → WasRef client key version id start (journal ++ more)
  ref-append key version id r = record { bytes = r.bytes; got = WasGot-append client key r.bytes version.0 start journal more r.got; names = r.names }

  read-append : (id : Id12) (f : SnapshotFile) → WasReadAs client id f start journal → WasReadAs client id f start (journal ++ more)
  read-append id f r = record { bytes = r.bytes; version = r.version; got = WasGot-append client (Snapshot id) r.bytes r.version start journal more r.got; read = r.read }

  pub walked-append : (base below head : Id12) (fs : List SnapshotFile) → WasWalked client base below head fs start journal → WasWalked client base below head fs start (journal ++ more)
  walked-append base below head fs w = record {
    rises = w.rises;
    apart = w.apart;
    read = All-weaker (λ (f : SnapshotFile). WasReadAs client f.id f start journal) (λ (f : SnapshotFile). WasReadAs client f.id f start (journal ++ more)) (λ f. read-append f.id f) fs w.read;
  }

  log-append : (l : Link) → LogWasReadAs client l start journal → LogWasReadAs client l start (journal ++ more)
  log-append l r = record { bytes = r.bytes; version = r.version; got = WasGot-append client (Txn l.file.id) r.bytes r.version start journal more r.got; log = r.log; read = r.read; lists_are = r.lists_are }

  pub met-append : (s : SessionState) (head : Id12) (version : Version) (links : List Link) (later : List SnapshotFile) → WereMet client s head version links later start journal → WereMet client s head version links later start (journal ++ more)
  met-append s head version links later m = record {
    ref = ref-append (Branch (branch_of s)) version head m.ref;
    walked = walked-append s.base s.base head (map (λ (l : Link). l.file) links ++ later) m.walked;
    logs = All-weaker (λ (l : Link). LogWasReadAs client l start journal) (λ (l : Link). LogWasReadAs client l start (journal ++ more)) log-append links m.logs;
  }

  solved-append : (policy : Policy) (s : SessionState) (head : Id12) (version : Version) (count : ℕ) (snap : SnapshotFile) (held : Held Place) → WereSolved client policy s head version count snap held start journal → WereSolved client policy s head version count snap held start (journal ++ more)
  solved-append policy s head version count snap held w = record {
    links = w.links;
    met = met-append s head version w.links [] w.met;
    solved = w.solved;
    before = w.before;
    lists = w.lists;
    last = w.last;
    count_is = w.count_is;
  }

  came-append : (s : SessionState) (head next : Id12) (seen : List SnapshotFile) → CameTo client s head next seen start journal → CameTo client s head next seen start (journal ++ more)
  came-append s head next seen c = record { version = c.version; ref = ref-append (Branch (branch_of s)) c.version head c.ref; walked = walked-append s.base next head seen c.walked; apart = c.apart }

  -- ---- the answers
  moved-append : (policy : Policy) (s t : SessionState) (count : ℕ) → CameToHead client policy s t count start journal → CameToHead client policy s t count start (journal ++ more)
  moved-append policy s t count w = record { head = w.head; version = w.version; snap = w.snap; held = w.held; solved = solved-append policy s w.head w.version count w.snap w.held w.solved; few = w.few; becomes = w.becomes }

  same-append : (s t : SessionState) → WasUpToDate client s t start journal → WasUpToDate client s t start (journal ++ more)
  same-append s t w = record { version = w.version; ref = ref-append (Branch (branch_of s)) w.version s.base w.ref; becomes = w.becomes }

  full-append : (policy : Policy) (s : SessionState) → WasFull client policy s start journal → WasFull client policy s start (journal ++ more)
  full-append policy s w = record { head = w.head; version = w.version; count = w.count; snap = w.snap; held = w.held; solved = solved-append policy s w.head w.version w.count w.snap w.held w.solved; many = w.many }

  left-append : (policy : Policy) (s : SessionState) (at : Id12) (conflicts : List Conflict) → WasLeft client policy s at conflicts start journal → WasLeft client policy s at conflicts start (journal ++ more)
  left-append policy s at conflicts w = record {
    head = w.head;
    version = w.version;
    links = w.links;
    later = w.later;
    met = met-append s w.head w.version w.links w.later w.met;
    before = w.before;
    one = w.one;
    last = w.last;
    at_is = w.at_is;
    stays = w.stays;
  }

  pub hidden-append : (policy : Policy) (s : SessionState) (key : Key) (bad : Bad) → WasHidden client policy s key bad start journal → WasHidden client policy s key bad start (journal ++ more)
  hidden-append policy s key bad w = record {
    head = w.head;
    version = w.version;
    links = w.links;
    later = w.later;
    met = met-append s w.head w.version w.links w.later w.met;
    at = w.at;
    before = w.before;
    one = w.one;
    last = w.last;
    at_is = w.at_is;
    node = w.node;
    hides = w.hides;
    key_is = w.key_is;
    bad_is = w.bad_is;
  }

  missing-append : (policy : Policy) (s : SessionState) (key : Key) → SnapshotIsMissing client s key start journal ⊎ LogIsMissing client policy s key start journal → SnapshotIsMissing client s key start (journal ++ more) ⊎ LogIsMissing client policy s key start (journal ++ more)
  missing-append policy s key (inl w) = inl (record { head = w.head; next = w.next; seen = w.seen; came = came-append s w.head w.next w.seen w.came; key_is = w.key_is; absent = WasAbsent-append client (Snapshot w.next) start journal more w.absent })
  missing-append policy s key (inr w) = inr (record {
    head = w.head;
    version = w.version;
    links = w.links;
    next = w.next;
    later = w.later;
    met = met-append s w.head w.version w.links (w.next ∷ w.later) w.met;
    held = w.held;
    solved = w.solved;
    key_is = w.key_is;
    absent = WasAbsent-append client (Txn w.next.id) start journal more w.absent;
  })

  snapshot_bad-append : (s : SessionState) (key : Key) (bad : Bad) → SnapshotIsBad client s key bad start journal → SnapshotIsBad client s key bad start (journal ++ more)
  snapshot_bad-append s key bad w = record { head = w.head; next = w.next; seen = w.seen; came = came-append s w.head w.next w.seen w.came; cause = SnapshotWasBad-append client w.next key bad start journal more w.cause }

  log_bad-append : (policy : Policy) (s : SessionState) (key : Key) (bad : Bad) → LogIsBad client policy s key bad start journal → LogIsBad client policy s key bad start (journal ++ more)
  log_bad-append policy s key bad w = record {
    head = w.head;
    version = w.version;
    links = w.links;
    next = w.next;
    later = w.later;
    met = met-append s w.head w.version w.links (w.next ∷ w.later) w.met;
    held = w.held;
    solved = w.solved;
    key_is = w.key_is;
    bytes = w.bytes;
    put = w.put;
    got = WasGot-append client (Txn w.next.id) w.bytes w.put start journal more w.got;
    unread = w.unread;
  }

  deep-append : (s : SessionState) → WasTooDeep client s start journal → WasTooDeep client s start (journal ++ more)
  deep-append s w = record { head = w.head; next = w.next; seen = w.seen; came = came-append s w.head w.next w.seen w.came; many = w.many }

  ended-append : (s : SessionState) (head : Id12) → HasEnded client s head start journal → HasEnded client s head start (journal ++ more)
  ended-append s head w = record { lowest = w.lowest; seen = w.seen; came = came-append s head w.lowest.id w.seen w.came; read = read-append w.lowest.id w.lowest w.read; alone = w.alone }

-- ---- whatever others do
module _ (by : Caller) (policy : Policy) (s : SessionState) (start journal more : List Event) (others : Each (IsOther by) journal more) where
  failure : (kind : Op → Type 0) → WasFailure by.number kind start journal → WasFailure by.number kind start (journal ++ more)
  failure kind w = record { op = w.op; of_kind = w.of_kind; done = w.done; made = MadeOne-append by.number w.op (Failed w.done) start journal more (others-get by journal more others) w.made }

  bad-kept : (key : Key) (bad : Bad)
      → RefWasBad by.number (Branch (branch_of s)) key bad start journal ⊎ (SnapshotIsBad by.number s key bad start journal ⊎ (LogIsBad by.number policy s key bad start journal ⊎ WasHidden by.number policy s key bad start journal))
      → RefWasBad by.number (Branch (branch_of s)) key bad start (journal ++ more)
      ⊎ (SnapshotIsBad by.number s key bad start (journal ++ more) ⊎ (LogIsBad by.number policy s key bad start (journal ++ more) ⊎ WasHidden by.number policy s key bad start (journal ++ more)))
  bad-kept key bad (inl w) = inl (RefWasBad-append by.number (Branch (branch_of s)) key bad start journal more w)
  bad-kept key bad (inr (inl w)) = inr (inl (snapshot_bad-append by.number start journal more s key bad w))
  bad-kept key bad (inr (inr (inl w))) = inr (inr (inl (log_bad-append by.number start journal more policy s key bad w)))
  bad-kept key bad (inr (inr (inr w))) = inr (inr (inr (hidden-append by.number start journal more policy s key bad w)))

  refusal-kept : (why : Refusal) → RebaseSays by.number policy s start (Err why) journal → RebaseSays by.number policy s start (Err why) (journal ++ more)
  refusal-kept R.ReadOnly w = w
  refusal-kept R.NoRef w = WasAbsent-append by.number (Branch (branch_of s)) start journal more w
  refusal-kept (R.Missing key) w = missing-append by.number start journal more policy s key w
  refusal-kept (R.BadFile key bad) w = bad-kept key bad w
  refusal-kept R.TooDeep w = deep-append by.number start journal more s w
  refusal-kept (R.Edit E.Full) w = full-append by.number start journal more policy s w
  refusal-kept (R.Left at conflicts) w = left-append by.number start journal more policy s at conflicts w
  refusal-kept (R.NotAncestor head) w = ended-append by.number start journal more s head w
  refusal-kept R.StoreFault w = failure (GetsOf (IsOfRebase s)) w
  refusal-kept R.NoMemory w = tt
  refusal-kept _ w = absurd w

  says-kept : (result : Result Rebased Refusal) → RebaseSays by.number policy s start result journal → RebaseSays by.number policy s start result (journal ++ more)
  says-kept (Ok (OnHead t count)) w = moved-append by.number start journal more policy s t count w
  says-kept (Ok (UpToDate t)) w = same-append by.number start journal more s t w
  says-kept (Err why) w = refusal-kept why w

  pub rebase-kept : (result : Result Rebased Refusal) → RebaseTells by.number policy s start result journal → RebaseTells by.number policy s start result (journal ++ more)
  rebase-kept result t = (says-kept result t.0, MadeGets-append by.number start journal more (others-get by journal more others) t.1)
