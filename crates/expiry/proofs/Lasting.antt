-- What an expiry's operations and outcomes rest on stays so, whatever comes.
use Rattle.std.proofs.Common.{◌≡◌, ◌⊎◌, inl, inr, ℕ, List, [], ◌∷◌, ◌++◌, sym, subst}
use Rattle.std.specs.Prelude.{Option, Result, Ok, Err, Some}
use Rattle.std.specs.List.{All}
use Rattle.std.proofs.lemmas.List.Elements.{All-weaker}
use Rattle.ice_ids.specs.declared.Id12.{Id12}
use Rattle.snapshot_file.specs.declared.snapshot.SnapshotFile.{SnapshotFile}
use Rattle.object_store.specs.declared.keys.Key.{Key}
use Rattle.object_store.specs.declared.keys.Key.TheVariants.{Snapshot, Manifest, Txn, Chunk, Branch, Tag, Tombstone, Lease}
use Rattle.object_store.specs.declared.keys.Part.{Part}
use Rattle.object_store.specs.declared.keys.Part.TheVariants.{Branches, Tags}
use Rattle.object_store.specs.declared.keys.Why.TheVariants.{Expire}
use Rattle.object_store.specs.declared.events.Version.{Version}
use Rattle.object_store.specs.declared.events.Op.{Op}
use Rattle.object_store.specs.declared.events.Op.TheVariants.{Get, PutNew, PutOver, Remove, RemoveAt, List as ListPart}
use Rattle.object_store.specs.declared.events.Reply.{Reply}
use Rattle.object_store.specs.declared.events.Reply.TheVariants.{Listed as Is_listed, Failed}
use Rattle.object_store.specs.declared.events.Event.{Event}
use Rattle.store_api.specs.declared.machines.Refusal.{Refusal}
use Rattle.store_api.specs.declared.machines.Refusal.TheVariants as R
use Rattle.store_api.specs.Callers.{Caller, Makes, own_event}
use Rattle.store_api.specs.Telling.{HasOwn}
use Rattle.store_api.proofs.Happening.{HasOwn-append, WasGot-append, WasAbsent-append, RefWasBad-append, SnapshotWasBad-append}
use Rattle.repo_read.proofs.Own.{made-more}
use Rattle.repo_read.proofs.Leading.{leading-append}
use Rattle.repo_read.proofs.Namings.{WasRef-append}
use Rattle.cleanup_reports.specs.declared.cases.What.{What}
use Rattle.cleanup_reports.specs.declared.cases.What.TheVariants.{Kept, Cut, Dropped, Moved, Absent}
use Rattle.cleanup_reports.specs.declared.cases.RefCase.{RefCase}
use Rattle.expiry.specs.declared.terms.Terms.{Terms}
use Rattle.expiry.specs.declared.standing.Expired.{Expired}
use Rattle.expiry.specs.Verdicts.{Verdict, ToKeep, ToCut, ToDrop}
use Rattle.expiry.specs.Plays.{drop_op}
use Rattle.expiry.specs.Telling.{WasRead, WasJudged, IsCutOf, WasCut, WasDropped, CaseTells, Cause, WasListed, CameToAll, refs_of, EndsSo, ExpireTells}
use Rattle.expiry.specs.Owing.{OwesNew, OwesOver, OwesGone, IsOwed}

-- ---- what more events leave true
abbrev pub Lasts : (List Event → Type 0) → Type 0
Lasts N = (journal more : List Event) → N journal → N (journal ++ more)

-- stays so when a client goes on
pub lasts-makes : (N : List Event → Type 0) → Lasts N → (by : Caller) (op : Op) (reply : Reply) (old new : List Event) → Makes by op reply old new → N old → N new
lasts-makes N lasts by op reply old new m n = subst N (sym (made-more by op reply old new m)) (lasts old (m.waits.between ++ own_event by op reply m.time ∷ []) n)

module _ (t : Terms) (client : ℕ) (start journal more : List Event) where
  abbrev own : (op : Op) (reply : Reply) → HasOwn client op reply start journal → HasOwn client op reply start (journal ++ more)
  own op reply h = HasOwn-append client op reply start journal more h

  -- ---- what was read of a ref
  pub read-more : (ref : Key) (version : Version) (head : SnapshotFile) (below : List SnapshotFile) (to : Option Id12) → WasRead client ref version head below to start journal → WasRead client ref version head below to start (journal ++ more)
  read-more ref version head below to r = record {
    id = r.id;
    read = WasRef-append client ref version r.id start journal more r.read;
    chain = leading-append client (Some r.id) (head ∷ below) to start journal more r.chain;
    alone = r.alone;
    apart = r.apart;
  }

  pub judged-more : (ref : Key) (version : Version) (verdict : Verdict) → WasJudged t client ref version verdict start journal → WasJudged t client ref version verdict start (journal ++ more)
  judged-more ref version verdict j = record {
    head = j.head;
    below = j.below;
    to = j.to;
    read = read-more ref version j.head j.below j.to j.read;
    verdict_is = j.verdict_is;
    whole = j.whole;
  }

  pub cut-of-more : (ref : Key) (id : Id12) (bytes : List ℕ) (old : Version) → IsCutOf t client ref id bytes old start journal → IsCutOf t client ref id bytes old start (journal ++ more)
  cut-of-more ref id bytes old c = record {
    version = c.version;
    file = c.file;
    judged = judged-more ref c.version (ToCut c.file) c.judged;
    id_is = c.id_is;
    read = record {
      bytes = c.read.bytes;
      version = c.read.version;
      got = WasGot-append client (Snapshot id) c.read.bytes c.read.version start journal more c.read.got;
      read = c.read.read;
    };
    old_is = c.old_is;
    written = c.written;
  }

  -- ---- the case of a ref
  was-cut : (ref : Key) (what : What) → WasCut t client ref what start journal → WasCut t client ref what start (journal ++ more)
  was-cut ref what w = record {
    id = w.id;
    bytes = w.bytes;
    old = w.old;
    cut = cut-of-more ref w.id w.bytes w.old w.cut;
    reply = w.reply;
    own = own (PutOver (Snapshot w.id) w.bytes w.old Expire) w.reply w.own;
    tells = w.tells;
  }

  was-dropped : (ref : Key) (what : What) → WasDropped t client ref what start journal → WasDropped t client ref what start (journal ++ more)
  was-dropped ref what w = record {
    version = w.version;
    judged = judged-more ref w.version ToDrop w.judged;
    reply = w.reply;
    own = own (drop_op ref w.version) w.reply w.own;
    tells = w.tells;
  }

  pub case-more : (ref : Key) (what : What) → CaseTells t client ref what start journal → CaseTells t client ref what start (journal ++ more)
  case-more ref Absent w = WasAbsent-append client ref start journal more w
  case-more ref Kept w = (w.0, judged-more ref w.0 ToKeep w.1)
  case-more ref (Cut id) w = was-cut ref (Cut id) w
  case-more ref Dropped w = was-dropped ref Dropped w
  case-more ref Moved (inl w) = inl (was-cut ref Moved w)
  case-more ref Moved (inr w) = inr (was-dropped ref Moved w)

  pub cases-more : (cases : List RefCase) → All (λ (c : RefCase). CaseTells t client c.key c.what start journal) cases → All (λ (c : RefCase). CaseTells t client c.key c.what start (journal ++ more)) cases
  cases-more cases all = All-weaker (λ (c : RefCase). CaseTells t client c.key c.what start journal) (λ (c : RefCase). CaseTells t client c.key c.what start (journal ++ more)) (λ c w. case-more c.key c.what w) cases all

  -- ---- why it is refused
  cause-more : (why : Refusal) → Cause t client why start journal → Cause t client why start (journal ++ more)
  cause-more (R.Missing key) w = record { id = w.id; key_is = w.key_is; absent = WasAbsent-append client (Snapshot w.id) start journal more w.absent }
  cause-more (R.BadFile key bad) (inl w) = inl (RefWasBad-append client key key bad start journal more w)
  cause-more (R.BadFile key bad) (inr w) = inr (w.0, SnapshotWasBad-append client w.0 key bad start journal more w.1)
  cause-more R.TooDeep w = record {
    ref = w.ref;
    version = w.version;
    head = w.head;
    below = w.below;
    next = w.next;
    read = read-more w.ref w.version w.head w.below (Some w.next) w.read;
    many = w.many;
    further = w.further;
  }
  cause-more (R.TooLarge kind) w = (w.0, record { ref = w.1.ref; version = w.1.version; file = w.1.file; judged = judged-more w.1.ref w.1.version (ToCut w.1.file) w.1.judged; long = w.1.long })
  cause-more R.StoreFault w = record { op = w.op; done = w.done; own = own w.op (Failed w.done) w.own }
  cause-more R.NoMemory w = tt
  cause-more _ w = absurd w

  -- ---- which refs it came to
  pub listed-more : (part : Part) (refs : List Key) → WasListed client part refs start journal → WasListed client part refs start (journal ++ more)
  listed-more part refs w = record { reply = w.reply; own = own (ListPart part) (Is_listed w.reply) w.own; refs_are = w.refs_are }

  pub all-more : (refs : List Key) → CameToAll client refs start journal → CameToAll client refs start (journal ++ more)
  all-more refs c = record {
    branches = c.branches;
    tags = c.tags;
    branches_listed = listed-more Branches c.branches c.branches_listed;
    tags_listed = listed-more Tags c.tags c.tags_listed;
    refs_are = c.refs_are;
  }

  came-more : (refs left : List Key) → (refs ++ left ≡ []) ⊎ (WasListed client Branches (refs ++ left) start journal ⊎ CameToAll client (refs ++ left) start journal)
      → (refs ++ left ≡ []) ⊎ (WasListed client Branches (refs ++ left) start (journal ++ more) ⊎ CameToAll client (refs ++ left) start (journal ++ more))
  came-more refs left (inl none) = inl none
  came-more refs left (inr (inl w)) = inr (inl (listed-more Branches (refs ++ left) w))
  came-more refs left (inr (inr c)) = inr (inr (all-more (refs ++ left) c))

  ends-more : (cases : List RefCase) (result : Result (Unit {0}) Refusal) → EndsSo t client cases result start journal → EndsSo t client cases result start (journal ++ more)
  ends-more cases (Ok done) e = all-more (refs_of cases) e
  ends-more cases (Err why) e = (record { left = e.0.left; came = came-more (refs_of cases) e.0.left e.0.came }, cause-more why e.1)

  pub tells-more : (outcome : Expired) → ExpireTells t client start outcome journal → ExpireTells t client start outcome (journal ++ more)
  tells-more outcome e = record { each = cases-more outcome.cases e.each; ends = ends-more outcome.cases outcome.result e.ends }

  -- ---- what it owes
  new-more : (bytes : List ℕ) (key : Key) → OwesNew t client start journal bytes key → OwesNew t client start (journal ++ more) bytes key
  new-more bytes (Tombstone name) w = (w.0, (w.1.0, judged-more (Tag name) w.1.0 ToDrop w.1.1))
  new-more bytes (Snapshot id) w = absurd w
  new-more bytes (Manifest id) w = absurd w
  new-more bytes (Txn id) w = absurd w
  new-more bytes (Chunk id) w = absurd w
  new-more bytes (Branch name) w = absurd w
  new-more bytes (Tag name) w = absurd w
  new-more bytes (Lease id) w = absurd w

  over-more : (bytes : List ℕ) (old : Version) (key : Key) → OwesOver t client start journal bytes old key → OwesOver t client start (journal ++ more) bytes old key
  over-more bytes old (Snapshot id) w = (w.0, cut-of-more w.0 id bytes old w.1)
  over-more bytes old (Manifest id) w = absurd w
  over-more bytes old (Txn id) w = absurd w
  over-more bytes old (Chunk id) w = absurd w
  over-more bytes old (Branch name) w = absurd w
  over-more bytes old (Tag name) w = absurd w
  over-more bytes old (Tombstone name) w = absurd w
  over-more bytes old (Lease id) w = absurd w

  gone-more : (old : Version) (key : Key) → OwesGone t client start journal old key → OwesGone t client start (journal ++ more) old key
  gone-more old (Branch name) w = judged-more (Branch name) old ToDrop w
  gone-more old (Snapshot id) w = absurd w
  gone-more old (Manifest id) w = absurd w
  gone-more old (Txn id) w = absurd w
  gone-more old (Chunk id) w = absurd w
  gone-more old (Tag name) w = absurd w
  gone-more old (Tombstone name) w = absurd w
  gone-more old (Lease id) w = absurd w

  pub owed-more : (op : Op) → IsOwed t start journal client op → IsOwed t start (journal ++ more) client op
  owed-more (Get key) w = tt
  owed-more (ListPart part) w = tt
  owed-more (PutNew key bytes why) w = (w.0, new-more bytes key w.1)
  owed-more (PutOver key bytes old why) w = (w.0, over-more bytes old key w.1)
  owed-more (RemoveAt key old why) w = (w.0, gone-more old key w.1)
  owed-more (Remove key why) w = absurd w
