-- What is read of a ref: each operation is a get, and the answer tells the journal.
use Rattle.std.proofs.Common.{◌≡◌, ◌≢◌, inl, inr, ℕ, zero, suc, ◌+◌, Bool, true, false, cond, List, [], ◌∷◌, ◌++◌, length, refl, sym, ◌∙◌, ap, subst, arith, append_assoc, append-nil}
use Rattle.std.specs.Prelude.{Option, Some, None, Result, Ok, Err, nat_lt, ◌&&◌}
use Rattle.std.specs.Result.{result_ok}
use Rattle.std.specs.List.{All}
use Rattle.std.proofs.lemmas.Bool.{and_parts}
use Rattle.std.proofs.lemmas.List.{length-append}
use Rattle.std.proofs.lemmas.List.Elements.{All-nil, All-cons, All-append}
use Rattle.flat_tables.specs.declared.header.Kind.TheVariants as kinds
use Rattle.flat_tables.specs.File.{file_limit}
use Rattle.ice_ids.specs.declared.Id12.{Id12}
use Rattle.ice_ids.specs.Text.{initial_id}
use Rattle.snapshot_file.specs.declared.snapshot.SnapshotFile.{SnapshotFile}
use Rattle.repo_objects.specs.declared.bad_objects.Bad.{Bad}
use Rattle.repo_objects.specs.Readings.{read_ref, read_snapshot, snapshot_by}
use Rattle.repo_objects.specs.Laws.{SnapshotLaw}
use Rattle.object_store.specs.declared.keys.Key.{Key}
use Rattle.object_store.specs.declared.keys.Key.TheVariants.{Snapshot}
use Rattle.object_store.specs.declared.events.Version.{Version}
use Rattle.object_store.specs.declared.events.Op.{Op}
use Rattle.object_store.specs.declared.events.Op.TheVariants.{Get}
use Rattle.object_store.specs.declared.events.Got.TheVariants.{Found, Absent}
use Rattle.object_store.specs.declared.events.Reply.{Reply}
use Rattle.object_store.specs.declared.events.Reply.TheVariants.{Got, Failed}
use Rattle.object_store.specs.declared.events.Event.{Event}
use Rattle.object_store.specs.Machine.{found}
use Rattle.object_store.proofs.Slots.{StoodAt-append, WasPut-append}
use Rattle.store_api.specs.declared.machines.Refusal.{Refusal}
use Rattle.store_api.specs.declared.machines.Refusal.TheVariants as R
use Rattle.store_api.specs.Journal.{StoodAt, WasPut, IsCut}
use Rattle.store_api.specs.Callers.{Caller, Makes}
use Rattle.store_api.specs.Program.{Done, Leads}
use Rattle.store_api.specs.Running.{Program, on_answer}
use Rattle.store_api.specs.Telling.{WasGot, WasAbsent, WasRef, WasReadAs}
use Rattle.store_api.proofs.Telling.{get-had}
use Rattle.store_api.proofs.Happening.{WasGot-append}
use Rattle.repo_read.specs.declared.answers.Resolved.{Resolved}
use Rattle.repo_read.specs.Answers.{at_key, resolved_at}
use Rattle.repo_read.specs.Chains.{most_snapshots, Leading}
use Rattle.repo_read.proofs.Own.{Since, own-made}
use Rattle.repo_read.proofs.Replies.{got-cases, got-absent}
use Rattle.repo_read.proofs.Leading.{leading-append, leading-next}
use Rattle.repo_read.proofs.Namings.{WasRef-append}
use Rattle.expiry.specs.declared.terms.Terms.{Terms}
use Rattle.expiry.specs.declared.look.Decision.{Decision}
use Rattle.expiry.specs.declared.look.Decision.TheVariants.{Gone, Keeps, Drops, Cuts}
use Rattle.expiry.specs.Verdicts.{ToKeep, ToCut, ToDrop, is_older, cut_of, expiry_of, may_drop, cut_file}
use Rattle.expiry.specs.Looks.{if_there, ref_seen, Seen, seen_at, snapshot_seen, next_of, cut_bytes, cuts, look_below, most_below, look_head, look_named, look_program}
use Rattle.expiry.specs.Telling.{WasRead, HistoryEndsAt, WasJudged, IsCutOf, HasFailed, Cause}
use Rattle.expiry.proofs.Lasting.{Lasts, lasts-makes}
use Rattle.expiry.proofs.Playing.{Reads, done-reads, choice-reads, answer-reads}
use Rattle.expiry.proofs.Judging.{Follows, next-is, next-none, drops-so, stays-so, cuts-here, cuts-later, cut-written, longer, no-longer}

-- ---- gets alone
below-reads : (left cutoff : ℕ) (last : Seen) (next : Option Id12) → Reads (look_below left cutoff last next)
unfolding Reads look_below
below-reads left cutoff last None = tt
below-reads zero cutoff last (Some id) = tt
below-reads (suc left) cutoff last (Some id) = (
  tt,
  λ reply. answer-reads (λ (seen : Seen). cond (is_older cutoff seen.file) (Done (cuts last)) (look_below left cutoff seen (next_of seen.file)))
      (λ seen. choice-reads (is_older cutoff seen.file) (Done (cuts last)) (look_below left cutoff seen (next_of seen.file)) (done-reads (cuts last)) (below-reads left cutoff seen (next_of seen.file)))
      (snapshot_seen id reply),
)

head-reads : (t : Terms) (ref : Key) (version : Version) (head : Seen) → Reads (look_head t ref version head)
head-reads t ref version head =
    choice-reads (may_drop t ref && is_older t.cutoff head.file) (Done (Ok (Drops version))) (look_below most_below t.cutoff head (next_of head.file)) (done-reads (Ok (Drops version)))
    (below-reads most_below t.cutoff head (next_of head.file))

named-reads : (t : Terms) (ref : Key) (named : Option Resolved) → Reads (look_named t ref named)
unfolding Reads
named-reads t ref None = tt
named-reads t ref (Some named) = (tt, λ reply. answer-reads (look_head t ref named.version) (head-reads t ref named.version) (snapshot_seen named.id reply))

pub look-reads : (t : Terms) (ref : Key) → Reads (look_program t ref)
unfolding Reads
look-reads t ref = (tt, λ reply. answer-reads (look_named t ref) (named-reads t ref) (ref_seen ref reply))

-- ---- what is told
-- the ref is to be dropped, may be, and was there
pub record ToBeDropped (t : Terms) (client : ℕ) (ref : Key) (version : Version) (start journal : List Event) : Type 0 where
  pub judged : WasJudged t client ref version ToDrop start journal
  pub may : may_drop t ref ≡ true
  pub put : WasPut journal ref

-- the snapshot is to be cut, and may be put over so
pub record ToBeCut (t : Terms) (client : ℕ) (ref : Key) (id : Id12) (bytes : List ℕ) (old : Version) (start journal : List Event) : Type 0 where
  pub cut : IsCutOf t client ref id bytes old start journal
  pub polite : IsCut journal id old.0 bytes

abbrev pub LookTells : Terms → ℕ → (ref : Key) → (start : List Event) → Result Decision Refusal → List Event → Type 0
LookTells t client ref start (Ok Gone) journal = WasAbsent client ref start journal
LookTells t client ref start (Ok Keeps) journal = (version : Version) × WasJudged t client ref version ToKeep start journal
LookTells t client ref start (Ok (Drops version)) journal = ToBeDropped t client ref version start journal
LookTells t client ref start (Ok (Cuts id version bytes)) journal = ToBeCut t client ref id bytes version start journal
LookTells t client ref start (Err why) journal = Cause t client why start journal

-- ---- own events
pub since-more : (start : List Event) → Lasts (Since start)
since-more start journal more s = record { more = s.more ++ more; is = ap (λ (h : List Event). h ++ more) s.is ∙ append_assoc start s.more more }

pub failed-so : (by : Caller) (start : List Event) (op : Op) (done : Bool) (old new : List Event) → Makes by op (Failed done) old new → Since start old → HasFailed by.number start new
failed-so by start op done old new m s = record { op = op; done = done; own = own-made by start op (Failed done) old new m s }

absent-so : (by : Caller) (start : List Event) (key : Key) (now : ℕ) (old new : List Event) → Makes by (Get key) (Got (Absent now)) old new → Since start old → WasAbsent by.number key start new
absent-so by start key now old new m s = record {
  now = now;
  own = own-made by start (Get key) (Got (Absent now)) old new m s;
  nothing = got-absent (found m.middle key) now m.time m.answered.answered;
}

got-so : (by : Caller) (start : List Event) (key : Key) (bytes : List ℕ) (version : Version) (now : ℕ) (old new : List Event) → Makes by (Get key) (Got (Found bytes version now)) old new → Since start old → WasGot by.number key bytes version.0 start new
got-so by start key bytes version now old new m s = record { now = now; own = own-made by start (Get key) (Got (Found bytes version now)) old new m s }

-- ---- a snapshot that was read
-- the client's own get of this id was answered with it, at a version at which it stood
record WasSeen (client : ℕ) (id : Id12) (seen : Seen) (start journal : List Event) : Type 0 where
  pub bytes : List ℕ
  pub got : WasGot client (Snapshot id) bytes seen.version.0 start journal
  pub read : snapshot_by id bytes ≡ Some seen.file
  pub stood : StoodAt journal (Snapshot id) seen.version.0 bytes

seen-more : (client : ℕ) (id : Id12) (seen : Seen) (start : List Event) → Lasts (WasSeen client id seen start)
seen-more client id seen start journal more w = record {
  bytes = w.bytes;
  got = WasGot-append client (Snapshot id) w.bytes seen.version.0 start journal more w.got;
  read = w.read;
  stood = StoodAt-append journal more (Snapshot id) seen.version.0 w.bytes w.stood;
}

seen-read : (client : ℕ) (id : Id12) (seen : Seen) (start journal : List Event) → WasSeen client id seen start journal → WasReadAs client id seen.file start journal
seen-read client id seen start journal w = record { bytes = w.bytes; version = seen.version.0; got = w.got; read = w.read }

module _ (laws : SnapshotLaw) (by : Caller) (t : Terms) (ref : Key) (start : List Event) where
  abbrev Tells : Result Decision Refusal → List Event → Type 0
  Tells = LookTells t by.number ref start

  -- ---- a cut
  cut-tells : (version : Version) (last : Seen) (h : List Event) → WasJudged t by.number ref version (ToCut last.file) start h → WasSeen by.number last.file.id last start h → last.file.id ≢ initial_id → Tells (cuts last) h
  cut-tells version last h judged seen other = choose (nat_lt file_limit (length (cut_bytes last.file))) refl
    where
      choose : (b : Bool) → nat_lt file_limit (length (cut_bytes last.file)) ≡ b
          → Tells (cond b (Err (R.TooLarge kinds.Snapshot)) (Ok (Cuts last.file.id last.version (cut_bytes last.file)))) h
      choose true e = (refl, record { ref = ref; version = version; file = last.file; judged = judged; long = longer file_limit (length (cut_bytes last.file)) e })
      choose false e =
          let written : snapshot_by last.file.id (cut_bytes last.file) ≡ Some (cut_file last.file) = cut-written laws last.file.id seen.bytes last.file seen.read (no-longer file_limit (length (cut_bytes last.file)) e) in
          record {
            cut = record {
              version = version;
              file = last.file;
              judged = judged;
              id_is = refl;
              read = record { bytes = seen.bytes; version = last.version.0; got = seen.got; read = seen.read };
              old_is = refl;
              written = written;
            };
            polite = record { before = seen.bytes; stood = seen.stood; snap = last.file; was = seen.read; is = written; not_initial = other };
          }

  -- ---- down the parents
  -- The walk has come to this snapshot, and what is to become of the ref is decided by those that follow.
  record Walks (head : SnapshotFile) (version : Version) (below : List SnapshotFile) (last : Seen) (left : ℕ) (h : List Event) : Type 0 where
    pub id : Id12
    pub read : WasRef by.number ref version id start h
    pub chain : Leading by.number (Some id) (head ∷ below) last.file.parent start h
    pub alone : id ≡ initial_id → below ≡ []
    pub apart : All (λ (s : SnapshotFile). s.id ≢ initial_id) below
    pub first : id ≡ initial_id → last.file.id ≡ initial_id
    pub top : last.file.id ≡ initial_id → head.id ≡ initial_id
    pub undecided : (more : List SnapshotFile) → expiry_of t.cutoff (may_drop t ref) head (below ++ more) ≡ cut_of t.cutoff last.file more
    pub seen : WasSeen by.number last.file.id last start h
    pub since : Since start h
    pub count : length (head ∷ below) + left ≡ most_snapshots

  walks-more : (head : SnapshotFile) (version : Version) (below : List SnapshotFile) (last : Seen) (left : ℕ) → Lasts (Walks head version below last left)
  walks-more head version below last left journal more w = record {
    id = w.id;
    read = WasRef-append by.number ref version w.id start journal more w.read;
    chain = leading-append by.number (Some w.id) (head ∷ below) last.file.parent start journal more w.chain;
    alone = w.alone;
    apart = w.apart;
    first = w.first;
    top = w.top;
    undecided = w.undecided;
    seen = seen-more by.number last.file.id last start journal more w.seen;
    since = since-more start journal more w.since;
    count = w.count;
  }

  walks-makes : (head : SnapshotFile) (version : Version) (below : List SnapshotFile) (last : Seen) (left : ℕ) (op : Op) (reply : Reply) (old new : List Event) → Makes by op reply old new → Walks head version below last left old → Walks head version below last left new
  walks-makes head version below last left op reply old new m w = lasts-makes (Walks head version below last left) (walks-more head version below last left) by op reply old new m w

  -- what was read so far
  was-read : (head : SnapshotFile) (version : Version) (below : List SnapshotFile) (last : Seen) (left : ℕ) (h : List Event) → Walks head version below last left h → WasRead by.number ref version head below last.file.parent start h
  was-read head version below last left h w = record { id = w.id; read = w.read; chain = w.chain; alone = w.alone; apart = w.apart }

  -- it ends here
  ends-here : (head : SnapshotFile) (version : Version) (below : List SnapshotFile) (last : Seen) (left : ℕ) (h : List Event) → Walks head version below last left h → next_of last.file ≡ None → HistoryEndsAt head last.file.parent
  ends-here head version below last left h w e = elim (next-none last.file e) [
    | inl initial ↦ inl (w.top initial)
    | inr end ↦ inr end
  ]

  keeps-so : (head : SnapshotFile) (version : Version) (below : List SnapshotFile) (last : Seen) (left : ℕ) (h : List Event) → Walks head version below last left h → next_of last.file ≡ None → WasJudged t by.number ref version ToKeep start h
  keeps-so head version below last left h w e = record {
    head = head;
    below = below;
    to = last.file.parent;
    read = was-read head version below last left h w;
    verdict_is = ap (λ (l : List SnapshotFile). expiry_of t.cutoff (may_drop t ref) head l) (sym (append-nil below)) ∙ w.undecided [];
    whole = λ k. ends-here head version below last left h w e;
  }

  -- one more was read
  module _ (head : SnapshotFile) (version : Version) (below : List SnapshotFile) (last : Seen) (id : Id12) (f : Follows last.file id) where
    leads-on : (left : ℕ) (h : List Event) (s : SnapshotFile) → (w : Walks head version below last left h) → WasReadAs by.number id s start h → Leading by.number (Some w.id) (head ∷ (below ++ s ∷ [])) s.parent start h
    leads-on left h s w r =
        leading-next by.number (Some w.id) (head ∷ below) id s start h (subst (λ (o : Option Id12). Leading by.number (Some w.id) (head ∷ below) o start h) f.parent_is w.chain) r

    apart-on : (left : ℕ) (h : List Event) (s : SnapshotFile) → Walks head version below last left h → s.id ≡ id → All (λ (x : SnapshotFile). x.id ≢ initial_id) (below ++ s ∷ [])
    apart-on left h s w own =
        All-append (λ (x : SnapshotFile). x.id ≢ initial_id) below (s ∷ []) w.apart
        (All-cons (λ (x : SnapshotFile). x.id ≢ initial_id) s [] (λ e. f.further (sym own ∙ e)) (All-nil (λ (x : SnapshotFile). x.id ≢ initial_id)))

    -- ... which isn't older
    goes-on : (left : ℕ) (seen : Seen) (h : List Event) → Walks head version below last (suc left) h → WasSeen by.number id seen start h → seen.file.id ≡ id → is_older t.cutoff seen.file ≡ false → Walks head version (below ++ seen.file ∷ []) seen left h
    goes-on left seen h w r own young = record {
      id = w.id;
      read = w.read;
      chain = leads-on (suc left) h seen.file w (seen-read by.number id seen start h r);
      alone = λ e. absurd (f.not_initial (w.first e));
      apart = apart-on (suc left) h seen.file w own;
      first = λ e. absurd (f.not_initial (w.first e));
      top = λ e. absurd (f.further (sym own ∙ e));
      undecided = λ more.
          ap (λ (l : List SnapshotFile). expiry_of t.cutoff (may_drop t ref) head l) (append_assoc below (seen.file ∷ []) more)
          ∙ (w.undecided (seen.file ∷ more) ∙ cuts-later t.cutoff last.file seen.file more young);
      seen = subst (λ (x : Id12). WasSeen by.number x seen start h) (sym own) r;
      since = w.since;
      count = let n = length-append below (seen.file ∷ []) in let c = w.count in omega (arith, n, c);
    }

    -- ... which is
    cuts-so : (left : ℕ) (seen : Seen) (h : List Event) → Walks head version below last left h → WasSeen by.number id seen start h → seen.file.id ≡ id → is_older t.cutoff seen.file ≡ true → WasJudged t by.number ref version (ToCut last.file) start h
    cuts-so left seen h w r own old = record {
      head = head;
      below = below ++ seen.file ∷ [];
      to = seen.file.parent;
      read = record {
        id = w.id;
        read = w.read;
        chain = leads-on left h seen.file w (seen-read by.number id seen start h r);
        alone = λ e. absurd (f.not_initial (w.first e));
        apart = apart-on left h seen.file w own;
      };
      verdict_is = w.undecided (seen.file ∷ []) ∙ cuts-here t.cutoff last.file seen.file [] old;
      whole = λ e. absurd (cc);
    }

  -- what follows a snapshot that was read
  abbrev on_seen : (left : ℕ) (last : Seen) → Seen → Program Decision
  on_seen left last seen = cond (is_older t.cutoff seen.file) (Done (cuts last)) (look_below left t.cutoff seen (next_of seen.file))

  abbrev Goes_on : (head : SnapshotFile) (version : Version) (below : List SnapshotFile) (left : ℕ) → Type 0
  Goes_on head version below left = (seen : Seen) (k : List Event) → Walks head version (below ++ seen.file ∷ []) seen left k → Leads Tells by (look_below left t.cutoff seen (next_of seen.file)) k

  one-leads : (left : ℕ) (head : SnapshotFile) (version : Version) (below : List SnapshotFile) (last : Seen) (id : Id12) (seen : Seen) (h : List Event) → Walks head version below last (suc left) h → Follows last.file id → WasSeen by.number id seen start h → seen.file.id ≡ id → Goes_on head version below left
      → Leads Tells by (on_seen left last seen) h
  unfolding Leads
  one-leads left head version below last id seen h w f r own here = choose (is_older t.cutoff seen.file) refl
    where
      choose : (b : Bool) → is_older t.cutoff seen.file ≡ b → Leads Tells by (cond b (Done (cuts last)) (look_below left t.cutoff seen (next_of seen.file))) h
      choose true e = cut-tells version last h (cuts-so head version below last id f (suc left) seen h w r own e) w.seen f.not_initial
      choose false e = here seen h (goes-on head version below last id f left seen h w r own e)

  bytes-lead : (left : ℕ) (head : SnapshotFile) (version : Version) (below : List SnapshotFile) (last : Seen) (id : Id12) (bytes : List ℕ) (at : Version) (h : List Event) → Walks head version below last (suc left) h → Follows last.file id
      → WasGot by.number (Snapshot id) bytes at.0 start h → StoodAt h (Snapshot id) at.0 bytes → Goes_on head version below left → (r : Result SnapshotFile Bad) → read_snapshot id bytes ≡ r → Leads Tells by (on_answer (on_seen left last) (seen_at at (at_key (Snapshot id) r))) h
  unfolding Leads
  bytes-lead left head version below last id bytes at h w f got stood here (Ok s) e =
      one-leads left head version below last id (record { file = s; version = at }) h w f (record { bytes = bytes; got = got; read = ap result_ok e; stood = stood }) (laws.own id bytes s (ap result_ok e)) here
  bytes-lead left head version below last id bytes at h w f got stood here (Err bad) e = inr (id, record { key_is = refl; bytes = bytes; version = at.0; got = got; unread = e })

  get-leads : (left : ℕ) (head : SnapshotFile) (version : Version) (below : List SnapshotFile) (last : Seen) (id : Id12) (reply : Reply) (old new : List Event) → Walks head version below last (suc left) old → Follows last.file id → Goes_on head version below left
      → Makes by (Get (Snapshot id)) reply old new → Leads Tells by (on_answer (on_seen left last) (snapshot_seen id reply)) new
  unfolding Leads
  get-leads left head version below last id reply old new w f here m =
      got-cases by old new (λ r. Leads Tells by (on_answer (on_seen left last) (snapshot_seen id r)) new) (Snapshot id)
      (λ bytes at now n.
      bytes-lead left head version below last id bytes at new (walks-makes head version below last (suc left) (Get (Snapshot id)) (Got (Found bytes at now)) old new n w) f (got-so by start (Snapshot id) bytes at now old new n w.since) (get-had by (Snapshot id) bytes at now old new n).stood here (read_snapshot id bytes) refl)
      (λ now n. record { id = id; key_is = refl; absent = absent-so by start (Snapshot id) now old new n w.since })
      (λ done n. failed-so by start (Get (Snapshot id)) done old new n w.since)
      reply m

  below-leads : (left : ℕ) (head : SnapshotFile) (version : Version) (below : List SnapshotFile) (last : Seen) (h : List Event) → Walks head version below last left h → (o : Option Id12) → next_of last.file ≡ o → Leads Tells by (look_below left t.cutoff last o) h
  unfolding Leads look_below
  below-leads left head version below last h w None e = (version, keeps-so head version below last left h w e)
  below-leads zero head version below last h w (Some id) e =
      let f = next-is last.file id e in
      record {
        ref = ref;
        version = version;
        head = head;
        below = below;
        next = id;
        read = subst (λ (o : Option Id12). WasRead by.number ref version head below o start h) f.parent_is (was-read head version below last zero h w);
        many = let c = w.count in omega (arith, c);
        further = f.further;
      }
  below-leads (suc left) head version below last h w (Some id) e = λ reply new m.
      get-leads left head version below last id reply h new w (next-is last.file id e) (λ seen k j. below-leads left head version (below ++ seen.file ∷ []) seen k j (next_of seen.file) refl) m

  -- ---- the snapshot that the ref names
  module _ (id : Id12) (version : Version) (seen : Seen) (own : seen.file.id ≡ id) (h : List Event) (named : WasRef by.number ref version id start h) (put : WasPut h ref) (r : WasSeen by.number id seen start h) (since : Since start h) where
    head-walks : (may_drop t ref && is_older t.cutoff seen.file) ≡ false → Walks seen.file version [] seen most_below h
    head-walks e = record {
      id = id;
      read = named;
      chain = (seen-read by.number id seen start h r, refl);
      alone = λ k. refl;
      apart = All-nil (λ (s : SnapshotFile). s.id ≢ initial_id);
      first = λ k. own ∙ k;
      top = λ k. k;
      undecided = λ more. stays-so t.cutoff (may_drop t ref) seen.file more e;
      seen = subst (λ (x : Id12). WasSeen by.number x seen start h) (sym own) r;
      since = since;
      count = refl;
    }

    head-drops : (may_drop t ref && is_older t.cutoff seen.file) ≡ true → ToBeDropped t by.number ref version start h
    head-drops e = record {
      judged = record {
        head = seen.file;
        below = [];
        to = seen.file.parent;
        read = record { id = id; read = named; chain = (seen-read by.number id seen start h r, refl); alone = λ k. refl; apart = All-nil (λ (s : SnapshotFile). s.id ≢ initial_id) };
        verdict_is = drops-so t.cutoff (may_drop t ref) seen.file [] e;
        whole = λ k. absurd (cc);
      };
      may = (and_parts (may_drop t ref) (is_older t.cutoff seen.file) e).0;
      put = put;
    }

    head-leads : Leads Tells by (look_head t ref version seen) h
    unfolding Leads
    head-leads = choose (may_drop t ref && is_older t.cutoff seen.file) refl
      where
        choose : (b : Bool) → (may_drop t ref && is_older t.cutoff seen.file) ≡ b → Leads Tells by (cond b (Done (Ok (Drops version))) (look_below most_below t.cutoff seen (next_of seen.file))) h
        choose true e = head-drops e
        choose false e = below-leads most_below seen.file version [] seen h (head-walks e) (next_of seen.file) refl

  head-bytes : (id : Id12) (version : Version) (bytes : List ℕ) (at : Version) (h : List Event) → WasRef by.number ref version id start h → WasPut h ref → Since start h → WasGot by.number (Snapshot id) bytes at.0 start h → StoodAt h (Snapshot id) at.0 bytes
      → (r : Result SnapshotFile Bad) → read_snapshot id bytes ≡ r → Leads Tells by (on_answer (look_head t ref version) (seen_at at (at_key (Snapshot id) r))) h
  unfolding Leads
  head-bytes id version bytes at h named put since got stood (Ok s) e = head-leads id version (record { file = s; version = at }) (laws.own id bytes s (ap result_ok e)) h named put (record { bytes = bytes; got = got; read = ap result_ok e; stood = stood }) since
  head-bytes id version bytes at h named put since got stood (Err bad) e = inr (id, record { key_is = refl; bytes = bytes; version = at.0; got = got; unread = e })

  head-told : (id : Id12) (version : Version) (reply : Reply) (old new : List Event) → WasRef by.number ref version id start old → WasPut old ref → Since start old → Makes by (Get (Snapshot id)) reply old new → Leads Tells by (on_answer (look_head t ref version) (snapshot_seen id reply)) new
  unfolding Leads
  head-told id version reply old new named put since m =
      got-cases by old new (λ r. Leads Tells by (on_answer (look_head t ref version) (snapshot_seen id r)) new) (Snapshot id)
      (λ bytes at now n.
      head-bytes id version bytes at new
      (lasts-makes (WasRef by.number ref version id start) (λ j more w. WasRef-append by.number ref version id start j more w) by (Get (Snapshot id)) (Got (Found bytes at now)) old new n named)
      (lasts-makes (λ j. WasPut j ref) (λ j more w. WasPut-append j more ref w) by (Get (Snapshot id)) (Got (Found bytes at now)) old new n put)
      (lasts-makes (Since start) (since-more start) by (Get (Snapshot id)) (Got (Found bytes at now)) old new n since)
      (got-so by start (Snapshot id) bytes at now old new n since) (get-had by (Snapshot id) bytes at now old new n).stood (read_snapshot id bytes) refl)
      (λ now n. record { id = id; key_is = refl; absent = absent-so by start (Snapshot id) now old new n since })
      (λ done n. failed-so by start (Get (Snapshot id)) done old new n since)
      reply m

  -- ---- the ref
  ref-bytes : (bytes : List ℕ) (version : Version) (h : List Event) → WasGot by.number ref bytes version.0 start h → WasPut h ref → Since start h → (r : Result Id12 Bad) → read_ref bytes ≡ r → Leads Tells by (on_answer (look_named t ref) (if_there (resolved_at version (at_key ref r)))) h
  unfolding Leads
  ref-bytes bytes version h got put since (Ok id) e = λ reply new m. head-told id version reply h new (record { bytes = bytes; got = got; names = ap result_ok e }) put since m
  ref-bytes bytes version h got put since (Err bad) e = inl (record { key_is = refl; bytes = bytes; version = version.0; got = got; unread = e })

  ref-told : (reply : Reply) (old new : List Event) → Since start old → Makes by (Get ref) reply old new → Leads Tells by (on_answer (look_named t ref) (ref_seen ref reply)) new
  unfolding Leads
  ref-told reply old new since m =
      got-cases by old new (λ r. Leads Tells by (on_answer (look_named t ref) (ref_seen ref r)) new) ref
      (λ bytes version now n.
      ref-bytes bytes version new (got-so by start ref bytes version now old new n since) (get-had by ref bytes version now old new n).put (lasts-makes (Since start) (since-more start) by (Get ref) (Got (Found bytes version now)) old new n since) (read_ref bytes) refl)
      (λ now n. absent-so by start ref now old new n since)
      (λ done n. failed-so by start (Get ref) done old new n since)
      reply m

  pub look-leads : (journal : List Event) → Since start journal → Leads Tells by (look_program t ref) journal
  unfolding Leads
  look-leads journal since = λ reply new m. ref-told reply journal new since m
