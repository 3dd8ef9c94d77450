-- What the answer of an opening says of the journal, whatever others do.
use Rattle.std.proofs.Common.{◌≡◌, ◌⊎◌, inl, inr, ℕ, Bool, List, ◌++◌, refl, sym, ap, subst}
use Rattle.std.specs.Prelude.{Result, Ok, Err}
use Rattle.std.specs.Result.{result_ok}
use Rattle.ice_ids.specs.declared.Id12.{Id12}
use Rattle.ice_ids.specs.declared.drawing.AnyIds.{AnyIds}
use Rattle.snapshot_file.specs.declared.snapshot.SnapshotFile.{SnapshotFile}
use Rattle.repo_objects.specs.declared.bad_objects.Bad.{Bad}
use Rattle.repo_objects.specs.Readings.{read_snapshot}
use Rattle.object_store.specs.declared.keys.Key.{Key}
use Rattle.object_store.specs.declared.keys.Key.TheVariants.{Snapshot}
use Rattle.object_store.specs.declared.events.Version.{Version}
use Rattle.object_store.specs.declared.events.Op.TheVariants.{Get}
use Rattle.object_store.specs.declared.events.Got.TheVariants.{Found, Absent}
use Rattle.object_store.specs.declared.events.Reply.{Reply}
use Rattle.object_store.specs.declared.events.Reply.TheVariants.{Got as Is_got, Failed}
use Rattle.object_store.specs.declared.events.Event.{Event}
use Rattle.store_api.specs.declared.machines.Refusal.{Refusal}
use Rattle.store_api.specs.declared.machines.Refusal.TheVariants as R
use Rattle.store_api.specs.Journal.{Each}
use Rattle.store_api.specs.Callers.{Caller, IsOther, Makes}
use Rattle.store_api.specs.Program.{Prog, Done, Ask, Leads}
use Rattle.store_api.specs.Running.{on_answer}
use Rattle.store_api.specs.Telling.{ChangedNothing, GetsOf, WasAbsent}
use Rattle.store_api.proofs.Programs.{Leads-bind, Leads-weaker}
use Rattle.store_api.proofs.Happening.{ChangedNothing-others, failed-made, got-nothing, got-made, absent-made, WasGot-append, WasAbsent-append, RefWasBad-append}
use Rattle.repo_read.specs.declared.resolving.At.{At}
use Rattle.repo_read.specs.declared.resolving.Named.{Named}
use Rattle.repo_read.specs.Answers.{at_key}
use Rattle.repo_read.specs.Resolving.{resolve_at_program, base_told}
use Rattle.repo_read.specs.Naming.{WasResolved, IsNaming, NamingTells, key_of}
use Rattle.repo_read.proofs.Replies.{got-cases}
use Rattle.repo_read.proofs.Namings.{WasResolved-append, WasResolved-makes}
use Rattle.repo_read.proofs.NamingTold.{WasNothing-append, TargetWasBad-append, naming-told}
use Rattle.session.specs.Sessions.{SessionState}
use Rattle.session.specs.Opening.{Asked, open_program, base_program}
use Rattle.commit_path.specs.Opened.{WasBegun, BaseWasAbsent, WasMissing, IsOfOpening, RefusalTells}
use Rattle.commit_path.proofs.Lasting.{failed-others}
use Rattle.commit_path.proofs.Sooner.{gets-change_nothing, resolved-sooner, nothing-sooner, unnamed-sooner, failure-sooner}
use Rattle.commit_path.proofs.Opened.{after_base, base-found, base-failed}

-- two facts of each answer
pub Leads-both : {A : Type 0} (Q R : A → List Event → Type 0) (by : Caller) (p : Prog A) (journal : List Event) → Leads Q by p journal → Leads R by p journal → Leads (λ a h. Q a h × R a h) by p journal
unfolding Leads
Leads-both Q R by (Done a) journal q r = (q, r)
Leads-both Q R by (Ask op next) journal q r = λ reply new m. Leads-both Q R by (next reply) new (q reply new m) (r reply new m)

-- ---- what stays so
pub WasBegun-append : (client : ℕ) (a : Asked) (s : SessionState) (start journal more : List Event) → WasBegun client a s start journal → WasBegun client a s start (journal ++ more)
WasBegun-append client a s start journal more b = record {
  named = b.named;
  resolved = WasResolved-append client a.at b.named start journal more b.resolved;
  base = b.base;
  bytes = b.bytes;
  version = b.version;
  got = WasGot-append client (Snapshot s.base) b.bytes b.version start journal more b.got;
  snap = b.snap;
  read = b.read;
  begins = b.begins;
}

module _ (client : ℕ) (at : At) (start journal more : List Event) where
  WasMissing-append : (key : Key) → WasMissing client at key start journal → WasMissing client at key start (journal ++ more)
  WasMissing-append key b = record { by_ref = b.by_ref; named = b.named; resolved = WasResolved-append client at b.named start journal more b.resolved; key_is = b.key_is; absent = WasAbsent-append client (Snapshot b.named.id) start journal more b.absent }

absent-append : (client : ℕ) (at : At) (start journal more : List Event) → BaseWasAbsent client at start journal → BaseWasAbsent client at start (journal ++ more)
absent-append client (At.Branch name) start journal more w = absurd w
absent-append client (At.Tag name) start journal more w = absurd w
absent-append client (At.Snapshot id) start journal more w = WasAbsent-append client (Snapshot id) start journal more w

either : {A B C D : Type 0} → (A → C) → (B → D) → A ⊎ B → C ⊎ D
either f g (inl a) = inl (f a)
either f g (inr b) = inr (g b)

module _ (by : Caller) (a : Asked) (start journal more : List Event) (others : Each (IsOther by) journal more) where
  pub RefusalTells-others : (why : Refusal) → RefusalTells by.number a start why journal → RefusalTells by.number a start why (journal ++ more)
  RefusalTells-others R.NoRef t = (either (WasNothing-append by.number a.at start journal more) (absent-append by.number a.at start journal more) t.0, ChangedNothing-others by start journal more others t.1)
  RefusalTells-others (R.Missing key) t = (WasMissing-append by.number a.at start journal more key t.0, ChangedNothing-others by start journal more others t.1)
  RefusalTells-others (R.BadFile key bad) t = (either (RefWasBad-append by.number (key_of a.at) key bad start journal more) (TargetWasBad-append by.number a.at key bad start journal more) t.0, ChangedNothing-others by start journal more others t.1)
  RefusalTells-others R.StoreFault t = failed-others by start journal more others (IsOfOpening a) t
  RefusalTells-others R.NoMemory t = ChangedNothing-others by start journal more others t
  RefusalTells-others _ t = absurd t

-- ---- an opening
-- what the client's own gets tell
abbrev pub GetsTell : ℕ → Asked → List Event → Result SessionState Refusal → List Event → Type 0
GetsTell client a start (Ok s) journal = WasBegun client a s start journal × ChangedNothing client start journal
GetsTell client a start (Err why) journal = RefusalTells client a start why journal

-- what those of what names the snapshot tell
abbrev NameTells : ℕ → Asked → List Event → Result Named Refusal → List Event → Type 0
NameTells client a start (Ok named) journal = WasResolved client a.at named start journal × ChangedNothing client start journal
NameTells client a start (Err why) journal = RefusalTells client a start why journal

-- the snapshot that was named is absent
absent-told : (by : Caller) (at : At) (may_write : Bool) (ids : AnyIds) (start : List Event) (named : Named) (now : ℕ) (journal : List Event) → WasResolved by.number at named start journal → WasAbsent by.number (Snapshot named.id) start journal → ChangedNothing by.number start journal
    → Leads (GetsTell by.number (record { at = at; writes = may_write; ids = ids }) start) by (after_base (record { at = at; writes = may_write; ids = ids }) named (base_told at named.id (Is_got (Absent now)))) journal
unfolding Leads
absent-told by (At.Branch name) may_write ids start named now journal w absent c = (record { by_ref = tt; named = named; resolved = w; key_is = refl; absent = absent }, c)
absent-told by (At.Tag name) may_write ids start named now journal w absent c = (record { by_ref = tt; named = named; resolved = w; key_is = refl; absent = absent }, c)
absent-told by (At.Snapshot id) may_write ids start named now journal w absent c = (inr (subst (λ (x : Id12). WasAbsent by.number (Snapshot x) start journal) (ap (λ (n : Named). n.id) w) absent), c)

module _ (by : Caller) (a : Asked) (start : List Event) where
  abbrev Told : Result SessionState Refusal → List Event → Type 0
  Told = GetsTell by.number a start

  name-told : (middle : List Event) → ChangedNothing by.number start middle → (r : Result Named Refusal) (journal : List Event) → NamingTells by.number a.at middle r journal → NameTells by.number a start r journal
  name-told middle c (Ok named) journal t = (resolved-sooner by.number start middle c.more c.is a.at named journal t.0, gets-change_nothing by.number start middle journal t.1 c)
  name-told middle c (Err R.NoRef) journal t = (inl (nothing-sooner by.number start middle c.more c.is a.at journal t.0), gets-change_nothing by.number start middle journal t.1 c)
  name-told middle c (Err (R.BadFile key bad)) journal t = (inl (unnamed-sooner by.number start middle c.more c.is a.at key bad journal t.0), gets-change_nothing by.number start middle journal t.1 c)
  name-told middle c (Err R.StoreFault) journal t = failure-sooner by.number (GetsOf (IsNaming a.at)) (IsOfOpening a) (λ op k. inl k) start middle journal c t
  name-told middle c (Err _) journal t = absurd t

  module _ (named : Named) (old new : List Event) (w : WasResolved by.number a.at named start old) (c : ChangedNothing by.number start old) where
    still : (reply : Reply) → Makes by (Get (Snapshot named.id)) reply old new → WasResolved by.number a.at named start new
    still reply m = WasResolved-makes by (Get (Snapshot named.id)) reply a.at named start old new m w

    read-told : (bytes : List ℕ) (put : Version) (now : ℕ) → Makes by (Get (Snapshot named.id)) (Is_got (Found bytes put now)) old new → (r : Result SnapshotFile Bad) → read_snapshot named.id bytes ≡ r → Leads Told by (after_base a named (at_key (Snapshot named.id) r)) new
    unfolding Leads
    read-told bytes put now m (Err bad) e = (
      inr (record {
        named = named;
        resolved = still (Is_got (Found bytes put now)) m;
        unread = record { key_is = refl; bytes = bytes; version = put.0; got = got-made by start (Snapshot named.id) bytes put now old new m c; unread = e };
      }),
      got-nothing by start (Snapshot named.id) (Is_got (Found bytes put now)) old new m c,
    )
    read-told bytes put now m (Ok snap) e = (
      record {
        named = named;
        resolved = still (Is_got (Found bytes put now)) m;
        base = refl;
        bytes = bytes;
        version = put.0;
        got = got-made by start (Snapshot named.id) bytes put now old new m c;
        snap = snap;
        read = ap result_ok e;
        begins = refl;
      },
      got-nothing by start (Snapshot named.id) (Is_got (Found bytes put now)) old new m c,
    )

    failed-told : (done : Bool) → Makes by (Get (Snapshot named.id)) (Failed done) old new → Leads Told by (after_base a named (Err R.StoreFault)) new
    unfolding Leads
    failed-told done m = failed-made by (IsOfOpening a) start (Get (Snapshot named.id)) done old new (inr (named.id, refl)) m c

    as-told : (told r : Result SnapshotFile Refusal) → told ≡ r → Leads Told by (after_base a named r) new → Leads Told by (after_base a named told) new
    as-told told r e l = subst (λ (x : Result SnapshotFile Refusal). Leads Told by (after_base a named x) new) (sym e) l

    base-told : (reply : Reply) → Makes by (Get (Snapshot named.id)) reply old new → Leads Told by (after_base a named (base_told a.at named.id reply)) new
    base-told reply m = got-cases by old new (λ r. Leads Told by (after_base a named (base_told a.at named.id r)) new) (Snapshot named.id)
        (λ bytes put now n.
        as-told (base_told a.at named.id (Is_got (Found bytes put now))) (at_key (Snapshot named.id) (read_snapshot named.id bytes)) (base-found a.at named.id bytes put now (read_snapshot named.id bytes) refl)
        (read-told bytes put now n (read_snapshot named.id bytes) refl))
        (λ now n.
        absent-told by a.at a.writes a.ids start named now new (still (Is_got (Absent now)) n) (absent-made by start (Snapshot named.id) now old new n c) (got-nothing by start (Snapshot named.id) (Is_got (Absent now)) old new n c))
        (λ done n. as-told (base_told a.at named.id (Failed done)) (Err R.StoreFault) (base-failed a.at named.id done) (failed-told done n))
        reply m

  named-told : (r : Result Named Refusal) (journal : List Event) → NameTells by.number a start r journal → Leads Told by (on_answer (base_program a) r) journal
  unfolding Leads
  named-told (Ok named) journal t = λ reply new m. base-told named journal new t.0 t.1 reply m
  named-told (Err why) journal t = t

  pub open-told : (journal : List Event) → ChangedNothing by.number start journal → Leads Told by (open_program a) journal
  open-told journal c =
      Leads-bind (NameTells by.number a start) Told by (resolve_at_program a.at) (on_answer (base_program a)) journal
      (Leads-weaker (NamingTells by.number a.at journal) (NameTells by.number a start) (name-told journal c) by (resolve_at_program a.at) journal ((naming-told by a.at).leads journal))
      named-told
