-- What was told of the journal behind a beginning, told of it behind an earlier one.
use Rattle.std.proofs.Common.{◌≡◌, inl, inr, ℕ, true, List, [], ◌∷◌, ◌++◌, ◌∙◌, ap, subst, append_assoc}
use Rattle.std.specs.Prelude.{None}
use Rattle.ice_ids.specs.declared.Id12.{Id12}
use Rattle.repo_objects.specs.declared.bad_objects.Bad.{Bad}
use Rattle.object_store.specs.declared.keys.Key.{Key}
use Rattle.object_store.specs.declared.keys.Key.TheVariants.{Branch, Tag, Tombstone}
use Rattle.object_store.specs.declared.events.Version.{Version}
use Rattle.object_store.specs.declared.events.Op.{Op}
use Rattle.object_store.specs.declared.events.Op.TheVariants.{Get}
use Rattle.object_store.specs.declared.events.Got.TheVariants.{Found, Absent}
use Rattle.object_store.specs.declared.events.Reply.{Reply}
use Rattle.object_store.specs.declared.events.Reply.TheVariants.{Got, Failed}
use Rattle.object_store.specs.declared.events.Event.{Event}
use Rattle.object_store.specs.Machine.{found, version_at}
use Rattle.store_api.specs.Journal.{Each}
use Rattle.store_api.specs.Callers.{Caller, own_event}
use Rattle.store_api.specs.Telling.{ChangedNothing, GetsAlone, HasOwn, LeavesBranches, MadeGets, WasAbsent, WasFailed, WasFailure, WasGot, WasRef}
use Rattle.object_store.proofs.Journals.{Each-append, Each-weaker}
use Rattle.store_api.proofs.Happening.{ChangedNothing-none, get-leaves}
use Rattle.repo_read.specs.declared.resolving.At.{At}
use Rattle.repo_read.specs.declared.resolving.Named.{Named}
use Rattle.repo_read.specs.Naming.{WasResolved, WasNothing, WasUnnamed, key_of}
use Rattle.commit_path.proofs.Gets.{is-get}

-- ---- a client that makes gets alone changes no branch
got-leaves : (client : ℕ) (before : List Event) (event : Event) → GetsAlone client before event → LeavesBranches client before event
got-leaves client before event g k branch =
    let get = is-get event.op (g k) in
    let same : own_event who (Get get.0) event.reply event.time ≡ event = ap (λ (op : Op). record { client = event.client; op = op; reply = event.reply; time = event.time }) get.1 in
    subst (λ (e : Event). found (before ++ e ∷ []) (Branch branch) ≡ found before (Branch branch)) same (get-leaves who get.0 event.reply event.time before branch)
  where
    who : Caller
    who = record { tells = true; number = event.client; low = 0; end = None; home = [] }

pub gets-change_nothing : (client : ℕ) (start middle journal : List Event) → MadeGets client middle journal → ChangedNothing client start middle → ChangedNothing client start journal
gets-change_nothing client start middle journal m c = record {
  more = c.more ++ m.more;
  is = m.is ∙ (ap (λ (h : List Event). h ++ m.more) c.is ∙ append_assoc start c.more m.more);
  each = Each-append (LeavesBranches client) start c.more m.more c.each
      (subst (λ (h : List Event). Each (LeavesBranches client) h m.more) c.is
      (Each-weaker (GetsAlone client) (LeavesBranches client) (got-leaves client) middle m.more m.each));
}

-- ---- own events
module _ (client : ℕ) (start middle more : List Event) (is : middle ≡ start ++ more) where
  abbrev own-sooner : (op : Op) (reply : Reply) (journal : List Event) → HasOwn client op reply middle journal → HasOwn client op reply start journal
  own-sooner op reply journal h = record {
    before = h.before;
    since = more ++ h.since;
    before_is = h.before_is ∙ (ap (λ (j : List Event). j ++ h.since) is ∙ append_assoc start more h.since);
    event = h.event;
    after = h.after;
    is = h.is;
    client_is = h.client_is;
    op_is = h.op_is;
    reply_is = h.reply_is;
  }

  got-sooner : (key : Key) (bytes : List ℕ) (version : ℕ) (journal : List Event) → WasGot client key bytes version middle journal → WasGot client key bytes version start journal
  got-sooner key bytes version journal g = record { now = g.now; own = own-sooner (Get key) (Got (Found bytes (version_at version) g.now)) journal g.own }

  abbrev absent-sooner : (key : Key) (journal : List Event) → WasAbsent client key middle journal → WasAbsent client key start journal
  absent-sooner key journal a = record { now = a.now; own = own-sooner (Get key) (Got (Absent a.now)) journal a.own; nothing = a.nothing }

  ref-sooner : (key : Key) (version : Version) (id : Id12) (journal : List Event) → WasRef client key version id middle journal → WasRef client key version id start journal
  ref-sooner key version id journal r = record { bytes = r.bytes; got = got-sooner key r.bytes version.0 journal r.got; names = r.names }

  -- ---- what a name's resolution tells
  pub resolved-sooner : (at : At) (named : Named) (journal : List Event) → WasResolved client at named middle journal → WasResolved client at named start journal
  resolved-sooner (At.Branch name) named journal w = record { version = w.version; version_is = w.version_is; read = ref-sooner (Branch name) w.version named.id journal w.read }
  resolved-sooner (At.Tag name) named journal w = (
    w.0,
    record {
      version = w.1.version;
      read = ref-sooner (Tag name) w.1.version named.id journal w.1.read;
      stands = absent-sooner (Tombstone name) journal w.1.stands;
      still = w.1.still;
    },
  )
  resolved-sooner (At.Snapshot id) named journal w = w

  pub nothing-sooner : (at : At) (journal : List Event) → WasNothing client at middle journal → WasNothing client at start journal
  nothing-sooner (At.Branch name) journal w = absent-sooner (Branch name) journal w
  nothing-sooner (At.Tag name) journal (inl w) = inl (absent-sooner (Tag name) journal w)
  nothing-sooner (At.Tag name) journal (inr w) = inr (record { bytes = w.bytes; version = w.version; got = got-sooner (Tombstone name) w.bytes w.version journal w.got })
  nothing-sooner (At.Snapshot id) journal w = absurd w

  pub unnamed-sooner : (at : At) (key : Key) (bad : Bad) (journal : List Event) → WasUnnamed client at key bad middle journal → WasUnnamed client at key bad start journal
  unnamed-sooner at key bad journal w = record { key_is = w.key_is; bytes = w.bytes; version = w.version; got = got-sooner (key_of at) w.bytes w.version journal w.got; unread = w.unread }

-- where the client had changed no branch before
pub failure-sooner : (client : ℕ) (kind wider : Op → Type 0) → ((op : Op) → kind op → wider op) → (start middle journal : List Event) → ChangedNothing client start middle → WasFailure client kind middle journal → WasFailed client wider start journal
failure-sooner client kind wider is_wider start middle journal c f = record {
  op = f.op;
  of_kind = is_wider f.op f.of_kind;
  done = f.done;
  own = own-sooner client start middle c.more c.is f.op (Failed f.done) journal f.made.own;
  once = record {
    earlier = gets-change_nothing client start middle f.made.own.before f.made.earlier c;
    later = gets-change_nothing client (f.made.own.before ++ f.made.own.event ∷ []) (f.made.own.before ++ f.made.own.event ∷ []) journal f.made.later (ChangedNothing-none client (f.made.own.before ++ f.made.own.event ∷ []));
  };
}
