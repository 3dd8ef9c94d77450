-- What the resolution of a name asks and tells, whatever others do.
use Rattle.std.proofs.Common.{◌≡◌, inl, inr, ℕ, Bool, List, [], ◌∷◌, ◌++◌, refl, sym, ◌∙◌, ap, subst}
use Rattle.std.specs.Prelude.{Some, Result, Ok, Err}
use Rattle.std.specs.Result.{result_ok}
use Rattle.ice_ids.specs.declared.Id12.{Id12}
use Rattle.repo_objects.specs.declared.bad_objects.Bad.{Bad}
use Rattle.repo_objects.specs.Readings.{read_ref, ref_of}
use Rattle.object_store.specs.declared.keys.Key.{Key}
use Rattle.object_store.specs.declared.keys.Key.TheVariants.{Branch, Tag, Tombstone}
use Rattle.object_store.specs.declared.events.Version.{Version}
use Rattle.object_store.specs.declared.events.Op.{Op}
use Rattle.object_store.specs.declared.events.Op.TheVariants.{Get}
use Rattle.object_store.specs.declared.events.Got.TheVariants.{Found, Absent}
use Rattle.object_store.specs.declared.events.Reply.{Reply}
use Rattle.object_store.specs.declared.events.Reply.TheVariants.{Got, Failed}
use Rattle.object_store.specs.declared.events.Event.{Event}
use Rattle.store_api.specs.declared.machines.Refusal.{Refusal}
use Rattle.object_store.specs.Machine.{found}
use Rattle.store_api.specs.Journal.{IsPolite}
use Rattle.store_api.specs.Callers.{Caller, Waits, Makes, own_event}
use Rattle.store_api.specs.Program.{Done, Leads, Keeps}
use Rattle.store_api.specs.Running.{Program, on_answer, StaysPolite, ◌>>=◌}
use Rattle.store_api.proofs.Programs.{Keeps-bind}
use Rattle.repo_read.specs.declared.answers.Resolved.{Resolved}
use Rattle.repo_read.specs.Answers.{at_key, resolved_at, ref_told}
use Rattle.store_api.specs.Telling.{GetsOf, MadeGets, WasAbsent, WasFailure, WasGot, WasRef}
use Rattle.store_api.proofs.Happening.{HasOwn-append, WasGot-append}
use Rattle.repo_read.specs.declared.resolving.At.{At}
use Rattle.repo_read.specs.declared.resolving.Named.{Named}
use Rattle.repo_read.specs.Resolving.{alone, tag_told, tombstone_told, tombstone_program, resolve_at_program}
use Rattle.repo_read.specs.Naming.{TagNames, WasResolved, NamingTells, IsNaming}
use Rattle.repo_read.proofs.Own.{MadeGets-none, MadeGets-get, Since-gets, own-made, one-made, made-more}
use Rattle.repo_read.proofs.Replies.{got-cases, Holds, got-holds, got-absent}
use Rattle.repo_read.proofs.Stays.{tag-get, tag-waits}

-- ---- own gets
module _ (by : Caller) (start : List Event) where
  pub got-made : (key : Key) (bytes : List ℕ) (version : Version) (now : ℕ) (old new : List Event) → Makes by (Get key) (Got (Found bytes version now)) old new → MadeGets by.number start old → WasGot by.number key bytes version.0 start new
  got-made key bytes version now old new m c = record { now = now; own = own-made by start (Get key) (Got (Found bytes version now)) old new m (Since-gets by.number start old c) }

  abbrev pub absent-made : (key : Key) (now : ℕ) (old new : List Event) → Makes by (Get key) (Got (Absent now)) old new → MadeGets by.number start old → WasAbsent by.number key start new
  absent-made key now old new m c = record {
    now = now;
    own = own-made by start (Get key) (Got (Absent now)) old new m (Since-gets by.number start old c);
    nothing = got-absent (found m.middle key) now m.time m.answered.answered;
  }

  pub failed-made : (kind : Op → Type 0) (op : Op) (done : Bool) (old new : List Event) → kind op → Makes by op (Failed done) old new → MadeGets by.number start old → WasFailure by.number kind start new
  failed-made kind op done old new k m c = record { op = op; of_kind = k; done = done; made = one-made by start op (Failed done) old new m c }

-- ---- what was named stays named
pub WasRef-append : (client : ℕ) (key : Key) (version : Version) (id : Id12) (start journal more : List Event) → WasRef client key version id start journal → WasRef client key version id start (journal ++ more)
WasRef-append client key version id start journal more r = record { bytes = r.bytes; got = WasGot-append client key r.bytes version.0 start journal more r.got; names = r.names }

pub WasResolved-append : (client : ℕ) (at : At) (named : Named) (start journal more : List Event) → WasResolved client at named start journal → WasResolved client at named start (journal ++ more)
WasResolved-append client (At.Branch name) named start journal more w = record { version = w.version; version_is = w.version_is; read = WasRef-append client (Branch name) w.version named.id start journal more w.read }
WasResolved-append client (At.Tag name) named start journal more w = (
  w.0,
  record {
    version = w.1.version;
    read = WasRef-append client (Tag name) w.1.version named.id start journal more w.1.read;
    stands = record { now = w.1.stands.now; own = HasOwn-append client (Get (Tombstone name)) (Got (Absent w.1.stands.now)) start journal more w.1.stands.own; nothing = w.1.stands.nothing };
    still = w.1.still;
  },
)
WasResolved-append client (At.Snapshot id) named start journal more w = w

pub WasResolved-makes : (by : Caller) (op : Op) (reply : Reply) (at : At) (named : Named) (start old new : List Event) → Makes by op reply old new → WasResolved by.number at named start old → WasResolved by.number at named start new
WasResolved-makes by op reply at named start old new m w = subst (λ (h : List Event). WasResolved by.number at named start h) (sym (made-more by op reply old new m)) (WasResolved-append by.number at named start old (m.waits.between ++ own_event by op reply m.time ∷ []) w)

pub WasRef-makes : (by : Caller) (op : Op) (reply : Reply) (key : Key) (version : Version) (id : Id12) (start old new : List Event) → Makes by op reply old new → WasRef by.number key version id start old → WasRef by.number key version id start new
WasRef-makes by op reply key version id start old new m w = subst (λ (h : List Event). WasRef by.number key version id start h) (sym (made-more by op reply old new m)) (WasRef-append by.number key version id start old (m.waits.between ++ own_event by op reply m.time ∷ []) w)

-- ---- a tag that was read
-- the tag of this name is there, with these bytes, behind its get
pub got-tag : (by : Caller) (name bytes : List ℕ) (version : Version) (now : ℕ) (old new : List Event) → Makes by (Get (Tag name)) (Got (Found bytes version now)) old new → Holds (found new (Tag name)) bytes version
got-tag by name bytes version now old new m =
    let was = got-holds (found m.middle (Tag name)) bytes version now m.time m.answered.answered in
    record { stored = was.stored; stands = ap (λ (h : List Event). found h (Tag name)) m.is ∙ tag-get by (Tag name) (Got (Found bytes version now)) m.time name m.middle was.stored was.stands; bytes_are = was.bytes_are; version_is = was.version_is }

pub holds-names : (journal : List Event) (name bytes : List ℕ) (version : Version) (id : Id12) → Holds (found journal (Tag name)) bytes version → ref_of bytes ≡ Some id → TagNames journal name id
holds-names journal name bytes version id h e = record { stored = h.stored; stands = h.stands; names = ap ref_of h.bytes_are ∙ e }

pub names-waits : (by : Caller) (name : List ℕ) (id : Id12) (old new : List Event) → Waits by old new → TagNames old name id → TagNames new name id
names-waits by name id old new w k = record { stored = k.stored; stands = tag-waits by name old new k.stored w k.stands; names = k.names }

-- ---- what is told
abbrev branch_named : Resolved → Program Named
branch_named read = Done (Ok (record { id = read.id; version = Some read.version }))

abbrev tag_named : (name : List ℕ) → Id12 → Program Named
tag_named name tagged = tombstone_program name tagged >>= λ id. Done (Ok (alone id))

module _ (by : Caller) (start : List Event) where
  abbrev Tells : At → Result Named Refusal → List Event → Type 0
  Tells at = NamingTells by.number at start

  branch-read : (name bytes : List ℕ) (version : Version) (journal : List Event) → WasGot by.number (Branch name) bytes version.0 start journal → MadeGets by.number start journal
      → (r : Result Id12 Bad) → read_ref bytes ≡ r → Leads (Tells (At.Branch name)) by (on_answer branch_named (resolved_at version (at_key (Branch name) r))) journal
  unfolding Leads
  branch-read name bytes version journal g c (Ok id) e = (record { version = version; version_is = refl; read = record { bytes = bytes; got = g; names = ap result_ok e } }, c)
  branch-read name bytes version journal g c (Err bad) e = (record { key_is = refl; bytes = bytes; version = version.0; got = g; unread = e }, c)

  branch-told : (name : List ℕ) (reply : Reply) (old new : List Event) → MadeGets by.number start old → Makes by (Get (Branch name)) reply old new → Leads (Tells (At.Branch name)) by (on_answer branch_named (ref_told name reply)) new
  unfolding Leads
  branch-told name reply old new c m = got-cases by old new (λ r. Leads (Tells (At.Branch name)) by (on_answer branch_named (ref_told name r)) new) (Branch name)
      (λ bytes version now n. branch-read name bytes version new (got-made by start (Branch name) bytes version now old new n c) (MadeGets-get by start (Branch name) (Got (Found bytes version now)) old new n c) (read_ref bytes) refl)
      (λ now n. (absent-made by start (Branch name) now old new n c, MadeGets-get by start (Branch name) (Got (Absent now)) old new n c))
      (λ done n. failed-made by start (GetsOf (IsNaming (At.Branch name))) (Get (Branch name)) done old new (Branch name, refl, refl) n c)
      reply m

  tombstone-told : (name : List ℕ) (version : Version) (id : Id12) (reply : Reply) (old new : List Event) → WasRef by.number (Tag name) version id start old → TagNames old name id → MadeGets by.number start old → Makes by (Get (Tombstone name)) reply old new
      → Leads (Tells (At.Tag name)) by (on_answer (λ (found : Id12). Done (Ok (alone found))) (tombstone_told id reply)) new
  unfolding Leads
  tombstone-told name version id reply old new w k c m = got-cases by old new (λ r. Leads (Tells (At.Tag name)) by (on_answer (λ (found : Id12). Done (Ok (alone found))) (tombstone_told id r)) new) (Tombstone name)
      (λ bytes at now n. (inr (record { bytes = bytes; version = at.0; got = got-made by start (Tombstone name) bytes at now old new n c }), MadeGets-get by start (Tombstone name) (Got (Found bytes at now)) old new n c))
      (λ now n. (
        (refl, record { version = version; read = WasRef-makes by (Get (Tombstone name)) (Got (Absent now)) (Tag name) version id start old new n w; stands = absent-made by start (Tombstone name) now old new n c; still = names-waits by name id old n.middle n.waits k }),
        MadeGets-get by start (Tombstone name) (Got (Absent now)) old new n c,
      ))
      (λ done n. failed-made by start (GetsOf (IsNaming (At.Tag name))) (Get (Tombstone name)) done old new (Tombstone name, inr refl, refl) n c)
      reply m

  tag-read : (name bytes : List ℕ) (version : Version) (journal : List Event) → WasGot by.number (Tag name) bytes version.0 start journal → Holds (found journal (Tag name)) bytes version → MadeGets by.number start journal
      → (r : Result Id12 Bad) → read_ref bytes ≡ r → Leads (Tells (At.Tag name)) by (on_answer (tag_named name) (at_key (Tag name) r)) journal
  unfolding Leads
  tag-read name bytes version journal g k c (Ok id) e = λ reply new m. tombstone-told name version id reply journal new (record { bytes = bytes; got = g; names = ap result_ok e }) (holds-names journal name bytes version id k (ap result_ok e)) c m
  tag-read name bytes version journal g k c (Err bad) e = (record { key_is = refl; bytes = bytes; version = version.0; got = g; unread = e }, c)

  tag-told : (name : List ℕ) (reply : Reply) (old new : List Event) → MadeGets by.number start old → Makes by (Get (Tag name)) reply old new → Leads (Tells (At.Tag name)) by (on_answer (tag_named name) (tag_told name reply)) new
  unfolding Leads
  tag-told name reply old new c m = got-cases by old new (λ r. Leads (Tells (At.Tag name)) by (on_answer (tag_named name) (tag_told name r)) new) (Tag name)
      (λ bytes version now n. tag-read name bytes version new (got-made by start (Tag name) bytes version now old new n c) (got-tag by name bytes version now old new n) (MadeGets-get by start (Tag name) (Got (Found bytes version now)) old new n c) (read_ref bytes) refl)
      (λ now n. (inl (absent-made by start (Tag name) now old new n c), MadeGets-get by start (Tag name) (Got (Absent now)) old new n c))
      (λ done n. failed-made by start (GetsOf (IsNaming (At.Tag name))) (Get (Tag name)) done old new (Tag name, inl refl, refl) n c)
      reply m

  pub naming-leads : (at : At) (journal : List Event) → MadeGets by.number start journal → Leads (Tells at) by (resolve_at_program at) journal
  unfolding Leads
  naming-leads (At.Branch name) journal c = λ reply new m. branch-told name reply journal new c m
  naming-leads (At.Tag name) journal c = λ reply new m. tag-told name reply journal new c m
  naming-leads (At.Snapshot id) journal c = (refl, c)

-- ---- each get is polite
module _ (by : Caller) {B : Type 0} (f : Named → Program B) (g : (named : Named) (h : List Event) → StaysPolite by (f named) h) where
  answer-polite : (r : Result Named Refusal) (h : List Event) → StaysPolite by (on_answer f r) h
  unfolding Keeps
  answer-polite (Ok named) h = g named h
  answer-polite (Err why) h = tt

module _ (by : Caller) where
  branch-polite : (r : Result Resolved Refusal) (h : List Event) → StaysPolite by (on_answer branch_named r) h
  unfolding Keeps
  branch-polite (Ok read) h = tt
  branch-polite (Err why) h = tt

  alone-polite : (r : Result Id12 Refusal) (h : List Event) → StaysPolite by (on_answer (λ (found : Id12). Done (Ok (alone found))) r) h
  unfolding Keeps
  alone-polite (Ok id) h = tt
  alone-polite (Err why) h = tt

  tag-polite : (name : List ℕ) (r : Result Id12 Refusal) (h : List Event) → StaysPolite by (on_answer (tag_named name) r) h
  unfolding Keeps
  tag-polite name (Ok id) h = (tt, λ reply new m. alone-polite (tombstone_told id reply) new)
  tag-polite name (Err why) h = tt

  pub naming-polite : (at : At) (journal : List Event) → StaysPolite by (resolve_at_program at) journal
  unfolding Keeps
  naming-polite (At.Branch name) journal = (tt, λ reply new m. branch-polite (ref_told name reply) new)
  naming-polite (At.Tag name) journal = (tt, λ reply new m. tag-polite name (tag_told name reply) new)
  naming-polite (At.Snapshot id) journal = tt

  -- and each operation behind it, where it is whatever was named
  pub behind-polite : {B : Type 0} (at : At) (f : Named → Program B) → ((named : Named) (h : List Event) → StaysPolite by (f named) h) → (journal : List Event) → StaysPolite by (resolve_at_program at >>= f) journal
  behind-polite at f g journal =
      Keeps-bind (λ known client op. IsPolite known op) (NamingTells by.number at journal) by (resolve_at_program at) (on_answer f) journal (naming-polite at journal) (naming-leads by journal at journal (MadeGets-none by.number journal)) (λ r h l. answer-polite by f g r h)
