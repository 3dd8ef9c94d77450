-- A log: each operation is a get, and the answer tells the journal.
use Rattle.std.proofs.Common.{◌≡◌, inl, inr, ℕ, zero, suc, ◌+◌, ◌<◌, List, [], ◌∷◌, ◌++◌, length, refl, sym, ap, subst, arith}
use Rattle.std.specs.Prelude.{Option, Some, None, Result, Ok, Err, map}
use Rattle.std.specs.Result.{result_ok}
use Rattle.std.proofs.lemmas.List.{length-append}
use Rattle.ice_ids.specs.declared.Id12.{Id12}
use Rattle.snapshot_file.specs.declared.snapshot.SnapshotFile.{SnapshotFile}
use Rattle.repo_objects.specs.declared.bad_objects.Bad.{Bad}
use Rattle.repo_objects.specs.Readings.{read_snapshot}
use Rattle.object_store.specs.declared.keys.Key.TheVariants.{Snapshot}
use Rattle.object_store.specs.declared.events.Op.TheVariants.{Get}
use Rattle.object_store.specs.declared.events.Got.TheVariants.{Found, Absent}
use Rattle.object_store.specs.declared.events.Reply.{Reply}
use Rattle.object_store.specs.declared.events.Reply.TheVariants.{Got}
use Rattle.object_store.specs.declared.events.Event.{Event}
use Rattle.store_api.specs.declared.machines.Refusal.{Refusal}
use Rattle.store_api.specs.declared.machines.Refusal.TheVariants as R
use Rattle.store_api.specs.Callers.{Caller, Makes}
use Rattle.store_api.specs.Program.{Prog, Done, Ask, bind, Leads}
use Rattle.store_api.specs.Running.{Program, on_answer, StaysPolite, ◌>>=◌}
use Rattle.store_api.proofs.Programs.{Leads-bind}
use Rattle.repo_read.specs.declared.answers.Resolved.{Resolved}
use Rattle.repo_read.specs.Answers.{at_key, ref_told, snapshot_told}
use Rattle.repo_read.specs.Chains.{walk, chain_program, most_snapshots, Leading}
use Rattle.store_api.specs.Telling.{GetsOf, MadeGets, WasGot, WasReadAs}
use Rattle.repo_read.specs.declared.resolving.At.{At}
use Rattle.repo_read.specs.declared.resolving.Named.{Named}
use Rattle.refs_admin.specs.declared.log.LogLine.{LogLine}
use Rattle.repo_read.specs.Resolving.{alone, tag_told, tombstone_told, tombstone_program, resolve_at_program, no_ref}
use Rattle.refs_admin.specs.LogReading.{line_of, told_lines, refused_now, refused_first, chain_at, chain_log_program}
use Rattle.repo_read.specs.Naming.{WasResolved, NamingTells, IsNaming}
use Rattle.refs_admin.specs.LogTelling.{WasWalked, IsOfLog, LogSays, LogTells}
use Rattle.repo_read.proofs.Own.{MadeGets-none, MadeGets-get}
use Rattle.repo_read.proofs.Replies.{got-cases}
use Rattle.repo_read.proofs.Leading.{leading-makes, leading-next}
use Rattle.repo_read.proofs.Namings.{got-made, absent-made, failed-made, WasResolved-makes, naming-leads}
use Rattle.repo_read.proofs.GetsAlone.{Reads, reads-polite, reads-gets, done-reads}
use Rattle.refs_admin.proofs.NewBranch.{failure-as}

-- ---- gets alone
reads-bind : {A B : Type 0} (p : Prog A) (f : A → Prog B) → Reads p → ((a : A) → Reads (f a)) → Reads (bind p f)
unfolding Reads
reads-bind (Done a) f r g = g a
reads-bind (Ask op k) f r g = (r.0, λ reply. reads-bind (k reply) f (r.1 reply) g)

now-reads : {A : Type 0} (f : Refusal → Refusal) (p : Program A) → Reads p → Reads (refused_now f p)
unfolding Reads
now-reads f (Done (Ok a)) r = tt
now-reads f (Done (Err why)) r = tt
now-reads f (Ask op k) r = r

first-reads : {A : Type 0} (f : Refusal → Refusal) (p : Program A) → Reads p → Reads (refused_first f p)
unfolding Reads
first-reads f (Done a) r = tt
first-reads f (Ask op k) r = (r.0, λ reply. now-reads f (k reply) (r.1 reply))

on-parent : (left : ℕ) (seen : List SnapshotFile) → ((id : Id12) → Reads (walk left seen id)) → (parent : Option Id12) → Reads (elim parent [ Some id ↦ walk left seen id | None ↦ Done (Ok seen) ])
on-parent left seen here (Some id) = here id
on-parent left seen here None = done-reads (Ok seen)

on-told : (left : ℕ) (seen : List SnapshotFile) → ((s : SnapshotFile) (id : Id12) → Reads (walk left (seen ++ s ∷ []) id)) → (r : Result SnapshotFile Refusal)
    → Reads (on_answer (λ (s : SnapshotFile). elim s.parent [ Some id ↦ walk left (seen ++ s ∷ []) id | None ↦ Done (Ok (seen ++ s ∷ [])) ]) r)
on-told left seen here (Ok s) = on-parent left (seen ++ s ∷ []) (here s) s.parent
on-told left seen here (Err why) = done-reads (Err why)

walk-reads : (left : ℕ) (seen : List SnapshotFile) (id : Id12) → Reads (walk left seen id)
unfolding Reads walk
walk-reads zero seen id = tt
walk-reads (suc left) seen id = (tt, λ reply. on-told left seen (λ s next. walk-reads left (seen ++ s ∷ []) next) (snapshot_told id reply))

lines-read : (r : Result (List SnapshotFile) Refusal) → Reads (on_answer told_lines r)
lines-read (Ok seen) = done-reads (Ok (map line_of seen))
lines-read (Err why) = done-reads (Err why)

chain-reads : (at : At) (id : Id12) → Reads (chain_at at id >>= told_lines)
chain-reads (At.Branch name) id = reads-bind (chain_program id) (on_answer told_lines) (walk-reads most_snapshots [] id) lines-read
chain-reads (At.Tag name) id = reads-bind (chain_program id) (on_answer told_lines) (walk-reads most_snapshots [] id) lines-read
chain-reads (At.Snapshot own) id = reads-bind (refused_first no_ref (chain_program id)) (on_answer told_lines) (first-reads no_ref (chain_program id) (walk-reads most_snapshots [] id)) lines-read

abbrev branch_named : Resolved → Program Named
branch_named read = Done (Ok (record { id = read.id; version = Some read.version }))

abbrev id_named : Id12 → Program Named
id_named id = Done (Ok (alone id))

abbrev tag_named : (name : List ℕ) → Id12 → Program Named
tag_named name tagged = tombstone_program name tagged >>= id_named

branch-done : (r : Result Resolved Refusal) → Reads (on_answer branch_named r)
branch-done (Ok read) = done-reads (Ok (record { id = read.id; version = Some read.version }))
branch-done (Err why) = done-reads (Err why)

alone-done : (r : Result Id12 Refusal) → Reads (on_answer id_named r)
alone-done (Ok id) = done-reads (Ok (alone id))
alone-done (Err why) = done-reads (Err why)

tag-done : (name : List ℕ) (r : Result Id12 Refusal) → Reads (on_answer (tag_named name) r)
unfolding Reads
tag-done name (Ok id) = (tt, λ reply. alone-done (tombstone_told id reply))
tag-done name (Err why) = tt

naming-reads : (at : At) → Reads (resolve_at_program at)
unfolding Reads
naming-reads (At.Branch name) = (tt, λ reply. branch-done (ref_told name reply))
naming-reads (At.Tag name) = (tt, λ reply. tag-done name (tag_told name reply))
naming-reads (At.Snapshot id) = tt

named-reads : (at : At) (r : Result Named Refusal) → Reads (on_answer (λ (named : Named). chain_at at named.id >>= told_lines) r)
named-reads at (Ok named) = chain-reads at named.id
named-reads at (Err why) = done-reads (Err why)

log-reads : (at : At) → Reads (chain_log_program at)
log-reads at = reads-bind (resolve_at_program at) (on_answer (λ (named : Named). chain_at at named.id >>= told_lines)) (naming-reads at) (named-reads at)

pub log-polite : (by : Caller) (at : At) (journal : List Event) → StaysPolite by (chain_log_program at) journal
log-polite by at journal = reads-polite by (chain_log_program at) journal (log-reads at)

-- ---- what is told
module _ (by : Caller) (at : At) (start : List Event) (named : Named) where
  abbrev Tells : Result (List LogLine) Refusal → List Event → Type 0
  Tells = LogSays by.number at start

  abbrev to_lines : Program (List SnapshotFile) → Program (List LogLine)
  to_lines p = bind p (on_answer told_lines)

  -- the walk has come to this snapshot
  record Goes (seen : List SnapshotFile) (next : Id12) (left : ℕ) (h : List Event) : Type 0 where
    pub resolved : WasResolved by.number at named start h
    pub chain : Leading by.number (Some named.id) seen (Some next) start h
    pub gets : MadeGets by.number start h
    pub count : length seen + left ≡ most_snapshots

  abbrev walked : (seen : List SnapshotFile) (next : Id12) (left : ℕ) (h : List Event) → Goes seen next left h → WasWalked by.number at (Some next) start h
  walked seen next left h g = record { named = named; resolved = g.resolved; seen = seen; chain = g.chain }

  goes-get : (seen : List SnapshotFile) (next : Id12) (left : ℕ) (reply : Reply) (old new : List Event) → Makes by (Get (Snapshot next)) reply old new → Goes seen next left old → Goes seen next left new
  goes-get seen next left reply old new m g = record {
    resolved = WasResolved-makes by (Get (Snapshot next)) reply at named start old new m g.resolved;
    chain = leading-makes by (Get (Snapshot next)) reply (Some named.id) seen (Some next) start old new m g.chain;
    gets = MadeGets-get by start (Snapshot next) reply old new m g.gets;
    count = g.count;
  }

  -- one more was read
  goes-on : (seen : List SnapshotFile) (next : Id12) (left : ℕ) (s : SnapshotFile) (parent : Id12) (h : List Event) → Goes seen next (suc left) h → WasReadAs by.number next s start h → s.parent ≡ Some parent → Goes (seen ++ s ∷ []) parent left h
  goes-on seen next left s parent h g r e = record {
    resolved = g.resolved;
    chain = subst (λ (o : Option Id12). Leading by.number (Some named.id) (seen ++ s ∷ []) o start h) e (leading-next by.number (Some named.id) seen next s start h g.chain r);
    gets = g.gets;
    count = let n = length-append seen (s ∷ []) in let c = g.count in omega (arith, n, c);
  }

  parent-leads : (left : ℕ) (seen : List SnapshotFile) (next : Id12) (s : SnapshotFile) (h : List Event) → Goes seen next (suc left) h → WasReadAs by.number next s start h
      → ((parent : Id12) → Goes (seen ++ s ∷ []) parent left h → Leads Tells by (to_lines (walk left (seen ++ s ∷ []) parent)) h)
      → (o : Option Id12) → s.parent ≡ o → Leads Tells by (to_lines (elim o [ Some parent ↦ walk left (seen ++ s ∷ []) parent | None ↦ Done (Ok (seen ++ s ∷ [])) ])) h
  unfolding Leads
  parent-leads left seen next s h g r here (Some parent) e = here parent (goes-on seen next left s parent h g r e)
  parent-leads left seen next s h g r here None e = record {
    walked = record {
      named = named;
      resolved = g.resolved;
      seen = seen ++ s ∷ [];
      chain = subst (λ (o : Option Id12). Leading by.number (Some named.id) (seen ++ s ∷ []) o start h) e (leading-next by.number (Some named.id) seen next s start h g.chain r);
    };
    lines_are = refl;
  }

  abbrev behind : (left : ℕ) (seen : List SnapshotFile) → SnapshotFile → Program (List SnapshotFile)
  behind left seen s = elim s.parent [ Some parent ↦ walk left (seen ++ s ∷ []) parent | None ↦ Done (Ok (seen ++ s ∷ [])) ]

  abbrev Goes_on : (left : ℕ) (seen : List SnapshotFile) → Type 0
  Goes_on left seen = (s : SnapshotFile) (parent : Id12) (h : List Event) → Goes (seen ++ s ∷ []) parent left h → Leads Tells by (to_lines (walk left (seen ++ s ∷ []) parent)) h

  bytes-lead : (left : ℕ) (seen : List SnapshotFile) (next : Id12) (bytes : List ℕ) (version : ℕ) (h : List Event) → Goes seen next (suc left) h → WasGot by.number (Snapshot next) bytes version start h → Goes_on left seen
      → (r : Result SnapshotFile Bad) → read_snapshot next bytes ≡ r → Leads Tells by (to_lines (on_answer (behind left seen) (at_key (Snapshot next) r))) h
  unfolding Leads
  bytes-lead left seen next bytes version h g got here (Ok s) e = parent-leads left seen next s h g (record { bytes = bytes; version = version; got = got; read = ap result_ok e }) (λ parent k. here s parent h k) s.parent refl
  bytes-lead left seen next bytes version h g got here (Err bad) e = inr (record { next = next; walked = walked seen next (suc left) h g; unread = record { key_is = refl; bytes = bytes; version = version; got = got; unread = e } })

  -- a walk behind its head, or one whose head a ref names
  abbrev IsBehind : List SnapshotFile → Type 0
  IsBehind seen = (id : Id12) → at ≡ At.Snapshot id → 0 < length seen

  get-leads : (left : ℕ) (seen : List SnapshotFile) (next : Id12) (reply : Reply) (old new : List Event) → IsBehind seen → Goes seen next (suc left) old → Goes_on left seen → Makes by (Get (Snapshot next)) reply old new → Leads Tells by (to_lines (on_answer (behind left seen) (snapshot_told next reply))) new
  unfolding Leads
  get-leads left seen next reply old new b g here m =
      got-cases by old new (λ r. Leads Tells by (to_lines (on_answer (behind left seen) (snapshot_told next r))) new) (Snapshot next)
      (λ bytes version now n. bytes-lead left seen next bytes version.0 new (goes-get seen next (suc left) (Got (Found bytes version now)) old new n g) (got-made by start (Snapshot next) bytes version now old new n g.gets) here (read_snapshot next bytes) refl)
      (λ now n. record { next = next; walked = walked seen next (suc left) new (goes-get seen next (suc left) (Got (Absent now)) old new n g); key_is = refl; absent = absent-made by start (Snapshot next) now old new n g.gets; behind = b })
      (λ done n. failed-made by start (IsOfLog at) (Get (Snapshot next)) done old new (inr (next, refl)) n g.gets)
      reply m

  more-behind : (seen : List SnapshotFile) (s : SnapshotFile) → IsBehind (seen ++ s ∷ [])
  more-behind seen s id e = let n = length-append seen (s ∷ []) in omega (arith, n)

  walk-leads : (left : ℕ) (seen : List SnapshotFile) (next : Id12) (h : List Event) → IsBehind seen → Goes seen next left h → Leads Tells by (to_lines (walk left seen next)) h
  unfolding Leads walk
  walk-leads zero seen next h b g = record { next = next; walked = walked seen next zero h g; many = let c = g.count in omega (arith, c) }
  walk-leads (suc left) seen next h b g = λ reply new m. get-leads left seen next reply h new b g (λ s parent k j. walk-leads left (seen ++ s ∷ []) parent k (more-behind seen s) j) m

  -- a chain whose head a ref names
  ref-leads : ((id : Id12) → at ≡ At.Snapshot id → ⊥) → (h : List Event) → WasResolved by.number at named start h → MadeGets by.number start h → Leads Tells by (to_lines (chain_program named.id)) h
  ref-leads other h w c = walk-leads most_snapshots [] named.id h (λ id e. absurd (other id e)) (record { resolved = w; chain = refl; gets = c; count = refl })

-- ---- a chain whose head its own id names
now-walk : (left : ℕ) (seen : List SnapshotFile) (id : Id12) → refused_now no_ref (walk left seen id) ≡ walk left seen id
unfolding walk
now-walk zero seen id = refl
now-walk (suc left) seen id = refl

module _ (by : Caller) (id : Id12) (start : List Event) where
  abbrev at : At
  at = At.Snapshot id

  head-parent : (left : ℕ) (s : SnapshotFile) (o : Option Id12) (h : List Event) → Leads (LogSays by.number at start) by (bind (elim o [ Some parent ↦ walk left (s ∷ []) parent | None ↦ Done (Ok (s ∷ [])) ]) (on_answer told_lines)) h
      → Leads (LogSays by.number at start) by (bind (refused_now no_ref (elim o [ Some parent ↦ walk left (s ∷ []) parent | None ↦ Done (Ok (s ∷ [])) ])) (on_answer told_lines)) h
  head-parent left s (Some parent) h l = subst (λ (p : Program (List SnapshotFile)). Leads (LogSays by.number at start) by (bind p (on_answer told_lines)) h) (sym (now-walk left (s ∷ []) parent)) l
  head-parent left s None h l = l

  head-bytes : (left : ℕ) (bytes : List ℕ) (version : ℕ) (h : List Event) → Goes by at start (alone id) [] id (suc left) h → WasGot by.number (Snapshot id) bytes version start h
      → (r : Result SnapshotFile Bad) → read_snapshot id bytes ≡ r → Leads (LogSays by.number at start) by (bind (refused_now no_ref (on_answer (behind by at start (alone id) left []) (at_key (Snapshot id) r))) (on_answer told_lines)) h
  unfolding Leads
  head-bytes left bytes version h g got (Ok s) e = head-parent left s s.parent h
      (bytes-lead by at start (alone id) left [] id bytes version h g got (λ t parent k j. walk-leads by at start (alone id) left (t ∷ []) parent k (λ i e. omega arith) j) (Ok s) e)
  head-bytes left bytes version h g got (Err bad) e = inr (record { next = id; walked = walked by at start (alone id) [] id (suc left) h g; unread = record { key_is = refl; bytes = bytes; version = version; got = got; unread = e } })

  head-told : (left : ℕ) (reply : Reply) (old new : List Event) → Goes by at start (alone id) [] id (suc left) old → Makes by (Get (Snapshot id)) reply old new → Leads (LogSays by.number at start) by (bind (refused_now no_ref (on_answer (behind by at start (alone id) left []) (snapshot_told id reply))) (on_answer told_lines)) new
  unfolding Leads
  head-told left reply old new g m =
      got-cases by old new (λ r. Leads (LogSays by.number at start) by (bind (refused_now no_ref (on_answer (behind by at start (alone id) left []) (snapshot_told id r))) (on_answer told_lines)) new) (Snapshot id)
      (λ bytes version now n. head-bytes left bytes version.0 new (goes-get by at start (alone id) [] id (suc left) (Got (Found bytes version now)) old new n g) (got-made by start (Snapshot id) bytes version now old new n g.gets) (read_snapshot id bytes) refl)
      (λ now n. inr (record { id = id; by_id = refl; absent = absent-made by start (Snapshot id) now old new n g.gets }))
      (λ done n. failed-made by start (IsOfLog at) (Get (Snapshot id)) done old new (inr (id, refl)) n g.gets)
      reply m

  head-leads : (left : ℕ) (h : List Event) → Goes by at start (alone id) [] id left h → Leads (LogSays by.number at start) by (bind (refused_first no_ref (walk left [] id)) (on_answer told_lines)) h
  unfolding Leads walk
  head-leads zero h g = let c = g.count in absurd (omega (arith, c))
  head-leads (suc left) h g = λ reply new m. head-told left reply h new g m

  id-leads : (h : List Event) → MadeGets by.number start h → Leads (LogSays by.number at start) by (chain_log_program at) h
  id-leads h c = head-leads most_snapshots h (record { resolved = refl; chain = refl; gets = c; count = refl })

-- ---- the whole
module _ (by : Caller) (at : At) (start : List Event) (other : (id : Id12) → at ≡ At.Snapshot id → ⊥) where
  named-leads : (r : Result Named Refusal) (h : List Event) → NamingTells by.number at start r h → Leads (LogSays by.number at start) by (on_answer (λ (named : Named). chain_program named.id >>= told_lines) r) h
  unfolding Leads
  named-leads (Ok named) h t = ref-leads by at start named other h t.0 t.1
  named-leads (Err why) h t = refused why t
    where
      refused : (why : Refusal) → NamingTells by.number at start (Err why) h → Leads (LogSays by.number at start) by (Done (Err why)) h
      refused R.NoRef t = inl t.0
      refused (R.BadFile key bad) t = inl t.0
      refused R.StoreFault t = failure-as by.number (GetsOf (IsNaming at)) (IsOfLog at) start h (λ op k. inl k) t
      refused _ t = absurd t

log-says : (by : Caller) (at : At) (journal : List Event) → Leads (LogSays by.number at journal) by (chain_log_program at) journal
log-says by (At.Branch name) journal =
    Leads-bind (NamingTells by.number (At.Branch name) journal) (LogSays by.number (At.Branch name) journal) by (resolve_at_program (At.Branch name)) (on_answer (λ (named : Named). chain_program named.id >>= told_lines)) journal
    (naming-leads by journal (At.Branch name) journal (MadeGets-none by.number journal)) (named-leads by (At.Branch name) journal (λ id e. cc))
log-says by (At.Tag name) journal =
    Leads-bind (NamingTells by.number (At.Tag name) journal) (LogSays by.number (At.Tag name) journal) by (resolve_at_program (At.Tag name)) (on_answer (λ (named : Named). chain_program named.id >>= told_lines)) journal
    (naming-leads by journal (At.Tag name) journal (MadeGets-none by.number journal)) (named-leads by (At.Tag name) journal (λ id e. cc))
log-says by (At.Snapshot id) journal = id-leads by id journal journal (MadeGets-none by.number journal)

-- and it makes gets alone
pub log-leads : (by : Caller) (at : At) (journal : List Event) → Leads (LogTells by.number at journal) by (chain_log_program at) journal
log-leads by at journal = reads-gets (LogSays by.number at journal) by journal (chain_log_program at) journal (log-reads at) (MadeGets-none by.number journal) (log-says by at journal)
