-- A branch that is set to another snapshot: each operation is polite, and the answer tells the journal.
use Rattle.std.proofs.Common.{◌≡◌, inl, inr, ℕ, List, [], ◌∷◌, ◌++◌, refl, sym, ap, subst}
use Rattle.std.specs.Prelude.{Result, Ok, Err}
use Rattle.std.specs.Result.{result_ok}
use Rattle.ice_ids.specs.declared.Id12.{Id12}
use Rattle.ice_ids.specs.Text.{IsId12}
use Rattle.ref_file.specs.Refs.{ref_bytes}
use Rattle.repo_objects.specs.declared.bad_objects.Bad.{Bad}
use Rattle.repo_objects.specs.Readings.{read_ref}
use Rattle.object_store.specs.declared.keys.Key.TheVariants.{Snapshot, Branch}
use Rattle.object_store.specs.declared.keys.Why.TheVariants.{Reset}
use Rattle.object_store.specs.declared.events.Version.{Version}
use Rattle.object_store.specs.declared.events.Op.{Op}
use Rattle.object_store.specs.declared.events.Op.TheVariants.{Get}
use Rattle.object_store.specs.declared.events.Got.TheVariants.{Found, Absent}
use Rattle.object_store.specs.declared.events.Over.TheVariants.{Done as Over_done, Moved as Over_moved}
use Rattle.object_store.specs.declared.events.Reply.{Reply}
use Rattle.object_store.specs.declared.events.Reply.TheVariants.{Got, Over, Failed}
use Rattle.object_store.specs.declared.events.Event.{Event}
use Rattle.store_api.specs.declared.machines.Refusal.{Refusal}
use Rattle.store_api.specs.declared.machines.Refusal.TheVariants as R
use Rattle.object_store.specs.Machine.{found}
use Rattle.store_api.specs.Journal.{WasPut, StoodAt}
use Rattle.store_api.specs.Callers.{Caller, Makes, own_event}
use Rattle.store_api.specs.Program.{Done, Leads, Keeps}
use Rattle.store_api.specs.Running.{Program, on_answer, StaysPolite}
use Rattle.store_api.proofs.Programs.{Leads-bind}
use Rattle.object_store.proofs.Slots.{StoodAt-append}
use Rattle.repo_read.specs.declared.answers.Resolved.{Resolved}
use Rattle.repo_read.specs.Answers.{at_key, resolved_at, ref_told}
use Rattle.store_api.specs.Telling.{GetsOf, MadeGets, WasGot}
use Rattle.store_api.proofs.Telling.{get-had}
use Rattle.store_api.proofs.Happening.{over-done, over-moved, over-same, moved-later, stands-as}
use Rattle.repo_read.specs.declared.resolving.At.{At}
use Rattle.repo_read.specs.declared.resolving.Named.{Named}
use Rattle.repo_read.specs.Resolving.{resolve_at_program}
use Rattle.refs_admin.specs.Branches.{moved, put_over, move_program, reset_program, branch_reset_program}
use Rattle.repo_read.specs.Naming.{WasResolved, NamingTells, IsNaming}
use Rattle.refs_admin.specs.BranchTelling.{BranchWasAt, IsOfReset, resets, BranchResetTells}
use Rattle.repo_read.proofs.Own.{MadeGets-none, MadeGets-get, made-more, one-made}
use Rattle.repo_read.proofs.Replies.{got-cases}
use Rattle.refs_admin.proofs.Replies.{over-cases}
use Rattle.repo_read.proofs.Namings.{got-made, absent-made, failed-made, behind-polite, naming-leads, WasRef-makes, WasResolved-makes}
use Rattle.refs_admin.proofs.Targets.{Spelled, names-put, target-polite, IsAimed, aimed-makes, target-leads}
use Rattle.refs_admin.proofs.NewBranch.{failure-as}

-- ---- a branch that was read
pub record HasRead (client : ℕ) (name : List ℕ) (version : Version) (start journal : List Event) : Type 0 where
  pub was : BranchWasAt client name version start journal
  pub bytes : List ℕ
  pub stood : StoodAt journal (Branch name) version.0 bytes

pub read-makes : (by : Caller) (op : Op) (reply : Reply) (name : List ℕ) (version : Version) (start old new : List Event) → Makes by op reply old new → HasRead by.number name version start old → HasRead by.number name version start new
read-makes by op reply name version start old new m r = record {
  was = record { id = r.was.id; read = WasRef-makes by op reply (Branch name) version r.was.id start old new m r.was.read };
  bytes = r.bytes;
  stood = subst (λ (h : List Event). StoodAt h (Branch name) version.0 r.bytes) (sym (made-more by op reply old new m)) (StoodAt-append old (m.waits.between ++ own_event by op reply m.time ∷ []) (Branch name) version.0 r.bytes r.stood);
}

-- what stood when others had gone on
pub stood-middle : (by : Caller) (op : Op) (reply : Reply) (name bytes : List ℕ) (version : Version) (old new : List Event) → (m : Makes by op reply old new) → StoodAt old (Branch name) version.0 bytes → StoodAt m.middle (Branch name) version.0 bytes
stood-middle by op reply name bytes version old new m s = subst (λ (h : List Event). StoodAt h (Branch name) version.0 bytes) (sym m.waits.is) (StoodAt-append old m.waits.between (Branch name) version.0 bytes s)

-- ---- politeness
module _ (laws : Spelled) (by : Caller) (name : List ℕ) where
  put-polite : (id : Id12) (version : Version) (h : List Event) → IsId12 id → WasPut h (Snapshot id) → StaysPolite by (put_over name id version) h
  unfolding Keeps
  put-polite id version h i put = (record { names = names-put laws h id i put; cause = inl refl }, λ reply new m. tt)

  read-polite : (id : Id12) (r : Result Resolved Refusal) (h : List Event) → StaysPolite by (on_answer (λ (read : Resolved). move_program name id read.version) r) h
  unfolding Keeps
  read-polite id (Ok read) h = target-polite laws by id (put_over name id read.version) (put-polite id read.version) h
  read-polite id (Err why) h = refused why h
    where
      refused : (why : Refusal) (h : List Event) → StaysPolite {A = Result (Unit {0}) Refusal} by (Done (Err why)) h
      refused why h = tt

  reset-polite : (id : Id12) (h : List Event) → StaysPolite by (reset_program name id) h
  unfolding Keeps
  reset-polite id h = (tt, λ reply new m. read-polite id (ref_told name reply) new)

  pub branch_reset-polite : (at : At) (journal : List Event) → StaysPolite by (branch_reset_program name at) journal
  branch_reset-polite at journal = behind-polite by at (λ (named : Named). reset_program name named.id) (λ named h. reset-polite named.id h) journal

-- ---- what is told
module _ (by : Caller) (name : List ℕ) (at : At) (start : List Event) where
  abbrev Tells : Result (Unit {0}) Refusal → List Event → Type 0
  Tells = BranchResetTells by.number name at start

  abbrev IsOf : List Event → Op → Type 0
  IsOf = IsOfReset by.number name at start

  put-told : (named : Named) (old : Version) (reply : Reply) (before new : List Event) → IsAimed by.number at named start before → HasRead by.number name old start before → Makes by (resets name old named.id) reply before new → Tells (moved reply) new
  put-told named old reply before new a k m = over-cases by before new (λ r. Tells (moved r) new) (Branch name) (ref_bytes named.id) old Reset
      (λ version now n.
      let kept = aimed-makes by (resets name old named.id) (Over (Over_done version now)) at named start before new n a in
      let did = over-done _ n.time old.0 (found n.middle (Branch name)) version now (over-same _ _ n.answered.answered) in
      record {
        aim = record { named = named; resolved = kept.0; target = kept.1 };
        old = old;
        read = (read-makes by (resets name old named.id) (Over (Over_done version now)) name old start before new n k).was;
        version = version;
        now = now;
        made = one-made by start (resets name old named.id) (Over (Over_done version now)) before new n a.gets;
        position = did.position;
        stood = stands-as n.middle (Branch name) did.stored old.0 did.stands did.old_is;
      })
      (λ there now n.
      let kept = aimed-makes by (resets name old named.id) (Over (Over_moved there now)) at named start before new n a in
      let differs = over-moved _ n.time old.0 (found n.middle (Branch name)) there now (over-same _ _ n.answered.answered) in
      record {
        aim = record { named = named; resolved = kept.0; target = kept.1 };
        old = old;
        read = (read-makes by (resets name old named.id) (Over (Over_moved there now)) name old start before new n k).was;
        now = now;
        made = one-made by start (resets name old named.id) (Over (Over_moved there now)) before new n a.gets;
        later = moved-later n.middle name old.0 k.bytes there (stood-middle by (resets name old named.id) (Over (Over_moved there now)) name k.bytes old before new n k.stood) differs;
      })
      (λ done n.
      let kept = aimed-makes by (resets name old named.id) (Failed done) at named start before new n a in
      let read = (read-makes by (resets name old named.id) (Failed done) name old start before new n k).was in
      failed-made by start (IsOf new) (resets name old named.id) done before new (inr (inr (inr (record { named = named; resolved = kept.0; target = kept.1 }, old, read, refl)))) n a.gets)
      reply m

  put-leads : (named : Named) (old : Version) (h : List Event) → IsAimed by.number at named start h → HasRead by.number name old start h → Leads Tells by (put_over name named.id old) h
  unfolding Leads
  put-leads named old h a k = λ reply new m. put-told named old reply h new a k m

  move-leads : (named : Named) (old : Version) (h : List Event) → WasResolved by.number at named start h → MadeGets by.number start h → HasRead by.number name old start h → Leads Tells by (move_program name named.id old) h
  move-leads named old h w c k = target-leads by at named start (put_over name named.id old) Tells (HasRead by.number name old start)
      (λ reply before new m r. read-makes by (Get (Snapshot named.id)) reply name old start before new m r)
      (λ h w c. (w, c))
      (λ fault h w c. (inr (inr w), c))
      (λ h r w. failure-as by.number (λ op. op ≡ Get (Snapshot named.id)) (IsOf h) start h (λ op e. inr (inr (inl (named, r, e)))) w)
      (put-leads named old) h w c k

  abbrev move_from : Named → Resolved → Program (Unit {0})
  move_from named read = move_program name named.id read.version

  bytes-leads : (named : Named) (bytes : List ℕ) (version : Version) (h : List Event) → WasResolved by.number at named start h → MadeGets by.number start h → WasGot by.number (Branch name) bytes version.0 start h → StoodAt h (Branch name) version.0 bytes
      → (r : Result Id12 Bad) → read_ref bytes ≡ r → Leads Tells by (on_answer (move_from named) (resolved_at version (at_key (Branch name) r))) h
  unfolding Leads
  bytes-leads named bytes version h w c g s (Ok id) e = move-leads named version h w c (record { was = record { id = id; read = record { bytes = bytes; got = g; names = ap result_ok e } }; bytes = bytes; stood = s })
  bytes-leads named bytes version h w c g s (Err bad) e = refused
    where
      refused : Leads Tells by (Done (Err (R.BadFile (Branch name) bad))) h
      refused = (inr (inl (record { key_is = refl; bytes = bytes; version = version.0; got = g; unread = e })), c)

  read-leads : (named : Named) (reply : Reply) (old new : List Event) → WasResolved by.number at named start old → MadeGets by.number start old → Makes by (Get (Branch name)) reply old new → Leads Tells by (on_answer (move_from named) (ref_told name reply)) new
  unfolding Leads
  read-leads named reply old new w c m =
      let keeps : (r : Reply) → Makes by (Get (Branch name)) r old new → WasResolved by.number at named start new = λ r n. WasResolved-makes by (Get (Branch name)) r at named start old new n w in
      let gets : (r : Reply) → Makes by (Get (Branch name)) r old new → MadeGets by.number start new = λ r n. MadeGets-get by start (Branch name) r old new n c in
      got-cases by old new (λ r. Leads Tells by (on_answer (move_from named) (ref_told name r)) new) (Branch name)
      (λ bytes version now n. bytes-leads named bytes version new (keeps (Got (Found bytes version now)) n) (gets (Got (Found bytes version now)) n) (got-made by start (Branch name) bytes version now old new n c) (get-had by (Branch name) bytes version now old new n).stood (read_ref bytes) refl)
      (λ now n. (inr (absent-made by start (Branch name) now old new n c), gets (Got (Absent now)) n))
      (λ done n. failed-made by start (IsOf new) (Get (Branch name)) done old new (inr (inl refl)) n c)
      reply m

  reset-leads : (named : Named) (h : List Event) → WasResolved by.number at named start h → MadeGets by.number start h → Leads Tells by (reset_program name named.id) h
  unfolding Leads
  reset-leads named h w c = λ reply new m. read-leads named reply h new w c m

  named-leads : (r : Result Named Refusal) (h : List Event) → NamingTells by.number at start r h → Leads Tells by (on_answer (λ (named : Named). reset_program name named.id) r) h
  unfolding Leads
  named-leads (Ok named) h t = reset-leads named h t.0 t.1
  named-leads (Err why) h t = refused why t
    where
      refused : (why : Refusal) → NamingTells by.number at start (Err why) h → Leads Tells by (Done (Err why)) h
      refused R.NoRef t = (inl t.0, t.1)
      refused (R.BadFile key bad) t = (inl t.0, t.1)
      refused R.StoreFault t = failure-as by.number (GetsOf (IsNaming at)) (IsOf h) start h (λ op k. inl k) t
      refused _ t = absurd t

pub branch_reset-leads : (by : Caller) (name : List ℕ) (at : At) (journal : List Event) → Leads (BranchResetTells by.number name at journal) by (branch_reset_program name at) journal
branch_reset-leads by name at journal =
    Leads-bind (NamingTells by.number at journal) (BranchResetTells by.number name at journal) by (resolve_at_program at) (on_answer (λ (named : Named). reset_program name named.id)) journal
    (naming-leads by journal at journal (MadeGets-none by.number journal)) (named-leads by name at journal)
