-- A branch that is dropped: each operation is polite, and the answer tells the journal.
use Rattle.std.proofs.Common.{◌≡◌, ◌≢◌, inl, inr, ℕ, Bool, true, false, cond, List, refl, ap}
use Rattle.std.specs.Prelude.{Result, Ok, Err}
use Rattle.std.specs.Result.{result_ok}
use Rattle.ice_base.specs.Names.{main_name, same_name}
use Rattle.ice_ids.specs.declared.Id12.{Id12}
use Rattle.repo_objects.specs.declared.bad_objects.Bad.{Bad}
use Rattle.repo_objects.specs.Readings.{read_ref}
use Rattle.object_store.specs.declared.keys.Key.TheVariants.{Branch}
use Rattle.object_store.specs.declared.keys.Why.TheVariants.{Drop}
use Rattle.object_store.specs.declared.events.Version.{Version}
use Rattle.object_store.specs.declared.events.Op.TheVariants.{Get}
use Rattle.object_store.specs.declared.events.Got.TheVariants.{Found, Absent}
use Rattle.object_store.specs.declared.events.GoneAt.TheVariants.{Done as Gone_done, Moved as Gone_moved}
use Rattle.object_store.specs.declared.events.Reply.{Reply}
use Rattle.object_store.specs.declared.events.Reply.TheVariants.{Got, GoneAt, Failed}
use Rattle.object_store.specs.declared.events.Event.{Event}
use Rattle.store_api.specs.declared.machines.Refusal.{Refusal}
use Rattle.store_api.specs.declared.machines.Refusal.TheVariants as R
use Rattle.object_store.specs.Machine.{found}
use Rattle.store_api.specs.Journal.{StoodAt}
use Rattle.store_api.specs.Callers.{Caller, Makes}
use Rattle.store_api.specs.Program.{Done, Leads, Keeps}
use Rattle.store_api.specs.Running.{Program, on_answer, StaysPolite}
use Rattle.object_store.proofs.Slots.{bytes-true, bytes-same}
use Rattle.repo_read.specs.declared.answers.Resolved.{Resolved}
use Rattle.repo_read.specs.Answers.{at_key, resolved_at, ref_told}
use Rattle.store_api.specs.Telling.{MadeGets, WasGot}
use Rattle.store_api.proofs.Telling.{get-had}
use Rattle.store_api.proofs.Happening.{moved-later, stands-as}
use Rattle.refs_admin.specs.Branches.{dropped, removal, branch_drop_program}
use Rattle.refs_admin.specs.BranchTelling.{IsOfDrop, removes, BranchDropTells}
use Rattle.repo_read.proofs.Own.{MadeGets-none, MadeGets-get, one-made}
use Rattle.repo_read.proofs.Replies.{got-cases}
use Rattle.refs_admin.proofs.Replies.{gone-cases, gone-done, gone-moved}
use Rattle.repo_read.proofs.Namings.{got-made, absent-made, failed-made}
use Rattle.refs_admin.proofs.ResetBranch.{HasRead, read-makes, stood-middle}

-- the removal, unless the branch is `main`
abbrev unless_main : (name : List ℕ) → Resolved → Bool → Program (Unit {0})
unless_main name read main = cond main (Done (Err R.MainKept)) (removal name read.version)

abbrev drop_from : (name : List ℕ) → Resolved → Program (Unit {0})
drop_from name read = unless_main name read (same_name name main_name)

other-name : (name : List ℕ) → same_name name main_name ≡ false → name ≢ main_name
other-name name e same = let y = ap (λ (n : List ℕ). same_name n main_name) same in let z = bytes-same main_name in absurd (cc)

-- ---- politeness
module _ (by : Caller) (name : List ℕ) where
  removal-polite : (read : Resolved) (main : Bool) → same_name name main_name ≡ main → (h : List Event) → StaysPolite by (unless_main name read main) h
  unfolding Keeps
  removal-polite read true e h = tt
  removal-polite read false e h = (other-name name e, λ reply new m. tt)

  read-polite : (r : Result Resolved Refusal) (h : List Event) → StaysPolite by (on_answer (drop_from name) r) h
  unfolding Keeps
  read-polite (Ok read) h = removal-polite read (same_name name main_name) refl h
  read-polite (Err why) h = tt

  pub branch_drop-polite : (journal : List Event) → StaysPolite by (branch_drop_program name) journal
  unfolding Keeps
  branch_drop-polite journal = (tt, λ reply new m. read-polite (ref_told name reply) new)

-- ---- what is told
module _ (by : Caller) (name : List ℕ) (start : List Event) where
  abbrev Tells : Result (Unit {0}) Refusal → List Event → Type 0
  Tells = BranchDropTells by.number name start

  removal-told : (old : Version) (reply : Reply) (before new : List Event) → name ≢ main_name → MadeGets by.number start before → HasRead by.number name old start before → Makes by (removes name old) reply before new → Tells (dropped reply) new
  removal-told old reply before new other c k m = gone-cases by before new (λ r. Tells (dropped r) new) (Branch name) old Drop
      (λ now n.
      let did = gone-done n.time old.0 (found n.middle (Branch name)) now n.answered.answered in
      record {
        not_main = other;
        old = old;
        read = (read-makes by (removes name old) (GoneAt (Gone_done now)) name old start before new n k).was;
        now = now;
        made = one-made by start (removes name old) (GoneAt (Gone_done now)) before new n c;
        stood = stands-as n.middle (Branch name) did.stored old.0 did.stands did.old_is;
      })
      (λ there now n.
      let differs = gone-moved n.time old.0 (found n.middle (Branch name)) there now n.answered.answered in
      record {
        not_main = other;
        old = old;
        read = (read-makes by (removes name old) (GoneAt (Gone_moved there now)) name old start before new n k).was;
        now = now;
        made = one-made by start (removes name old) (GoneAt (Gone_moved there now)) before new n c;
        later = moved-later n.middle name old.0 k.bytes there (stood-middle by (removes name old) (GoneAt (Gone_moved there now)) name k.bytes old before new n k.stood) differs;
      })
      (λ done n. failed-made by start (IsOfDrop by.number name start new) (removes name old) done before new (inr (old, (read-makes by (removes name old) (Failed done) name old start before new n k).was, other, refl)) n c)
      reply m

  removal-leads : (read : Resolved) (h : List Event) → MadeGets by.number start h → HasRead by.number name read.version start h → (main : Bool) → same_name name main_name ≡ main → Leads Tells by (unless_main name read main) h
  unfolding Leads
  removal-leads read h c k true e = (record { main = bytes-true name main_name e; version = read.version; read = k.was }, c)
  removal-leads read h c k false e = λ reply new m. removal-told read.version reply h new (other-name name e) c k m

  bytes-leads : (bytes : List ℕ) (version : Version) (h : List Event) → MadeGets by.number start h → WasGot by.number (Branch name) bytes version.0 start h → StoodAt h (Branch name) version.0 bytes
      → (r : Result Id12 Bad) → read_ref bytes ≡ r → Leads Tells by (on_answer (drop_from name) (resolved_at version (at_key (Branch name) r))) h
  unfolding Leads
  bytes-leads bytes version h c g s (Ok id) e = removal-leads (record { id = id; version = version }) h c (record { was = record { id = id; read = record { bytes = bytes; got = g; names = ap result_ok e } }; bytes = bytes; stood = s }) (same_name name main_name) refl
  bytes-leads bytes version h c g s (Err bad) e = (record { key_is = refl; bytes = bytes; version = version.0; got = g; unread = e }, c)

  read-leads : (reply : Reply) (old new : List Event) → MadeGets by.number start old → Makes by (Get (Branch name)) reply old new → Leads Tells by (on_answer (drop_from name) (ref_told name reply)) new
  unfolding Leads
  read-leads reply old new c m = got-cases by old new (λ r. Leads Tells by (on_answer (drop_from name) (ref_told name r)) new) (Branch name)
      (λ bytes version now n. bytes-leads bytes version new (MadeGets-get by start (Branch name) (Got (Found bytes version now)) old new n c) (got-made by start (Branch name) bytes version now old new n c) (get-had by (Branch name) bytes version now old new n).stood (read_ref bytes) refl)
      (λ now n. (absent-made by start (Branch name) now old new n c, MadeGets-get by start (Branch name) (Got (Absent now)) old new n c))
      (λ done n. failed-made by start (IsOfDrop by.number name start new) (Get (Branch name)) done old new (inl refl) n c)
      reply m

pub branch_drop-leads : (by : Caller) (name : List ℕ) (journal : List Event) → Leads (BranchDropTells by.number name journal) by (branch_drop_program name) journal
unfolding Leads
branch_drop-leads by name journal = λ reply new m. read-leads by name journal reply journal new (MadeGets-none by.number journal) m
