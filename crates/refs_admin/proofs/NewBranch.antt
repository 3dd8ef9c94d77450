-- A new branch: each operation is polite, and the answer tells the journal.
use Rattle.std.proofs.Common.{◌≡◌, inl, inr, ℕ, List, refl}
use Rattle.std.specs.Prelude.{Result, Ok, Err}
use Rattle.ice_ids.specs.declared.Id12.{Id12}
use Rattle.ice_ids.specs.Text.{IsId12}
use Rattle.ref_file.specs.Refs.{ref_bytes}
use Rattle.object_store.specs.declared.keys.Key.TheVariants.{Snapshot, Branch}
use Rattle.object_store.specs.declared.keys.Why.TheVariants.{Create}
use Rattle.object_store.specs.declared.events.Op.{Op}
use Rattle.object_store.specs.declared.events.Op.TheVariants.{Get}
use Rattle.object_store.specs.declared.events.New.TheVariants.{Done as New_done, Present}
use Rattle.object_store.specs.declared.events.Reply.{Reply}
use Rattle.object_store.specs.declared.events.Reply.TheVariants.{New, Failed}
use Rattle.object_store.specs.declared.events.Event.{Event}
use Rattle.store_api.specs.declared.machines.Refusal.{Refusal}
use Rattle.store_api.specs.declared.machines.Refusal.TheVariants as R
use Rattle.object_store.specs.Machine.{found}
use Rattle.store_api.specs.Journal.{WasPut}
use Rattle.store_api.specs.Callers.{Caller, Makes}
use Rattle.store_api.specs.Program.{Done, Leads, Keeps}
use Rattle.store_api.specs.Running.{on_answer, StaysPolite}
use Rattle.store_api.proofs.Programs.{Leads-bind}
use Rattle.store_api.proofs.Happening.{new-present, stands-as}
use Rattle.repo_read.specs.declared.resolving.At.{At}
use Rattle.repo_read.specs.declared.resolving.Named.{Named}
use Rattle.repo_read.specs.Resolving.{resolve_at_program}
use Rattle.refs_admin.specs.Branches.{created, put_branch, create_program, branch_new_program}
use Rattle.repo_read.specs.Naming.{NamingTells, IsNaming}
use Rattle.refs_admin.specs.Telling.{IsOfMaking}
use Rattle.store_api.specs.Telling.{GetsOf, WasFailure}
use Rattle.refs_admin.specs.BranchTelling.{creates, BranchNewTells}
use Rattle.repo_read.proofs.Own.{MadeGets-none, one-made}
use Rattle.repo_read.proofs.Replies.{new-cases, new-done}
use Rattle.repo_read.proofs.Namings.{failed-made, behind-polite, naming-leads}
use Rattle.refs_admin.proofs.Targets.{Spelled, names-put, target-polite, IsAimed, aimed-makes, target-leads}

-- a failure of one kind is one of another
pub failure-as : (client : ℕ) (kind other : Op → Type 0) (start journal : List Event) → ((op : Op) → kind op → other op) → WasFailure client kind start journal → WasFailure client other start journal
failure-as client kind other start journal f w = record { op = w.op; of_kind = f w.op w.of_kind; done = w.done; made = w.made }

-- ---- politeness
module _ (laws : Spelled) (by : Caller) (name : List ℕ) where
  put-polite : (id : Id12) (h : List Event) → IsId12 id → WasPut h (Snapshot id) → StaysPolite by (put_branch name id) h
  unfolding Keeps
  put-polite id h i put = ((names-put laws h id i put, inl refl), λ reply new m. tt)

  pub branch_new-polite : (at : At) (journal : List Event) → StaysPolite by (branch_new_program name at) journal
  branch_new-polite at journal = behind-polite by at (λ (named : Named). create_program name named.id) (λ named h. target-polite laws by named.id (put_branch name named.id) (put-polite named.id) h) journal

-- ---- what is told
module _ (by : Caller) (name : List ℕ) (at : At) (start : List Event) where
  abbrev Tells : Result (Unit {0}) Refusal → List Event → Type 0
  Tells = BranchNewTells by.number name at start

  abbrev IsOf : List Event → Op → Type 0
  IsOf = IsOfMaking by.number at (creates name) start

  put-told : (named : Named) (reply : Reply) (old new : List Event) → IsAimed by.number at named start old → Makes by (creates name named.id) reply old new → Tells (created reply) new
  put-told named reply old new a m = new-cases by old new (λ r. Tells (created r) new) (Branch name) (ref_bytes named.id) Create
      (λ version now n.
      let kept = aimed-makes by (creates name named.id) (New (New_done version now)) at named start old new n a in
      let free = new-done _ n.time (found n.middle (Branch name)) version now n.answered.answered in
      record { aim = record { named = named; resolved = kept.0; target = kept.1 }; version = version; now = now; made = one-made by start (creates name named.id) (New (New_done version now)) old new n a.gets; position = free.1; free = free.0 })
      (λ version now n.
      let kept = aimed-makes by (creates name named.id) (New (Present version now)) at named start old new n a in
      let was = new-present _ n.time (found n.middle (Branch name)) version now n.answered.answered in
      record { aim = record { named = named; resolved = kept.0; target = kept.1 }; now = now; made = one-made by start (creates name named.id) (New (Present version now)) old new n a.gets; there = stands-as n.middle (Branch name) was.stored version.0 was.stands was.version_is })
      (λ done n.
      let kept = aimed-makes by (creates name named.id) (Failed done) at named start old new n a in
      failed-made by start (IsOf new) (creates name named.id) done old new (inr (inr (record { named = named; resolved = kept.0; target = kept.1 }, refl))) n a.gets)
      reply m

  put-leads : (named : Named) (h : List Event) → IsAimed by.number at named start h → Leads Tells by (put_branch name named.id) h
  unfolding Leads
  put-leads named h a = λ reply new m. put-told named reply h new a m

  named-leads : (r : Result Named Refusal) (h : List Event) → NamingTells by.number at start r h → Leads Tells by (on_answer (λ (named : Named). create_program name named.id) r) h
  unfolding Leads
  named-leads (Ok named) h t = target-leads by at named start (put_branch name named.id) Tells (λ h. Unit {0}) (λ reply old new m k. tt)
      (λ h w c. (w, c))
      (λ fault h w c. (inr w, c))
      (λ h r w. failure-as by.number (λ op. op ≡ Get (Snapshot named.id)) (IsOf h) start h (λ op e. inr (inl (named, r, e))) w)
      (λ h a k. put-leads named h a) h t.0 t.1 tt
  named-leads (Err why) h t = refused why t
    where
      refused : (why : Refusal) → NamingTells by.number at start (Err why) h → Leads Tells by (Done (Err why)) h
      refused R.NoRef t = t
      refused (R.BadFile key bad) t = (inl t.0, t.1)
      refused R.StoreFault t = failure-as by.number (GetsOf (IsNaming at)) (IsOf h) start h (λ op k. inl k) t
      refused _ t = absurd t

pub branch_new-leads : (by : Caller) (name : List ℕ) (at : At) (journal : List Event) → Leads (BranchNewTells by.number name at journal) by (branch_new_program name at) journal
branch_new-leads by name at journal =
    Leads-bind (NamingTells by.number at journal) (BranchNewTells by.number name at journal) by (resolve_at_program at) (on_answer (λ (named : Named). create_program name named.id)) journal
    (naming-leads by journal at journal (MadeGets-none by.number journal)) (named-leads by name at journal)
