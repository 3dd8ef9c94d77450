-- What the get of the snapshot asks and tells that a ref is to name, whatever others do.
use Rattle.std.proofs.Common.{◌≡◌, ℕ, List, [], ◌∷◌, ◌++◌, refl, sym, ap, subst}
use Rattle.std.specs.Prelude.{Some, Result, Ok, Err}
use Rattle.std.specs.Result.{result_ok}
use Rattle.ice_ids.specs.declared.Id12.{Id12}
use Rattle.ice_ids.specs.Text.{IsId12}
use Rattle.ref_file.specs.Refs.{ref_bytes}
use Rattle.snapshot_file.specs.declared.snapshot.SnapshotFile.{SnapshotFile}
use Rattle.repo_objects.specs.declared.bad_objects.Bad.{Bad}
use Rattle.repo_objects.specs.Readings.{read_snapshot, snapshot_by}
use Rattle.repo_objects.specs.Laws.{SnapshotLaw, RefLaw, InitialLaw}
use Rattle.object_store.specs.declared.keys.Key.TheVariants.{Snapshot}
use Rattle.object_store.specs.declared.events.Op.{Op}
use Rattle.object_store.specs.declared.events.Op.TheVariants.{Get}
use Rattle.object_store.specs.declared.events.Got.TheVariants.{Found, Absent}
use Rattle.object_store.specs.declared.events.Reply.{Reply}
use Rattle.object_store.specs.declared.events.Reply.TheVariants.{Got, New, Over, Gone, GoneAt, Listed, Failed}
use Rattle.object_store.specs.declared.events.Event.{Event}
use Rattle.store_api.specs.declared.machines.Refusal.{Refusal}
use Rattle.store_api.specs.declared.machines.Refusal.TheVariants as R
use Rattle.store_api.specs.Journal.{WasPut, NamesPut}
use Rattle.store_api.specs.Callers.{Caller, Makes, own_event}
use Rattle.store_api.specs.Program.{Leads, Keeps}
use Rattle.store_api.specs.Running.{Program, on_answer, StaysPolite, ◌>>=◌}
use Rattle.repo_read.specs.Answers.{at_key}
use Rattle.store_api.specs.Telling.{MadeGets, WasFailure, WasGot, WasSnapshot}
use Rattle.store_api.proofs.Telling.{get-had}
use Rattle.repo_read.specs.declared.resolving.At.{At}
use Rattle.repo_read.specs.declared.resolving.Named.{Named}
use Rattle.repo_read.specs.Resolving.{but_refused}
use Rattle.refs_admin.specs.Targets.{no_snapshot, target_told, target_program}
use Rattle.repo_read.specs.Naming.{WasResolved, TargetWasAbsent, TargetWasBad}
use Rattle.repo_read.proofs.Own.{MadeGets-get, made-more}
use Rattle.repo_read.proofs.Replies.{got-cases}
use Rattle.repo_read.proofs.Leading.{read-append}
use Rattle.repo_read.proofs.Namings.{got-made, absent-made, failed-made, WasResolved-makes}

-- the laws of what is read and written
pub record Spelled : Type 0 where
  pub snapshot : SnapshotLaw
  pub reference : RefLaw
  pub initial : InitialLaw

-- a reference to a snapshot that was put
pub names-put : Spelled → (journal : List Event) (id : Id12) → IsId12 id → WasPut journal (Snapshot id) → NamesPut journal (ref_bytes id)
names-put laws journal id i put = record { id = id; reference = laws.reference.written id i; put = put }

-- what was read has its id
pub read-own : Spelled → (id : Id12) (bytes : List ℕ) (s : SnapshotFile) → snapshot_by id bytes ≡ Some s → IsId12 id
read-own laws id bytes s read = subst (λ (x : Id12). IsId12 x) (laws.snapshot.own id bytes s read) (laws.snapshot.read id bytes s read).sized.id

read-id : Spelled → (id : Id12) (bytes : List ℕ) (s : SnapshotFile) → read_snapshot id bytes ≡ Ok s → IsId12 id
read-id laws id bytes s e = read-own laws id bytes s (ap result_ok e)

-- ---- politeness
module _ (laws : Spelled) (by : Caller) {B : Type 0} (id : Id12) (p : Program B) (polite : (h : List Event) → IsId12 id → WasPut h (Snapshot id) → StaysPolite by p h) where
  read-polite : (bytes : List ℕ) (h : List Event) → WasPut h (Snapshot id) → (r : Result SnapshotFile Bad) → read_snapshot id bytes ≡ r → StaysPolite by (on_answer (λ (target : SnapshotFile). p) (but_refused no_snapshot (at_key (Snapshot id) r))) h
  unfolding Keeps
  read-polite bytes h put (Ok s) e = polite h (read-id laws id bytes s e) put
  read-polite bytes h put (Err bad) e = tt

  told-polite : (reply : Reply) (old new : List Event) → Makes by (Get (Snapshot id)) reply old new → StaysPolite by (on_answer (λ (target : SnapshotFile). p) (target_told id reply)) new
  unfolding Keeps
  told-polite (Got (Found bytes version now)) old new m = read-polite bytes new (get-had by (Snapshot id) bytes version now old new m).put (read_snapshot id bytes) refl
  told-polite (Got (Absent now)) old new m = tt
  told-polite (New x) old new m = tt
  told-polite (Over x) old new m = tt
  told-polite (Gone x) old new m = tt
  told-polite (GoneAt x) old new m = tt
  told-polite (Listed x) old new m = tt
  told-polite (Failed done) old new m = tt

  -- what follows is polite where the snapshot was put
  pub target-polite : (journal : List Event) → StaysPolite by (target_program id >>= λ target. p) journal
  unfolding Keeps
  target-polite journal = (tt, λ reply new m. told-polite reply journal new m)

-- ---- what is told
pub WasSnapshot-append : (client : ℕ) (id : Id12) (start journal more : List Event) → WasSnapshot client id start journal → WasSnapshot client id start (journal ++ more)
WasSnapshot-append client id start journal more w = record { snap = w.snap; read = read-append client id w.snap start journal more w.read }

pub WasSnapshot-makes : (by : Caller) (op : Op) (reply : Reply) (id : Id12) (start old new : List Event) → Makes by op reply old new → WasSnapshot by.number id start old → WasSnapshot by.number id start new
WasSnapshot-makes by op reply id start old new m w = subst (λ (h : List Event). WasSnapshot by.number id start h) (sym (made-more by op reply old new m)) (WasSnapshot-append by.number id start old (m.waits.between ++ own_event by op reply m.time ∷ []) w)

-- what is known once it was got: what was named, and that it is there
pub record IsAimed (client : ℕ) (at : At) (named : Named) (start journal : List Event) : Type 0 where
  pub resolved : WasResolved client at named start journal
  pub target : WasSnapshot client named.id start journal
  pub gets : MadeGets client start journal

pub aimed-makes : (by : Caller) (op : Op) (reply : Reply) (at : At) (named : Named) (start old new : List Event) → Makes by op reply old new → IsAimed by.number at named start old → WasResolved by.number at named start new × WasSnapshot by.number named.id start new
aimed-makes by op reply at named start old new m a = (WasResolved-makes by op reply at named start old new m a.resolved, WasSnapshot-makes by op reply named.id start old new m a.target)

-- Q holds of each answer of `p`, where it is told why there is no such snapshot, and where there is; K is known before, and stays so
module _ (by : Caller) (at : At) (named : Named) (start : List Event) {B : Type 0} (p : Program B) (Q : Result B Refusal → List Event → Type 0) (K : List Event → Type 0)
    (keep : (reply : Reply) (old new : List Event) → Makes by (Get (Snapshot named.id)) reply old new → K old → K new)
    (absent : (h : List Event) → TargetWasAbsent by.number at start h → MadeGets by.number start h → Q (Err R.NoSnapshot) h)
    (bad : (fault : Bad) (h : List Event) → TargetWasBad by.number at (Snapshot named.id) fault start h → MadeGets by.number start h → Q (Err (R.BadFile (Snapshot named.id) fault)) h)
    (failed : (h : List Event) → WasResolved by.number at named start h → WasFailure by.number (λ op. op ≡ Get (Snapshot named.id)) start h → Q (Err R.StoreFault) h)
    (there : (h : List Event) → IsAimed by.number at named start h → K h → Leads Q by p h) where
  read-leads : (bytes : List ℕ) (version : ℕ) (h : List Event) → WasResolved by.number at named start h → WasGot by.number (Snapshot named.id) bytes version start h → MadeGets by.number start h → K h
      → (r : Result SnapshotFile Bad) → read_snapshot named.id bytes ≡ r → Leads Q by (on_answer (λ (target : SnapshotFile). p) (but_refused no_snapshot (at_key (Snapshot named.id) r))) h
  unfolding Leads
  read-leads bytes version h w g c k (Ok s) e = there h (record { resolved = w; target = record { snap = s; read = record { bytes = bytes; version = version; got = g; read = ap result_ok e } }; gets = c }) k
  read-leads bytes version h w g c k (Err fault) e = bad fault h (record { named = named; resolved = w; unread = record { key_is = refl; bytes = bytes; version = version; got = g; unread = e } }) c

  told-leads : (reply : Reply) (old new : List Event) → WasResolved by.number at named start old → MadeGets by.number start old → K old → Makes by (Get (Snapshot named.id)) reply old new → Leads Q by (on_answer (λ (target : SnapshotFile). p) (target_told named.id reply)) new
  unfolding Leads
  told-leads reply old new w c k m =
      let keeps : (r : Reply) → Makes by (Get (Snapshot named.id)) r old new → WasResolved by.number at named start new = λ r n. WasResolved-makes by (Get (Snapshot named.id)) r at named start old new n w in
      let gets : (r : Reply) → Makes by (Get (Snapshot named.id)) r old new → MadeGets by.number start new = λ r n. MadeGets-get by start (Snapshot named.id) r old new n c in
      got-cases by old new (λ r. Leads Q by (on_answer (λ (target : SnapshotFile). p) (target_told named.id r)) new) (Snapshot named.id)
      (λ bytes version now n. read-leads bytes version.0 new (keeps (Got (Found bytes version now)) n) (got-made by start (Snapshot named.id) bytes version now old new n c) (gets (Got (Found bytes version now)) n) (keep (Got (Found bytes version now)) old new n k) (read_snapshot named.id bytes) refl)
      (λ now n. absent new (record { named = named; resolved = keeps (Got (Absent now)) n; absent = absent-made by start (Snapshot named.id) now old new n c }) (gets (Got (Absent now)) n))
      (λ done n. failed new (keeps (Failed done) n) (failed-made by start (λ op. op ≡ Get (Snapshot named.id)) (Get (Snapshot named.id)) done old new refl n c))
      reply m

  pub target-leads : (journal : List Event) → WasResolved by.number at named start journal → MadeGets by.number start journal → K journal → Leads Q by (target_program named.id >>= λ target. p) journal
  unfolding Leads
  target-leads journal w c k = λ reply new m. told-leads reply journal new w c k m
