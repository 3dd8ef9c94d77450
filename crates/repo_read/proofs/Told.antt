-- Gets whose replies tell a value, and what follows with it.
use Rattle.std.proofs.Common.{◌≡◌, ℕ, List, Bool, true, false, Result, Ok, Err, IfErr, refl, sym, ap, ◌∙◌, subst}
use Rattle.ice_ids.specs.declared.Id12.{Id12}
use Rattle.snapshot_file.specs.declared.snapshot.SnapshotFile.{SnapshotFile}
use Rattle.txn_file.specs.declared.log.TxnFile.{TxnFile}
use Rattle.repo_objects.specs.declared.bad_objects.Bad.{Bad}
use Rattle.repo_objects.specs.Readings.{read_snapshot, read_log, read_ref}
use Rattle.object_store.specs.declared.keys.Key.{Key}
use Rattle.object_store.specs.declared.keys.Key.TheVariants.{Snapshot, Txn, Branch}
use Rattle.object_store.specs.declared.events.Op.TheVariants.{Get}
use Rattle.object_store.specs.declared.events.Got.{Got as TheGot}
use Rattle.object_store.specs.declared.events.Got.TheVariants.{Found, Absent}
use Rattle.object_store.specs.declared.events.Reply.{Reply}
use Rattle.object_store.specs.declared.events.Reply.TheVariants.{Got, New, Over, Gone, GoneAt, Listed, Failed}
use Rattle.store_api.specs.declared.machines.Next.{Next}
use Rattle.store_api.specs.declared.machines.Refusal.{Refusal}
use Rattle.store_api.specs.declared.machines.Refusal.TheVariants.{NoRef, Missing, BadFile, StoreFault}
use Rattle.store_api.specs.Callers.{Fits}
use Rattle.store_api.specs.Program.{Ask, IsDone, Lands, is_fault}
use Rattle.store_api.specs.Running.{Program, on_answer, ◌>>=◌}
use Rattle.store_api.specs.Driving.{Took, has_failed}
use Rattle.repo_read.specs.declared.answers.Resolved.{Resolved}
use Rattle.repo_read.specs.Answers.{at_key, resolved_at, ref_told, snapshot_told, log_told, Answers, AnswersOutright}
use Rattle.repo_read.specs.Programs.{resolve_program, snapshot_program, log_program}
use Rattle.repo_read.proofs.Hearing.{no-fault, IsTelling}
use Rattle.repo_read.proofs.Hearing as H

-- ---- a get of a key that tells so: a fault exactly where it failed
module _ {A B : Type 0} (key : Key) (told : Reply → Result A Refusal) (f : A → Program B) (fails : (done : Bool) → told (Failed done) ≡ Err StoreFault) (tells : (got : TheGot) (why : Refusal) → told (Got got) ≡ Err why → is_fault why ≡ false) where
  telling : IsTelling (Get key) told
  telling = record { calm = refl; fails = fails; sound = sound }
    where
      sound : (reply : Reply) (why : Refusal) → Fits (Get key) reply → has_failed reply ≡ false → told reply ≡ Err why → is_fault why ≡ false
      sound (Got got) why w n t = tells got why t
      sound (Failed done) why w n t = absurd (cc)
      sound (New new) why w n t = absurd w
      sound (Over over) why w n t = absurd w
      sound (Gone gone) why w n t = absurd w
      sound (GoneAt gone) why w n t = absurd w
      sound (Listed listed) why w n t = absurd w

  -- where it tells no value, that ends the program
  refused : (reply : Reply) (why : Refusal) → Fits (Get key) reply → Answers (told reply) (Err why) → AnswersOutright reply (told reply) (Err why) → (q : Program B) → IsDone q → Took (Ask (Get key) (λ r. on_answer f (told r))) reply q (Err why)
  refused reply why w t o q d = H.refused (Get key) told f telling reply why w t o q d

  -- where it tells a value, the program goes on with it
  went : (reply : Reply) (a : A) → told reply ≡ Ok a → (q : Program B) (result : Result (Next B) Refusal) → Lands (f a) q result → IfErr result (λ refusal. is_fault refusal ≡ false) → Took (Ask (Get key) (λ r. on_answer f (told r))) reply q result
  went reply a t q result l n = H.went (Get key) told f telling reply a t q result l n

-- ---- branches
ref-tells : (branch : List ℕ) (got : TheGot) (why : Refusal) → ref_told branch (Got got) ≡ Err why → is_fault why ≡ false
ref-tells branch (Found bytes version now) why e = by_bytes (read_ref bytes) e
  where
    by_bytes : (r : Result Id12 Bad) → resolved_at version (at_key (Branch branch) r) ≡ Err why → is_fault why ≡ false
    by_bytes (Ok id) e = cc
    by_bytes (Err bad) e = no-fault (BadFile (Branch branch) bad) why refl e
ref-tells branch (Absent now) why e = no-fault NoRef why refl e

module _ {B : Type 0} (branch : List ℕ) (reply : Reply) (f : Resolved → Program B) (w : Fits (Get (Branch branch)) reply) where
  pub ref-refused : (why : Refusal) → Answers {A = Resolved} (ref_told branch reply) (Err why) → AnswersOutright {A = Resolved} reply (ref_told branch reply) (Err why) → (q : Program B) → IsDone q → Took (resolve_program branch >>= f) reply q (Err why)
  ref-refused why t o q d = refused (Branch branch) (ref_told branch) f (λ done. refl) (ref-tells branch) reply why w t o q d

  pub ref-went : (named : Resolved) → Answers (ref_told branch reply) (Ok named) → (q : Program B) (result : Result (Next B) Refusal) → Lands (f named) q result → IfErr result (λ refusal. is_fault refusal ≡ false) → Took (resolve_program branch >>= f) reply q result
  ref-went named t q result l n = went (Branch branch) (ref_told branch) f (λ done. refl) (ref-tells branch) reply named t q result l n

-- ---- snapshots
snapshot-tells : (id : Id12) (got : TheGot) (why : Refusal) → snapshot_told id (Got got) ≡ Err why → is_fault why ≡ false
snapshot-tells id (Found bytes version now) why e = by_bytes (read_snapshot id bytes) e
  where
    by_bytes : (r : Result SnapshotFile Bad) → at_key (Snapshot id) r ≡ Err why → is_fault why ≡ false
    by_bytes (Ok s) e = cc
    by_bytes (Err bad) e = no-fault (BadFile (Snapshot id) bad) why refl e
snapshot-tells id (Absent now) why e = no-fault (Missing (Snapshot id)) why refl e

module _ {B : Type 0} (id : Id12) (reply : Reply) (f : SnapshotFile → Program B) (w : Fits (Get (Snapshot id)) reply) where
  pub snapshot-refused : (why : Refusal) → Answers {A = SnapshotFile} (snapshot_told id reply) (Err why) → AnswersOutright {A = SnapshotFile} reply (snapshot_told id reply) (Err why) → (q : Program B) → IsDone q → Took (snapshot_program id >>= f) reply q (Err why)
  snapshot-refused why t o q d = refused (Snapshot id) (snapshot_told id) f (λ done. refl) (snapshot-tells id) reply why w t o q d

  pub snapshot-went : (s : SnapshotFile) → Answers (snapshot_told id reply) (Ok s) → (q : Program B) (result : Result (Next B) Refusal) → Lands (f s) q result → IfErr result (λ refusal. is_fault refusal ≡ false) → Took (snapshot_program id >>= f) reply q result
  snapshot-went s t q result l n = went (Snapshot id) (snapshot_told id) f (λ done. refl) (snapshot-tells id) reply s t q result l n

-- ---- logs
log-tells : (id : Id12) (got : TheGot) (why : Refusal) → log_told id (Got got) ≡ Err why → is_fault why ≡ false
log-tells id (Found bytes version now) why e = by_bytes (read_log id bytes) e
  where
    by_bytes : (r : Result TxnFile Bad) → at_key (Txn id) r ≡ Err why → is_fault why ≡ false
    by_bytes (Ok log) e = cc
    by_bytes (Err bad) e = no-fault (BadFile (Txn id) bad) why refl e
log-tells id (Absent now) why e = no-fault (Missing (Txn id)) why refl e

module _ {B : Type 0} (id : Id12) (reply : Reply) (f : TxnFile → Program B) (w : Fits (Get (Txn id)) reply) where
  pub log-refused : (why : Refusal) → Answers {A = TxnFile} (log_told id reply) (Err why) → AnswersOutright {A = TxnFile} reply (log_told id reply) (Err why) → (q : Program B) → IsDone q → Took (log_program id >>= f) reply q (Err why)
  log-refused why t o q d = refused (Txn id) (log_told id) f (λ done. refl) (log-tells id) reply why w t o q d

  pub log-went : (log : TxnFile) → Answers (log_told id reply) (Ok log) → (q : Program B) (result : Result (Next B) Refusal) → Lands (f log) q result → IfErr result (λ refusal. is_fault refusal ≡ false) → Took (log_program id >>= f) reply q result
  log-went log t q result l n = went (Txn id) (log_told id) f (λ done. refl) (log-tells id) reply log t q result l n
