use Rattle.std.proofs.Common.{◌≡◌, Result, Ok, Err, ap}
use Rattle.ice_ids.specs.declared.Id12.{Id12}
use Rattle.snapshot_file.specs.declared.snapshot.SnapshotFile.{SnapshotFile}
use Rattle.object_store.specs.declared.keys.Key.TheVariants.{Snapshot}
use Rattle.object_store.specs.declared.events.Got.TheVariants.{Found, Absent}
use Rattle.object_store.specs.declared.events.Reply.{Reply}
use Rattle.object_store.specs.declared.events.Reply.TheVariants.{Got, New, Over, Gone, GoneAt, Listed, Failed}
use Rattle.store_api.specs.declared.machines.Refusal.{Refusal}
use Rattle.store_api.specs.declared.machines.Refusal.TheVariants.{Missing, StoreFault}
use Rattle.repo_read.specs.Answers.{snapshot_told, AnswersOutright}
use Rattle.expiry.specs.declared.look.Seen.{Seen}
use Rattle.expiry.specs.Looks.{snapshot_seen}
use Rattle.expiry.proofs.telling.snapshot_seen.Goals as goal

told-so : (why other : Refusal) → ◌≡◌ {A = Result SnapshotFile Refusal} (Err why) (Err other) → ◌≡◌ {A = Result Seen Refusal} (Err why) (Err other)
told-so why other e = let same : why ≡ other = cc in ap (λ (w : Refusal). Err w) same

refused-so : (id : Id12) (reply : Reply) (why : Refusal) → AnswersOutright {A = SnapshotFile} reply (snapshot_told id reply) (Err why) → AnswersOutright {A = Seen} reply (snapshot_seen id reply) (Err why)
refused-so id (Got (Found bytes version now)) why t = λ e. absurd (cc)
refused-so id (Got (Absent now)) why t = λ e. told-so why (Missing (Snapshot id)) (t e)
refused-so id (New new) why t = λ e. told-so why StoreFault (t e)
refused-so id (Over over) why t = λ e. told-so why StoreFault (t e)
refused-so id (Gone gone) why t = λ e. told-so why StoreFault (t e)
refused-so id (GoneAt gone) why t = λ e. told-so why StoreFault (t e)
refused-so id (Listed listed) why t = λ e. told-so why StoreFault (t e)
refused-so id (Failed done) why t = λ e. told-so why StoreFault (t e)

never-there : {B : Type 0} (file : SnapshotFile) (other : Refusal) → ◌≡◌ {A = Result SnapshotFile Refusal} (Ok file) (Err other) → B
never-there file other e = absurd (cc)

there-so : (id : Id12) (reply : Reply) (file : SnapshotFile) (seen : Seen) → AnswersOutright {A = SnapshotFile} reply (snapshot_told id reply) (Ok file) → AnswersOutright {A = Seen} reply (snapshot_seen id reply) (Ok seen)
there-so id (Got (Found bytes version now)) file seen t = λ e. absurd (cc)
there-so id (Got (Absent now)) file seen t = λ e. never-there file (Missing (Snapshot id)) (t e)
there-so id (New new) file seen t = λ e. never-there file StoreFault (t e)
there-so id (Over over) file seen t = λ e. never-there file StoreFault (t e)
there-so id (Gone gone) file seen t = λ e. never-there file StoreFault (t e)
there-so id (GoneAt gone) file seen t = λ e. never-there file StoreFault (t e)
there-so id (Listed listed) file seen t = λ e. never-there file StoreFault (t e)
there-so id (Failed done) file seen t = λ e. never-there file StoreFault (t e)

pub returns-in-Ok-clause-outright : goal.returns-in-Ok-clause-outright
returns-in-Ok-clause-outright c = there-so c.args.id c.args.reply c.in-Ok.file _ c.in-Ok.ensures.outright

pub returns-in-Err-clause-outright : goal.returns-in-Err-clause-outright
returns-in-Err-clause-outright c = refused-so c.args.id c.args.reply c.in-Err.why c.in-Err.ensures.outright
