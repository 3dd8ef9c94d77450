use Rattle.std.proofs.Common.{◌≡◌, Bool, false, Result, Ok, Err, sym, ◌∙◌, ap}
use Rattle.std.specs.Prelude.{◌&&◌}
use Rattle.ice_ids.specs.declared.Id12.{Id12}
use Rattle.snapshot_file.specs.declared.snapshot.SnapshotFile.{SnapshotFile}
use Rattle.object_store.specs.declared.events.Reply.{Reply}
use Rattle.store_api.specs.declared.machines.Refusal.{Refusal}
use Rattle.repo_read.specs.Answers.{snapshot_told, AnswersOutright}
use Rattle.chunk_gc.specs.Told.{is_absent, some_of, snapshot_got}
use Rattle.chunk_gc.proofs.telling.snapshot_got.Goals as goal

told-so : (passes : Bool) (id : Id12) (reply : Reply) (r : Result SnapshotFile Refusal) → (is_absent reply && passes) ≡ false → AnswersOutright reply (snapshot_told id reply) r → AnswersOutright reply (snapshot_got passes id reply) (some_of r)
told-so passes id reply r e o = λ n. rw e (ap some_of (o n))

pub returns-in-Ok-clause-outright : goal.returns-in-Ok-clause-outright
returns-in-Ok-clause-outright c = told-so c.args.passes c.args.id c.args.reply (Ok c.in-Ok.loaded) (sym c.is_passed.ensures ∙ c.if-is_passed.false) c.in-Ok.ensures.outright

pub returns-in-Err-clause-outright : goal.returns-in-Err-clause-outright
returns-in-Err-clause-outright c = told-so c.args.passes c.args.id c.args.reply (Err c.in-Err.why) (sym c.is_passed.ensures ∙ c.if-is_passed.false) c.in-Err.ensures.outright
