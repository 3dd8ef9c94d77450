-- A snapshot of the target, by what came of reading it.
use Rattle.std.proofs.Common.{ap}
use Rattle.std.specs.Prelude.{Result, Ok, Err}
use Rattle.std.specs.Result.{result_ok}
use Rattle.snapshot_file.specs.declared.snapshot.SnapshotFile.{SnapshotFile}
use Rattle.repo_objects.specs.declared.bad_objects.Bad.{Bad}
use Rattle.repo_objects.specs.declared.bad_objects.Unread.{Unread}
use Rattle.repo_objects.specs.declared.bad_objects.Unread.TheVariants as unread
use Rattle.repo_objects.specs.Loading.{Loads}
use Rattle.repo_read.specs.Answers.{Answers}
use Rattle.mirror_reports.specs.Told.{if_read}

pub read-answers : (expected : Result SnapshotFile Bad) (r : Result SnapshotFile Unread) → Loads expected r → Answers (Ok (result_ok expected)) (if_read r)
read-answers expected (Ok s) e = ap (λ (x : Result SnapshotFile Bad). Ok (result_ok x)) e
read-answers expected (Err (unread.Bad bad)) e = ap (λ (x : Result SnapshotFile Bad). Ok (result_ok x)) e
read-answers expected (Err unread.NoMemory) e = λ n. absurd (cc)
