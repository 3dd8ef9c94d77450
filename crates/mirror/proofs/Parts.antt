-- Parts of a mirror's program that proofs name.
use Rattle.std.specs.Prelude.{ℕ, List, Option}
use Rattle.ice_ids.specs.declared.Id12.{Id12}
use Rattle.snapshot_file.specs.declared.snapshot.SnapshotFile.{SnapshotFile}
use Rattle.repo_objects.specs.Readings.{read_log}
use Rattle.object_store.specs.declared.keys.Key.TheVariants.{Txn}
use Rattle.repo_read.specs.Answers.{at_key}
use Rattle.mirror.specs.declared.lines.Link.{Link}
use Rattle.mirror.specs.Programs.{Work, Answer, on_told, put_object, down}

-- what follows the bytes of a log
abbrev pub log-behind : Id12 → Work → (Work → Answer) → List ℕ → Answer
log-behind id w next bytes = on_told w (λ log. put_object (Txn id) bytes w next) (at_key (Txn id) (read_log id bytes))

-- further down
abbrev pub down-onto : ℕ → Work → (Work → Answer) → List Link → Id12 → Answer
down-onto left w next more parent = down left more w next parent

-- a snapshot with another parent
abbrev pub under : SnapshotFile → Option Id12 → SnapshotFile
under s parent = record s { parent = parent }
