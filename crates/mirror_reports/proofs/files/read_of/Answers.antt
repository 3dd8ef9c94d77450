use Rattle.repo_objects.specs.Readings.{read_snapshot}
use Rattle.mirror_reports.proofs.Reading.{read-answers}
use Rattle.mirror_reports.proofs.files.read_of.Goals as goal

pub returns : goal.returns
returns c = rw c.if_read.ensures (read-answers (read_snapshot c.args.id c.args.bytes.now) c.read.result (rw c.in-Ok.ensures at c.read.ensures))
