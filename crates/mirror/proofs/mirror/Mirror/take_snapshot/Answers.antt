use Rattle.std.proofs.Common.{inl, ◌∙◌}
use Rattle.repo_objects.specs.Readings.{read_snapshot}
use Rattle.mirror.proofs.Taking.{snapshot-taken, snapshot-refused}
use Rattle.mirror.proofs.mirror.Mirror.take_snapshot.Goals as goal

pub returns-in-Ok-clause-lands : goal.returns-in-Ok-clause-lands
returns-in-Ok-clause-lands c =
    let m = c.args.self.now in
    inl (c.next_manifest.ensures.lands ∙ snapshot-taken m _ c.args.bytes c.in-Ok.file (read_snapshot m.link.id c.args.bytes) c.in-Ok.ensures.ok)

pub returns-in-Err-clause-lands : goal.returns-in-Err-clause-lands
returns-in-Err-clause-lands c = rw (c.refuse.ensures, c.in-Err.ensures.refs) (snapshot-refused c.args.self.now c.args.bytes c.in-Err.why c.in-Err.ensures.err)
