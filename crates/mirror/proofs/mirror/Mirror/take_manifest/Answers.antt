use Rattle.std.proofs.Common.{inl, ◌∙◌}
use Rattle.repo_objects.specs.Readings.{read_manifest}
use Rattle.mirror.specs.inside.Working.{work_of}
use Rattle.mirror.proofs.Answering.{refused-so}
use Rattle.mirror.proofs.Taking.{manifest-taken}
use Rattle.mirror.proofs.mirror.Mirror.take_manifest.Goals as goal

pub returns-in-Ok-clause-lands : goal.returns-in-Ok-clause-lands
returns-in-Ok-clause-lands c =
    inl (c.next_chunk.ensures.lands ∙ manifest-taken c.args.self.now _ c.args.id c.args.bytes (read_manifest c.args.id c.args.bytes) c.in-Ok.ensures.ok)

pub returns-in-Err-clause-lands : goal.returns-in-Err-clause-lands
returns-in-Err-clause-lands c = rw (c.refuse.ensures, c.in-Err.ensures.refs) (refused-so (work_of c.args.self.now) _ _ _ c.in-Err.ensures.err)
