use Rattle.std.proofs.Common.{inl}
use Rattle.object_store.specs.declared.keys.Key.TheVariants.{Txn}
use Rattle.repo_objects.specs.Readings.{read_log}
use Rattle.mirror.specs.inside.Working.{work_of}
use Rattle.mirror.proofs.Answering.{refused-so}
use Rattle.mirror.proofs.Taking.{log-taken}
use Rattle.mirror.proofs.mirror.Mirror.take_log.Goals as goal

pub returns-in-Ok-clause-lands : goal.returns-in-Ok-clause-lands
returns-in-Ok-clause-lands c =
    let m = c.args.self.now in
    inl (log-taken (work_of m) (Txn m.link.id) (read_log m.link.id c.args.bytes) _ c.in-Ok.ensures.ok)

pub returns-in-Err-clause-lands : goal.returns-in-Err-clause-lands
returns-in-Err-clause-lands c = rw c.refuse.ensures (refused-so (work_of c.args.self.now) _ _ c.in-Err.why c.in-Err.ensures.err)
