use Rattle.commit_path.proofs.Logs.{log-ordered}
use Rattle.commit_path.proofs.commit.write_log.Goals as goal

pub write-written-requires : goal.write-written-requires
write-written-requires c = log-ordered c.as_session.result.now c.args.id c.in-Ok.lists c.in-Ok.ensures
