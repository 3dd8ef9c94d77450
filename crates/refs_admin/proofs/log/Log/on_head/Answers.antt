use Rattle.repo_read.specs.Resolving.{no_ref}
use Rattle.refs_admin.specs.inside.Working.{walk_rest}
use Rattle.refs_admin.proofs.Walks.{first-ok, head-refused}
use Rattle.refs_admin.proofs.log.Log.on_head.Goals as goal

pub returns-in-Ok-clause-took : goal.returns-in-Ok-clause-took
returns-in-Ok-clause-took c = first-ok no_ref (walk_rest c.args.walk) _ c.args.reply c.in-Ok.next c.in-Ok.ensures.took

pub returns-in-Err-clause-took : goal.returns-in-Err-clause-took
returns-in-Err-clause-took c = rw c.no_ref.ensures (head-refused (walk_rest c.args.walk) _ c.args.reply c.in-Err.refusal c.in-Err.ensures.took)
