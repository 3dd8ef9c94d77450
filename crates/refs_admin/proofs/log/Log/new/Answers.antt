use Rattle.std.proofs.Common.{◌∙◌, ap}
use Rattle.repo_read.specs.declared.resolving.Resolution.{Resolution}
use Rattle.refs_admin.specs.inside.Working.{first_rest}
use Rattle.refs_admin.proofs.Walks.{log-begins}
use Rattle.refs_admin.proofs.log.Log.new.Goals as goal

pub returns-clause-program : goal.returns-clause-program
returns-clause-program c = c.first.ensures.program ∙ (ap (λ (r : Resolution). first_rest r) c.begin.ensures ∙ log-begins c.args.at)
