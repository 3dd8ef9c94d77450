use Rattle.top_call.proofs.Rows.{rows-all}
use Rattle.top_call.proofs.laws.rows_law.Goals as goal

pub returns : goal.returns
returns c = rows-all
