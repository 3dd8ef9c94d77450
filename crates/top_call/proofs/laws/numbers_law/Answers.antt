use Rattle.top_call.proofs.Rows.{numbers-tell}
use Rattle.top_call.proofs.laws.numbers_law.Goals as goal

pub returns : goal.returns
returns c = numbers-tell
