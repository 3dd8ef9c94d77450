use Rattle.drafts.proofs.Taking.{took_on}
use Rattle.top_call.proofs.telling.add_summary.Goals as goal

pub returns : goal.returns
returns g c =
    let tasks = took_on c.add.ensures c.add_number.ensures in
    let committed = took_on (took_on tasks c.add-2.ensures) c.add_number-2.ensures in
    let refused = took_on (took_on committed c.add-3.ensures) c.add_number-3.ensures in
    took_on (took_on (took_on refused c.add-4.ensures) c.add_number-4.ensures) c.add-5.ensures
