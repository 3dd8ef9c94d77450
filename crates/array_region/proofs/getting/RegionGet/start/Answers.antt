use Rattle.array_region.proofs.Planned.{told_beside, fine_beside}
use Rattle.array_region.proofs.getting.RegionGet.start.Goals as goal

pub returns-in-Err-clause-outright : goal.returns-in-Err-clause-outright
returns-in-Err-clause-outright c = told_beside _ _ _ c.args.session c.in-Err.why c.in-Err.ensures.outright

pub returns-in_default-clause-outright : goal.returns-in_default-clause-outright
returns-in_default-clause-outright c = fine_beside _ c.args.session _ _ c.in-Ok.ensures.outright

pub returns-in-Ok-Again-clause-outright : goal.returns-in-Ok-Again-clause-outright
returns-in-Ok-Again-clause-outright c = fine_beside _ c.args.session _ _ c.in-Ok.ensures.outright

pub returns-in-Ok-Ready-clause-outright : goal.returns-in-Ok-Ready-clause-outright
returns-in-Ok-Ready-clause-outright c = fine_beside _ c.args.session _ _ c.in-Ok.ensures.outright

pub returns-in-Err-go_on-clause-outright : goal.returns-in-Err-go_on-clause-outright
returns-in-Err-go_on-clause-outright c = fine_beside _ c.args.session _ _ c.in-Ok.ensures.outright
