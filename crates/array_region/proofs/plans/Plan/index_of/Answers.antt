use Rattle.array_region.proofs.Planned.{gridded_at}
use Rattle.array_region.proofs.plans.Plan.index_of.Goals as goal

pub chunk_met-requires-clause-gridded : goal.chunk_met-requires-clause-gridded
chunk_met-requires-clause-gridded c =
    let p = c.args.self.now in
    gridded_at p.array p.region.from.items p.region.to.items c.as_slice.result.now c.as_slice-2.result.now c.as_slice-3.result.now p.count p.within c.as_slice.ensures c.as_slice-2.ensures.value c.as_slice-3.ensures.value
