use Rattle.std.proofs.Common.{arith}
use Rattle.ice_ids.specs.declared.Id8.{Id8}
use Rattle.zarr_tree.specs.Touched.{lists}
use Rattle.conflicts.proofs.Steps.{one-more}
use Rattle.conflicts.proofs.ids.set_of.Goals as goal

pub loop-id-preserved : goal.loop-id-preserved
loop-id-preserved c = λ id.
    one-more (λ (x : Id8). x) c.loop-id.set c.insert.new.self c.args.ids.now c.loop-id.id-index _ id (lists c.args.ids.now id) (omega arith) c.in_ok-insert.ensures.ok (c.loop-id.invariant id)
