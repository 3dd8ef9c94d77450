use Rattle.std.proofs.Common.{arith, ◌-◌}
use Rattle.manifest_index.proofs.Steps.{drop_next, ref_next}
use Rattle.manifest_index.proofs.merging.enter_refs.Goals as goal

pub loop-k-preserved : goal.loop-k-preserved
loop-k-preserved c = λ q.
    ref_next c.args.rank c.args.extents.now q c.at.result _ _ _ _ _
    (drop_next c.args.refs.now (c.loop-k.k - 1) c.loop-k.k c.at.result (omega (arith, c.loop-k-test.true)) c.at.ensures)
    (c.in_ok-enter_ref.ensures q) (c.loop-k.invariant q)
