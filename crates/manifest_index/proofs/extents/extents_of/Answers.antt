use Rattle.std.proofs.Common.{arith}
use Rattle.manifest_index.proofs.Spans.{extents_next}
use Rattle.manifest_index.proofs.Least.{extents_are_those}
use Rattle.manifest_index.proofs.extents.extents_of.Goals as goal

pub loop-k-preserved : goal.loop-k-preserved
loop-k-preserved c =
    extents_next c.args.refs.now c.loop-k.extents c.push.new.self c.loop-k.k c.extent_at.result c.loop-k.invariant c.extent_at.ensures c.in_ok-push.ensures.ok

pub returns : goal.returns
returns c = extents_are_those c.args.rank c.args.refs.now c.loop-k.extents c.loop-k.k (omega (arith, c.loop-k-test.false)) c.requires.filled c.loop-k.invariant
