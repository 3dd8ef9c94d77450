use Rattle.std.proofs.Common.{◌∙◌, sym, ap, arith, drop, ◌+◌}
use Rattle.xxh_sum.specs.Sums.{ones}
use Rattle.xxh_sum.proofs.Steps.{ones_more, ones_all}
use Rattle.xxh_sum.proofs.ones.Goals as goal

pub loop-byte-preserved : goal.loop-byte-preserved
loop-byte-preserved c =
    ap (ones (drop (c.loop-byte.byte-index + 1) c.args.bytes.now)) c.by_one-sum.ensures
    ∙ ones_more c.loop-byte.byte-index c.args.bytes.now c.loop-byte.sum c.loop-byte-test.true
    ∙ c.loop-byte.invariant

pub returns : goal.returns
returns c =
    sym (ones_all c.loop-byte.byte-index c.args.bytes.now c.loop-byte.sum (omega (arith, c.loop-byte-test.false)))
    ∙ c.loop-byte.invariant
