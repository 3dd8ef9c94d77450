use Rattle.std.proofs.Common.{◌∙◌, sym, ap, arith, drop, length, ◌+◌, ◌-◌, ◌*◌, ◌/◌}
use Rattle.std.proofs.lemmas.List.{take_rest}
use Rattle.xxh_sum.specs.Sums.{striped}
use Rattle.xxh_sum.proofs.Steps.{striped_more, striped_all}
use Rattle.xxh_sum.proofs.striped.Goals as goal

pub loop-i-preserved : goal.loop-i-preserved
loop-i-preserved c =
    let bytes = c.args.bytes.now in
    let i = c.loop-i.i in
    let n = length bytes / 32 in
    ap (striped (n - (i + 1)) (drop (32 * (i + 1)) bytes)) (rw take_rest at c.mixed-lanes.ensures)
    ∙ striped_more n i bytes c.loop-i.lanes c.loop-i-test.true
    ∙ c.loop-i.invariant

pub returns : goal.returns
returns c =
    let bytes = c.args.bytes.now in
    sym (striped_all (length bytes / 32) c.loop-i.i (drop (32 * c.loop-i.i) bytes) c.loop-i.lanes (omega (arith, c.loop-i-test.false)))
    ∙ c.loop-i.invariant
