use Rattle.std.proofs.Common.{◌≡◌, ◌∙◌, sym, ap, arith, drop, length, ◌+◌, ◌-◌, ◌*◌, ◌/◌}
use Rattle.std.proofs.lemmas.List.{take_rest}
use Rattle.xxh_sum.specs.Sums.{eights, by_eight, lane_at}
use Rattle.xxh_sum.proofs.Steps.{eights_more, eights_all}
use Rattle.xxh_sum.proofs.eights.Goals as goal

pub loop-i-preserved : goal.loop-i-preserved
loop-i-preserved c =
    let bytes = c.args.bytes.now in
    let i = c.loop-i.i in
    let n = length bytes / 8 in
    let is : c.by_eight-sum.result ≡ by_eight (lane_at 0 (drop (8 * i) bytes)) c.loop-i.sum =
    c.by_eight-sum.ensures ∙ ap (λ n. by_eight n c.loop-i.sum) (rw take_rest at c.read_u64.ensures) in
    ap (eights (n - (i + 1)) (drop (8 * (i + 1)) bytes)) is
    ∙ eights_more n i bytes c.loop-i.sum c.loop-i-test.true
    ∙ c.loop-i.invariant

pub returns : goal.returns
returns c =
    let bytes = c.args.bytes.now in
    sym (eights_all (length bytes / 8) c.loop-i.i (drop (8 * c.loop-i.i) bytes) c.loop-i.sum (omega (arith, c.loop-i-test.false)))
    ∙ c.loop-i.invariant
