use Rattle.std.proofs.Common.{sym, ap, ◌∙◌, arith, ◌+◌, ◌≤◌, length, drop}
use Rattle.crc_sum.specs.Crc.{remainder_behind}
use Rattle.crc_sum.proofs.Tables.{step_at, done_at}
use Rattle.crc_sum.proofs.rows.remainder_behind.Goals as goal

pub loop-byte-preserved : goal.loop-byte-preserved
loop-byte-preserved c = λ polynomial is.
    let rest = c.loop-rest.rest.now in
    ap (λ r. remainder_behind polynomial r (drop (c.loop-byte.byte-index + 1) rest)) (c.behind_one-remainder.ensures polynomial is)
    ∙ step_at rest c.loop-byte.byte-index polynomial c.loop-byte.remainder c.loop-byte-test.true
    ∙ c.loop-byte.invariant polynomial is

pub returns : goal.returns
returns c = λ polynomial is.
    let rest = c.loop-rest.rest.now in
    let all : length rest ≤ c.loop-byte.byte-index = omega (arith, c.loop-byte-test.false) in
    sym (done_at rest c.loop-byte.byte-index polynomial c.loop-byte.remainder all) ∙ c.loop-byte.invariant polynomial is
