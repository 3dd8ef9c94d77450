use Rattle.std.proofs.Common.{ap, bit_xor}
use Rattle.crc_sum.specs.Crc.{ones, check_by}
use Rattle.crc_sum.proofs.finish.Goals as goal

pub returns-clause-check : goal.returns-clause-check
unfolding check_by
returns-clause-check c = λ polynomial bytes e. ap (bit_xor ones) e
