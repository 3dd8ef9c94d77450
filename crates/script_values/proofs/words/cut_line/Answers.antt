use Rattle.std.proofs.Common.{arith}
use Rattle.script_values.proofs.Cuts.{lines_slice, lines_whole}
use Rattle.script_values.proofs.words.cut_line.Goals as goal

pub returns-then-byte-eq10-clause-lines : goal.returns-then-byte-eq10-clause-lines
returns-then-byte-eq10-clause-lines c = lines_slice c.args.text.now c.loop-i.i (omega (arith, c.loop-i-test.true)) c.if-byte-eq10.true c.loop-i.invariant

pub returns-clause-lines : goal.returns-clause-lines
returns-clause-lines c = lines_whole c.args.text.now c.requires (λ k h. c.loop-i.invariant k (omega (arith, h, c.loop-i-test.false)))
