use Rattle.std.proofs.Common.{ap, arith, sym}
use Rattle.script_values.proofs.Cuts.{cut_at, cut_whole}
use Rattle.script_values.proofs.words.first_word.Goals as goal

pub returns-then-byte-eq32 : goal.returns-then-byte-eq32
returns-then-byte-eq32 c = sym (cut_at 32 c.args.line.now c.loop-i.i (omega (arith, c.loop-i-test.true)) c.if-byte-eq32.true c.loop-i.invariant)

pub returns : goal.returns
returns c = ap (λ p. p.0) (sym (cut_whole 32 c.args.line.now (λ k h. c.loop-i.invariant k (omega (arith, h, c.loop-i-test.false)))))
