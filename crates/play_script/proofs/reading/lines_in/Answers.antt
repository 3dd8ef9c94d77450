use Rattle.std.proofs.Common.{◌≡◌, length, arith, sym, ◌∙◌}
use Rattle.std.proofs.lemmas.Bool.Decides.{nat_tests}
use Rattle.play_script.proofs.NextLine.{line_err, line_ok, no_lines}
use Rattle.play_script.proofs.reading.lines_in.Goals as goal

pub returns-in-Err : goal.returns-in-Err
returns-in-Err c = line_err _ _ _ _ _ _ _ _ c.loop-left.invariant.left c.cut_line.ensures.lines c.in_ok-script.ensures.value c.in-Err.is

pub loop-left-preserved : goal.loop-left-preserved
loop-left-preserved c = record {
  left = line_ok _ _ _ _ _ _ _ _ c.loop-left.invariant.left c.cut_line.ensures.lines c.in_ok-script.ensures.value c.in-Ok.is;
  names = rw c.in-Ok.is at c.in_ok-script.ensures.named;
  few = rw c.in-Ok.is at c.in_ok-script.ensures.few;
  counted = omega (arith, c.cut_line.ensures.shorter, c.loop-left.invariant.counted);
}

pub returns : goal.returns
returns c =
    let none : length c.loop-left.left.now ≡ 0 = grind (arith, nat_tests) in
    sym c.loop-left.invariant.left ∙ no_lines _ _ c.loop-left.left.now none
