use Rattle.std.proofs.Common.{◌≡◌, length, arith, sym, ◌∙◌}
use Rattle.std.proofs.lemmas.Bool.Decides.{nat_tests}
use Rattle.play_script.proofs.NextLine.{no_line}
use Rattle.play_script.proofs.heads.has_line.Goals as goal

pub returns : goal.returns
returns c =
    let none : length c.loop-left.left.now ≡ 0 = grind (arith, nat_tests) in
    sym (no_line c.loop-left.left.now none) ∙ c.loop-left.invariant
