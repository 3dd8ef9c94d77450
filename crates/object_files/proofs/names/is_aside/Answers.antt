use Rattle.std.proofs.Common.{◌≡◌, ◌∙◌, sym, true, false}
use Rattle.std.proofs.lemmas.Bool.{iff_false}
use Rattle.object_files.proofs.Asides.{dressed, parsed}
use Rattle.object_files.proofs.names.is_aside.Goals as goal

pub returns-then-is_dressed : goal.returns-then-is_dressed
returns-then-is_dressed c = (λ yes. let bad : ◌≡◌ false true = yes in cc, λ aside. absurd (dressed c.args.name.now (c.is_dressed.ensures.0 c.if-is_dressed.true) aside))

pub returns : goal.returns
returns c =
    let iff = parsed c.args.name.now c.parse.result (iff_false c.is_dressed.ensures c.if-is_dressed.false) c.parse.ensures.value.0 in
    (λ yes. iff.0 (sym c.is_ok.ensures.value ∙ yes), λ aside. c.is_ok.ensures.value ∙ iff.1 aside)
