use Rattle.std.proofs.Common.{◌∙◌}
use Rattle.std.proofs.lemmas.Bool.{iff_false}
use Rattle.zarr_path.proofs.KeyTests.{number_of-dressed, number_of-parsed}
use Rattle.zarr_path.proofs.keys.number_of.Goals as goal

pub returns-then-is_dressed : goal.returns-then-is_dressed
returns-then-is_dressed c = number_of-dressed c.args.part.now (c.is_dressed.ensures.0 c.if-is_dressed.true)

pub returns : goal.returns
returns c = c.ok.ensures.value ∙ number_of-parsed c.args.part.now c.parse.result (iff_false c.is_dressed.ensures c.if-is_dressed.false) c.parse.ensures.value.0
