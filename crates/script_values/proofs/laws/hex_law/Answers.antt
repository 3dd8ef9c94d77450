use Rattle.script_values.proofs.HexTexts.{hex_law}
use Rattle.script_values.proofs.laws.hex_law.Goals as goal

pub returns : goal.returns
returns c = hex_law
