use Rattle.std.proofs.Common.{None, arith}
use Rattle.std.proofs.lemmas.Str.Pattern.{strip_prefix_char}
use Rattle.script_values.proofs.Fills.{no_minus}
use Rattle.script_values.proofs.values.magnitude.Goals as goal

pub returns-in-None : goal.returns-in-None
returns-in-None c = no_minus c.args.word.now (strip_prefix_char 45 c.args.word.now None c.in-None.ensures.cases (omega arith))
