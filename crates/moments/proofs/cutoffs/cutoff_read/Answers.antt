use Rattle.std.proofs.Common.{lit<, None}
use Rattle.std.proofs.lemmas.Str.Pattern.{strip_prefix_char}
use Rattle.moments.proofs.Head.{by_number}
use Rattle.moments.proofs.cutoffs.cutoff_read.Goals as goal

pub returns-in-None : goal.returns-in-None
returns-in-None c =
    by_number c.args.text.now c.number_read.result (strip_prefix_char 64 c.args.text.now None c.in-None.ensures.cases (lit< tt)) c.number_read.ensures
