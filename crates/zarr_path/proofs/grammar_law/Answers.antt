use Rattle.zarr_path.proofs.GrammarLaws.{grammar}
use Rattle.zarr_path.proofs.grammar_law.Goals as goal

pub returns : goal.returns
returns c = grammar
