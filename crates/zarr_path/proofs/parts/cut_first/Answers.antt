use Rattle.zarr_path.proofs.PartLaws.{cut_first_parts}
use Rattle.zarr_path.proofs.parts.cut_first.Goals as goal

pub returns-clause-parts : goal.returns-clause-parts
returns-clause-parts c = cut_first_parts c.args.text.now c.split_once.result c.split_once.ensures.cases
