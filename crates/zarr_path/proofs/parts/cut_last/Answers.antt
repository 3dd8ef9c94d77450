use Rattle.zarr_path.proofs.PartLaws.{cut_last_parts, cut_last_before}
use Rattle.zarr_path.proofs.parts.cut_last.Goals as goal

pub returns-clause-parts : goal.returns-clause-parts
returns-clause-parts c = cut_last_parts c.args.text.now c.rsplit_once.result c.rsplit_once.ensures.cases

pub returns-clause-before : goal.returns-clause-before
returns-clause-before c = cut_last_before c.args.text.now c.rsplit_once.result c.rsplit_once.ensures.cases
