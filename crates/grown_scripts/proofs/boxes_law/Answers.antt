use Rattle.grown_scripts.proofs.Boxes.{boxes_law}
use Rattle.grown_scripts.proofs.boxes_law.Goals as goal

pub returns : goal.returns
returns c = boxes_law
