use Rattle.std.proofs.Common.{arith}
use Rattle.play_script.proofs.WellRead.{read_well}
use Rattle.play_script.proofs.scripts.Script.read.Goals as goal

pub returns-clause-well : goal.returns-clause-well
returns-clause-well c = read_well c.args.text.now c.lines_in.result (omega arith) c.lines_in.ensures
