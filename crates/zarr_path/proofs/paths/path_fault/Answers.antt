use Rattle.std.proofs.Common.{arith}
use Rattle.zarr_path.proofs.FaultLaws.{relative}
use Rattle.zarr_path.proofs.paths.path_fault.Goals as goal

pub returns-in_default : goal.returns-in_default
returns-in_default c = relative c.args.text.now (omega arith) c.in_default.ensures.cases
