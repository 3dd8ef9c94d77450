use Rattle.zarr_path.proofs.KeyTests.{front-found}
use Rattle.zarr_path.proofs.keys.front_of.Goals as goal

pub returns-in-Some : goal.returns-in-Some
returns-in-Some c = front-found c.args.path.now c.in-Some.names.now c.with_slash.result c.in-Some.ensures c.with_slash.ensures
