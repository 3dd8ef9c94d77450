use Rattle.zarr_path.proofs.OrderLaws.{order}
use Rattle.zarr_path.proofs.order_law.Goals as goal

pub returns : goal.returns
returns c = order
