use Rattle.zarr_path.proofs.IndexLaws.{index_fits}
use Rattle.zarr_path.proofs.indices.numbers_fit.Goals as goal

pub returns : goal.returns
returns c = index_fits c.args.numbers.now (λ k. c.type_inv.numbers k)
