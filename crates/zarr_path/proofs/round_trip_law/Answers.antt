use Rattle.zarr_path.proofs.KeyLaws.{round_trip}
use Rattle.zarr_path.proofs.round_trip_law.Goals as goal

pub returns : goal.returns
returns c = round_trip
