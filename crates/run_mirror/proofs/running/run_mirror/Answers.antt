use Rattle.std.proofs.Common.{refl, inl, inr}
use Rattle.run_mirror.proofs.running.run_mirror.Goals as goal

pub returns-in-Err : goal.returns-in-Err
returns-in-Err g c = inr (record { status_is = refl; still = refl; unwritten = refl })

pub returns : goal.returns
returns g c = inl (record { end = c.mirror_store-end.result; mirrored = c.mirror_store-end.ensures; told = c.finish-status.ensures })
