use Rattle.run_mirror.proofs.running.finish.Goals as goal

pub returns : goal.returns
returns g c = record { unwritten = c.finish-unwritten.result; wrote = c.finish-unwritten.ensures _ _ _ c.requires c.add_mirror.ensures; status_is = c.status_of.ensures }
