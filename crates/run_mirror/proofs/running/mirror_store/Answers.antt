use Rattle.two_stores.specs.Sides.{pair_of}
use Rattle.mirror.specs.inside.Working.{mirror_rest}
use Rattle.run_mirror.proofs.Coming.{come-first, come-last}
use Rattle.run_mirror.proofs.running.mirror_store.Goals as goal

pub run_to_end-requires : goal.run_to_end-requires
run_to_end-requires g c = come-first c.mirror_law.ensures c.mirrored_trees_law.ensures c.fair_law.ensures (pair_of (g.S.Viewed.view c.args.from.now) (g.T.Viewed.view c.args.to.now)) (mirror_rest c.new-mirror.result) c.new-mirror.ensures

pub returns : goal.returns
returns g c = come-last (pair_of (g.S.Viewed.view c.args.from.now) (g.T.Viewed.view c.args.to.now)) (pair_of (g.S.Viewed.view c.run_to_end.new.from) (g.T.Viewed.view c.run_to_end.new.to)) c.into_end.result (mirror_rest c.run_to_end.new.mirror) c.into_end.ensures c.run_to_end.ensures.came
