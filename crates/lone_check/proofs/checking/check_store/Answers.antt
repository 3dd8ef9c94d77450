use Rattle.std.proofs.Common.{ap, subst}
use Rattle.store_api.specs.Callers.{View}
use Rattle.store_api.specs.Plays.{Play}
use Rattle.play_outcome.specs.declared.outcome.Outcome.{Outcome}
use Rattle.play_check.specs.Workers.{checking_rest}
use Rattle.lone_check.specs.inside.Going.{Came}
use Rattle.lone_check.proofs.Coming.{come-first, come-last}
use Rattle.lone_check.proofs.checking.check_store.Goals as goal

pub run_to_end-requires : goal.run_to_end-requires
run_to_end-requires g c =
    come-first c.check_task_law.ensures (g.S.Viewed.view c.set_client.new.self) (checking_rest c.new-worker.result) (ap (λ (v : View). v.caller.number) c.set_client.ensures) c.new-worker.ensures

pub returns : goal.returns
returns g c =
    come-last (g.S.Viewed.view c.args.store.now) (g.S.Viewed.view c.set_client.new.self) (g.S.Viewed.view c.run_to_end.new.store) c.into_outcome.result c.set_client.ensures
    (subst (λ (p : Play Outcome). Came (g.S.Viewed.view c.set_client.new.self) (g.S.Viewed.view c.run_to_end.new.store) p) c.into_outcome.ensures c.run_to_end.ensures.came)
