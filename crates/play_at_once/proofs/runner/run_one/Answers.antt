use Rattle.std.proofs.Common.{sym, subst}
use Rattle.turn_cell.specs.declared.pass.Token.{Token}
use Rattle.turn_cell.specs.Passes.{known}
use Rattle.shared_store.specs.Ports.{port_view}
use Rattle.store_api.specs.Plays.{Play}
use Rattle.play_outcome.specs.declared.outcome.Outcome.{Outcome}
use Rattle.play_tasks.specs.Workers.{worker_rest}
use Rattle.play_at_once.specs.inside.Stepping.{Went}
use Rattle.play_at_once.specs.inside.Forking.{RanOne}
use Rattle.play_at_once.proofs.Porting.{RanOne-went}
use Rattle.play_at_once.proofs.runner.run_one.Goals as goal

pub returns-clause-ran : goal.returns-clause-ran
returns-clause-ran g c =
    let port = c.port-port.result in
    let last = c.run_to_end.new.store in
    let ended = subst (λ (q : Play Outcome). Went c.args.place (port_view g.S.WholeStore.tells port.client port.pass) (port_view g.S.WholeStore.tells last.client last.pass) (worker_rest c.args.worker) q) c.into_outcome.ensures c.run_to_end.ensures.went in
    subst (λ (x : Token _ _). RanOne g.S.WholeStore.tells c.args.place (known c.args.pass) (known x) (worker_rest c.args.worker) c.into_outcome.result) (sym c.into_pass.ensures.pass)
    (subst (λ (x : Token _ _). RanOne g.S.WholeStore.tells c.args.place (known x) (known last.pass) (worker_rest c.args.worker) c.into_outcome.result) c.port-port.ensures.pass
    (RanOne-went g.S.WholeStore.tells c.args.place port.pass last.pass port.client last.client (worker_rest c.args.worker) c.into_outcome.result last.idle ended))
