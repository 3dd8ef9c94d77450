use Rattle.std.proofs.Common.{sym, subst, List, map, take, ◌+◌}
use Rattle.ice_ids.specs.declared.drawing.AnyIds.{AnyIds}
use Rattle.store_api.specs.Plays.{Comes}
use Rattle.play_tasks.specs.declared.worker.Worker.{Worker}
use Rattle.play_tasks.specs.Playing.{task_play}
use Rattle.play_tasks.specs.Workers.{worker_rest}
use Rattle.play_run.specs.Order.{Begin}
use Rattle.play_run.proofs.Rounds.{worker_more, all_workers}
use Rattle.play_run.proofs.workers.workers_for.Goals as goal

pub loop-place-init : goal.loop-place-init
loop-place-init c = subst (λ (ws : List Worker). Begin c.args.draw (take 0 c.args.tasks.now) (map worker_rest ws)) (sym c.new-workers.ensures.items) tt

pub loop-place-preserved : goal.loop-place-preserved
loop-place-preserved c =
    let x = c.in_ok-worker.worker in
    let place = c.loop-place.place in
    let own = subst (λ (ids : AnyIds). Comes (task_play ids c.index-tasks-place.result) (worker_rest x)) c.ids.ensures c.in_ok-worker.ensures in
    subst (λ (ws : List Worker). Begin c.args.draw (take (place + 1) c.args.tasks.now) (map worker_rest ws)) (sym c.in_ok-push.ensures.items)
    (worker_more c.args.draw c.args.tasks.now place c.index-tasks-place.result c.loop-place.workers.items x c.loop-place-test.true c.index-tasks-place.is c.loop-place.invariant own)

pub returns : goal.returns
returns c = all_workers c.args.draw c.args.tasks.now c.loop-place.place (map worker_rest c.loop-place.workers.items) c.loop-place-test.false c.loop-place.auto.place-end c.loop-place.invariant
