use Rattle.std.proofs.Common.{◌<◌, ℕ, sym, subst, ◌∙◌, map, arith}
use Rattle.turn_cell.specs.Passes.{known}
use Rattle.shared_store.specs.Told.{told}
use Rattle.play_tasks.specs.Workers.{worker_rest}
use Rattle.play_run.proofs.Rounds.{workers_size}
use Rattle.play_at_once.proofs.Whole.{ran-whole, told-whole, size-whole, blamed-whole, CanGo-begin}
use Rattle.play_at_once.proofs.running.run_at_once.Goals as goal

pub run_crew-pass-requires-clause-small : goal.run_crew-pass-requires-clause-small
run_crew-pass-requires-clause-small g c κs within =
    let ws = c.in-Ok-workers_for.workers in
    let size = ws.ok.0 ∙ workers_size c.args.draw c.args.tasks.now ws.items c.in-Ok-workers_for.ensures in
    subst (λ (n : ℕ). n < 4294967295) (sym size) c.requires.small

pub run_crew-pass-requires-clause-room : goal.run_crew-pass-requires-clause-room
run_crew-pass-requires-clause-room g c κs within =
    let ws = c.in-Ok-workers_for.workers in
    let size = ws.ok.0 ∙ workers_size c.args.draw c.args.tasks.now ws.items c.in-Ok-workers_for.ensures in
    omega (arith, size, c.in-Ok.ensures.capacity)

pub run_crew-pass-requires-clause-stand : goal.run_crew-pass-requires-clause-stand
run_crew-pass-requires-clause-stand g c κs within =
    CanGo-begin c.args.draw c.args.tasks.now (map worker_rest c.in-Ok-workers_for.workers.items) c.in-Ok-workers_for.ensures c.task_law.ensures c.requires.tasks g.S.WholeStore.tells (known c.in-Ok-share.made.1).journal

pub returns-clause-ran : goal.returns-clause-ran
returns-clause-ran g c =
    ran-whole c.args.draw c.args.tasks.now (map worker_rest c.in-Ok-workers_for.workers.items) c.in-Ok-workers_for.ensures c.task_law.ensures c.requires.tasks (g.S.Viewed.view c.args.store).faults c.run_crew-pass.result.1.items (known c.run_crew-pass.result.0)
    (g.S.Viewed.view c.args.store).seen (g.S.Viewed.view c.unshare.result).seen g.S.WholeStore.tells (g.S.Viewed.view c.args.store).caller.tells ((g.met.S.WholeStore g.world.𝓛 g.world.𝓜 g.world.𝓡 ((λ s x. x), (λ x. x), (λ x. x), λ x. x)).told c.args.store) (known c.in-Ok-share.made.1) c.in-Ok-share.ensures.pass c.run_crew-pass.ensures.ran c.unshare.ensures.whole

pub returns-clause-told : goal.returns-clause-told
returns-clause-told g c =
    told-whole c.args.draw c.args.tasks.now (map worker_rest c.in-Ok-workers_for.workers.items) c.in-Ok-workers_for.ensures c.task_law.ensures c.requires.tasks (g.S.Viewed.view c.args.store).faults c.run_crew-pass.result.1.items (known c.run_crew-pass.result.0)
    (g.S.Viewed.view c.args.store).seen (g.S.Viewed.view c.unshare.result).seen g.S.WholeStore.tells (g.S.Viewed.view c.args.store).caller.tells ((g.met.S.WholeStore g.world.𝓛 g.world.𝓜 g.world.𝓡 ((λ s x. x), (λ x. x), (λ x. x), λ x. x)).told c.args.store) (known c.in-Ok-share.made.1) c.in-Ok-share.ensures.pass c.run_crew-pass.ensures.ran c.unshare.ensures.whole

pub returns-clause-size : goal.returns-clause-size
returns-clause-size g c =
    size-whole c.args.draw c.args.tasks.now (map worker_rest c.in-Ok-workers_for.workers.items) c.in-Ok-workers_for.ensures c.task_law.ensures c.requires.tasks (g.S.Viewed.view c.args.store).faults c.run_crew-pass.result.1.items (known c.run_crew-pass.result.0)
    (g.S.Viewed.view c.args.store).seen (g.S.Viewed.view c.unshare.result).seen g.S.WholeStore.tells (g.S.Viewed.view c.args.store).caller.tells ((g.met.S.WholeStore g.world.𝓛 g.world.𝓜 g.world.𝓡 ((λ s x. x), (λ x. x), (λ x. x), λ x. x)).told c.args.store) (known c.in-Ok-share.made.1) c.in-Ok-share.ensures.pass c.run_crew-pass.ensures.ran c.unshare.ensures.whole

pub returns-clause-blames : goal.returns-clause-blames
returns-clause-blames g c =
    blamed-whole c.args.draw c.args.tasks.now (map worker_rest c.in-Ok-workers_for.workers.items) c.in-Ok-workers_for.ensures c.task_law.ensures c.requires.tasks (g.S.Viewed.view c.args.store).faults c.run_crew-pass.result.1.items (known c.run_crew-pass.result.0)
    (g.S.Viewed.view c.args.store).seen (g.S.Viewed.view c.unshare.result).seen g.S.WholeStore.tells (g.S.Viewed.view c.args.store).caller.tells ((g.met.S.WholeStore g.world.𝓛 g.world.𝓜 g.world.𝓡 ((λ s x. x), (λ x. x), (λ x. x), λ x. x)).told c.args.store) (known c.in-Ok-share.made.1) c.in-Ok-share.ensures.pass c.run_crew-pass.ensures.ran c.unshare.ensures.whole
    (g.S.Viewed.view c.unshare.result).faults c.unshare.ensures.faults

pub returns-clause-tells : goal.returns-clause-tells
returns-clause-tells g c = (g.met.S.WholeStore g.world.𝓛 g.world.𝓜 g.world.𝓡 ((λ s x. x), (λ x. x), (λ x. x), λ x. x)).told c.unshare.result ∙ sym ((g.met.S.WholeStore g.world.𝓛 g.world.𝓜 g.world.𝓡 ((λ s x. x), (λ x. x), (λ x. x), λ x. x)).told c.args.store)
