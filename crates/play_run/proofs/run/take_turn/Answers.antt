use Rattle.std.proofs.Common.{◌≡◌, ◌<◌, ℕ, List, Some, sym, ap, subst, ◌∙◌, map, get_or, refl, length}
use Rattle.std.proofs.lemmas.List.{map-set}
use Rattle.store_api.specs.Plays.{Play, IsLive}
use Rattle.play_outcome.specs.declared.outcome.Outcome.{Outcome}
use Rattle.play_tasks.specs.declared.worker.Worker.{Worker}
use Rattle.play_tasks.specs.Workers.{worker_rest, worker_left}
use Rattle.play_run.proofs.Places.{slice_get-place, same_place, left_set}
use Rattle.play_run.proofs.Turning.{polite_at, stepped_at}
use Rattle.play_run.proofs.run.take_turn.Goals as goal

live_at : (ws : List Worker) (t : ℕ) (x y : Worker) → t < length ws → x ≡ get_or ws t x → y ≡ get_or ws t y → IsLive (worker_rest (get_or ws t x)) → IsLive (worker_rest (get_or ws t y))
live_at ws t x y within is is' live =
    let first = subst (λ (w : Worker). IsLive (worker_rest w)) (sym is) live in
    let second = subst (λ (p : Play Outcome). IsLive p) (same_place worker_rest ws t x y within is is') first in
    subst (λ (w : Worker). IsLive (worker_rest w)) is' second

pub step-requires-clause-polite : goal.step-requires-clause-polite
step-requires-clause-polite g c =
    let x = c.index-workers-t-2.result in
    let at = slice_get-place worker_rest c.args.workers.now c.args.t x c.requires.within c.index-workers-t-2.is in
    polite_at (g.S.Viewed.view c.args.store.now) (g.S.Viewed.view c.set_client.new.self) c.args.t (map worker_rest c.args.workers.now) (worker_rest (get_or c.args.workers.now c.args.t x)) c.set_client.ensures c.requires.stand (at ∙ ap (λ (w : Worker). Some (worker_rest w)) c.index-workers-t-2.is)

pub returns-clause-took : goal.returns-clause-took
returns-clause-took g c =
    let x = c.index-workers-t-2.result in
    let at = slice_get-place worker_rest c.args.workers.now c.args.t x c.requires.within c.index-workers-t-2.is in
    stepped_at (g.S.Viewed.view c.args.store.now) (g.S.Viewed.view c.set_client.new.self) (g.S.Viewed.view c.step.new.store) c.args.t (map worker_rest c.args.workers.now) (worker_rest (get_or c.args.workers.now c.args.t x)) (worker_rest c.step.new.self)
    c.set_client.ensures (g.met.S.WholeStore.alone c.args.store.now) (at ∙ ap (λ (w : Worker). Some (worker_rest w)) c.index-workers-t-2.is) (live_at c.args.workers.now c.args.t c.index-workers-t.result x c.requires.within c.index-workers-t.is c.index-workers-t-2.is (c.if-has_ended.ensures.live refl)) c.step.ensures.acts _ (map-set worker_rest c.args.workers.now c.args.t c.step.new.self)

pub returns-clause-falls : goal.returns-clause-falls
returns-clause-falls g c = λ went.
    let x = c.index-workers-t-2.result in
    left_set c.args.workers.now c.args.t x c.step.new.self c.requires.within c.index-workers-t-2.is (subst (λ (w : Worker). worker_left c.step.new.self < worker_left w) (sym c.index-workers-t-2.is) c.step.ensures.falls)
