use Rattle.std.proofs.Common.{◌<◌, ◌++◌, ℕ, List, sym, ap, subst, ◌∙◌, map, length, arith}
use Rattle.std.specs.Prelude.{All}
use Rattle.play_script.specs.Well.{IsWellTurn}
use Rattle.store_api.specs.Plays.{Play}
use Rattle.play_outcome.specs.declared.outcome.Outcome.{Outcome}
use Rattle.play_tasks.specs.declared.worker.Worker.{Worker}
use Rattle.play_tasks.specs.Workers.{worker_rest}
use Rattle.play_tasks.specs.Tasks.{HasEndedAt}
use Rattle.play_run.proofs.Rounds.{workers_size, went_size, begins, written_back, ended_all, ends_of, ran_all, told_all, blamed_all, size_all}
use Rattle.play_run.specs.Order.{places_of, turns_of, Begin}
use Rattle.play_run.specs.inside.Going.{Went}
use Rattle.play_run.proofs.run.run_tasks.Goals as goal

pub run_workers-requires-clause-within : goal.run_workers-requires-clause-within
run_workers-requires-clause-within g c =
    let size = ap length c.deref_mut.ensures.value ∙ workers_size c.args.draw c.args.tasks.now c.in_ok-workers.workers.items c.in_ok-workers.ensures in
    subst (λ (n : ℕ). All (IsWellTurn n) c.args.turns.now) (sym size) c.requires.turns

pub run_workers-requires-clause-small : goal.run_workers-requires-clause-small
run_workers-requires-clause-small g c =
    let size = ap length c.deref_mut.ensures.value ∙ workers_size c.args.draw c.args.tasks.now c.in_ok-workers.workers.items c.in_ok-workers.ensures in
    subst (λ (n : ℕ). n < 4294967295) (sym size) c.requires.small

pub run_workers-requires-clause-stand : goal.run_workers-requires-clause-stand
run_workers-requires-clause-stand g c =
    begins c.task_law.ensures c.args.draw c.args.tasks.now (g.S.Viewed.view c.args.store.now) (map worker_rest c.deref_mut.result.now) c.requires.tasks (subst (λ (ws : List Worker). Begin c.args.draw c.args.tasks.now (map worker_rest ws)) (sym c.deref_mut.ensures.value) c.in_ok-workers.ensures)

pub take_outcomes-requires-clause-room : goal.take_outcomes-requires-clause-room
take_outcomes-requires-clause-room g c =
    let same = went_size _ _ _ _ _ c.run_workers.ensures.went.1 ∙ ap length c.deref_mut.ensures.value in
    let back = written_back c.in_ok-workers.workers.len c.run_workers.new.workers c.in_ok-workers.workers.items same c.in_ok-workers.workers.ok.0 in
    let size = ap length back ∙ same ∙ workers_size c.args.draw c.args.tasks.now c.in_ok-workers.workers.items c.in_ok-workers.ensures in
    omega (arith, size, c.in_ok-outcomes.ensures.capacity)

pub take_outcomes-requires-clause-ended : goal.take_outcomes-requires-clause-ended
take_outcomes-requires-clause-ended g c =
    let same = went_size _ _ _ _ _ c.run_workers.ensures.went.1 ∙ ap length c.deref_mut.ensures.value in
    let back = written_back c.in_ok-workers.workers.len c.run_workers.new.workers c.in_ok-workers.workers.items same c.in_ok-workers.workers.ok.0 in
    subst (λ (ws : List Worker). (place : ℕ) → HasEndedAt place (map worker_rest ws)) (sym back) (ended_all c.run_workers.new.workers c.run_workers.ensures.ended)

pub returns-clause-ran : goal.returns-clause-ran
returns-clause-ran g c =
    let same = went_size _ _ _ _ _ c.run_workers.ensures.went.1 ∙ ap length c.deref_mut.ensures.value in
    let back = written_back c.in_ok-workers.workers.len c.run_workers.new.workers c.in_ok-workers.workers.items same c.in_ok-workers.workers.ok.0 in
    let whole : (counts : List ℕ) × Went (places_of c.args.turns.now ++ turns_of 0 counts) (g.S.Viewed.view c.args.store.now) (g.S.Viewed.view c.run_workers.new.store) (map worker_rest c.deref_mut.result.now) (ends_of c.take_outcomes.new.outcomes.items) = (c.run_workers.ensures.went.0, subst (λ (ps : List (Play Outcome)). Went (places_of c.args.turns.now ++ turns_of 0 c.run_workers.ensures.went.0) (g.S.Viewed.view c.args.store.now) (g.S.Viewed.view c.run_workers.new.store) (map worker_rest c.deref_mut.result.now) ps) (sym (c.take_outcomes.ensures ∙ ap (map worker_rest) back)) c.run_workers.ensures.went.1) in
    let first = subst (λ (ws : List Worker). Begin c.args.draw c.args.tasks.now (map worker_rest ws)) (sym c.deref_mut.ensures.value) c.in_ok-workers.ensures in
    ran_all c.task_law.ensures c.args.draw c.args.tasks.now (places_of c.args.turns.now) (g.S.Viewed.view c.args.store.now) (g.S.Viewed.view c.run_workers.new.store) (map worker_rest c.deref_mut.result.now) c.take_outcomes.new.outcomes.items c.requires.tasks first whole

pub returns-clause-told : goal.returns-clause-told
returns-clause-told g c =
    let same = went_size _ _ _ _ _ c.run_workers.ensures.went.1 ∙ ap length c.deref_mut.ensures.value in
    let back = written_back c.in_ok-workers.workers.len c.run_workers.new.workers c.in_ok-workers.workers.items same c.in_ok-workers.workers.ok.0 in
    let whole : (counts : List ℕ) × Went (places_of c.args.turns.now ++ turns_of 0 counts) (g.S.Viewed.view c.args.store.now) (g.S.Viewed.view c.run_workers.new.store) (map worker_rest c.deref_mut.result.now) (ends_of c.take_outcomes.new.outcomes.items) = (c.run_workers.ensures.went.0, subst (λ (ps : List (Play Outcome)). Went (places_of c.args.turns.now ++ turns_of 0 c.run_workers.ensures.went.0) (g.S.Viewed.view c.args.store.now) (g.S.Viewed.view c.run_workers.new.store) (map worker_rest c.deref_mut.result.now) ps) (sym (c.take_outcomes.ensures ∙ ap (map worker_rest) back)) c.run_workers.ensures.went.1) in
    let first = subst (λ (ws : List Worker). Begin c.args.draw c.args.tasks.now (map worker_rest ws)) (sym c.deref_mut.ensures.value) c.in_ok-workers.ensures in
    told_all c.task_law.ensures c.args.draw c.args.tasks.now (places_of c.args.turns.now) (g.S.Viewed.view c.args.store.now) (g.S.Viewed.view c.run_workers.new.store) (map worker_rest c.deref_mut.result.now) c.take_outcomes.new.outcomes.items c.requires.tasks first whole

pub returns-clause-size : goal.returns-clause-size
returns-clause-size g c =
    let same = went_size _ _ _ _ _ c.run_workers.ensures.went.1 ∙ ap length c.deref_mut.ensures.value in
    let back = written_back c.in_ok-workers.workers.len c.run_workers.new.workers c.in_ok-workers.workers.items same c.in_ok-workers.workers.ok.0 in
    let whole : (counts : List ℕ) × Went (places_of c.args.turns.now ++ turns_of 0 counts) (g.S.Viewed.view c.args.store.now) (g.S.Viewed.view c.run_workers.new.store) (map worker_rest c.deref_mut.result.now) (ends_of c.take_outcomes.new.outcomes.items) = (c.run_workers.ensures.went.0, subst (λ (ps : List (Play Outcome)). Went (places_of c.args.turns.now ++ turns_of 0 c.run_workers.ensures.went.0) (g.S.Viewed.view c.args.store.now) (g.S.Viewed.view c.run_workers.new.store) (map worker_rest c.deref_mut.result.now) ps) (sym (c.take_outcomes.ensures ∙ ap (map worker_rest) back)) c.run_workers.ensures.went.1) in
    let first = subst (λ (ws : List Worker). Begin c.args.draw c.args.tasks.now (map worker_rest ws)) (sym c.deref_mut.ensures.value) c.in_ok-workers.ensures in
    size_all c.task_law.ensures c.args.draw c.args.tasks.now (places_of c.args.turns.now) (g.S.Viewed.view c.args.store.now) (g.S.Viewed.view c.run_workers.new.store) (map worker_rest c.deref_mut.result.now) c.take_outcomes.new.outcomes.items c.requires.tasks first whole

pub returns-clause-blames : goal.returns-clause-blames
returns-clause-blames g c =
    let same = went_size _ _ _ _ _ c.run_workers.ensures.went.1 ∙ ap length c.deref_mut.ensures.value in
    let back = written_back c.in_ok-workers.workers.len c.run_workers.new.workers c.in_ok-workers.workers.items same c.in_ok-workers.workers.ok.0 in
    let whole : (counts : List ℕ) × Went (places_of c.args.turns.now ++ turns_of 0 counts) (g.S.Viewed.view c.args.store.now) (g.S.Viewed.view c.run_workers.new.store) (map worker_rest c.deref_mut.result.now) (ends_of c.take_outcomes.new.outcomes.items) = (c.run_workers.ensures.went.0, subst (λ (ps : List (Play Outcome)). Went (places_of c.args.turns.now ++ turns_of 0 c.run_workers.ensures.went.0) (g.S.Viewed.view c.args.store.now) (g.S.Viewed.view c.run_workers.new.store) (map worker_rest c.deref_mut.result.now) ps) (sym (c.take_outcomes.ensures ∙ ap (map worker_rest) back)) c.run_workers.ensures.went.1) in
    let first = subst (λ (ws : List Worker). Begin c.args.draw c.args.tasks.now (map worker_rest ws)) (sym c.deref_mut.ensures.value) c.in_ok-workers.ensures in
    blamed_all c.task_law.ensures c.args.draw c.args.tasks.now (places_of c.args.turns.now) (g.S.Viewed.view c.args.store.now) (g.S.Viewed.view c.run_workers.new.store) (map worker_rest c.deref_mut.result.now) c.take_outcomes.new.outcomes.items c.requires.tasks first whole
