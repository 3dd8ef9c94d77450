-- A step of a collection is a step of its task.
use Rattle.std.proofs.Common.{◌≡◌, refl, ap, false, ℕ, Result, Ok, Err}
use Rattle.store_api.specs.declared.machines.Refusal.{Refusal}
use Rattle.store_api.specs.Callers.{View}
use Rattle.store_api.specs.Plays.{Play, Comes, Acts, dooms, ended_as}
use Rattle.cleanup_reports.specs.declared.removed.Removed.{Removed}
use Rattle.chunk_gc.specs.declared.standing.Collected.{Collected}
use Rattle.chunk_gc.specs.Plays.{refused_by_fault, tells_failure}
use Rattle.play_outcome.specs.declared.outcome.Outcome.{Outcome}
use Rattle.play_outcome.specs.Ending.{end_failed, is_failed}
use Rattle.play_collect.specs.Playing.{end_by, outcome_of, collect_task}
use Rattle.store_api.proofs.Ended.{acts-as}

-- the task's outcome tells a fault of the store where the collection's does
same-fault : (line : ℕ) (removed : Removed) (result : Result (Unit {0}) Refusal) → end_failed (end_by line removed result) ≡ refused_by_fault result
same-fault line removed (Ok done) = refl
same-fault line removed (Err why) = refl

pub task-acts : (line : ℕ) (old new : View) (p q : Play Collected) → Acts tells_failure old new p q → Acts is_failed old new (ended_as (outcome_of line) p) (ended_as (outcome_of line) q)
task-acts line old new p q acts = acts-as (outcome_of line) tells_failure is_failed (λ c. same-fault line c.removed c.result) old new p q acts

-- a task's play begins with an operation, and has come to itself
pub task-begun : (line cutoff : ℕ) (q : Play Outcome) → q ≡ collect_task line cutoff → Comes (collect_task line cutoff) q
task-begun line cutoff q e = e

-- where memory is wanting before it has begun, it tells that, and no fault of the store
pub task-calm : (line cutoff : ℕ) (q : Play Outcome) → Comes (collect_task line cutoff) q → dooms is_failed q ≡ false
task-calm line cutoff q c = ap (dooms is_failed) c
