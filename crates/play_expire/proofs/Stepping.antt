-- A step of an expiry is a step of its task.
use Rattle.std.proofs.Common.{◌≡◌, refl, ap, false, ℕ, List, Result, Ok, Err}
use Rattle.store_api.specs.declared.machines.Refusal.{Refusal}
use Rattle.store_api.specs.Callers.{View}
use Rattle.store_api.specs.Plays.{Play, Comes, Acts, dooms, ended_as}
use Rattle.cleanup_reports.specs.declared.cases.RefCase.{RefCase}
use Rattle.expiry.specs.declared.terms.Terms.{Terms}
use Rattle.expiry.specs.declared.standing.Expired.{Expired}
use Rattle.expiry.specs.Plays.{refused_by_fault, tells_failure}
use Rattle.play_outcome.specs.declared.outcome.End.TheVariants as end
use Rattle.play_outcome.specs.declared.outcome.Outcome.{Outcome}
use Rattle.play_outcome.specs.Ending.{end_failed, is_failed}
use Rattle.play_expire.specs.Playing.{outcome_of, expire_task}
use Rattle.store_api.proofs.Ended.{acts-as}

-- the task's outcome tells a fault of the store where the expiry's does
same-fault : (line : ℕ) (cases : List RefCase) (result : Result (Unit {0}) Refusal) → end_failed (end.Expired line cases result) ≡ refused_by_fault result
same-fault line cases (Ok done) = refl
same-fault line cases (Err why) = refl

pub task-acts : (line : ℕ) (old new : View) (p q : Play Expired) → Acts tells_failure old new p q → Acts is_failed old new (ended_as (outcome_of line) p) (ended_as (outcome_of line) q)
task-acts line old new p q acts = acts-as (outcome_of line) tells_failure is_failed (λ e. same-fault line e.cases e.result) old new p q acts

-- a task's play begins with an operation, and has come to itself
pub expiry-begun : (line : ℕ) (terms : Terms) (q : Play Outcome) → q ≡ expire_task line terms → Comes (expire_task line terms) q
expiry-begun line terms q e = e

-- where memory is wanting before it has begun, it tells that, and no fault of the store
pub expiry-calm : (line : ℕ) (terms : Terms) (q : Play Outcome) → Comes (expire_task line terms) q → dooms is_failed q ≡ false
expiry-calm line terms q c = ap (dooms is_failed) c
