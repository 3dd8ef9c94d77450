-- A step of a check is a step of its task.
use Rattle.std.proofs.Common.{◌≡◌, refl, ap, false, ℕ, List, Result, Ok, Err}
use Rattle.store_api.specs.declared.machines.Refusal.{Refusal}
use Rattle.store_api.specs.Callers.{View}
use Rattle.store_api.specs.Plays.{Play, Comes, Acts, dooms, ended_as}
use Rattle.check_reports.specs.declared.faults.CheckFault.{CheckFault}
use Rattle.check_reports.specs.declared.faults.Checked.{Checked}
use Rattle.repo_check.specs.declared.standing.CheckReport.{CheckReport}
use Rattle.repo_check.specs.Plays.{refused_by_fault, tells_failure}
use Rattle.play_outcome.specs.declared.outcome.End.TheVariants as end
use Rattle.play_outcome.specs.declared.outcome.Outcome.{Outcome}
use Rattle.play_outcome.specs.Ending.{end_failed, is_failed}
use Rattle.play_check.specs.Playing.{outcome_of, check_task}
use Rattle.store_api.proofs.Ended.{acts-as}

-- the task's outcome tells a fault of the store where the check's does
same-fault : (line : ℕ) (faults : List CheckFault) (result : Result Checked Refusal) → end_failed (end.Checked line faults result) ≡ refused_by_fault result
same-fault line faults (Ok counts) = refl
same-fault line faults (Err why) = refl

pub task-acts : (line : ℕ) (old new : View) (p q : Play CheckReport) → Acts tells_failure old new p q → Acts is_failed old new (ended_as (outcome_of line) p) (ended_as (outcome_of line) q)
task-acts line old new p q acts = acts-as (outcome_of line) tells_failure is_failed (λ r. same-fault line r.faults r.result) old new p q acts

-- a task's play begins with an operation, and has come to itself
pub check-begun : (line : ℕ) (q : Play Outcome) → q ≡ check_task line → Comes (check_task line) q
check-begun line q e = e

-- where memory is wanting before it has begun, it tells that, and no fault of the store
pub check-calm : (line : ℕ) (q : Play Outcome) → Comes (check_task line) q → dooms is_failed q ≡ false
check-calm line q c = ap (dooms is_failed) c
