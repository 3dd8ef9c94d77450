use Rattle.std.proofs.Common.{subst, inr, refl, Result}
use Rattle.snapshot_file.specs.declared.snapshot.SnapshotFile.{SnapshotFile}
use Rattle.check_reports.specs.declared.faults.FaultKind.{FaultKind}
use Rattle.store_api.specs.Plays.{Comes, Or}
use Rattle.repo_check.specs.Plays.{starved, after_snapshot, walk, walks}
use Rattle.repo_check.specs.inside.Working.{checking_rest}
use Rattle.repo_check.proofs.course.Course.on_snapshot.Goals as goal

pub returns-in-Ok-clause-comes : goal.returns-in-Ok-clause-comes
returns-in-Ok-clause-comes c =
    let s = c.args.self.now in
    subst (λ (seen : Result SnapshotFile FaultKind). Comes (Or (after_snapshot (walk s.left (walks s.roots)) c.args.id s.work (walks s.roots) seen) (starved s.work)) (checking_rest c.enter_snapshot.result c.enter_snapshot.new.self))
    c.in-Ok.ensures c.enter_snapshot.ensures.comes

pub returns-in-Err-clause-comes : goal.returns-in-Err-clause-comes
returns-in-Err-clause-comes c = inr refl
